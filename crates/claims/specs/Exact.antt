-- TO BELIEVE: what demand 3 compares with, from document 01's own paragraphs: nothing here knows of a state, a chain or a rounded figure. Definitions.
use Rattle.std.specs.Prelude.{ℕ, suc, ◌*◌, ◌^◌, Bool, false, cond, ◌||◌, List, [], ◌∷◌, leb}
use Rattle.rules.specs.declared.Rule.{Rule}
use Rattle.rules.specs.declared.RuleList.{RuleList}
use Rattle.rules.specs.Bounds.{zone_count}
use Rattle.runlength.specs.Sum.{only, sum_sequences, at}
use Rattle.runlength.specs.Automaton.{product}
use Rattle.runlength.specs.Scale.{weight_total, percents_per_one}
use Rattle.monitor.specs.Step.{fresh_monitor}
use Rattle.window.specs.ReferenceChart.{Answer, is_signal, row_mask, chart_by}
use Rattle.monitor.specs.Calls.{monitor_answers}

-- The plain chart, here refusing none, from a row: each zone is added to the row; then quiet with the row's length, or signal with its
-- length and the mask, and the row is emptied.
unfoldable pub free_answers : List Rule → List ℕ → List ℕ → List Answer
free_answers rs row [] = []
free_answers rs row (z ∷ zs) =
    (chart_by (row_mask rs (z ∷ row)) (z ∷ row)).answer ∷ free_answers rs (chart_by (row_mask rs (z ∷ row)) (z ∷ row)).row zs

-- signal at least once
unfoldable pub says_signal : List Answer → Bool
says_signal [] = false
says_signal (a ∷ rest) = is_signal a || says_signal rest

-- the number of the first signalling point, from 1; the length where there is none
unfoldable pub first_signal : List Answer → ℕ
first_signal [] = 0
first_signal (a ∷ rest) = cond (is_signal a) 1 (suc (first_signal rest))

-- The exact sum at n, over weight_total ^ n: each sequence of n zones on which the plain chart says signal at least once, by the product of its
-- weights.
unfoldable pub exact_sum : List Rule → List ℕ → ℕ → ℕ
exact_sum rs w n = sum_sequences zone_count n (λ q. only (says_signal (free_answers rs [] q)) (product (at w) q))

-- The mean of the run length cut at h, over weight_total ^ h: each sequence of h zones, its product times the number of its first signalling
-- point, or times h where there is none.
unfoldable pub exact_mean : List Rule → List ℕ → ℕ → ℕ
exact_mean rs w h = sum_sequences zone_count h (λ q. product (at w) q * first_signal (free_answers rs [] q))

-- Every sequence of n zones is fed to a fresh monitor, each call getting what the last one returned; the products of those that have
-- signalled are added up.
unfoldable pub monitor_sum : RuleList → List ℕ → ℕ → ℕ
monitor_sum l w n = sum_sequences zone_count n (λ q. only (says_signal (monitor_answers l fresh_monitor q)) (product (at w) q))

-- The same for the mean cut at h: each sequence's product times the number of the first point that the monitor signals at, or times h where
-- there is none.
unfoldable pub monitor_mean : RuleList → List ℕ → ℕ → ℕ
monitor_mean l w h = sum_sequences zone_count h (λ q. product (at w) q * first_signal (monitor_answers l fresh_monitor q))

-- The exact sum at n is at least p hundredths. The true percentile is the n with `Percentile (reached rs w p) n`, if there is one.
unfoldable pub reached : List Rule → List ℕ → ℕ → ℕ → Bool
reached rs w p n = leb (p * weight_total ^ n) (percents_per_one * exact_sum rs w n)

-- The sum of what a fresh monitor signals on is at least p hundredths.
unfoldable pub monitor_reached : RuleList → List ℕ → ℕ → ℕ → Bool
monitor_reached l w p n = leb (p * weight_total ^ n) (percents_per_one * monitor_sum l w n)
