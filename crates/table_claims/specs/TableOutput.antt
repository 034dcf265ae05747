-- TO BELIEVE: what the table program's printed bytes are claimed to be: one refusal line and its reason, or the lines of figures that demands 2 and 3
-- speak of. Definitions.
use Rattle.std.specs.Prelude.{ℕ, zero, suc, ◌+◌, ◌-◌, ◌*◌, ◌/◌, ◌^◌, ◌≤◌, ◌<◌, ◌≡◌, List, [], ◌∷◌, ◌++◌, length, Err, Ok}
use Rattle.rules.specs.declared.Rule.{Rule}
use Rattle.rules.specs.declared.refusal.Refusal.{Refusal}
use Rattle.rules.specs.Refusal.{place_of, number_of, bad_rule_count, bad_rule_bounds, bad_zone_set, bad_weights, bad_horizon, too_many_states, bad_line, too_long}
use Rattle.rules.specs.Numbers.{OneOf}
use Rattle.runlength.specs.Scale.{weight_total, units_per_one}
use Rattle.runlength.specs.Sum.{sum, tab}
use Rattle.runlength.specs.Chain.{pmf, cdf, survival, restricted_mean}
use Rattle.chain.specs.TableChain.{state_count, table_chain}
use Rattle.table.specs.Table.{chain_check}
use Rattle.bracket.specs.declared.Bracket.{Bracket}
use Rattle.bracket.specs.Bracket.{bracket_of}
use Rattle.bracket.specs.Contains.{BracketContains}
use Rattle.grammar.specs.Grammar.{Stops}
use Rattle.grammar.specs.Size.{max_text}
use Rattle.rule_lines.specs.Rules.{rule_list_of}
use Rattle.table_text.specs.TableGrammar.{table_grammar}
use Rattle.write.specs.Refused.{refused_line}
use Rattle.table_lines.specs.RowLine.{standings_line, header_line, row_line, arl_line}
use Rattle.table_lines.specs.PercentLine.{percent_line}
use Rattle.table_lines.specs.LargestHorizon.{max_rows, report_horizon}
use Rattle.claims.specs.Counted.{OneOfEach, CountsRows, NoneFewer}
use Rattle.claims.specs.ByRow.{row_chance, row_left, row_mean}
use Rattle.claims.specs.Exact.{exact_sum, exact_mean, reached}
use Rattle.table_claims.specs.TableTexts.{TableTextIs}

-- the numbers that a chart is refused by: 2, 3, 4; 8; 9; 10
abbrev pub chain_numbers : List ℕ
chain_numbers =
    number_of bad_rule_count ∷ number_of (bad_rule_bounds 0) ∷ number_of (bad_zone_set 0) ∷ number_of bad_weights ∷ number_of bad_horizon ∷ number_of (too_many_states 0) ∷ []

-- f 1, f 2, .., f h, one behind the other
unfoldable pub rows : ℕ → (ℕ → List ℕ) → List ℕ
rows zero f = []
rows (suc n) f = rows n f ++ f (suc n)

-- the five percentiles that are printed: their lines, and what holds of each
abbrev pub five_percents : (ℕ → List ℕ) → List ℕ
five_percents f = f 5 ++ f 25 ++ f 50 ++ f 75 ++ f 95

abbrev pub EachPercent : (ℕ → Type 0) → Type 0
EachPercent P = P 5 × P 25 × P 50 × P 75 × P 95

-- the numbers that a table prints: N, the columns of the rows by n, the arl line's three, and where each percentile lies
pub record Figures : Type 0 where
  pub count : ℕ
  pub pmf : ℕ → ℕ
  pub cdf : ℕ → ℕ
  pub survival : ℕ → ℕ
  pub whole : ℕ
  pub fraction : ℕ
  pub error_bound : ℕ
  pub bracket : ℕ → Bracket

-- all the lines of a table with h rows
unfoldable pub figure_lines : ℕ → Figures → List ℕ
figure_lines h f =
    standings_line f.count
    ++ header_line
    ++ rows h (λ n. row_line n (f.pmf n) (f.cdf n) (f.survival n))
    ++ arl_line f.whole f.fraction f.error_bound
    ++ five_percents (λ p. percent_line p (f.bracket p))

-- The numbers are document 01's figures for these weights, rules and horizon to the last unit, and they bound the exact ones.
pub record FiguresHold (w : List ℕ) (rs : List Rule) (h : ℕ) (f : Figures) : Type 0 where
  -- demand 2: the figures of the round-down steps
  pub states_are : f.count ≡ state_count rs
  pub pmf_is : (n : ℕ) → 1 ≤ n → n ≤ h → f.pmf n ≡ pmf (table_chain rs w) n
  pub cdf_is : (n : ℕ) → 1 ≤ n → n ≤ h → f.cdf n ≡ cdf (table_chain rs w) n
  pub survival_is : (n : ℕ) → 1 ≤ n → n ≤ h → f.survival n ≡ survival (table_chain rs w) n
  pub mean_is : f.whole * units_per_one + f.fraction ≡ restricted_mean (table_chain rs w) h
  pub fraction_below : f.fraction < units_per_one
  pub error_is : f.error_bound ≡ f.count * h * (h - 1) / 2
  -- demand 3: the chance by n in the row n never exceeds the exact sum, and falls short of it by less than n × (N + 1) units
  pub cdf_bounds : (n : ℕ) → 1 ≤ n → n ≤ h
      → (f.cdf n * weight_total ^ n ≤ exact_sum rs w n * units_per_one)
      × (exact_sum rs w n * units_per_one < (f.cdf n + n * (f.count + 1)) * weight_total ^ n)
  -- the exact mean is at or above the arl line's whole and fraction, by at most its error bound
  pub mean_bounds : ((f.whole * units_per_one + f.fraction) * weight_total ^ h ≤ exact_mean rs w h * units_per_one)
      × (exact_mean rs w h * units_per_one ≤ (f.whole * units_per_one + f.fraction + f.error_bound) * weight_total ^ h)
  -- each q line contains the true percentile
  pub contains : EachPercent (λ p. BracketContains (reached rs w p) (f.bracket p))

-- The numbers are those of the round-down steps over rows of the plain chart, one of each future.
pub record RowFigures (w : List ℕ) (rs : List Rule) (h : ℕ) (f : Figures) (rows : ℕ → List ℕ) : Type 0 where
  pub chance : (n : ℕ) → n < h → f.pmf (suc n) ≡ row_chance rs rows f.count w n
  pub by : (n : ℕ) → 1 ≤ n → n ≤ h → f.cdf n ≡ sum n (row_chance rs rows f.count w)
  pub left : (n : ℕ) → n < h → f.survival (suc n) ≡ row_left rs rows f.count w (suc n)
  pub mean : f.whole * units_per_one + f.fraction ≡ row_mean rs rows f.count w h

-- The same, with each figure said over rows of the plain chart, whichever rows are taken, and each bracket as that of the printed chances.
pub record FiguresHoldByRow (w : List ℕ) (rs : List Rule) (h : ℕ) (f : Figures) : Type 1 where
  -- N is the number of different futures of the plain chart, and no chart that first signals on the same sequences has fewer states
  pub counts : CountsRows rs f.count
  pub none_fewer : NoneFewer rs f.count
  -- demand 2: the columns and the mean are those of the round-down steps, whichever rows are taken
  pub by_row : (rows : ℕ → List ℕ) → OneOfEach rs rows f.count → RowFigures w rs h f rows
  pub fraction_below : f.fraction < units_per_one
  pub error_is : f.error_bound ≡ f.count * h * (h - 1) / 2
  -- by and left of each row are together never over probability one, and short of it by at most n × N units
  pub mass_kept : (n : ℕ) → 1 ≤ n → n ≤ h
      → (f.cdf n + f.survival n ≤ units_per_one) × (units_per_one ≤ f.cdf n + f.survival n + n * f.count)
  -- demand 3: the chance by n in the row n never exceeds the exact sum, and falls short of it by less than n × (N + 1) units
  pub cdf_bounds : (n : ℕ) → 1 ≤ n → n ≤ h
      → (f.cdf n * weight_total ^ n ≤ exact_sum rs w n * units_per_one)
      × (exact_sum rs w n * units_per_one < (f.cdf n + n * (f.count + 1)) * weight_total ^ n)
  -- the exact mean is at or above the arl line's whole and fraction, by at most its error bound
  pub mean_bounds : ((f.whole * units_per_one + f.fraction) * weight_total ^ h ≤ exact_mean rs w h * units_per_one)
      × (exact_mean rs w h * units_per_one ≤ (f.whole * units_per_one + f.fraction + f.error_bound) * weight_total ^ h)
  -- each q line is the bracket of exactly the printed chances with the printed N, and it contains the true percentile
  pub brackets_are : EachPercent (λ p. bracket_of (tab h (λ k. f.pmf (suc k))) f.count p ≡ Ok (f.bracket p))
  pub contains : EachPercent (λ p. BracketContains (reached rs w p) (f.bracket p))

-- why a table text is refused, with the number and the place: the text itself, 17 or 16; or its rules, weights and horizon, the first number
-- of the table operation's that applies
pub data TableRefusal (s : List ℕ) : ℕ → ℕ → Type 0 where
  too_long_lem : max_text < length s → TableRefusal s (number_of too_long) 0
  bad_line_lem : (place : ℕ) → length s ≤ max_text → Stops table_grammar s place → TableRefusal s (number_of (bad_line place)) place
  bad_table : (w : List ℕ) (rs : List Rule) (h : ℕ) (x : Refusal) → TableTextIs s w rs h
      → chain_check (rule_list_of rs) w (report_horizon h) ≡ Err x
      → OneOf chain_numbers (number_of x) → TableRefusal s (number_of x) (place_of x)

-- what the table program prints for the text s
pub data TableProgram (s : List ℕ) (printed : List ℕ) : Type 0 where
  -- one refusal line, and the reason holds of the text
  refuses : (number place : ℕ) → printed ≡ refused_line number place → TableRefusal s number place → TableProgram s printed
  -- the lines of figures that hold of the weights, rules and horizon whose lines the text is
  prints : (w : List ℕ) (rs : List Rule) (h : ℕ) (f : Figures) → TableTextIs s w rs h
      → h ≤ max_rows → chain_check (rule_list_of rs) w h ≡ Ok tt
      → printed ≡ figure_lines h f → FiguresHold w rs h f → TableProgram s printed

-- the same, with the figures said over rows of the plain chart
pub data TableProgramByRow (s : List ℕ) (printed : List ℕ) : Type 1 where
  -- one refusal line, and the reason holds of the text
  refuses_by_row : (number place : ℕ) → printed ≡ refused_line number place → TableRefusal s number place → TableProgramByRow s printed
  -- the lines of figures that hold of the weights, rules and horizon whose lines the text is
  prints_by_row : (w : List ℕ) (rs : List Rule) (h : ℕ) (f : Figures) → TableTextIs s w rs h
      → h ≤ max_rows → chain_check (rule_list_of rs) w h ≡ Ok tt
      → printed ≡ figure_lines h f → FiguresHoldByRow w rs h f → TableProgramByRow s printed

-- the row n has the same numbers
abbrev pub SameRow : Figures → Figures → ℕ → Type 0
SameRow f g n = (f.pmf n ≡ g.pmf n) × (f.cdf n ≡ g.cdf n) × (f.survival n ≡ g.survival n)

pub record SameFigures (h : ℕ) (f g : Figures) : Type 0 where
  pub count : f.count ≡ g.count
  pub rows : (n : ℕ) → 1 ≤ n → n ≤ h → SameRow f g n
  pub whole : f.whole ≡ g.whole
  pub fraction : f.fraction ≡ g.fraction
  pub error_bound : f.error_bound ≡ g.error_bound
  pub brackets : EachPercent (λ p. f.bracket p ≡ g.bracket p)

-- the numbers that a text is refused by
abbrev pub table_numbers : List ℕ
table_numbers = number_of too_long ∷ number_of (bad_line 0) ∷ chain_numbers
