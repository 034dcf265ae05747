-- TO BELIEVE: which state can stand with these rules and this count, in the words of refusal 5: none of its four conditions holds. Definitions.
use Rattle.std.specs.Prelude.{ℕ, ◌+◌, ◌-◌, ◌/◌, ◌%◌, ◌^◌, ◌≤◌, ◌<◌, ◌≡◌, List, length, get_or}
use Rattle.rules.specs.declared.Rule.{Rule}
use Rattle.rules.specs.Check.{no_rule}
use Rattle.window.specs.Window.{max_age, window_base, hit_of_age, hits_up_to}

-- a hit of age a in the window w that is not forgotten: it is one of the last m - 1 points, and k can still be met with it
pub record Kept (r : Rule) (w a : ℕ) : Type 0 where
  pub in_window : a ≤ r.m - 1
  pub needed : r.k ≤ hits_up_to a w + (r.m - a)

-- one rule's window, with so many points counted
pub record WindowCanStand (count : ℕ) (r : Rule) (w : ℕ) : Type 0 where
  pub few : hits_up_to max_age w < r.k
  pub kept : (a : ℕ) → 1 ≤ a → hit_of_age a w ≡ 1 → Kept r w a
  pub counted : (a : ℕ) → 1 ≤ a → hit_of_age a w ≡ 1 → a ≤ count

-- the window of the rule with index i in a state
abbrev pub window_at : ℕ → ℕ → ℕ
window_at i s = s / window_base ^ i % window_base

-- a whole state: no window with k or more hits; no hit that should be forgotten; no hit older than the points counted; no hit in a window
-- beyond the rules
pub record StateCanStand (count : ℕ) (rs : List Rule) (s : ℕ) : Type 0 where
  pub few : (i : ℕ) → i < length rs → hits_up_to max_age (window_at i s) < (get_or rs i no_rule).k
  pub kept : (i a : ℕ) → i < length rs → 1 ≤ a → hit_of_age a (window_at i s) ≡ 1 → Kept (get_or rs i no_rule) (window_at i s) a
  pub counted : (i a : ℕ) → i < length rs → 1 ≤ a → hit_of_age a (window_at i s) ≡ 1 → a ≤ count
  pub none_beyond : (i a : ℕ) → length rs ≤ i → 1 ≤ a → hit_of_age a (window_at i s) ≡ 0
