-- Laws of the check: rule by rule, and what an accepted list has.
use Rattle.std.specs.Prelude.{◌≡◌, refl, Bool, true, false, cond, List, [], ◌∷◌, ℕ, suc, ◌+◌, ◌-◌, ◌≤◌, ◌<◌, get_or, leb, Err, Ok}
use Rattle.std.proofs.Common.{sym, ◌∙◌, arith, leb-true}
use Rattle.rules.specs.declared.Rule.{Rule}
use Rattle.rules.specs.declared.RuleList.{RuleList}
use Rattle.rules.specs.declared.refusal.Refusal.{Refusal}
use Rattle.rules.specs.Bounds.{min_rules, max_rules, min_window, max_window, min_hits, min_zone_set, max_zone_set}
use Rattle.rules.specs.Check.{Checked, within, check_rule, or_else, check_rules, no_rule, rules_from, active_rules, check_of, unless}
use Rattle.rules.specs.Refusal.{bad_rule_count, bad_rule_bounds, bad_zone_set}
use Rattle.rules.specs.InBounds.{InBounds, AllInBounds}

-- ---- the rules from i up to n, the first of them apart

pub rules_cons : (slots : List Rule) (n i : ℕ) → i < n → rules_from (n - i) i slots ≡ get_or slots i no_rule ∷ rules_from (n - (i + 1)) (i + 1) slots
unfolding rules_from
rules_cons slots n i h = let e : n - i ≡ suc (n - (i + 1)) = omega arith in rw e

pub rules_none : (slots : List Rule) (n i : ℕ) → n ≤ i → rules_from (n - i) i slots ≡ []
unfolding rules_from
rules_none slots n i h = let e : n - i ≡ 0 = omega arith in rw e

-- ---- a check that goes on from i

pub check_cons : (slots : List Rule) (n i : ℕ) → i < n → check_rules i (rules_from (n - i) i slots) ≡ or_else (check_rule i (get_or slots i no_rule)) (check_rules (i + 1) (rules_from (n - (i + 1)) (i + 1) slots))
unfolding check_rules
check_cons slots n i h = rw (rules_cons slots n i h)

pub check_none : (slots : List Rule) (n i : ℕ) → n ≤ i → check_rules i (rules_from (n - i) i slots) ≡ Ok tt
unfolding check_rules
check_none slots n i h = rw (rules_none slots n i h)

-- ---- what a match on an answer tells: by its tag, 0 for accepted and 1 for refused

module _ (tag : Checked → ℕ) where
  pub is_accepted : ((x : Refusal) → tag (Err x) ≡ 1) → {a b : Checked} → a ≡ b → tag a ≡ 0 → b ≡ Ok tt
  is_accepted one {a} e h = sym e ∙ go a h
    where
      go : (a : Checked) → tag a ≡ 0 → a ≡ Ok tt
      go (Ok _) h = refl
      go (Err x) h = absurd (omega (arith, one x))

  -- a refusal comes before whatever would follow it
  pub is_refused : tag (Ok tt) ≡ 0 → (a b : Checked) → tag a ≡ 1 → or_else a b ≡ a
  is_refused none (Ok _) b h = absurd (omega arith)
  is_refused none (Err x) b h = refl

-- ---- what an accepted list has

passes : (t : Bool) (x : Refusal) → unless t x ≡ Ok tt → t ≡ true
passes true x e = refl
passes false x e = let z : ◌≡◌ {A = ℕ} 0 1 = cc in absurd (omega arith)

-- a number that passes is in the range
pub between : (low high x : ℕ) → within low high x ≡ true → (low ≤ x) × (x ≤ high)
between low high x e = go (leb low x) refl e
  where
    go : (t : Bool) → leb low x ≡ t → cond t (leb x high) false ≡ true → (low ≤ x) × (x ≤ high)
    go true p q = (leb-true low x p, leb-true x high q)
    go false p q = let z : ◌≡◌ {A = ℕ} 0 1 = cc in absurd (omega arith)

-- two checks in a row accept where both do
pub both_accept : (a b : Checked) → or_else a b ≡ Ok tt → (a ≡ Ok tt) × (b ≡ Ok tt)
both_accept (Ok _) b e = (refl, e)
both_accept (Err x) b e = let z : ◌≡◌ {A = ℕ} 0 1 = cc in absurd (omega arith)

in_bounds : (i : ℕ) (r : Rule) → check_rule i r ≡ Ok tt → InBounds r
in_bounds i r e =
    let window = within min_window max_window r.m in
    let hits = within min_hits r.m r.k in
    let zones = within min_zone_set max_zone_set r.zones in
    let rest = unless zones (bad_zone_set i) in
    let p = both_accept (unless window (bad_rule_bounds i)) (or_else (unless hits (bad_rule_bounds i)) rest) e in
    let q = both_accept (unless hits (bad_rule_bounds i)) rest p.1 in
    let m = between min_window max_window r.m (passes window (bad_rule_bounds i) p.0) in
    let k = between min_hits r.m r.k (passes hits (bad_rule_bounds i) q.0) in
    let z = between min_zone_set max_zone_set r.zones (passes zones (bad_zone_set i) q.1) in
    record { some_hits = k.0; hits_fit = k.1; window = m.1; some_zone = z.0; zone_set = z.1 }

all_in_bounds : (i : ℕ) (rs : List Rule) → check_rules i rs ≡ Ok tt → AllInBounds rs
unfolding check_rules AllInBounds
all_in_bounds i [] e = tt
all_in_bounds i (r ∷ rs) e = let p = both_accept (check_rule i r) (check_rules (i + 1) rs) e in (in_bounds i r p.0, all_in_bounds (i + 1) rs p.1)

pub accepted : (l : RuleList) → check_of l ≡ Ok tt → (min_rules ≤ l.len) × (l.len ≤ max_rules) × AllInBounds (active_rules l)
unfolding check_of
accepted l e =
    let fits = within min_rules max_rules l.len in
    let p = both_accept (unless fits bad_rule_count) (check_rules 0 (active_rules l)) e in
    let q = between min_rules max_rules l.len (passes fits bad_rule_count p.0) in
    (q.0, q.1, all_in_bounds 0 (active_rules l) p.1)
