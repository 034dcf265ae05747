-- Laws of `least` in the shape that a loop over n needs.
use Rattle.std.specs.Prelude.{◌≡◌, Bool, true, false, Option, Some, None}
use Rattle.std.proofs.Math.Path.{refl, ap, ap₂}
use Rattle.std.proofs.Common.{sym, ◌∙◌, add-zero, add-suc, add-sub_of_le, add-one}
use Rattle.std.proofs.Math.Bool.{cond}
use Prim.Native.Nat.{ℕ, zero, suc, ◌+◌, ◌-◌, ◌≤◌}
use Rattle.runlength.specs.Percentile.{least}

-- what `least` makes of what it found before m, and of m's own test
abbrev next_least : ℕ → Option ℕ → Bool → Option ℕ
next_least m found passes = elim found [ Some k ↦ Some k | None ↦ cond passes (Some m) None ]

module _ (f : ℕ → Bool) where
  -- nothing below 1 is looked at
  pub least_start : least f 0 ≡ None
  unfolding least
  least_start = refl

  -- none up to n: n + 1 decides
  least_next : (n : ℕ) (b : Bool) → least f n ≡ None → f (n + 1) ≡ b → least f (n + 1) ≡ cond b (Some (n + 1)) None
  unfolding least
  least_next n b e t =
      ap (λ (m : ℕ). least f m) (add-one n)
      ∙ ap₂ {A = Option ℕ} {B = Bool} {C = Option ℕ} (next_least (suc n)) e (ap f (sym (add-one n)) ∙ t)
      ∙ ap {B = Option ℕ} (λ (m : ℕ). cond b (Some m) None) (sym (add-one n))

  -- a number found stays found
  least_kept : (n j k : ℕ) → least f n ≡ Some k → least f (n + j) ≡ Some k
  unfolding least
  least_kept n zero k e = ap (λ (m : ℕ). least f m) (add-zero n) ∙ e
  least_kept n (suc j) k e =
      ap (λ (m : ℕ). least f m) (add-suc n j) ∙ ap {B = Option ℕ} (λ (o : Option ℕ). next_least (suc (n + j)) o (f (suc (n + j)))) (least_kept n j k e)

  -- none up to n, and n + 1 does not pass: none up to n + 1
  pub least_on : (n : ℕ) → least f n ≡ None → f (n + 1) ≡ false → least f (n + 1) ≡ None
  least_on n e t = least_next n false e t

  -- none up to n, and n + 1 passes: it is the least
  pub least_here : (n h : ℕ) → least f n ≡ None → f (n + 1) ≡ true → n + 1 ≤ h → least f h ≡ Some (n + 1)
  least_here n h e t l =
      ap (λ (m : ℕ). least f m) (sym (add-sub_of_le l)) ∙ least_kept (n + 1) (h - (n + 1)) (n + 1) (least_next n true e t)

  -- none up to n, which is the last
  pub least_end : (n h : ℕ) → least f n ≡ None → n ≡ h → least f h ≡ None
  least_end n h e l = ap (λ (m : ℕ). least f m) (sym l) ∙ e
