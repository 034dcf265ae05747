-- Laws of a loop that writes parts: none yet, one more, all of them.
use Rattle.std.specs.Prelude.{ℕ, ◌+◌, ◌*◌, ◌≤◌, ◌<◌, ◌≡◌, refl, List, ◌++◌, length}
use Rattle.std.proofs.Common.{ap, ◌∙◌, arith, mul-suc, add-one}
use Rattle.write.specs.Wrote.{Wrote}
use Rattle.write.specs.WroteLaws.{wrote_nothing, wrote_length, then}
use Rattle.write.specs.PartsWritten.{joined, PartsWritten}

pub joined_more : (n : ℕ) (part : ℕ → List ℕ) → joined (n + 1) part ≡ joined n part ++ part n
unfolding joined
joined_more n part = rw (add-one n)

module _ {a : List ℕ} {at most n : ℕ} {part : ℕ → List ℕ} where
  pub parts_start : at ≤ length a → PartsWritten a at most n part a at 0
  unfolding joined
  parts_start l = record { upto = omega arith; size = refl; room = omega arith; wrote = wrote_nothing a at l }

  pub parts_more : {b c : List ℕ} {e i r : ℕ} → PartsWritten a at most n part b e i → i < n → Wrote b e c r (part i) → r ≤ e + most
      → PartsWritten a at most n part c r (i + 1)
  parts_more {b} {c} {e} {i} {r} p l w m =
      let one : most * (i + 1) ≡ most * i + most = ap (λ (k : ℕ). most * k) (add-one i) ∙ mul-suc most i in
      record { upto = omega arith; size = wrote_length w ∙ p.size; room = omega arith; wrote = rw (joined_more i part) (then p.wrote w) }

  pub parts_done : {b : List ℕ} {e i : ℕ} → PartsWritten a at most n part b e i → n ≤ i → Wrote a at b e (joined n part)
  parts_done {b} {e} {i} p l =
      let q : i ≡ n = omega (arith, p.upto) in
      rw q at p.wrote
