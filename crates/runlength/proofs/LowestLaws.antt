-- `lowest` finds the least number that passes the test, and there is one such. Laws.
use Rattle.std.specs.Prelude.{ℕ, zero, suc, ◌<◌, ◌≡◌, refl, Bool, true, false, cond, ltb}
use Rattle.std.proofs.Common.{sym, ◌∙◌, arith, le_refl, ltb-true, ltb-false}
use Rattle.std.proofs.Math.Decide.{dec_lt}
use Rattle.runlength.proofs.ApartLaws.{true_not_false}
use Rattle.runlength.specs.Lowest.{lowest, Lowest}

pub lowest_is : (f : ℕ → Bool) (n : ℕ) → Lowest f n (lowest f n)
unfolding lowest
lowest_is f zero = record { most = le_refl 0; hit = λ h. absurd (omega arith); miss = λ j h. absurd (omega arith) }
lowest_is f (suc n) = go (ltb (lowest f n) n) refl (f n) refl (lowest_is f n)
  where
    go : (b : Bool) → ltb (lowest f n) n ≡ b → (c : Bool) → f n ≡ c → Lowest f n (lowest f n)
        → Lowest f (suc n) (cond b (lowest f n) (cond c n (suc n)))
    go true p c q l = record { most = omega (arith, l.most); hit = λ h. l.hit (ltb-true (lowest f n) n p); miss = l.miss }
    go false p true q l = record {
      most = omega arith;
      hit = λ h. q;
      miss = λ j h. l.miss j (omega (arith, l.most, ltb-false (lowest f n) n p));
    }
    go false p false q l = record {
      most = le_refl (suc n);
      hit = λ h. absurd (omega arith);
      miss = λ j h. last j h (dec_lt j n);
    }
      where
        last : (j : ℕ) → j < suc n → Dec (j < n) → f j ≡ false
        last j h (yes k) = l.miss j (omega (arith, l.most, ltb-false (lowest f n) n p))
        last j h (no k) = let d : j ≡ n = omega arith in rw d q

-- tests that agree below n find the same
pub lowest_cong : (f g : ℕ → Bool) (n : ℕ) → ((j : ℕ) → j < n → f j ≡ g j) → lowest f n ≡ lowest g n
unfolding lowest
lowest_cong f g zero e = refl
lowest_cong f g (suc n) e = rw (lowest_cong f g n (λ j h. e j (omega arith)), e n (le_refl (suc n)))

-- there is one only
pub lowest_one : (f : ℕ → Bool) (n r s : ℕ) → Lowest f n r → Lowest f n s → r ≡ s
lowest_one f n r s p q = go (dec_lt r s) (dec_lt s r)
  where
    go : Dec (r < s) → Dec (s < r) → r ≡ s
    go (yes l) d = absurd (true_not_false (sym (p.hit (omega (arith, q.most))) ∙ q.miss r l))
    go (no k) (yes l) = absurd (true_not_false (sym (q.hit (omega (arith, p.most))) ∙ p.miss s l))
    go (no k) (no l) = omega arith

pub lowest_found : (f : ℕ → Bool) (n r : ℕ) → Lowest f n r → r ≡ lowest f n
lowest_found f n r l = lowest_one f n r (lowest f n) l (lowest_is f n)

-- what every number passes, the first passes
pub lowest_zero : (n : ℕ) → lowest (λ j. true) n ≡ 0
lowest_zero n = sym (lowest_found (λ j. true) n 0 (record { most = omega arith; hit = λ h. refl; miss = λ j h. absurd (omega arith) }))
