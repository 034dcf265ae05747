-- Forgetting changes nothing that is asked later.
use Rattle.std.specs.Prelude.{◌≡◌, refl, ℕ, zero, suc, ◌+◌, ◌-◌, ◌*◌, ◌/◌, ◌%◌, ◌≤◌, ◌<◌, leb}
use Rattle.std.proofs.Common.{sym, ap, ◌∙◌, ⊎_elim, arith, le-leb}
use Rattle.std.proofs.lemmas.Bool.{lt-leb}
use Rattle.window.specs.Window.{live_hit, live, hits_up_to}
use Rattle.window.specs.WindowLaws.{le_or_lt, cond_le, live_none, live_stays, live_goes, hits_le, live_le}

-- where k is out of reach nothing is kept
out_of_reach : (k c n w : ℕ) → c + 1 + n < k → live k c n w ≡ 0
unfolding live
out_of_reach k c zero w h = refl
out_of_reach k c (suc n) w h =
    let e : live k (c + w % 2) n (w / 2) ≡ 0 = out_of_reach k (c + w % 2) n (w / 2) (omega arith) in
    rw (lt-leb k (c + w % 2 + suc n) (omega arith), e)

-- where the newest hit is forgotten, so is every older one
pub live_ends : (k c n w : ℕ) → 0 < n → c + w % 2 + n < k → live k c n w ≡ 0
live_ends k c n w h q = omega (arith, live_goes k c n w h q, out_of_reach k (c + w % 2) (n - 1) (w / 2) (omega arith))

-- the live hits, one age at a time
pub ruleset live_steps = (live_none, live_stays, live_ends, live_le)

-- where it is not, the newest bit stays
bit_stays : (k c n b : ℕ) → b < 2 → k ≤ c + 1 + n → live_hit k (c + b) n b ≡ b
bit_stays k c n b h q = ⊎_elim (λ (p : k ≤ c + b + n). rw (le-leb k (c + b + n) p)) (λ (p : c + b + n < k). rw (lt-leb k (c + b + n) p) (omega arith)) (le_or_lt k (c + b + n))

-- the newest bit apart
pub live_first : (k c n b x : ℕ) → b < 2 → live k c (suc n) (b + 2 * x) ≡ live_hit k (c + b) (suc n) b + 2 * live k (c + b) n x
unfolding live
live_first k c n b x h =
    let e : (b + 2 * x) % 2 ≡ b = omega arith in
    let f : (b + 2 * x) / 2 ≡ x = omega arith in
    rw (e, f)

pub hits_first : (n b x : ℕ) → b < 2 → hits_up_to (suc n) (b + 2 * x) ≡ b + hits_up_to n x
unfolding hits_up_to
hits_first n b x h =
    let e : (b + 2 * x) % 2 ≡ b = omega arith in
    let f : (b + 2 * x) / 2 ≡ x = omega arith in
    rw (e, f)

newest_stays : (k c n w : ℕ) → k ≤ c + 1 + suc n → live k c (suc n) w ≡ w % 2 + 2 * live k (c + w % 2) n (w / 2)
unfolding live
newest_stays k c n w q = rw (bit_stays k c (suc n) (w % 2) (omega arith) q)

-- what is live of what was live before, with at least as much room, is what is live of the whole
pub live_again : (k c c' n r w : ℕ) → r ≤ n → c' + r ≤ c + n → live k c' r (live k c n w) ≡ live k c' r w
unfolding live
live_again k c c' n zero w h q = refl
live_again k c c' zero (suc r) w h q = absurd (omega arith)
live_again k c c' (suc n) (suc r) w h q =
    ⊎_elim
    (λ (p : k ≤ c + 1 + suc n).
    ap (λ (t : ℕ). live k c' (suc r) t) (newest_stays k c n w p)
    ∙ live_first k c' r (w % 2) (live k (c + w % 2) n (w / 2)) (omega arith)
    ∙ ap (λ (t : ℕ). live_hit k (c' + w % 2) (suc r) (w % 2) + 2 * t) (live_again k (c + w % 2) (c' + w % 2) n r (w / 2) (omega arith) (omega arith)))
    (λ (p : c + 1 + suc n < k). out_of_reach k c' (suc r) (live k c (suc n) w) (omega arith) ∙ sym (out_of_reach k c' (suc r) w (omega arith)))
    (le_or_lt k (c + 1 + suc n))

-- where one more hit meets k, no hit was forgotten
pub none_forgotten : (k c n w : ℕ) → k ≤ c + 1 + hits_up_to n w → hits_up_to n (live k c n w) ≡ hits_up_to n w
unfolding hits_up_to
none_forgotten k c zero w q = refl
none_forgotten k c (suc n) w q =
    ap (λ (t : ℕ). hits_up_to (suc n) t) (newest_stays k c n w (omega (arith, hits_le n (w / 2))))
    ∙ hits_first n (w % 2) (live k (c + w % 2) n (w / 2)) (omega arith)
    ∙ ap (λ (t : ℕ). w % 2 + t) (none_forgotten k (c + w % 2) n (w / 2) (omega arith))

pub hits_fewer : (k c n w : ℕ) → hits_up_to n (live k c n w) ≤ hits_up_to n w
unfolding live hits_up_to
hits_fewer k c zero w = omega arith
hits_fewer k c (suc n) w =
    let p = cond_le (leb k (c + w % 2 + suc n)) (w % 2) in
    omega (arith, hits_first n (live_hit k (c + w % 2) (suc n) (w % 2)) (live k (c + w % 2) n (w / 2)) (omega arith), hits_fewer k (c + w % 2) n (w / 2))

pub hits_zero : (n : ℕ) → hits_up_to n 0 ≡ 0
unfolding hits_up_to
hits_zero zero = refl
hits_zero (suc n) = omega (arith, hits_zero n)

-- nothing is kept past the room
pub hits_no_older : (k c n j w : ℕ) → n ≤ j → hits_up_to j (live k c n w) ≡ hits_up_to n (live k c n w)
unfolding live
hits_no_older k c zero j w h = hits_zero j ∙ sym (hits_zero 0)
hits_no_older k c (suc n) zero w h = absurd (omega arith)
hits_no_older k c (suc n) (suc j) w h =
    let p = cond_le (leb k (c + w % 2 + suc n)) (w % 2) in
    let b = live_hit k (c + w % 2) (suc n) (w % 2) in
    let x = live k (c + w % 2) n (w / 2) in
    let q : b < 2 = omega arith in
    hits_first j b x q ∙ ap (λ (t : ℕ). b + t) (hits_no_older k (c + w % 2) n j (w / 2) (omega arith)) ∙ sym (hits_first n b x q)

pub live_zero : (k c n : ℕ) → live k c n 0 ≡ 0
live_zero k c n = omega (arith, live_le k c n 0)
