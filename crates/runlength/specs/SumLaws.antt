-- Laws of finite sums.
use Rattle.std.specs.Prelude.{◌≡◌, refl, Bool, ℕ, zero, suc, ◌+◌, ◌-◌, ◌*◌, ◌/◌, ◌≤◌, ◌<◌, eqb}
use Rattle.std.proofs.Common.{sym, ap, ◌∙◌, subst, ⊎_elim, add-zero, add-suc, zero-mul, mul-zero, eq-or-lt_of_le, le_of_suc-le-suc, add-sub_of_le, div-mul-le_self, arith, add-one, eq-eqb, ne_eqb}
use Rattle.std.proofs.Math.Nat.{lt-div-mul-add}
use Rattle.runlength.specs.Sum.{sum, only}

pub sum_zero : (f : ℕ → ℕ) → sum 0 f ≡ 0
unfolding sum
sum_zero f = refl

-- one term more, at the code's n + 1
pub sum_more : (n : ℕ) (f : ℕ → ℕ) → sum (n + 1) f ≡ sum n f + f n
unfolding sum
sum_more n f = rw add-one

-- equal terms, equal sums
pub sum_cong : (n : ℕ) (f g : ℕ → ℕ) → ((k : ℕ) → k < n → f k ≡ g k) → sum n f ≡ sum n g
unfolding sum
sum_cong zero f g h = refl
sum_cong (suc n) f g h = omega (arith, sum_cong n f g (λ k l. h k (omega arith)), h n (omega arith))

-- smaller terms, a smaller sum
pub sum_le : (n : ℕ) (f g : ℕ → ℕ) → ((k : ℕ) → k < n → f k ≤ g k) → sum n f ≤ sum n g
unfolding sum
sum_le zero f g h = omega arith
sum_le (suc n) f g h = omega (arith, sum_le n f g (λ k l. h k (omega arith)), h n (omega arith))

-- smaller terms and no smaller sum: the terms are equal
pub sum_tight : (n : ℕ) (f g : ℕ → ℕ) → ((k : ℕ) → k < n → f k ≤ g k) → sum n g ≤ sum n f → (k : ℕ) → k < n → g k ≤ f k
unfolding sum
sum_tight zero f g h e k l = absurd (omega arith)
sum_tight (suc n) f g h e k l =
    let below = sum_le n f g (λ i j. h i (omega arith)) in
    let last = h n (omega arith) in
    ⊎_elim
    (λ (q : k ≡ n). rw q (omega arith))
    (λ (i : k < n). sum_tight n f g (λ i j. h i (omega arith)) (omega arith) k i)
    (eq-or-lt_of_le (le_of_suc-le-suc l))

-- fewer terms, a smaller sum
pub sum_mono : (m k : ℕ) (f : ℕ → ℕ) → sum m f ≤ sum (m + k) f
unfolding sum
sum_mono m zero f = omega (arith, ap (λ (n : ℕ). sum n f) (add-zero m))
sum_mono m (suc k) f = rw add-suc (omega (arith, sum_mono m k f))

pub sum_upto : (m n : ℕ) (f : ℕ → ℕ) → m ≤ n → sum m f ≤ sum n f
sum_upto m n f h = omega (arith, sum_mono m (n - m) f, ap (λ (k : ℕ). sum k f) (add-sub_of_le h))

-- a term is at most the sum
pub sum_term : (n k : ℕ) (f : ℕ → ℕ) → k < n → f k ≤ sum n f
sum_term n k f h = omega (arith, sum_upto (k + 1) n f (omega arith), sum_more k f)

-- the sum of two sums
pub sum_add : (n : ℕ) (f g : ℕ → ℕ) → sum n (λ k. f k + g k) ≡ sum n f + sum n g
unfolding sum
sum_add zero f g = refl
sum_add (suc n) f g = omega (arith, sum_add n f g)

-- a factor before the sum
pub sum_mul : (n c : ℕ) (f : ℕ → ℕ) → sum n (λ k. c * f k) ≡ c * sum n f
unfolding sum
sum_mul zero c f = sym (mul-zero c)
sum_mul (suc n) c f = omega (arith, sum_mul n c f)

pub sum_mul_right : (n c : ℕ) (f : ℕ → ℕ) → sum n (λ k. f k * c) ≡ sum n f * c
unfolding sum
sum_mul_right zero c f = sym (zero-mul c)
sum_mul_right (suc n) c f = omega (arith, sum_mul_right n c f)

-- a sum of equal terms
pub sum_const : (n c : ℕ) → sum n (λ k. c) ≡ n * c
unfolding sum
sum_const zero c = sym (zero-mul c)
sum_const (suc n) c = omega (arith, sum_const n c)

-- a sum of zeros
pub sum_none : (n : ℕ) (f : ℕ → ℕ) → ((k : ℕ) → k < n → f k ≡ 0) → sum n f ≡ 0
unfolding sum
sum_none zero f h = refl
sum_none (suc n) f h = omega (arith, sum_none n f (λ k l. h k (omega arith)), h n (omega arith))

-- the order of two sums is free
pub sum_swap : (n m : ℕ) (f : ℕ → ℕ → ℕ) → sum n (λ i. sum m (λ j. f i j)) ≡ sum m (λ j. sum n (λ i. f i j))
unfolding sum
sum_swap zero m f = sym (sum_none m (λ j. 0) (λ k l. refl))
sum_swap (suc n) m f = ap (λ x. x + sum m (λ j. f n j)) (sum_swap n m f) ∙ sym (sum_add m (λ j. sum n (λ i. f i j)) (λ j. f n j))

-- one place of many: the sum over all targets of what goes to a is x
pub sum_pick : (n a x : ℕ) → a < n → sum n (λ k. only (eqb a k) x) ≡ x
unfolding sum
sum_pick zero a x h = omega arith
sum_pick (suc n) a x h =
    ⊎_elim
    (λ (e : a ≡ n). omega
    (arith, sum_none n (λ k. only (eqb a k) x) (λ k l. ap (λ (b : Bool). only b x) (ne_eqb a k (omega arith))), ap (λ (b : Bool). only b x) (eq-eqb a n e)))
    (λ (l : a < n). omega (arith, sum_pick n a x l, ap (λ (b : Bool). only b x) (ne_eqb a n (omega arith))))
    (eq-or-lt_of_le (le_of_suc-le-suc h))

-- one term more by v, the sum more by v
pub sum_point : (n r v : ℕ) (f g : ℕ → ℕ) → r < n → g r ≡ f r + v → ((k : ℕ) → k < n → (k ≡ r → ⊥) → g k ≡ f k) → sum n g ≡ sum n f + v
unfolding sum
sum_point zero r v f g l e h = omega arith
sum_point (suc n) r v f g l e h =
    ⊎_elim
    (λ (x : r ≡ n). omega (arith, sum_cong n g f (λ k i. h k (omega arith) (omega arith)), subst (λ (y : ℕ). g y ≡ f y + v) x e))
    (λ (x : r < n). omega (arith, sum_point n r v f g x e (λ k i. h k (omega arith)), h n (omega arith) (omega arith)))
    (eq-or-lt_of_le (le_of_suc-le-suc l))

-- an order between multiples, term by term
pub sum_scale : (n : ℕ) (f g : ℕ → ℕ) (a b : ℕ) → ((k : ℕ) → k < n → f k * a ≤ g k * b) → sum n f * a ≤ sum n g * b
unfolding sum
sum_scale zero f g a b h = omega arith
sum_scale (suc n) f g a b h = omega (arith, sum_scale n f g a b (λ k l. h k (omega arith)), h n (omega arith))

-- each term divided by itself and rounded down: never more than the sum, and short of it by less than d for each term
pub sum_div_le : (n : ℕ) (f : ℕ → ℕ) (d : ℕ) → sum n (λ k. f k / d) * d ≤ sum n f
unfolding sum
sum_div_le zero f d = omega arith
sum_div_le (suc n) f d = omega (arith, div-mul-le_self (f n) d, sum_div_le n f d)

pub sum_div_ge : (n : ℕ) (f : ℕ → ℕ) {d : ℕ} → 0 < d → sum n f + n ≤ (sum n (λ k. f k / d) + n) * d
unfolding sum
sum_div_ge zero f p = omega arith
sum_div_ge (suc n) f p = omega (arith, lt-div-mul-add {a = f n} p, sum_div_ge n f p)
