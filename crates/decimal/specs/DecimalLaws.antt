-- Laws of decimal numbers: digit by digit, and how long they are.
use Rattle.std.specs.Prelude.{ℕ, zero, suc, ◌+◌, ◌*◌, ◌/◌, ◌%◌, ◌^◌, ◌<◌, ◌≤◌, ◌≡◌, refl, List, [], ◌∷◌, ◌++◌, length, ℤ, pos, negsuc}
use Rattle.std.proofs.Common.{ap, ◌∙◌, arith, pow-suc, le_refl, length-append}
use Rattle.decimal.specs.Decimal.{digit_byte, digits_of, decimal, signed_decimal}

-- n steps are enough
enough : (k m n : ℕ) → n ≤ k → n ≤ m → digits_of k n ≡ digits_of m n
unfolding digits_of
enough zero zero n h l = refl
enough zero (suc m) zero h l = refl
enough zero (suc m) (suc n) h l = absurd (omega arith)
enough (suc k) zero zero h l = refl
enough (suc k) zero (suc n) h l = absurd (omega arith)
enough (suc k) (suc m) zero h l = refl
enough (suc k) (suc m) (suc n) h l =
    ap (λ (ds : List ℕ). ds ++ (digit_byte (suc n % 10) ∷ [])) (enough k m (suc n / 10) (omega arith) (omega arith))

-- a number below 10 is one digit
pub decimal_one : (n : ℕ) → n < 10 → decimal n ≡ digit_byte n ∷ []
unfolding decimal digits_of
decimal_one zero h = refl
decimal_one (suc n) h =
    let q : suc n / 10 ≡ 0 = omega arith in
    let r : suc n % 10 ≡ suc n = omega arith in
    rw (q, r) (go n)
  where
    go : (n : ℕ) → digits_of n 0 ++ (digit_byte (suc n) ∷ []) ≡ digit_byte (suc n) ∷ []
    go zero = refl
    go (suc n) = refl

-- any other has one digit more than a tenth of it
pub decimal_more : (n : ℕ) → 10 ≤ n → decimal n ≡ decimal (n / 10) ++ (digit_byte (n % 10) ∷ [])
unfolding decimal digits_of
decimal_more zero h = absurd (omega arith)
decimal_more (suc n) h = go (suc n / 10) (omega arith) (omega arith)
  where
    go : (q : ℕ) → 0 < q → q ≤ n → digits_of n q ++ (digit_byte (suc n % 10) ∷ []) ≡ decimal q ++ (digit_byte (suc n % 10) ∷ [])
    go zero h l = absurd (omega arith)
    go (suc q) h l = ap (λ (ds : List ℕ). ds ++ (digit_byte (suc n % 10) ∷ [])) (enough n (suc q) (suc q) l (le_refl _))

-- a number with the digit d behind it
pub decimal_digit : (v d : ℕ) → 0 < v → d < 10 → decimal (v * 10 + d) ≡ decimal v ++ (digit_byte d ∷ [])
decimal_digit v d h l =
    let q : (v * 10 + d) / 10 ≡ v = omega arith in
    let r : (v * 10 + d) % 10 ≡ d = omega arith in
    decimal_more (v * 10 + d) (omega arith) ∙ rw (q, r)

-- ---- lengths

pub length_one : (n : ℕ) → n < 10 → length (decimal n) ≡ 1
length_one n h = rw (decimal_one n h)

pub length_more : (n : ℕ) → 10 ≤ n → length (decimal n) ≡ length (decimal (n / 10)) + 1
length_more n h = rw (decimal_more n h, length-append)

digits_short : (k m n : ℕ) → n < 10 ^ k → length (digits_of m n) ≤ k
unfolding digits_of
digits_short k zero n h = omega arith
digits_short k (suc m) zero h = omega arith
digits_short zero (suc m) (suc n) h = absurd (omega arith)
digits_short (suc k) (suc m) (suc n) h =
    let l : suc n < 10 ^ k * 10 = rw pow-suc at h in
    let r : length (digits_of m (suc n / 10)) ≤ k = digits_short k m (suc n / 10) (omega arith) in
    rw length-append (omega arith)

decimal_short : (k n : ℕ) → 0 < k → n < 10 ^ k → length (decimal n) ≤ k
unfolding decimal
decimal_short k zero p h = omega arith
decimal_short k (suc n) p h = digits_short k (suc n) (suc n) h

-- 20 digits hold every number of 64 bits, 10 every number of 32 bits
pub decimal_short_64 : (n : ℕ) → n < 2 ^ 64 → length (decimal n) ≤ 20
decimal_short_64 n h = decimal_short 20 n (omega arith) (omega arith)

pub decimal_short_32 : (n : ℕ) → n < 2 ^ 32 → length (decimal n) ≤ 10
decimal_short_32 n h = decimal_short 10 n (omega arith) (omega arith)

pub decimal_some : (n : ℕ) → 1 ≤ length (decimal n)
unfolding decimal digits_of
decimal_some zero = omega arith
decimal_some (suc n) = rw length-append (omega arith)

pub signed_some : (x : ℤ) → 1 ≤ length (signed_decimal x)
unfolding signed_decimal
signed_some (pos n) = decimal_some n
signed_some (negsuc n) = omega arith
