-- TO BELIEVE: numbers as bytes: decimal, without needless zeros; a minus before a number below 0; the bounds of signed numbers. Definitions.
use Rattle.std.specs.Prelude.{ℕ, zero, suc, ◌+◌, ◌-◌, ◌/◌, ◌%◌, ◌^◌, List, [], ◌∷◌, ◌++◌, ℤ, pos, negsuc}

-- `0` is 48, `9` is 57
abbrev pub digit_byte : ℕ → ℕ
digit_byte d = 48 + d

-- the digits of n in base 10, most significant first; 0 has none. A digit is taken off at each step, so n steps are enough
unfoldable pub digits_of : ℕ → ℕ → List ℕ
digits_of zero n = []
digits_of (suc k) zero = []
digits_of (suc k) (suc n) = digits_of k (suc n / 10) ++ (digit_byte (suc n % 10) ∷ [])

-- n in decimal: `0` for 0, else its digits
unfoldable pub decimal : ℕ → List ℕ
decimal zero = digit_byte 0 ∷ []
decimal (suc n) = digits_of (suc n) (suc n)

-- the byte `-`
abbrev pub minus_byte : ℕ
minus_byte = 45

-- negsuc n is -(n + 1): a minus never stands before 0
unfoldable pub signed_decimal : ℤ → List ℕ
signed_decimal (pos n) = decimal n
signed_decimal (negsuc n) = minus_byte ∷ decimal (suc n)

-- the largest signed number of 32 bits, and the size of the least
abbrev pub max_positive : ℕ
max_positive = 2 ^ 31 - 1

abbrev pub max_negative : ℕ
max_negative = 2 ^ 31
