-- An integer as a difference of two numbers, so that what is left of a fact on integers is one on numbers. Laws.
use Rattle.std.specs.Prelude.{◌≡◌, Bool, true, false, not, cond, ℕ, zero, suc, ◌+◌, ◌-◌, ◌<◌, ◌≤◌, T, ltb, ℤ, pos, negsuc, neg_ℤ, ◌+ℤ◌, ◌-ℤ◌}
use Rattle.std.proofs.Common.{ap, arith, ltb→lt, nltb→le}
use Rattle.std.proofs.Math.IntN.{sub_ℕ}

-- z is a - b
abbrev pub Is : ℤ → ℕ → ℕ → Type 0
Is (pos n) a b = n + b ≡ a
Is (negsuc n) a b = n + 1 + a ≡ b

pub is_sub : (a b : ℕ) → Is (sub_ℕ a b) a b
is_sub a b = go (ltb a b) (ltb→lt a b) (nltb→le a b)
  where
    go : (t : Bool) → (T t → a < b) → (T (not t) → b ≤ a) → Is (cond t (negsuc (b - suc a)) (pos (a - b))) a b
    go true y n = omega (arith, y tt)
    go false y n = omega (arith, n tt)

pub is_neg : (z : ℤ) (a b : ℕ) → Is z a b → Is (neg_ℤ z) b a
is_neg (pos zero) a b h = omega arith
is_neg (pos (suc n)) a b h = omega arith
is_neg (negsuc n) a b h = omega arith

-- the same integer, by other numbers
pub is_as : (z : ℤ) (a b c d : ℕ) → a + d ≡ c + b → Is z a b → Is z c d
is_as (pos n) a b c d e h = omega arith
is_as (negsuc n) a b c d e h = omega arith

is_add : (x y : ℤ) (a b c d : ℕ) → Is x a b → Is y c d → Is (x +ℤ y) (a + c) (b + d)
is_add (pos m) (pos n) a b c d h k = omega arith
is_add (pos m) (negsuc n) a b c d h k = is_as (sub_ℕ m (suc n)) m (suc n) (a + c) (b + d) (omega arith) (is_sub m (suc n))
is_add (negsuc m) (pos n) a b c d h k = is_as (sub_ℕ n (suc m)) n (suc m) (a + c) (b + d) (omega arith) (is_sub n (suc m))
is_add (negsuc m) (negsuc n) a b c d h k = omega arith

pub is_minus : (x y : ℤ) (a b c d : ℕ) → Is x a b → Is y c d → Is (x -ℤ y) (a + d) (b + c)
is_minus x y a b c d h k = is_add x (neg_ℤ y) a b d c h (is_neg y c d k)

pub is_same : (x y : ℤ) (a b : ℕ) → Is x a b → Is y a b → x ≡ y
is_same (pos m) (pos n) a b h k = let e : m ≡ n = omega arith in ap pos e
is_same (pos m) (negsuc n) a b h k = absurd (omega arith)
is_same (negsuc m) (pos n) a b h k = absurd (omega arith)
is_same (negsuc m) (negsuc n) a b h k = let e : m ≡ n = omega arith in ap negsuc e
