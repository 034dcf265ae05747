-- Laws of percentiles: what `least` finds, and that bounds from a loose and a tight test contain the percentile.
use Rattle.std.specs.Prelude.{◌≡◌, refl, Bool, true, false, cond, ℕ, zero, suc, ◌≤◌, ◌<◌, T, Option, Some, None}
use Rattle.std.proofs.Common.{ap₂, le_refl, arith}
use Rattle.std.proofs.Math.Decide.{dec_le}
use Rattle.runlength.specs.Percentile.{least, Percentile, Contains}

-- tests that agree from 1 to h find the same
pub least_cong : (f g : ℕ → Bool) (h : ℕ) → ((n : ℕ) → 1 ≤ n → n ≤ h → f n ≡ g n) → least f h ≡ least g h
unfolding least
least_cong f g zero e = refl
least_cong f g (suc h) e =
    ap₂ {A = Option ℕ} {B = Bool} {C = Option ℕ} (λ o b. elim o [ Some k ↦ Some k | None ↦ cond b (Some (suc h)) None ])
    (least_cong f g h (λ n i l. e n i (omega arith)))
    (e (suc h) (omega arith) (le_refl (suc h)))

LeastIn : (ℕ → Bool) → ℕ → Option ℕ → Type 0
LeastIn f h (Some k) = (1 ≤ k) × (k ≤ h) × T (f k) × ((m : ℕ) → 1 ≤ m → m < k → T (f m) → ⊥)
LeastIn f h None = (m : ℕ) → 1 ≤ m → m ≤ h → T (f m) → ⊥

least_is : (f : ℕ → Bool) (h : ℕ) → LeastIn f h (least f h)
unfolding LeastIn least
least_is f zero = λ m a b t. omega arith
least_is f (suc n) = go (least f n) (least_is f n)
  where
    last : (m : ℕ) → ((k : ℕ) → 1 ≤ k → k ≤ n → T (f k) → ⊥) → (T (f (suc n)) → ⊥) → 1 ≤ m → m ≤ suc n → T (f m) → Dec (m ≤ n) → ⊥
    last m r no_last a b t (yes l) = r m a l t
    last m r no_last a b t (no l) = let e : m ≡ suc n = omega arith in no_last (rw e at t)

    stop : ((m : ℕ) → 1 ≤ m → m ≤ n → T (f m) → ⊥) → (b : Bool) → (T b → T (f (suc n))) → (T (f (suc n)) → T b)
        → LeastIn f (suc n) (cond b (Some (suc n)) None)
    stop r true p q = (omega arith, omega arith, p tt, λ m a b t. r m a (omega arith) t)
    stop r false p q = λ m a b t. last m r q a b t (dec_le m n)

    go : (o : Option ℕ) → LeastIn f n o → LeastIn f (suc n) (elim o [ Some k ↦ Some k | None ↦ cond (f (suc n)) (Some (suc n)) None ])
    go (Some k) r = (r.0, omega (arith, r.1), r.2, r.3)
    go None r = stop r (f (suc n)) (λ t. t) (λ t. t)

-- what `least` finds is from 1 to h, passes the test, and is the percentile of the test
pub least_percentile : (f : ℕ → Bool) (h k : ℕ) → least f h ≡ Some k → Percentile f k × (k ≤ h)
unfolding LeastIn
least_percentile f h k e = go (rw e at (least_is f h))
  where
    go : LeastIn f h (Some k) → Percentile f k × (k ≤ h)
    go r = (record { from_one = r.0; there = r.2; first = r.3 }, r.1)

-- where `least` finds nothing, no number from 1 to h passes the test
pub least_none : (f : ℕ → Bool) (h : ℕ) → least f h ≡ None → (m : ℕ) → 1 ≤ m → m ≤ h → T (f m) → ⊥
unfolding LeastIn
least_none f h e = go (rw e at (least_is f h))
  where
    go : LeastIn f h None → (m : ℕ) → 1 ≤ m → m ≤ h → T (f m) → ⊥
    go r = r

-- a number that is reached has a percentile at or below it
percentile_exists : (reached : ℕ → Bool) (u : ℕ) → 1 ≤ u → T (reached u) → (n : ℕ) × Percentile reached n × (n ≤ u)
unfolding LeastIn
percentile_exists reached u a t = go (least reached u) (least_is reached u)
  where
    go : (o : Option ℕ) → LeastIn reached u o → (n : ℕ) × Percentile reached n × (n ≤ u)
    go (Some k) r = (k, record { from_one = r.0; there = r.2; first = r.3 }, r.1)
    go None r = absurd (r u a (omega arith) t)

-- a percentile is at or below every number that is reached
pub percentile_least : (reached : ℕ → Bool) (n m : ℕ) → Percentile reached n → 1 ≤ m → T (reached m) → n ≤ m
percentile_least reached n m q i t = go (dec_le n m)
  where
    go : Dec (n ≤ m) → n ≤ m
    go (yes h) = h
    go (no h) = absurd (q.first m i (omega arith) t)

module _ (reached low high : ℕ → Bool)
    (reached_low : (n : ℕ) → 1 ≤ n → T (reached n) → T (low n)) (high_reached : (n : ℕ) → T (high n) → T (reached n)) where
  -- a percentile is not below the least that passes the low test
  above : (l n : ℕ) → ((m : ℕ) → 1 ≤ m → m < l → T (low m) → ⊥) → Percentile reached n → l ≤ n
  above l n r q = go (dec_le l n)
    where
      go : Dec (l ≤ n) → l ≤ n
      go (yes h) = h
      go (no h) = absurd (r n q.from_one (omega arith) (reached_low n q.from_one q.there))

  contains_of : (h : ℕ) (l u : Option ℕ) → LeastIn low h l → LeastIn high h u → Contains reached h l u
  unfolding Contains LeastIn
  contains_of h None u a b = λ n q. above (suc h) n (λ m i j. a m i (omega arith)) q
  contains_of h (Some l) None a b = λ n q. above l n a.3 q
  contains_of h (Some l) (Some u) a b = go (percentile_exists reached u b.0 (high_reached u b.2))
    where
      go : (n : ℕ) × Percentile reached n × (n ≤ u) → (n : ℕ) × Percentile reached n × (l ≤ n) × (n ≤ u)
      go r = (r.0, r.1, above l r.0 a.3 r.1, r.2)

  -- where all that is reached passes the low test, and all that passes the high test is reached, the bounds contain the percentile
  pub bracket_contains : (h : ℕ) → Contains reached h (least low h) (least high h)
  bracket_contains h = contains_of h (least low h) (least high h) (least_is low h) (least_is high h)

-- two equal bounds are the percentile
pub contains_exact : (reached : ℕ → Bool) (h l u : ℕ) → l ≡ u → Contains reached h (Some l) (Some u) → Percentile reached l
unfolding Contains
contains_exact reached h l u e r = let i : r.0 ≡ l = omega (arith, r.2, r.3) in rw i at r.1

module _ (reached : ℕ → Bool) (never : (n : ℕ) → 1 ≤ n → T (reached n) → ⊥) where
  -- where nothing is reached there is no percentile
  pub never_percentile : (n : ℕ) → Percentile reached n → ⊥
  never_percentile n q = never n q.from_one q.there

  -- then 'beyond h' holds
  pub never_beyond : (h : ℕ) (high : Option ℕ) → Contains reached h None high
  unfolding Contains
  never_beyond h high = λ n q. absurd (never_percentile n q)

  -- and 'between l and u' does not
  pub never_between : (h l u : ℕ) → Contains reached h (Some l) (Some u) → ⊥
  unfolding Contains
  never_between h l u r = never_percentile r.0 r.1
