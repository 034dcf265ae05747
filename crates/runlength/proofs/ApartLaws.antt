-- Laws of states that no continuation of up to k points tells apart: an equivalence; more points tell no fewer apart; for all k it is an equal
-- future; a simulation keeps it.
use Prim.Native.Nat.{ℕ, zero, suc, ◌+◌, ◌<◌}
use Rattle.std.specs.Prelude.{◌≡◌, Bool, true, false, ◌&&◌}
use Rattle.std.proofs.Math.Path.{refl, ap}
use Rattle.std.proofs.Common.{sym, ◌∙◌, arith, le_refl, add-suc, add-zero}
use Rattle.std.proofs.Math.Decide.{dec_lt}
use Rattle.runlength.specs.Automaton.{Automaton, Move, quiet, signal}
use Rattle.runlength.specs.Future.{Alike, EqualFuture, Simulation}
use Rattle.runlength.proofs.FutureLaws.{simulation_future, future_step}
use Rattle.runlength.specs.Apart.{all_of, alike_moves, alike_for}

-- ---- tests

-- a test that passes does not fail
pub true_not_false : true ≡ false → ⊥
true_not_false e = let z : ◌≡◌ {A = ℕ} 0 1 = cc in omega arith

-- tests that pass together are equal
pub same_test_by : (b c : Bool) → (b ≡ true → c ≡ true) → (c ≡ true → b ≡ true) → b ≡ c
same_test_by true c f g = sym (f refl)
same_test_by false true f g = g refl
same_test_by false false f g = refl

all_passes : (n : ℕ) (f : ℕ → Bool) → all_of n f ≡ true → (z : ℕ) → z < n → f z ≡ true
unfolding all_of
all_passes zero f e z h = absurd (omega arith)
all_passes (suc n) f e z h = go (all_of n f) (f n) refl refl e (all_passes n f) (dec_lt z n)
  where
    go : (b c : Bool) → all_of n f ≡ b → f n ≡ c → (b && c) ≡ true → (all_of n f ≡ true → (z : ℕ) → z < n → f z ≡ true) → Dec (z < n)
        → f z ≡ true
    go true true p q e r (yes l) = r p z l
    go true true p q e r (no l) = let d : z ≡ n = omega arith in rw d q
    go true false p q e r d = absurd (true_not_false (sym e))
    go false c p q e r d = absurd (true_not_false (sym e))

all_pass : (n : ℕ) (f : ℕ → Bool) → ((z : ℕ) → z < n → f z ≡ true) → all_of n f ≡ true
unfolding all_of
all_pass zero f e = refl
all_pass (suc n) f e = rw (all_pass n f (λ z h. e z (omega arith)), e n (le_refl (suc n)))

-- a number that fails the test
pub all_fails : (n : ℕ) (f : ℕ → Bool) (z : ℕ) → z < n → f z ≡ false → all_of n f ≡ false
all_fails n f z h e = go (all_of n f) refl
  where
    go : (b : Bool) → all_of n f ≡ b → b ≡ false
    go true p = sym (all_passes n f p z h) ∙ e
    go false p = refl

pub all_cong : (n : ℕ) (f g : ℕ → Bool) → ((z : ℕ) → z < n → f z ≡ g z) → all_of n f ≡ all_of n g
unfolding all_of
all_cong zero f g e = refl
all_cong (suc n) f g e = rw (all_cong n f g (λ z h. e z (omega arith)), e n (le_refl (suc n)))

-- ---- two moves

module _ {A : Type 0} (f : A → A → Bool) where
  moves_refl : ((x : A) → f x x ≡ true) → (m : Move A) → alike_moves f m m ≡ true
  moves_refl r (quiet x) = r x
  moves_refl r signal = refl

  moves_sym : ((x y : A) → f x y ≡ true → f y x ≡ true) → (m o : Move A) → alike_moves f m o ≡ true → alike_moves f o m ≡ true
  moves_sym r (quiet x) (quiet y) e = r x y e
  moves_sym r (quiet x) signal e = e
  moves_sym r signal (quiet y) e = e
  moves_sym r signal signal e = refl

  moves_trans : ((x y z : A) → f x y ≡ true → f y z ≡ true → f x z ≡ true) → (m o p : Move A)
      → alike_moves f m o ≡ true → alike_moves f o p ≡ true → alike_moves f m p ≡ true
  moves_trans r (quiet x) (quiet y) (quiet z) d e = r x y z d e
  moves_trans r (quiet x) (quiet y) signal d e = e
  moves_trans r (quiet x) signal p d e = absurd (true_not_false (sym d))
  moves_trans r signal (quiet y) p d e = absurd (true_not_false (sym d))
  moves_trans r signal signal p d e = e

  moves_map : (g : A → A → Bool) → ((x y : A) → f x y ≡ true → g x y ≡ true) → (m o : Move A)
      → alike_moves f m o ≡ true → alike_moves g m o ≡ true
  moves_map g r (quiet x) (quiet y) e = r x y e
  moves_map g r (quiet x) signal e = e
  moves_map g r signal (quiet y) e = e
  moves_map g r signal signal e = refl

  moves_alike : (R : A → A → Type 0) → ((x y : A) → R x y → f x y ≡ true) → (m o : Move A) → Alike R m o → alike_moves f m o ≡ true
  unfolding Alike
  moves_alike R r (quiet x) (quiet y) e = r x y e
  moves_alike R r (quiet x) signal e = absurd e
  moves_alike R r signal (quiet y) e = absurd e
  moves_alike R r signal signal e = refl

-- moves of two charts that R relates
module _ {A B : Type 0} (f : A → A → Bool) (g : B → B → Bool) (R : A → B → Type 0)
    (r : (x y : A) (u v : B) → R x u → R y v → f x y ≡ g u v) where
  moves_related : (m : Move A) (m' : Move B) (o : Move A) (o' : Move B) → Alike R m m' → Alike R o o' → alike_moves f m o ≡ alike_moves g m' o'
  unfolding Alike
  moves_related (quiet x) (quiet u) (quiet y) (quiet v) p q = r x y u v p q
  moves_related (quiet x) (quiet u) (quiet y) signal p q = absurd q
  moves_related (quiet x) (quiet u) signal (quiet v) p q = absurd q
  moves_related (quiet x) (quiet u) signal signal p q = refl
  moves_related (quiet x) signal o o' p q = absurd p
  moves_related signal (quiet u) o o' p q = absurd p
  moves_related signal signal (quiet y) (quiet v) p q = refl
  moves_related signal signal (quiet y) signal p q = absurd q
  moves_related signal signal signal (quiet v) p q = absurd q
  moves_related signal signal signal signal p q = refl

-- ---- one chart

module _ {A : Type 0} (a : Automaton A) where
  pub alike_refl : (k : ℕ) (s : A) → alike_for a k s s ≡ true
  unfolding alike_for
  alike_refl zero s = refl
  alike_refl (suc k) s = all_pass a.zones _ (λ z h. moves_refl (alike_for a k) (alike_refl k) (a.move s z))

  pub alike_sym : (k : ℕ) (s t : A) → alike_for a k s t ≡ true → alike_for a k t s ≡ true
  unfolding alike_for
  alike_sym zero s t e = refl
  alike_sym (suc k) s t e =
      all_pass a.zones _ (λ z h. moves_sym (alike_for a k) (alike_sym k) (a.move s z) (a.move t z) (all_passes a.zones _ e z h))

  pub alike_trans : (k : ℕ) (r s t : A) → alike_for a k r s ≡ true → alike_for a k s t ≡ true → alike_for a k r t ≡ true
  unfolding alike_for
  alike_trans zero r s t d e = refl
  alike_trans (suc k) r s t d e =
      all_pass a.zones _
      (λ z h. moves_trans (alike_for a k) (alike_trans k) (a.move r z) (a.move s z) (a.move t z)
      (all_passes a.zones _ d z h) (all_passes a.zones _ e z h))

  -- the first point, and the k points behind it
  pub alike_step : (k : ℕ) (s t : A) → alike_for a (suc k) s t ≡ true → (z : ℕ) → z < a.zones
      → alike_moves (alike_for a k) (a.move s z) (a.move t z) ≡ true
  unfolding alike_for
  alike_step k s t e z h = all_passes a.zones _ e z h

  pub step_alike : (k : ℕ) (s t : A) → ((z : ℕ) → z < a.zones → alike_moves (alike_for a k) (a.move s z) (a.move t z) ≡ true)
      → alike_for a (suc k) s t ≡ true
  unfolding alike_for
  step_alike k s t e = all_pass a.zones _ e

  -- one point fewer tells no more apart
  pub alike_less : (k : ℕ) (s t : A) → alike_for a (suc k) s t ≡ true → alike_for a k s t ≡ true
  unfolding alike_for
  alike_less zero s t e = refl
  alike_less (suc k) s t e =
      all_pass a.zones _
      (λ z h. moves_map (alike_for a (suc k)) (alike_for a k) (alike_less k) (a.move s z) (a.move t z) (all_passes a.zones _ e z h))

  pub alike_fewer : (k d : ℕ) (s t : A) → alike_for a (k + d) s t ≡ true → alike_for a k s t ≡ true
  alike_fewer k zero s t e = rw (add-zero k) at e
  alike_fewer k (suc d) s t e = alike_fewer k d s t (alike_less (k + d) s t (rw (add-suc k d) at e))

  -- equal futures are told apart by no continuation
  pub future_alike : (k : ℕ) (s t : A) → EqualFuture a a s t → alike_for a k s t ≡ true
  unfolding alike_for
  future_alike zero s t e = refl
  future_alike (suc k) s t e =
      all_pass a.zones _
      (λ z h. moves_alike (alike_for a k) (EqualFuture a a) (future_alike k) (a.move s z) (a.move t z) (future_step a a e z h))

  -- told apart by no continuation, however long
  record NeverApart (s t : A) : Type 0 where
    never : (k : ℕ) → alike_for a k s t ≡ true

  never_kept : (s t : A) → NeverApart s t → (z : ℕ) → z < a.zones → Alike NeverApart (a.move s z) (a.move t z)
  unfolding alike_for Alike
  never_kept s t e z h = go (a.move s z) (a.move t z) (λ k. all_passes a.zones _ (e.never (suc k)) z h)
    where
      go : (m o : Move A) → ((k : ℕ) → alike_moves (alike_for a k) m o ≡ true) → Alike NeverApart m o
      go (quiet x) (quiet y) e = record { never = e }
      go (quiet x) signal e = true_not_false (sym (e 0))
      go signal (quiet y) e = true_not_false (sym (e 0))
      go signal signal e = tt

  -- they have equal futures
  pub alike_future : (s t : A) → ((k : ℕ) → alike_for a k s t ≡ true) → EqualFuture a a s t
  alike_future s t e = simulation_future a a NeverApart (record { same_zones = refl; kept = never_kept }) (record { never = e })

-- ---- two charts

-- what a simulation relates is told apart in both charts or in neither
module _ {A B : Type 0} (a : Automaton A) (b : Automaton B) (R : A → B → Type 0) (sim : Simulation a b R) where
  pub simulation_alike : (k : ℕ) (s t : A) (u v : B) → R s u → R t v → alike_for a k s t ≡ alike_for b k u v
  unfolding alike_for
  simulation_alike zero s t u v p q = refl
  simulation_alike (suc k) s t u v p q =
      all_cong a.zones _ _
      (λ z h. moves_related (alike_for a k) (alike_for b k) R (simulation_alike k) (a.move s z) (b.move u z) (a.move t z) (b.move v z)
      (sim.kept s u p z h) (sim.kept t v q z h))
      ∙ ap (λ n. all_of n (λ z. alike_moves (alike_for b k) (b.move u z) (b.move v z))) sim.same_zones
