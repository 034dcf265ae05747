-- Laws of equal futures: how to show one, that it is an equivalence, and that it gives equal exact distributions.
use Rattle.std.proofs.Math.Path.{◌≡◌, refl, ap}
use Rattle.std.proofs.Common.{sym, ap₂, ◌∙◌, arith, eq-eqb, ne_eqb, eqb-true}
use Rattle.std.specs.Prelude.{Bool, ◌&&◌, length}
use Rattle.std.proofs.Math.Bool.{true, false}
use mathlib.Core.List.{List, [], ◌∷◌}
use Prim.Native.Nat.{ℕ, suc, ◌*◌, ◌<◌}
use Rattle.std.proofs.lemmas.Bool.{eqb-false}
use Rattle.std.proofs.Math.Dec.{eqb}
use Rattle.runlength.specs.Sum.{only, sum_sequences}
use Rattle.runlength.specs.Sequence.{AllBelow}
use Rattle.runlength.specs.SequenceLaws.{sequences_cong}
use Rattle.runlength.specs.Automaton.{Automaton, Move, quiet, signal, after, product, signals, run_length, exact_cdf, exact_restricted_mean}
use Rattle.runlength.specs.Future.{Alike, EqualFuture, SameFirstSignals, Simulation}

-- a test of two numbers is one of the next ones
test_suc : (i j : ℕ) → eqb (suc i) (suc j) ≡ eqb i j
test_suc i j = go (eqb i j) refl
  where
    go : (b : Bool) → eqb i j ≡ b → eqb (suc i) (suc j) ≡ b
    go true e = eq-eqb (suc i) (suc j) (ap suc (eqb-true i j e))
    go false e = ne_eqb (suc i) (suc j) (λ q. eqb-false i j e (omega arith))

-- alike moves bring the same where only a signal brings anything
pub to_signal : {A B : Type 0} (R : A → B → Type 0) (x : ℕ) (o : Move A) (k : Move B) → Alike R o k → after o x (λ r. 0) ≡ after k x (λ r. 0)
unfolding Alike
to_signal R x (quiet s) (quiet t) p = refl
to_signal R x (quiet s) signal p = absurd p
to_signal R x signal (quiet t) p = absurd p
to_signal R x signal signal p = refl

-- equal futures, the other way round
pub future_sym : {A B : Type 0} (a : Automaton A) (b : Automaton B) {s : A} {t : B} → EqualFuture a b s t → EqualFuture b a t s
future_sym a b e = record {
  same_zones = sym e.same_zones;
  same_signals = λ q i. sym (e.same_signals q (rw e.same_zones i));
  same_run_length = λ q i. sym (e.same_run_length q (rw e.same_zones i));
}

-- equal futures, one after the other
pub future_trans : {A B C : Type 0} (a : Automaton A) (b : Automaton B) (c : Automaton C) {r : A} {s : B} {t : C}
    → EqualFuture a b r s → EqualFuture b c s t → EqualFuture a c r t
future_trans a b c e f = record {
  same_zones = e.same_zones ∙ f.same_zones;
  same_signals = λ q i. e.same_signals q i ∙ f.same_signals q (rw (← e.same_zones) i);
  same_run_length = λ q i. e.same_run_length q i ∙ f.same_run_length q (rw (← e.same_zones) i);
}

module _ {A B : Type 0} (a : Automaton A) (b : Automaton B) where
  module _ (R : A → B → Type 0) (sim : Simulation a b R) where
    -- related states signal on the same sequences
    simulation_signals : (q : List ℕ) → AllBelow a.zones q → (s : A) (t : B) → R s t → signals a s q ≡ signals b t q
    unfolding signals AllBelow Alike
    simulation_signals [] i s t r = refl
    simulation_signals (z ∷ q) i s t r = each (a.move s z) (b.move t z) refl refl (sim.kept s t r z i.0) (simulation_signals q i.1)
      where
        each : (m : Move A) (k : Move B) → a.move s z ≡ m → b.move t z ≡ k → Alike R m k → ((x : A) (y : B) → R x y → signals a x q ≡ signals b y q)
            → signals a s (z ∷ q) ≡ signals b t (z ∷ q)
        each (quiet x) (quiet y) d e h f = rw (d, e) (f x y h)
        each (quiet x) signal d e h f = absurd h
        each signal (quiet y) d e h f = absurd h
        each signal signal d e h f = rw (d, e)

    -- and have the same run lengths
    simulation_run_length : (q : List ℕ) → AllBelow a.zones q → (s : A) (t : B) → R s t → run_length a s q ≡ run_length b t q
    unfolding run_length AllBelow Alike
    simulation_run_length [] i s t r = refl
    simulation_run_length (z ∷ q) i s t r = each (a.move s z) (b.move t z) refl refl (sim.kept s t r z i.0) (simulation_run_length q i.1)
      where
        each : (m : Move A) (k : Move B) → a.move s z ≡ m → b.move t z ≡ k → Alike R m k → ((x : A) (y : B) → R x y → run_length a x q ≡ run_length b y q)
            → run_length a s (z ∷ q) ≡ run_length b t (z ∷ q)
        each (quiet x) (quiet y) d e h f = rw (d, e, f x y h)
        each (quiet x) signal d e h f = absurd h
        each signal (quiet y) d e h f = absurd h
        each signal signal d e h f = rw (d, e)

    -- states that a simulation relates have equal futures
    pub simulation_future : {s : A} {t : B} → R s t → EqualFuture a b s t
    simulation_future {s} {t} r = record {
      same_zones = sim.same_zones;
      same_signals = λ q i. simulation_signals q i s t r;
      same_run_length = λ q i. simulation_run_length q i s t r;
    }

  -- one point on, both signal, or both go on to states with equal futures
  pub future_step : {s : A} {t : B} → EqualFuture a b s t → (z : ℕ) → z < a.zones → Alike (EqualFuture a b) (a.move s z) (b.move t z)
  unfolding signals run_length AllBelow Alike
  future_step {s} {t} e z i =
      each (a.move s z) (b.move t z) (λ q j. e.same_signals (z ∷ q) (i, j)) (λ q j. e.same_run_length (z ∷ q) (i, j))
    where
      each : (m : Move A) (k : Move B)
          → ((q : List ℕ) → AllBelow a.zones q → after m true (λ x. signals a x q) ≡ after k true (λ y. signals b y q))
          → ((q : List ℕ) → AllBelow a.zones q → suc (after m 0 (λ x. run_length a x q)) ≡ suc (after k 0 (λ y. run_length b y q)))
          → Alike (EqualFuture a b) m k
      each (quiet x) (quiet y) f g =
          record { same_zones = e.same_zones; same_signals = f; same_run_length = λ q j. omega (arith, g q j) }
      each (quiet x) signal f g = let o : false ≡ true = f [] tt in absurd (let n : ◌≡◌ {A = ℕ} 0 1 = cc in omega arith)
      each signal (quiet y) f g = let o : true ≡ false = f [] tt in absurd (let n : ◌≡◌ {A = ℕ} 0 1 = cc in omega arith)
      each signal signal f g = tt

  -- ---- the sequences that first signal

  -- equal futures first signal on the same sequences
  pub future_first : {s : A} {t : B} → EqualFuture a b s t → SameFirstSignals a b s t
  future_first {s} {t} e = record {
    same_zones = e.same_zones;
    same_first = λ q i. ap₂ (λ o k. o && eqb k (length q)) (e.same_signals q i) (e.same_run_length q i);
  }

  first_kept : (s : A) (t : B) → SameFirstSignals a b s t → (z : ℕ) → z < a.zones → Alike (SameFirstSignals a b) (a.move s z) (b.move t z)
  unfolding signals run_length AllBelow Alike
  first_kept s t e z i = each (a.move s z) (b.move t z) (λ q j. e.same_first (z ∷ q) (i, j))
    where
      each : (m : Move A) (k : Move B)
          → ((q : List ℕ) → AllBelow a.zones q
          → (after m true (λ x. signals a x q) && eqb (suc (after m 0 (λ x. run_length a x q))) (suc (length q)))
          ≡ (after k true (λ y. signals b y q) && eqb (suc (after k 0 (λ y. run_length b y q))) (suc (length q))))
          → Alike (SameFirstSignals a b) m k
      each (quiet x) (quiet y) f = record {
        same_zones = e.same_zones;
        same_first = λ q j.
            ap (λ o. signals a x q && o) (sym (test_suc (run_length a x q) (length q))) ∙ f q j
            ∙ ap (λ o. signals b y q && o) (test_suc (run_length b y q) (length q));
      }
      each (quiet x) signal f = let o : false ≡ true = f [] tt in absurd (let n : ◌≡◌ {A = ℕ} 0 1 = cc in omega arith)
      each signal (quiet y) f = let o : true ≡ false = f [] tt in absurd (let n : ◌≡◌ {A = ℕ} 0 1 = cc in omega arith)
      each signal signal f = tt

  -- and the other way round
  pub first_future : {s : A} {t : B} → SameFirstSignals a b s t → EqualFuture a b s t
  first_future {s} {t} e = simulation_future (SameFirstSignals a b) (record { same_zones = e.same_zones; kept = first_kept }) e

  module _ (e : EqualFuture a b a.start b.start) (weight : ℕ → ℕ) where
    -- equal futures of the starts, equal cdfs
    pub future_cdf : (n : ℕ) → exact_cdf a weight n ≡ exact_cdf b weight n
    unfolding exact_cdf
    future_cdf n =
        sequences_cong a.zones n (λ q k i. ap (λ o. only o (product weight q)) (e.same_signals q i))
        ∙ ap (λ k. sum_sequences k n (λ q. only (signals b b.start q) (product weight q))) e.same_zones

    -- equal restricted means
    pub future_mean : (h : ℕ) → exact_restricted_mean a weight h ≡ exact_restricted_mean b weight h
    unfolding exact_restricted_mean
    future_mean h =
        sequences_cong a.zones h (λ q k i. ap (λ r. product weight q * r) (e.same_run_length q i))
        ∙ ap (λ k. sum_sequences k h (λ q. product weight q * run_length b b.start q)) e.same_zones

-- ---- the same moves

-- a state below n, and the same one again
pub record SameBelow (n i j : ℕ) : Type 0 where
  pub below : i < n
  pub is : i ≡ j

-- charts with the same moves below n, which no quiet move leaves, keep step
module _ (a b : Automaton ℕ) (n : ℕ) (zones : a.zones ≡ b.zones)
    (closed : (s z t : ℕ) → s < n → z < a.zones → a.move s z ≡ quiet t → t < n)
    (same : (s z : ℕ) → s < n → z < a.zones → a.move s z ≡ b.move s z) where
  alike_same : (m : Move ℕ) → ((t : ℕ) → m ≡ quiet t → t < n) → Alike (SameBelow n) m m
  unfolding Alike
  alike_same (quiet t) f = record { below = f t refl; is = refl }
  alike_same signal f = tt

  pub same_simulation : Simulation a b (SameBelow n)
  same_simulation = record {
    same_zones = zones;
    kept = λ s t p z h. rw (sym p.is, sym (same s z p.below h)) (alike_same (a.move s z) (λ r. closed s z r p.below h));
  }
