-- The merged states: two states are in one class exactly where they have equal futures; the merged chart has the future of the chart; and no
-- chart that first signals on the same sequences has fewer states. Laws.
use Prim.Native.Nat.{ℕ, zero, suc, ◌+◌, ◌≤◌, ◌<◌}
use Rattle.std.specs.Prelude.{◌≡◌, Bool, ◌↔◌, List, length}
use Rattle.std.proofs.Math.Path.{refl, sym, ap}
use Rattle.std.proofs.Common.{◌∙◌, add-zero}
use Rattle.std.proofs.Math.Bool.{true, false}
use native.Mathlib.Omega.{arith}
use Rattle.std.proofs.Math.Nat.{le_refl}
use Rattle.std.proofs.Math.Decide.{dec_lt}
use borrow.Author.Tests.{eq-eqb, eqb-true, ne_eqb}
use Rattle.std.proofs.Math.Dec.{eqb}
use Rattle.runlength.specs.Sum.{sum, only}
use Rattle.runlength.specs.SumLaws.{sum_more}
use Rattle.runlength.specs.Automaton.{Automaton, Move, quiet, signal, after}
use Rattle.runlength.specs.Future.{Alike, EqualFuture, Simulation}
use Rattle.runlength.proofs.FutureLaws.{simulation_future, future_step}
use Rattle.runlength.proofs.LowestLaws.{lowest_found}
use Rattle.runlength.specs.Merged.{lead_before, leader_for, leads_for, leaders_for, class_count, class_of, first_of, merged_move, merged_automaton}
use Rattle.runlength.proofs.LeadLaws.{lead_less, lead_most}
use Rattle.runlength.proofs.ClassLaws.{leader_most, leader_leads, first_leads, leader_future, future_leader}
use Rattle.runlength.specs.Fewest.{HoldsStates, CanBeReached}
use Rattle.runlength.proofs.FewestLaws.{fewest}

-- ---- numbers of classes

module _ (a : Automaton ℕ) (k : ℕ) where
  -- each number below that of all is one of a state that leads
  record Leading (m c i : ℕ) : Type 0 where
    below : i < m
    leads : leader_for a k i ≡ i
    number : leaders_for a k i ≡ c

  leading : (m c : ℕ) → c < leaders_for a k m → (i : ℕ) × Leading m c i
  unfolding lead_before sum
  leading zero c h = absurd (omega arith)
  leading (suc m) c h = go (leads_for a k m) refl (dec_lt c (leaders_for a k m)) (leading m c)
    where
      go : (b : Bool) → eqb (leader_for a k m) m ≡ b → Dec (c < leaders_for a k m) → (c < leaders_for a k m → (i : ℕ) × Leading m c i)
          → (i : ℕ) × Leading (suc m) c i
      go b e (yes l) r =
          let o = r l in
          (o.0, record { below = omega (arith, o.1.below); leads = o.1.leads; number = o.1.number })
      go true e (no l) r =
          let one : only (leads_for a k m) 1 ≡ 1 = ap (λ b. only b 1) e in
          (m, record { below = le_refl (suc m); leads = eqb-true (leader_for a k m) m e; number = omega arith })
      go false e (no l) r =
          let none : only (leads_for a k m) 1 ≡ 0 = ap (λ b. only b 1) e in
          absurd (omega arith)

-- ---- the classes

module _ (a : Automaton ℕ) (n : ℕ) where
  -- the class of a state that leads
  pub class_leads : (i : ℕ) → leader_for a n i ≡ i → class_of a n i ≡ leaders_for a n i
  unfolding class_of
  class_leads i e = ap (leaders_for a n) e

  pub class_start : class_of a n 0 ≡ 0
  unfolding class_of lead_before sum
  class_start = rw (first_leads a n)

  -- it is a number below that of the classes
  pub class_below : (i : ℕ) → i < n → class_of a n i < class_count a n
  unfolding class_of class_count
  class_below i h = lead_less (leader_for a n) (leader_for a n i) n (leader_leads a n i) (omega (arith, leader_most a n i))

  -- no more classes than states
  pub count_most : class_count a n ≤ n
  unfolding class_count
  count_most = lead_most (leader_for a n) n

  pub count_some : 0 < n → 0 < class_count a n
  count_some some = omega (arith, class_below 0 some)

  -- states of one leader are of one class, and states of one class have one leader
  pub same_class : (i j : ℕ) → leader_for a n i ≡ leader_for a n j → class_of a n i ≡ class_of a n j
  unfolding class_of
  same_class i j e = ap (leaders_for a n) e

  pub class_same : (i j : ℕ) → class_of a n i ≡ class_of a n j → leader_for a n i ≡ leader_for a n j
  unfolding class_of
  class_same i j e = go (dec_lt (leader_for a n i) (leader_for a n j)) (dec_lt (leader_for a n j) (leader_for a n i))
    where
      go : Dec (leader_for a n i < leader_for a n j) → Dec (leader_for a n j < leader_for a n i) → leader_for a n i ≡ leader_for a n j
      go (yes l) d = absurd (omega (arith, lead_less (leader_for a n) (leader_for a n i) (leader_for a n j) (leader_leads a n i) l))
      go (no k) (yes l) = absurd (omega (arith, lead_less (leader_for a n) (leader_for a n j) (leader_for a n i) (leader_leads a n j) l))
      go (no k) (no l) = omega arith

  -- the first state of the class of one that leads is this one
  pub first_is : (i : ℕ) → i < n → leader_for a n i ≡ i → first_of a n (leaders_for a n i) ≡ i
  unfolding first_of class_of
  first_is i h e = sym (lowest_found (λ j. eqb (class_of a n j) (leaders_for a n i)) n i (record {
    most = omega arith;
    hit = λ l. eq-eqb (class_of a n i) (leaders_for a n i) (class_leads i e);
    miss = λ j l. ne_eqb (class_of a n j) (leaders_for a n i) (λ q. before j l q);
  }))
    where
      before : (j : ℕ) → j < i → class_of a n j ≡ leaders_for a n i → ⊥
      before j l q = omega (arith, lead_less (leader_for a n) (leader_for a n j) i (leader_leads a n j) (omega (arith, leader_most a n j)))

  -- each class has a first state, which leads it
  pub record FirstOf (c i : ℕ) : Type 0 where
    pub below : i < n
    pub leads : leader_for a n i ≡ i
    pub class : class_of a n i ≡ c

  pub first_of_lem : (c : ℕ) → c < class_count a n → FirstOf c (first_of a n c)
  unfolding class_count
  first_of_lem c h =
      let o = leading a n n c h in
      let e : first_of a n c ≡ o.0 = ap (first_of a n) (sym o.1.number) ∙ first_is o.0 o.1.below o.1.leads in
      rw e (record { below = o.1.below; leads = o.1.leads; class = class_leads o.0 o.1.leads ∙ o.1.number })

  -- a sum over the classes, of what their first states have, is one over the states that lead
  leading_sum : (f : ℕ → ℕ) (i : ℕ) → i ≤ n → sum i (λ s. only (leads_for a n s) (f s)) ≡ sum (leaders_for a n i) (λ c. f (first_of a n c))
  unfolding sum lead_before
  leading_sum f zero h = refl
  leading_sum f (suc i) h = go (leads_for a n i) refl (leading_sum f i (omega arith))
    where
      go : (b : Bool) → eqb (leader_for a n i) i ≡ b
          → sum i (λ s. only (leads_for a n s) (f s)) ≡ sum (leaders_for a n i) (λ c. f (first_of a n c))
          → sum i (λ s. only (leads_for a n s) (f s)) + only b (f i) ≡ sum (leaders_for a n i + only b 1) (λ c. f (first_of a n c))
      go true e r =
          let first = first_is i (omega arith) (eqb-true (leader_for a n i) i e) in
          omega (arith, r, sum_more (leaders_for a n i) (λ c. f (first_of a n c)), ap f first)
      go false e r = omega (arith, r, ap (λ k. sum k (λ c. f (first_of a n c))) (add-zero (leaders_for a n i)))

  pub sum_classes : (f : ℕ → ℕ) → sum n (λ s. only (leads_for a n s) (f s)) ≡ sum (class_count a n) (λ c. f (first_of a n c))
  unfolding class_count
  sum_classes f = leading_sum f n (le_refl n)

  module _ (closed : (s z t : ℕ) → s < n → z < a.zones → a.move s z ≡ quiet t → t < n) where
    -- Two states are in one class exactly where they have equal futures.
    pub class_future : (i j : ℕ) → i < n → j < n → (class_of a n i ≡ class_of a n j) ↔ EqualFuture a a i j
    unfolding class_of
    class_future i j h l =
        (λ e. leader_future a n closed i j h l (class_same i j e), λ e. same_class i j (future_leader a n closed i j e))

    -- ---- the merged chart

    -- a state, and its class
    pub record OfClass (i c : ℕ) : Type 0 where
      pub below : i < n
      pub is : class_of a n i ≡ c

    alike_class : (m o : Move ℕ) → ((x : ℕ) → m ≡ quiet x → x < n) → ((y : ℕ) → o ≡ quiet y → y < n) → Alike (EqualFuture a a) m o
        → Alike OfClass m (after o signal (λ t. quiet (class_of a n t)))
    unfolding Alike
    alike_class (quiet x) (quiet y) f g e = record { below = f x refl; is = (class_future x y (f x refl) (g y refl)).1 e }
    alike_class (quiet x) signal f g e = absurd e
    alike_class signal (quiet y) f g e = absurd e
    alike_class signal signal f g e = tt

    class_kept : (i c : ℕ) → OfClass i c → (z : ℕ) → z < a.zones → Alike OfClass (a.move i z) (merged_move a n c z)
    unfolding merged_move
    class_kept i c p z h =
        let o = first_of_lem c (omega (arith, class_below i p.below, p.is)) in
        let e = (class_future i (first_of a n c) p.below o.below).0 (p.is ∙ sym o.class) in
        alike_class (a.move i z) (a.move (first_of a n c) z) (λ x. closed i z x p.below h) (λ y. closed (first_of a n c) z y o.below h)
        (future_step a a e z h)

    pub class_simulation : Simulation a (merged_automaton a n) OfClass
    class_simulation = record { same_zones = refl; kept = class_kept }

    -- The merged chart has, from the class of a state, the state's future.
    pub merged_future : (i : ℕ) → i < n → EqualFuture a (merged_automaton a n) i (class_of a n i)
    merged_future i h = simulation_future a (merged_automaton a n) OfClass class_simulation (record { below = h; is = refl })

    -- ---- fewest

    -- where every state is reached, no chart that first signals on the same sequences has fewer states than there are classes
    pub merged_fewest : ((i : ℕ) → i < n → CanBeReached a i) → {B : Type 0} (b : Automaton B) (xs : List B)
        → HoldsStates b xs → EqualFuture a b a.start b.start → class_count a n ≤ length xs
    merged_fewest reached b xs holds same =
        fewest a b xs holds same (class_count a n) (first_of a n) (λ c h. reached (first_of a n c) (first_of_lem c h).below)
        (λ c d l h e.
        let p = first_of_lem c (omega arith) in
        let q = first_of_lem d h in
        omega (arith, (class_future (first_of a n c) (first_of a n d) p.below q.below).1 e, p.class, q.class))
