-- Laws of the first state of a class, by continuations of up to k points; and as many points as there are states tell apart all that differ.
use Prim.Native.Nat.{ℕ, zero, suc, ◌+◌, ◌≤◌, ◌<◌}
use Rattle.std.specs.Prelude.{◌≡◌, Bool, ◌⊎◌}
use Rattle.std.proofs.Math.Path.{refl, ap}
use Rattle.std.proofs.Common.{sym, ◌∙◌, arith, le_refl, add-zero, add-suc, add_comm}
use Rattle.std.proofs.Math.Bool.{true, false}
use Rattle.std.proofs.Math.Logic.{inl, inr}
use Rattle.std.proofs.Math.Decide.{dec_lt, dec_le}
use borrow.Author.Tests.{eq-eqb, eqb-true}
use Rattle.std.proofs.Math.Dec.{eqb}
use Rattle.runlength.specs.Sum.{only}
use Rattle.runlength.specs.SumLaws.{sum_term, sum_tight}
use Rattle.runlength.specs.Automaton.{Automaton, Move, quiet, signal}
use Rattle.runlength.specs.Future.{EqualFuture}
use Rattle.runlength.specs.Lowest.{Lowest}
use Rattle.runlength.proofs.LowestLaws.{lowest_is}
use Rattle.runlength.specs.Apart.{alike_moves, alike_for}
use Rattle.runlength.proofs.ApartLaws.{true_not_false, alike_refl, alike_sym, alike_trans, alike_less, alike_fewer, alike_step, step_alike, alike_future, future_alike}
use Rattle.runlength.specs.Merged.{lead_before, leader_for, leads_for, leaders_for}
use Rattle.runlength.proofs.LeadLaws.{lead_most}

module _ (a : Automaton ℕ) where
  module _ (k : ℕ) where
    pub leader_lowest : (i : ℕ) → Lowest (λ j. alike_for a k j i) i (leader_for a k i)
    unfolding leader_for
    leader_lowest i = lowest_is (λ j. alike_for a k j i) i

    -- it is not after the state
    pub leader_most : (i : ℕ) → leader_for a k i ≤ i
    leader_most i = (leader_lowest i).most

    -- it is not told from the state
    pub leader_alike : (i : ℕ) → alike_for a k (leader_for a k i) i ≡ true
    leader_alike i = go (dec_lt (leader_for a k i) i)
      where
        go : Dec (leader_for a k i < i) → alike_for a k (leader_for a k i) i ≡ true
        go (yes l) = (leader_lowest i).hit l
        go (no l) =
            let e : leader_for a k i ≡ i = omega (arith, leader_most i) in
            ap (λ j. alike_for a k j i) e ∙ alike_refl a k i

    -- states that are not told apart have the same
    not_before : (i j : ℕ) → alike_for a k i j ≡ true → leader_for a k j ≤ leader_for a k i
    not_before i j e = go (dec_lt (leader_for a k i) (leader_for a k j))
      where
        go : Dec (leader_for a k i < leader_for a k j) → leader_for a k j ≤ leader_for a k i
        go (yes l) =
            absurd (true_not_false (sym (alike_trans a k (leader_for a k i) i j (leader_alike i) e) ∙ (leader_lowest j).miss (leader_for a k i) l))
        go (no l) = omega arith

    pub same_leader : (i j : ℕ) → alike_for a k i j ≡ true → leader_for a k i ≡ leader_for a k j
    same_leader i j e = omega (arith, not_before i j e, not_before j i (alike_sym a k i j e))

    -- and the other way round
    pub leader_same : (i j : ℕ) → leader_for a k i ≡ leader_for a k j → alike_for a k i j ≡ true
    leader_same i j e =
        alike_trans a k i (leader_for a k i) j (alike_sym a k (leader_for a k i) i (leader_alike i))
        (ap (λ r. alike_for a k r j) e ∙ leader_alike j)

    -- it is its own
    pub leader_leads : (i : ℕ) → leader_for a k (leader_for a k i) ≡ leader_for a k i
    leader_leads i = same_leader (leader_for a k i) i (leader_alike i)

    -- the first state of all leads
    pub first_leads : leader_for a k 0 ≡ 0
    first_leads = omega (arith, leader_most 0)

  -- what leads goes on to lead
  lead_on : (k i : ℕ) → leader_for a k i ≡ i → leader_for a (suc k) i ≡ i
  lead_on k i e =
      let r = leader_for a (suc k) i in
      let q = same_leader k r i (alike_less a k r i (leader_alike (suc k) i)) in
      omega (arith, leader_most (suc k) i, leader_most k r)

  -- a leader by k + 1 points is not before the one by k
  pub leader_later : (k i : ℕ) → leader_for a k i ≤ leader_for a (suc k) i
  leader_later k i =
      let r = leader_for a (suc k) i in
      let q = same_leader k r i (alike_less a k r i (leader_alike (suc k) i)) in
      omega (arith, leader_most k r)

  -- ---- n states, which no quiet move leaves

  module _ (n : ℕ) (closed : (s z t : ℕ) → s < n → z < a.zones → a.move s z ≡ quiet t → t < n) where
    -- one point more tells no more of the states apart
    pub record LastRound (k : ℕ) : Type 0 where
      pub on : (i j : ℕ) → i < n → j < n → alike_for a k i j ≡ true → alike_for a (suc k) i j ≡ true

    -- so do two
    settled_next : (k : ℕ) → LastRound k → LastRound (suc k)
    settled_next k p = record {
      on = λ i j h l e. step_alike a (suc k) i j (λ z g. go i j z h l g (alike_step a k i j e z g));
    }
      where
        each : (m o : Move ℕ) → ((x : ℕ) → m ≡ quiet x → x < n) → ((x : ℕ) → o ≡ quiet x → x < n)
            → alike_moves (alike_for a k) m o ≡ true → alike_moves (alike_for a (suc k)) m o ≡ true
        each (quiet x) (quiet y) f g e = p.on x y (f x refl) (g y refl) e
        each (quiet x) signal f g e = e
        each signal (quiet y) f g e = e
        each signal signal f g e = refl

        go : (i j z : ℕ) → i < n → j < n → z < a.zones → alike_moves (alike_for a k) (a.move i z) (a.move j z) ≡ true
            → alike_moves (alike_for a (suc k)) (a.move i z) (a.move j z) ≡ true
        go i j z h l g e = each (a.move i z) (a.move j z) (λ x. closed i z x h g) (λ x. closed j z x l g) e

    settled_on : (k d : ℕ) → LastRound k → LastRound (k + d)
    settled_on k zero p = rw (add-zero k) p
    settled_on k (suc d) p = rw (add-suc k d) (settled_next (k + d) (settled_on k d p))

    -- and any number
    pub settled_alike : (k d : ℕ) → LastRound k → (i j : ℕ) → i < n → j < n → alike_for a k i j ≡ true → alike_for a (k + d) i j ≡ true
    settled_alike k zero p i j h l e = rw (add-zero k) e
    settled_alike k (suc d) p i j h l e = rw (add-suc k d) ((settled_on k d p).on i j h l (settled_alike k d p i j h l e))

    -- a round that changes no leader is the last
    pub same_settled : (k : ℕ) → ((i : ℕ) → i < n → leader_for a (suc k) i ≡ leader_for a k i) → LastRound k
    same_settled k same = record {
      on = λ i j h l e. leader_same (suc k) i j (same i h ∙ same_leader k i j e ∙ sym (same j l));
    }

    -- the leaders stay
    pub settled_leader : (k d : ℕ) → LastRound k → (i : ℕ) → i < n → leader_for a (k + d) i ≡ leader_for a k i
    settled_leader k d p i h =
        let r = leader_for a k i in
        let s = leader_for a (k + d) i in
        let b = leader_most k i in
        let c = leader_most (k + d) i in
        let e = same_leader (k + d) r i (settled_alike k d p r i (omega arith) h (leader_alike k i)) in
        let f = same_leader k s i (alike_fewer a k d s i (leader_alike (k + d) i)) in
        omega (arith, leader_most (k + d) r, leader_most k s)

    -- ---- as many points as states

    more_lead : (k i : ℕ) → i < n → only (leads_for a k i) 1 ≤ only (leads_for a (suc k) i) 1
    more_lead k i h = go (leads_for a k i) refl
      where
        go : (b : Bool) → eqb (leader_for a k i) i ≡ b → only b 1 ≤ only (leads_for a (suc k) i) 1
        go true e = rw (eq-eqb (leader_for a (suc k) i) i (lead_on k i (eqb-true (leader_for a k i) i e))) (le_refl 1)
        go false e = omega arith

    -- where no more lead, no leader changes
    stall : (k : ℕ) → leaders_for a (suc k) n ≤ leaders_for a k n → LastRound k
    unfolding lead_before
    stall k few = same_settled k (λ i h. go i h)
      where
        led : (i : ℕ) → i < n → leader_for a (suc k) i ≡ i → leader_for a k i ≡ i
        led i h e = by (leads_for a k i) refl (sum_tight n _ _ (more_lead k) few i h)
          where
            by : (b : Bool) → eqb (leader_for a k i) i ≡ b → only (leads_for a (suc k) i) 1 ≤ only b 1 → leader_for a k i ≡ i
            by true q l = eqb-true (leader_for a k i) i q
            by false q l = let s = rw (eq-eqb (leader_for a (suc k) i) i e) at l in absurd (omega arith)

        go : (i : ℕ) → i < n → leader_for a (suc k) i ≡ leader_for a k i
        go i h =
            let r = leader_for a (suc k) i in
            let m = leader_most (suc k) i in
            sym (led r (omega arith) (leader_leads (suc k) i)) ∙ same_leader k r i (alike_less a k r i (leader_alike (suc k) i))

    climbs : 0 < n → (k : ℕ) → LastRound k ⊎ (k < leaders_for a k n)
    unfolding lead_before
    climbs some zero =
        let one : only (leads_for a 0 0) 1 ≡ 1 = ap (λ b. only b 1) (eq-eqb (leader_for a 0 0) 0 (first_leads 0)) in
        inr (omega (arith, sum_term n 0 (λ j. only (leads_for a 0 j) 1) some))
    climbs some (suc k) = go (climbs some k) (dec_le (leaders_for a (suc k) n) (leaders_for a k n))
      where
        go : LastRound k ⊎ (k < leaders_for a k n) → Dec (leaders_for a (suc k) n ≤ leaders_for a k n) → LastRound (suc k) ⊎ (suc k < leaders_for a (suc k) n)
        go (inl p) d = inl (settled_next k p)
        go (inr l) (yes h) = inl (settled_next k (stall k h))
        go (inr l) (no h) = inr (omega arith)

    -- n points are enough
    pub settled : 0 < n → LastRound n
    settled some = go (climbs some n)
      where
        go : LastRound n ⊎ (n < leaders_for a n n) → LastRound n
        go (inl p) = p
        go (inr l) = absurd (omega (arith, lead_most (leader_for a n) n))

    -- two of the n states have the same first state exactly where they have equal futures
    pub leader_future : (i j : ℕ) → i < n → j < n → leader_for a n i ≡ leader_for a n j → EqualFuture a a i j
    leader_future i j h l e =
        alike_future a i j
        (λ k. alike_fewer a k n i j (rw (add_comm k n) (settled_alike n k (settled (omega arith)) i j h l (leader_same n i j e))))

    pub future_leader : (i j : ℕ) → EqualFuture a a i j → leader_for a n i ≡ leader_for a n j
    future_leader i j e = same_leader n i j (future_alike a n i j e)
