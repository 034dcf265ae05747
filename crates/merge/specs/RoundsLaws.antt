-- A round looks one point further ahead; the first round that moves no leader is the last. Laws.
use Rattle.std.specs.Prelude.{ℕ, suc, ◌+◌, ◌-◌, ◌*◌, ◌≤◌, ◌<◌, ◌≡◌, refl, Bool, true, false, cond, List, eqb, ltb, length, take, replicate}
use Rattle.std.proofs.Common.{sym, ap, ◌∙◌, arith, add-one, ltb-true, eq-eqb, ne_eqb, eqb-true, get_or-take}
use Rattle.std.proofs.Math.Seq.{length-take-le}
use Rattle.std.proofs.lemmas.List.{get_or-replicate}
use Rattle.rules.specs.Bounds.{zone_count, max_states}
use Rattle.runlength.specs.Sum.{at}
use Rattle.runlength.specs.Automaton.{quiet, signal}
use Rattle.runlength.specs.Listed.{entry_move}
use Rattle.runlength.proofs.LowestLaws.{lowest_cong, lowest_zero}
use Rattle.runlength.specs.Apart.{alike_moves, alike_for}
use Rattle.runlength.proofs.ApartLaws.{same_test_by, all_cong}
use Rattle.runlength.specs.Merged.{leader_for}
use Rattle.runlength.proofs.ClassLaws.{leader_lowest, leader_most, same_leader, leader_same, leader_later, same_settled, settled_leader}
use Rattle.merge.specs.Merge.{given_automaton}
use Rattle.merge.specs.MergeLaws.{given_closed}
use Rattle.merge.specs.Rounds.{label_of, agreeing, next_leader, HasRoom, Skips, HoldsLeaders, SkipNone, NextLeaders}

module _ {n : ℕ} {m l : List ℕ} {k : ℕ} (few : n ≤ max_states) (p : HoldsLeaders n m l k) where
  -- labels are equal exactly where k points behind the move do not tell the states apart
  label_alike : (x y : ℕ) → eqb (label_of n l x) (label_of n l y) ≡ alike_moves (alike_for (given_automaton n m) k) (entry_move n x) (entry_move n y)
  label_alike x y = go (ltb x n) refl (ltb y n) refl
    where
      a : (i : ℕ) → i < n → at l i < max_states
      a i h = omega (arith, p.is i h, leader_most (given_automaton n m) k i)

      go : (b : Bool) → ltb x n ≡ b → (c : Bool) → ltb y n ≡ c
          → eqb (cond b (at l x) max_states) (cond c (at l y) max_states)
          ≡ alike_moves (alike_for (given_automaton n m) k) (cond b (quiet x) signal) (cond c (quiet y) signal)
      go true e true f =
          let h = ltb-true x n e in
          let i = ltb-true y n f in
          same_test_by (eqb (at l x) (at l y)) (alike_for (given_automaton n m) k x y)
          (λ q. leader_same (given_automaton n m) k x y (sym (p.is x h) ∙ eqb-true (at l x) (at l y) q ∙ p.is y i))
          (λ q. eq-eqb (at l x) (at l y) (p.is x h ∙ same_leader (given_automaton n m) k x y q ∙ sym (p.is y i)))
      go true e false f = ne_eqb (at l x) max_states (λ q. omega (arith, a x (ltb-true x n e)))
      go false e true f = ne_eqb max_states (at l y) (λ q. omega (arith, a y (ltb-true y n f)))
      go false e false f = eq-eqb max_states max_states refl

  agreeing_alike : (i j : ℕ) → agreeing n m l i j ≡ alike_for (given_automaton n m) (suc k) i j
  unfolding agreeing alike_for
  agreeing_alike i j = all_cong zone_count _ _ (λ z h. label_alike (at m (zone_count * i + z)) (at m (zone_count * j + z)))

  -- one round looks one point further ahead
  pub next_leader_lem : (i : ℕ) → next_leader n m l i ≡ leader_for (given_automaton n m) (suc k) i
  unfolding next_leader leader_for
  next_leader_lem i = lowest_cong _ _ i (λ j h. agreeing_alike j i)

  -- no state before the leader so far is the next one
  pub leaders_skip : (i : ℕ) → i < n → Skips n m l i
  leaders_skip i h = record {
    most = omega (arith, p.is i h, leader_most (given_automaton n m) k i);
    skip = λ j g. agreeing_alike j i
        ∙ (leader_lowest (given_automaton n m) (suc k) i).miss j (omega (arith, p.is i h, leader_later (given_automaton n m) k i));
  }

  -- a leader never comes before the one so far
  pub next_later : (i : ℕ) → i < n → at l i ≤ next_leader n m l i
  next_later i h = omega (arith, next_leader_lem i, p.is i h, leader_later (given_automaton n m) k i)

  -- nor after its state
  pub next_most : (i : ℕ) → next_leader n m l i ≤ i
  next_most i = omega (arith, next_leader_lem i, leader_most (given_automaton n m) (suc k) i)

  module _ (next : List ℕ) (e : (i : ℕ) → i < n → at next i ≡ next_leader n m l i) where
    -- what the next round leaves
    pub next_holds : HoldsLeaders n m next (k + 1)
    next_holds = record { is = λ i h. rw (add-one k) (e i h ∙ next_leader_lem i) }

    -- where no leader has moved, these are the leaders by as many points as there are states
    none_moved : k ≤ n → next ≡ l → HoldsLeaders n m l n
    none_moved le still =
        let same = same_settled (given_automaton n m) n (given_closed n m) k
        (λ i h. sym (next_leader_lem i) ∙ sym (e i h) ∙ ap (λ x. at x i) still ∙ p.is i h) in
        let all : k + (n - k) ≡ n = omega arith in
        record {
          is = λ i h. p.is i h ∙ sym (settled_leader (given_automaton n m) n (given_closed n m) k (n - k) same i h)
              ∙ ap (λ d. leader_for (given_automaton n m) d i) all;
        }

-- ---- rounds

-- as many rounds as there are states
pub held_all : {n : ℕ} {m l : List ℕ} {k : ℕ} → HoldsLeaders n m l k → k ≡ n → HoldsLeaders n m l n
held_all {n} {m} {l} p e = record { is = λ i h. p.is i h ∙ ap (λ d. leader_for (given_automaton n m) d i) e }

-- by no point at all every state is led by the first
pub none_held : {n : ℕ} {m l : List ℕ} → ((i : ℕ) → i < n → at l i ≡ 0) → HoldsLeaders n m l 0
unfolding leader_for alike_for
none_held e = record { is = λ i h. e i h ∙ sym (lowest_zero i) }

-- the list of leaders is a slice of the first n places, at first 0
pub none_taken : {n : ℕ} {m : List ℕ} → n ≤ max_states → HoldsLeaders n m (take n (replicate max_states 0)) 0
none_taken {n} few =
    none_held (λ i h. get_or-take n (replicate max_states 0) i 0 h ∙ get_or-replicate {A = ℕ} max_states i 0 0 (omega arith))

module _ {n : ℕ} {m : List ℕ} (l : List ℕ) {k : ℕ} (room : HasRoom n m) (fits : n ≤ length l)
    (p : HoldsLeaders n m (take n l) k) where
  long : length (take n l) ≡ n
  long = length-take-le n l fits

  pub round_can : SkipNone m (take n l)
  round_can = record { skips = rw long (leaders_skip room.few p) }

  module _ (next : List ℕ) (r : NextLeaders m (take n l) next (length (take n l))) where
    taken : (i : ℕ) → i < n → at (take n next) i ≡ next_leader n m (take n l) i
    taken i h = get_or-take n next i 0 h ∙ r.is i (omega (arith, long)) ∙ ap (λ x. next_leader x m (take n l) i) long

    -- the last round
    pub round_last : k ≤ n → take n next ≡ take n l → HoldsLeaders n m (take n l) n
    round_last = none_moved room.few p (take n next) taken

    pub round_next : HoldsLeaders n m (take n next) (k + 1)
    round_next = next_holds room.few p (take n next) taken
