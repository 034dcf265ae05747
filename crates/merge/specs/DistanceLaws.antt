-- What a round written over a list knows after each turn, and by the distance whether it was the last. Laws.
use Rattle.std.specs.Prelude.{ℕ, ◌+◌, ◌-◌, ◌≤◌, ◌<◌, ◌≡◌, List, length, set, replicate}
use Rattle.std.proofs.Math.Path.{refl, sym, ap}
use Rattle.std.proofs.Common.{◌∙◌, arith, length-set}
use Rattle.std.proofs.lemmas.List.{length-replicate, get_or-replicate}
use Rattle.rules.specs.Bounds.{max_states}
use Rattle.runlength.specs.Sum.{at, sum, front}
use Rattle.runlength.specs.SumLaws.{sum_zero, sum_more, sum_term}
use Rattle.runlength.specs.TabLaws.{front_none, front_more, front_at}
use Rattle.runlength.specs.Merged.{leader_for}
use Rattle.runlength.proofs.ClassLaws.{same_settled, settled_leader}
use Rattle.merge.specs.Merge.{given_automaton, Mergeable}
use Rattle.merge.specs.MergeLaws.{given_closed}
use Rattle.merge.specs.Rounds.{next_leader, HoldsLeaders}
use Rattle.merge.specs.RoundsLaws.{next_leader_lem, leaders_skip, next_later, next_most, next_holds, none_held}
use Rattle.merge.specs.Distance.{HasRoomFor, Refinable, Refined}

-- ---- a round

module _ (n : ℕ) (m l before : List ℕ) where
  -- to begin with nothing is written and nothing has moved
  pub refined_none : Refined n m l before before 0 0
  refined_none = record { written = front_none _ _; distance = sym (sum_zero _); same_room = refl; most = omega arith }

  module _ {next : List ℕ} {i moved leader old : ℕ} (can : Refinable n m l before) (p : Refined n m l before next i moved) (h : i < n)
      (e : leader ≡ next_leader n m l i) (f : old ≡ at l i) where
    -- the leader of one state more: the distance does not go below 0, the leader fits, and the round goes on
    pub refined_sub : old ≤ leader
    refined_sub = omega (arith, (can.later i h).0)

    pub refined_fits : leader < max_states
    refined_fits = omega (arith, (can.later i h).1, can.has_room.few)

    pub refined_more : Refined n m l before (set next i leader) (i + 1) (moved + (leader - old))
    refined_more = record {
      written = front_more i (next_leader n m l) before next leader (omega (arith, can.next_room)) p.written e;
      distance = rw (e, f) (omega (arith, p.distance, sum_more i (λ s. next_leader n m l s - at l s)));
      same_room = length-set next i leader ∙ p.same_room;
      most = omega (arith, p.most, refined_fits);
    }

  -- after all states
  pub refined_all : {next : List ℕ} {i moved : ℕ} → Refined n m l before next i moved → i ≡ n → Refined n m l before next n moved
  refined_all p e = rw e at p

-- ---- the distance

module _ {n : ℕ} {m l : List ℕ} {k : ℕ} (few : n ≤ max_states) (p : HoldsLeaders n m l k) where
  -- where no leader has moved, these are the leaders by as many points as there are states
  pub moved_none : k ≤ n → sum n (λ i. next_leader n m l i - at l i) ≡ 0 → HoldsLeaders n m l n
  moved_none le none =
      let same = same_settled (given_automaton n m) n (given_closed n m) k
      (λ i h. sym (next_leader_lem few p i)
      ∙ omega (arith, next_later few p i h, sum_term n i (λ j. next_leader n m l j - at l j) h) ∙ p.is i h) in
      let e : k + (n - k) ≡ n = omega arith in
      record {
        is = λ i h. p.is i h ∙ sym (settled_leader (given_automaton n m) n (given_closed n m) k (n - k) same i h)
            ∙ ap (λ d. leader_for (given_automaton n m) d i) e;
      }

-- ---- rounds

-- room for another list of leaders of the same length
pub room_kept : {n : ℕ} {m l l' : List ℕ} → HasRoomFor n m l → length l' ≡ length l → HasRoomFor n m l'
room_kept p e = record { few = p.few; moves = p.moves; room = omega (arith, p.room) }

module _ {n : ℕ} {m l next : List ℕ} {k : ℕ} (room : HasRoomFor n m l) (p : HoldsLeaders n m l k) where
  -- leaders by so many points are ready for a round
  pub round_can : n ≤ length next → Refinable n m l next
  round_can h = record {
    has_room = room;
    next_room = h;
    skips = leaders_skip room.few p;
    later = λ i g. (next_later room.few p i g, next_most room.few p i);
  }

  module _ {next' : List ℕ} {moved : ℕ} (r : Refined n m l next next' n moved) where
    -- the last round
    pub round_last : k ≤ n → moved ≡ 0 → HoldsLeaders n m l n
    round_last h e = moved_none room.few p h (sym r.distance ∙ e)

    -- the leaders of the next round, copied
    pub round_next : {l' : List ℕ} → l' ≡ front n (at next') l → HoldsLeaders n m l' (k + 1)
    round_next e = next_holds room.few p _ (λ i h.
        ap (λ x. at x i) e ∙ front_at n (at next') l i h ∙ ap (λ x. at x i) r.written ∙ front_at n (next_leader n m l) next i h)

-- ---- the list of zeros that merging begins with

module _ {n : ℕ} {m merged : List ℕ} (p : Mergeable n m merged) where
  -- the rounds can begin
  pub rounds_of : HasRoomFor n m (replicate max_states 0) × (n ≤ max_states) × HoldsLeaders n m (replicate max_states 0) 0
  rounds_of = (
    record { few = p.few; moves = p.moves; room = omega (arith, p.few, length-replicate {A = ℕ} max_states 0) },
    p.few,
    none_held (λ i h. get_or-replicate {A = ℕ} max_states i 0 0 (omega (arith, p.few))),
  )
