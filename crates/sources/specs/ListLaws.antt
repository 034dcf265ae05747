-- Laws of the groups of all states.
use Rattle.std.specs.Prelude.{◌≡◌, Bool, List, ℕ, ◌+◌, ◌-◌, ◌*◌, ◌≤◌, ◌<◌, eqb, length, get_or, set, replicate}
use Rattle.std.proofs.Common.{sym, ap, ap₂, ◌∙◌, subst, arith, length-set, get_or-set_same, get_or-set_other, ne_eqb, below_more}
use Rattle.std.proofs.Math.Decide.{dec_lt}
use Rattle.std.proofs.lemmas.List.{length-replicate}
use Rattle.rules.specs.Bounds.{zone_count, max_states}
use Rattle.runlength.specs.Sum.{sum, only}
use Rattle.runlength.specs.SumLaws.{sum_more, sum_le, sum_upto, sum_const, sum_none, sum_swap, sum_pick}
use Rattle.runlength.specs.SetLaws.{ordered_set}
use Rattle.sources.specs.Marks.{CanMark, MarkedUpTo}
use Rattle.sources.specs.Sources.{come, Groups}
use Rattle.sources.specs.Grouping.{one, arrived, into, counted, CanGroupState, GroupingState, CanList, Listing}

-- an entry leads to one state at most
pick_most : (n a : ℕ) → sum n (λ t. only (eqb a t) 1) ≤ 1
pick_most n a = elim (dec_lt a n) [
  | yes h ↦ omega (arith, sum_pick n a 1 h)
  | no h ↦ omega (arith, sum_none n (λ t. only (eqb a t) 1) (λ t l. ap (λ (b : Bool). only b 1) (ne_eqb a t (omega arith))))
]

-- no more moves lead to the states than there are
counted_all : (m : List ℕ) (n : ℕ) → sum n (λ t. counted m n t zone_count) ≤ zone_count * n
unfolding counted arrived
counted_all m n = omega (
  arith,
  sum_swap n zone_count (λ t z. sum n (λ k. only (eqb (get_or m (zone_count * k + z) 0) t) 1)),
  sum_le zone_count (λ z. sum n (λ t. sum n (λ k. only (eqb (get_or m (zone_count * k + z) 0) t) 1))) (λ z. n) (λ z l. zone z),
  sum_const zone_count n,
)
  where
    zone : (z : ℕ) → sum n (λ t. sum n (λ k. only (eqb (get_or m (zone_count * k + z) 0) t) 1)) ≤ n
    zone z = omega (
      arith,
      sum_swap n n (λ t k. only (eqb (get_or m (zone_count * k + z) 0) t) 1),
      sum_le n (λ k. sum n (λ t. only (eqb (get_or m (zone_count * k + z) 0) t) 1)) one (λ k l. pick_most n (get_or m (zone_count * k + z) 0)),
      sum_const n 1,
    )

module _ {m : List ℕ} {n : ℕ} {w src₀ fs₀ ws₀ gs₀ : List ℕ} (p : CanList m n w src₀ fs₀ ws₀ gs₀) where
  no_group : Groups src₀ fs₀ ws₀ n 0
  no_group = record {
    inside = p.inside;
    light = p.light_shares;
    ordered = λ i j h l. let x : i ≡ j = omega arith in omega (arith, ap (λ (k : ℕ). get_or fs₀ k 0) x);
    within = omega (arith, p.first);
    each = λ i h. absurd (omega arith);
    firsts = omega (arith, p.firsts);
    shares = omega arith;
  }

  -- before the first state: there is room for the marks, and there is no group
  pub list_mark : CanMark m n (replicate (zone_count * max_states) 0)
  list_mark = record { moves = p.moves; room = omega (arith, length-replicate {A = ℕ} (zone_count * max_states) 0, p.moves.most) }

  pub list_start : Listing m n w src₀ fs₀ ws₀ gs₀ 0
  list_start = record {
    shape = record {
      groups = subst (λ (k : ℕ). Groups src₀ fs₀ ws₀ n k) (sym p.start) no_group;
      room = omega (arith, p.room);
      ordered = λ j k h l. let x : j ≡ k = omega arith in omega (arith, ap (λ (i : ℕ). get_or gs₀ i 0) x);
      few = λ k h. absurd (omega arith);
      begin = (p.first, p.start);
    };
    sums = λ k h. absurd (omega arith);
    most = omega (arith, p.start);
    end = omega (arith, p.first, ap (λ (k : ℕ). get_or fs₀ k 0) p.start);
  }

  module _ {t g : ℕ} {src fs ws gs : List ℕ} (l : t < n) (same_src : length src ≡ length src₀) (same_fs : length fs ≡ length fs₀) (same_ws : length ws ≡ length ws₀)
      (same-gs : length gs ≡ length gs₀) (e : g ≡ get_or gs t 0) (c : Listing m n w src fs ws gs t) where
    pub list_can : {ms : List ℕ} → MarkedUpTo m n (zone_count * n) ms → CanGroupState m n w t ms src fs ws g
    list_can k = record {
      target = l;
      marked = k;
      moves = p.moves;
      zones = p.zones;
      light = p.light;
      groups = subst (λ (k : ℕ). Groups src fs ws n k) (sym e) c.shape.groups;
      firsts = omega (arith, c.most, p.firsts);
      shares = omega (arith, c.most, p.shares);
      room = omega (
        arith,
        c.end,
        ap (λ (k : ℕ). get_or fs k 0) e,
        sum_more t (λ k. counted m n k zone_count),
        sum_upto (t + 1) n (λ k. counted m n k zone_count) (omega arith),
        counted_all m n,
        p.sources,
      );
      size = omega (arith, p.size);
    }

    module _ {src' fs' ws' : List ℕ} {r : ℕ} (q : GroupingState m n w t zone_count src fs ws g src' fs' ws' r) where
      pub list_last : get_or (set gs (t + 1) r) (t + 1) 0 ≡ r
      list_last = get_or-set_same gs (t + 1) r 0 (omega (arith, p.room))

      other : (k : ℕ) → k ≤ t → get_or (set gs (t + 1) r) k 0 ≡ get_or gs k 0
      other k h = get_or-set_other gs (t + 1) k r 0 (omega arith)

      fits_at : r ≤ zone_count * max_states
      fits_at = omega (arith, q.few, c.most, p.moves.most)

      -- an earlier target's groups send what they did
      before : (k : ℕ) → k < t → (u : ℕ → ℕ) → come src' fs' ws' (set gs (t + 1) r) u k ≡ into m n w u k zone_count
      unfolding come
      before k h u =
          rw (other k (omega arith), other (k + 1) (omega arith))
          (ap₂ (λ x y. x - y)
          (q.grown.kept (get_or gs (k + 1) 0) (omega (arith, c.shape.ordered (k + 1) t (omega arith) (omega arith))) u)
          (q.grown.kept (get_or gs k 0) (omega (arith, c.shape.ordered k t (omega arith) (omega arith))) u)
          ∙ c.sums k h u)

      last : (u : ℕ → ℕ) → come src' fs' ws' (set gs (t + 1) r) u t ≡ into m n w u t zone_count
      unfolding come
      last u = rw (list_last, other t (omega arith), ← e) (omega (arith, q.sums u, q.grown.kept g (omega arith) u))

      pub list_more : Listing m n w src' fs' ws' (set gs (t + 1) r) (t + 1)
      list_more = record {
        shape = record {
          groups = subst (λ (k : ℕ). Groups src' fs' ws' n k) (sym list_last) q.grown.groups;
          room = omega (arith, length-set gs (t + 1) r, p.room);
          begin = (q.grown.begin ∙ c.shape.begin.0, other 0 (omega arith) ∙ c.shape.begin.1);
          ordered = ordered_set gs t r (omega (arith, p.room)) (omega (arith, q.grown.least)) c.shape.ordered;
          few = below_more _ _ (λ k h. omega (arith, other k (omega arith), other (k + 1) (omega arith), c.shape.few k h))
              (omega (arith, list_last, other t (omega arith), q.few));
        };
        sums = below_more _ _ before last;
        most = omega (arith, list_last, q.few, c.most);
        end = omega (
          arith,
          ap (λ (k : ℕ). get_or fs' k 0) list_last,
          ap (λ (k : ℕ). get_or fs k 0) e,
          q.end,
          c.end,
          sum_more t (λ k. counted m n k zone_count),
        );
      }

    -- the number of groups is one of the list of groups
    module _ {src' fs' ws' : List ℕ} {x r : ℕ} (y : x ≡ t) (q : GroupingState m n w x zone_count src fs ws g src' fs' ws' r) where
      pub list_fits : r ≤ zone_count * max_states
      list_fits = fits_at (rw y at q)

-- at the last state all are listed
pub list_done : {m : List ℕ} {n : ℕ} {w src fs ws gs : List ℕ} {t : ℕ} → t ≤ n → n ≤ t → Listing m n w src fs ws gs t
    → Listing m n w src fs ws gs n
list_done {n = n} {t = t} x y c = let e : t ≡ n = omega arith in rw e at c
