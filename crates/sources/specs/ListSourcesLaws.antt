-- What comes into a state by zones is what the chain's moves lead to it: so the lists are what the rows rely on.
use Rattle.std.specs.Prelude.{◌≡◌, refl, Bool, true, false, cond, List, ℕ, ◌+◌, ◌*◌, ◌<◌, eqb, ltb, length, get_or, replicate}
use Rattle.std.proofs.Common.{sym, ◌∙◌, mul-zero, mul_comm, arith, ne_eqb, ltb-false}
use Rattle.std.proofs.lemmas.List.{length-replicate}
use Rattle.rules.specs.Bounds.{zone_count, max_states}
use Rattle.runlength.specs.Sum.{only, at}
use Rattle.runlength.specs.SumLaws.{sum_cong, sum_term, sum_mul, sum_swap}
use Rattle.runlength.specs.Automaton.{quiet, signal, after}
use Rattle.runlength.specs.Chain.{inflow}
use Rattle.runlength.specs.Listed.{entry_move, listed_chain}
use Rattle.runlength.specs.SetLaws.{get_d_zeros}
use Rattle.sources.specs.Sources.{Lent, CanListSources, SourcesListed}
use Rattle.sources.specs.Grouping.{arrived, into, CanList, Listing}
use Rattle.sources.specs.Stops.{CanListStops, Stops}
use Rattle.sources.specs.AlikeZones.{CanJoin, Joined}

-- a move's part for a state
to_state : (n x t v a : ℕ) → t < n → a * only (eqb x t) v ≡ after (entry_move n x) 0 (λ r. only (eqb r t) (v * a))
to_state n x t v a h = go (ltb x n) refl
  where
    part : (o : Bool) → a * only o v ≡ only o (v * a)
    part true = mul_comm a v
    part false = mul-zero a

    go : (b : Bool) → ltb x n ≡ b → a * only (eqb x t) v ≡ after (cond b (quiet x) signal) 0 (λ r. only (eqb r t) (v * a))
    go true e = part (eqb x t)
    go false e = rw (ne_eqb x t (omega (arith, ltb-false x n e))) (mul-zero a)

into_inflow : (m : List ℕ) (n : ℕ) (w : List ℕ) (u : ℕ → ℕ) (t : ℕ) → t < n
    → into m n w u t zone_count ≡ inflow (listed_chain zone_count n m (at w)) u t
unfolding into arrived inflow
into_inflow m n w u t h =
    sum_cong zone_count _ _
    (λ z l. sym (sum_mul n (get_or w z 0) (λ s. only (eqb (get_or m (zone_count * s + z) 0) t) (u s)))
    ∙ sum_cong n _ _ (λ s k. to_state n (get_or m (zone_count * s + z) 0) t (u s) (get_or w z 0) h))
    ∙ sum_swap zone_count n (λ z s. after (entry_move n (get_or m (zone_count * s + z) 0)) 0 (λ r. only (eqb r t) (u s * get_or w z 0)))

module _ {m : List ℕ} {n : ℕ} {w src fs ws gs st : List ℕ} (p : CanListSources m n w src fs ws gs st) where
  -- the weights can be joined
  pub join_of : CanJoin m n w (replicate zone_count 0)
  join_of = record {
    moves = record { many = p.many; most = p.most };
    zones = p.zones;
    weights = p.total;
    room = length-replicate {A = ℕ} zone_count 0;
    none = get_d_zeros zone_count;
  }

  zeros : {l : List ℕ} (k i : ℕ) → l ≡ replicate k 0 → get_or l i 0 ≡ 0
  zeros k i e = rw e (get_d_zeros k i)

  long : {l : List ℕ} (k : ℕ) → l ≡ replicate k 0 → length l ≡ k
  long k e = rw e (length-replicate {A = ℕ} k 0)

  pub list_of : {j : List ℕ} → Joined m n w j → CanList m n j src fs ws gs
  list_of {j} q = record {
    moves = record { many = p.many; most = p.most };
    zones = omega (arith, q.room);
    light = λ z l. omega (arith, sum_term zone_count z (at j) l, q.total, p.total);
    sources = omega (arith, long (zone_count * max_states) p.sources, p.most);
    firsts = omega (arith, long (zone_count * max_states + 1) p.firsts, p.most);
    shares = omega (arith, long (zone_count * max_states) p.shares, p.most);
    room = omega (arith, long (max_states + 1) p.groups, p.most);
    size = omega (arith, long (zone_count * max_states) p.sources);
    inside = record { inside = λ k. omega (arith, zeros (zone_count * max_states) k p.sources, p.some) };
    light_shares = record { light = λ k. omega (arith, zeros (zone_count * max_states) k p.shares) };
    first = zeros (zone_count * max_states + 1) 0 p.firsts;
    start = zeros (max_states + 1) 0 p.groups;
  }

  -- the stretches of the groups can be listed
  pub stops_of : {j src' fs' ws' gs' : List ℕ} → Listing m n j src' fs' ws' gs' n → CanListStops gs' n st
  stops_of g = record { most = p.most; groups = g.shape.room; room = omega (arith, long (max_states + 1) p.stops, p.most) }

  pub listed_of : {j src' fs' ws' gs' st' : List ℕ} → Joined m n w j → Listing m n j src' fs' ws' gs' n → Stops gs' n 0 st'
      → SourcesListed m n w src' fs' ws' gs' st'
  listed_of q g s = record {
    shape = g.shape;
    stops = s;
    sums = λ t l u. g.sums t l u ∙ q.sums u t ∙ into_inflow m n w u t l;
  }

-- lists that are lent are the lists
pub lent_listed : {m : List ℕ} {n : ℕ} {w src fs ws gs st src' fs' ws' gs' st' : List ℕ} → SourcesListed m n w src fs ws gs st
    → Lent src fs ws gs st src' fs' ws' gs' st' → SourcesListed m n w src' fs' ws' gs' st'
lent_listed l e = rw (e.sources, e.firsts, e.shares, e.groups, e.stops) l
