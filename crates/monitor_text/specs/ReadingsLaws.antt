-- Laws of points and their nodes.
use Rattle.std.specs.Prelude.{ℕ, suc, ◌≤◌, ◌<◌, ◌≡◌, refl, Bool, true, false, cond, List, [], ◌∷◌, ◌++◌, length, ltb, eqb, ℤ}
use Rattle.std.proofs.Common.{ap, arith, lt-ltb, le-ltb, ltb-true, ltb-false, eq-eqb, ne_eqb}
use Rattle.monitor_text.specs.Readings.{NodeReading, node_reading, node_count, OnBench, bench_points, readings_of}

-- where no point is before a bad node but all are, every node is one of the bench's
pub all_bench : (ps : List NodeReading) → length ps ≤ bench_points ps → OnBench ps
unfolding bench_points OnBench
all_bench [] h = tt
all_bench (p ∷ ps) h = go (ltb p.node node_count) refl h (λ l. all_bench ps l)
  where
    go : (b : Bool) → ltb p.node node_count ≡ b → suc (length ps) ≤ cond b (suc (bench_points ps)) 0
        → (length ps ≤ bench_points ps → OnBench ps) → OnBench (p ∷ ps)
    go true e h f = (ltb-true _ _ e, f (omega arith))
    go false e h f = absurd (omega arith)

pub bench_all : (ps : List NodeReading) → OnBench ps → bench_points ps ≡ length ps
unfolding bench_points OnBench
bench_all [] o = refl
bench_all (p ∷ ps) o = rw (lt-ltb p.node node_count o.0) (omega (arith, bench_all ps o.1))

-- the first point whose node is none of the bench's
pub record FirstOff (ps : List NodeReading) : Type 0 where
  pub before : List NodeReading
  pub point : NodeReading
  pub after : List NodeReading
  pub split : ps ≡ before ++ (point ∷ after)
  pub good : OnBench before
  pub bad : node_count ≤ point.node
  pub place : length before ≡ bench_points ps

pub first_off : (ps : List NodeReading) → bench_points ps < length ps → FirstOff ps
unfolding bench_points OnBench
first_off [] h = absurd (omega arith)
first_off (p ∷ ps) h = go (ltb p.node node_count) refl h (λ l. first_off ps l)
  where
    go : (b : Bool) → ltb p.node node_count ≡ b → cond b (suc (bench_points ps)) 0 < suc (length ps)
        → (bench_points ps < length ps → FirstOff ps) → FirstOff (p ∷ ps)
    go true e h f =
        let r = f (omega arith) in
        record {
          before = p ∷ r.before;
          point = r.point;
          after = r.after;
          split = ap (λ (l : List NodeReading). p ∷ l) r.split;
          good = (ltb-true _ _ e, r.good);
          bad = r.bad;
          place = rw e (omega (arith, r.place));
        }
    go false e h f = record { before = []; point = p; after = ps; split = refl; good = tt; bad = ltb-false _ _ e; place = rw e }

pub off_place : (before : List NodeReading) (p : NodeReading) (after : List NodeReading) → OnBench before → node_count ≤ p.node
    → bench_points (before ++ (p ∷ after)) ≡ length before
unfolding bench_points OnBench
off_place [] p after o l = rw (le-ltb p.node node_count l)
off_place (q ∷ before) p after o l = rw (lt-ltb q.node node_count o.0) (omega (arith, off_place before p after o.1 l))

-- ---- one node's readings

pub readings_append : (node : ℕ) (ps qs : List NodeReading) → readings_of node (ps ++ qs) ≡ readings_of node ps ++ readings_of node qs
unfolding readings_of
readings_append node [] qs = refl
readings_append node (p ∷ ps) qs = go (eqb p.node node) (readings_append node ps qs)
  where
    go : (b : Bool) → readings_of node (ps ++ qs) ≡ readings_of node ps ++ readings_of node qs
        → cond b (p.reading ∷ readings_of node (ps ++ qs)) (readings_of node (ps ++ qs)) ≡ cond b (p.reading ∷ readings_of node ps) (readings_of node ps) ++ readings_of node qs
    go true e = ap (λ (l : List ℤ). p.reading ∷ l) e
    go false e = e

-- a point of the node, and one of another
pub reading_own : (node : ℕ) (x : ℤ) → readings_of node (node_reading node x ∷ []) ≡ x ∷ []
unfolding readings_of
reading_own node x = rw (eq-eqb node node refl)

pub reading_other : (node other : ℕ) (x : ℤ) → (other ≡ node → ⊥) → readings_of node (node_reading other x ∷ []) ≡ []
unfolding readings_of
reading_other node other x n = rw (ne_eqb other node n)

pub readings_few : (node : ℕ) (ps : List NodeReading) → length (readings_of node ps) ≤ length ps
unfolding readings_of
readings_few node [] = omega arith
readings_few node (p ∷ ps) = go (eqb p.node node) (readings_few node ps)
  where
    go : (b : Bool) → length (readings_of node ps) ≤ length ps
        → length (cond b (p.reading ∷ readings_of node ps) (readings_of node ps)) ≤ suc (length ps)
    go true h = omega arith
    go false h = omega arith
