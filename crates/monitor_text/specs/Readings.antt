-- TO BELIEVE: the points of a text, and the nodes of a bench. Definitions.
use Rattle.std.specs.Prelude.{ℕ, suc, ◌<◌, cond, List, [], ◌∷◌, ltb, eqb, ℤ}

-- a point: the node it is of, and its reading
pub record NodeReading : Type 0 where
  pub node : ℕ
  pub reading : ℤ

abbrev pub node_reading : ℕ → ℤ → NodeReading
node_reading node x = record { node = node; reading = x }

-- the nodes of a bench: 0 to 15
abbrev pub node_count : ℕ
node_count = 16

-- each point's node is one of them
unfoldable pub OnBench : List NodeReading → Type 0
OnBench [] = Unit {0}
OnBench (p ∷ ps) = (p.node < node_count) × OnBench ps

-- how many points there are before the first whose node is none of them
unfoldable pub bench_points : List NodeReading → ℕ
bench_points [] = 0
bench_points (p ∷ ps) = cond (ltb p.node node_count) (suc (bench_points ps)) 0

-- the readings of one node, in their order
unfoldable pub readings_of : ℕ → List NodeReading → List ℤ
readings_of node [] = []
readings_of node (p ∷ ps) = cond (eqb p.node node) (p.reading ∷ readings_of node ps) (readings_of node ps)
