-- One row: each state's new units, and what is left. Working definitions, and what the code of a row asks and leaves.
use Rattle.std.specs.Prelude.{◌≡◌, List, ℕ, ◌+◌, ◌-◌, ◌*◌, ◌/◌, ◌%◌, ◌≤◌, ◌<◌, length, get_or, set}
use Rattle.rules.specs.Bounds.{max_states}
use Rattle.runlength.specs.Sum.{sum, at}
use Rattle.runlength.specs.Scale.{weight_total, units_per_one}
use Rattle.sources.specs.Sources.{come}
use Rattle.sources.specs.Stops.{Stops}
use Rattle.next_row.specs.Arrivals.{Flows}

pub record CanRound (high low t left rest : ℕ) (nx : List ℕ) : Type 0 where
  pub room : t < length nx
  pub most : left + (high + low / weight_total) ≤ units_per_one
  pub small : rest + low % weight_total ≤ (max_states + 1) * weight_total

pub record Rounded (high low t left rest : ℕ) (nx nx' : List ℕ) (left' rest' : ℕ) : Type 0 where
  pub units : nx' ≡ set nx t (high + low / weight_total)
  pub left_more : left' ≡ left + (high + low / weight_total)
  pub rest_more : rest' ≡ rest + low % weight_total

-- the first t states have their new units in nx: what came in, divided once and rounded down; left is their sum, and rest what was rounded away
pub record Filled (us src fs ws gs : List ℕ) (t : ℕ) (nx : List ℕ) (left rest : ℕ) : Type 0 where
  pub units : (k : ℕ) → k < t → get_or nx k 0 ≡ come src fs ws gs (at us) k / weight_total
  pub total : left ≡ sum t (λ k. come src fs ws gs (at us) k / weight_total)
  pub value : left * weight_total + rest ≡ sum t (come src fs ws gs (at us))
  pub rest_most : rest ≤ t * weight_total

-- the states from b to before e have one group each, and those before b are done
pub record CanFill (us src fs ws gs : List ℕ) (b e left rest : ℕ) (nx : List ℕ) : Type 0 where
  pub flows : Flows us src fs ws gs e
  pub order : b ≤ e
  pub one : (k : ℕ) → b ≤ k → k < e → get_or gs (k + 1) 0 ≡ get_or gs k 0 + 1
  pub before : Filled us src fs ws gs b nx left rest
  pub room : e ≤ length nx

pub record CanRow (src fs ws gs st us : List ℕ) (total n : ℕ) (nx : List ℕ) : Type 0 where
  pub flows : Flows us src fs ws gs n
  pub stops : Stops gs n 0 st
  pub most : total ≤ units_per_one
  pub mass : sum n (come src fs ws gs (at us)) ≤ total * weight_total
  pub room : n ≤ length nx

-- after one row: what came into each state, divided once and rounded down; and what came into none
pub record RowDone (src fs ws gs us : List ℕ) (total n : ℕ) (nx : List ℕ) (p l : ℕ) : Type 0 where
  pub units : (t : ℕ) → t < n → get_or nx t 0 ≡ come src fs ws gs (at us) t / weight_total
  pub pmf : p ≡ (total * weight_total - sum n (come src fs ws gs (at us))) / weight_total
  pub survival : l ≡ sum n (λ t. come src fs ws gs (at us) t / weight_total)
  pub most : l ≤ units_per_one

-- asked only where units are left
pub record CanPoint (src fs ws gs st us : List ℕ) (total n : ℕ) (nx : List ℕ) : Type 0 where
  pub some : 0 < total → CanRow src fs ws gs st us total n nx

pub record PointDone (src fs ws gs us : List ℕ) (total n : ℕ) (nx nx' : List ℕ) (p l : ℕ) : Type 0 where
  pub same : length nx' ≡ length nx
  pub some : 0 < total → RowDone src fs ws gs us total n nx' p l
  pub none_pmf : total ≡ 0 → p ≡ 0
  pub none_survival : total ≡ 0 → l ≡ 0
  pub none_written : total ≡ 0 → nx' ≡ nx
