-- Laws of one row.
use Rattle.std.specs.Prelude.{◌≡◌, List, ℕ, ◌+◌, ◌-◌, ◌*◌, ◌/◌, ◌%◌, ◌≤◌, ◌<◌, length, get_or}
use Rattle.std.proofs.Common.{sym, ap, ◌∙◌, arith, get_or-set_same, get_or-set_other, below_more}
use Rattle.runlength.specs.Sum.{sum, at}
use Rattle.runlength.specs.SumLaws.{sum_zero, sum_more, sum_upto}
use Rattle.runlength.specs.Scale.{weight_total}
use Rattle.sources.specs.Sources.{come}
use Rattle.next_row.specs.Arrivals.{Flows, Arrived}
use Rattle.next_row.specs.ArrivalsLaws.{flows_upto}
use Rattle.next_row.specs.OneRow.{CanRound, Rounded, Filled, CanFill, CanRow, RowDone, PointDone}

pub fill_start : (us src fs ws gs nx : List ℕ) → Filled us src fs ws gs 0 nx 0 0
fill_start us src fs ws gs nx = record {
  units = λ k h. absurd (omega arith);
  total = sym (sum_zero _);
  value = omega (arith, sum_zero (come src fs ws gs (at us)));
  rest_most = omega arith;
}

module _ {us src fs ws gs : List ℕ} {n t high low left rest : ℕ} {nx : List ℕ} (p : Flows us src fs ws gs n) (l : t < n)
    (c : Filled us src fs ws gs t nx left rest) (a : Arrived us src fs ws gs t high low) where
  new : high + low / weight_total ≡ come src fs ws gs (at us) t / weight_total
  new = omega (arith, a.value)

  value : (left + (high + low / weight_total)) * weight_total + (rest + low % weight_total) ≡ sum (t + 1) (come src fs ws gs (at us))
  value = omega (arith, a.value, c.value, sum_more t (come src fs ws gs (at us)))

  pub round_can : n ≤ length nx → CanRound high low t left rest nx
  round_can r = record {
    room = omega arith;
    most = omega (arith, value, sum_upto (t + 1) n (come src fs ws gs (at us)) (omega arith), p.mass);
    small = omega (arith, c.rest_most, p.size);
  }

  pub fill_more : {nx' : List ℕ} {left' rest' : ℕ} → t < length nx → Rounded high low t left rest nx nx' left' rest'
      → Filled us src fs ws gs (t + 1) nx' left' rest'
  fill_more {nx'} r q =
      let v : ℕ = high + low / weight_total in
      record {
        units = below_more _ _ (λ k h. ap (λ (z : List ℕ). get_or z k 0) q.units ∙ get_or-set_other nx t k v 0 (omega arith) ∙ c.units k h)
            (ap (λ (z : List ℕ). get_or z t 0) q.units ∙ get_or-set_same nx t v 0 r ∙ new);
        total = omega (arith, q.left_more, c.total, new, sum_more t (λ k. come src fs ws gs (at us) k / weight_total));
        value = omega (arith, value, q.left_more, q.rest_more);
        rest_most = omega (arith, c.rest_most, q.rest_more);
      }

-- at the last state all are filled
pub fill_done : {us src fs ws gs : List ℕ} {n t : ℕ} {nx : List ℕ} {left rest : ℕ} → t ≤ n → n ≤ t → Filled us src fs ws gs t nx left rest
    → Filled us src fs ws gs n nx left rest
fill_done {n = n} {t = t} x y c = let e : t ≡ n = omega arith in rw e at c

-- the group of a state of a stretch
module _ {us src fs ws gs : List ℕ} {b e left rest : ℕ} {nx : List ℕ} (p : CanFill us src fs ws gs b e left rest nx) where
  pub stretch_first : get_or gs b 0 ≤ get_or gs e 0
  stretch_first = p.flows.rise b e p.order (omega arith)

  pub stretch_in : {t g : ℕ} → b ≤ t → t < e → g ≡ get_or gs t 0 → g < get_or gs e 0
  stretch_in {t} h l x = omega (arith, p.one t h l, p.flows.rise (t + 1) e (omega arith) (omega arith))

  pub stretch_next : {t g : ℕ} → b ≤ t → t < e → g ≡ get_or gs t 0 → g + 1 ≡ get_or gs (t + 1) 0
  stretch_next {t} h l x = omega (arith, p.one t h l)

module _ {src fs ws gs st us : List ℕ} {total n : ℕ} {nx : List ℕ} (p : CanRow src fs ws gs st us total n nx) where
  -- the stretch from the first state not done
  pub stretch_can : {b e left rest : ℕ} {nx' : List ℕ} → b ≤ n → e ≡ get_or st b 0 → n ≤ length nx' → Filled us src fs ws gs b nx' left rest
      → CanFill us src fs ws gs b e left rest nx'
  stretch_can {b} {e} h i o c = record {
    flows = flows_upto p.flows (omega (arith, p.stops.most b (omega arith) h));
    order = omega (arith, p.stops.least b (omega arith) h);
    one = λ k x y. p.stops.one b k (omega arith) x (omega arith) h;
    before = c;
    room = omega (arith, p.stops.most b (omega arith) h);
  }

  -- what is left and what was rounded away is no more than there was, and the row is done
  module _ {nx' : List ℕ} {left rest : ℕ} (c : Filled us src fs ws gs n nx' left rest) where
    pub row_fits : left + (rest + (weight_total - 1)) / weight_total ≤ total
    row_fits = omega (arith, c.value, p.mass)

    pub row_done : RowDone src fs ws gs us total n nx' (total - left - (rest + (weight_total - 1)) / weight_total) left
    row_done = record {
      units = c.units;
      pmf = omega (arith, c.value, p.mass);
      survival = c.total;
      most = omega (arith, row_fits, p.most);
    }

-- a point where units are left is a row
pub point_some : {src fs ws gs us : List ℕ} {total n : ℕ} {nx nx' : List ℕ} {a b : ℕ} → (total ≡ 0 → ⊥) → length nx' ≡ length nx
    → RowDone src fs ws gs us total n nx' a b → PointDone src fs ws gs us total n nx nx' a b
point_some e x r = record {
  same = x;
  some = λ o. r;
  none_pmf = λ o. absurd (e o);
  none_survival = λ o. absurd (e o);
  none_written = λ o. absurd (e o);
}
