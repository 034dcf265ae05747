-- Laws of the stretches.
use Rattle.std.specs.Prelude.{◌≡◌, List, ℕ, ◌+◌, ◌≤◌, ◌<◌, get_or, set}
use Rattle.std.proofs.Common.{sym, ap, ◌∙◌, arith, length-set, get_or-set_same, get_or-set_other}
use Rattle.std.proofs.Math.Decide.{ℕ_discrete}
use Rattle.sources.specs.Stops.{StopOf, CanListStops, Stops}

module _ {gs : List ℕ} {n : ℕ} {st₀ : List ℕ} (p : CanListStops gs n st₀) where
  pub stops_start : {v : ℕ} → v ≡ n → Stops gs n n (set st₀ n v)
  stops_start {v} e =
      let here : get_or (set st₀ n v) n 0 ≡ v = get_or-set_same st₀ n v 0 p.room in
      let at_n : (t : ℕ) → n ≤ t → t ≤ n → get_or (set st₀ n v) t 0 ≡ n = λ t x y. let z : t ≡ n = omega arith in rw z (here ∙ e) in
      record {
        room = omega (arith, length-set st₀ n v, p.room);
        least = λ t x y. omega (arith, at_n t x y);
        most = λ t x y. omega (arith, at_n t x y);
        one = λ t k x y z l. absurd (omega (arith, at_n t x l));
      }

module _ {gs : List ℕ} {n b t : ℕ} {st : List ℕ} (l : t < n) (o : b ≡ t + 1) (d : Stops gs n b st) {x r : ℕ} (e : x ≡ t)
    (q : StopOf (get_or gs t 0) (get_or gs (t + 1) 0) x (get_or st (t + 1) 0) r) where
  c : Stops gs n (t + 1) st
  c = rw o at d

  here : get_or (set st t r) t 0 ≡ r
  here = get_or-set_same st t r 0 (omega (arith, c.room))

  other : (k : ℕ) → t + 1 ≤ k → get_or (set st t r) k 0 ≡ get_or st k 0
  other k h = get_or-set_other st t k r 0 (omega arith)

  new_least : t ≤ r
  new_least = elim (ℕ_discrete (get_or gs t 0 + 1) (get_or gs (t + 1) 0)) [
    | yes i ↦ omega (arith, q.one i, c.least (t + 1) (omega arith) (omega arith))
    | no i ↦ omega (arith, q.other i)
  ]

  new_most : r ≤ n
  new_most = elim (ℕ_discrete (get_or gs t 0 + 1) (get_or gs (t + 1) 0)) [
    | yes i ↦ omega (arith, q.one i, c.most (t + 1) (omega arith) (omega arith))
    | no i ↦ omega (arith, q.other i)
  ]

  new_one : (k : ℕ) → t ≤ k → k < r → get_or gs (k + 1) 0 ≡ get_or gs k 0 + 1
  new_one k h i = elim (ℕ_discrete (get_or gs t 0 + 1) (get_or gs (t + 1) 0)) [
    | yes y ↦ elim (ℕ_discrete k t) [
      | yes a ↦ rw a (sym y)
      | no a ↦ c.one (t + 1) k (omega arith) (omega arith) (omega (arith, q.one y)) (omega arith)
    ]
    | no y ↦ absurd (omega (arith, q.other y))
  ]

  pub stops_more : Stops gs n t (set st t r)
  stops_more = record {
    room = omega (arith, length-set st t r, c.room);
    least = λ k h i. elim (ℕ_discrete k t) [
      | yes a ↦ rw (a, here) new_least
      | no a ↦ rw (other k (omega arith)) (c.least k (omega arith) i)
    ];
    most = λ k h i. elim (ℕ_discrete k t) [
      | yes a ↦ rw (a, here) new_most
      | no a ↦ rw (other k (omega arith)) (c.most k (omega arith) i)
    ];
    one = λ k j h i z y. elim (ℕ_discrete k t) [
      | yes a ↦ new_one j (omega arith) (omega (arith, here, ap (λ (b : ℕ). get_or (set st t r) b 0) a))
      | no a ↦ c.one k j (omega arith) i (omega (arith, other k (omega arith))) y
    ];
  }

pub stops_done : {gs : List ℕ} {n t : ℕ} {st : List ℕ} → t ≤ 0 → Stops gs n t st → Stops gs n 0 st
stops_done {t = t} h c = let e : t ≡ 0 = omega arith in rw e at c
