-- No chart that first signals on the same sequences has fewer states than another has that are reached and have different futures.
use Rattle.std.specs.Prelude.{ℕ, ◌≤◌, ◌<◌, ◌≡◌, length}
use Rattle.std.proofs.Math.Path.{refl}
use mathlib.Core.List.{List, Memᴰ}
use Rattle.runlength.specs.Automaton.{Automaton, Move, quiet, signal}
use Rattle.runlength.specs.Future.{Alike, EqualFuture}
use Rattle.runlength.proofs.FutureLaws.{future_sym, future_trans, future_step}
use Rattle.runlength.specs.Fewest.{HoldsStates, CanBeReached}
use Rattle.runlength.specs.PigeonholeLaws.{pigeonhole}

-- ---- the law

module _ {A B : Type 0} (a : Automaton A) (b : Automaton B) (xs : List B) (holds : HoldsStates b xs)
    (same : EqualFuture a b a.start b.start) where
  -- the other chart has a state with the same future
  record Partner (s : A) : Type 0 where
    state : B
    held : Memᴰ state xs
    future : EqualFuture a b s state

  partner_on : (r t : A) (z : ℕ) → Partner r → z < a.zones → a.move r z ≡ quiet t → Partner t
  unfolding Alike
  partner_on r t z p h e =
      go (b.move p.state z) refl (rw e at (future_step a b p.future z h))
    where
      go : (m : Move B) → b.move p.state z ≡ m → Alike (EqualFuture a b) (quiet t) m → Partner t
      go (quiet u) q f =
          record { state = u; held = holds.has_next p.state p.held z (rw (← same.same_zones) h) u q; future = f }
      go signal q f = absurd f

  partner : (s : A) → CanBeReached a s → Partner s
  partner s r = r.by Partner (record { state = b.start; held = holds.has_start; future = same }) partner_on

  -- n states that are reached, no two with equal futures: the other chart has no fewer
  module _ (n : ℕ) (f : ℕ → A) (reached : (i : ℕ) → i < n → CanBeReached a (f i))
      (apart : (i j : ℕ) → i < j → j < n → EqualFuture a a (f i) (f j) → ⊥) where
    partners_apart : (i j : ℕ) (h : i < n) (l : j < n) → i < j → (partner (f i) (reached i h)).state ≡ (partner (f j) (reached j l)).state → ⊥
    partners_apart i j h l k same-state =
        let p = partner (f i) (reached i h) in
        let o = partner (f j) (reached j l) in
        apart i j k l (future_trans a b a (rw same-state at p.future) (future_sym a b o.future))

    pub fewest : n ≤ length xs
    fewest =
        pigeonhole n xs (λ i h. (partner (f i) (reached i h)).state) (λ i h. (partner (f i) (reached i h)).held) partners_apart
