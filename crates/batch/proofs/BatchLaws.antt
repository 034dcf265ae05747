-- Laws of a batch: what it is refused by, how it ends, and one reading more of those that are left.
use Rattle.std.specs.Prelude.{◌≡◌, true, false, ℕ, ◌+◌, ◌≤◌, ◌<◌, ℤ, pos, length, get_or, Err, None, Ok, Some}
use Rattle.std.proofs.Math.Path.{refl, ap}
use Rattle.std.proofs.Common.{sym, ◌∙◌, add-one, drop_of_length-le, drop-cons}
use Rattle.std.proofs.Math.Logic.{⊎_elim}
use mathlib.Core.List.{List, [], ◌∷◌}
use native.Mathlib.Omega.{arith}
use Rattle.std.proofs.Math.ListN.{drop}
use Rattle.rules.specs.declared.RuleList.{RuleList}
use Rattle.rules.specs.declared.refusal.Refusal.{Refusal}
use Rattle.rules.specs.Bounds.{max_number}
use Rattle.rules.specs.Check.{Checked, within, active_rules, check_of}
use Rattle.rules.specs.Refusal.{bad_sigma, bad_state, bad_count}
use Rattle.monitor.specs.declared.Monitor.{Monitor}
use Rattle.monitor.specs.declared.Taken.{Taken}
use Rattle.window.specs.State.{valid_state}
use Rattle.monitor.specs.Step.{fresh_monitor}
use Rattle.monitor.specs.Take.{next_of, step_taken}
use Rattle.window.specs.WindowLaws.{le_or_lt}
use Rattle.monitor.specs.Reading.{reading_step, reading_check, Readable, point_at}
use Rattle.monitor.proofs.ReadingLaws.{reading_refused, reading_accepted, check_bad_rules, check_bad_sigma, check_bad_state, check_bad_count, check_accepted}
use Rattle.monitor.proofs.ReadingLaws.{reading_bad_count, reading_taken, reading_next}
use Rattle.monitor.specs.Zone.{min_sigma, max_sigma}
use Rattle.batch.specs.declared.Batch.{Batch}
use Rattle.batch.specs.Batch.{none_taken, after, batch_by, readings_from, checked_batch, batch_of, Ends, unrefused, full, Left}

-- ---- the check

module _ (l : RuleList) (m : Monitor) (centre : ℤ) (sigma : ℕ) (xs : List ℤ) where
  by_check : (c : Checked) → reading_check l m sigma ≡ c → batch_of l m centre sigma xs ≡ checked_batch c m (readings_from l m centre sigma xs)
  unfolding batch_of
  by_check c e = rw e

  pub batch_refused : (y : Refusal) → reading_check l m sigma ≡ Err y → batch_of l m centre sigma xs ≡ none_taken (Some y) m
  batch_refused y e = by_check (Err y) e

  pub rules_refused : (y : Refusal) → check_of l ≡ Err y → batch_of l m centre sigma xs ≡ none_taken (Some y) m
  rules_refused y e = batch_refused y (check_bad_rules l m sigma y e)

  module _ (ok : check_of l ≡ Ok tt) where
    pub sigma_refused : within min_sigma max_sigma sigma ≡ false → batch_of l m centre sigma xs ≡ none_taken (Some bad_sigma) m
    sigma_refused e = batch_refused bad_sigma (check_bad_sigma l m sigma ok e)

    pub state_refused : within min_sigma max_sigma sigma ≡ true
        → valid_state m.count (active_rules l) m.state ≡ false
        → batch_of l m centre sigma xs ≡ none_taken (Some bad_state) m
    state_refused fits e = batch_refused bad_state (check_bad_state l m sigma ok fits e)

  module _ (r : Readable l sigma m) where
    pub count_refused : max_number ≤ m.count → batch_of l m centre sigma xs ≡ none_taken (Some bad_count) m
    count_refused h = batch_refused bad_count (check_bad_count l m sigma r h)

    pub batch_taken : m.count < max_number → batch_of l m centre sigma xs ≡ readings_from l m centre sigma xs
    batch_taken h = by_check (Ok tt) (check_accepted l m sigma r h)

-- The check is that of a first reading: where there is one, it changes nothing.
pub batch_some : (l : RuleList) (m : Monitor) (centre : ℤ) (sigma : ℕ) (x : ℤ) (xs : List ℤ)
    → batch_of l m centre sigma (x ∷ xs) ≡ readings_from l m centre sigma (x ∷ xs)
unfolding readings_from
batch_some l m centre sigma x xs = go (reading_check l m sigma) refl
  where
    go : (c : Checked) → reading_check l m sigma ≡ c → batch_of l m centre sigma (x ∷ xs) ≡ readings_from l m centre sigma (x ∷ xs)
    go (Ok _) e = by_check l m centre sigma (x ∷ xs) (Ok tt) e
    go (Err y) e = by_check l m centre sigma (x ∷ xs) (Err y) e ∙ rw (reading_refused l m sigma y e centre x)

-- ---- how it ends

ends_after : (b : Batch Refusal) → Ends b → Ends (after 1 b)
ends_after b (unrefused e) = unrefused e
ends_after b (full e t c) = full e (omega arith) c

-- by the step of a reading that is taken
ends_taken : (m : Monitor) (count : ℕ) (t : Taken) (rest : Monitor → Batch Refusal) → Ends (after 1 (rest (next_of t))) → Ends (batch_by m (Ok (step_taken count t)) rest)
ends_taken m count (Taken.Quiet next) rest e = e
ends_taken m count (Taken.Signal mask) rest e = unrefused refl

module _ (l : RuleList) (centre : ℤ) (sigma : ℕ) where
  abbrev readings : List ℤ → Monitor → Batch Refusal
  readings xs m = readings_from l m centre sigma xs

  first_ends : (x : ℤ) (xs : List ℤ) (m : Monitor) → Readable l sigma m → m.count < max_number
      → Ends (after 1 (readings xs (next_of (point_at l m centre sigma x)))) → Ends (readings (x ∷ xs) m)
  unfolding readings_from
  first_ends x xs m r q e = rw (reading_taken l m centre sigma x r q) (ends_taken m (m.count + 1) (point_at l m centre sigma x) (readings xs) e)

  -- from the second reading on only the count can refuse
  later_ends : (xs : List ℤ) (m : Monitor) → Readable l sigma m → Ends (after 1 (readings xs m))
  unfolding readings_from
  later_ends [] m r = unrefused refl
  later_ends (x ∷ xs) m r =
      ⊎_elim
      (λ (q : max_number ≤ m.count). rw (reading_bad_count l m centre sigma x r q) (full refl (omega arith) q))
      (λ (q : m.count < max_number).
      ends_after (readings (x ∷ xs) m)
      (first_ends x xs m r q (later_ends xs (next_of (point_at l m centre sigma x)) (reading_next l m centre sigma x r))))
      (le_or_lt max_number m.count)

  -- A batch that is not refused took its readings up to a signal or the end, or met a full count behind readings that it took: only 7 can
  -- come at a later reading.
  pub batch_ends : (m : Monitor) (xs : List ℤ) → reading_check l m sigma ≡ Ok tt → Ends (batch_of l m centre sigma xs)
  unfolding readings_from
  batch_ends m [] e = rw (by_check l m centre sigma [] (Ok tt) e) (unrefused refl)
  batch_ends m (x ∷ xs) e =
      let r = reading_accepted l m sigma e in
      rw (by_check l m centre sigma (x ∷ xs) (Ok tt) e)
      (first_ends x xs m r.0 r.1 (later_ends xs (next_of (point_at l m centre sigma x)) (reading_next l m centre sigma x r.0)))

-- ---- the readings left, from i on

after_after : (i : ℕ) (b : Batch Refusal) → after i (after 1 b) ≡ after (i + 1) b
after_after i b = let e : i + (1 + b.taken) ≡ i + 1 + b.taken = omega arith in rw e

-- at first all are left
pub left_all : (l : RuleList) (m : Monitor) (centre : ℤ) (sigma : ℕ) (xs : List ℤ) → Readable l sigma m
    → Left l m centre sigma xs m 0
left_all l m centre sigma xs r =
    let b = readings_from l m centre sigma xs in
    let e : 0 + b.taken ≡ b.taken = omega arith in
    record { readable = r; same = rw e }

module _ {l : RuleList} {start : Monitor} {centre : ℤ} {sigma : ℕ} {xs : List ℤ} {m : Monitor} {i : ℕ}
    (left : Left l start centre sigma xs m i) where
  pub left_none : length xs ≤ i → readings_from l start centre sigma xs
      ≡ record { taken = i; refusal = None; count = m.count; signal = None; next = m }
  unfolding readings_from
  left_none h = let e : i + 0 ≡ i = omega arith in left.same ∙ rw (drop_of_length-le xs h, e)

  -- the same where all are counted
  pub left_end : i ≡ length xs → readings_from l start centre sigma xs
      ≡ record { taken = length xs; refusal = None; count = m.count; signal = None; next = m }
  left_end h = rw (sym h) (left_none (omega arith))

  module _ (h : i < length xs) where
    -- the next reading
    abbrev x : ℤ
    x = get_or xs i (pos 0)

    left_first : readings_from l start centre sigma xs
        ≡ after i (batch_by m (reading_step l m centre sigma x) (λ next. readings_from l next centre sigma (drop (i + 1) xs)))
    unfolding readings_from
    left_first =
        left.same
        ∙ ap (λ (ys : List ℤ). after i (readings_from l m centre sigma ys))
        (drop-cons xs i (pos 0) h ∙ ap (λ (t : ℕ). x ∷ drop t xs) (sym (add-one i)))

    pub left_full : max_number ≤ m.count → readings_from l start centre sigma xs
        ≡ record { taken = i; refusal = Some bad_count; count = m.count; signal = None; next = m }
    left_full q =
        let e : i + 0 ≡ i = omega arith in
        left_first ∙ rw (reading_bad_count l m centre sigma x left.readable q, e)

    -- the point at it
    pub left_signal : {mask : ℕ} → m.count < max_number → Taken.Signal mask ≡ point_at l m centre sigma x → readings_from l start centre sigma xs
        ≡ record { taken = i + 1; refusal = None; count = m.count + 1; signal = Some mask; next = fresh_monitor }
    left_signal q p = left_first ∙ rw (reading_taken l m centre sigma x left.readable q, ← p)

    pub left_quiet : {next : Monitor} → m.count < max_number → Taken.Quiet next ≡ point_at l m centre sigma x → Left l start centre sigma xs next (i + 1)
    left_quiet {next} q p = record {
      readable = rw (ap next_of p) (reading_next l m centre sigma x left.readable);
      same =
          left_first
          ∙ rw (reading_taken l m centre sigma x left.readable q, ← p)
          (after_after i (readings_from l next centre sigma (drop (i + 1) xs)));
    }
