-- The lines of one node are those of its own readings. Laws.
use Rattle.std.specs.Prelude.{ℕ, zero, suc, ◌+◌, ◌≤◌, ◌<◌, ◌≡◌, ℤ, Bool}
use Rattle.std.proofs.Math.Path.{refl, sym, ap}
use Rattle.std.proofs.Common.{◌∙◌, arith, ltb-true, ltb-false, eq-eqb, ne_eqb}
use mathlib.Core.List.{List, [], ◌∷◌, ◌++◌, map, append_assoc, append-nil}
use Rattle.std.proofs.Math.Dec.{ltb}
use Rattle.std.proofs.Math.ListN.{length}
use Rattle.std.proofs.Math.Bool.{true, false}
use Rattle.rules.specs.declared.Rule.{Rule}
use Rattle.window.specs.ReferenceChart.{Answer, refused, quiet, signal, row_mask, chart_by}
use Rattle.monitor.specs.Calls.{Said, EachAnswer}
use Rattle.decimal.specs.Fields.{field, fields}
use Rattle.decimal.specs.Word.{newline}
use Rattle.grammar.specs.Newlines.{newlines}
use Rattle.monitor_text.specs.Readings.{NodeReading, node_count, OnBench, readings_of}
use Rattle.monitor_lines.specs.MonitorLines.{quiet_word, signal_word, total_word}
use Rattle.write.specs.Printed.{printed_bytes}
use Rattle.monitor_report.specs.Points.{signals_in, node_total, bench_totals}
use Rattle.monitor.specs.Zones.{zones_of}
use Rattle.monitor.specs.ZonesLaws.{zones_append, zones_length}
use Rattle.monitor_report.specs.MonitorReport.{monitor_printed}
use Rattle.claims.specs.Exact.{free_answers}
use Rattle.text_claims.specs.LineOnceLaws.{group1, group2}
use Rattle.monitor_claims.specs.MonitorTexts.{MonitorTextIs}
use Rattle.monitor_claims.proofs.MonitorBytes.{monitor_text_once}
use Rattle.monitor_claims.specs.MonitorOutput.{plain_chart, MonitorPrints, MonitorProgram, refuses, prints}
use Rattle.monitor_claims.proofs.MonitorProgramLaws.{free_said}
use Rattle.monitor_claims.proofs.MonitorProgram.{monitor_program}
use Rattle.monitor_claims.proofs.MonitorPrintedOnceLaws.{plain_said}
use Rattle.monitor_claims.specs.NodeLines.{lines_in, node_lines, with_node, with_periods, alone_lines, alone_bytes}
use Rattle.monitor_claims.proofs.NodeLinesLaws.{word_line, with_node_lem, point_numbered, other_kept}
use Rattle.monitor_claims.proofs.NodeBytesLaws.{plain, words, bodies, total_body, total_bodies, OneByOne, in_order, node_lines_lem, no_lines}
use Rattle.monitor_claims.specs.MonitorOutput.{NotRefused}

-- ---- the plain chart answers one reading after another

free_more : (rs : List Rule) (zs row : List ℕ) (z : ℕ) → (a : Answer) × (free_answers rs row (zs ++ (z ∷ [])) ≡ free_answers rs row zs ++ (a ∷ []))
unfolding free_answers
free_more rs [] row z = (_, refl)
free_more rs (y ∷ zs) row z =
    let charted = chart_by (row_mask rs (y ∷ row)) (y ∷ row) in
    let r = free_more rs zs charted.row z in
    (r.0, ap (λ (l : List Answer). charted.answer ∷ l) r.1)

free_length : (rs : List Rule) (zs row : List ℕ) → length (free_answers rs row zs) ≡ length zs
unfolding free_answers
free_length rs [] row = refl
free_length rs (z ∷ zs) row = omega (arith, free_length rs zs (chart_by (row_mask rs (z ∷ row)) (z ∷ row)).row)

pub one_by_one : (rs : List Rule) (centre : ℤ) (sigma : ℕ) → OneByOne (plain_chart rs centre sigma)
unfolding free_answers zones_of
one_by_one rs centre sigma =
    record {
      none = refl;
      more = λ xs x.
          let r = free_more rs (zones_of centre sigma xs) [] _ in
          (r.0, ap (free_answers rs []) (zones_append centre sigma xs (x ∷ [])) ∙ r.1);
      each = λ xs. free_length rs (zones_of centre sigma xs) [] ∙ zones_length centre sigma xs;
    }

-- ---- document 01's lines, each quiet and signal line with its period, and the node after each first word

module _ (k : ℕ) where
  -- the lines of answers from the period p on, before lines that get no period
  alone_more : (answers : List Answer) (p : ℕ) (rest : List ℕ) (ls : List (List ℕ)) → ((q : ℕ) → with_periods q (lines_in rest) ≡ ls)
      → EachAnswer Said answers
      → map (with_node k) (with_periods p (lines_in (alone_lines answers ++ rest))) ≡ bodies (in_order k p answers) ++ map (with_node k) ls
  unfolding alone_lines bodies in_order EachAnswer fields newlines
  alone_more [] p rest ls f i = ap (map (with_node k)) (f p)
  alone_more (refused n ∷ answers) p rest ls f i = absurd i.0
  alone_more (quiet n ∷ answers) p rest ls f i =
      let more = alone_lines answers ++ rest in
      let line = quiet_word ++ field n ++ newline in
      ap (λ l. map (with_node k) (with_periods p (lines_in l)))
      (append_assoc line (alone_lines answers) rest ∙ group1 quiet_word (field n) newline more)
      ∙ ap (λ l. map (with_node k) (with_periods p l)) (word_line quiet_word (n ∷ []) more refl)
      ∙ ap (map (with_node k)) (point_numbered quiet_word plain.0 n [] (lines_in more) words.0 p)
      ∙ rw (with_node_lem quiet_word plain.0 k n (p ∷ []), alone_more answers (p + 1) rest ls f i.1)
  alone_more (signal n mask ∷ answers) p rest ls f i =
      let more = alone_lines answers ++ rest in
      let line = signal_word ++ field n ++ field mask ++ newline in
      ap (λ l. map (with_node k) (with_periods p (lines_in l)))
      (append_assoc line (alone_lines answers) rest ∙ group2 signal_word (field n) (field mask) newline more)
      ∙ ap (λ l. map (with_node k) (with_periods p l)) (word_line signal_word (n ∷ mask ∷ []) more refl)
      ∙ ap (map (with_node k)) (point_numbered signal_word plain.1 n (mask ∷ []) (lines_in more) words.1 p)
      ∙ rw (with_node_lem signal_word plain.1 k n (mask ∷ p ∷ []), alone_more answers (p + 1) rest ls f i.1)

  -- a line for each answer and the total, the node after each first word
  alone_lines_lem : (answers : List Answer) → EachAnswer Said answers
      → map (with_node k) (with_periods 1 (lines_in (alone_bytes answers)))
      ≡ bodies (in_order k 1 answers) ++ (total_body k (length answers) (signals_in answers) ∷ [])
  unfolding alone_bytes fields newlines lines_in with_periods
  alone_lines_lem answers i =
      let n = length answers in
      let m = signals_in answers in
      let line = total_word ++ field n ++ field m ++ newline in
      let shape : line ≡ total_word ++ ((field n ++ (field m ++ [])) ++ (10 ∷ [])) = sym (append-nil line) ∙ group2 total_word (field n) (field m) newline [] in
      let total : lines_in line ≡ (total_word ++ fields (n ∷ m ∷ [])) ∷ [] = ap lines_in shape ∙ word_line total_word (n ∷ m ∷ []) [] refl in
      alone_more answers 1 line _ (λ q. ap (with_periods q) total ∙ other_kept total_word plain.2 n (m ∷ []) [] words.2 q) i
      ∙ rw (with_node_lem total_word plain.2 k n (m ∷ []))

-- ---- the lines of one node

-- a node that is none of the bench's has no readings
pub no_readings : (k : ℕ) → node_count ≤ k → (ps : List NodeReading) → OnBench ps → readings_of k ps ≡ []
unfolding OnBench readings_of
no_readings k l [] o = refl
no_readings k l (p ∷ ps) o = rw (ne_eqb p.node k (λ q. omega (arith, o.0)), no_readings k l ps o.1)

own_total : (k : ℕ) (answers : List Answer) → (answers ≡ [] → ⊥)
    → total_bodies k (node_total k answers) ≡ total_body k (length answers) (signals_in answers) ∷ []
unfolding total_bodies
own_total k [] n = absurd (n refl)
own_total k (a ∷ rest) n = rw (eq-eqb k k refl)

some_answers : (rs : List Rule) (centre : ℤ) (sigma : ℕ) (xs : List ℤ) → (xs ≡ [] → ⊥) → plain_chart rs centre sigma xs ≡ [] → ⊥
unfolding free_answers zones_of
some_answers rs centre sigma [] n e = n refl
some_answers rs centre sigma (x ∷ xs) n e = let z : ◌≡◌ {A = ℕ} 0 1 = cc in omega arith

-- the lines of a node that has readings xs
abbrev lines_by : List Rule → ℤ → ℕ → ℕ → List ℤ → List (List ℕ)
lines_by rs centre sigma k xs =
    let answers = plain_chart rs centre sigma xs in
    bodies (in_order k 1 answers) ++ total_bodies k (node_total k answers)

module _ {centre : ℤ} {sigma : ℕ} {rs : List Rule} {ps : List NodeReading} {printed : List ℕ}
    (o : OnBench ps) (t : MonitorPrints centre sigma rs ps printed) (k : ℕ) where
  pub below : k < node_count → node_lines k printed ≡ lines_by rs centre sigma k (readings_of k ps)
  below l = ap (node_lines k) t.lines ∙ node_lines_lem (plain_chart rs centre sigma) (one_by_one rs centre sigma) k ps (plain_said rs centre sigma ps) l

  pub beyond : node_count ≤ k → node_lines k printed ≡ []
  beyond l =
      ap (node_lines k) t.lines
      ∙ no_lines (plain_chart rs centre sigma) (one_by_one rs centre sigma) k ps (plain_said rs centre sigma ps) l (no_readings k l ps o)

  -- A node with a point: its lines are those that document 01's program prints for its readings alone, each quiet and signal line with
  -- its number behind it, from 1, and each line with the node after the first word.
  pub node_alone : (readings_of k ps ≡ [] → ⊥)
      → node_lines k printed ≡ map (with_node k) (with_periods 1 (lines_in (alone_bytes (plain_chart rs centre sigma (readings_of k ps)))))
  node_alone n = go (ltb k node_count) refl
    where
      go : (b : Bool) → ltb k node_count ≡ b
          → node_lines k printed ≡ map (with_node k) (with_periods 1 (lines_in (alone_bytes (plain_chart rs centre sigma (readings_of k ps)))))
      go true e =
          let xs = readings_of k ps in
          let answers = plain_chart rs centre sigma xs in
          below (ltb-true _ _ e)
          ∙ ap (λ l. bodies (in_order k 1 answers) ++ l) (own_total k answers (some_answers rs centre sigma xs n))
          ∙ sym (alone_lines_lem k answers (free_said rs (zones_of centre sigma xs) []))
      go false e = absurd (n (no_readings k (ltb-false _ _ e) ps o))

  -- A node with none has no line.
  pub node_without : readings_of k ps ≡ [] → node_lines k printed ≡ []
  unfolding bodies in_order free_answers zones_of total_bodies
  node_without n = go (ltb k node_count) refl
    where
      go : (b : Bool) → ltb k node_count ≡ b → node_lines k printed ≡ []
      go true e = below (ltb-true _ _ e) ∙ ap (lines_by rs centre sigma k) n
      go false e = beyond (ltb-false _ _ e)

-- the same readings of a node, the same lines
pub same_lines : {centre : ℤ} {sigma : ℕ} {rs : List Rule} {ps ps' : List NodeReading} {printed printed' : List ℕ}
    → OnBench ps → MonitorPrints centre sigma rs ps printed → OnBench ps' → MonitorPrints centre sigma rs ps' printed'
    → (k : ℕ) → readings_of k ps ≡ readings_of k ps' → node_lines k printed ≡ node_lines k printed'
same_lines {centre} {sigma} {rs} {ps} {ps'} {printed} {printed'} o t o' t' k e = go (ltb k node_count) refl
  where
    go : (b : Bool) → ltb k node_count ≡ b → node_lines k printed ≡ node_lines k printed'
    go true q = below o t k (ltb-true _ _ q) ∙ ap (lines_by rs centre sigma k) e ∙ sym (below o' t' k (ltb-true _ _ q))
    go false q = beyond o t k (ltb-false _ _ q) ∙ sym (beyond o' t' k (ltb-false _ _ q))

-- an accepted text of this chart, these rules and these points
pub accepted_prints : {s : List ℕ} {centre : ℤ} {sigma : ℕ} {rs : List Rule} {ps : List NodeReading} → NotRefused s → MonitorTextIs s centre sigma rs ps
    → OnBench ps × MonitorPrints centre sigma rs ps (printed_bytes (monitor_printed s))
accepted_prints {s} {centre} {sigma} {rs} {ps} a is = go (monitor_program s)
  where
    put : {c : ℤ} {d : ℕ} {rs' : List Rule} {ps' : List NodeReading} {printed : List ℕ} → c ≡ centre → d ≡ sigma → rs' ≡ rs → ps' ≡ ps
        → OnBench ps' → MonitorPrints c d rs' ps' printed → OnBench ps × MonitorPrints centre sigma rs ps printed
    put p q r t o m = (rw (← t) o, rw (← p, ← q, ← r, ← t) m)

    go : MonitorProgram s (printed_bytes (monitor_printed s)) → OnBench ps × MonitorPrints centre sigma rs ps (printed_bytes (monitor_printed s))
    go (refuses number place q r) = absurd (a number place q)
    go (prints c d rs' ps' is' o ok b m) =
        let once = monitor_text_once is' is in
        put once.0 once.1 once.2 once.3 o m

-- ---- no points

pub no_totals : (rs : List Rule) (centre : ℤ) (sigma n : ℕ) → bench_totals (plain_chart rs centre sigma) [] n ≡ []
unfolding bench_totals free_answers zones_of readings_of
no_totals rs centre sigma zero = refl
no_totals rs centre sigma (suc n) = rw (no_totals rs centre sigma n)
