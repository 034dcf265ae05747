-- Laws of a bench's bytes: the lines of one node are its own answers' and its total's.
use Prim.Native.Nat.{ℕ, zero, suc, ◌+◌, ◌≤◌, ◌<◌}
use Rattle.std.specs.Prelude.{◌≡◌, Bool, true, false, eqb, ℤ}
use Rattle.std.proofs.Math.Path.{refl, sym, ap}
use Rattle.std.proofs.Common.{◌∙◌, arith, eq-eqb, ne_eqb}
use Rattle.std.proofs.Math.Bool.{cond}
use mathlib.Core.List.{List, [], ◌∷◌, ◌++◌, append_assoc, append-nil}
use Rattle.std.proofs.Math.Decide.{ℕ_discrete}
use Rattle.std.proofs.Math.ListN.{length, length-append}
use Rattle.window.specs.ReferenceChart.{Answer, refused, quiet, signal}
use Rattle.monitor.specs.Calls.{Said}
use Rattle.decimal.specs.Fields.{fields}
use Rattle.grammar.specs.Newlines.{newlines}
use Rattle.monitor_text.specs.Readings.{NodeReading, node_count, readings_of}
use Rattle.monitor_text.specs.ReadingsLaws.{readings_append, reading_other}
use Rattle.monitor_lines.specs.MonitorLines.{quiet_word, signal_word, total_word, total_line}
use Rattle.monitor_report.specs.Points.{NodeAnswer, node_answer, NodeTotal, last_answer, point_answer, bench_answers, node_total, bench_totals}
use Rattle.monitor_report.specs.Points.{line_of, answer_lines, total_lines, bench_bytes}
use Rattle.monitor_report.specs.PointsLaws.{last_more}
use Rattle.monitor_claims.specs.MonitorLinesLaws.{quiet_shape, signal_shape, total_shape}
use Rattle.monitor_claims.specs.MonitorOutput.{EachSaid}
use Rattle.monitor_claims.proofs.MonitorPrintedOnceLaws.{line_for}
use Rattle.monitor_claims.specs.NodeLines.{answers_of, lines_in, same_bytes, of_node, node_lines, of_point}
use Rattle.monitor_claims.proofs.NodeLinesLaws.{word_line, NoComma, own_line, other_line}

-- ---- the lines of a node's answers and total, without their LFs

abbrev pub body : ℕ → Answer → ℕ → List ℕ
body k (refused n) period = []
body k (quiet n) period = quiet_word ++ fields (k ∷ n ∷ period ∷ [])
body k (signal n mask) period = signal_word ++ fields (k ∷ n ∷ mask ∷ period ∷ [])

unfoldable pub bodies : List NodeAnswer → List (List ℕ)
bodies [] = []
bodies (a ∷ rest) = body a.node a.answer a.period ∷ bodies rest

abbrev pub total_body : ℕ → ℕ → ℕ → List ℕ
total_body k points signals = total_word ++ fields (k ∷ points ∷ signals ∷ [])

-- the totals that are the node's
unfoldable pub total_bodies : ℕ → List NodeTotal → List (List ℕ)
total_bodies k [] = []
total_bodies k (t ∷ rest) = cond (eqb t.node k) (total_body t.node t.points t.signals ∷ total_bodies k rest) (total_bodies k rest)

pub plain : NoComma quiet_word × NoComma signal_word × NoComma total_word
unfolding NoComma
plain = ((refl, (refl, (refl, (refl, (refl, tt))))), (refl, (refl, (refl, (refl, (refl, (refl, tt)))))), (refl, (refl, (refl, (refl, (refl, tt))))))

pub words : (of_point quiet_word ≡ true) × (of_point signal_word ≡ true) × (of_point total_word ≡ false)
unfolding of_point same_bytes
words = (refl, refl, refl)

-- a line of a word and numbers, the first of them a node: it is the node's, or passed over
module _ (k : ℕ) (word : List ℕ) (p : NoComma word) (e : newlines word ≡ 0) (node n : ℕ) (ns rest : List ℕ) where
  line_of_lem : node_lines k (word ++ (fields (node ∷ n ∷ ns) ++ (10 ∷ rest)))
      ≡ cond (eqb node k) ((word ++ fields (node ∷ n ∷ ns)) ∷ node_lines k rest) (node_lines k rest)
  unfolding node_lines
  line_of_lem = ap (of_node k) (word_line word (node ∷ n ∷ ns) rest e) ∙ go (ℕ_discrete node k)
    where
      go : Dec (node ≡ k) → of_node k ((word ++ fields (node ∷ n ∷ ns)) ∷ lines_in rest)
          ≡ cond (eqb node k) ((word ++ fields (node ∷ n ∷ ns)) ∷ of_node k (lines_in rest)) (of_node k (lines_in rest))
      go (yes q) = rw (eq-eqb node k q) (own_line word p k node n ns q (lines_in rest))
      go (no d) = rw (ne_eqb node k d) (other_line word p k node n ns d (lines_in rest))

answer_of_lem : (k node : ℕ) (a : Answer) (period : ℕ) → Said a → (rest : List ℕ)
    → node_lines k (line_of node a period ++ rest) ≡ cond (eqb node k) (body node a period ∷ node_lines k rest) (node_lines k rest)
unfolding newlines
answer_of_lem k node (refused n) period i rest = absurd i
answer_of_lem k node (quiet n) period i rest =
    ap (node_lines k) (quiet_shape node n period rest) ∙ line_of_lem k quiet_word plain.0 refl node n (period ∷ []) rest
answer_of_lem k node (signal n mask) period i rest =
    ap (node_lines k) (signal_shape node n mask period rest) ∙ line_of_lem k signal_word plain.1 refl node n (mask ∷ period ∷ []) rest

total_of : (k node n m : ℕ) (rest : List ℕ)
    → node_lines k (total_line node n m ++ rest) ≡ cond (eqb node k) (total_body node n m ∷ node_lines k rest) (node_lines k rest)
unfolding newlines
total_of k node n m rest = ap (node_lines k) (total_shape node n m rest) ∙ line_of_lem k total_word plain.2 refl node n (m ∷ []) rest

pub answers_of_lem : (k : ℕ) (os : List NodeAnswer) (rest : List ℕ) → EachSaid os
    → node_lines k (answer_lines os ++ rest) ≡ bodies (answers_of k os) ++ node_lines k rest
unfolding answer_lines EachSaid answers_of bodies
answers_of_lem k [] rest i = refl
answers_of_lem k (a ∷ os) rest i =
    ap (node_lines k) (append_assoc (line_for a) (answer_lines os) rest)
    ∙ answer_of_lem k a.node a.answer a.period i.0 (answer_lines os ++ rest)
    ∙ go (eqb a.node k) (answers_of_lem k os rest i.1)
  where
    go : (b : Bool) → node_lines k (answer_lines os ++ rest) ≡ bodies (answers_of k os) ++ node_lines k rest
        → cond b (body a.node a.answer a.period ∷ node_lines k (answer_lines os ++ rest)) (node_lines k (answer_lines os ++ rest))
        ≡ bodies (cond b (a ∷ answers_of k os) (answers_of k os)) ++ node_lines k rest
    go true r = rw r
    go false r = r

pub totals_of_lem : (k : ℕ) (ts : List NodeTotal) → node_lines k (total_lines ts) ≡ total_bodies k ts
unfolding total_lines total_bodies node_lines lines_in of_node
totals_of_lem k [] = refl
totals_of_lem k (t ∷ ts) = total_of k t.node t.points t.signals (total_lines ts) ∙ rw (totals_of_lem k ts)

-- ---- the totals of all nodes

totals_append : (k : ℕ) (xs ys : List NodeTotal) → total_bodies k (xs ++ ys) ≡ total_bodies k xs ++ total_bodies k ys
unfolding total_bodies
totals_append k [] ys = refl
totals_append k (t ∷ xs) ys = go (eqb t.node k) (totals_append k xs ys)
  where
    go : (b : Bool) → total_bodies k (xs ++ ys) ≡ total_bodies k xs ++ total_bodies k ys
        → cond b (total_body t.node t.points t.signals ∷ total_bodies k (xs ++ ys)) (total_bodies k (xs ++ ys))
        ≡ cond b (total_body t.node t.points t.signals ∷ total_bodies k xs) (total_bodies k xs) ++ total_bodies k ys
    go true e = rw e
    go false e = e

other_total : (k n : ℕ) (answers : List Answer) → (n ≡ k → ⊥) → total_bodies k (node_total n answers) ≡ []
unfolding total_bodies
other_total k n [] d = refl
other_total k n (a ∷ rest) d = rw (ne_eqb n k d)

module _ (chart : List ℤ → List Answer) (ps : List NodeReading) (k : ℕ) where
  totals_below : (n : ℕ) → n ≤ k → total_bodies k (bench_totals chart ps n) ≡ []
  unfolding bench_totals total_bodies
  totals_below zero l = refl
  totals_below (suc n) l =
      totals_append k (bench_totals chart ps n) (node_total n (chart (readings_of n ps)))
      ∙ rw (totals_below n (omega arith), other_total k n (chart (readings_of n ps)) (λ q. omega arith))

  totals_own : (n : ℕ) → k < n → total_bodies k (bench_totals chart ps n) ≡ total_bodies k (node_total k (chart (readings_of k ps)))
  unfolding bench_totals
  totals_own zero l = absurd (omega arith)
  totals_own (suc n) l = totals_append k (bench_totals chart ps n) (node_total n (chart (readings_of n ps))) ∙ go (ℕ_discrete n k) (λ j. totals_own n j)
    where
      go : Dec (n ≡ k) → (k < n → total_bodies k (bench_totals chart ps n) ≡ total_bodies k (node_total k (chart (readings_of k ps))))
          → total_bodies k (bench_totals chart ps n) ++ total_bodies k (node_total n (chart (readings_of n ps))) ≡ total_bodies k (node_total k (chart (readings_of k ps)))
      go (yes q) f = rw (totals_below n (omega arith), q)
      go (no d) f = rw (f (omega arith), other_total k n (chart (readings_of n ps)) d) (append-nil _)

-- ---- a node's answers are its chart's, in order

-- a chart answers one reading after another: with one reading more there is one answer more
pub record OneByOne (chart : List ℤ → List Answer) : Type 0 where
  pub none : chart [] ≡ []
  pub more : (xs : List ℤ) (x : ℤ) → (a : Answer) × (chart (xs ++ (x ∷ [])) ≡ chart xs ++ (a ∷ []))
  pub each : (xs : List ℤ) → length (chart xs) ≡ length xs

-- a node's answers, numbered from n on
unfoldable pub in_order : ℕ → ℕ → List Answer → List NodeAnswer
in_order k n [] = []
in_order k n (a ∷ rest) = node_answer k a n ∷ in_order k (n + 1) rest

order_more : (k n : ℕ) (answers : List Answer) (a : Answer)
    → in_order k n (answers ++ (a ∷ [])) ≡ in_order k n answers ++ (node_answer k a (n + length answers) ∷ [])
unfolding in_order
order_more k n [] a = let e : n + 0 ≡ n = omega arith in rw e
order_more k n (x ∷ answers) a =
    let e : n + 1 + length answers ≡ n + length (x ∷ answers) = omega arith in
    ap (λ (l : List NodeAnswer). node_answer k x n ∷ l) (rw e at (order_more k (n + 1) answers a))

own_last : (k node : ℕ) → node ≡ k → (answers before : List Answer) (a : Answer) (period : ℕ) → answers ≡ before ++ (a ∷ [])
    → (rest : List NodeAnswer)
    → answers_of k (last_answer node answers period ++ rest) ≡ node_answer k a period ∷ answers_of k rest
unfolding answers_of
own_last k node q answers before a period e rest = rw (e, last_more node before a period, eq-eqb node k q, q)

other_last : (k node : ℕ) (answers : List Answer) (period : ℕ) (rest : List NodeAnswer) → (node ≡ k → ⊥)
    → answers_of k (last_answer node answers period ++ rest) ≡ answers_of k rest
unfolding answers_of last_answer
other_last k node [] period rest d = refl
other_last k node (a ∷ []) period rest d = rw (ne_eqb node k d)
other_last k node (a ∷ b ∷ answers) period rest d = other_last k node (b ∷ answers) period rest d

own_reading : (k : ℕ) (p : NodeReading) → p.node ≡ k → readings_of k (p ∷ []) ≡ p.reading ∷ []
unfolding readings_of
own_reading k p q = rw (eq-eqb p.node k q)

module _ (chart : List ℤ → List Answer) (one : OneByOne chart) (k : ℕ) where
  -- what the chart answers to the readings of the node among these points, in order
  abbrev answers_to : List NodeReading → List NodeAnswer
  answers_to ps = in_order k 1 (chart (readings_of k ps))

  own_answers : (before ps : List NodeReading) → answers_to before ++ answers_of k (bench_answers chart before ps) ≡ answers_to (before ++ ps)
  unfolding bench_answers answers_of
  own_answers before [] = append-nil (answers_to before) ∙ ap answers_to (sym (append-nil before))
  own_answers before (p ∷ ps) =
      go (ℕ_discrete p.node k) (own_answers (before ++ (p ∷ [])) ps) ∙ ap answers_to (append_assoc before (p ∷ []) ps)
    where
      go : Dec (p.node ≡ k)
          → answers_to (before ++ (p ∷ [])) ++ answers_of k (bench_answers chart (before ++ (p ∷ [])) ps)
          ≡ answers_to ((before ++ (p ∷ [])) ++ ps)
          → answers_to before
          ++ answers_of k
          (point_answer chart p.node (readings_of p.node (before ++ (p ∷ []))) ++ bench_answers chart (before ++ (p ∷ [])) ps)
          ≡ answers_to ((before ++ (p ∷ [])) ++ ps)
      go (yes q) r =
          let xs = readings_of k before in
          let rest = bench_answers chart (before ++ (p ∷ [])) ps in
          let a = one.more xs p.reading in
          let own : readings_of k (before ++ (p ∷ [])) ≡ xs ++ (p.reading ∷ []) =
          readings_append k before (p ∷ []) ∙ ap (λ (l : List ℤ). xs ++ l) (own_reading k p q) in
          let more : chart (readings_of k (before ++ (p ∷ []))) ≡ chart xs ++ (a.0 ∷ []) = ap chart own ∙ a.1 in
          let period : length (readings_of p.node (before ++ (p ∷ []))) ≡ 1 + length (chart xs) =
          ap (λ n. length (readings_of n (before ++ (p ∷ [])))) q ∙ ap length own ∙ length-append xs (p.reading ∷ [])
          ∙ omega (arith, one.each xs) in
          let last = own_last k p.node q (chart (readings_of p.node (before ++ (p ∷ [])))) (chart xs) a.0
          (length (readings_of p.node (before ++ (p ∷ [])))) (ap (λ n. chart (readings_of n (before ++ (p ∷ [])))) q ∙ more) rest in
          let to : answers_to (before ++ (p ∷ [])) ≡ answers_to before ++ (node_answer k a.0 (1 + length (chart xs)) ∷ []) =
          ap (in_order k 1) more ∙ order_more k 1 (chart xs) a.0 in
          ap (λ (l : List NodeAnswer). answers_to before ++ l) (last ∙ ap (λ n. node_answer k a.0 n ∷ answers_of k rest) period)
          ∙ sym (append_assoc (answers_to before) (node_answer k a.0 (1 + length (chart xs)) ∷ []) (answers_of k rest))
          ∙ (rw to at r)
      go (no d) r =
          let none = reading_other k p.node p.reading d in
          let same : readings_of k (before ++ (p ∷ [])) ≡ readings_of k before =
          readings_append k before (p ∷ []) ∙ ap (λ (l : List ℤ). readings_of k before ++ l) none ∙ append-nil (readings_of k before) in
          let rest = bench_answers chart (before ++ (p ∷ [])) ps in
          rw (other_last k p.node (chart (readings_of p.node (before ++ (p ∷ [])))) _ rest d) (rw same at r)

  pub bench_of : (ps : List NodeReading) → answers_of k (bench_answers chart [] ps) ≡ answers_to ps
  unfolding readings_of in_order
  bench_of ps = rw one.none at (own_answers [] ps)

  -- the lines of a node: those of its own answers, and of its total
  pub node_lines_lem : (ps : List NodeReading) → EachSaid (bench_answers chart [] ps) → k < node_count
      → node_lines k (bench_bytes chart ps) ≡ bodies (answers_to ps) ++ total_bodies k (node_total k (chart (readings_of k ps)))
  unfolding bench_bytes
  node_lines_lem ps i l =
      answers_of_lem k (bench_answers chart [] ps) (total_lines (bench_totals chart ps node_count)) i
      ∙ rw (bench_of ps, totals_of_lem k (bench_totals chart ps node_count), totals_own chart ps k node_count l)

  pub no_lines : (ps : List NodeReading) → EachSaid (bench_answers chart [] ps) → node_count ≤ k → readings_of k ps ≡ []
      → node_lines k (bench_bytes chart ps) ≡ []
  unfolding bench_bytes bodies in_order
  no_lines ps i l e =
      answers_of_lem k (bench_answers chart [] ps) (total_lines (bench_totals chart ps node_count)) i
      ∙ rw (bench_of ps, e, one.none, totals_of_lem k (bench_totals chart ps node_count), totals_below chart ps k node_count l)
