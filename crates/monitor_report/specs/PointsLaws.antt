-- Laws of the points' lines: one point more, and the turns of the loop over the point lines.
use Prim.Native.Nat.{ℕ, zero, suc, ◌+◌, ◌≤◌, ◌<◌}
use Rattle.std.specs.Prelude.{◌≡◌, true, get_or, set, replicate, ℤ, ◌-ℤ◌}
use Rattle.std.proofs.Math.Path.{refl, sym, ap}
use Rattle.std.proofs.Common.{◌∙◌, arith, get_or-set_same, get_or-set_other}
use mathlib.Core.List.{List, [], ◌∷◌, ◌++◌, append_assoc, append-nil}
use Rattle.std.proofs.Math.Decide.{ℕ_discrete}
use Rattle.std.proofs.Math.ListN.{length, length-append, length-set}
use Rattle.rules.specs.declared.Rule.{Rule}
use Rattle.rules.specs.Bounds.{max_number}
use Rattle.rules.specs.InBounds.{AllInBounds}
use Rattle.monitor.specs.Zone.{zone_at}
use Rattle.window.specs.State.{valid_state}
use Rattle.monitor.specs.Step.{fresh_monitor}
use Rattle.window.specs.ReferenceChart.{Answer}
use Rattle.monitor.specs.Take.{taken_of, taken_answers}
use Rattle.grammar.specs.Form.{line}
use Rattle.grammar.specs.TextReading.{seen}
use Rattle.grammar.specs.Read.{found, other}
use Rattle.grammar.specs.Size.{max_text}
use Rattle.write.specs.Wrote.{Wrote}
use Rattle.write.specs.WroteLaws.{wrote_nothing, wrote_length, then}
use Rattle.monitor_text.specs.Readings.{NodeReading, node_reading, node_count, OnBench, readings_of}
use Rattle.monitor_text.specs.MonitorGrammar.{point_line}
use Rattle.monitor_text.specs.MonitorText.{points_at}
use Rattle.monitor_text.specs.PointLineLaws.{points_by, one_point, no_points, seen_ahead}
use Rattle.monitor_text.specs.ReadingsLaws.{readings_append, reading_own, reading_other, readings_few}
use Rattle.monitor_lines.specs.MonitorLines.{point_bytes, point_room}
use Rattle.monitor_report.specs.declared.nodes.Node.{Node}
use Rattle.monitor_report.specs.declared.nodes.NodePoint.{NodePoint}
use Rattle.monitor_report.specs.Points.{NodeAnswer, node_answer, last_answer, point_answer, bench_answers, signals_in, bench_totals}
use Rattle.monitor.specs.Zones.{zones_of}
use Rattle.monitor_report.specs.Points.{line_of, answer_lines, total_lines, bench_bytes}
use Rattle.monitor_report.specs.Nodes.{fresh_node, node_taken, taken_chart, taken_after, node_after, total_of, totals_of}
use Rattle.monitor_report.specs.NodesLaws.{answer_after, answers_more, node_more, node_line, node_valid, node_small, node_total_lem}
use Rattle.monitor.specs.ZonesLaws.{zones_append, zones_exist, zones_length}
use Rattle.monitor_report.specs.BenchWritten.{NodesAre, BenchWritten}

-- ---- one point more

pub last_more : (node : ℕ) (answers : List Answer) (a : Answer) (period : ℕ)
    → last_answer node (answers ++ (a ∷ [])) period ≡ node_answer node a period ∷ []
unfolding last_answer
last_more node [] a period = refl
last_more node (x ∷ []) a period = refl
last_more node (x ∷ y ∷ rest) a period = last_more node (y ∷ rest) a period

pub bench_more : (chart : List ℤ → List Answer) (before ps : List NodeReading) (p : NodeReading)
    → bench_answers chart before (ps ++ (p ∷ []))
    ≡ bench_answers chart before ps ++ point_answer chart p.node (readings_of p.node (before ++ (ps ++ (p ∷ []))))
unfolding bench_answers
bench_more chart before [] p = append-nil _
bench_more chart before (q ∷ ps) p =
    let one = point_answer chart q.node (readings_of q.node (before ++ (q ∷ []))) in
    let r = bench_more chart (before ++ (q ∷ [])) ps p in
    let e : (before ++ (q ∷ [])) ++ (ps ++ (p ∷ [])) ≡ before ++ (q ∷ (ps ++ (p ∷ []))) = append_assoc before (q ∷ []) (ps ++ (p ∷ [])) in
    ap (λ (l : List NodeAnswer). one ++ l) (rw e at r) ∙ sym (append_assoc one _ _)

pub lines_append : (xs ys : List NodeAnswer) → answer_lines (xs ++ ys) ≡ answer_lines xs ++ answer_lines ys
unfolding answer_lines
lines_append [] ys = refl
lines_append (x ∷ xs) ys =
    let one = line_of x.node x.answer x.period in
    ap (λ (t : List ℕ). one ++ t) (lines_append xs ys) ∙ sym (append_assoc one (answer_lines xs) (answer_lines ys))

module _ (rs : List Rule) (centre : ℤ) (sigma : ℕ) (done : List NodeReading) (node : ℕ) (x : ℤ) where
  -- the zones of a point's node, with it
  zones_own : zones_of centre sigma (readings_of node (done ++ (node_reading node x ∷ [])))
      ≡ zones_of centre sigma (readings_of node done) ++ (zone_at (x -ℤ centre) sigma ∷ [])
  unfolding zones_of
  zones_own = rw (readings_append node done (node_reading node x ∷ []), reading_own node x) (zones_append centre sigma (readings_of node done) (x ∷ []))

  -- the line that a point adds: its period is one more than its node's points before it
  line_more : (let zs = zones_of centre sigma (readings_of node done) in
      answer_lines (bench_answers (taken_chart rs centre sigma) [] (done ++ (node_reading node x ∷ [])))
      ≡ answer_lines (bench_answers (taken_chart rs centre sigma) [] done)
      ++ line_of node (answer_after rs fresh_monitor zs (zone_at (x -ℤ centre) sigma)) (length zs + 1))
  unfolding answer_lines
  line_more =
      let zs = zones_of centre sigma (readings_of node done) in
      let z = zone_at (x -ℤ centre) sigma in
      let a = answer_after rs fresh_monitor zs z in
      let chart = taken_chart rs centre sigma in
      let before = bench_answers chart [] done in
      let xs = readings_of node (done ++ (node_reading node x ∷ [])) in
      let period : length xs ≡ length zs + 1 = sym (zones_length centre sigma xs) ∙ ap length zones_own ∙ length-append zs (z ∷ []) in
      let last : point_answer chart node xs ≡ node_answer node a (length zs + 1) ∷ [] =
      rw (zones_own, answers_more rs fresh_monitor zs z, period) (last_more node (taken_answers rs fresh_monitor zs) a (length zs + 1)) in
      ap answer_lines (bench_more chart [] done (node_reading node x) ∙ ap (λ (l : List NodeAnswer). before ++ l) last)
      ∙ lines_append before (node_answer node a (length zs + 1) ∷ [])
      ∙ ap (λ (l : List ℕ). answer_lines before ++ l) (append-nil (line_of node a (length zs + 1)))

  -- the nodes behind the point: its own is moved on, the others stay
  nodes_more : (nodes : List Node) → NodesAre rs centre sigma done nodes → node < length nodes
      → (next : Node) → next ≡ (node_taken rs node (node_after rs (zones_of centre sigma (readings_of node done))) (zone_at (x -ℤ centre) sigma)).next
      → NodesAre rs centre sigma (done ++ (node_reading node x ∷ [])) (set nodes node next)
  nodes_more nodes are slot next e k lt = go (ℕ_discrete k node)
    where
      go : Dec (k ≡ node) → get_or (set nodes node next) k fresh_node ≡ node_after rs (zones_of centre sigma (readings_of k (done ++ (node_reading node x ∷ []))))
      go (yes q) = rw (q, get_or-set_same nodes node next fresh_node slot, zones_own, e) (sym (node_more rs node _ _))
      go (no n) =
          let same : readings_of k (done ++ (node_reading node x ∷ [])) ≡ readings_of k done =
          rw (readings_append k done (node_reading node x ∷ []), reading_other k node x (λ r. n (sym r))) (append-nil (readings_of k done)) in
          rw same (get_or-set_other nodes node k next fresh_node n ∙ are k lt)

taken_same : (rs : List Rule) (k : ℕ) {n n' : Node} {z z' : ℕ} → n ≡ n' → z ≡ z' → node_taken rs k n z ≡ node_taken rs k n' z'
taken_same rs k e f = rw (e, f)

-- fresh nodes
pub slots_fresh : (m : ℕ) (n : Node) → n ≡ fresh_node → (k : ℕ) → k < node_count → get_or (replicate m n) k fresh_node ≡ fresh_node
slots_fresh zero n e k l = refl
slots_fresh (suc m) n e zero l = e
slots_fresh (suc m) n e (suc k) l = slots_fresh m n e k (omega arith)

-- ---- the turns of the loop

module _ {s : List ℕ} {at : ℕ} {rs : List Rule} {centre : ℤ} {sigma : ℕ} {before : List ℕ} where
  pub written_start : OnBench (points_at s at) → (nodes : List Node) → ((k : ℕ) → k < node_count → get_or nodes k fresh_node ≡ fresh_node)
      → length nodes ≡ node_count
      → BenchWritten s at rs centre sigma before before nodes at 0
  unfolding answer_lines bench_answers zones_of readings_of node_after taken_after taken_answers signals_in
  written_start bench nodes fresh slots =
      record {
        fuel = length s;
        enough = omega arith;
        done = [];
        whole = refl;
        bench = bench;
        nodes_are = λ k l. fresh k l;
        slots = slots;
        ahead = omega arith;
        fit = omega arith;
        size = refl;
        room = omega arith;
        wrote = wrote_nothing before 0 (omega arith);
      }

  module _ {after : List ℕ} {nodes : List Node} {i end : ℕ} (u : BenchWritten s at rs centre sigma before after nodes i end) where
    -- at a point line one of the points is still to come, and its node is one of the bench's
    pub points_left : (node : ℕ) (x : ℤ) (next : ℕ) → seen (line point_line) s i ≡ found (node, (x, tt)) next → length u.done + 1 ≤ length (points_at s at)
    points_left node x next e =
        let o = one_point u.fuel s i node x next e u.enough in
        omega (arith, ap length u.whole, length-append u.done (points_by u.fuel s i), ap length o.2)

    pub done_few : length u.done ≤ length (points_at s at)
    done_few = omega (arith, ap length u.whole, length-append u.done (points_by u.fuel s i))

    pub node_below : (node : ℕ) (x : ℤ) (next : ℕ) → seen (line point_line) s i ≡ found (node, (x, tt)) next → node < node_count
    unfolding OnBench
    node_below node x next e =
        let o = one_point u.fuel s i node x next e u.enough in
        (rw o.2 at u.bench).0

    -- its node can take it
    pub node_ready : AllInBounds rs → length s ≤ max_text → (node : ℕ) → node < node_count
        → (let n = get_or nodes node fresh_node in
        ((n.monitor.count < max_number) × (n.points < max_number) × (n.signals < max_number)) × (valid_state n.monitor.count rs n.monitor.state ≡ true))
    node_ready bounds short node below =
        let xs = readings_of node u.done in
        let zs = zones_of centre sigma xs in
        let few : length zs ≤ max_text = omega (arith, zones_length centre sigma xs, readings_few node u.done, u.fit) in
        let small = node_small rs zs in
        rw (u.nodes_are node below)
        ((omega (arith, small), omega (arith, small), omega (arith, small)), node_valid rs zs bounds (zones_exist centre sigma xs))

    pub written_more : (node : ℕ) (x : ℤ) (next : ℕ) → seen (line point_line) s i ≡ found (node, (x, tt)) next
        → (z : ℕ) → z ≡ zone_at (x -ℤ centre) sigma → (p : NodePoint) → p ≡ node_taken rs node (get_or nodes node fresh_node) z
        → {after' : List ℕ} (r : ℕ)
        → Wrote after end after' r (point_bytes p.line)
        → r ≤ end + point_room
        → BenchWritten s at rs centre sigma before after' (set nodes node p.next) next r
    unfolding OnBench node_taken node_after
    written_more node x next e z ez p ep {after'} r w l =
        let a = seen_ahead s i node x next e in
        let o = one_point u.fuel s i node x next e u.enough in
        let below = node_below node x next e in
        let one = node_reading node x in
        let zs = zones_of centre sigma (readings_of node u.done) in
        let count : length (u.done ++ (one ∷ [])) ≡ length u.done + 1 = length-append u.done (one ∷ []) in
        let own : p ≡ node_taken rs node (node_after rs zs) (zone_at (x -ℤ centre) sigma) = ep ∙ taken_same rs node (u.nodes_are node below) ez in
        let slot : node < length nodes = omega (arith, u.slots) in
        let line : point_bytes p.line ≡ line_of node (answer_after rs fresh_monitor zs (zone_at (x -ℤ centre) sigma)) (length zs + 1) =
        rw own (node_line node (node_after rs zs) (taken_of rs (taken_after rs fresh_monitor zs) (zone_at (x -ℤ centre) sigma))) in
        record {
          fuel = o.0;
          enough = o.1;
          done = u.done ++ (one ∷ []);
          whole = append_assoc u.done (one ∷ []) _ ∙ (rw o.2 at u.whole);
          bench = (rw o.2 at u.bench).1;
          nodes_are = nodes_more rs centre sigma u.done node x nodes u.nodes_are slot p.next (ap (λ (y : NodePoint). y.next) own);
          slots = length-set nodes node p.next ∙ u.slots;
          ahead = omega (arith, a, u.ahead, count);
          fit = omega (arith, a, u.ahead, count);
          size = wrote_length w ∙ u.size;
          room = omega (arith, u.room, l, count);
          wrote = rw (line_more rs centre sigma u.done node x, ← line) (then u.wrote w);
        }

    -- all the points are charted
    all_done : seen (line point_line) s i ≡ other → u.done ≡ points_at s at
    all_done none = let q = no_points u.fuel s i none in sym (append-nil u.done) ∙ (rw q at u.whole)

    totals_are : (n : ℕ) → n ≤ node_count → totals_of nodes n ≡ bench_totals (taken_chart rs centre sigma) u.done n
    unfolding totals_of bench_totals
    totals_are zero h = refl
    totals_are (suc n) h =
        let zs = zones_of centre sigma (readings_of n u.done) in
        let one : total_of n (get_or nodes n fresh_node) ≡ _ = ap (total_of n) (u.nodes_are n (omega arith)) ∙ node_total_lem rs zs n in
        rw (totals_are n (omega arith), one)

    -- and the totals are written behind them
    pub written_done : seen (line point_line) s i ≡ other → {after' : List ℕ} (r : ℕ) → Wrote after end after' r (total_lines (totals_of nodes node_count))
        → Wrote before 0 after' r (bench_bytes (taken_chart rs centre sigma) (points_at s at))
    unfolding bench_bytes
    written_done none r w = rw (← (all_done none), ← (totals_are node_count (omega arith))) (then u.wrote w)
