-- `points::put_points` meets its contract. The invariant: the points charted and written, each node as its own points left it, and what is left to read.
use mathlib.Core.Path.{refl, ◌∙◌}
use mir.Syntax.{w32}
use native.Mathlib.Omega.{arith}
use borrow.Author.Rules.{rules}
use mir.Facts.{to_z-of_z}
use Rattle.monitor_text.specs.Readings.{node_count}
use Rattle.monitor_text.specs.PointLineLaws.{point_seen, no_point_seen, seen_ahead}
use Rattle.monitor.specs.ZonesLaws.{zone_given}
use Rattle.monitor_report.specs.PointsLaws.{slots_fresh, written_start, node_below, node_ready, written_more, written_done}
use Rattle.monitor_report.proofs.points.put_points.Goals as goal

pub loop-read-init : goal.loop-read-init
loop-read-init c =
    let fresh = slots_fresh node_count c.fresh_node-nodes.result c.fresh_node-nodes.ensures in record {
      same_buffer = refl;
      bench = rw c.new-w.ensures.same_place (written_start c.requires.on_bench _ fresh refl);
    }

pub returns : goal.returns
returns c =
    let u = c.loop-read.invariant.bench in
    let whole = written_done u (no_point_seen _ _ c.line_at.ensures c.in_default.is) _ c.put_totals.ensures.wrote in search rules

pub bounds-nodes-node : goal.bounds-nodes-node
bounds-nodes-node c =
    let u = c.loop-read.invariant.bench in
    node_below u _ _ _ (point_seen _ _ c.line_at.ensures c.in-Some.is)

pub chart_point-point-requires-clause-count_lt_max_number : goal.chart_point-point-requires-clause-count_lt_max_number
chart_point-point-requires-clause-count_lt_max_number c =
    let u = c.loop-read.invariant.bench in
    let below = node_below u _ _ _ (point_seen _ _ c.line_at.ensures c.in-Some.is) in
    (node_ready u c.requires.len_le_max_rules.1 c.requires.text_len_bound _ below).0

pub chart_point-point-requires-clause-state_value : goal.chart_point-point-requires-clause-state_value
chart_point-point-requires-clause-state_value c =
    let u = c.loop-read.invariant.bench in
    let below = node_below u _ _ _ (point_seen _ _ c.line_at.ensures c.in-Some.is) in
    (node_ready u c.requires.len_le_max_rules.1 c.requires.text_len_bound _ below).1

pub bounds-nodes-node-in-Some : goal.bounds-nodes-node-in-Some
bounds-nodes-node-in-Some c =
    let u = c.loop-read.invariant.bench in
    node_below u _ _ _ (point_seen _ _ c.line_at.ensures c.in-Some.is)

pub loop-read-smaller : goal.loop-read-smaller
loop-read-smaller c = omega (arith, seen_ahead _ _ _ _ _ (point_seen _ _ c.line_at.ensures c.in-Some.is))

pub loop-read-preserved : goal.loop-read-preserved
loop-read-preserved c =
    let u = c.loop-read.invariant.bench in
    let found = point_seen _ _ c.line_at.ensures c.in-Some.is in
    let zone = c.zone_at-zone.ensures ∙ zone_given (to_z-of_z {w = w32} (search rules) ∙ c.signed_value.ensures) refl c.args.chart.sigma in
    let p = c.put_point.ensures in record {
      same_buffer = p.wrote.same_buffer ∙ c.loop-read.invariant.same_buffer;
      bench = written_more u _ _ _ found _ zone _ c.chart_point-point.ensures _ p.wrote.wrote p.upper_bound;
    }
