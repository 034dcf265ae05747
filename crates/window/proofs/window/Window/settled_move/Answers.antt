-- `Window::settled_move` meets its contract: by a hit, an empty window, or a miss.
use Rattle.std.proofs.Common.{◌∙◌, arith}
use Rattle.window.specs.SettledLaws.{hit_holds, hit_next, miss_holds, miss_next, miss_small, miss_empty}
use Rattle.window.proofs.window.Window.settled_move.Goals as goal

pub returns-then-is_hit : goal.returns-then-is_hit
returns-then-is_hit c =
    let a = c.args in
    let p = c.requires in
    let hit = c.if-is_hit.ensures in (
      rw c.count.ensures (hit_holds a.rule a.self.hits a.zone p.0 p.2 hit),
      c.moved_up.ensures ∙ hit_next a.rule a.self.hits a.zone p.0 p.2 hit,
    )

pub returns-then-self-eq0 : goal.returns-then-self-eq0
returns-then-self-eq0 c =
    let a = c.args in
    let p = c.requires in
    let miss = c.if-is_hit.ensures in
    (miss_holds a.rule a.self.hits a.zone p.0 p.2 miss, miss_empty a.rule a.self.hits a.zone p.0 p.2 miss (omega arith))

pub invariant_of-result : goal.invariant_of-result
invariant_of-result c =
    let a = c.args in
    let p = c.requires in
    let small = miss_small a.rule a.self.hits a.zone p.0 p.2 c.if-is_hit.ensures in
    record { small = rw (c.live_hits.ensures, c.from.ensures, c.from-2.ensures) small }

pub returns : goal.returns
returns c =
    let a = c.args in
    let p = c.requires in
    let miss = c.if-is_hit.ensures in (
      miss_holds a.rule a.self.hits a.zone p.0 p.2 miss,
      c.live_hits.ensures ∙ rw (c.from.ensures, c.from-2.ensures) (miss_next a.rule a.self.hits a.zone p.0 p.2 miss),
    )
