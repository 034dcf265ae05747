-- `rounds::find_leaders` meets its contract: after so many rounds the leaders are those by continuations of as many points.
use Rattle.std.proofs.Common.{arith}
use Rattle.std.specs.Cmp.Lexicographic.{same_text}
use Rattle.merge.specs.RoundsLaws.{held_all, none_taken, round_can, round_last, round_next}
use Rattle.merge.proofs.rounds.find_leaders.Goals as goal

pub loop-init : goal.loop-init
loop-init c = none_taken c.requires.few

pub next_leaders-next-requires : goal.next_leaders-next-requires
next_leaders-next-requires c = round_can c.loop.leaders c.requires (omega (arith, c.requires.few)) c.loop.invariant

pub returns-then-eq : goal.returns-then-eq
returns-then-eq c =
    round_last c.loop.leaders c.requires (omega (arith, c.requires.few)) c.loop.invariant
    c.next_leaders-next.result c.next_leaders-next.ensures (omega arith) (same_text _ _ c.if-eq.ensures)

pub loop-preserved : goal.loop-preserved
loop-preserved c =
    round_next c.loop.leaders c.requires (omega (arith, c.requires.few)) c.loop.invariant
    c.next_leaders-next.result c.next_leaders-next.ensures

pub returns : goal.returns
returns c = held_all c.loop.invariant (omega arith)
