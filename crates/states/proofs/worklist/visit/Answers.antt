-- `visit` meets its contract: each return is one case of the move and of the state's index.
use Rattle.std.proofs.Common.{sym, arith}
use Rattle.states.specs.VisitLaws.{visit_signal, visit_known, visit_new, visit_over}
use Rattle.states.proofs.worklist.visit.Goals as goal

pub returns-in-Signal : goal.returns-in-Signal
returns-in-Signal c = visit_signal c.requires _ (sym c.in-Signal.ensures)

pub returns-in-Some : goal.returns-in-Some
returns-in-Some c = visit_known c.requires (sym c.in-Quiet.ensures) c.in-Some.ensures

pub returns-in-None : goal.returns-in-None
returns-in-None c = visit_new c.requires (sym c.in-Quiet.ensures) c.in-None.ensures (omega arith)

pub returns-in-None-2 : goal.returns-in-None-2
returns-in-None-2 c = visit_over c.requires (sym c.in-Quiet.ensures) c.in-None-2.ensures (omega arith)
