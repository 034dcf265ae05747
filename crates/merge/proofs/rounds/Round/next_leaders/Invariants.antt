-- `Round::next_leaders` meets its contract: after each turn the next leaders of the first i states are written.
use Rattle.std.proofs.Common.{◌≡◌, length}
use Rattle.rules.specs.Bounds.{max_states}
use Rattle.merge.specs.Rounds.{NextLeaders}
use Rattle.merge.proofs.rounds.Round.next_leaders.Given as goal

abbrev pub invariant-loop-i : goal.invariant-loop-i
invariant-loop-i l = NextLeaders l.self.moves.now l.self.leaders.now l.next l.i × (length l.next ≡ max_states)
