-- `Round::agree` meets its contract: the test of all zones.
use Rattle.std.proofs.Common.{rules, ◌∙◌, length, refl}
use Rattle.std.proofs.lemmas.Iterator.{YieldsList-from_range}
use Rattle.std.proofs.lemmas.Iterator.Search.{all_from_yields_List}
use Rattle.merge.specs.AgreeLaws.{same_label, agree_is}
use Rattle.merge.proofs.rounds.Round.agree.Goals as goal

pub returns : goal.returns
returns c =
    let moves = c.args.self.now.moves.now in
    let leaders = c.args.self.now.leaders.now in
    all_from_yields_List (same_label (length leaders) moves leaders c.args.i c.args.j) _ _ c.all.result c.all.ensures.ran
    (YieldsList-from_range 0 8 8 (search rules) refl) (λ x b q k. search rules)
    ∙ agree_is (length leaders) moves leaders c.args.i c.args.j
