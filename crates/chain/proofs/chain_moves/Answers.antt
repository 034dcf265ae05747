-- `chain::chain_moves` meets its contract: too many states explored, or those that are explored merged.
use Rattle.std.proofs.Common.{arith, refl, rules}
use Rattle.rules.specs.Check.{active_rules}
use Rattle.rules.proofs.CheckLaws.{accepted}
use Rattle.chain.specs.HeldMovesLaws.{explored_count_lem, explored_merge, merged_held}
use Rattle.chain.proofs.chain_moves.Goals as goal

pub explore-n-requires : goal.explore-n-requires
explore-n-requires c =
    let p = accepted c.args.list c.requires.list_value in
    record { few_rules = p.1; bounds = p.2; found_room = search rules; entries_room = search rules }

pub returns-then-n-gt-MAX_STATES : goal.returns-then-n-gt-MAX_STATES
returns-then-n-gt-MAX_STATES c =
    let n = explored_count_lem (active_rules c.args.list) c.explore-n.ensures in
    record { made = (omega (arith, c.if-n-gt-MAX_STATES.true), refl); kept = refl }

pub merge-count-requires : goal.merge-count-requires
merge-count-requires c =
    explored_merge (active_rules c.args.list) c.explore-n.ensures c.if-n-gt-MAX_STATES.false _ c.requires.moves_len

pub returns : goal.returns
returns c =
    let a = c.args in
    let x = c.explore-n.ensures in
    let few = c.if-n-gt-MAX_STATES.false in
    let n = explored_count_lem (active_rules a.list) x in
    let merged = c.merge-count.ensures in
    record {
      made = (
        omega arith,
        merged_held (active_rules a.list) x few a.moves.now _ merged.value merged.merged_after (omega (arith, c.requires.moves_len)),
      );
      kept = tt;
    }
