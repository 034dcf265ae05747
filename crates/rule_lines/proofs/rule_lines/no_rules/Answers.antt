-- `no_rules` meets its contract: every slot and the length.
use Rattle.std.proofs.Common.{refl}
use Rattle.rule_lines.specs.Rules.{rule_list_of, slots_of}
use Rattle.rule_lines.proofs.rule_lines.no_rules.Goals as goal

pub returns : goal.returns
unfolding rule_list_of slots_of
returns c = refl
