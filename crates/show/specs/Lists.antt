-- Rule lists as tables of cases write them. Definitions.
use Rattle.std.specs.Prelude.{ltb, ◌+◌, cond, List, fold, set, replicate}
use Rattle.rules.specs.declared.Rule.{Rule}
use Rattle.rules.specs.declared.RuleList.{RuleList}
use Rattle.rules.specs.Bounds.{max_rules}
use Rattle.rules.specs.Ready.{rule_of}
use Rattle.show.specs.declared.lists.T.{T}

-- the rule that is meant
abbrev pub meant : T → Rule
meant t = rule_of t.0 t.1 t.2

-- the list with the rule behind its others; as it was, where it has no room
abbrev pub with_rule : RuleList → T → RuleList
with_rule l t = cond (ltb l.len max_rules) (record { rules = set l.rules l.len (meant t); len = l.len + 1 }) l

-- a list of none, whose slots hold rules of nothing
abbrev pub no_rules : RuleList
no_rules = record { rules = replicate max_rules (rule_of 0 0 0); len = 0 }

-- the list with the rules behind its others, one after another
abbrev pub with_rules : RuleList → List T → RuleList
with_rules = fold with_rule
