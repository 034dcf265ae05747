-- `rule_line` meets its contract: three numbers, or the word alone, or neither.
use mathlib.Core.Path.{sym, ◌∙◌}
use Rattle.rule_lines.specs.RuleTurnLaws.{rule_given, rule_not_begun, rule_begun}
use Rattle.rule_lines.proofs.rule_lines.rule_line.Goals as goal

pub returns-in-Some : goal.returns-in-Some
returns-in-Some c = rule_given _ _ c.line_at.ensures c.in-Some.is

pub returns-in-None : goal.returns-in-None
returns-in-None c = rule_not_begun _ _ c.line_at.ensures c.in_default.is (sym c.past.ensures ∙ c.in-None.is)

pub returns-in-Some-past : goal.returns-in-Some-past
returns-in-Some-past c = rule_begun _ _ c.line_at.ensures c.in_default.is (sym c.past.ensures ∙ c.in-Some-past.is)
