-- TO BELIEVE: the kind of line that is a rule, and the list that holds rules. Definitions; below them what the reading of rule lines gives.
use Rattle.std.specs.Prelude.{ℕ, zero, suc, ◌+◌, cond, List, [], ◌∷◌, length, set, leb, Some, None}
use Rattle.rules.specs.declared.Rule.{Rule}
use Rattle.rules.specs.declared.RuleList.{RuleList}
use Rattle.rules.specs.Bounds.{max_rules}
use Rattle.rules.specs.Check.{no_rule}
use Rattle.rules.specs.Ready.{rule_of}
use Rattle.rules.specs.Refusal.{bad_line}
use Rattle.decimal.specs.Word.{word_at, on_found}
use Rattle.grammar.specs.LineValues.{number}
use Rattle.grammar.specs.Form.{Kind, named, Says, line}
use Rattle.grammar.specs.TextReading.{on_seen, seen, many_at, after_many}
use Rattle.rule_lines.specs.declared.rule_lines.RuleLine.{RuleLine}
use Rattle.rule_lines.specs.declared.rule_lines.RulesRead.{RulesRead}

-- `rule`
abbrev pub rule_word : List ℕ
rule_word = 114 ∷ 117 ∷ 108 ∷ 101 ∷ []

-- rule,k,m,Z
abbrev pub rule_line : Kind
rule_line = named rule_word (number ∷ number ∷ number ∷ [])

-- what the line of a rule says, and the rule that such a line says
abbrev pub values_of_rule : Rule → Says rule_line
values_of_rule r = (r.k, (r.m, (r.zones, tt)))

abbrev pub rule_said : Says rule_line → Rule
rule_said x = rule_of x.0 x.1.0 x.1.1.0

unfoldable pub rule_values : List Rule → List (Says rule_line)
rule_values [] = []
rule_values (r ∷ rs) = values_of_rule r ∷ rule_values rs

unfoldable pub rules_said : List (Says rule_line) → List Rule
rules_said [] = []
rules_said (x ∷ xs) = rule_said x ∷ rules_said xs

-- n slots with the first n rules, filled up with the rule 0,0,0
unfoldable pub slots_of : ℕ → List Rule → List Rule
slots_of zero rs = []
slots_of (suc n) [] = no_rule ∷ slots_of n []
slots_of (suc n) (r ∷ rs) = r ∷ slots_of n rs

-- the list: its length counts all the rules, also those that have no slot
unfoldable pub rule_list_of : List Rule → RuleList
rule_list_of rs = record { rules = slots_of max_rules rs; len = length rs }

-- ---- by contract: what the functions that read rule lines give; the claims of the programs' texts say what that is

-- one rule more
unfoldable pub pushed : RuleList → Rule → RuleList
pushed l r = record { rules = cond (leb max_rules l.len) l.rules (set l.rules l.len r); len = l.len + 1 }

-- the line at an offset where a rule may come next: one that does not begin with the word, one that gives a rule, or one that begins so and does
-- not give one
unfoldable pub rule_line_at : List ℕ → ℕ → RuleLine
rule_line_at s at =
    on_seen (seen (line rule_line) s at) (λ x next. RuleLine.Rule x.0 x.1.0 x.1.1.0 next)
    (on_found (word_at rule_word s at) (λ p. RuleLine.Unreadable) RuleLine.Absent)

-- all the rule lines from `at` on, where line `first` begins; the line behind them is refused if it begins as one
unfoldable pub rules_read : List ℕ → ℕ → ℕ → RulesRead
rules_read s at first =
    let vss = many_at (line rule_line) (length s) s at in
    let end = after_many (line rule_line) (length s) s at in
    record {
      refusal = on_found (word_at rule_word s end) (λ p. Some (bad_line (first + length vss))) None;
      list = rule_list_of (rules_said vss);
      next = end;
      line = first + length vss;
    }
