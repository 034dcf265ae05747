-- TO BELIEVE: a list with more states than are taken. Definition.
use Rattle.std.specs.Prelude.{[], ◌∷◌}
use Rattle.rules.specs.declared.RuleList.{RuleList}
use Rattle.rules.specs.Ready.{rule_of}

-- two of the last nine points in one zone, for each zone
abbrev pub twice_in_nine : RuleList
twice_in_nine = record {
  rules = rule_of 2 9 1 ∷ rule_of 2 9 2 ∷ rule_of 2 9 4 ∷ rule_of 2 9 8 ∷ rule_of 2 9 16 ∷ rule_of 2 9 32 ∷ rule_of 2 9 64 ∷ rule_of 2 9 128 ∷ [];
  len = 8;
}
