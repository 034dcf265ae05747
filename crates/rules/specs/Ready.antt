-- TO BELIEVE: the two ready lists: the length and every slot. Definitions.
use Rattle.std.specs.Prelude.{ℕ, [], ◌∷◌}
use Rattle.rules.specs.declared.Rule.{Rule}
use Rattle.rules.specs.declared.RuleList.{RuleList}
use Rattle.rules.specs.Check.{no_rule}

abbrev pub rule_of : ℕ → ℕ → ℕ → Rule
rule_of k m zones = record { k = k; m = m; zones = zones }

abbrev pub western_electric : RuleList
western_electric = record {
  rules =
      rule_of 1 1 1 ∷ rule_of 2 3 64 ∷ rule_of 2 3 2 ∷ rule_of 4 5 96 ∷ rule_of 4 5 6 ∷ rule_of 8 8 112 ∷ rule_of 8 8 14 ∷ no_rule ∷ [];
  len = 7;
}

abbrev pub duncan_list : RuleList
duncan_list = record {
  rules = rule_of 1 1 1 ∷ rule_of 2 2 64 ∷ rule_of 2 2 2 ∷ rule_of 5 5 96 ∷ rule_of 5 5 6 ∷ no_rule ∷ no_rule ∷ no_rule ∷ [];
  len = 5;
}
