-- TO BELIEVE: the weights of the zones in the order of the zones. Definition.
use Rattle.std.specs.Prelude.{ℕ, List, [], ◌∷◌}
use Rattle.rules.specs.declared.weights.ZoneWeights.{ZoneWeights}

-- from zone 0 on
abbrev pub weight_list : ZoneWeights → List ℕ
weight_list w = w.s ∷ w.a1 ∷ w.b1 ∷ w.c1 ∷ w.c2 ∷ w.b2 ∷ w.a2 ∷ w.c0 ∷ []
