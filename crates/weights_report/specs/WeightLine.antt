-- TO BELIEVE: the weights program's line. Definitions.
use Rattle.std.specs.Prelude.{ℕ, ◌+◌, ◌*◌, List, ◌++◌, length}
use Rattle.rules.specs.declared.weights.ZoneWeights.{ZoneWeights}
use Rattle.rules.specs.Bounds.{zone_count}
use Rattle.rules.specs.Weights.{weight_list}
use Rattle.decimal.specs.Fields.{fields}
use Rattle.decimal.specs.Word.{newline}
use Rattle.table_text.specs.TableGrammar.{weights_word}
use Rattle.write.specs.Field.{short_field}

-- weights,w0,w1,w2,w3,w4,w5,w6,w7
unfoldable pub weight_line : ZoneWeights → List ℕ
weight_line w = weights_word ++ fields (weight_list w) ++ newline

-- ---- working: the most bytes that it has

abbrev pub weights_room : ℕ
weights_room = length weights_word + zone_count * short_field + length newline
