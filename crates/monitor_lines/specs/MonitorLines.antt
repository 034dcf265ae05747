-- TO BELIEVE: the monitor program's lines. Definitions.
use Rattle.std.specs.Prelude.{ℕ, ◌+◌, List, [], ◌∷◌, ◌++◌, length}
use Rattle.decimal.specs.Word.{newline}
use Rattle.monitor_lines.specs.declared.lines.PointLine.{PointLine}
use Rattle.monitor_lines.specs.declared.lines.PointLine.TheVariants.{Quiet, Signal}
use Rattle.decimal.specs.Fields.{field}
use Rattle.write.specs.Field.{short_field}

-- `quiet`
abbrev pub quiet_word : List ℕ
quiet_word = 113 ∷ 117 ∷ 105 ∷ 101 ∷ 116 ∷ []

-- `signal`
abbrev pub signal_word : List ℕ
signal_word = 115 ∷ 105 ∷ 103 ∷ 110 ∷ 97 ∷ 108 ∷ []

-- `total`
abbrev pub total_word : List ℕ
total_word = 116 ∷ 111 ∷ 116 ∷ 97 ∷ 108 ∷ []

-- quiet,node,n,period
unfoldable pub quiet_line : ℕ → ℕ → ℕ → List ℕ
quiet_line node n period = quiet_word ++ field node ++ field n ++ field period ++ newline

-- signal,node,n,mask,period
unfoldable pub signal_line : ℕ → ℕ → ℕ → ℕ → List ℕ
signal_line node n mask period = signal_word ++ field node ++ field n ++ field mask ++ field period ++ newline

-- the line of a point
unfoldable pub point_bytes : PointLine → List ℕ
point_bytes (Quiet node n period) = quiet_line node n period
point_bytes (Signal node n mask period) = signal_line node n mask period

-- total,node,points,signals
unfoldable pub total_line : ℕ → ℕ → ℕ → List ℕ
total_line node points signals = total_word ++ field node ++ field points ++ field signals ++ newline

-- ---- working: the most bytes that each has; a signal's line is the longer one of a point

abbrev pub point_room : ℕ
point_room = length signal_word + short_field + short_field + short_field + short_field + length newline

abbrev pub total_room : ℕ
total_room = length total_word + short_field + short_field + short_field + length newline
