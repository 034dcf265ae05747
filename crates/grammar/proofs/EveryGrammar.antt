-- CLAIMS: of every clear grammar. Bytes are the text of some contents, or they stop being one at some line, never both;
-- the contents and the line are unique; and what is read is exactly these.
use Rattle.std.specs.Prelude.{ℕ, ◌+◌, ◌≡◌, ◌⊎◌, List}
use Rattle.std.proofs.Common.{arith}
use Rattle.grammar.specs.Newlines.{newlines}
use Rattle.grammar.specs.Grammar.{Grammar, Contents, bytes_of_all, TextIs, Stops}
use Rattle.grammar.specs.Clear.{Clear, kinds_of}
use Rattle.grammar.specs.Blocks.{StopsBy}
use Rattle.grammar.specs.TextReading.{read_text}
use Rattle.grammar.specs.Read.{Reading}
use Rattle.grammar.specs.Read.{ReadingIs}
use Rattle.grammar.proofs.LinesLaws.{newlines_all}
use Rattle.grammar.proofs.GrammarLaws.{front_in}
use Rattle.grammar.proofs.GrammarLaws.{text_or_stops as text_or_stops_proved, not_both as not_both_proved, line_once as line_once_proved}
use Rattle.grammar.proofs.GrammarLaws.{contents_once as contents_once_proved, by_stops as by_stops_proved, reading_is as reading_is_proved}
use Rattle.grammar.proofs.GrammarLaws.{reading_once as reading_once_proved}

-- All bytes are a text, or stop being one at some line.
pub text_or_stops : (g : Grammar) → Clear g → (s : List ℕ) → ((c : Contents g) × TextIs g c s) ⊎ ((n : ℕ) × Stops g s n)
text_or_stops = text_or_stops_proved

-- Never both:
pub not_both : {g : Grammar} → Clear g → {c : Contents g} {s : List ℕ} {n : ℕ} → TextIs g c s → Stops g s n → ⊥
not_both k t s = not_both_proved k t s

-- they stop being one at one line,
pub line_once : {g : Grammar} → Clear g → {s : List ℕ} {m n : ℕ} → Stops g s m → Stops g s n → m ≡ n
line_once = line_once_proved

-- and are the text of one contents.
pub contents_once : {g : Grammar} → Clear g → {c d : Contents g} {s : List ℕ} → TextIs g c s → TextIs g d s → c ≡ d
contents_once k t u = contents_once_proved k t u

-- The line is the one behind the LFs before it.
pub line_newlines : {g : Grammar} → Clear g → {s : List ℕ} {n : ℕ} (st : Stops g s n)
    → n ≡ 1 + newlines (bytes_of_all st.front)
line_newlines {g} k st =
    omega (arith, st.place, newlines_all (kinds_of g) k.1 st.front (front_in st) st.fit)

-- It stops there block by block, too.
pub by_stops : (g : Grammar) → Clear g → {s : List ℕ} {n : ℕ} → Stops g s n → StopsBy g s n
by_stops = by_stops_proved

-- ---- what is read: 17, 16 or the contents

-- What is read is so;
pub reading_is : (g : Grammar) → Clear g → (s : List ℕ) → ReadingIs g s (read_text g s)
reading_is = reading_is_proved

-- and it is so of nothing else.
pub reading_once : (g : Grammar) → Clear g → (s : List ℕ) {q r : Reading (Contents g)} → ReadingIs g s q
    → ReadingIs g s r → q ≡ r
reading_once = reading_once_proved

pub is_reading : (g : Grammar) → Clear g → (s : List ℕ) {r : Reading (Contents g)} → ReadingIs g s r → read_text g s ≡ r
is_reading g k s i = reading_once g k s (reading_is g k s) i
