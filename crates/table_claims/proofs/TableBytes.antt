-- CLAIMS: the table program's text. It is accepted exactly where it is the lines of weights, rules and a horizon, and it then gives these; where it
-- stops being one it is refused by 16, there.
use Rattle.std.specs.Prelude.{ℕ, ◌≤◌, ◌<◌, ◌≡◌, List, length, Ok, Err}
use Rattle.rules.specs.declared.Rule.{Rule}
use Rattle.rules.specs.Bounds.{max_rules}
use Rattle.rules.specs.Refusal.{bad_line, too_long}
use Rattle.grammar.specs.Grammar.{Stops}
use Rattle.grammar.specs.Size.{max_text}
use Rattle.grammar.specs.Read.{too_long_lem, wrong}
use Rattle.grammar.proofs.EveryGrammar.{is_reading}
use Rattle.table_text.specs.declared.TableText.{TableText}
use Rattle.table_text.specs.TableGrammar.{table_grammar}
use Rattle.table_text.specs.TableText.{table_given, table_text}
use Rattle.table_text.specs.ReadTable.{read_table}
use Rattle.table_text.specs.TableTextLaws.{clear_table}
use Rattle.table_claims.specs.TableTexts.{TableTextIs}
use Rattle.table_claims.proofs.TableBytesLaws.{table_read as table_read_proved, table_text_once as table_text_once_proved, table_accepted as table_accepted_proved}
use Rattle.table_claims.proofs.TableBytesLaws.{table_exactly as table_exactly_proved}

-- The lines of weights, rules and a horizon are read back.
pub table_read : {s : List ℕ} {w : List ℕ} {rs : List Rule} {h : ℕ} → TableTextIs s w rs h → table_text s ≡ Ok (read_table w rs h)
table_read = table_read_proved

-- A text is the lines of at most one list of weights, one list of rules and one horizon.
pub table_text_once : {s : List ℕ} {w w' : List ℕ} {rs rs' : List Rule} {h h' : ℕ} → TableTextIs s w rs h → TableTextIs s w' rs' h'
    → (w ≡ w') × (rs ≡ rs') × (h ≡ h')
table_text_once = table_text_once_proved

-- A text is accepted exactly where it is the lines of weights, rules and a horizon: then it gives these.
pub table_accepted : (s : List ℕ) (t : TableText) → table_text s ≡ Ok t
    → (w : List ℕ) × (rs : List Rule) × (h : ℕ) × TableTextIs s w rs h
table_accepted = table_accepted_proved

-- The same by the equation with what is read, for the rules that a list has slots for.
pub table_exactly : {s : List ℕ} {w : List ℕ} {rs : List Rule} {h : ℕ} → length rs ≤ max_rules → table_text s ≡ Ok (read_table w rs h) → TableTextIs s w rs h
table_exactly = table_exactly_proved

-- Bytes that stop being a text at a line are refused by 16, with that line as the place.
pub table_stopped : {s : List ℕ} {place : ℕ} → length s ≤ max_text → Stops table_grammar s place → table_text s ≡ Err (bad_line place)
unfolding table_text table_given
table_stopped {s} {place} l st = rw (is_reading table_grammar clear_table s (wrong l st))

-- Longer bytes than a text may have are refused by 17.
pub table_too_long : (s : List ℕ) → max_text < length s → table_text s ≡ Err too_long
unfolding table_text table_given
table_too_long s l = rw (is_reading table_grammar clear_table s (too_long_lem l))
