-- The table program's text by its contents. Laws.
use Rattle.std.specs.Prelude.{ℕ, ◌≤◌, ◌≡◌, List, length, Result, Ok}
use Rattle.std.proofs.Common.{sym, ap, ◌∙◌, arith}
use Rattle.rules.specs.declared.Rule.{Rule}
use Rattle.rules.specs.declared.refusal.Refusal.{Refusal}
use Rattle.rules.specs.Bounds.{zone_count, max_rules}
use Rattle.rules.specs.Check.{active_rules}
use Rattle.grammar.specs.NumberFields.{numbers_in}
use Rattle.grammar.proofs.NumberFieldsLaws.{numbers_length, in_values, values_in}
use Rattle.grammar.specs.Grammar.{Contents, TextIs}
use Rattle.grammar.specs.Size.{max_text}
use Rattle.grammar.specs.TextReading.{read_text}
use Rattle.grammar.specs.Read.{Reading}
use Rattle.grammar.specs.Read.{ReadingIs, too_long_lem, wrong, right}
use Rattle.grammar.proofs.EveryGrammar.{contents_once, reading_is, is_reading}
use Rattle.rule_lines.specs.Rules.{rules_said, rule_list_of}
use Rattle.rule_lines.specs.RulesLaws.{active_rules_lem, said_values, values_said}
use Rattle.table_text.specs.declared.TableText.{TableText}
use Rattle.table_text.specs.TableGrammar.{table_grammar, table_contents}
use Rattle.table_text.specs.TableText.{table_given, table_text}
use Rattle.table_text.specs.ReadTable.{read_table}
use Rattle.table_text.specs.TableTextLaws.{clear_table}
use Rattle.table_claims.specs.TableTexts.{TableTextIs}

-- what contents say: weights, rules and a horizon
abbrev pub weights_in : Contents table_grammar → List ℕ
weights_in c = numbers_in zone_count c.0

abbrev pub rules_in : Contents table_grammar → List Rule
rules_in c = rules_said c.1.0

abbrev pub horizon_in : Contents table_grammar → ℕ
horizon_in c = c.1.1.0.0

contents_said : (c : Contents table_grammar) → table_contents (weights_in c) (rules_in c) (horizon_in c) ≡ c
contents_said c =
    let ws = values_in zone_count c.0 in
    let rs = values_said c.1.0 in
    λ i. (ws i, (rs i, (c.1.1.0, tt)))

-- A text whose contents these are is the text of what they say.
pub table_is : {s : List ℕ} (c : Contents table_grammar) → TextIs table_grammar c s → length s ≤ max_text → TableTextIs s (weights_in c) (rules_in c) (horizon_in c)
table_is {s} c t l = record { text = rw (contents_said c) t; short = l; zones = numbers_length zone_count c.0 }

-- The lines of weights, rules and a horizon are read back.
pub table_read : {s : List ℕ} {w : List ℕ} {rs : List Rule} {h : ℕ} → TableTextIs s w rs h → table_text s ≡ Ok (read_table w rs h)
unfolding table_text table_given
table_read {s} {w} {rs} {h} t = rw (is_reading table_grammar clear_table s (right t.short t.text), in_values zone_count w t.zones, said_values rs)

-- A text is the lines of at most one list of weights, one list of rules and one horizon.
pub table_text_once : {s : List ℕ} {w w' : List ℕ} {rs rs' : List Rule} {h h' : ℕ} → TableTextIs s w rs h → TableTextIs s w' rs' h'
    → (w ≡ w') × (rs ≡ rs') × (h ≡ h')
table_text_once {s} {w} {w'} {rs} {rs'} {h} {h'} t t' =
    let e = contents_once clear_table t.text t'.text in (
      sym (in_values zone_count w t.zones) ∙ ap weights_in e ∙ in_values zone_count w' t'.zones,
      sym (said_values rs) ∙ ap rules_in e ∙ said_values rs',
      ap horizon_in e,
    )

-- A text is accepted exactly where it is the lines of weights, rules and a horizon: then it gives these.
pub table_accepted : (s : List ℕ) (t : TableText) → table_text s ≡ Ok t
    → (w : List ℕ) × (rs : List Rule) × (h : ℕ) × TableTextIs s w rs h
unfolding table_text table_given
table_accepted s t z = go (read_text table_grammar s) (reading_is table_grammar clear_table s) z
  where
    go : (r : Reading (Contents table_grammar)) → ReadingIs table_grammar s r → table_given r ≡ Ok t
        → (w : List ℕ) × (rs : List Rule) × (h : ℕ) × TableTextIs s w rs h
    go r (too_long_lem l) z = absurd (let z : ◌≡◌ {A = ℕ} 0 1 = cc in omega arith)
    go r (wrong l st) z = absurd (let z : ◌≡◌ {A = ℕ} 0 1 = cc in omega arith)
    go r (right {c} l t) z = (weights_in c, rules_in c, horizon_in c, table_is c t l)

-- The same by the equation with what is read, for the rules that a list has slots for.
pub table_exactly : {s : List ℕ} {w : List ℕ} {rs : List Rule} {h : ℕ} → length rs ≤ max_rules → table_text s ≡ Ok (read_table w rs h) → TableTextIs s w rs h
unfolding read_table rule_list_of
table_exactly {s} {w} {rs} {h} few e =
    let a = table_accepted s (read_table w rs h) e in
    let both : ◌≡◌ {A = Result TableText Refusal} (Ok (read_table a.0 a.1 a.2)) (Ok (read_table w rs h)) = sym (table_read a.3) ∙ e in
    let same : read_table a.0 a.1 a.2 ≡ read_table w rs h = cc in
    let ws : a.0 ≡ w = ap (λ (t : TableText). t.weights) same in
    let count : length a.1 ≡ length rs = ap (λ (t : TableText). t.list.len) same in
    let list : active_rules (rule_list_of a.1) ≡ active_rules (rule_list_of rs) = ap (λ (t : TableText). active_rules t.list) same in
    let rules : a.1 ≡ rs = sym (active_rules_lem a.1 (omega arith)) ∙ list ∙ active_rules_lem rs few in
    let hs : a.2 ≡ h = ap (λ (t : TableText). t.horizon) same in
    put ws rules hs a.3
  where
    put : {v v' : List ℕ} {l l' : List Rule} {n n' : ℕ} → v ≡ v' → l ≡ l' → n ≡ n' → TableTextIs s v l n → TableTextIs s v' l' n'
    put p q r t = rw (← p, ← q, ← r) t
