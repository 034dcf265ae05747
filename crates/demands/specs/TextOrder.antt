-- TO BELIEVE: the order of the refusals of each program's text, by plain conditions: 17, 16 at its line, and then
-- what the text says. Definitions.
use Rattle.std.specs.Prelude.{ℕ, ◌<◌, ◌≡◌, List, ℤ, length}
use Rattle.rules.specs.declared.Rule.{Rule}
use Rattle.rules.specs.declared.refusal.Refusal.{Refusal}
use Rattle.rules.specs.Refusal.{number_of, place_of, bad_line, too_long, bad_node}
use Rattle.grammar.specs.Grammar.{Grammar, Stops}
use Rattle.grammar.specs.Size.{max_text}
use Rattle.rule_lines.specs.Rules.{rule_list_of}
use Rattle.table_text.specs.TableGrammar.{table_grammar}
use Rattle.table_lines.specs.LargestHorizon.{max_rows}
use Rattle.monitor_text.specs.Readings.{NodeReading, OnBench}
use Rattle.monitor_text.specs.MonitorGrammar.{monitor_grammar}
use Rattle.weights_report.specs.ShiftText.{shift_grammar}
use Rattle.table_claims.specs.TableTexts.{TableTextIs}
use Rattle.monitor_claims.specs.MonitorTexts.{MonitorTextIs, OffBench}
use Rattle.weights_claims.specs.WeightsTexts.{ShiftTextIs}
use Rattle.demands.specs.Order.{By, Unrefused, ListThen, SigmaThen, ChartThen, ShiftOrder}

-- refused by y with the place of which the condition holds; where it holds of none, as the rest of the order says
pub data ByPlace (Condition : ℕ → Type 0) (y : ℕ → Refusal) (Rest : Refusal → Type 0) : Refusal → Type 0 where
  here : (place : ℕ) → Condition place → ByPlace Condition y Rest (y place)
  later : {x : Refusal} → ((place : ℕ) → Condition place → ⊥) → Rest x → ByPlace Condition y Rest x

-- a line with this number and this place tells the first refusal of the order that holds
pub record Told (Order : Refusal → Type 0) (number place : ℕ) : Type 0 where
  pub refusal : Refusal
  pub first : Order refusal
  pub number_is : number ≡ number_of refusal
  pub place_is : place ≡ place_of refusal

-- any text: 17; 16 at the line where the bytes stop being a text of the grammar; then the rest
abbrev pub TextThen : Grammar → List ℕ → (Refusal → Type 0) → Refusal → Type 0
TextThen g s Rest = By (max_text < length s) too_long (ByPlace (Stops g s) bad_line Rest)

-- ---- the table program: 17; 16; then 2, 3, 4; 8; 9, also over its own largest horizon; 10

pub record TableSays (s : List ℕ) (x : Refusal) : Type 0 where
  pub weights : List ℕ
  pub rules : List Rule
  pub horizon : ℕ
  pub text : TableTextIs s weights rules horizon
  pub refused : ChartThen (rule_list_of rules) weights max_rows horizon Unrefused x

abbrev pub TableTextOrder : List ℕ → Refusal → Type 0
TableTextOrder s = TextThen table_grammar s (TableSays s)

-- ---- the monitor program: 17; 16; 19 at the first point of no node; then 2, 3, 4; 1

pub record OffBenchAt (s : List ℕ) (place : ℕ) : Type 0 where
  pub centre : ℤ
  pub sigma : ℕ
  pub rules : List Rule
  pub off : OffBench s centre sigma rules place

pub record MonitorSays (s : List ℕ) (x : Refusal) : Type 0 where
  pub centre : ℤ
  pub sigma : ℕ
  pub rules : List Rule
  pub points : List NodeReading
  pub text : MonitorTextIs s centre sigma rules points
  pub on_bench : OnBench points
  pub refused : ListThen (rule_list_of rules) (SigmaThen sigma Unrefused) x

abbrev pub MonitorTextOrder : List ℕ → Refusal → Type 0
MonitorTextOrder s = TextThen monitor_grammar s (ByPlace (OffBenchAt s) bad_node (MonitorSays s))

-- ---- the weights program: 17; 16; then 18

pub record ShiftSays (s : List ℕ) (x : Refusal) : Type 0 where
  pub shift : ℤ
  pub text : ShiftTextIs s shift
  pub refused : ShiftOrder shift x

abbrev pub WeightsTextOrder : List ℕ → Refusal → Type 0
WeightsTextOrder s = TextThen shift_grammar s (ShiftSays s)
