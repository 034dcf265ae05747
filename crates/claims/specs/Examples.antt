-- TO BELIEVE: document 01's marked examples, one table: what the operations' definitions give, beside what the paper says. Definitions.
use Rattle.std.specs.Prelude.{List, [], ◌∷◌, ℕ, ◌-◌, ◌/◌, ◌^◌, pos, Ok, Result}
use Rattle.table.specs.declared.TableFigures.{TableFigures}
use Rattle.bracket.specs.declared.Bracket.{Bracket}
use Rattle.rules.specs.declared.refusal.Refusal.{Refusal}
use Rattle.rules.specs.declared.RuleList.{RuleList}
use Rattle.rules.specs.Check.{no_rule, active_rules}
use Rattle.rules.specs.Ready.{rule_of}
use Rattle.runlength.specs.Scale.{units_per_one}
use Rattle.monitor.specs.Zone.{zone_of}
use Rattle.chain.specs.TableChain.{state_count}
use Rattle.table.specs.Table.{table_call, table_of}
use Rattle.bracket.specs.declared.Bracket.TheVariants.{At, Between, Open, Beyond}
use Rattle.bracket.specs.Bracket.{bracket_of}
use Rattle.table.specs.Table.{CallResult}

-- what an example is of
pub data Figure : Type 0 where
  zone : Result ℕ Refusal → Figure
  number : ℕ → Figure
  pmfs : List ℕ → Figure
  survivals : List ℕ → Figure
  answer : Result TableFigures Refusal → Figure
  bracket : Result Bracket Refusal → Figure

-- a rule list of one rule
abbrev pub one_rule : ℕ → ℕ → ℕ → RuleList
one_rule k m zones =
    record { rules = rule_of k m zones ∷ no_rule ∷ no_rule ∷ no_rule ∷ no_rule ∷ no_rule ∷ no_rule ∷ no_rule ∷ []; len = 1 }

-- the listing's weights, half in A1 and half in C2, and two lent lists of its horizon
abbrev pub halves : List ℕ
halves = 0 ∷ 536870912 ∷ 0 ∷ 0 ∷ 536870912 ∷ 0 ∷ 0 ∷ 0 ∷ []

abbrev pub empty : List ℕ
empty = 0 ∷ 0 ∷ 0 ∷ 0 ∷ []

-- the table of one rule with these
abbrev pub table_for : RuleList → CallResult (Result TableFigures Refusal)
table_for l = table_of (table_call l halves 4 empty empty)

abbrev pub listing : RuleList
listing = one_rule 2 2 2

-- the rows; `pick` takes what is given, or what the paper says; N for 2,3 and for 4,5 is given by its value
abbrev pub rows : ℕ → ℕ → (Figure → Figure → Figure) → List Figure
rows count_2_3 count_4_5 pick =
    -- zones with centre 100 and step 10: S, A1, C0, C2, S
    pick (zone (zone_of (pos 131) (pos 100) 10)) (zone (Ok 0))
    ∷ pick (zone (zone_of (pos 130) (pos 100) 10)) (zone (Ok 1))
    ∷ pick (zone (zone_of (pos 100) (pos 100) 10)) (zone (Ok 7))
    ∷ pick (zone (zone_of (pos 99) (pos 100) 10)) (zone (Ok 4))
    ∷ pick (zone (zone_of (pos 69) (pos 100) 10)) (zone (Ok 0))
    -- N for 2,3 and for 4,5
    ∷ pick (number count_2_3) (number 3)
    ∷ pick (number count_4_5) (number 10)
    -- the listing: chance and left, N, left at 4 and the cut mean
    ∷ pick (pmfs (table_for listing).pmf_list) (pmfs (0 ∷ 288230376151711744 ∷ 144115188075855872 ∷ 144115188075855872 ∷ []))
    ∷ pick (survivals (table_for listing).survival_list) (survivals (1152921504606846976 ∷ 864691128455135232 ∷ 720575940379279360 ∷ 576460752303423488 ∷ []))
    ∷ pick (answer (table_for listing).answer) (answer (Ok (record { state_count = 2; survival = 576460752303423488; mean_whole = 3; mean_fraction = 432345564227567616 })))
    -- its brackets of 25 and 75
    ∷ pick (bracket (bracket_of (table_for listing).pmf_list (state_count (active_rules listing)) 25)) (bracket (Ok (At 2)))
    ∷ pick (bracket (bracket_of (table_for listing).pmf_list (state_count (active_rules listing)) 75)) (bracket (Ok (Beyond 4)))
    -- the two short lists
    ∷ pick (bracket (bracket_of ((2 ^ 59 - 1) ∷ []) 1 50)) (bracket (Ok (Open 1)))
    ∷ pick (bracket (bracket_of ((2 ^ 59 - 1) ∷ 1 ∷ []) 1 50)) (bracket (Ok (Between 1 2)))
    -- rule 2,3,2 on the listing's weights
    ∷ pick (pmfs (table_for (one_rule 2 3 2)).pmf_list) (pmfs (0 ∷ (units_per_one / 4) ∷ (units_per_one / 4) ∷ (units_per_one / 8) ∷ []))
    ∷ []

abbrev pub marked : (Figure → Figure → Figure) → List Figure
marked pick = rows (state_count (active_rules (one_rule 2 3 6))) (state_count (active_rules (one_rule 4 5 6))) pick
