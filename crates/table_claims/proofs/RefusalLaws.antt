-- By which numbers a chart is refused. Laws.
use Rattle.std.specs.Prelude.{ℕ, ◌≡◌, List, leb, eqb, Err}
use Rattle.rules.specs.declared.RuleList.{RuleList}
use Rattle.rules.specs.declared.refusal.Refusal.{Refusal}
use Rattle.rules.specs.Bounds.{zone_count, max_states}
use Rattle.rules.specs.Refusal.{number_of, bad_weights, bad_horizon, too_many_states}
use Rattle.rules.specs.Check.{within, unless, active_rules, check_of}
use Rattle.rules.specs.Numbers.{rule_numbers, OneOf, here, there}
use Rattle.rules.proofs.NumbersLaws.{on_both, refused_by_lem, list_number}
use Rattle.runlength.specs.Sum.{sum, at}
use Rattle.runlength.specs.Scale.{max_horizon, weight_total, min_horizon}
use Rattle.chain.specs.TableChain.{explored_count}
use Rattle.table.specs.Table.{chain_check}
use Rattle.table_claims.specs.TableOutput.{chain_numbers}

more_numbers : {x : ℕ} → OneOf rule_numbers x → OneOf chain_numbers x
more_numbers (here e) = here e
more_numbers (there (here e)) = there (here e)
more_numbers (there (there (here e))) = there (there (here e))
more_numbers (there (there (there o))) = elim o [ ]

pub chain_number : (l : RuleList) (w : List ℕ) (h : ℕ) (x : Refusal) → chain_check l w h ≡ Err x → OneOf chain_numbers (number_of x)
unfolding chain_check
chain_number l w h x e =
    let weights = eqb (sum zone_count (at w)) weight_total in
    let horizon = within min_horizon max_horizon h in
    let count = leb (explored_count (active_rules l)) max_states in
    on_both _ (check_of l) _ x (λ q. more_numbers (list_number l x q))
    (on_both _ (unless weights bad_weights) _ x (λ q. there (there (there (here (refused_by_lem weights bad_weights x q)))))
    (on_both _ (unless horizon bad_horizon) _ x (λ q. there (there (there (there (here (refused_by_lem horizon bad_horizon x q))))))
    (λ q. there (there (there (there (there (here (refused_by_lem count (too_many_states 0) x q))))))))) e
