-- `check::explored_chain` meets its contract: a case of the chart's checks for each return.
use Rattle.std.proofs.Common.{arith, sym, ◌∙◌}
use Rattle.table.proofs.ChainCheckLaws.{bad_weights_lem, no_horizon, long_horizon, moves_made}
use Rattle.table.proofs.check.explored_chain.Goals as goal

pub returns-then-weight_sum-ne-WEIGHT_TOTAL-clause-checked : goal.returns-then-weight_sum-ne-WEIGHT_TOTAL-clause-checked
returns-then-weight_sum-ne-WEIGHT_TOTAL-clause-checked c =
    let a = c.args in
    bad_weights_lem a.list a.weights a.horizon c.requires.list_value (λ e. c.if-weight_sum-ne-WEIGHT_TOTAL.true (c.weight_sum.ensures ∙ e))

pub returns-then-horizon-lt-MIN_HORIZON-clause-checked : goal.returns-then-horizon-lt-MIN_HORIZON-clause-checked
returns-then-horizon-lt-MIN_HORIZON-clause-checked c =
    let a = c.args in
    let weights = sym c.weight_sum.ensures ∙ c.if-weight_sum-ne-WEIGHT_TOTAL.false in
    no_horizon a.list a.weights a.horizon c.requires.list_value weights (omega arith)

pub returns-then-horizon-gt-MAX_HORIZON-clause-checked : goal.returns-then-horizon-gt-MAX_HORIZON-clause-checked
returns-then-horizon-gt-MAX_HORIZON-clause-checked c =
    let a = c.args in
    let weights = sym c.weight_sum.ensures ∙ c.if-weight_sum-ne-WEIGHT_TOTAL.false in
    long_horizon a.list a.weights a.horizon c.requires.list_value weights (omega arith) (omega arith)

pub returns-clause-checked : goal.returns-clause-checked
returns-clause-checked c =
    let a = c.args in
    let weights = sym c.weight_sum.ensures ∙ c.if-weight_sum-ne-WEIGHT_TOTAL.false in
    let made = c.chain_moves in
    moves_made a.list a.weights a.horizon c.requires.list_value weights (omega arith) (omega arith) made.new.moves made.result made.ensures.made
