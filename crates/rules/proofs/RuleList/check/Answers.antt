-- `RuleList::check` meets its contract. The invariant: what is left of the list decides as the whole does.
use Rattle.std.proofs.Common.{rules, ℕ, ◌≡◌, sym, ◌∙◌, ap, ◌+◌, ◌-◌, ◌<◌, false, true, arith, Ok, Err}
use Rattle.rules.specs.declared.RuleList.{RuleList}
use Rattle.rules.specs.declared.refusal.Refusal.{Refusal}
use Rattle.rules.specs.Bounds.{min_rules, max_rules}
use Rattle.rules.specs.Check.{Checked, within, check_of, check_rule, check_rules, rules_from, active_rules, no_rule, or_else}
use Rattle.std.specs.Prelude.{get_or}
use Rattle.rules.proofs.CheckLaws.{check_cons, check_none}
use Rattle.rules.specs.Refusal.{bad_rule_count}
use Rattle.rules.proofs.RuleList.check.Goals as goal

-- a list whose length is not in bounds is refused, another is decided rule by rule
module _ (l : RuleList) where
  refuses : false ≡ within min_rules max_rules l.len → check_of l ≡ Err bad_rule_count
  unfolding check_of
  refuses e = rw (sym e)

  decides : true ≡ within min_rules max_rules l.len → check_of l ≡ check_rules 0 (active_rules l)
  unfolding check_of
  decides e = rw (sym e)

  -- by the rule at i, where those before it are accepted
  module _ (fits : true ≡ within min_rules max_rules l.len) (i : ℕ) (h : i < l.len)
      (left : check_rules 0 (rules_from l.len 0 l.rules) ≡ check_rules i (rules_from (l.len - i) i l.rules)) {c : Checked}
      (here : c ≡ check_rule i (get_or l.rules i no_rule)) where
    pub stops : (x : Refusal) → c ≡ Err x → Err x ≡ check_of l
    stops x e =
        sym (decides fits ∙ left ∙ check_cons l.rules l.len i h
        ∙ ap (λ (a : Checked). or_else a (check_rules (i + 1) (rules_from (l.len - (i + 1)) (i + 1) l.rules))) (sym here ∙ e))

    pub goes_on : c ≡ Ok tt
        → check_rules 0 (rules_from l.len 0 l.rules) ≡ check_rules (i + 1) (rules_from (l.len - (i + 1)) (i + 1) l.rules)
    goes_on e =
        left ∙ check_cons l.rules l.len i h
        ∙ ap (λ (a : Checked). or_else a (check_rules (i + 1) (rules_from (l.len - (i + 1)) (i + 1) l.rules))) (sym here ∙ e)

pub returns-then-not-within : goal.returns-then-not-within
returns-then-not-within c = sym (refuses c.args.self c.if-not-within.ensures)

pub loop-i-init : goal.loop-i-init
loop-i-init c = search rules

pub returns-in_err-check : goal.returns-in_err-check
returns-in_err-check c =
    let r : c.from_residual.result ≡ Err c.in_err-check.field-0.0 = search rules in
    r ∙ stops c.args.self c.if-not-within.ensures c.loop-i.i c.loop-i-test.true c.loop-i.invariant c.check.ensures c.in_err-check.field-0.0 c.in_err-check.was

pub loop-i-preserved : goal.loop-i-preserved
loop-i-preserved c =
    goes_on c.args.self c.if-not-within.ensures c.loop-i.i c.loop-i-test.true c.loop-i.invariant c.check.ensures c.in_ok-check.was

pub returns : goal.returns
returns c =
    let l = c.args.self in
    sym (decides l c.if-not-within.ensures ∙ c.loop-i.invariant ∙ check_none l.rules l.len c.loop-i.i (omega arith))
