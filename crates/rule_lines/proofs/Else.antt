-- A line that is not absent and is no rule is one that cannot be read.
use Rattle.std.proofs.Common.{ℕ, ◌≡◌, refl}
use Rattle.rule_lines.specs.declared.rule_lines.RuleLine.{RuleLine}

pub else_unreadable : (r : RuleLine) → (r ≡ RuleLine.Absent → ⊥) → ((k m zones next : ℕ) → r ≡ RuleLine.Rule k m zones next → ⊥)
    → r ≡ RuleLine.Unreadable
else_unreadable RuleLine.Absent a b = absurd (a refl)
else_unreadable (RuleLine.Rule k m zones next) a b = absurd (b k m zones next refl)
else_unreadable RuleLine.Unreadable a b = refl
