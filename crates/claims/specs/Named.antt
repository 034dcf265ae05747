-- TO BELIEVE: what demand 2 says of each call of a list: its row is the points since the chart was cleared. Definitions.
use Rattle.std.specs.Prelude.{ℕ, suc, ◌/◌, ◌%◌, ◌^◌, ◌≤◌, ◌<◌, ◌≡◌, true, false, List, [], ◌∷◌, length, get_or}
use Rattle.rules.specs.declared.Rule.{Rule}
use Rattle.rules.specs.Check.{no_rule}
use Rattle.rules.specs.Mask.{bit}
use Rattle.window.specs.ReferenceChart.{Answer, refused, quiet, signal, rule_holds}

-- the zones of the accepted points since the chart was cleared, the newest first: a refused call leaves them, a signal empties them
abbrev pub row_after : List ℕ → ℕ → Answer → List ℕ
row_after row z (refused n) = row
row_after row z (quiet count) = z ∷ row
row_after row z (signal count mask) = []

-- bit i of the mask is set exactly when rule i's T(k,m,Z) holds over the points, and no bit beyond the rules is ever set
pub record Names (rs : List Rule) (points : List ℕ) (mask : ℕ) : Type 0 where
  pub rules : (i : ℕ) → i < length rs → mask / 2 ^ i % 2 ≡ bit (rule_holds points (get_or rs i no_rule))
  pub no_others : (i : ℕ) → length rs ≤ i → mask / 2 ^ i % 2 ≡ 0

-- no rule's T(k,m,Z) holds over the points; and some rule's does
pub record NoneHolds (rs : List Rule) (points : List ℕ) : Type 0 where
  pub none : (i : ℕ) → i < length rs → rule_holds points (get_or rs i no_rule) ≡ false

pub record SomeHolds (rs : List Rule) (points : List ℕ) : Type 0 where
  pub index : ℕ
  pub within : index < length rs
  pub holds : rule_holds points (get_or rs index no_rule) ≡ true

-- An accepted call with the zone z: quiet where no rule holds over the points with this one, signal where some rule does, with the mask that
-- names them; either with the count of these points. Of a refused call nothing is said here.
abbrev pub Answered : List Rule → List ℕ → ℕ → Answer → Type 0
Answered rs row z (refused n) = Unit {0}
Answered rs row z (quiet count) = NoneHolds rs (z ∷ row) × (count ≡ suc (length row))
Answered rs row z (signal count mask) = SomeHolds rs (z ∷ row) × Names rs (z ∷ row) mask × (count ≡ suc (length row))

-- each call of a list, from the points since the chart was cleared
unfoldable pub EachAnswered : List Rule → List ℕ → List ℕ → List Answer → Type 0
EachAnswered rs row [] [] = Unit {0}
EachAnswered rs row [] (a ∷ answers) = ⊥
EachAnswered rs row (z ∷ zs) [] = ⊥
EachAnswered rs row (z ∷ zs) (a ∷ answers) = Answered rs row z a × EachAnswered rs (row_after row z a) zs answers
