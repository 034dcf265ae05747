-- Fields written one behind the other. Laws.
use Rattle.std.specs.Prelude.{ℕ, zero, suc, ◌+◌, ◌≤◌, ◌<◌, ◌≡◌, refl, List, length, get_or, take}
use Rattle.std.proofs.Common.{sym, ap, ◌∙◌, arith, take-suc, take_all, Fits}
use Rattle.std.specs.Int.{w32}
use Rattle.decimal.specs.Fields.{field, fields}
use Rattle.decimal.specs.FieldsLaws.{fields_snoc}
use Rattle.write.specs.Wrote.{Wrote}
use Rattle.write.specs.Field.{short_field}
use Rattle.write.proofs.FieldLaws.{field_short}
use Rattle.write.specs.PartsWritten.{joined, PartsWritten}
use Rattle.write.specs.PartsWrittenLaws.{parts_start, parts_more, parts_done}

-- the fields of the first i numbers stand in the buffer from `at` on, up to e
pub record FieldsWritten (before : List ℕ) (at : ℕ) (ns after : List ℕ) (e i : ℕ) : Type 0 where
  pub parts : PartsWritten before at short_field (length ns) (λ k. field (get_or ns k 0)) after e i

fields_joined : (ns : List ℕ) (i : ℕ) → i ≤ length ns → joined i (λ k. field (get_or ns k 0)) ≡ fields (take i ns)
unfolding joined fields
fields_joined ns zero h = refl
fields_joined ns (suc i) h =
    rw (fields_joined ns i (omega arith), take-suc ns i 0 (omega arith)) (sym (fields_snoc (take i ns) (get_or ns i 0)))

module _ {a : List ℕ} {at : ℕ} {ns : List ℕ} where
  pub fielded_start : at ≤ length a → FieldsWritten a at ns a at 0
  fielded_start l = record { parts = parts_start l }

  pub fielded_more : {b c : List ℕ} {e i r : ℕ} → FieldsWritten a at ns b e i → i < length ns → Fits w32 (get_or ns i 0)
      → Wrote b e c r (field (get_or ns i 0)) → FieldsWritten a at ns c r (i + 1)
  fielded_more f l h w = record { parts = parts_more f.parts l w (omega (arith, field_short _ h.fits)) }

  pub fielded_done : {b : List ℕ} {e i : ℕ} → FieldsWritten a at ns b e i → length ns ≤ i → Wrote a at b e (fields ns)
  fielded_done f l =
      let all : joined (length ns) (λ k. field (get_or ns k 0)) ≡ fields ns = fields_joined ns (length ns) (omega arith) ∙ ap fields (take_all (length ns) ns (omega arith)) in
      rw all at (parts_done f.parts l)
