-- Laws of the table's rows: none, one more, and all of them; and of the numbers that are left for them.
use Rattle.std.specs.Prelude.{ℕ, zero, suc, ◌+◌, ◌-◌, ◌≤◌, ◌<◌, ◌≡◌, refl, List, ◌∷◌, length, get_or, take, drop}
use Rattle.std.proofs.Common.{ap, ◌∙◌, arith, add-one, length-drop, length-take-le}
use Rattle.std.proofs.lemmas.List.{drop_more, get_or-take}
use Rattle.write.specs.Wrote.{Wrote}
use Rattle.write.specs.PartsWritten.{joined}
use Rattle.write.specs.PartsWrittenLaws.{parts_start, parts_more, parts_done}
use Rattle.runlength.specs.Chain.{cdf_of}
use Rattle.runlength.proofs.CdfLaws.{cdf_zero, cdf_more, cdf_upto}
use Rattle.table_lines.specs.RowLine.{row_line, row_room, table_rows}
use Rattle.table_lines.specs.RowsWritten.{row_after, RowsWritten, LeftOf}

rows_joined : (n : ℕ) (pmf survival : List ℕ) → joined n (row_after pmf survival) ≡ table_rows n pmf survival
unfolding joined table_rows
rows_joined zero pmf survival = refl
rows_joined (suc n) pmf survival = rw (rows_joined n pmf survival)

module _ {a : List ℕ} {at h : ℕ} {pmf survival : List ℕ} where
  pub rowed_start : at ≤ length a → RowsWritten a at h pmf survival a at 0 0
  rowed_start l = record { sum = rw (cdf_zero pmf); parts = parts_start l }

  -- one chance more is at most the sum of all
  pub rowed_sum : {b : List ℕ} {e cdf n : ℕ} → RowsWritten a at h pmf survival b e cdf n → n < h → cdf + get_or pmf n 0 ≤ cdf_of pmf h
  rowed_sum {b} {e} {cdf} {n} i l = omega (arith, i.sum, cdf_more pmf n, cdf_upto pmf (n + 1) h (omega arith))

  pub rowed_more : {b c : List ℕ} {e cdf n r : ℕ} → RowsWritten a at h pmf survival b e cdf n → n < h
      → Wrote b e c r (row_line (n + 1) (get_or pmf n 0) (cdf + get_or pmf n 0) (get_or survival n 0))
      → r ≤ e + row_room
      → RowsWritten a at h pmf survival c r (cdf + get_or pmf n 0) (n + 1)
  rowed_more {b} {c} {e} {cdf} {n} {r} i l w m =
      let s : cdf + get_or pmf n 0 ≡ cdf_of pmf (n + 1) = omega (arith, i.sum, cdf_more pmf n) in
      record { sum = s; parts = parts_more i.parts l (rw (s, add-one n) at w) m }

  pub rowed_done : {b : List ℕ} {e cdf n : ℕ} → RowsWritten a at h pmf survival b e cdf n → h ≤ n → Wrote a at b e (table_rows h pmf survival)
  rowed_done i l = rw (rows_joined h pmf survival) at (parts_done i.parts l)

-- ---- the numbers that are left: one more, and none

left_length : {xs rest : List ℕ} {h n : ℕ} → LeftOf xs h n rest → length rest ≡ h - n
left_length {xs} {rest} {h} {n} o = ap length o.left ∙ length-drop n (take h xs) ∙ ap (λ (k : ℕ). k - n) (length-take-le h xs o.within)

pub left_below : {xs rest more : List ℕ} {h n x : ℕ} → LeftOf xs h n rest → rest ≡ x ∷ more → n < h
left_below o e = omega (arith, left_length o, ap length e)

left_split : {xs rest more : List ℕ} {h n x : ℕ} → LeftOf xs h n rest → rest ≡ x ∷ more → x ∷ more ≡ get_or xs n 0 ∷ drop (n + 1) (take h xs)
left_split {xs} {rest} {more} {h} {n} o e =
    let b = left_below o e in
    let d = drop_more (take h xs) n 0 (omega (arith, length-take-le h xs o.within)) in
    cc (e, o.left, d, get_or-take h xs n 0 b)

pub left_first : {xs rest more : List ℕ} {h n x : ℕ} → LeftOf xs h n rest → rest ≡ x ∷ more → x ≡ get_or xs n 0
left_first o e = cc (left_split o e)

pub left_more : {xs rest more : List ℕ} {h n x : ℕ} → LeftOf xs h n rest → rest ≡ x ∷ more → LeftOf xs h (n + 1) more
left_more o e = record { within = o.within; left = cc (left_split o e) }

pub left_none : {xs rest : List ℕ} {h n : ℕ} → LeftOf xs h n rest → length rest ≡ 0 → h ≤ n
left_none o e = omega (arith, left_length o)
