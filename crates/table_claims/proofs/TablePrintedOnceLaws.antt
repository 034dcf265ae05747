-- A table's lines, row by row. Laws.
use Rattle.std.specs.Prelude.{ℕ, zero, suc, ◌+◌, ◌≤◌, ◌<◌, ◌≡◌, refl, Bool, true, false, List, [], ◌∷◌, ◌++◌, ltb, get_or, Ok}
use Rattle.std.proofs.Common.{sym, ap, ◌∙◌, append_assoc, append-nil, arith, ltb-true, ltb-false}
use Rattle.rules.specs.declared.Rule.{Rule}
use Rattle.runlength.specs.Sum.{tab}
use Rattle.runlength.specs.TabLaws.{tab_cong}
use Rattle.bracket.specs.Bracket.{bracket_of}
use Rattle.decimal.specs.Fields.{field, fields}
use Rattle.write.specs.Refused.{refused_line}
use Rattle.table_lines.specs.RowLine.{standings_line, header_line, row_line, arl_line}
use Rattle.table_lines.specs.PercentLine.{percent_line}
use Rattle.write.specs.Printed.{printed_bytes}
use Rattle.table_report.specs.TableReport.{table_printed}
use Rattle.table_claims.specs.TableTexts.{TableTextIs}
use Rattle.text_claims.specs.NumberOnceLaws.{comma, not_number, behind_once}
use Rattle.table_claims.specs.TableLinesLaws.{row_shape, standings_once, arl_once, row_once, percent_once}
use Rattle.table_claims.specs.TableOutput.{rows, five_percents, Figures, figure_lines, RowFigures, FiguresHold, FiguresHoldByRow}
use Rattle.table_claims.specs.TableOutput.{TableProgram, refuses, prints, TableProgramByRow, refuses_by_row, prints_by_row}
use Rattle.table_claims.proofs.TableProgram.{table_program, table_program_by_row}
use Rattle.table_claims.specs.TableOutput.{SameRow, SameFigures}

-- ---- rows, from the first on

rows_from : ℕ → ℕ → (ℕ → List ℕ) → List ℕ
rows_from zero i f = []
rows_from (suc k) i f = f i ++ rows_from k (suc i) f

rows_snoc : (k i : ℕ) (f : ℕ → List ℕ) → rows_from (suc k) i f ≡ rows_from k i f ++ f (i + k)
unfolding rows_from
rows_snoc zero i f = let e : i + 0 ≡ i = omega arith in rw (e, append-nil)
rows_snoc (suc k) i f =
    let e : suc i + k ≡ i + suc k = omega arith in
    ap (λ l. f i ++ l) (rows_snoc k (suc i) f) ∙ sym (append_assoc (f i) (rows_from k (suc i) f) (f (suc i + k)))
    ∙ ap (λ n. f i ++ rows_from k (suc i) f ++ f n) e

rows_from_lem : (h : ℕ) (f : ℕ → List ℕ) → rows h f ≡ rows_from h 1 f
unfolding rows rows_from
rows_from_lem zero f = refl
rows_from_lem (suc h) f =
    let e : 1 + h ≡ suc h = omega arith in
    rw (rows_from_lem h f) (ap (λ n. rows_from h 1 f ++ f n) (sym e) ∙ sym (rows_snoc h 1 f))

abbrev row_of : Figures → ℕ → List ℕ
row_of f n = row_line n (f.pmf n) (f.cdf n) (f.survival n)

-- behind the rows comes an `a`, which begins no row
rows_once : (f g : Figures) (k k' i : ℕ) (xs ys : List ℕ) → rows_from k i (row_of f) ++ (97 ∷ xs) ≡ rows_from k' i (row_of g) ++ (97 ∷ ys)
    → (k ≡ k') × ((n : ℕ) → i ≤ n → n < i + k → SameRow f g n) × (◌≡◌ {A = List ℕ} (97 ∷ xs) (97 ∷ ys))
unfolding rows_from fields field
rows_once f g zero zero i xs ys e = (refl, λ n p q. absurd (omega arith), e)
rows_once f g zero (suc k') i xs ys e =
    absurd (not_number i comma refl refl refl (sym (e ∙ append_assoc (row_of g i) (rows_from k' (suc i) (row_of g)) (97 ∷ ys) ∙ row_shape i _ _ _ _)))
rows_once f g (suc k) zero i xs ys e =
    absurd (not_number i comma refl refl refl (sym (sym e ∙ append_assoc (row_of f i) (rows_from k (suc i) (row_of f)) (97 ∷ xs) ∙ row_shape i _ _ _ _)))
rows_once f g (suc k) (suc k') i xs ys e =
    let o = row_once i _ _ _ i _ _ _
    (sym (append_assoc (row_of f i) (rows_from k (suc i) (row_of f)) (97 ∷ xs)) ∙ e ∙ append_assoc (row_of g i) (rows_from k' (suc i) (row_of g)) (97 ∷ ys)) in
    let r = rows_once f g k k' (suc i) xs ys o.4 in
    (ap suc r.0, (λ n p q. of_row n p q (o.1, o.2, o.3) r.1), r.2)
  where
    of_row : (n : ℕ) → i ≤ n → n < i + suc k → SameRow f g i → ((m : ℕ) → suc i ≤ m → m < suc i + k → SameRow f g m) → SameRow f g n
    of_row n p q s t = go (ltb i n) refl
      where
        go : (b : Bool) → ltb i n ≡ b → SameRow f g n
        go true c = t n (omega (arith, ltb-true i n c)) (omega arith)
        go false c = let z : i ≡ n = omega (arith, ltb-false i n c) in rw z at s

-- ---- a whole table

regroup : (a b c d e : List ℕ) → a ++ b ++ c ++ d ++ e ≡ a ++ (b ++ (c ++ (d ++ e)))
regroup a b c d e = simp append_assoc

abbrev q : Figures → ℕ → List ℕ
q f p = percent_line p (f.bracket p)

abbrev arl : Figures → List ℕ
arl f = arl_line f.whole f.fraction f.error_bound

-- The lines of a table determine how many rows there are and every number in them.
pub table_once : (h h' : ℕ) (f g : Figures) → figure_lines h f ≡ figure_lines h' g → (h ≡ h') × SameFigures h f g
unfolding figure_lines arl_line
table_once h h' f g e =
    let a = standings_once f.count g.count
    (sym (regroup (standings_line f.count) header_line (rows h (row_of f)) (arl f) (five_percents (q f))) ∙ e
    ∙ regroup (standings_line g.count) header_line (rows h' (row_of g)) (arl g) (five_percents (q g))) in
    let b : rows h (row_of f) ++ (arl f ++ five_percents (q f)) ≡ rows h' (row_of g) ++ (arl g ++ five_percents (q g)) = behind_once header_line a.1 in
    let b' : rows_from h 1 (row_of f) ++ (arl f ++ five_percents (q f)) ≡ rows_from h' 1 (row_of g) ++ (arl g ++ five_percents (q g)) =
    rw (← rows_from_lem h (row_of f), ← rows_from_lem h' (row_of g)) b in
    let c = rows_once f g h h' 1 _ _ b' in
    let d = arl_once _ _ _ _ _ _ c.2 in
    let five = sym (regroup (q f 5) (q f 25) (q f 50) (q f 75) (q f 95)) ∙ d.3 ∙ regroup (q g 5) (q g 25) (q g 50) (q g 75) (q g 95) in
    let q5 = percent_once 5 _ _ _ _ five in
    let q25 = percent_once 25 _ _ _ _ q5.1 in
    let q50 = percent_once 50 _ _ _ _ q25.1 in
    let q75 = percent_once 75 _ _ _ _ q50.1 in
    let q95 = percent_once 95 _ _ [] [] (append-nil (q f 95) ∙ q75.1 ∙ sym (append-nil (q g 95))) in (
      c.0,
      record {
        count = a.0;
        rows = λ n p r. c.1 n p (omega arith);
        whole = d.0;
        fraction = d.1;
        error_bound = d.2;
        brackets = (q5.0, q25.0, q50.0, q75.0, q95.0);
      },
    )

-- ---- numbers with the same lines hold alike

same_hold : {w : List ℕ} {rs : List Rule} {h : ℕ} {f g : Figures} → SameFigures h f g → FiguresHold w rs h f → FiguresHold w rs h g
same_hold {w} {rs} {h} {f} {g} e t =
    let q = e.brackets in
    let c = t.contains in
    record {
      states_are = sym e.count ∙ t.states_are;
      pmf_is = λ n i j. sym (e.rows n i j).0 ∙ t.pmf_is n i j;
      cdf_is = λ n i j. sym (e.rows n i j).1 ∙ t.cdf_is n i j;
      survival_is = λ n i j. sym (e.rows n i j).2 ∙ t.survival_is n i j;
      mean_is = rw (← e.whole, ← e.fraction) t.mean_is;
      fraction_below = rw (← e.fraction) t.fraction_below;
      error_is = rw (← e.error_bound, ← e.count) t.error_is;
      cdf_bounds = λ n i j. rw (← (e.rows n i j).1, ← e.count) (t.cdf_bounds n i j);
      mean_bounds = rw (← e.whole, ← e.fraction, ← e.error_bound) t.mean_bounds;
      contains = (rw (← q.0) c.0, rw (← q.1) c.1, rw (← q.2) c.2, rw (← q.3) c.3, rw (← q.4) c.4);
    }

-- the bracket of the same chances, with the same N
same_bracket : {h : ℕ} {f g : Figures} → SameFigures h f g → (p : ℕ) → f.bracket p ≡ g.bracket p
    → bracket_of (tab h (λ k. f.pmf (suc k))) f.count p ≡ Ok (f.bracket p)
    → bracket_of (tab h (λ k. g.pmf (suc k))) g.count p ≡ Ok (g.bracket p)
same_bracket {h} {f} {g} e p q b =
    let c : tab h (λ k. f.pmf (suc k)) ≡ tab h (λ k. g.pmf (suc k)) =
    tab_cong h _ _ (λ k i. (e.rows (suc k) (omega arith) (omega arith)).0) in
    rw (← c, ← e.count, ← q) b

same_by_row : {w : List ℕ} {rs : List Rule} {h : ℕ} {f g : Figures} {rows : ℕ → List ℕ} → SameFigures h f g → RowFigures w rs h f rows
    → RowFigures w rs h g rows
same_by_row e r = record {
  chance = λ n i. sym (e.rows (suc n) (omega arith) (omega arith)).0 ∙ rw (← e.count) (r.chance n i);
  by = λ n i j. sym (e.rows n i j).1 ∙ rw (← e.count) (r.by n i j);
  left = λ n i. sym (e.rows (suc n) (omega arith) (omega arith)).2 ∙ rw (← e.count) (r.left n i);
  mean = rw (← e.whole, ← e.fraction, ← e.count) r.mean;
}

same_hold_by_row : {w : List ℕ} {rs : List Rule} {h : ℕ} {f g : Figures} → SameFigures h f g → FiguresHoldByRow w rs h f → FiguresHoldByRow w rs h g
same_hold_by_row {w} {rs} {h} {f} {g} e t =
    let q = e.brackets in
    let c = t.contains in
    let b = t.brackets_are in
    record {
      counts = rw (← e.count) t.counts;
      none_fewer = rw (← e.count) t.none_fewer;
      by_row = λ rows each. same_by_row e (t.by_row rows (rw e.count each));
      mass_kept = λ n i j. rw (← (e.rows n i j).1, ← (e.rows n i j).2, ← e.count) (t.mass_kept n i j);
      fraction_below = rw (← e.fraction) t.fraction_below;
      error_is = rw (← e.error_bound, ← e.count) t.error_is;
      cdf_bounds = λ n i j. rw (← (e.rows n i j).1, ← e.count) (t.cdf_bounds n i j);
      mean_bounds = rw (← e.whole, ← e.fraction, ← e.error_bound) t.mean_bounds;
      brackets_are = (
        same_bracket e 5 q.0 b.0,
        same_bracket e 25 q.1 b.1,
        same_bracket e 50 q.2 b.2,
        same_bracket e 75 q.3 b.3,
        same_bracket e 95 q.4 b.4,
      );
      contains = (rw (← q.0) c.0, rw (← q.1) c.1, rw (← q.2) c.2, rw (← q.3) c.3, rw (← q.4) c.4);
    }

-- a table's first byte is no refusal's
pub table_not_refused : (h : ℕ) (f : Figures) (n p : ℕ) → figure_lines h f ≡ refused_line n p → ⊥
unfolding figure_lines standings_line refused_line
table_not_refused h f n p e = let z : ◌≡◌ {A = ℕ} 115 114 = ap (λ l. get_or l 0 0) e in omega arith

same_text : {s : List ℕ} {w : List ℕ} {rs : List Rule} {h h' : ℕ} → h ≡ h' → TableTextIs s w rs h → TableTextIs s w rs h'
same_text e t = rw (← e) t

same_rows : {w : List ℕ} {rs : List Rule} {h h' : ℕ} {g : Figures} → h ≡ h' → FiguresHold w rs h g → FiguresHold w rs h' g
same_rows e t = rw (← e) t

same_rows_by_row : {w : List ℕ} {rs : List Rule} {h h' : ℕ} {g : Figures} → h ≡ h' → FiguresHoldByRow w rs h g → FiguresHoldByRow w rs h' g
same_rows_by_row e t = rw (← e) t

-- Whoever reads the table program's output as the lines of h rows of any numbers g reads numbers that hold, of the weights, the rules and the
-- horizon h whose lines the text is.
pub table_read_off : (s : List ℕ) (h : ℕ) (g : Figures) → printed_bytes (table_printed s) ≡ figure_lines h g
    → (w : List ℕ) × (rs : List Rule) × TableTextIs s w rs h × FiguresHold w rs h g
table_read_off s h g e = go (table_program s)
  where
    go : TableProgram s (printed_bytes (table_printed s)) → (w : List ℕ) × (rs : List Rule) × TableTextIs s w rs h × FiguresHold w rs h g
    go (refuses number place q r) = absurd (table_not_refused h g number place (sym e ∙ q))
    go (prints w rs k f is m ok q t) =
        let o = table_once k h f g (sym q ∙ e) in
        (w, rs, same_text o.0 is, same_rows o.0 (same_hold o.1 t))

-- The same, of the figures over rows of the plain chart.
pub table_read_off_by_row : (s : List ℕ) (h : ℕ) (g : Figures) → printed_bytes (table_printed s) ≡ figure_lines h g
    → (w : List ℕ) × (rs : List Rule) × TableTextIs s w rs h × FiguresHoldByRow w rs h g
table_read_off_by_row s h g e = go (table_program_by_row s)
  where
    go : TableProgramByRow s (printed_bytes (table_printed s)) → (w : List ℕ) × (rs : List Rule) × TableTextIs s w rs h × FiguresHoldByRow w rs h g
    go (refuses_by_row number place q r) = absurd (table_not_refused h g number place (sym e ∙ q))
    go (prints_by_row w rs k f is m ok q t) =
        let o = table_once k h f g (sym q ∙ e) in
        (w, rs, same_text o.0 is, same_rows_by_row o.0 (same_hold_by_row o.1 t))
