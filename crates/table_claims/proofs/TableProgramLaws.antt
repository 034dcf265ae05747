-- What the table program prints, case by case. Laws.
use Prim.Native.Nat.{ℕ, zero, suc, ◌+◌, ◌*◌, ◌≤◌}
use Rattle.std.specs.Prelude.{◌≡◌, Bool, true, false, cond, List, leb, eqb, length, take, drop, Err, Ok, Result}
use Rattle.std.proofs.Math.Path.{refl, sym, ap}
use Rattle.std.proofs.Common.{◌∙◌, arith, le_refl, leb-true}
use Rattle.std.proofs.lemmas.List.{length-replicate}
use Rattle.std.proofs.Math.Seq.{take_at}
use Rattle.rules.specs.declared.Rule.{Rule}
use Rattle.rules.specs.declared.RuleList.{RuleList}
use Rattle.rules.specs.declared.refusal.Refusal.{Refusal}
use Rattle.rules.specs.Refusal.{place_of, number_of, bad_line, too_long}
use Rattle.runlength.specs.Scale.{units_per_one}
use Rattle.runlength.specs.Sum.{tab, front}
use Rattle.runlength.specs.TabLaws.{length_tab}
use Rattle.runlength.specs.Chain.{pmf, cdf, survival, error_bound_of}
use Rattle.runlength.proofs.ConservationLaws.{mass_conservation}
use Rattle.table.specs.Table.{TableCall, table_call, rules_of, chain_of, chain_check, table_of, pmf_of}
use Rattle.table.proofs.ChainCheckLaws.{chain_accepted, accepted_chain}
use Rattle.table.proofs.TableLaws.{room_check, refused_check}
use Rattle.bracket.specs.Contains.{BracketContains}
use Rattle.bracket.specs.Limits.{min_percent, max_percent}
use Rattle.bracket.specs.Bracket.{percentile_bracket, bracket_of}
use Rattle.bracket.proofs.BracketLaws.{accepted_bracket}
use Rattle.summary.specs.declared.Summary.{Summary}
use Rattle.summary.specs.Summary.{summary_by, summary_of}
use Rattle.summary.specs.AcceptedSummary.{AcceptedSummary}
use Rattle.summary.proofs.SummaryLaws.{accepted_summary, accepted_figures, refused_table_lem}
use Rattle.table_text.specs.declared.TableText.{TableText}
use Rattle.rule_lines.specs.Rules.{rule_list_of}
use Rattle.rule_lines.specs.RulesLaws.{active_rules_lem, rules_few}
use Rattle.table_text.specs.TableText.{table_given, table_text}
use Rattle.table_text.specs.ReadTable.{read_table}
use Rattle.table_lines.specs.RowLine.{row_line, table_rows}
use Rattle.table_lines.specs.PercentLine.{percent_lines}
use Rattle.table_lines.specs.LargestHorizon.{max_rows}
use Rattle.table_lines.specs.TableLines.{table_bytes}
use Rattle.write.specs.Printed.{refused_by, printed_bytes}
use Rattle.table_lines.specs.LargestHorizon.{report_horizon}
use Rattle.table_report.specs.TableReport.{text_lines, report_call, table_lines, summary_lines, blank, table_printed}
use Rattle.table_report.specs.TableReportLaws.{horizon_small}
use Rattle.grammar.specs.Grammar.{Contents}
use Rattle.grammar.specs.TextReading.{read_text}
use Rattle.grammar.specs.Read.{Reading}
use Rattle.grammar.specs.Read.{ReadingIs, too_long_lem, wrong, right}
use Rattle.grammar.proofs.EveryGrammar.{reading_is}
use Rattle.table_text.specs.TableGrammar.{table_grammar}
use Rattle.table_text.specs.TableTextLaws.{clear_table}
use Rattle.claims.specs.Exact.{reached}
use Rattle.claims.proofs.ContainsLaws.{call_contains}
use Rattle.claims.proofs.Demand2.{rows_counted, chance_by_row, by_by_row, left_by_row, mean_by_row}
use Rattle.claims.proofs.Demand3.{cdf_bounds, mean_bounds}
use Rattle.claims.proofs.FewestStates.{none_fewer_states}
use Rattle.table_claims.specs.TableTexts.{TableTextIs}
use Rattle.table_claims.proofs.TableBytesLaws.{weights_in, rules_in, horizon_in, table_is}
use Rattle.table_claims.proofs.TableBytes.{table_read, table_text_once, table_stopped, table_too_long as text-too-long}
use Rattle.table_claims.specs.TableOutput.{rows, Figures, figure_lines, FiguresHold, FiguresHoldByRow, TableRefusal, TableProgram, TableProgramByRow, bad_table}
use Rattle.table_claims.specs.TableOutput.{refuses, prints, refuses_by_row, prints_by_row, too_long_lem as table_too_long, bad_line_lem as table-bad-line}
use Rattle.table_claims.proofs.RefusalLaws.{chain_number}
use Rattle.table_claims.proofs.ChainFiguresLaws.{figures_by_chain}

-- ---- the lines of an accepted table are those of the chain's figures

module _ (t : TableCall) (s : Summary) (ok : (summary_of t).answer ≡ Ok s) where
  call : AcceptedSummary t s
  call = accepted_summary t s ok

  rows_are : (n : ℕ) → n ≤ t.horizon → table_rows n (table_of t).pmf_list (table_of t).survival_list
      ≡ rows n (λ n. row_line n (pmf (chain_of t) n) (cdf (chain_of t) n) (survival (chain_of t) n))
  unfolding table_rows rows
  rows_are zero i = refl
  rows_are (suc n) i =
      rw (
        rows_are n (omega arith),
        call.table.pmf_at n (omega arith),
        call.table.survival_at n (omega arith),
        call.table.list_cdf (suc n) i,
      )

  figures : Figures
  figures =
      record {
        count = s.figures.state_count;
        pmf = pmf (chain_of t);
        cdf = cdf (chain_of t);
        survival = survival (chain_of t);
        whole = s.figures.mean_whole;
        fraction = s.figures.mean_fraction;
        error_bound = error_bound_of s.figures.state_count t.horizon;
        bracket = λ percent. percentile_bracket (pmf_of t) s.figures.state_count percent;
      }

  lines_are : table_bytes s t.horizon (table_of t).pmf_list (table_of t).survival_list ≡ figure_lines t.horizon figures
  unfolding figures table_bytes figure_lines percent_lines summary_by
  lines_are = ap (λ x. table_bytes x t.horizon (table_of t).pmf_list (table_of t).survival_list) call.is ∙ rw (rows_are t.horizon (le_refl t.horizon))

  contains : (percent : ℕ) → BracketContains (reached (rules_of t) t.weights percent) (percentile_bracket (pmf_of t) s.figures.state_count percent)
  contains percent = call_contains call.table percent

  -- the chances as the call wrote them are the printed column
  chances_are : pmf_of t ≡ tab t.horizon (λ k. pmf (chain_of t) (suc k))
  unfolding front
  chances_are =
      ap (take t.horizon) call.table.pmf_list_lem
      ∙ take_at (tab t.horizon (λ k. pmf (chain_of t) (suc k))) (drop t.horizon t.pmf_before) t.horizon
      (length_tab t.horizon (λ k. pmf (chain_of t) (suc k)))

  bracket_is : (percent : ℕ) → min_percent ≤ percent → percent ≤ max_percent
      → bracket_of (tab t.horizon (λ k. pmf (chain_of t) (suc k))) s.figures.state_count percent
      ≡ Ok (percentile_bracket (pmf_of t) s.figures.state_count percent)
  bracket_is percent low high =
      ap (λ l. bracket_of l s.figures.state_count percent) (sym chances_are)
      ∙ accepted_bracket (pmf_of t) s.figures.state_count percent (call.brackets percent low high)

  kept : (n : ℕ) → 1 ≤ n → n ≤ t.horizon → (cdf (chain_of t) n + survival (chain_of t) n ≤ units_per_one)
      × (units_per_one ≤ cdf (chain_of t) n + survival (chain_of t) n + n * s.figures.state_count)
  kept n low high = rw call.table.count_is (mass_conservation (chain_of t) call.table.proper n)

  figures_hold : FiguresHoldByRow t.weights (rules_of t) t.horizon figures
  unfolding figures
  figures_hold =
      let answered = accepted_figures t s ok in
      record {
        counts = rows_counted t s.figures answered;
        none_fewer = none_fewer_states t s.figures answered;
        by_row = λ rows each. record {
          chance = λ n i. sym (call.table.pmf_at n i) ∙ chance_by_row t s.figures answered rows each n i;
          by = λ n i j. sym (call.table.pmf_cdf n j) ∙ by_by_row t s.figures answered rows each n j;
          left = λ n i. sym (call.table.survival_at n i) ∙ left_by_row t s.figures answered rows each n i;
          mean = mean_by_row t s.figures answered rows each;
        };
        fraction_below = call.table.mean_part;
        error_is = refl;
        mass_kept = kept;
        cdf_bounds = λ n i j. rw (← (call.table.pmf_cdf n j)) (cdf_bounds t s.figures answered n i j);
        mean_bounds = mean_bounds t s.figures answered;
        brackets_are = (
          bracket_is 5 (omega arith) (omega arith),
          bracket_is 25 (omega arith) (omega arith),
          bracket_is 50 (omega arith) (omega arith),
          bracket_is 75 (omega arith) (omega arith),
          bracket_is 95 (omega arith) (omega arith),
        );
        contains = (contains 5, contains 25, contains 50, contains 75, contains 95);
      }

-- ---- the program's lists are long enough

blank_length : length blank ≡ max_rows
unfolding blank
blank_length = length-replicate {A = ℕ} max_rows 0

-- a horizon over 4,096 becomes 0, which is refused
horizon_kept : (h : ℕ) → 1 ≤ report_horizon h → (report_horizon h ≡ h) × (h ≤ max_rows)
horizon_kept h i = go (leb h max_rows) refl i
  where
    go : (b : Bool) → leb h max_rows ≡ b → 1 ≤ cond b h 0 → (cond b h 0 ≡ h) × (h ≤ max_rows)
    go true e i = (refl, leb-true h max_rows e)
    go false e i = absurd (omega arith)

-- ---- the program

same_figures_by_row : {w w' : List ℕ} {rs rs' : List Rule} {h h' : ℕ} {f : Figures} → w ≡ w' → rs ≡ rs' → h ≡ h' → FiguresHoldByRow w rs h f
    → FiguresHoldByRow w' rs' h' f
same_figures_by_row o p q t = rw (← o, ← p, ← q) t

same_figures_for : {w w' : List ℕ} {rs rs' : List Rule} {h h' : ℕ} {f : Figures} → w ≡ w' → rs ≡ rs' → h ≡ h' → FiguresHold w rs h f → FiguresHold w' rs' h' f
same_figures_for o p q t = rw (← o, ← p, ← q) t

same_check : (l : RuleList) (w : List ℕ) {h h' : ℕ} → h ≡ h' → chain_check l w h ≡ Ok tt → chain_check l w h' ≡ Ok tt
same_check l w p t = rw (← p) t

module _ (s : List ℕ) (w : List ℕ) (rs : List Rule) (h : ℕ) (is : TableTextIs s w rs h) where
  abbrev t : TableCall
  t = table_call (rule_list_of rs) w (report_horizon h) blank blank

  room : report_horizon h ≤ length blank
  room = rw blank_length (horizon_small h)

  by_answer : (a : Result Summary Refusal) → (summary_of t).answer ≡ a
      → TableProgramByRow s (printed_bytes (table_lines a (report_horizon h) (summary_of t).pmf_list (summary_of t).survival_list))
  unfolding printed_bytes summary_of
  by_answer (Ok x) e =
      let c = (accepted_summary t x e).table.chain in
      let k = horizon_kept h c.some_horizon in
      prints_by_row w rs h (figures t x e) is k.1
      (same_check (rule_list_of rs) w k.0 (chain_accepted c))
      (lines_are t x e ∙ ap (λ n. figure_lines n (figures t x e)) k.0)
      (same_figures_by_row refl (active_rules_lem rs (rules_few rs c.rules)) k.0 (figures_hold t x e))
  by_answer (Err x) e =
      let c : chain_check (rule_list_of rs) w (report_horizon h) ≡ Err x =
      sym (room_check t room room) ∙ refused_check t x (refused_table_lem t x e) in
      refuses_by_row (number_of x) (place_of x) refl (bad_table w rs h x is c (chain_number (rule_list_of rs) w (report_horizon h) x c))

-- For every text: one refusal line, with the number and the place of a reason that holds of the text; or the text is the lines of weights w,
-- rules rs and a horizon h, and what is printed is the lines of figures that are those over rows of the plain chart.
pub table_program_by_row : (s : List ℕ) → TableProgramByRow s (printed_bytes (table_printed s))
unfolding table_printed printed_bytes table_text table_given read_table
table_program_by_row s = go (read_text table_grammar s) (reading_is table_grammar clear_table s)
  where
    go : (r : Reading (Contents table_grammar)) → ReadingIs table_grammar s r → TableProgramByRow s (printed_bytes (text_lines (table_given r)))
    go r (too_long_lem l) = refuses_by_row (number_of too_long) 0 refl (table_too_long l)
    go r (wrong {n} l st) = refuses_by_row (number_of (bad_line n)) n refl (table-bad-line n l st)
    go r (right {c} l t) =
        by_answer s (weights_in c) (rules_in c) (horizon_in c) (table_is c t l)
        (summary_of (table_call (rule_list_of (rules_in c)) (weights_in c) (report_horizon (horizon_in c)) blank blank)).answer refl

-- For every text: one refusal line, with the number and the place of a reason that holds of the text; or the text is the lines of weights w,
-- rules rs and a horizon h, and what is printed is the lines of figures that bound the exact ones of w, rs and h as demand 3 says.
pub table_program : (s : List ℕ) → TableProgram s (printed_bytes (table_printed s))
table_program s = go (table_program_by_row s)
  where
    go : TableProgramByRow s (printed_bytes (table_printed s)) → TableProgram s (printed_bytes (table_printed s))
    go (refuses_by_row n p e r) = refuses n p e r
    go (prints_by_row w rs h f is m ok e t) =
        let c = accepted_chain (rule_list_of rs) w h ok in
        let same = active_rules_lem rs (rules_few rs c.rules) in
        prints w rs h f is m ok e (figures_by_chain w rs (rw same at c.bounds) (rw same at c.few) h f t)

-- a text that is the lines of weights, rules and a horizon which make a chart has no reason to be refused
no_refusal : {s : List ℕ} {w : List ℕ} {rs : List Rule} {h : ℕ} → TableTextIs s w rs h
    → chain_check (rule_list_of rs) w (report_horizon h) ≡ Ok tt → {n p : ℕ} → TableRefusal s n p → ⊥
unfolding read_table
no_refusal {s} {w} {rs} {h} is ok r = go r
  where
    clash : {x : Refusal} → table_text s ≡ Err x → ⊥
    clash {x} e =
        let same : ◌≡◌ {A = Result TableText Refusal} (Err x) (Ok (read_table w rs h)) = sym e ∙ table_read is in
        let z : ◌≡◌ {A = ℕ} 0 1 = cc in
        omega arith

    checked : {w' : List ℕ} {rs' : List Rule} {h' : ℕ} {x : Refusal} → TableTextIs s w' rs' h'
        → chain_check (rule_list_of rs') w' (report_horizon h') ≡ Err x → ⊥
    checked {w'} {rs'} {h'} {x} is' e =
        let o = table_text_once is is' in
        let q : chain_check (rule_list_of rs) w (report_horizon h) ≡ Err x = rw (o.0, o.1, o.2) e in
        let z : ◌≡◌ {A = ℕ} 0 1 = cc in
        omega arith

    go : {n p : ℕ} → TableRefusal s n p → ⊥
    go (table_too_long l) = clash (text-too-long s l)
    go (table-bad-line place l st) = clash (table_stopped l st)
    go (bad_table w' rs' h' x is' c o) = checked is' c

-- The other way round: a text that is the lines of weights, rules and a horizon which make a chart is not refused.
pub table_printed_lem : {s : List ℕ} {w : List ℕ} {rs : List Rule} {h : ℕ} → TableTextIs s w rs h
    → chain_check (rule_list_of rs) w (report_horizon h) ≡ Ok tt
    → (f : Figures) × (printed_bytes (table_printed s) ≡ figure_lines h f) × FiguresHold w rs h f
table_printed_lem {s} {w} {rs} {h} is ok = go (table_program s)
  where
    go : TableProgram s (printed_bytes (table_printed s)) → (f : Figures) × (printed_bytes (table_printed s) ≡ figure_lines h f) × FiguresHold w rs h f
    go (refuses n p e r) = absurd (no_refusal is ok r)
    go (prints w' rs' h' f is' m c e t) =
        let o = table_text_once is' is in
        (f, e ∙ ap (λ n. figure_lines n f) o.2, same_figures_for o.0 o.1 o.2 t)

pub table_printed_by_row : {s : List ℕ} {w : List ℕ} {rs : List Rule} {h : ℕ} → TableTextIs s w rs h
    → chain_check (rule_list_of rs) w (report_horizon h) ≡ Ok tt
    → (f : Figures) × (printed_bytes (table_printed s) ≡ figure_lines h f) × FiguresHoldByRow w rs h f
table_printed_by_row {s} {w} {rs} {h} is ok = go (table_program_by_row s)
  where
    go : TableProgramByRow s (printed_bytes (table_printed s))
        → (f : Figures) × (printed_bytes (table_printed s) ≡ figure_lines h f) × FiguresHoldByRow w rs h f
    go (refuses_by_row n p e r) = absurd (no_refusal is ok r)
    go (prints_by_row w' rs' h' f is' m c e t) =
        let o = table_text_once is' is in
        (f, e ∙ ap (λ n. figure_lines n f) o.2, same_figures_by_row o.0 o.1 o.2 t)
