-- A program prints a refusal's line exactly as the order of its text says. Laws.
use Rattle.std.specs.Prelude.{ℕ, ◌≤◌, ◌<◌, ◌≡◌, refl, Bool, true, false, cond, List, ◌↔◌, leb, ℤ, nat_abs, length, Err, Ok, Result}
use Rattle.std.proofs.Common.{sym, ap, ap₂, ◌∙◌, arith, le-leb, leb-true}
use Rattle.std.proofs.Math.Decide.{dec_lt}
use Rattle.std.proofs.lemmas.List.{length-replicate}
use Rattle.rules.specs.declared.Rule.{Rule}
use Rattle.rules.specs.declared.refusal.Refusal.{Refusal}
use Rattle.rules.specs.Refusal.{place_of, number_of, bad_sigma, bad_line, too_long, bad_node, bad_shift}
use Rattle.rules.specs.Check.{within, or_else, unless, check_of}
use Rattle.rules.proofs.CheckLaws.{between}
use Rattle.runlength.specs.Scale.{min_horizon, max_horizon}
use Rattle.monitor.specs.Zone.{min_sigma, max_sigma}
use Rattle.table.specs.Table.{table_call, chain_check}
use Rattle.table.proofs.TableLaws.{room_check}
use Rattle.summary.specs.Summary.{summary_of}
use Rattle.shift.specs.Shift.{max_shift, weights_of, shift_of}
use Rattle.grammar.proofs.EveryGrammar.{not_both}
use Rattle.rule_lines.specs.Rules.{rule_list_of}
use Rattle.table_text.specs.ReadTable.{read_table}
use Rattle.table_text.specs.TableTextLaws.{clear_table}
use Rattle.table_lines.specs.LargestHorizon.{max_rows, report_horizon}
use Rattle.table_report.specs.TableReport.{blank, table_printed}
use Rattle.table_report.specs.TableReportLaws.{horizon_small}
use Rattle.monitor_text.specs.declared.monitors.MonitorText.{MonitorText}
use Rattle.monitor_text.specs.Readings.{NodeReading, OnBench}
use Rattle.monitor_text.specs.ReadMonitor.{read_monitor}
use Rattle.monitor_text.specs.MonitorText.{monitor_text}
use Rattle.monitor_text.specs.MonitorTextLaws.{clear_monitor}
use Rattle.monitor_report.specs.MonitorReport.{monitor_check, monitor_printed}
use Rattle.weights_report.specs.ShiftTextLaws.{clear_shift}
use Rattle.weights_report.specs.WeightsReport.{text_weights, weights_by, weights_printed}
use Rattle.write.specs.Refused.{refused_line}
use Rattle.write.specs.Printed.{printed_bytes}
use Rattle.text_claims.specs.NumbersApartLaws.{refused_line_once}
use Rattle.table_claims.proofs.TableBytes.{table_read, table_stopped, table_too_long}
use Rattle.table_claims.specs.TableOutput as table
use Rattle.table_claims.specs.TableOutput.{TableRefusal, TableProgram}
use Rattle.table_claims.proofs.TableProgram.{table_program}
use Rattle.table_claims.proofs.TablePrintedOnceLaws.{table_not_refused}
use Rattle.monitor_claims.specs.MonitorTexts.{MonitorTextIs}
use Rattle.monitor_claims.proofs.MonitorBytes.{monitor_read, monitor_off_bench, monitor_stopped, monitor_too_long}
use Rattle.monitor_claims.specs.MonitorOutput as monitor
use Rattle.monitor_claims.specs.MonitorOutput.{MonitorRefusal, MonitorProgram}
use Rattle.monitor_claims.proofs.MonitorProgram.{monitor_program}
use Rattle.monitor_claims.proofs.MonitorPrintedOnceLaws.{bench_not_refused}
use Rattle.weights_claims.specs.WeightsBytes.{shift_read, shift_stopped, shift_too_long}
use Rattle.weights_claims.specs.WeightsBytesLaws.{text_short}
use Rattle.weights_claims.specs.WeightsTexts as weights
use Rattle.weights_claims.specs.WeightsTexts.{WeightsRefusal, WeightsProgram}
use Rattle.weights_claims.specs.WeightsProgram.{weights_program}
use Rattle.weights_claims.specs.WeightsProgramLaws.{weights_not_refused}
use Rattle.demands.specs.Order.{here, later, Unrefused, ListThen, SigmaThen, ChartThen}
use Rattle.demands.proofs.OrderLaws.{Follows, none_left, last, list_then, sigma_then, chart_then, shift_order}
use Rattle.demands.proofs.AnswerOrderLaws.{refused_answer, refused_summary}
use Rattle.demands.specs.TextOrder.{Told, ByPlace, TextThen, TableSays, TableTextOrder, OffBenchAt, MonitorSays, MonitorTextOrder, ShiftSays, WeightsTextOrder}
use Rattle.demands.specs.TextOrder as place

-- ---- any text

-- an order that holds of a line's number and place holds of an equal line's
same_line : (Order : Refusal → Type 0) {n p n' p' : ℕ} → refused_line n p ≡ refused_line n' p' → Told Order n' p'
    → Told Order n p
same_line Order {n} {p} {n'} {p'} e o = let q = refused_line_once n p n' p' e in rw (q.0, q.1) o

-- a refusal is told by its number and its place
told : (Order : Refusal → Type 0) (x : Refusal) → Order x → Told Order (number_of x) (place_of x)
told Order x o = record { refusal = x; first = o; number_is = refl; place_is = refl }

-- where it is not too long
short : {a b : ℕ} → (a < b → ⊥) → b ≤ a
short {a} {b} n = go (dec_lt a b)
  where
    go : Dec (a < b) → b ≤ a
    go (yes h) = absurd (n h)
    go (no h) = omega arith

-- ---- the table program

-- its horizon is taken to 4,096
largest_horizon : (h : ℕ) → within min_horizon max_horizon (report_horizon h) ≡ within min_horizon max_rows h
largest_horizon h = go (leb h max_rows) refl
  where
    none : (b : Bool) → false ≡ cond b false false
    none true = refl
    none false = refl

    go : (b : Bool) → leb h max_rows ≡ b → within min_horizon max_horizon (cond b h 0) ≡ cond (leb min_horizon h) b false
    go true e = ap (λ b. cond (leb min_horizon h) b false) (le-leb h max_horizon (omega (arith, leb-true h max_rows e)))
    go false e = none (leb min_horizon h)

chart_order : (w : List ℕ) (rs : List Rule) (h : ℕ)
    → Follows (chain_check (rule_list_of rs) w (report_horizon h)) (ChartThen (rule_list_of rs) w max_rows h Unrefused)
chart_order w rs h = last (chart_then (rule_list_of rs) w max_rows h (report_horizon h) (largest_horizon h) none_left)

-- a chart that is refused is refused by the program's call
refused_call : (w : List ℕ) (rs : List Rule) (h : ℕ) (x : Refusal) → chain_check (rule_list_of rs) w (report_horizon h)
    ≡ Err x
    → (summary_of (table_call (rule_list_of rs) w (report_horizon h) blank blank)).answer ≡ Err x
unfolding blank
refused_call w rs h x e =
    let t = table_call (rule_list_of rs) w (report_horizon h) blank blank in
    let room : report_horizon h ≤ length blank = rw (length-replicate {A = ℕ} max_rows 0) (horizon_small h) in
    refused_summary t x (refused_answer t x (room_check t room room ∙ e))

table_line : (s : List ℕ) (x : Refusal) → TableTextOrder s x → printed_bytes (table_printed s)
    ≡ refused_line (number_of x) (place_of x)
unfolding table_printed printed_bytes read_table
table_line s x (here l) = rw (table_too_long s l)
table_line s x (later n (place.here p st)) = rw (table_stopped (short n) st)
table_line s x (later n (place.later m t)) =
    rw (
      table_read t.text,
      refused_call t.weights t.rules t.horizon x
          ((chart_order t.weights t.rules t.horizon).from x t.refused),
    )

table_reason : {s : List ℕ} {n p : ℕ} → TableRefusal s n p → Told (TableTextOrder s) n p
table_reason {s} (table.too_long_lem l) = told (TableTextOrder s) too_long (here l)
table_reason {s} (table.bad_line_lem p l st) = told (TableTextOrder s) (bad_line p) (later (λ h. omega arith) (place.here p st))
table_reason {s} (table.bad_table w rs h x is c o) =
    told (TableTextOrder s) x
    (later (λ l. omega (arith, is.short))
    (place.later (λ p st. not_both clear_table is.text st)
    (record { weights = w; rules = rs; horizon = h; text = is; refused = (chart_order w rs h).to x c })))

pub table_text_order : (s : List ℕ) (n p : ℕ) → (printed_bytes (table_printed s) ≡ refused_line n p)
    ↔ Told (TableTextOrder s) n p
table_text_order s n p = (λ e. to e (table_program s), λ t. table_line s t.refusal t.first ∙ sym (ap₂ refused_line t.number_is t.place_is))
  where
    to : printed_bytes (table_printed s) ≡ refused_line n p → TableProgram s (printed_bytes (table_printed s))
        → Told (TableTextOrder s) n p
    to e (table.refuses number place q r) = same_line (TableTextOrder s) (sym e ∙ q) (table_reason r)
    to e (table.prints w rs h f is m ok q t) = absurd (table_not_refused h f n p (sym q ∙ e))

-- ---- the monitor program

rules_then_sigma : (rs : List Rule) (sigma : ℕ)
    → Follows (or_else (check_of (rule_list_of rs)) (unless (within min_sigma max_sigma sigma) bad_sigma))
    (ListThen (rule_list_of rs) (SigmaThen sigma Unrefused))
rules_then_sigma rs sigma = list_then (rule_list_of rs) (λ e. last (sigma_then sigma none_left))

-- a text that was read is refused by its check alone
by_check : (s : List ℕ) (t : Result MonitorText Refusal) (x : Refusal) → monitor_text s ≡ t → monitor_check t ≡ Err x
    → printed_bytes (monitor_printed s) ≡ refused_line (number_of x) (place_of x)
unfolding monitor_printed printed_bytes
by_check s t x e c = rw (e, c)

monitor_line : (s : List ℕ) (x : Refusal) → MonitorTextOrder s x → printed_bytes (monitor_printed s)
    ≡ refused_line (number_of x) (place_of x)
unfolding read_monitor
monitor_line s x (here l) = by_check s _ too_long (monitor_too_long s l) refl
monitor_line s x (later n (place.here p st)) = by_check s _ (bad_line p) (monitor_stopped (short n) st) refl
monitor_line s x (later n (place.later m (place.here p o))) = by_check s _ (bad_node p) (monitor_off_bench o.off) refl
monitor_line s x (later n (place.later m (place.later k t))) =
    by_check s _ x (monitor_read t.text t.on_bench).1
    ((rules_then_sigma t.rules t.sigma).from x t.refused)

-- a text whose points are all of the bench has none that is not
not_off : {s : List ℕ} {c : ℤ} {d : ℕ} {rs : List Rule} {ps : List NodeReading} → MonitorTextIs s c d rs ps → OnBench ps
    → (p : ℕ) → OffBenchAt s p → ⊥
unfolding read_monitor
not_off {s} is o p off =
    let e = sym (monitor_read is o).1 ∙ monitor_off_bench off.off in
    let z : ◌≡◌ {A = ℕ} 0 1 = cc in
    omega arith

monitor_reason : {s : List ℕ} {n p : ℕ} → MonitorRefusal s n p → Told (MonitorTextOrder s) n p
monitor_reason {s} (monitor.too_long_lem l) = told (MonitorTextOrder s) too_long (here l)
monitor_reason {s} (monitor.bad_line_lem p l st) =
    told (MonitorTextOrder s) (bad_line p) (later (λ h. omega arith) (place.here p st))
monitor_reason {s} (monitor.bad_node_lem c d rs p o) =
    told (MonitorTextOrder s) (bad_node p)
    (later (λ l. omega (arith, o.text.short))
    (place.later (λ q st. not_both clear_monitor o.text.text st)
    (place.here p (record { centre = c; sigma = d; rules = rs; off = o }))))
monitor_reason {s} (monitor.bad_rules c d rs ps x is o e r) =
    told (MonitorTextOrder s) x (said is o ((rules_then_sigma rs d).to x (rw e)))
  where
    said : MonitorTextIs s c d rs ps → OnBench ps → ListThen (rule_list_of rs) (SigmaThen d Unrefused) x
        → MonitorTextOrder s x
    said is o y =
        later (λ l. omega (arith, is.short))
        (place.later (λ q st. not_both clear_monitor is.text st)
        (place.later (not_off is o)
        (record { centre = c; sigma = d; rules = rs; points = ps; text = is; on_bench = o; refused = y })))
monitor_reason {s} (monitor.bad_sigma_lem c d rs ps is o ok b) =
    told (MonitorTextOrder s) bad_sigma
    (later (λ l. omega (arith, is.short))
    (place.later (λ q st. not_both clear_monitor is.text st)
    (place.later (not_off is o)
    (record {
      centre = c;
      sigma = d;
      rules = rs;
      points = ps;
      text = is;
      on_bench = o;
      refused = (rules_then_sigma rs d).to bad_sigma (rw (ok, not_within));
    }))))
  where
    not_within : within min_sigma max_sigma d ≡ false
    not_within = go (within min_sigma max_sigma d) refl
      where
        go : (t : Bool) → within min_sigma max_sigma d ≡ t → within min_sigma max_sigma d ≡ false
        go true e = absurd (b (between min_sigma max_sigma d e))
        go false e = e

pub monitor_text_order : (s : List ℕ) (n p : ℕ) → (printed_bytes (monitor_printed s) ≡ refused_line n p)
    ↔ Told (MonitorTextOrder s) n p
monitor_text_order s n p = (λ e. to e (monitor_program s), λ t. monitor_line s t.refusal t.first ∙ sym (ap₂ refused_line t.number_is t.place_is))
  where
    to : printed_bytes (monitor_printed s) ≡ refused_line n p → MonitorProgram s (printed_bytes (monitor_printed s))
        → Told (MonitorTextOrder s) n p
    to e (monitor.refuses number place q r) = same_line (MonitorTextOrder s) (sym e ∙ q) (monitor_reason r)
    to e (monitor.prints c d rs ps is o ok b t) = absurd (bench_not_refused rs c d ps n p (sym t.lines ∙ e))

-- ---- the weights program

weights_line_lem : (s : List ℕ) (x : Refusal) → WeightsTextOrder s x → printed_bytes (weights_printed s)
    ≡ refused_line (number_of x) (place_of x)
unfolding weights_printed text_weights printed_bytes shift_of
weights_line_lem s x (here l) = rw (shift_too_long s l)
weights_line_lem s x (later n (place.here p st)) = rw (shift_stopped (short n) st)
weights_line_lem s x (later n (place.later m t)) =
    rw (shift_read t.text)
    (by_order (leb (nat_abs t.shift) max_shift) ((shift_order t.shift).from x t.refused))
  where
    by_order : (b : Bool) → unless b bad_shift ≡ Err x
        → printed_bytes (weights_by (cond b (Ok (weights_of t.shift)) (Err bad_shift)))
        ≡ refused_line (number_of x) (place_of x)
    by_order true e = absurd (let z : ◌≡◌ {A = ℕ} 0 1 = cc in omega arith)
    by_order false e = let same : bad_shift ≡ x = cc in ap (λ (y : Refusal). refused_line (number_of y) (place_of y)) same

weights_reason : {s : List ℕ} {n p : ℕ} → WeightsRefusal s n p → Told (WeightsTextOrder s) n p
weights_reason {s} (weights.too_long_lem l) = told (WeightsTextOrder s) too_long (here l)
weights_reason {s} (weights.bad_line_lem p l st) = told (WeightsTextOrder s) (bad_line p) (later (λ h. omega arith) (place.here p st))
weights_reason {s} (weights.bad_shift_lem x is h) =
    told (WeightsTextOrder s) bad_shift
    (later (λ l. omega (arith, text_short is))
    (place.later (λ q st. not_both clear_shift is.text st) (record { shift = x; text = is; refused = here h })))

pub weights_text_order : (s : List ℕ) (n p : ℕ) → (printed_bytes (weights_printed s) ≡ refused_line n p)
    ↔ Told (WeightsTextOrder s) n p
weights_text_order s n p = (λ e. to e (weights_program s), λ t. weights_line_lem s t.refusal t.first ∙ sym (ap₂ refused_line t.number_is t.place_is))
  where
    to : printed_bytes (weights_printed s) ≡ refused_line n p → WeightsProgram s (printed_bytes (weights_printed s))
        → Told (WeightsTextOrder s) n p
    to e (weights.refuses number place q r) = same_line (WeightsTextOrder s) (sym e ∙ q) (weights_reason r)
    to e (weights.prints x is b q t) = absurd (weights_not_refused _ n p (sym q ∙ e))
