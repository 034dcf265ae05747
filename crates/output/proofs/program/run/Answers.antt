-- What the last write told is what the program tells.
use Rattle.std.proofs.Common.{rules, ◌≡◌, Result, Ok, Err, is_ok, OnErr, OnOk, subst, take}
use Rattle.std.specs.Io.KnownBytes.{Appends}
use Rattle.output.specs.declared.failure.Failure.{Failure}
use Rattle.output.specs.declared.failure.Failure.TheVariants.{Input, Output}
use Rattle.output.specs.Failures.{OnOutput}
use Rattle.output.proofs.program.run.Goals as goal

all_told : {T D E : Type 0} (r : Result T D) (s : Result T E) (P Q : Type 0) → is_ok s ≡ is_ok r → (P → Q) → OnOk r P → OnOk s Q
all_told (Ok x) (Ok y) P Q same to told = to told
all_told (Ok x) (Err y) P Q same to told = tt
all_told (Err x) (Ok y) P Q same to told = search rules
all_told (Err x) (Err y) P Q same to told = tt

part_told : {T D : Type 0} (r : Result T D) (s : Result T Failure) (P Q : Type 0) → is_ok s ≡ is_ok r → (P → Q) → OnErr r P → OnOutput s Q
part_told (Ok x) (Ok y) P Q same to told = tt
part_told (Ok x) (Err (Input y)) P Q same to told = tt
part_told (Ok x) (Err (Output y)) P Q same to told = search rules
part_told (Err x) (Ok y) P Q same to told = tt
part_told (Err x) (Err (Input y)) P Q same to told = tt
part_told (Err x) (Err (Output y)) P Q same to told = to told

pub returns-clause-all : goal.returns-clause-all
returns-clause-all g c =
    let written = subst (λ bytes. Appends (g.W.Write.contents c.args.out.now) (g.W.Write.contents c.lines.new.out) (take c.report-m.result bytes)) c.as_slice.ensures in
    all_told c.lines.result c.map_err-2.result _ _ c.map_err-2.ensures.variant
    (λ put. (_, _, _, _, c.report-m.ensures, search rules, search rules, search rules, search rules, written put)) c.lines.ensures.all

pub returns-clause-part : goal.returns-clause-part
returns-clause-part g c =
    part_told c.lines.result c.map_err-2.result _ _ c.map_err-2.ensures.variant
    (λ put. (
      _,
      _,
      _,
      _,
      put.0,
      c.report-m.ensures,
      search rules,
      search rules,
      search rules,
      subst (λ bytes. Appends (g.W.Write.contents c.args.out.now) (g.W.Write.contents c.lines.new.out) (take put.0 (take c.report-m.result bytes))) c.as_slice.ensures put.2,
    ))
    c.lines.ensures.part
