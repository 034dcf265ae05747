-- What is so where a program failed. Definitions.
use Rattle.std.specs.Prelude.{⊤, Result, Ok, Err}
use Rattle.output.specs.declared.failure.Failure.{Failure}
use Rattle.output.specs.declared.failure.Failure.TheVariants.{Input, Output}

-- P, where a read failed
abbrev pub OnInput : {T : Type 0} → Result T Failure → Type 0 → Type 0
OnInput (Ok x) P = ⊤
OnInput (Err (Input e)) P = P
OnInput (Err (Output e)) P = ⊤

-- P, where a write failed
abbrev pub OnOutput : {T : Type 0} → Result T Failure → Type 0 → Type 0
OnOutput (Ok x) P = ⊤
OnOutput (Err (Input e)) P = ⊤
OnOutput (Err (Output e)) P = P
