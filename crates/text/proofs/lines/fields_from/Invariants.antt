-- `fields_from` meets its contract. The invariant: what is left to read decides as the whole did.
use mathlib.Core.Path.{◌≡◌}
use mathlib.Core.List.{[]}
use lib.ListN.{length}
use Rattle.text.specs.LineRead.{most_fields, fields_of, codes_from}
use Rattle.text.specs.LineReadLaws.{rest, Clean}
use Rattle.text.proofs.lines.fields_from.Given as goal

abbrev pub invariant-loop-i : goal.invariant-loop-i
invariant-loop-i l =
    (length l.values ≡ most_fields) × Clean l.values l.i × (rest l.letters l.text l.p l.values l.i ≡ codes_from (fields_of l.letters) l.text l.at [])
