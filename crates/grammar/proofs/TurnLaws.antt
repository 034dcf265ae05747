-- The turns of a loop over many lines of any form: what was read so far, and what is left with fuel enough, are the whole. Laws.
use Rattle.std.specs.Prelude.{ℕ, ◌+◌, ◌≤◌, ◌≡◌, refl, List, [], ◌∷◌, ◌++◌, length}
use Rattle.std.proofs.Common.{sym, ◌∙◌, append-nil, arith, length-append}
use Rattle.std.proofs.Math.Seq.{append_snoc}
use Rattle.grammar.specs.Form.{Form, Said}
use Rattle.grammar.specs.TextReading.{seen, many_at, after_many}
use Rattle.grammar.specs.Read.{found, other}
use Rattle.grammar.proofs.BlockLaws.{line_reaches, one_of_many, none_of_many}

-- the lines from `at` on up to the line at i say xs
pub record ReadUpTo (f : Form) (s : List ℕ) (at : ℕ) (xs : List (Said f)) (i : ℕ) : Type 0 where
  pub fuel : ℕ
  pub enough : length s ≤ i + fuel
  pub rest : xs ++ many_at f fuel s i ≡ many_at f (length s) s at
  pub end : after_many f fuel s i ≡ after_many f (length s) s at
  pub short : length xs ≤ i
  pub fit : length xs ≤ length s

pub read_up_start : (f : Form) (s : List ℕ) (at : ℕ) → ReadUpTo f s at [] at
read_up_start f s at =
    record { fuel = length s; enough = omega arith; rest = refl; end = refl; short = omega arith; fit = omega arith }

module _ {f : Form} {s : List ℕ} {at : ℕ} {xs : List (Said f)} {i : ℕ} where
  pub read_up_more : {x : Said f} {next : ℕ} → seen f s i ≡ found x next → ReadUpTo f s at xs i
      → ReadUpTo f s at (xs ++ (x ∷ [])) next
  read_up_more {x} {next} e u =
      let a = line_reaches f s i e in
      let o = one_of_many f s u.fuel i e u.enough in
      let n = length-append xs (x ∷ []) in
      record {
        fuel = o.0;
        enough = o.1;
        rest = append_snoc xs x (many_at f o.0 s next) ∙ (rw o.2 at u.rest);
        end = sym o.3 ∙ u.end;
        short = omega (arith, a, n, u.short);
        fit = omega (arith, a, n, u.short);
      }

  pub read_up_done : seen f s i ≡ other → ReadUpTo f s at xs i
      → (xs ≡ many_at f (length s) s at) × (i ≡ after_many f (length s) s at)
  read_up_done e u =
      let q = none_of_many f s u.fuel i e in
      (sym (append-nil xs) ∙ (rw q.0 at u.rest), sym q.1 ∙ u.end)
