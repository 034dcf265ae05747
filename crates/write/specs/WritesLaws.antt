-- Laws of a writer: what was written into its buffer, nothing, one writing behind another.
use Rattle.std.specs.Prelude.{ℕ, ◌≤◌, ◌≡◌, refl, List, [], ◌++◌, length}
use Rattle.std.proofs.Common.{◌∙◌}
use Rattle.write.specs.Wrote.{Wrote}
use Rattle.write.specs.WroteLaws.{wrote_nothing, wrote_length, then}
use Rattle.write.specs.Writes.{Writes}
use Rattle.write.specs.declared.writer.Writer.{Writer}

pub writes : {u v : Writer} {xs : List ℕ} → v.out.ghost_name ≡ u.out.ghost_name → Wrote u.out.now u.at v.out.now v.at xs → Writes u xs v
writes e w = record { same_buffer = e; same_size = wrote_length w; wrote = w }

pub writes_nothing : (u : Writer) → u.at ≤ length u.out.now → Writes u [] u
writes_nothing u h = writes refl (wrote_nothing u.out.now u.at h)

-- one writing behind another is one writing
pub and_then : {u v w : Writer} {xs ys : List ℕ} → Writes u xs v → Writes v ys w → Writes u (xs ++ ys) w
and_then f g = writes (g.same_buffer ∙ f.same_buffer) (then f.wrote g.wrote)
