-- `groups::list_groups` meets its contract: after t turns the groups of the first t states stand.
use Rattle.std.proofs.Common.{◌≡◌, sym, ap, ◌∙◌, length, length-set}
use native.Mathlib.Omega.{arith}
use Rattle.sources.specs.ListLaws.{list_can, list_last, list_more}
use Rattle.sources.proofs.groups.list_groups.Goals as goal

pub group_state-g-requires : goal.group_state-g-requires
group_state-g-requires c =
    let v = c.loop-t.invariant in
    list_can c.requires c.loop-t-test.true v.same_sources v.same_firsts v.same_shares v.same_groups v.next v.listing c.mark.ensures

pub loop-t-preserved : goal.loop-t-preserved
loop-t-preserved c =
    let p = c.requires in
    let v = c.loop-t.invariant in
    let l = c.loop-t-test.true in
    let q = c.group_state-g.ensures in
    record {
      same_sources = q.grouped.grown.same_src ∙ v.same_sources;
      same_firsts = q.grouped.grown.same_fs ∙ v.same_firsts;
      same_shares = q.grouped.grown.same_ws ∙ v.same_shares;
      same_groups = length-set _ _ _ ∙ ap length q.kept ∙ v.same_groups;
      next = rw q.kept (sym (list_last p l v.same_sources v.same_firsts v.same_shares v.same_groups v.next v.listing q.grouped));
      listing = rw q.kept (list_more p l v.same_sources v.same_firsts v.same_shares v.same_groups v.next v.listing q.grouped);
    }

pub returns : goal.returns
returns c =
    let e : c.loop-t.t ≡ c.args.n = omega arith in rw e at c.loop-t.invariant.listing
