use Rattle.std.proofs.Common.{take, ◌∙◌}
use Rattle.std.specs.HashMap as hash
use Rattle.elem.specs.Elements.{same}
use Rattle.build_base.specs.Rows.{first_of}
use Rattle.build_base.proofs.GroupSteps.{groups_more, places_more, place_within, length-groups}
use Rattle.build_base.proofs.grouped.groups.Goals as goal

pub put_row-requires : goal.put_row-requires
put_row-requires c = λ q. place_within (take c.loop-row.row-index c.args.rows.now) _ q _ (c.loop-row.invariant.1 q) (length-groups _ c.loop-row.groups.items (take c.loop-row.row-index c.args.rows.now) c.loop-row.invariant.0)

pub loop-row-preserved : goal.loop-row-preserved
loop-row-preserved c =
    let rows = c.args.rows.now in
    let i = c.loop-row.row-index in
    let r = c.row-item.result in (
      groups_more rows i r c.loop-row-test.true c.row-item.is _ (c.loop-row.invariant.1 (first_of r)) _ _ c.loop-row.invariant.0 c.in_ok-put_row.ensures.groups,
      λ q. c.in_ok-put_row.ensures.places q ∙ places_more rows i r c.loop-row-test.true c.row-item.is (hash.get same c.loop-row.places) c.loop-row.invariant.1 _ (length-groups _ _ (take i rows) c.loop-row.invariant.0) q,
    )
