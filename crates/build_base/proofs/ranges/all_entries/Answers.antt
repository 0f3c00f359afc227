use Rattle.std.proofs.Common.{rules, [], take, sym, ap, subst, ◌∙◌}
use Rattle.std.proofs.lemmas.List.Sums.{fold_more}
use Rattle.elem.specs.declared.build_kinds.BuildKind.TheVariants as kind
use Rattle.build_base.specs.Ranges.{with_entry, range_map_of}
use Rattle.build_base.specs.Rows.{Fits}
use Rattle.build_base.proofs.BuiltLemmas.{fits_at}
use Rattle.build_base.proofs.CoverLemmas.{covered_more, overlap_found}
use Rattle.build_base.proofs.ranges.all_entries.Goals as goal

pub put_range-requires-clause-fits : goal.put_range-requires-clause-fits
put_range-requires-clause-fits c = subst (Fits kind.RangeMap) (sym c.item-item.is) (fits_at kind.RangeMap c.args.items.now c.loop-item.item-index c.item-item.result c.requires.fit c.loop-item-test.true)

pub returns-in_err-put_range-clause-refused : goal.returns-in_err-put_range-clause-refused
returns-in_err-put_range-clause-refused c = λ e. overlap_found c.args.items.now c.loop-item.item-index c.item-item.result c.loop-item-test.true c.item-item.is c.put_range.ensures.long c.loop-item.placed c.loop-item.invariant.1 (c.in_err-put_range.ensures.refused (search rules))

pub loop-item-preserved : goal.loop-item-preserved
loop-item-preserved c =
    let items = c.args.items.now in
    let i = c.loop-item.item-index in
    let r = c.item-item.result in (
      c.in_ok-put_range.ensures.ok ∙ ap (λ rows. with_entry rows r) c.loop-item.invariant.0 ∙ ap (with_entry (range_map_of (take i items))) c.item-item.is ∙ sym (fold_more with_entry [] items i r c.loop-item-test.true),
      covered_more items i r c.loop-item-test.true c.item-item.is c.put_range.ensures.long c.loop-item.placed c.loop-item.invariant.1 c.put_range.new.rows c.in_ok-put_range.ensures.allowed c.in_ok-put_range.ensures.units,
    )
