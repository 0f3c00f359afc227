use Rattle.std.proofs.Common.{rules, [], take, sym, ap, subst, ◌∙◌}
use Rattle.std.proofs.lemmas.List.Sums.{fold_more}
use Rattle.elem.specs.declared.build_kinds.BuildKind.TheVariants as kind
use Rattle.build_base.specs.Ranges.{with_range, range_set_of}
use Rattle.build_base.specs.Rows.{Fits}
use Rattle.build_base.proofs.BuiltLemmas.{fits_at}
use Rattle.build_base.proofs.CoverLemmas.{covered_more, overlap_found}
use Rattle.build_base.proofs.ranges.all_ranges.Goals as goal

pub add_range-requires-clause-fits : goal.add_range-requires-clause-fits
add_range-requires-clause-fits c = subst (Fits kind.RangeSet) (sym c.item-item.is) (fits_at kind.RangeSet c.args.items.now c.loop-item.item-index c.item-item.result c.requires.fit c.loop-item-test.true)

pub returns-in_err-add_range-clause-refused : goal.returns-in_err-add_range-clause-refused
returns-in_err-add_range-clause-refused c = λ e. overlap_found c.args.items.now c.loop-item.item-index c.item-item.result c.loop-item-test.true c.item-item.is c.add_range.ensures.long c.loop-item.joined c.loop-item.invariant.1 (c.in_err-add_range.ensures.refused (search rules))

pub loop-item-preserved : goal.loop-item-preserved
loop-item-preserved c =
    let items = c.args.items.now in
    let i = c.loop-item.item-index in
    let r = c.item-item.result in (
      c.in_ok-add_range.ensures.ok ∙ ap (λ rows. with_range rows r) c.loop-item.invariant.0 ∙ ap (with_range (range_set_of (take i items))) c.item-item.is ∙ sym (fold_more with_range [] items i r c.loop-item-test.true),
      covered_more items i r c.loop-item-test.true c.item-item.is c.add_range.ensures.long c.loop-item.joined c.loop-item.invariant.1 c.add_range.new.rows c.in_ok-add_range.ensures.allowed c.in_ok-add_range.ensures.units,
    )
