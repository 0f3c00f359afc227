use Rattle.std.proofs.Common.{◌≡◌, Option, Some, map, refl, sym, ap, subst, ◌∙◌}
use Rattle.std.specs.Prelude.{IfSome}
use Rattle.std.specs.List.{All, slice_get}
use Rattle.std.proofs.lemmas.List.Elements.{All-push}
use Rattle.std.specs.Option.{option_map}
use Rattle.elem.specs.declared.elements.Elem.{Elem}
use Rattle.elem.specs.declared.spans.Span.{Span}
use Rattle.elem.specs.Spans.{IsWhole}
use Rattle.range_base.specs.Spans.{row_of_entry}
use Rattle.build_base.specs.declared.row.Row.TheVariants.{RangeValue}
use Rattle.build_base.specs.Ranges.{entry_of, IsWholeRow}
use Rattle.build_base.proofs.WalkLemmas.{read_more, row_after}
use Rattle.build_base.proofs.ranges.entries.Goals as goal

pub loop-preserved : goal.loop-preserved
loop-preserved c =
    let rows = c.args.ranges.now in
    let i = c.loop.counter in
    let entry = c.in-Some.entry in
    let here : Some (row_of_entry entry) ≡ slice_get rows i = ap (option_map row_of_entry) (sym c.in-Some.is) ∙ c.loop.invariant.1 in (
      ap (map entry_of) c.in_ok-push.ensures.ok ∙ read_more entry_of rows i c.loop.rows.items c.loop.invariant.0 (RangeValue entry.0 entry.1) (row_of_entry entry) refl here,
      c.after-next.ensures.row ∙ row_after 0 0 rows c.len-end.ensures.valid.disjoint i (row_of_entry entry) here,
      c.after-next.ensures.whole,
      subst (All IsWholeRow) (sym c.in_ok-push.ensures.ok) (All-push IsWholeRow c.loop.rows.items (RangeValue entry.0 entry.1) c.loop.invariant.3 (subst (λ (o : Option (Span × Elem)). IfSome o (λ t. IsWhole t.0)) c.in-Some.is c.loop.invariant.2)),
    )
