use Rattle.std.proofs.Common.{◌≡◌, Option, Some, map, refl, sym, ap, subst, ◌∙◌}
use Rattle.std.specs.Prelude.{IfSome}
use Rattle.std.specs.List.{All, slice_get}
use Rattle.std.proofs.lemmas.List.Elements.{All-push}
use Rattle.std.specs.Option.{option_map}
use Rattle.elem.specs.declared.spans.Span.{Span}
use Rattle.elem.specs.Spans.{IsWhole}
use Rattle.range_base.specs.Spans.{row_of_span}
use Rattle.build_base.specs.declared.row.Row.TheVariants.{Range}
use Rattle.build_base.specs.Ranges.{range_of, IsWholeRow}
use Rattle.build_base.proofs.WalkLemmas.{read_more, row_after}
use Rattle.build_base.proofs.ranges.spans.Goals as goal

pub loop-preserved : goal.loop-preserved
loop-preserved c =
    let rows = c.args.ranges.now in
    let i = c.loop.counter in
    let span = c.in-Some.span in
    let here : Some (row_of_span span) ≡ slice_get rows i = ap (option_map row_of_span) (sym c.in-Some.is) ∙ c.loop.invariant.1 in (
      ap (map range_of) c.in_ok-push.ensures.ok ∙ read_more range_of rows i c.loop.rows.items c.loop.invariant.0 (Range span) (row_of_span span) refl here,
      c.after-next.ensures.row ∙ row_after 1 0 rows c.len-end.ensures.valid.apart i (row_of_span span) here,
      c.after-next.ensures.whole,
      subst (All IsWholeRow) (sym c.in_ok-push.ensures.ok) (All-push IsWholeRow c.loop.rows.items (Range span) c.loop.invariant.3 (subst (λ (o : Option Span). IfSome o IsWhole) c.in-Some.is c.loop.invariant.2)),
    )
