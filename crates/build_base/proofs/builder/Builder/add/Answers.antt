use Rattle.std.proofs.Common.{◌≡◌, ◌+◌, ◌++◌, ◌∷◌, [], ◌≤◌, ap, ◌∙◌, sym, subst}
use Rattle.std.specs.List.{All}
use Rattle.std.proofs.lemmas.List.Elements.{All-push}
use Rattle.build_base.specs.Rows.{Fits}
use Rattle.build_base.specs.Units.{IsFilledRow}
use Rattle.build_base.specs.Built.{AllFit, most, count_in, count_of, refuses_item}
use Rattle.build_base.proofs.BuiltLemmas.{fits-push, filled_row, room_for, count_of-push}
use Rattle.build_base.proofs.builder.Builder.add.Goals as goal

pub count_item-requires : goal.count_item-requires
count_item-requires g c = λ x n e.
    subst (λ m. m + n ≤ most) (sym (c.self.invariant.2 x))
    (room_for c.self.inside.items.items c.args.r (ap (λ b. refuses_item b.items c.args.r) c.self.view_is ∙ sym c.refuses.ensures ∙ c.if-refuses.false) x n e)

pub invariant_of-self-2 : goal.invariant_of-self-2
invariant_of-self-2 g c =
    let items = c.self.inside.items.items in
    let more : c.push_reserved.new.self.items ≡ items ++ c.args.r ∷ [] = c.push_reserved.ensures.items ∙ ap (λ l. l ++ c.args.r ∷ []) c.reserve.ensures.items in
    let fits : Fits c.self.inside.kind c.args.r = subst (λ b. Fits b.kind c.args.r) (sym c.self.view_is) c.requires in (
      subst (AllFit c.self.inside.kind) (sym more) (fits-push c.self.inside.kind items c.args.r c.self.invariant.0 fits),
      subst (All IsFilledRow) (sym more) (All-push IsFilledRow items c.args.r c.self.invariant.1 (filled_row c.self.inside.kind items c.args.r fits (ap (λ b. refuses_item b.items c.args.r) c.self.view_is ∙ sym c.refuses.ensures ∙ c.if-refuses.false))),
      λ x. c.in_ok-count_item.ensures.ok x ∙ ap (λ n. n + count_in x c.args.r) (c.self.invariant.2 x) ∙ sym (ap (λ l. count_of l x) more ∙ count_of-push items c.args.r x),
    )
