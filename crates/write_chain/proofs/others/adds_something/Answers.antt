use Rattle.std.proofs.Common.{List, length, nat_eq, not, sym, ap, ◌∙◌}
use Rattle.base_store.specs.Stored.{view_in}
use Rattle.vocabulary.specs.declared.items.Item.{Item}
use Rattle.vocabulary.specs.Shapes.{has_each_once}
use Rattle.machine.specs.Views.{shape_at, shown}
use Rattle.write_chain.proofs.OtherLemmas.{any_new, some_new}
use Rattle.write_chain.proofs.others.adds_something.Goals as goal

pub returns-then-has_each_once : goal.returns-then-has_each_once
returns-then-has_each_once g c =
    let s = c.args.store.now in
    let v = view_in s c.args.n in
    ap not c.contains_all.ensures ∙ some_new (shape_at s.world v) (shown s.world v) (shown s.world (view_in s c.args.other)) (ap has_each_once (sym c.shape.ensures) ∙ sym c.has_each_once.ensures ∙ c.if-has_each_once.true)

pub returns-else-has_each_once : goal.returns-else-has_each_once
returns-else-has_each_once g c =
    let s = c.args.store.now in
    let v = view_in s c.args.n in
    ap not (c.is_empty.ensures ∙ ap (λ (items : List Item). nat_eq (length items) 0) c.requires.items) ∙ any_new (shape_at s.world v) (shown s.world v) (shown s.world (view_in s c.args.other)) (ap has_each_once (sym c.shape.ensures) ∙ sym c.has_each_once.ensures ∙ c.if-has_each_once.false)
