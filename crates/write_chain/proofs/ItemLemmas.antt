-- The items that a view shows are such as its shape says, and fit a base of a shape like it.
use Rattle.std.proofs.Common.{◌≡◌, true, false, cond, List, [], ◌∷◌, map, sym, subst}
use Rattle.std.specs.Prelude.{filter}
use Rattle.elem.specs.declared.elements.Elem.{Elem}
use Rattle.base_rows.specs.BaseRows.{AreRowsOf, IsRowIn, IsRowOf}
use Rattle.vocabulary.specs.declared.items.Item.{Item}
use Rattle.vocabulary.specs.declared.items.Item.TheVariants.{One, Entry}
use Rattle.vocabulary.specs.declared.kinds.Kind.{Kind}
use Rattle.vocabulary.specs.declared.shapes.RowSort.TheVariants as rows
use Rattle.vocabulary.specs.declared.shapes.Shape.{Shape}
use Rattle.vocabulary.specs.declared.shapes.Shape.TheVariants as shape
use Rattle.vocabulary.specs.Known.{is_known_kind}
use Rattle.vocabulary.specs.Shapes.{is_elements, is_map}
use Rattle.vocabulary.specs.Fits.{is_entries}
use Rattle.machine.specs.MadeViews.{IsMade}
use Rattle.vocabulary.specs.Kinds.{shape_of_kind}
use Rattle.view_laws.specs.RowForm.{RowForm, form_of, shows}
use Rattle.machine.specs.Bases.{World}
use Rattle.machine.specs.Views.{View, base, base_under, both, over, shape_at, shown}
use Rattle.machine.specs.Leaves.{leaf_at}
use Rattle.view_steps.specs.KnownViews.{is_known_view}
use Rattle.view_steps.proofs.KnownLemmas.{is_known_shape, known_over, known_shape}
use Rattle.view_steps.proofs.RowLemmas.{shown_law}
use Rattle.view_steps.proofs.ItemLemmas.{IsItemIn, Each, an_element, an_entry, each_turned, no_entries, step_item, item_over}

-- ---- rows of a base

row_item : (of : Shape) (row : Item) → is_known_shape of ≡ true → is_entries of ≡ false → IsRowIn of row → IsItemIn of row
row_item (shape.Map sorted) (Entry k w) known h r = tt
row_item (shape.Map sorted) row known h r = absurd r
row_item shape.BiMap (Entry k w) known h r = tt
row_item shape.BiMap row known h r = absurd r
row_item shape.List (One x) known h r = tt
row_item shape.List row known h r = absurd r
row_item (shape.Set sorted) (One x) known h r = tt
row_item (shape.Set sorted) row known h r = absurd r
row_item shape.Coll (One x) known h r = tt
row_item shape.Coll row known h r = absurd r
row_item (shape.Rows rows.Entry) row known h r = absurd (cc)
row_item _ row known h r = absurd (cc)

-- ---- steps

form_item : (world : World) (v : View) → is_known_view v ≡ true → is_known_kind (leaf_at world (base_under v)).kind ≡ true → IsMade world v → (row : Item) → IsRowOf (leaf_at world (base_under v)).kind row
    → IsItemIn (shape_at world v) ((form_of v).item row)
form_item world (base l) known kind made row h = row_item (shape_of_kind (leaf_at world l).kind) row (known_shape world (base l) known kind) (no_entries (leaf_at world l).kind kind) h
form_item world (over it v) known kind made row h =
    let parts = known_over it v known in
    subst (IsItemIn (shape_at world (over it v))) (sym (item_over it (form_of v) row))
    (step_item (shape_at world v) it parts.0 ((form_of v).item row) made.0.given (form_item world v parts.1 kind made.1 row h))
form_item world (both word v u) known kind made row h = absurd (cc)

each_item : (world : World) (v : View) → is_known_view v ≡ true → is_known_kind (leaf_at world (base_under v)).kind ≡ true → IsMade world v → (rows : List Item) → AreRowsOf (leaf_at world (base_under v)).kind rows
    → Each (IsItemIn (shape_at world v)) (map (form_of v).item (filter (shows (form_of v)) rows))
each_item world v known kind made [] fit = tt
each_item world v known kind made (row ∷ rows) fit =
    let f : RowForm = form_of v in
    elim (shows f row) as (λ b. Each (IsItemIn (shape_at world v)) (map f.item (cond b (row ∷ filter (shows f) rows) (filter (shows f) rows)))) [
      | true ↦ (form_item world v known kind made row fit.0, each_item world v known kind made rows fit.1)
      | false ↦ each_item world v known kind made rows fit.1
    ]

pub shown_items : (world : World) (v : View) → is_known_view v ≡ true → is_known_kind (leaf_at world (base_under v)).kind ≡ true → IsMade world v → AreRowsOf (leaf_at world (base_under v)).kind (leaf_at world (base_under v)).rows
    → Each (IsItemIn (shape_at world v)) (shown world v)
shown_items world v known kind made fit =
    let f : RowForm = form_of v in
    let rows : List Item = (leaf_at world (base_under v)).rows in
    subst (Each (IsItemIn (shape_at world v))) (sym (shown_law world v known)) (each_turned (IsItemIn (shape_at world v)) f.turned (map f.item (filter (shows f) rows)) (each_item world v known kind made rows fit))

-- ---- items of elements, and of entries, as rows of a shape like it

pub element_rows : (of : Shape) (kind : Kind) (items : List Item) → is_elements of ≡ true → ((x : Elem) → IsRowOf kind (One x)) → Each (IsItemIn of) items → AreRowsOf kind items
element_rows of kind [] h fits e = tt
element_rows of kind (item ∷ items) h fits e =
    let one = an_element of item h e.0 in
    (subst (IsRowOf kind) (sym one.same) (fits one.element), element_rows of kind items h fits e.1)

pub entry_rows : (of : Shape) (kind : Kind) (items : List Item) → is_map of ≡ true → ((k w : Elem) → IsRowOf kind (Entry k w)) → Each (IsItemIn of) items → AreRowsOf kind items
entry_rows of kind [] h fits e = tt
entry_rows of kind (item ∷ items) h fits e =
    let one = an_entry of item h e.0 in
    (subst (IsRowOf kind) (sym one.same) (fits one.key one.value), entry_rows of kind items h fits e.1)
