-- Walks and look-ups by a part come down to the base of a view whose steps are known, and such a part of an item is a
-- part of its row.
use Rattle.std.proofs.Common.{◌≡◌, Bool, true, false, ◌||◌, refl, ap, sym, subst, ◌∙◌}
use Rattle.std.specs.Prelude.{Option, Some}
use Rattle.std.specs.Option.{IfSome}
use Rattle.elem.specs.declared.elements.Elem.{Elem}
use Rattle.elem.specs.Elements.{same}
use Rattle.vocabulary.specs.declared.items.Item.{Item}
use Rattle.vocabulary.specs.declared.items.Side.{Side}
use Rattle.vocabulary.specs.declared.items.Side.TheVariants.{First, Second}
use Rattle.vocabulary.specs.declared.kinds.Kind.{Kind}
use Rattle.vocabulary.specs.declared.steps.Step.{Step}
use Rattle.vocabulary.specs.Items.{key_of, part_of, second_of}
use Rattle.vocabulary.specs.Kinds.{shape_of_kind}
use Rattle.vocabulary.specs.Known.{is_known_kind}
use Rattle.vocabulary.specs.Shapes.{is_unique}
use Rattle.vocabulary.specs.Steps.{item_of}
use Rattle.machine.specs.Bases.{World}
use Rattle.machine.specs.Leaves.{leaf_at}
use Rattle.machine.specs.MadeViews.{IsMade}
use Rattle.machine.specs.Views.{View, base, both, over, base_under, shape_at}
use Rattle.view_laws.specs.declared.lanes.Lane.{Lane}
use Rattle.view_laws.specs.declared.lanes.PartAsk.{PartAsk}
use Rattle.view_laws.specs.declared.lanes.PartAsk.TheVariants.{Any, Is, Within, Nothing}
use Rattle.view_laws.specs.ItemForms.{has_form}
use Rattle.view_laws.specs.Lanes.{all, takes}
use Rattle.view_laws.specs.LanesDown.{lane_down}
use Rattle.view_laws.specs.Narrowing.{is_any, source_of}
use Rattle.view_laws.specs.RowForm.{form_of}
use Rattle.view_laws.specs.Serving.{Serves, ServesPart, of_part}
use Rattle.view_laws.proofs.PartTable.{part_told}
use Rattle.view_laws.proofs.TellTable.{told_on_shape}
use Rattle.view_steps.specs.KnownLanes.{ComesDown, PartDown, part_below}
use Rattle.view_steps.specs.KnownViews.{is_known_view}
use Rattle.view_steps.proofs.FormedLemmas.{item_formed}
use Rattle.view_steps.proofs.ItemLemmas.{item_over}
use Rattle.view_steps.proofs.KnownLemmas.{known_over, known_shape}
use Rattle.view_steps.proofs.LaneLemmas.{AskDown, IsOfPart, ask_down, of_ask}
use Rattle.view_steps.proofs.ListLemmas.{both as both_true}
use Rattle.view_steps.proofs.PartTable.{part_down}
use Rattle.view_steps.proofs.UniqueParts.{part_from_below, unique_below}

-- ---- lanes

one_part : (b : Bool) → b || true ≡ true
one_part true = refl
one_part false = refl

serves : (kind : Kind) (side : Side) (ask : PartAsk) → ServesPart kind side ask → Serves kind (of_ask side ask)
serves kind First ask s = record { keys = s; values = tt; one = one_part (is_any ask); each = refl }
serves kind Second Any s = record { keys = tt; values = tt; one = refl; each = refl }
serves kind Second (Is x) s = record { keys = tt; values = s; one = refl; each = refl }
serves kind Second (Within order w) s = absurd s
serves kind Second Nothing s = record { keys = tt; values = tt; one = refl; each = refl }

-- what comes down serves as a lane
abbrev comes : (world : World) (v : View) (side : Side) (ask : PartAsk) (back : Bool) (lane : Lane) → lane ≡ of_ask side ask → AskDown world v side ask back → ComesDown world v lane back
comes world v side ask back lane same d = record {
  below = of_ask d.part d.below;
  from_back = d.from_back;
  down = ap (λ (l : Lane). lane_down world v l back) same ∙ d.down;
  served = serves (leaf_at world (base_under v)).kind d.part d.below d.served;
}

pub walk_comes_down : (world : World) (v : View) (back : Bool) → is_known_view v ≡ true → is_known_kind (leaf_at world (base_under v)).kind ≡ true → IsMade world v → ComesDown world v all back
walk_comes_down world v back known kind made = comes world v First Any back all refl (ask_down world v First Any back known kind made tt)

-- what asks for an element of a part takes the rows that have it there alone
only : (t : Side) (x : Elem) (side : Side) (ask : PartAsk) (row : Item) → IsOfPart t x side ask → takes (of_ask side ask) row ≡ true → same x (part_of t row) ≡ true
only t x side Any row is h = absurd is
only t x First (Is y) row is h =
    subst (λ (s : Side). same x (part_of s row) ≡ true) is.1 (subst (λ (z : Elem). same z (key_of row) ≡ true) (sym is.0) (both_true (same y (key_of row)) true h).0)
only t x Second (Is y) row is h = subst (λ (s : Side). same x (part_of s row) ≡ true) is.1 (subst (λ (z : Elem). same z (second_of row) ≡ true) (sym is.0) h)
only t x side (Within order w) row is h = absurd is
only t x First Nothing row is h = absurd (cc)
only t x Second Nothing row is h = absurd (cc)

asks_part : (side : Side) (x : Elem) → of_part side x ≡ of_ask side (Is x)
asks_part First x = refl
asks_part Second x = refl

pub part_comes_down : (world : World) (v : View) (side : Side) (x : Elem) (back : Bool) → is_known_view v ≡ true → is_known_kind (leaf_at world (base_under v)).kind ≡ true → IsMade world v → is_unique (shape_at world v) side ≡ true
    → PartDown world v side x back
part_comes_down world v side x back known kind made unique =
    let d = ask_down world v side (Is x) back known kind made unique in
    record {
      down = comes world v side (Is x) back (of_part side x) (asks_part side x) d;
      unique = unique_below world v side known kind made unique;
      alone = λ row h. only (part_below v side) x d.part d.below row (d.of_part side x (refl, refl)) h;
    }

-- ---- items

-- the item of a row of the form of its base has the form of the view
item_has_form : (world : World) (v : View) → is_known_view v ≡ true → is_known_kind (leaf_at world (base_under v)).kind ≡ true → IsMade world v → (row : Item) → has_form (shape_of_kind (leaf_at world (base_under v)).kind) row ≡ true
    → has_form (shape_at world v) ((form_of v).item row) ≡ true
item_has_form world (base l) known kind made row h = h
item_has_form world (over it v) known kind made row h =
    let parts = known_over it v known in
    subst (λ (item : Item). has_form (shape_at world (over it v)) item ≡ true) (sym (item_over it (form_of v) row))
    (item_formed (shape_at world v) it parts.0 made.0.given (known_shape world v parts.1 kind) ((form_of v).item row) (item_has_form world v parts.1 kind made.1 row h))
item_has_form world (both word v u) known kind made row h = absurd (cc)

told_from : (it : Step) (side b : Side) (item : Item) (o : Option Side) → o ≡ Some b → IfSome o (λ below. part_of side (item_of it item) ≡ part_of below item) → part_of side (item_of it item) ≡ part_of b item
told_from it side b item o e told = subst (λ (p : Option Side). IfSome p (λ below. part_of side (item_of it item) ≡ part_of below item)) e told

pub part_kept : (world : World) (v : View) (side : Side) (row : Item) → is_known_view v ≡ true → is_known_kind (leaf_at world (base_under v)).kind ≡ true → IsMade world v → is_unique (shape_at world v) side ≡ true
    → has_form (shape_of_kind (leaf_at world (base_under v)).kind) row ≡ true → part_of side ((form_of v).item row) ≡ part_of (part_below v side) row
part_kept world (base l) side row known kind made unique h = refl
part_kept world (over it v) side row known kind made unique h =
    let parts = known_over it v known in
    let p = part_down (shape_at world v) it side (known_shape world v parts.1 kind) made.0.given unique in
    let item : Item = (form_of v).item row in
    let form = item_has_form world v parts.1 kind made.1 row h in
    ap (part_of side) (item_over it (form_of v) row)
    ∙ told_from it side p.below item (source_of it side) p.from (part_told it side item (told_on_shape (shape_at world v) it side item form p.told))
    ∙ part_kept world v p.below row parts.1 kind made.1 p.unique h
    ∙ ap (λ (s : Side). part_of (part_below v s) row) (sym (part_from_below it side p.below p.from))
part_kept world (both word v u) side row known kind made unique h = absurd (cc)
