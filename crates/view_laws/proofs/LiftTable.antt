-- The table of steps, read by its columns of adding: what a step makes of an item that is added above it is that item.
use Rattle.std.proofs.Common.{◌≡◌, ℕ, Bool, true, false, cond, refl, sym, ◌∙◌, subst}
use Rattle.std.specs.Prelude.{Some, None}
use Rattle.std.proofs.lemmas.Option.{same_Some, cond_some}
use Rattle.elem.specs.declared.elements.Elem.{Elem}
use Rattle.elem.specs.Elements.{same}
use Rattle.elem.specs.ElementLaws.{same_equiv}
use Rattle.vocabulary.specs.declared.items.Item.{Item}
use Rattle.vocabulary.specs.declared.items.Item.TheVariants.{One, Entry, Counted, Cell, Group, Piece, Range, RangeEntry, Pair, Edge}
use Rattle.vocabulary.specs.declared.items.Side.{Side}
use Rattle.vocabulary.specs.declared.items.Side.TheVariants.{First, Second}
use Rattle.vocabulary.specs.declared.shapes.Shape.{Shape}
use Rattle.vocabulary.specs.declared.shapes.Shape.TheVariants as shape
use Rattle.vocabulary.specs.declared.step_table.Family.{Family}
use Rattle.vocabulary.specs.declared.step_table.Family.TheVariants as family
use Rattle.vocabulary.specs.declared.steps.Flags.{Flags}
use Rattle.vocabulary.specs.declared.steps.PlainStep.TheVariants.{Reverse, KeySet, Values, EntrySet, Keys, Descending, Inverse, Transpose, ForMap, Unmodifiable}
use Rattle.vocabulary.specs.declared.steps.Step.{Step}
use Rattle.vocabulary.specs.declared.steps.Step.TheVariants as step
use Rattle.vocabulary.specs.Items.{swapped, with_part}
use Rattle.vocabulary.specs.Steps.{along, family_of, flags_after, is_columns, item_of, lifted, passes, without_adding, without_iterating}
use Rattle.view_laws.specs.RowForm.{IsUndone, has_room}

pub twice_swapped : (item : Item) → swapped (swapped item) ≡ item
twice_swapped (One x) = refl
twice_swapped (Entry k v) = refl
twice_swapped (Counted x n) = refl
twice_swapped (Cell r c v) = refl
twice_swapped (Group k) = refl
twice_swapped (Piece i) = refl
twice_swapped (Range s) = refl
twice_swapped (RangeEntry s v) = refl
twice_swapped (Pair a b) = refl
twice_swapped (Edge a b v) = refl

-- what passes as it is
as_it_is : (it : Step) (item below : Item) → item_of it item ≡ item → cond (passes it item) (Some item) None ≡ Some below → IsUndone it item below
as_it_is it item below same is =
    let e = cond_some (passes it item) item below is in
    subst (λ (z : Item). IsUndone it item z) e.1 (record { back = same; passed = e.0 })

given : (it : Step) (item below up : Item) → Some up ≡ Some below → IsUndone it item up → IsUndone it item below
given it item below up is u = subst (λ (z : Item). IsUndone it item z) (same_Some up below is) u

given_back : (side : Side) (k : Elem) (n : ℕ) (item : Item) → has_room (step.At side k n) item ≡ true → IsUndone (step.At side k n) item (with_part side k item)
given_back First k n (One x) h = record { back = refl; passed = same_equiv.refl k }
given_back First k n (Entry c v) h = record { back = refl; passed = same_equiv.refl k }
given_back Second k n (One x) h = record { back = refl; passed = same_equiv.refl k }
given_back Second k n (Entry c v) h = record { back = refl; passed = same_equiv.refl k }
given_back side k n (Counted x m) h = absurd (cc)
given_back side k n (Cell r c v) h = absurd (cc)
given_back side k n (Group l) h = absurd (cc)
given_back side k n (Piece i) h = absurd (cc)
given_back side k n (Range s) h = absurd (cc)
given_back side k n (RangeEntry s v) h = absurd (cc)
given_back side k n (Pair a b) h = absurd (cc)
given_back side k n (Edge a b v) h = absurd (cc)

-- a column of a table lets in what the table does
along_adds : (of : Shape) (side : Side) (flags : Flags) → (along of side flags).add ≡ flags.add
along_adds (shape.Table mirrored sorted) side flags = by (is_columns mirrored side)
  where
    by : (t : Bool) → (cond t (without_iterating flags) flags).add ≡ flags.add
    by true = refl
    by false = refl
along_adds other side flags = refl

no_groups : (of : Shape) (side : Side) (flags : Flags) → (along of side (without_adding flags)).add ≡ true → ⊥
no_groups of side flags h = let e : false ≡ true = sym (along_adds of side (without_adding flags)) ∙ h in cc

pub lift_undone : (of : Shape) (flags : Flags) (it : Step) (item below : Item) → (flags_after of it flags).add ≡ true → has_room it item ≡ true → lifted it item ≡ Some below → IsUndone it item below
lift_undone of flags (step.Plain Reverse) item below ok room is = as_it_is (step.Plain Reverse) item below refl is
lift_undone of flags (step.Plain KeySet) item below ok room is = absurd (cc)
lift_undone of flags (step.Plain Values) item below ok room is = absurd (cc)
lift_undone of flags (step.Plain EntrySet) item below ok room is = absurd (cc)
lift_undone of flags (step.Plain Keys) item below ok room is = absurd (cc)
lift_undone of flags (step.Plain Descending) item below ok room is = as_it_is (step.Plain Descending) item below refl is
lift_undone of flags (step.Plain Inverse) item below ok room is = given (step.Plain Inverse) item below (swapped item) is (record { back = twice_swapped item; passed = refl })
lift_undone of flags (step.Plain Transpose) item below ok room is = given (step.Plain Transpose) item below (swapped item) is (record { back = twice_swapped item; passed = refl })
lift_undone of flags (step.Plain ForMap) item below ok room is = absurd (cc)
lift_undone of flags (step.Plain Unmodifiable) item below ok room is = absurd (cc)
lift_undone of flags (step.Filter word p) item below ok room is = as_it_is (step.Filter word p) item below refl is
lift_undone of flags (step.FilterPairs q) item below ok room is = as_it_is (step.FilterPairs q) item below refl is
lift_undone of flags (step.Change word f) item below ok room is = absurd (cc)
lift_undone of flags (step.Within order w) item below ok room is = as_it_is (step.Within order w) item below refl is
lift_undone of flags (step.At side k n) item below ok room is = given (step.At side k n) item below (with_part side k item) is (given_back side k n item room)
lift_undone of flags (step.Group side made) item below ok room is = absurd (no_groups of side flags ok)
lift_undone of flags (step.Sub n s) item below ok room is = as_it_is (step.Sub n s) item below refl is
lift_undone of flags (step.Partition n) item below ok room is = absurd (cc)
lift_undone of flags (step.Piece n s) item below ok room is = as_it_is (step.Piece n s) item below refl is

-- no step lets in more than the view below it
pub adds_below : (of : Shape) (flags : Flags) (it : Step) → (flags_after of it flags).add ≡ true → flags.add ≡ true
adds_below of flags (step.Plain Reverse) h = h
adds_below of flags (step.Plain KeySet) h = absurd (cc)
adds_below of flags (step.Plain Values) h = absurd (cc)
adds_below of flags (step.Plain EntrySet) h = absurd (cc)
adds_below of flags (step.Plain Keys) h = absurd (cc)
adds_below of flags (step.Plain Descending) h = h
adds_below of flags (step.Plain Inverse) h = h
adds_below of flags (step.Plain Transpose) h = h
adds_below of flags (step.Plain ForMap) h = absurd (cc)
adds_below of flags (step.Plain Unmodifiable) h = absurd (cc)
adds_below of flags (step.Filter word p) h = h
adds_below of flags (step.FilterPairs q) h = h
adds_below of flags (step.Change word f) h = absurd (cc)
adds_below of flags (step.Within order w) h = h
adds_below of flags (step.At side k n) h = sym (along_adds of side flags) ∙ h
adds_below of flags (step.Group side made) h = absurd (no_groups of side flags h)
adds_below of flags (step.Sub n s) h = h
adds_below of flags (step.Partition n) h = absurd (cc)
adds_below of flags (step.Piece n s) h = h

-- the families that leave items as they are
abbrev pub leaves_items : Family → Bool
leaves_items family.Same = true
leaves_items family.Turned = true
leaves_items family.Hidden = true
leaves_items other = false

pub left_items : (it : Step) (item : Item) → leaves_items (family_of it) ≡ true → item_of it item ≡ item
left_items (step.Plain Reverse) item h = refl
left_items (step.Plain KeySet) item h = absurd (cc)
left_items (step.Plain Values) item h = absurd (cc)
left_items (step.Plain EntrySet) item h = refl
left_items (step.Plain Keys) item h = absurd (cc)
left_items (step.Plain Descending) item h = refl
left_items (step.Plain Inverse) item h = absurd (cc)
left_items (step.Plain Transpose) item h = absurd (cc)
left_items (step.Plain ForMap) item h = refl
left_items (step.Plain Unmodifiable) item h = refl
left_items (step.Filter word p) item h = refl
left_items (step.FilterPairs q) item h = refl
left_items (step.Change word f) item h = absurd (cc)
left_items (step.Within order w) item h = refl
left_items (step.At side k n) item h = absurd (cc)
left_items (step.Group side made) item h = refl
left_items (step.Sub n s) item h = refl
left_items (step.Partition n) item h = refl
left_items (step.Piece n s) item h = refl
