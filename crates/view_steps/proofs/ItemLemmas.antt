-- Items such as a shape has.
use Rattle.std.proofs.Common.{◌≡◌, Bool, true, false, ◌||◌, List, [], ◌∷◌, ◌++◌, reverse, refl, sym, ap, subst, ◌∙◌}
use Rattle.std.specs.Prelude.{IsSome}
use Rattle.std.specs.List.{list_any}
use Rattle.std.proofs.lemmas.List.{reverse-append}
use Rattle.elem.specs.declared.elements.Elem.{Elem}
use Rattle.vocabulary.specs.declared.items.Item.{Item}
use Rattle.vocabulary.specs.declared.items.Item.TheVariants.{One, Entry}
use Rattle.vocabulary.specs.declared.shapes.RowSort.TheVariants as rows
use Rattle.vocabulary.specs.declared.shapes.Shape.{Shape}
use Rattle.vocabulary.specs.declared.shapes.Shape.TheVariants as shape
use Rattle.vocabulary.specs.declared.step_table.Family.{Family}
use Rattle.vocabulary.specs.declared.step_table.Family.TheVariants.{Changed, Keyed, Cut}
use Rattle.vocabulary.specs.declared.steps.Step.{Step}
use Rattle.machine.specs.Shown.{has_key, is_shown}
use Rattle.vocabulary.specs.Shapes.{is_elements, is_map}
use Rattle.view_laws.specs.ItemForms.{has_form}
use Rattle.view_laws.specs.Lanes.{turned_if}
use Rattle.view_laws.specs.RowForm.{RowForm, form_over}
use Rattle.vocabulary.specs.StepShapes.{apply}
use Rattle.vocabulary.specs.Steps.{family_of, item_of}
use Rattle.vocabulary.specs.Items.{same_item}
use Rattle.machine.specs.Views.{shape_after}
use Rattle.view_steps.specs.KnownViews.{is_known}
use Rattle.view_steps.specs.KnownShapes.{is_known_shape}
use Rattle.view_steps.proofs.FamilyTable.{makes_items, unmade}
use Rattle.view_steps.proofs.FormedLemmas.{item_formed}
use Rattle.view_steps.proofs.KnownShapeTable.{shape_over}
pub use Rattle.view_steps.proofs.KindTable.{no_entries}

-- a view of a known shape shows elements, or entries
abbrev pub IsItemIn : Shape → Item → Type 0
IsItemIn shape.List (One x) = Unit {0}
IsItemIn (shape.Set sorted) (One x) = Unit {0}
IsItemIn shape.Coll (One x) = Unit {0}
IsItemIn (shape.Rows rows.Entry) (Entry k w) = Unit {0}
IsItemIn (shape.Map sorted) (Entry k w) = Unit {0}
IsItemIn shape.BiMap (Entry k w) = Unit {0}
IsItemIn of item = ⊥

abbrev pub Each : (Item → Type 0) → List Item → Type 0
Each P [] = Unit {0}
Each P (x ∷ xs) = P x × Each P xs

each_append : (P : Item → Type 0) (xs ys : List Item) → Each P xs → Each P ys → Each P (xs ++ ys)
each_append P [] ys a b = b
each_append P (x ∷ xs) ys a b = (a.0, each_append P xs ys a.1 b)

each_reverse : (P : Item → Type 0) (xs : List Item) → Each P xs → Each P (reverse xs)
each_reverse P [] a = tt
each_reverse P (x ∷ xs) a = subst (Each P) (sym (reverse-append (x ∷ []) xs)) (each_append P (reverse xs) (x ∷ []) (each_reverse P xs a.1) (a.0, tt))

pub each_turned : (P : Item → Type 0) (t : Bool) (xs : List Item) → Each P xs → Each P (turned_if t xs)
each_turned P true xs a = each_reverse P xs a
each_turned P false xs a = a

-- such an item has the form of the shape, which is known, and what has it is one
item_form : (of : Shape) (item : Item) → IsItemIn of item → (is_known_shape of ≡ true) × (has_form of item ≡ true)
item_form shape.List (One x) h = (refl, refl)
item_form (shape.Set sorted) (One x) h = (refl, refl)
item_form shape.Coll (One x) h = (refl, refl)
item_form (shape.Rows rows.Entry) (Entry k w) h = (refl, refl)
item_form (shape.Map sorted) (Entry k w) h = (refl, refl)
item_form shape.BiMap (Entry k w) h = (refl, refl)
item_form _ _ h = absurd h

form_item : (of : Shape) (item : Item) → is_known_shape of ≡ true → has_form of item ≡ true → IsItemIn of item
form_item shape.List (One x) known h = tt
form_item (shape.Set sorted) (One x) known h = tt
form_item shape.Coll (One x) known h = tt
form_item (shape.Rows rows.Entry) (Entry k w) known h = tt
form_item (shape.Map sorted) (Entry k w) known h = tt
form_item shape.BiMap (Entry k w) known h = tt
form_item _ _ known h = absurd (cc)

pub step_item : (of : Shape) (it : Step) → is_known it ≡ true → (item : Item) → IsSome (apply of it) → IsItemIn of item → IsItemIn (shape_after of (apply of it)) (item_of it item)
step_item of it known item given h =
    let below = item_form of item h in
    form_item (shape_after of (apply of it)) (item_of it item) (shape_over of it below.0 known) (item_formed of it known given below.0 item below.1)

-- what a form makes of a row, over a step
pub item_over : (it : Step) (f : RowForm) (row : Item) → (form_over (family_of it) it f).item row ≡ item_of it (f.item row)
item_over it f row = by (family_of it) refl
  where
    by : (family : Family) → family_of it ≡ family → (form_over family it f).item row ≡ item_of it (f.item row)
    by Changed e = refl
    by Keyed e = refl
    by Cut e = refl
    by _ e = sym (unmade it (f.item row) (ap makes_items e))

-- ---- collections have elements, and maps have entries

pub record IsElement (item : Item) : Type 0 where
  pub element : Elem
  pub same : item ≡ One element

pub record IsEntry (item : Item) : Type 0 where
  pub key : Elem
  pub value : Elem
  pub same : item ≡ Entry key value

pub an_element : (of : Shape) (item : Item) → is_elements of ≡ true → IsItemIn of item → IsElement item
an_element shape.List (One x) h i = record { element = x; same = refl }
an_element (shape.Set sorted) (One x) h i = record { element = x; same = refl }
an_element shape.Coll (One x) h i = record { element = x; same = refl }
an_element shape.List item h i = absurd i
an_element (shape.Set sorted) item h i = absurd i
an_element shape.Coll item h i = absurd i
an_element (shape.Bag sorted) item h i = absurd i
an_element _ item h i = absurd (cc)

pub an_entry : (of : Shape) (item : Item) → is_map of ≡ true → IsItemIn of item → IsEntry item
an_entry (shape.Map sorted) (Entry k w) h i = record { key = k; value = w; same = refl }
an_entry shape.BiMap (Entry k w) h i = record { key = k; value = w; same = refl }
an_entry (shape.Map sorted) item h i = absurd i
an_entry shape.BiMap item h i = absurd i
an_entry _ item h i = absurd (cc)

pub shown_element : (of : Shape) (items : List Item) (x : Elem) → is_elements of ≡ true → Each (IsItemIn of) items → list_any (has_key x) items ≡ is_shown items (One x)
shown_element of [] x h e = refl
shown_element of (item ∷ items) x h e =
    let one = an_element of item h e.0 in
    let here : has_key x item ≡ same_item (One x) item = rw one.same refl in
    ap (λ b. b || list_any (has_key x) items) here ∙ ap (λ b. same_item (One x) item || b) (shown_element of items x h e.1)
