-- What a known view takes of rows depends on their keys alone, and in a list on nothing.
use Rattle.std.proofs.Common.{◌≡◌, true, false, ◌&&◌, Option, Some, refl, ap, sym, subst, ◌∙◌}
use Rattle.std.specs.Option.{IfSome}
use Rattle.machine.specs.Bases.{World}
use Rattle.machine.specs.Leaves.{leaf_at}
use Rattle.machine.specs.MadeViews.{IsMade}
use Rattle.machine.specs.Views.{View, base, base_under, both, over, shape_at}
use Rattle.view_laws.specs.RowForm.{RowForm, form_of, form_over}
use Rattle.view_steps.specs.KnownViews.{is_known, is_known_view}
use Rattle.vocabulary.specs.declared.items.Item.{Item}
use Rattle.vocabulary.specs.declared.items.Side.{Side}
use Rattle.vocabulary.specs.declared.items.Side.TheVariants.{First, Second}
use Rattle.vocabulary.specs.declared.steps.ChangeStep.TheVariants.{Transform, TransformValues, AsMap}
use Rattle.vocabulary.specs.declared.steps.PlainStep.TheVariants.{Reverse, KeySet, Values, EntrySet, Keys, Descending, Inverse, Transpose, ForMap, Unmodifiable}
use Rattle.vocabulary.specs.declared.steps.Step.{Step}
use Rattle.vocabulary.specs.declared.steps.Step.TheVariants as step
use Rattle.vocabulary.specs.Items.{key_of, part_of}
use Rattle.vocabulary.specs.Kinds.{shape_of_kind}
use Rattle.vocabulary.specs.Known.{is_known_kind}
use Rattle.vocabulary.specs.Orders.{lies_in}
use Rattle.vocabulary.specs.Shapes.{is_keyed, is_sorted}
use Rattle.vocabulary.specs.Steps.{family_of, item_of}
use Rattle.view_laws.specs.Narrowing.{source_of, tells}
use Rattle.view_laws.proofs.PartTable.{part_told}
use Rattle.view_steps.proofs.ItemLemmas.{item_over}
use Rattle.view_steps.proofs.KnownLemmas.{known_over, known_shape}
use Rattle.view_steps.proofs.UniqueParts.{part_down, sorted_down, sorted_first, sorted_keyed, window_sorted}

-- ---- keys of items

-- a known step under which keys are keys tells the key of each item
tells_first : (it : Step) (item : Item) → is_known it ≡ true → source_of it First ≡ Some First → tells it First item ≡ true
tells_first (step.Plain Values) item known from = absurd (cc)
tells_first (step.Plain Inverse) item known from = absurd (cc)
tells_first (step.Plain Transpose) item known from = absurd (cc)
tells_first (step.At side k n) item known from = absurd (cc)
tells_first (step.Change Transform g) item known from = refl
tells_first (step.Change TransformValues g) item known from = refl
tells_first (step.Change AsMap g) item known from = refl
tells_first _ item known from = refl

kept_key : (it : Step) (f : RowForm) (row : Item) → is_known it ≡ true → source_of it First ≡ Some First → key_of ((form_over (family_of it) it f).item row) ≡ key_of (f.item row)
kept_key it f row known from =
    ap key_of (item_over it f row)
    ∙ subst (λ (o : Option Side). IfSome o (λ (below : Side). part_of First (item_of it (f.item row)) ≡ part_of below (f.item row))) from (part_told it First (f.item row) (tells_first it (f.item row) known from))

-- a sorted view stands on a base that goes by key, and its items have the keys of their rows
record HasRowKeys (world : World) (v : View) : Type 0 where
  keyed : is_keyed (shape_of_kind (leaf_at world (base_under v)).kind) ≡ true
  keys : (row : Item) → key_of ((form_of v).item row) ≡ key_of row

row_keys : (world : World) (v : View) → is_known_view v ≡ true → is_known_kind (leaf_at world (base_under v)).kind ≡ true → IsMade world v → is_sorted (shape_at world v) ≡ true → HasRowKeys world v
row_keys world (base l) known kind made sorted = record { keyed = sorted_keyed (shape_of_kind (leaf_at world l).kind) (known_shape world (base l) known kind) sorted; keys = λ row. refl }
row_keys world (over it v) known kind made sorted =
    let k = known_over it v known in
    let shape = known_shape world v k.1 kind in
    let under : is_sorted (shape_at world v) ≡ true = sorted_down (shape_at world v) it shape made.0.given sorted in
    let p = part_down (shape_at world v) it First shape made.0.given (sorted_keyed (shape_at world (over it v)) (known_shape world (over it v) known kind) sorted) in
    let below : HasRowKeys world v = row_keys world v k.1 kind made.1 under in
    record { keyed = below.keyed; keys = λ row. kept_key it (form_of v) row k.0 (p.from ∙ ap Some (sorted_first (shape_at world v) p.below under p.unique)) ∙ below.keys row }
row_keys world (both word v u) known kind made sorted = absurd (cc)

-- ---- rows that are taken

-- rows of one key, where the base goes by key
abbrev pub AreAlike : World → View → Item → Item → Type 0
AreAlike world v a b = is_keyed (shape_of_kind (leaf_at world (base_under v)).kind) ≡ true → key_of a ≡ key_of b

taken_over : (world : World) (it : Step) (v : View) (a b : Item) → is_known it ≡ true → is_known_view v ≡ true → is_known_kind (leaf_at world (base_under v)).kind ≡ true → IsMade world (over it v)
    → AreAlike world v a b → (form_of v).takes a ≡ (form_of v).takes b → (form_of (over it v)).takes a ≡ (form_of (over it v)).takes b
taken_over world (step.Plain Reverse) v a b known below kind made alike same = same
taken_over world (step.Plain KeySet) v a b known below kind made alike same = same
taken_over world (step.Plain Values) v a b known below kind made alike same = same
taken_over world (step.Plain EntrySet) v a b known below kind made alike same = same
taken_over world (step.Plain Keys) v a b known below kind made alike same = same
taken_over world (step.Plain Descending) v a b known below kind made alike same = same
taken_over world (step.Plain Inverse) v a b known below kind made alike same = same
taken_over world (step.Plain Transpose) v a b known below kind made alike same = same
taken_over world (step.Plain ForMap) v a b known below kind made alike same = same
taken_over world (step.Plain Unmodifiable) v a b known below kind made alike same = same
taken_over world (step.Filter word p) v a b known below kind made alike same = same
taken_over world (step.FilterPairs q) v a b known below kind made alike same = same
taken_over world (step.Change word g) v a b known below kind made alike same = same
taken_over world (step.Within order w) v a b known below kind made alike same =
    let shape = known_shape world v below kind in
    let keys : HasRowKeys world v = row_keys world v below kind made.1 (window_sorted (shape_at world v) order w shape made.0.given) in
    let key : key_of ((form_of v).item a) ≡ key_of ((form_of v).item b) = keys.keys a ∙ alike keys.keyed ∙ sym (keys.keys b) in
    λ i. same i && lies_in order w (key i)
taken_over world (step.At side k n) v a b known below kind made alike same = absurd (cc)
taken_over world (step.Group side made_by) v a b known below kind made alike same = same
taken_over world (step.Sub n s) v a b known below kind made alike same = same
taken_over world (step.Partition n) v a b known below kind made alike same = same
taken_over world (step.Piece n s) v a b known below kind made alike same = same

pub taken_alike : (world : World) (v : View) (a b : Item) → is_known_view v ≡ true → is_known_kind (leaf_at world (base_under v)).kind ≡ true → IsMade world v → AreAlike world v a b → (form_of v).takes a ≡ (form_of v).takes b
taken_alike world (base l) a b known kind made alike = refl
taken_alike world (over it v) a b known kind made alike =
    let k = known_over it v known in
    taken_over world it v a b k.0 k.1 kind made alike (taken_alike world v a b k.1 kind made.1 alike)
taken_alike world (both word v u) a b known kind made alike = absurd (cc)
