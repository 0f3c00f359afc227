-- A list view shows every row of its base, from the front or from the back.
use Rattle.std.proofs.Common.{◌≡◌, ℕ, ◌-◌, ◌<◌, ◌≤◌, List, [], ◌∷◌, ◌++◌, length, map, reverse, take, drop, refl, ap, sym, ◌∙◌, arith, Bool, true, false, cond, not}
use Rattle.std.specs.Prelude.{filter, slice_get, Some, IsSome, option_map}
use Rattle.std.specs.List.{insert}
use Rattle.std.proofs.lemmas.List.{length-reverse, length-map, length-drop, take-append-drop, take_at, drop_at, reverse-append, append_assoc}
use Rattle.std.proofs.lemmas.Option.{slice_get-map}
use Rattle.vocabulary.specs.declared.items.Item.{Item}
use Rattle.vocabulary.specs.declared.shapes.Shape.{Shape}
use Rattle.vocabulary.specs.declared.step_table.Family.{Family}
use Rattle.vocabulary.specs.declared.step_table.Family.TheVariants.{Same, Changed, Turned}
use Rattle.vocabulary.specs.declared.steps.Step.{Step}
use Rattle.view_steps.specs.Indexes.{item_index, gap_index}
use Rattle.view_steps.specs.Turning.{turns}
use Rattle.view_laws.specs.Lanes.{turned_if}
use Rattle.view_laws.specs.RowForm.{RowForm, form_over, form_of, shows, shown_by, IsShownAs}
use Rattle.view_laws.proofs.FormLemmas.{given_shape}
use Rattle.vocabulary.specs.Steps.{family_of}
use Rattle.vocabulary.specs.StepShapes.{apply}
use Rattle.vocabulary.specs.Shapes.{is_list}
use Rattle.machine.specs.MadeViews.{IsMade}
use Rattle.machine.specs.Bases.{World}
use Rattle.machine.specs.Leaves.{leaf_at}
use Rattle.machine.specs.Views.{View, base, both, over, base_under, shape_at, shape_after, flags_at, shown, lift}
use Rattle.view_steps.specs.KnownViews.{is_known, is_known_view}
use Rattle.view_steps.proofs.EditLemmas.{lift_law, over_turned}
use Rattle.view_steps.proofs.FamilyTable.{shows_each}
use Rattle.view_steps.proofs.KnownLemmas.{known_over}
use Rattle.view_steps.proofs.ListLemmas.{filter-all, map-insert}
use Rattle.view_steps.proofs.RowLemmas.{shown_law}
use Rattle.view_steps.proofs.ShapeTable.{Comes, comes}
use Rattle.view_steps.proofs.TurnLemmas.{slice_get-reverse}

-- ---- the steps between lists

-- below a list is a list, and the step shows each of its items
pub list_below : (of : Shape) (it : Step) → is_known it ≡ true → IsSome (apply of it) → is_list (shape_after of (apply of it)) ≡ true → (is_list of ≡ true) × (shows_each (family_of it) ≡ true)
list_below of it known some h = (given_shape (Comes of it) of (apply of it) some (comes of it known)).list h

-- ---- every row is shown

shows_over : (family : Family) (it : Step) (f : RowForm) → shows_each family ≡ true → ((row : Item) → shows f row ≡ true) → (row : Item) → shows (form_over family it f) row ≡ true
shows_over Same it f each all row = all row
shows_over Changed it f each all row = all row
shows_over Turned it f each all row = all row
shows_over _ it f each all row = absurd (cc)

pub shows_all : (world : World) (v : View) → is_known_view v ≡ true → IsMade world v → is_list (shape_at world v) ≡ true → (row : Item) → shows (form_of v) row ≡ true
shows_all world (base l) known made h row = refl
shows_all world (over it v) known made h row =
    let parts = known_over it v known in
    let below = list_below (shape_at world v) it parts.0 made.0.given h in
    shows_over (family_of it) it (form_of v) below.1 (shows_all world v parts.1 made.1 below.0) row
shows_all world (both word v u) known made h row = absurd (cc)

all_items : (f : RowForm) → ((row : Item) → shows f row ≡ true) → (rows : List Item) → map f.item (filter (shows f) rows) ≡ map f.item rows
all_items f all rows = ap (map f.item) (ap (λ (q : Item → Bool). filter q rows) (λ i row. all row i) ∙ filter-all rows)

-- ---- indexes from the front or from the back

abbrev item_from : Bool → ℕ → ℕ → ℕ
item_from turned size i = cond turned (size - 1 - i) i

abbrev pub gap_from : Bool → ℕ → ℕ → ℕ
gap_from turned size i = cond turned (size - i) i

item_turned : (t : Bool) (size i : ℕ) → i < size → item_from t size (size - 1 - i) ≡ item_from (not t) size i
item_turned true size i lt = omega arith
item_turned false size i lt = refl

gap_turned : (t : Bool) (size i : ℕ) → i ≤ size → gap_from t size (size - i) ≡ gap_from (not t) size i
gap_turned true size i le = omega arith
gap_turned false size i le = refl

-- over a step, from the other end where it turns the walk round
item_over : (back turning : Bool) (index : ℕ → ℕ) (size i : ℕ) → i < size → ((j : ℕ) → j < size → index j ≡ item_from back size j) → index (cond turning (size - 1 - i) i) ≡ item_from (cond turning (not back) back) size i
item_over back true index size i lt is = is (size - 1 - i) (omega arith) ∙ item_turned back size i lt
item_over back false index size i lt is = is i lt

gap_over : (back turning : Bool) (index : ℕ → ℕ) (size i : ℕ) → i ≤ size → ((j : ℕ) → j ≤ size → index j ≡ gap_from back size j) → index (cond turning (size - i) i) ≡ gap_from (cond turning (not back) back) size i
gap_over back true index size i le is = is (size - i) (omega arith) ∙ gap_turned back size i le
gap_over back false index size i le is = is i le

pub item_at : (v : View) (size i : ℕ) → i < size → item_index v size i ≡ item_from (form_of v).turned size i
item_at (base l) size i lt = refl
item_at (over it v) size i lt = item_over (form_of v).turned (turns it) (item_index v size) size i lt (item_at v size) ∙ ap (λ back. item_from back size i) (sym (over_turned it (form_of v)))
item_at (both word v u) size i lt = refl

pub gap_at : (v : View) (size i : ℕ) → i ≤ size → gap_index v size i ≡ gap_from (form_of v).turned size i
gap_at (base l) size i le = refl
gap_at (over it v) size i le = gap_over (form_of v).turned (turns it) (gap_index v size) size i le (gap_at v size) ∙ ap (λ back. gap_from back size i) (sym (over_turned it (form_of v)))
gap_at (both word v u) size i le = refl

-- ---- items

item_in : (t : Bool) (f : Item → Item) (rows : List Item) (i : ℕ) → i < length rows → slice_get (turned_if t (map f rows)) i ≡ option_map f (slice_get rows (item_from t (length rows) i))
item_in true f rows i lt =
    slice_get-reverse (map f rows) i (omega (arith, length-map rows f))
    ∙ ap (λ n. slice_get (map f rows) (n - 1 - i)) (length-map rows f) ∙ slice_get-map f rows (length rows - 1 - i)
item_in false f rows i lt = slice_get-map f rows i

pub item_index_law : (world : World) (v : View) (i : ℕ) → is_known_view v ≡ true → IsMade world v → is_list (shape_at world v) ≡ true → i < length (leaf_at world (base_under v)).rows
    → slice_get (shown world v) i ≡ option_map (form_of v).item (slice_get (leaf_at world (base_under v)).rows (item_index v (length (leaf_at world (base_under v)).rows) i))
item_index_law world v i known made h lt =
    let f : RowForm = form_of v in
    let rows : List Item = (leaf_at world (base_under v)).rows in
    ap (λ is. slice_get is i) (shown_law world v known ∙ ap (turned_if f.turned) (all_items f (shows_all world v known made h) rows))
    ∙ item_in f.turned f.item rows i lt
    ∙ ap (λ n. option_map f.item (slice_get rows n)) (sym (item_at v (length rows) i lt))

-- ---- gaps

-- a list with an element in a gap, turned round
reverse-insert : {X : Type 0} (xs : List X) (i : ℕ) (x : X) → i ≤ length xs → reverse (insert xs (length xs - i) x) ≡ insert (reverse xs) i x
reverse-insert xs i x le =
    let front = take (length xs - i) xs in
    let back = drop (length xs - i) xs in
    let size : length (reverse back) ≡ i = length-reverse back ∙ length-drop (length xs - i) xs ∙ (omega arith) in
    let parts : reverse xs ≡ reverse back ++ reverse front = ap reverse (sym (take-append-drop (length xs - i) xs)) ∙ reverse-append front back in
    reverse-append front (x ∷ back) ∙ ap (λ ys. ys ++ reverse front) (reverse-append (x ∷ []) back) ∙ append_assoc (reverse back) (x ∷ []) (reverse front)
    ∙ (λ j. sym (ap (take i) parts ∙ take_at (reverse back) (reverse front) i size) j ++ x ∷ sym (ap (drop i) parts ∙ drop_at (reverse back) (reverse front) i size) j)

gap_in : (t : Bool) (items : List Item) (i : ℕ) (item : Item) → i ≤ length items → turned_if t (insert items (gap_from t (length items) i) item) ≡ insert (turned_if t items) i item
gap_in true items i item le = reverse-insert items i item le
gap_in false items i item le = refl

pub gap_index_law : (world : World) (v : View) (item row : Item) (rows : List Item) (i : ℕ) → is_known_view v ≡ true → IsMade world v → is_list (shape_at world v) ≡ true → (flags_at world v).add ≡ true → lift v item ≡ Some row → i ≤ length rows
    → shown_by (form_of v) (insert rows (gap_index v (length rows) i) row) ≡ insert (shown_by (form_of v) rows) i item
gap_index_law world v item row rows i known made h ok is le =
    let f : RowForm = form_of v in
    let all = shows_all world v known made h in
    let k : ℕ = gap_from f.turned (length rows) i in
    let s : IsShownAs f row item = lift_law world v known item row ok is in
    ap (λ n. shown_by f (insert rows n row)) (gap_at v (length rows) i le)
    ∙ ap (turned_if f.turned) (all_items f all (insert rows k row) ∙ map-insert f.item rows k row ∙ ap (insert (map f.item rows) k) s.same)
    ∙ ap (λ n. turned_if f.turned (insert (map f.item rows) (gap_from f.turned n i) item)) (sym (length-map rows f.item))
    ∙ gap_in f.turned (map f.item rows) i item (omega (arith, length-map rows f.item, le))
    ∙ ap (λ is. insert (turned_if f.turned is) i item) (sym (all_items f all rows))
