-- Which row of a list an element is, and what a view that makes no other items shows of it.
use Rattle.std.proofs.Common.{◌≡◌, ℕ, ◌+◌, ◌<◌, Bool, true, false, cond, ◌&&◌, not, List, [], ◌∷◌, length, map, refl, ap, sym, ◌∙◌, subst, arith}
use Rattle.std.specs.Prelude.{filter, is_some, slice_get, Option, Some}
use Rattle.std.specs.List.{list_any, position}
use Rattle.std.proofs.lemmas.Bool.Decides.{nat_tests}
use Rattle.std.proofs.lemmas.Map.Views.{any-filter_same}
use Rattle.elem.specs.declared.elements.Elem.{Elem}
use Rattle.elem.specs.ElementLaws.{same-Decides}
use Rattle.vocabulary.specs.declared.items.Item.{Item}
use Rattle.vocabulary.specs.declared.items.Item.TheVariants.{One}
use Rattle.vocabulary.specs.Items.{key_of, same_item}
use Rattle.vocabulary.specs.Kinds.{shape_of_kind}
use Rattle.vocabulary.specs.Shapes.{is_list}
use Rattle.machine.specs.Bases.{Base, World, base_at}
use Rattle.machine.specs.CallEdits.{first_hit}
use Rattle.machine.specs.Leaves.{leaf_at}
use Rattle.machine.specs.Shown.{is_shown}
use Rattle.machine.specs.Views.{View, base_under, candidates, root, shown}
use Rattle.read_chain.specs.ListLookUps.{is_found_at_once, is_indexed_at_once, is_placed_at_once, keeps_items}
use Rattle.read_chain.specs.Reads.{shows_all, StandsAt}
use Rattle.view_laws.specs.Lanes.{turned_if}
use Rattle.view_laws.specs.RowForm.{RowForm, form_of}
use Rattle.view_steps.specs.KnownViews.{is_known_view, number_under}
use Rattle.view_steps.specs.Turning.{turned}
use Rattle.view_laws.specs.declared.places.RowSpot.{RowSpot}
use Rattle.view_laws.specs.declared.places.RowSpot.TheVariants.{Index}
use Rattle.view_laws.specs.ViewPlaces.{place_of}
use Rattle.view_laws.proofs.ListLemmas as lists
use Rattle.view_laws.proofs.ListLemmas.{filter-all}
use Rattle.view_laws.proofs.RowLemmas.{row_law, shown_law}
use Rattle.read_chain.proofs.ListViewLemmas.{list_spots, number_at}
use Rattle.view_steps.proofs.EditLemmas.{form_turned}
use Rattle.view_steps.proofs.KnownLemmas.{known_base, known_by_row}
use Rattle.read_chain.proofs.WalkLemmas.{every_row}
use Rattle.read_chain.proofs.FirstRows.{any_first, first_numbered, numbers}
use Rattle.read_chain.proofs.KeptItems.{all_same, any_turned, candidates_kept, form_kept, not_so, shown_kept}

-- what is the same as an element is that element
same_row : (x : Elem) (row : Item) → same_item (One x) row ≡ true → One x ≡ row
same_row x (One y) h = ap One ((same-Decides x y).0 h)
same_row x _ h = absurd (cc)

-- an element is shown where it is a row that is seen
shown_once : (world : World) (v : View) (x : Elem) → is_known_view v ≡ true → keeps_items v ≡ true
    → is_shown (shown world v) (One x) ≡ ((form_of v).sees (One x) && list_any (same_item (One x)) (leaf_at world (base_under v)).rows)
shown_once world v x known kept =
    let f : RowForm = form_of v in
    let rows : List Item = (leaf_at world (base_under v)).rows in
    let p : Item → Bool = same_item (One x) in
    ap (list_any p) (shown_law world v (known_by_row world v known) ∙ shown_kept f rows (form_kept v kept))
    ∙ any_turned p f.turned (filter f.sees rows)
    ∙ any-filter_same p f.sees (f.sees (One x)) (λ row h. ap f.sees (sym (same_row x row h))) rows

-- an item that is found at once
pub record IsElementOfList (world : World) (v : View) (item : Item) : Type 0 where
  pub is : item ≡ One (key_of item)
  pub list : is_list (shape_of_kind (base_at world (number_under v)).kind) ≡ true
  pub kept : keeps_items v ≡ true

pub at_once : (world : World) (v : View) (item : Item) → is_found_at_once world v item ≡ true → IsElementOfList world v item
at_once world v (One x) h = let parts = lists.both_true (is_list (shape_of_kind (root world v).kind)) (keeps_items v) h in record { is = refl; list = parts.0; kept = parts.1 }
at_once world v _ h = absurd (cc)

-- whether it is shown, by the row that was found, if any
pub shown_found : (world : World) (v : View) (item : Item) (o : Option ℕ) → is_known_view v ≡ true → is_found_at_once world v item ≡ true → o ≡ position (same_item item) (leaf_at world (base_under v)).rows
    → is_shown (shown world v) item ≡ ((form_of v).sees item && is_some o)
shown_found world v item o known h found =
    let e = at_once world v item h in
    let rows : List Item = (leaf_at world (base_under v)).rows in
    subst (λ (it : Item). is_shown (shown world v) it ≡ ((form_of v).sees it && list_any (same_item it) rows)) (sym e.is) (shown_once world v (key_of item) known e.kept)
    ∙ ap (λ b. (form_of v).sees item && b) (sym (any_first (same_item item) rows) ∙ ap is_some (sym found))

-- a view that is walked from the front
pub front : (v : View) → not (turned v) ≡ true → (form_of v).turned ≡ false
front v h = form_turned v ∙ not_so (turned v) h

-- where moreover nothing is left out, and the walk is not turned round, all rows are shown
pub all_rows : (world : World) (v : View) (item : Item) → is_known_view v ≡ true → is_indexed_at_once world v item ≡ true → shown world v ≡ (leaf_at world (base_under v)).rows
all_rows world v item known h =
    let f : RowForm = form_of v in
    let rows : List Item = (leaf_at world (base_under v)).rows in
    let parts = lists.both_true (is_placed_at_once world v item) (shows_all v) h in
    let placed = lists.both_true (is_found_at_once world v item) (not (turned v)) parts.0 in
    let e = at_once world v item placed.0 in
    shown_law world v (known_by_row world v known)
    ∙ (λ i. turned_if (front v placed.1 i) (map (λ row. (form_kept v e.kept).item row i) (filter (λ row. every_row v parts.1 row i) rows)))
    ∙ all_same (filter (λ _. true) rows)
    ∙ filter-all rows

-- ---- the place of the first

-- the first candidate that shows an element stands for the row that was found, if that is seen
pub placed_hit : (world : World) (v : View) (item : Item) (o : Option ℕ) (b : Bool) → is_known_view v ≡ true → is_placed_at_once world v item ≡ true → o ≡ position (same_item item) (leaf_at world (base_under v)).rows → (form_of v).sees item ≡ b
    → first_hit (same_item item) (candidates world v) ≡ cond b (numbers 0 o) []
placed_hit world v item o b known h found seen =
    let f : RowForm = form_of v in
    let rows : List Item = (leaf_at world (base_under v)).rows in
    let parts = lists.both_true (is_found_at_once world v item) (not (turned v)) h in
    let e = at_once world v item parts.0 in
    ap (first_hit (same_item item)) (row_law world v (known_by_row world v known) ∙ candidates_kept f rows (front v parts.1) (form_kept v e.kept))
    ∙ first_numbered (same_item item) f.sees b 0 rows (λ row g. ap f.sees (sym (e.is ∙ same_row (key_of item) row (subst (λ (it : Item). same_item it row ≡ true) e.is g))) ∙ seen)
    ∙ ap (λ (q : Option ℕ). cond b (numbers 0 q) []) (sym found)

-- an index that was found is that of a row
within : (p : Item → Bool) (rows : List Item) (i : ℕ) → Some i ≡ position p rows → i < length rows
within p rows i h = grind (arith, nat_tests)

-- where a row of a list stands
pub stands_at : (world : World) (v : View) (item : Item) (i : ℕ) (ns : List ℕ) → is_known_view v ≡ true → is_placed_at_once world v item ≡ true → Some i ≡ position (same_item item) (leaf_at world (base_under v)).rows → ns ≡ (0 + i) ∷ []
    → StandsAt world v (place_of (Index i)) ns
stands_at world v item i ns known h found is =
    let parts = lists.both_true (is_found_at_once world v item) (not (turned v)) h in
    let e = at_once world v item parts.0 in
    let it : Base = base_at world (number_under v) in
    let here : 0 + i ≡ i = omega arith in
    let lt : i < length it.rows = within (same_item item) it.rows i (found ∙ ap (λ (at : Base). position (same_item item) at.rows) (known_base world v known)) in
    record {
      leaf = refl;
      row = record { number = i; only = is ∙ ap (λ (k : ℕ). k ∷ []) here; at = ap (λ (spots : List RowSpot). slice_get spots i) (list_spots it e.list) ∙ number_at 0 it.rows i lt ∙ ap (λ (k : ℕ). Some (Index k)) here };
    }
