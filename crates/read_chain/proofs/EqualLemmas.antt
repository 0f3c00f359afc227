-- Two views that show the same. Where no two items have the same key, each item is shown once at most, and so each shows
-- all that the other shows.
use Rattle.std.proofs.Common.{◌≡◌, ℕ, zero, suc, ◌≤◌, Bool, true, false, cond, ◌&&◌, ◌||◌, nat_eq, List, [], ◌∷◌, length, map, refl, ap, sym, ◌∙◌, subst, arith}
use Rattle.std.specs.Prelude.{filter, Some}
use Rattle.std.specs.List.{AllByRecursion, list_all, list_any}
use Rattle.std.proofs.lemmas.List.{length-map}
use Rattle.elem.specs.declared.elements.Elem.{Elem}
use Rattle.base_rows.specs.BaseSpots.{HasKeys}
use Rattle.base_store.specs.declared.store.courses.Course.{Course}
use Rattle.base_store.specs.Courses.{spots_in}
use Rattle.machine.specs.Answers.{are_equal, as_often}
use Rattle.machine.specs.Bases.{World, base_at}
use Rattle.machine.specs.MadeViews.{IsMade}
use Rattle.machine.specs.Shown.{has_key, is_shown, times_shown}
use Rattle.machine.specs.Views.{View, candidates, shape_at, shown}
use Rattle.read_chain.specs.LookUps.{has_part}
use Rattle.read_chain.specs.Walks.{is_seen_there, item_there, seen_items}
use Rattle.vocabulary.specs.declared.items.Item.{Item}
use Rattle.vocabulary.specs.declared.items.Side.TheVariants.{First}
use Rattle.vocabulary.specs.declared.shapes.RowSort.TheVariants as rows
use Rattle.vocabulary.specs.declared.shapes.Shape.{Shape}
use Rattle.vocabulary.specs.declared.shapes.Shape.TheVariants as shape
use Rattle.vocabulary.specs.Fits.{compares}
use Rattle.vocabulary.specs.Items.{key_of, same_item}
use Rattle.vocabulary.specs.Known.{is_known_kind}
use Rattle.vocabulary.specs.Shapes.{is_keyed, is_list, is_map, is_set}
use Rattle.view_laws.specs.declared.places.Found.{Found}
use Rattle.view_laws.specs.declared.places.RowSpot.{RowSpot}
use Rattle.view_laws.specs.ItemForms.{IsFormed}
use Rattle.view_laws.specs.Places.{found_in}
use Rattle.view_laws.specs.RowForm.{is_by_row}
use Rattle.view_laws.specs.Serving.{Serves}
use Rattle.view_laws.specs.Spots.{TellAll}
use Rattle.view_laws.specs.ViewPlaces.{place_of, show}
use Rattle.view_steps.specs.KnownLanes.{PartDown}
use Rattle.view_steps.specs.KnownViews.{is_known_view, number_under}
use Rattle.read_chain.proofs.CourseLemmas.{spots_along}
use Rattle.read_chain.proofs.LookUpLemmas.{passing_seen}
use Rattle.read_chain.proofs.PartCourses.{IsLookUp, a_look_up, of_part_along}
use Rattle.read_chain.proofs.UnderLemmas.{kind_under}
use Rattle.read_chain.proofs.WalkLemmas.{shown_found}
use Rattle.view_steps.proofs.ComingDown.{part_comes_down}
use Rattle.view_steps.proofs.EditedRows.{item_itself}
use Rattle.view_steps.proofs.KeyLemmas.{same_keyed}
use Rattle.view_steps.proofs.KnownLemmas.{is_known_shape, known_base, known_shape}
use Rattle.view_steps.proofs.ListLemmas.{fewer}

-- ---- a view that goes by key

-- what is known of each view of a store
pub record IsLawful (world : World) (v : View) (b : ℕ) : Type 0 where
  pub known : is_known_view v ≡ true
  pub base : b ≡ number_under v
  pub kind : is_known_kind (base_at world b).kind ≡ true
  pub keys : HasKeys (base_at world b)
  pub made : IsMade world v
  pub formed : IsFormed world v
  pub by_row : is_by_row world v ≡ true
  pub tell : TellAll world (spots_in world)

-- one candidate at most has a key
few_found : (world : World) (v : View) (b : ℕ) (k : Elem) → IsLawful world v b → is_keyed (shape_at world v) ≡ true → length (filter (λ (d : Found). has_part First k d.item) (map found_in (candidates world v))) ≤ 1
few_found world v b k it keyed =
    let down : PartDown world v First k false = part_comes_down world v First k false it.known (kind_under world v b it.known it.base it.kind) it.made keyed in
    let course : Course = record { base = number_under v; lane = down.down.below; back = down.down.from_back } in
    let served = subst (λ base. Serves base.kind down.down.below) (known_base world v it.known) down.down.served in
    let found : IsLookUp world v First k course =
    a_look_up world v First k course b it.known it.base it.kind it.keys it.made keyed it.by_row it.formed it.tell (record { base = refl; down = down.down.down; served = served }) in
    omega (arith, found.few, ap length (of_part_along world v First k course found), length-map (spots_along world course) (λ (s : RowSpot). show world (spots_in world) v (place_of s)), length-map (filter (λ (d : Found). has_part First k d.item) (map found_in (candidates world v))) Some)

-- so one item at most that is shown
few_with_key : (world : World) (v : View) (b : ℕ) (k : Elem) → IsLawful world v b → is_keyed (shape_at world v) ≡ true → length (filter (has_key k) (shown world v)) ≤ 1
few_with_key world v b k it keyed =
    let ds : List Found = map found_in (candidates world v) in
    let of_key : List Found = filter (λ (d : Found). has_part First k d.item) ds in
    omega (arith, ap length (ap (filter (has_key k)) (shown_found (candidates world v)) ∙ passing_seen (has_key k) ds), length-map (filter is_seen_there of_key) item_there, fewer is_seen_there of_key, few_found world v b k it keyed)

-- no more pass a test than another that it implies
no_more : {X : Type 0} (p q : X → Bool) (xs : List X) → ((x : X) → p x ≡ true → q x ≡ true) → length (filter p xs) ≤ length (filter q xs)
no_more p q [] imply = omega arith
no_more p q (x ∷ xs) imply = by (p x) (q x) refl refl (no_more p q xs imply)
  where
    by : (s t : Bool) → p x ≡ s → q x ≡ t → length (filter p xs) ≤ length (filter q xs) → length (cond s (x ∷ filter p xs) (filter p xs)) ≤ length (cond t (x ∷ filter q xs) (filter q xs))
    by true true e f h = omega (arith, h)
    by true false e f h = let no : true ≡ false = sym (imply x e) ∙ f in absurd (cc)
    by false true e f h = omega (arith, h)
    by false false e f h = h

-- each item is shown once at most
abbrev ShownOnce : World → View → Type 0
ShownOnce world v = (item : Item) → times_shown (shown world v) item ≤ 1

shown_once : (world : World) (v : View) (b : ℕ) → IsLawful world v b → is_keyed (shape_at world v) ≡ true → ShownOnce world v
shown_once world v b it keyed = λ item. omega (arith, no_more (same_item item) (has_key (key_of item)) (shown world v) (same_keyed item), few_with_key world v b (key_of item) it keyed)

-- ---- lists of items that stand once

count_of : {X : Type 0} (p : X → Bool) (xs : List X) → length (filter p xs) ≤ 1 → length (filter p xs) ≡ cond (list_any p xs) 1 0
count_of p [] few = refl
count_of p (x ∷ xs) few = by (p x) refl (count_of p xs) few
  where
    by : (t : Bool) → p x ≡ t → (length (filter p xs) ≤ 1 → length (filter p xs) ≡ cond (list_any p xs) 1 0) → length (cond t (x ∷ filter p xs) (filter p xs)) ≤ 1 → length (cond t (x ∷ filter p xs) (filter p xs)) ≡ cond (t || list_any p xs) 1 0
    by true e rest h = omega (arith, h)
    by false e rest h = rest h

each : {X : Type 0} (P Q : X → Type 0) (xs : List X) → ((x : X) → P x → Q x) → AllByRecursion P xs → AllByRecursion Q xs
each P Q [] f h = tt
each P Q (x ∷ xs) f h = (f x h.0, each P Q xs f h.1)

or_true : (b : Bool) → (b || true) ≡ true
or_true true = refl
or_true false = refl

-- each item of a list is in it
shown_itself : (items : List Item) → AllByRecursion (λ item. is_shown items item ≡ true) items
shown_itself [] = tt
shown_itself (item ∷ items) =
    (ap (λ b. b || is_shown items item) (item_itself item), each (λ x. is_shown items x ≡ true) (λ x. is_shown (item ∷ items) x ≡ true) items (λ x h. ap (λ b. same_item x item || b) h ∙ or_true (same_item x item)) (shown_itself items))

all_as : {X : Type 0} (p q : X → Bool) (xs : List X) → AllByRecursion (λ x. p x ≡ q x) xs → list_all p xs ≡ list_all q xs
all_as p q [] same = refl
all_as p q (x ∷ xs) same = λ i. same.0 i && all_as p q xs same.1 i

one_is : (t : Bool) → nat_eq 1 (cond t 1 0) ≡ t
one_is true = refl
one_is false = refl

is_one : (t : Bool) → nat_eq (cond t 1 0) 1 ≡ t
is_one true = refl
is_one false = refl

-- so two lists hold the same as often where each holds all of the other
equal_once : (items others : List Item) → ((item : Item) → times_shown items item ≤ 1) → ((item : Item) → times_shown others item ≤ 1)
    → list_all (as_often items others) items && list_all (as_often items others) others ≡ list_all (is_shown others) items && list_all (is_shown items) others
equal_once items others mine theirs = λ i. all_as (as_often items others) (is_shown others) items (each (λ x. is_shown items x ≡ true) (λ x. as_often items others x ≡ is_shown others x) items first (shown_itself items)) i && all_as (as_often items others) (is_shown items) others (each (λ x. is_shown others x ≡ true) (λ x. as_often items others x ≡ is_shown items x) others second (shown_itself others)) i
  where
    counts : (x : Item) → as_often items others x ≡ nat_eq (cond (is_shown items x) 1 0) (cond (is_shown others x) 1 0)
    counts x = λ i. nat_eq (count_of (same_item x) items (mine x) i) (count_of (same_item x) others (theirs x) i)

    first : (x : Item) → is_shown items x ≡ true → as_often items others x ≡ is_shown others x
    first x e = counts x ∙ ap (λ t. nat_eq (cond t 1 0) (cond (is_shown others x) 1 0)) e ∙ one_is (is_shown others x)

    second : (x : Item) → is_shown others x ≡ true → as_often items others x ≡ is_shown items x
    second x e = counts x ∙ ap (λ t. nat_eq (cond (is_shown items x) 1 0) (cond t 1 0)) e ∙ is_one (is_shown items x)

-- ---- shapes

map_keyed : (other : Shape) → is_map other ≡ true → is_keyed other ≡ true
map_keyed (shape.Map sorted) h = refl
map_keyed shape.BiMap h = refl
map_keyed _ h = absurd (cc)

set_keyed : (other : Shape) → is_set other ≡ true → is_keyed other ≡ true
set_keyed (shape.Set sorted) h = refl
set_keyed _ h = absurd (cc)

-- known shapes that compare are two lists, or both go by key
compared_keys : (of other : Shape) → is_known_shape of ≡ true → compares of other ≡ true → is_list of ≡ false → (is_keyed of ≡ true) × (is_keyed other ≡ true)
compared_keys (shape.Set sorted) other known same none = (refl, set_keyed other same)
compared_keys (shape.Map sorted) other known same none = (refl, map_keyed other same)
compared_keys shape.BiMap other known same none = (refl, map_keyed other same)
compared_keys _ other known same none = absurd (cc)

-- where they are no lists, the order does not count
compared_items : (of : Shape) (items others : List Item) → is_known_shape of ≡ true → is_list of ≡ false → are_equal of items others ≡ list_all (as_often items others) items && list_all (as_often items others) others
compared_items shape.List items others known none = absurd (cc)
compared_items shape.RangeSet items others known none = absurd (cc)
compared_items _ items others known none = refl

pub no_list : (of : Shape) → (of ≡ shape.List → ⊥) → is_list of ≡ false
no_list shape.List other = absurd (other refl)
no_list _ other = refl

-- ---- two views

-- two views that compare and are no lists show the same where each shows all that the other shows
pub equal_views : (world : World) (v u : View) (b d : ℕ) → IsLawful world v b → IsLawful world u d → is_list (shape_at world v) ≡ false → compares (shape_at world v) (shape_at world u) ≡ true
    → are_equal (shape_at world v) (shown world v) (shown world u) ≡ list_all (is_shown (shown world u)) (shown world v) && list_all (is_shown (shown world v)) (shown world u)
equal_views world v u b d mine theirs none same =
    let known : is_known_shape (shape_at world v) ≡ true = known_shape world v mine.known (kind_under world v b mine.known mine.base mine.kind) in
    let keys = compared_keys (shape_at world v) (shape_at world u) known same none in
    compared_items (shape_at world v) (shown world v) (shown world u) known none ∙ equal_once (shown world v) (shown world u) (shown_once world v b mine keys.0) (shown_once world u d theirs keys.1)
