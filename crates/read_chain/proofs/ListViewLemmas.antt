-- The item of a list view at an index, and where its row stands.
use Rattle.std.proofs.Common.{◌≡◌, ℕ, zero, suc, ◌+◌, ◌-◌, ◌<◌, Bool, true, false, cond, List, [], ◌∷◌, length, map, refl, ap, sym, ◌∙◌, subst, arith}
use Rattle.std.specs.Prelude.{slice_get, Option, Some, None, option_map}
use Rattle.std.proofs.lemmas.List.{length-map}
use Rattle.std.proofs.lemmas.Option.{slice_get-map, slice_get_within}
use Rattle.base_rows.specs.BaseSpots.{key_spot, numbered, spots_of}
use Rattle.base_store.specs.Courses.{spots_in}
use Rattle.machine.specs.Bases.{Base, World}
use Rattle.machine.specs.CallEdits.{hit_at, rows_of_first}
use Rattle.machine.specs.Candidates.{Candidate, item_in}
use Rattle.machine.specs.Leaves.{leaf_at}
use Rattle.machine.specs.MadeViews.{IsMade}
use Rattle.machine.specs.Views.{View, base, both, over, base_under, candidates, shape_at, shown}
use Rattle.read_chain.specs.Reads.{StandsAt}
use Rattle.read_chain.specs.Walks.{item_there}
use Rattle.vocabulary.specs.declared.items.Item.{Item}
use Rattle.vocabulary.specs.declared.shapes.Shape.{Shape}
use Rattle.vocabulary.specs.declared.shapes.Shape.TheVariants as shape
use Rattle.vocabulary.specs.Kinds.{shape_of_kind}
use Rattle.vocabulary.specs.Shapes.{is_keyed, is_list}
use Rattle.view_laws.specs.declared.places.Place.{Place}
use Rattle.view_laws.specs.declared.places.RowSpot.{RowSpot}
use Rattle.view_laws.specs.declared.places.RowSpot.TheVariants.{Index}
use Rattle.view_laws.specs.Lanes.{turned_if}
use Rattle.view_laws.specs.Places.{found_in}
use Rattle.view_laws.specs.RowForm.{form_of, is_by_row}
use Rattle.view_laws.specs.RowPlaces.{spots_taken}
use Rattle.view_laws.specs.Spots.{TellAll}
use Rattle.view_laws.specs.ViewPlaces.{place_of, places, show}
use Rattle.view_laws.proofs.FormPlaces.{places_of_rows}
use Rattle.view_laws.proofs.ListLemmas.{both_true}
use Rattle.view_laws.proofs.ViewStands.{view_labels}
use Rattle.view_steps.specs.Indexes.{item_index}
use Rattle.view_steps.specs.KnownViews.{is_known_view}
use Rattle.read_chain.proofs.Along.{found_there}
use Rattle.view_steps.proofs.IndexLemmas.{item_at, list_below, shows_all}
use Rattle.view_steps.proofs.KnownLemmas.{known_base, known_over}
use Rattle.view_steps.proofs.ListViews.{list_seen}
use Rattle.view_steps.proofs.TurnLemmas.{slice_get-reverse}
use Rattle.read_chain.proofs.UnderLemmas.{IsThere, candidate_of, row_stands, spots_under}

-- ---- the spots of a list

no_keys : (of : Shape) → is_list of ≡ true → is_keyed of ≡ false
no_keys shape.List h = refl
no_keys _ h = absurd (cc)

pub list_spots : (it : Base) → is_list (shape_of_kind it.kind) ≡ true → spots_of it.kind it.rows ≡ numbered 0 it.rows
list_spots it h = ap (λ t. cond t (map key_spot it.rows) (numbered 0 it.rows)) (no_keys (shape_of_kind it.kind) h)

pub number_at : (n : ℕ) (rows : List Item) (i : ℕ) → i < length rows → slice_get (numbered n rows) i ≡ Some (Index (n + i))
number_at n [] i lt = absurd (omega arith)
number_at n (row ∷ rows) zero lt = ap (λ (k : ℕ). Some (Index k)) (let e : n ≡ n + 0 = omega arith in e)
number_at n (row ∷ rows) (suc i) lt = number_at (n + 1) rows i (omega arith) ∙ ap (λ (k : ℕ). Some (Index k)) (let e : n + 1 + i ≡ n + suc i = omega arith in e)

length-numbered : (n : ℕ) (rows : List Item) → length (numbered n rows) ≡ length rows
length-numbered n [] = refl
length-numbered n (row ∷ rows) = let e = length-numbered (n + 1) rows in omega (arith, e)

-- a list view stands on a list
pub list_base : (world : World) (v : View) → is_known_view v ≡ true → IsMade world v → is_list (shape_at world v) ≡ true → is_list (shape_of_kind (leaf_at world (base_under v)).kind) ≡ true
list_base world (base l) known made h = h
list_base world (over it v) known made h =
    let parts = known_over it v known in
    list_base world v parts.1 made.1 (list_below (shape_at world v) it parts.0 made.0.given h).0
list_base world (both word v u) known made h = absurd (cc)

-- ---- the places of a list view

all_taken : (test : Item → Bool) (spots : List RowSpot) (rows : List Item) → length spots ≡ length rows → ((row : Item) → test row ≡ true) → spots_taken test spots rows ≡ spots
all_taken test [] rows count all = refl
all_taken test (s ∷ spots) [] count all = absurd (cc)
all_taken test (s ∷ spots) (row ∷ rows) count all =
    ap (λ b. cond b (s ∷ spots_taken test spots rows) (spots_taken test spots rows)) (all row) ∙ ap (λ ss. s ∷ ss) (all_taken test spots rows (omega (arith, count)) all)

abbrev index_place : ℕ → Place
index_place k = place_of (Index k)

in_order : (rows : List Item) (i : ℕ) → i < length rows → slice_get (map place_of (numbered 0 rows)) i ≡ Some (index_place i)
in_order rows i lt =
    slice_get-map place_of (numbered 0 rows) i ∙ ap (option_map place_of) (number_at 0 rows i lt) ∙ ap (λ (k : ℕ). Some (index_place k)) (let e : 0 + i ≡ i = omega arith in e)

in_turn : (t : Bool) (rows : List Item) (i : ℕ) → i < length rows → slice_get (turned_if t (map place_of (numbered 0 rows))) i ≡ Some (index_place (cond t (length rows - 1 - i) i))
in_turn true rows i lt =
    let size : length (map place_of (numbered 0 rows)) ≡ length rows = length-map (numbered 0 rows) place_of ∙ length-numbered 0 rows in
    slice_get-reverse (map place_of (numbered 0 rows)) i (omega (arith, size))
    ∙ ap (λ n. slice_get (map place_of (numbered 0 rows)) (n - 1 - i)) size
    ∙ in_order rows (length rows - 1 - i) (omega arith)
in_turn false rows i lt = in_order rows i lt

-- item i stands at the index of its row
pub index_stands : (world : World) (v : View) (i : ℕ) → is_known_view v ≡ true → is_by_row world v ≡ true → TellAll world (spots_in world) → IsMade world v → is_list (shape_at world v) ≡ true → i < length (leaf_at world (base_under v)).rows
    → slice_get (places world (spots_in world) v) i ≡ Some (place_of (Index (item_index v (length (leaf_at world (base_under v)).rows) i)))
index_stands world v i known by_row tell made h lt =
    let it : Base = leaf_at world (base_under v) in
    let turns : Bool = (form_of v).turned in
    let spots : List RowSpot = spots_in world (base_under v) in
    let takes : (row : Item) → (form_of v).takes row ≡ true = λ row. (both_true ((form_of v).takes row) ((form_of v).sees row) (shows_all world v known made h row)).0 in
    let are : spots ≡ numbered 0 it.rows =
    spots_under world v known ∙ ap (λ (at : Base). spots_of at.kind at.rows) (sym (known_base world v known)) ∙ list_spots it (list_base world v known made h) in
    ap (λ (ps : List Place). slice_get ps i)
    (places_of_rows world (spots_in world) v by_row tell
    ∙ ap (λ (ss : List RowSpot). turned_if turns (map place_of ss)) (all_taken (form_of v).takes spots it.rows (tell (base_under v)).as_many takes ∙ are))
    ∙ in_turn turns it.rows i lt
    ∙ ap (λ (k : ℕ). Some (index_place k)) (sym (item_at v (length it.rows) i lt))

-- ---- items

pub item_stands : (world : World) (v : View) (i : ℕ) → is_known_view v ≡ true → is_by_row world v ≡ true → TellAll world (spots_in world) → IsMade world v → is_list (shape_at world v) ≡ true → i < length (leaf_at world (base_under v)).rows
    → StandsAt world v (place_of (Index (item_index v (length (leaf_at world (base_under v)).rows) i))) (hit_at i (candidates world v))
item_stands world v i known by_row tell made h lt =
    let cs : List Candidate = candidates world v in
    let p : Place = place_of (Index (item_index v (length (leaf_at world (base_under v)).rows) i)) in
    let stands : slice_get (places world (spots_in world) v) i ≡ Some p = index_stands world v i known by_row tell made h lt in
    let c : IsThere cs i = candidate_of world v i tell (slice_get_within (places world (spots_in world) v) i p stands) in
    let hit : hit_at i cs ≡ c.element.rows = ap rows_of_first (ap (λ (ds : List Candidate). slice_get ds i) (list_seen world v known made h) ∙ c.there) in
    subst (λ (ns : List ℕ). StandsAt world v p ns) (sym hit) (row_stands world v p i c.element known by_row tell stands c.there)

-- an item of a list is what the view has at its place
pub item_at_place : (world : World) (v : View) (i : ℕ) → is_known_view v ≡ true → is_by_row world v ≡ true → TellAll world (spots_in world) → IsMade world v → is_list (shape_at world v) ≡ true → i < length (leaf_at world (base_under v)).rows
    → slice_get (shown world v) i ≡ option_map item_there (show world (spots_in world) v (place_of (Index (item_index v (length (leaf_at world (base_under v)).rows) i))))
item_at_place world v i known by_row tell made h lt =
    let cs : List Candidate = candidates world v in
    let p : Place = place_of (Index (item_index v (length (leaf_at world (base_under v)).rows) i)) in
    let found : slice_get (map found_in cs) i ≡ show world (spots_in world) v p =
    found_there (show world (spots_in world) v) (places world (spots_in world) v) (map found_in cs) (view_labels world (spots_in world) v tell) i p (index_stands world v i known by_row tell made h lt) in
    ap (λ (ds : List Candidate). slice_get (map item_in ds) i) (list_seen world v known made h)
    ∙ slice_get-map item_in cs i ∙ items (slice_get cs i) ∙ ap (option_map item_there) (sym (slice_get-map found_in cs i) ∙ found)
  where
    items : (o : Option Candidate) → option_map item_in o ≡ option_map item_there (option_map found_in o)
    items None = refl
    items (Some c) = refl
