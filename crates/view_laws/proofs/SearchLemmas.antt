-- What is found in a lane that asks for one element.
use Rattle.std.proofs.Common.{◌≡◌, ℕ, zero, suc, ◌+◌, ◌≤◌, Bool, true, false, cond, ◌&&◌, ◌||◌, List, [], ◌∷◌, length, map, reverse, refl, ap, sym, ◌∙◌, arith}
use Rattle.std.specs.Prelude.{filter, slice_get, Option, Some, None, option_map}
use Rattle.std.specs.Option.{IfSome}
use Rattle.std.specs.List.{list_any, AllByRecursion, IsDistinct}
use Rattle.std.proofs.lemmas.List.{length-map, reverse-append}
use Rattle.std.proofs.lemmas.Option.{same_Some}
use Rattle.elem.specs.declared.elements.Elem.{Elem}
use Rattle.elem.specs.ElementLaws.{same-Decides}
use Rattle.vocabulary.specs.declared.items.Item.{Item}
use Rattle.vocabulary.specs.declared.items.Item.TheVariants.{One}
use Rattle.vocabulary.specs.declared.shapes.Shape.{Shape}
use Rattle.vocabulary.specs.declared.shapes.Shape.TheVariants as shape
use Rattle.vocabulary.specs.declared.step_table.Family.{Family}
use Rattle.vocabulary.specs.declared.step_table.Family.TheVariants.{Pieces}
use Rattle.vocabulary.specs.declared.steps.Step.{Step}
use Rattle.vocabulary.specs.Items.{key_of, same_item, second_of}
use Rattle.vocabulary.specs.Shapes.{is_elements}
use Rattle.vocabulary.specs.Steps.{family_of}
use Rattle.machine.specs.Bases.{World}
use Rattle.machine.specs.Candidates.{Candidate, is_seen, item_in, of_rows}
use Rattle.machine.specs.KeyOrders.{KeyOrder}
use Rattle.machine.specs.Leaves.{Leaf, leaf_at}
use Rattle.machine.specs.Shown.{is_shown}
use Rattle.machine.specs.Views.{View, base, both, over, base_under, candidates, order_over, root, shape_at, shown}
use Rattle.view_laws.specs.declared.lanes.Lane.{Lane}
use Rattle.view_laws.specs.declared.lanes.PartAsk.{PartAsk}
use Rattle.view_laws.specs.declared.lanes.PartAsk.TheVariants.{Is}
use Rattle.view_laws.specs.declared.lanes.Pick.TheVariants.{Each}
use Rattle.view_laws.specs.declared.places.Found.{Found}
use Rattle.view_laws.specs.declared.places.Place.{Place}
use Rattle.view_laws.specs.ItemForms.{IsFormed, RowsFit, has_form}
use Rattle.view_laws.specs.Lanes.{line, meets, picked, takes, turned_if}
use Rattle.view_laws.specs.LanesDown.{lane_down}
use Rattle.view_laws.specs.LookUps.{is_one, of_element, shows_in}
use Rattle.view_laws.specs.Places.{found_in, found_over, found_row, is_seen_at, passes_at, shown_over}
use Rattle.view_laws.specs.RowForm.{goes_by_row, is_by_row}
use Rattle.view_laws.specs.Searches.{AreAlike, first_seen, same_key}
use Rattle.view_laws.specs.Spots.{Spots, TellAll, row_at}
use Rattle.view_laws.specs.ViewPlaces.{places, show}
use Rattle.view_laws.proofs.AskLemmas.{and-swap}
use Rattle.view_laws.proofs.DownLemmas.{line_down}
use Rattle.view_laws.proofs.FormLemmas.{items_fit, row_fits}
use Rattle.view_laws.proofs.JoinLines.{found-in-lane}
use Rattle.view_laws.proofs.ListLemmas.{all-as, all-at, all-passing, all-reverse, any-append, any-filter, any-map, any-same, both_true, filter-map}
use Rattle.view_laws.proofs.OptionLemmas.{if_as}
use Rattle.view_laws.proofs.RowPlaceLemmas.{length-turned}
use Rattle.view_laws.proofs.TestLemmas as test

-- ---- the first decides

later_alike : (at : Place → Option Found) (o : Option Found) (ps : List Place) → ((i : ℕ) (p : Place) → slice_get ps i ≡ Some p → at p ≡ o) → AllByRecursion (λ p. at p ≡ o) ps
later_alike at o [] h = tt
later_alike at o (p ∷ ps) h = (h 0 p refl, later_alike at o ps (λ i. h (suc i)))

any_of_alike : (at : Place → Option Found) (o : Option Found) (ps : List Place) → AllByRecursion (λ p. at p ≡ o) ps → (is_seen_at o || list_any (λ p. is_seen_at (at p)) ps) ≡ is_seen_at o
any_of_alike at o [] a = by (is_seen_at o)
  where
    by : (b : Bool) → b || false ≡ b
    by true = refl
    by false = refl
any_of_alike at o (p ∷ ps) a = ap (λ b. is_seen_at o || (is_seen_at b || list_any (λ p. is_seen_at (at p)) ps)) a.0 ∙ by (is_seen_at o) (any_of_alike at o ps a.1)
  where
    by : (b : Bool) → (b || list_any (λ p. is_seen_at (at p)) ps) ≡ b → (b || (b || list_any (λ p. is_seen_at (at p)) ps)) ≡ b
    by true h = refl
    by false h = h

any_first : (at : Place → Option Found) (ps : List Place) → AreAlike at ps → list_any (λ p. is_seen_at (at p)) ps ≡ first_seen at ps
any_first at [] alike = refl
any_first at (p ∷ ps) alike = any_of_alike at (at p) ps (later_alike at (at p) ps (λ i q is. alike (suc i) 0 q p is refl))

any-reverse : {X : Type 0} (p : X → Bool) (xs : List X) → list_any p (reverse xs) ≡ list_any p xs
any-reverse p [] = refl
any-reverse p (x ∷ xs) = rw (reverse-append (x ∷ []) xs, any-append p (reverse xs) (x ∷ []), any-reverse p xs) (by (p x) (list_any p xs))
  where
    by : (s t : Bool) → (t || (s || false)) ≡ (s || t)
    by true true = refl
    by true false = refl
    by false true = refl
    by false false = refl

any-turned : {X : Type 0} (p : X → Bool) (t : Bool) (xs : List X) → list_any p (turned_if t xs) ≡ list_any p xs
any-turned p true xs = any-reverse p xs
any-turned p false xs = refl

pub first_decides : (world : World) (spots : Spots) (v : View) (lane : Lane) (back : Bool) → TellAll world spots → lane.pick ≡ Each → AreAlike (show world spots v) (line world spots v lane back)
    → shows_in lane (candidates world v) ≡ first_seen (show world spots v) (line world spots v lane back)
first_decides world spots v lane back tell e alike =
    sym (any-filter (λ (d : Found). d.seen) (λ (d : Found). takes lane d.item) (map found_in (candidates world v)) ∙ any-map (λ (d : Found). d.seen && takes lane d.item) found_in (candidates world v))
    ∙ sym (any-map is_seen_at Some (filter (λ (d : Found). takes lane d.item) (map found_in (candidates world v))))
    ∙ ap (list_any is_seen_at) (sym (found-in-lane world spots v lane tell e))
    ∙ any-map is_seen_at (show world spots v) (line world spots v lane false)
    ∙ sym (any-turned (λ p. is_seen_at (show world spots v p)) back (line world spots v lane false))
    ∙ any_first (show world spots v) (line world spots v lane back) alike

-- ---- elements

element_form : (of : Shape) (item : Item) → is_elements of ≡ true → has_form of item ≡ true → is_one item ≡ true
element_form shape.List item e h = h
element_form (shape.Set sorted) item e h = h
element_form shape.Coll item e h = h
element_form (shape.Bag sorted) item e h = h
element_form of item e h = absurd (cc)

pub element_shown : (world : World) (v : View) (x : Elem) → IsFormed world v → is_elements (shape_at world v) ≡ true → is_shown (shown world v) (One x) ≡ shows_in (of_element x) (candidates world v)
element_shown world v x f e =
    any-map (same_item (One x)) item_in (filter is_seen (candidates world v))
    ∙ any-filter (λ (c : Candidate). same_item (One x) c.item) is_seen (candidates world v)
    ∙ any-same (λ (c : Candidate). same_item (One x) c.item && c.seen) (λ (c : Candidate). c.seen && same_item (One x) c.item) (candidates world v) (λ c. and-swap (same_item (One x) c.item) c.seen)
    ∙ test.element_shown x (candidates world v)
    (all-as (λ (c : Candidate). has_form (shape_at world v) c.item ≡ true) (λ (c : Candidate). is_one c.item ≡ true) (λ (c : Candidate) h. element_form (shape_at world v) c.item e h) (candidates world v) (items_fit world v f))

-- ---- alike

-- what a view that goes row by row has at places is alike where its base has the same there
same_over : (of : Family) (step : Step) (order : KeyOrder) (cs : List Candidate) (at : Place → Option Found) (p q : Place) → goes_by_row of order ≡ true → at p ≡ at q → shown_over of step cs at p ≡ shown_over of step cs at q
same_over Pieces step order cs at p q ok e = absurd (cc)
same_over of step order cs at p q ok e = ap (option_map (found_over of step cs)) e

same_above : (world : World) (spots : Spots) (v : View) (p q : Place) → is_by_row world v ≡ true → show world spots (base (base_under v)) p ≡ show world spots (base (base_under v)) q → show world spots v p ≡ show world spots v q
same_above world spots (base l) p q ok e = e
same_above world spots (over step v) p q ok e =
    let parts = both_true (goes_by_row (family_of step) (order_over world v step)) (is_by_row world v) ok in
    same_over (family_of step) step (order_over world v step) (candidates world v) (show world spots v) p q parts.0 (same_above world spots v p q parts.1 e)
same_above world spots (both word v u) p q ok e = absurd (cc)

base_rows : (world : World) (v : View) → RowsFit world v → RowsFit world (base (base_under v))
base_rows world (base l) r = r
base_rows world (over step v) r = base_rows world v r
base_rows world (both word v u) r = base_rows world v r.0

asked_key : (ask : PartAsk) (y : Elem) → ask ≡ Is y → (x : Elem) → meets ask x ≡ true → y ≡ x
asked_key ask y is x m = (same-Decides y x).0 (sym (ap (λ a. meets a x) is) ∙ m)

element_at : (y : Elem) (lane : Lane) → lane.first ≡ Is y → (o : Option Item) → IfSome (option_map found_row o) (λ (d : Found). is_one d.item ≡ true) → passes_at (takes lane) (option_map found_row o) ≡ true
    → option_map found_row o ≡ Some (found_row (One y))
element_at y lane is None one taken = absurd (cc)
element_at y lane is (Some (One x)) one taken = ap (λ z. Some (found_row (One z))) (sym (asked_key lane.first y is x (both_true (meets lane.first x) (meets lane.second x) taken).0))
element_at y lane is (Some other) one taken = absurd (cc)

all-turned : {X : Type 0} (P : X → Type 0) (t : Bool) (xs : List X) → AllByRecursion P xs → AllByRecursion P (turned_if t xs)
all-turned P true xs a = all-reverse P xs a
all-turned P false xs a = a

pub alike_in_lane : (world : World) (spots : Spots) (v : View) (lane below : Lane) (back b : Bool) (y : Elem) → IsFormed world v → is_by_row world v ≡ true → is_elements (shape_at world (base (base_under v))) ≡ true
    → lane_down world v lane back ≡ Some (below, b) → below.first ≡ Is y → AreAlike (show world spots v) (line world spots v lane back)
alike_in_lane world spots v lane below back b y f ok e down is i j p q first second =
    same_above world spots v p q ok (all-at _ (line world spots v lane back) i p there first ∙ sym (all-at _ (line world spots v lane back) j q there second))
  where
    at : Place → Option Found
    at = show world spots (base (base_under v))

    one_at : (s : Place) → IfSome (at s) (λ (d : Found). is_one d.item ≡ true)
    one_at s =
        if_as (λ (d : Found). has_form (shape_at world (base (base_under v))) d.item ≡ true) (λ (d : Found). is_one d.item ≡ true) (at s)
        (row_fits (shape_at world (base (base_under v))) (spots (base_under v)) (leaf_at world (base_under v)).rows s.spot (base_rows world v f.rows)) (λ d h. element_form (shape_at world (base (base_under v))) d.item e h)

    there : AllByRecursion (λ s. at s ≡ Some (found_row (One y))) (line world spots v lane back)
    there =
        rw (line_down world spots v lane below back b f down)
        (all-as (λ s. passes_at (takes below) (at s) ≡ true) (λ s. at s ≡ Some (found_row (One y)))
        (λ s taken. element_at y below is (row_at (spots (base_under v)) (leaf_at world (base_under v)).rows s.spot) (one_at s) taken)
        (line world spots (base (base_under v)) below b)
        (all-turned _ b _ (all-passing (λ s. passes_at (takes below) (at s)) (picked below.pick (root world (base (base_under v))).keys at (places world spots (base (base_under v)))))))

-- ---- one place

none_pass : (p : Item → Bool) (rows : List Item) → AllByRecursion (λ row. p row ≡ false) rows → length (filter p rows) ≤ 0
none_pass p [] a = omega arith
none_pass p (row ∷ rows) a = rw (a.0) (none_pass p rows a.1)

-- no two rows of one key pass, where no two have the same
one_passes : (y : Elem) (p : Item → Bool) → ((row : Item) → p row ≡ true → y ≡ key_of row) → (rows : List Item) → IsDistinct same_key rows → length (filter p rows) ≤ 1
unfolding IsDistinct
one_passes y p key [] apart = omega arith
one_passes y p key (row ∷ rows) apart = by (p row) refl (one_passes y p key rows apart.1)
  where
    others : p row ≡ true → (r : Item) → same_key row r ≡ false → p r ≡ false
    others h r e = of (p r) refl
      where
        of : (t : Bool) → p r ≡ t → t ≡ false
        of true g = (let s = (same-Decides (key_of row) (key_of r)).1 (sym (key row h) ∙ key r g) in cc)
        of false g = refl

    by : (t : Bool) → p row ≡ t → length (filter p rows) ≤ 1 → length (cond t (row ∷ filter p rows) (filter p rows)) ≤ 1
    by true h rest = let none = none_pass p rows (all-as (λ r. same_key row r ≡ false) (λ r. p r ≡ false) (others h) rows apart.0) in omega (arith, none)
    by false h rest = rest

rows_found : (n : ℕ) (rows : List Item) → map found_in (of_rows n rows) ≡ map found_row rows
rows_found n [] = refl
rows_found n (row ∷ rows) = ap (λ ds. found_row row ∷ ds) (rows_found (n + 1) rows)

base_length : (world : World) (spots : Spots) (l : Leaf) (lane : Lane) (back : Bool) → TellAll world spots → lane.pick ≡ Each → length (line world spots (base l) lane back) ≡ length (filter (takes lane) (leaf_at world l).rows)
base_length world spots l lane back tell e =
    length-turned back (line world spots (base l) lane false)
    ∙ sym (length-map (line world spots (base l) lane false) (show world spots (base l)))
    ∙ ap length (found-in-lane world spots (base l) lane tell e)
    ∙ length-map (filter (λ (d : Found). takes lane d.item) (map found_in (of_rows 0 (leaf_at world l).rows))) Some
    ∙ ap (λ ds. length (filter (λ (d : Found). takes lane d.item) ds)) (rows_found 0 (leaf_at world l).rows)
    ∙ ap length (filter-map (λ (d : Found). takes lane d.item) found_row (leaf_at world l).rows)
    ∙ length-map (filter (takes lane) (leaf_at world l).rows) found_row

pub one_in_lane : (world : World) (spots : Spots) (v : View) (lane below : Lane) (back b : Bool) (y : Elem) → IsFormed world v → TellAll world spots → IsDistinct same_key (leaf_at world (base_under v)).rows
    → lane_down world v lane back ≡ Some (below, b) → below.first ≡ Is y → below.pick ≡ Each → length (line world spots v lane back) ≤ 1
one_in_lane world spots v lane below back b y f tell apart down is each =
    rw (line_down world spots v lane below back b f down, base_length world spots (base_under v) below b tell each)
    (one_passes y (takes below) (λ row taken. asked_key below.first y is (key_of row) (both_true (meets below.first (key_of row)) (meets below.second (second_of row)) taken).0) (leaf_at world (base_under v)).rows apart)

pub one_alike : (at : Place → Option Found) (ps : List Place) → length ps ≤ 1 → AreAlike at ps
one_alike at [] few i j p q first second = absurd (cc)
one_alike at (s ∷ []) few zero zero p q first second = ap at (sym (same_Some s p first) ∙ same_Some s q second)
one_alike at (s ∷ []) few (suc i) j p q first second = absurd (cc)
one_alike at (s ∷ []) few zero (suc j) p q first second = absurd (cc)
one_alike at (s ∷ t ∷ ps) few i j p q first second = absurd (omega (arith, few))
