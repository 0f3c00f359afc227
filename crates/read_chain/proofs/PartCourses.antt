-- A look-up by a part that no two items share: one row of the base at most, and what the view has of it.
use Rattle.std.proofs.Common.{◌≡◌, ℕ, zero, suc, ◌≤◌, Bool, true, false, cond, List, [], ◌∷◌, length, map, refl, ap, sym, ◌∙◌, subst, arith}
use Rattle.std.specs.Prelude.{filter, slice_get, Some, None}
use Rattle.std.specs.List.{AllByRecursion, IsDistinct}
use Rattle.std.proofs.lemmas.Option.{same_Some, slice_get_within}
use Rattle.std.proofs.lemmas.Simd.{map-map}
use Rattle.elem.specs.declared.elements.Elem.{Elem}
use Rattle.elem.specs.ElementLaws.{same-Decides}
use Rattle.elem.specs.Elements.{same}
use Rattle.base_rows.specs.BaseSpots.{HasKeys}
use Rattle.base_store.specs.declared.store.courses.Course.{Course}
use Rattle.base_store.specs.Courses.{IsCourse, spots_at, spots_in}
use Rattle.machine.specs.Bases.{Base, World, base_at}
use Rattle.machine.specs.MadeViews.{IsMade}
use Rattle.machine.specs.Leaves.{leaf_at}
use Rattle.machine.specs.Views.{View, base_under, candidates, shape_at}
use Rattle.read_chain.specs.LookUps.{IsFoundAt, has_part}
use Rattle.vocabulary.specs.declared.items.Item.{Item}
use Rattle.vocabulary.specs.declared.items.Side.{Side}
use Rattle.vocabulary.specs.declared.items.Side.TheVariants.{First, Second}
use Rattle.vocabulary.specs.Items.{part_of}
use Rattle.vocabulary.specs.Kinds.{shape_of_kind}
use Rattle.vocabulary.specs.Known.{is_known_kind}
use Rattle.vocabulary.specs.Shapes.{is_unique}
use Rattle.view_laws.specs.declared.lanes.Lane.{Lane}
use Rattle.view_laws.specs.declared.lanes.Pick.TheVariants.{Each}
use Rattle.view_laws.specs.declared.places.Found.{Found}
use Rattle.view_laws.specs.declared.places.Place.{Place}
use Rattle.view_laws.specs.declared.places.RowSpot.{RowSpot}
use Rattle.view_laws.specs.ItemForms.{IsFormed}
use Rattle.view_laws.specs.Lanes.{line, takes, turned_if}
use Rattle.view_laws.specs.Places.{found_in, passes_at}
use Rattle.view_laws.specs.RowForm.{is_by_row}
use Rattle.view_laws.specs.RowPlaces.{IsOfRow, number_of, spots_taken}
use Rattle.view_laws.specs.Serving.{of_part}
use Rattle.view_laws.specs.Spots.{TellAll}
use Rattle.view_laws.specs.ViewPlaces.{place_of, places, show}
use Rattle.view_laws.proofs.JoinLines.{found-in-lane}
use Rattle.view_laws.proofs.ListLemmas.{and-true}
use Rattle.view_laws.proofs.RowPlaceLemmas.{length-turned, row_at_place}
use Rattle.view_laws.proofs.ViewStands.{as_many}
use Rattle.view_steps.specs.KnownLanes.{PartDown, part_below}
use Rattle.view_steps.specs.KnownViews.{is_known_view, number_under}
use Rattle.read_chain.proofs.CourseLemmas.{course_line, spots_along}
use Rattle.view_steps.proofs.MemberLemmas.{StandsIn, in_kept}
use Rattle.view_steps.proofs.ComingDown.{part_comes_down}
use Rattle.view_steps.proofs.KnownLemmas.{known_base}
use Rattle.view_steps.proofs.ListLemmas.{never}
use Rattle.read_chain.proofs.UnderLemmas.{IsThere, is_there, kind_under, spots_under}

-- ---- one row with an element in a part

none_taken : (side : Side) (x : Elem) (test : Item → Bool) (spots : List RowSpot) (rows : List Item) → AllByRecursion (λ y. same x y ≡ false) (map (part_of side) rows) → ((row : Item) → test row ≡ true → has_part side x row ≡ true) → spots_taken test spots rows ≡ []
none_taken side x test [] rows others imply = refl
none_taken side x test (s ∷ spots) [] others imply = refl
none_taken side x test (s ∷ spots) (row ∷ rows) others imply = by (test row) refl ∙ none_taken side x test spots rows others.1 imply
  where
    by : (t : Bool) → test row ≡ t → cond t (s ∷ spots_taken test spots rows) (spots_taken test spots rows) ≡ spots_taken test spots rows
    by true e = absurd (never (has_part side x row) others.0 (imply row e))
    by false e = refl

-- rows no two of which share a part
one_taken : (side : Side) (x : Elem) (test : Item → Bool) (spots : List RowSpot) (rows : List Item) → IsDistinct same (map (part_of side) rows) → ((row : Item) → test row ≡ true → has_part side x row ≡ true) → length (spots_taken test spots rows) ≤ 1
unfolding IsDistinct
one_taken side x test [] rows apart imply = omega arith
one_taken side x test (s ∷ spots) [] apart imply = omega arith
one_taken side x test (s ∷ spots) (row ∷ rows) apart imply = by (test row) refl (one_taken side x test spots rows apart.1 imply)
  where
    by : (t : Bool) → test row ≡ t → length (spots_taken test spots rows) ≤ 1 → length (cond t (s ∷ spots_taken test spots rows) (spots_taken test spots rows)) ≤ 1
    by true e rest =
        let is : x ≡ part_of side row = (same-Decides x (part_of side row)).0 (imply row e) in
        let none = none_taken side x test spots rows (subst (λ (z : Elem). AllByRecursion (λ y. same z y ≡ false) (map (part_of side) rows)) (sym is) apart.0) imply in
        omega (arith, ap length none)
    by false e rest = rest

-- ---- what a look-up finds

-- what is known of a look-up along its course
pub record IsLookUp (world : World) (v : View) (side : Side) (x : Elem) (course : Course) : Type 0 where
  pub known : is_known_view v ≡ true
  pub by_row : is_by_row world v ≡ true
  pub formed : IsFormed world v
  pub tell : TellAll world (spots_in world)
  pub course_of : IsCourse world v (of_part side x) false course
  pub few : length (spots_along world course) ≤ 1

pub a_look_up : (world : World) (v : View) (side : Side) (x : Elem) (course : Course) (b : ℕ) → is_known_view v ≡ true → b ≡ number_under v → is_known_kind (base_at world b).kind ≡ true → HasKeys (base_at world b) → IsMade world v → is_unique (shape_at world v) side ≡ true
    → is_by_row world v ≡ true → IsFormed world v → TellAll world (spots_in world) → IsCourse world v (of_part side x) false course → IsLookUp world v side x course
a_look_up world v side x course b known at kind keys made unique by_row formed tell is =
    let it : Base = base_at world (number_under v) in
    let kind_of : is_known_kind (leaf_at world (base_under v)).kind ≡ true = kind_under world v b known at kind in
    let down : PartDown world v side x false = part_comes_down world v side x false known kind_of made unique in
    let lanes : down.down.below ≡ course.lane = ap (λ (pair : Lane × Bool). pair.0) (same_Some (down.down.below, down.down.from_back) (course.lane, course.back) (sym down.down.down ∙ is.down)) in
    let alone : (row : Item) → takes course.lane row ≡ true → has_part (part_below v side) x row ≡ true = subst (λ (lane : Lane). (row : Item) → takes lane row ≡ true → has_part (part_below v side) x row ≡ true) lanes down.alone in
    let apart : IsDistinct same (map (part_of (part_below v side)) it.rows) =
    subst (λ (n : ℕ). HasKeys (base_at world n)) at keys (part_below v side) (ap (λ (of : Base). is_unique (shape_of_kind of.kind) (part_below v side)) (sym (known_base world v known)) ∙ down.unique) in
    let few : length (spots_taken (takes course.lane) (spots_at world (number_under v)) it.rows) ≤ 1 = one_taken (part_below v side) x (takes course.lane) (spots_at world (number_under v)) it.rows apart alone in
    record {
      known = known;
      by_row = by_row;
      formed = formed;
      tell = tell;
      course_of = is;
      few = subst (λ (b : ℕ). length (turned_if course.back (spots_taken (takes course.lane) (spots_at world b) (base_at world b).rows)) ≤ 1) (sym is.base)
          (omega (arith, few, length-turned course.back (spots_taken (takes course.lane) (spots_at world (number_under v)) it.rows)));
    }

-- the lane takes each item that has it
takes_part : (side : Side) (x : Elem) (item : Item) → takes (of_part side x) item ≡ has_part side x item
takes_part First x item = and-true (has_part First x item)
takes_part Second x item = refl

each_of_part : (side : Side) (x : Elem) → (of_part side x).pick ≡ Each
each_of_part First x = refl
each_of_part Second x = refl

-- what has it, as the course has that
pub of_part_along : (world : World) (v : View) (side : Side) (x : Elem) (course : Course) → IsLookUp world v side x course
    → map (λ (s : RowSpot). show world (spots_in world) v (place_of s)) (spots_along world course) ≡ map Some (filter (λ (d : Found). has_part side x d.item) (map found_in (candidates world v)))
of_part_along world v side x course it =
    sym (map-map (show world (spots_in world) v) place_of (spots_along world course))
    ∙ ap (map (show world (spots_in world) v)) (sym (course_line world v (of_part side x) false course it.known it.formed it.tell it.course_of))
    ∙ found-in-lane world (spots_in world) v (of_part side x) it.tell (each_of_part side x)
    ∙ ap (λ (q : Found → Bool). map Some (filter q (map found_in (candidates world v)))) (λ i d. takes_part side x d.item i)

no_first : {X : Type 0} (xs : List X) → slice_get xs 0 ≡ None → xs ≡ []
no_first [] e = refl
no_first (x ∷ xs) e = absurd (cc)

the_first : {X : Type 0} (xs : List X) (x : X) → length xs ≤ 1 → slice_get xs 0 ≡ Some x → xs ≡ x ∷ []
the_first [] x few e = absurd (cc)
the_first (y ∷ []) x few e = ap (λ z. z ∷ []) (same_Some y x e)
the_first (y ∷ z ∷ xs) x few e = absurd (omega (arith, few))

marks_none : {X : Type 0} (xs : List X) → [] ≡ map Some xs → xs ≡ []
marks_none [] e = refl
marks_none (x ∷ xs) e = absurd (cc)

marks_one : {X : Type 0} (xs : List X) (x : X) → Some x ∷ [] ≡ map Some xs → xs ≡ x ∷ []
marks_one [] x e = absurd (cc)
marks_one (y ∷ []) x e = let f : y ≡ x = cc in ap (λ z. z ∷ []) f
marks_one (y ∷ z ∷ xs) x e = absurd (cc)

pub none_found : (world : World) (v : View) (side : Side) (x : Elem) (course : Course) → IsLookUp world v side x course → slice_get (spots_along world course) 0 ≡ None → filter (λ (d : Found). has_part side x d.item) (map found_in (candidates world v)) ≡ []
none_found world v side x course it none = marks_none _ (ap (map (λ (s : RowSpot). show world (spots_in world) v (place_of s))) (sym (no_first (spots_along world course) none)) ∙ of_part_along world v side x course it)

pub one_found : (world : World) (v : View) (side : Side) (x : Elem) (course : Course) (s : RowSpot) (d : Found) → IsLookUp world v side x course → slice_get (spots_along world course) 0 ≡ Some s → show world (spots_in world) v (place_of s) ≡ Some d
    → filter (λ (d : Found). has_part side x d.item) (map found_in (candidates world v)) ≡ d ∷ []
one_found world v side x course s d it first shows =
    marks_one _ d (ap (λ o. o ∷ []) (sym shows) ∙ ap (map (λ (t : RowSpot). show world (spots_in world) v (place_of t))) (sym (the_first (spots_along world course) s it.few first)) ∙ of_part_along world v side x course it)

only_one : {X : Type 0} (y x : X) → StandsIn (y ∷ []) x → y ≡ x
only_one y x (zero, at) = same_Some y x at
only_one y x (suc i, at) = absurd (cc)

each_line : (world : World) (v : View) (side : Side) (x : Elem)
    → filter (λ (q : Place). passes_at (takes (of_part side x)) (show world (spots_in world) v q)) (places world (spots_in world) v) ≡ line world (spots_in world) v (of_part side x) false
each_line world v First x = refl
each_line world v Second x = refl

-- each candidate that has it stands there
pub found_at_spot : (world : World) (v : View) (side : Side) (x : Elem) (course : Course) (s : RowSpot) → IsLookUp world v side x course → slice_get (spots_along world course) 0 ≡ Some s → IsFoundAt world v side x s
found_at_spot world v side x course s it first i c there has =
    let ps : List Place = places world (spots_in world) v in
    let place : IsThere ps i = is_there ps i (omega (arith, slice_get_within (candidates world v) i c there, as_many world (spots_in world) v it.tell)) in
    let p : Place = place.element in
    let row : IsOfRow world (spots_in world) v p c = row_at_place world (spots_in world) v p i c it.by_row it.tell place.there there in
    let passes : passes_at (takes (of_part side x)) (show world (spots_in world) v p) ≡ true = ap (passes_at (takes (of_part side x))) row.shown ∙ takes_part side x c.item ∙ has in
    let in_line : StandsIn (line world (spots_in world) v (of_part side x) false) p =
    subst (λ (qs : List Place). StandsIn qs p) (each_line world v side x) (in_kept (λ (q : Place). passes_at (takes (of_part side x)) (show world (spots_in world) v q)) ps p i place.there passes) in
    let here : place_of s ≡ p =
    only_one (place_of s) p (subst (λ (qs : List Place). StandsIn qs p) (course_line world v (of_part side x) false course it.known it.formed it.tell it.course_of ∙ ap (map place_of) (the_first (spots_along world course) s it.few first)) in_line) in
    record {
      number = number_of c;
      only = row.one;
      at = ap (λ (spots : List RowSpot). slice_get spots (number_of c)) (sym (spots_under world v it.known)) ∙ row.spot ∙ ap (λ (q : Place). Some q.spot) (sym here);
    }
