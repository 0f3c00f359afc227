-- The places of a known view, where the rows of its base keep their spots, and where one of them goes.
use Rattle.std.proofs.Common.{◌≡◌, ℕ, ◌<◌, Bool, true, List, map, refl, ap, sym, ◌∙◌, subst}
use Rattle.std.specs.Prelude.{Option, None, Some, option_map, slice_get}
use Rattle.std.specs.List.{remove}
use Rattle.std.proofs.lemmas.Option.{same_Some, slice_get-map}
use Rattle.base_rows.specs.BaseSpots.{spots_of}
use Rattle.base_store.specs.Courses.{spots_at, spots_in}
use Rattle.cursor_seat.specs.Dropped.{after_drop, spot_after}
use Rattle.cursor_seat.specs.Later.{SameSpots}
use Rattle.machine.specs.Bases.{Base, World, base_at}
use Rattle.machine.specs.Leaves.{leaf_at}
use Rattle.machine.specs.MadeViews.{IsMade}
use Rattle.machine.specs.Views.{View, base_under}
use Rattle.view_laws.specs.declared.places.Place.{Place}
use Rattle.view_laws.specs.declared.places.RowSpot.{RowSpot}
use Rattle.view_laws.specs.Lanes.{turned_if}
use Rattle.view_laws.specs.RowForm.{form_of}
use Rattle.view_laws.specs.RowPlaces.{spots_taken}
use Rattle.view_laws.specs.Spots.{TellAll, TellRows}
use Rattle.view_laws.specs.ViewPlaces.{place_of, places}
use Rattle.view_steps.specs.KnownViews.{is_known_view, number_under}
use Rattle.vocabulary.specs.declared.items.Item.{Item}
use Rattle.vocabulary.specs.declared.kinds.Kind.{Kind}
use Rattle.vocabulary.specs.Kinds.{shape_of_kind}
use Rattle.vocabulary.specs.Known.{is_known_kind}
use Rattle.vocabulary.specs.Shapes.{is_keyed}
use Rattle.view_laws.proofs.FormPlaces.{places_of_rows}
use Rattle.view_laws.proofs.RowLemmas.{turned-map}
use Rattle.view_steps.proofs.KnownLemmas.{known_base, known_by_row}
use Rattle.read_chain.proofs.UnderLemmas.{kind_under, spots_under}
use Rattle.cursor_seat.proofs.BaseSpots.{same_spots, same_taken, spots_without}
use Rattle.cursor_seat.proofs.GoneSpots.{StandsFirst, stands_first, taken-map, taken_without}
use Rattle.cursor_seat.proofs.KeyedForms.{taken_alike}

-- the spots of the rows of the base that the view takes
abbrev taken : World → View → List RowSpot
taken world v = spots_taken (form_of v).takes (spots_at world (number_under v)) (base_at world (number_under v)).rows

places_taken : (world : World) (v : View) → is_known_view v ≡ true → TellAll world (spots_in world) → places world (spots_in world) v ≡ turned_if (form_of v).turned (map place_of (taken world v))
places_taken world v known tell =
    places_of_rows world (spots_in world) v (known_by_row world v known) tell
    ∙ (λ i. turned_if (form_of v).turned (map place_of (spots_taken (form_of v).takes (spots_under world v known i) (known_base world v known i).rows)))

-- ---- while the spots of the base stay

same_base_taken : (before after : World) (v : View) → is_known_view v ≡ true → is_known_kind (base_at before (number_under v)).kind ≡ true → IsMade before v → (base_at after (number_under v)).kind ≡ (base_at before (number_under v)).kind
    → SameSpots (base_at before (number_under v)) (base_at after (number_under v)) → taken after v ≡ taken before v
same_base_taken before after v known kind made same_kind same =
    let was : Base = base_at before (number_under v) in
    let now : Base = base_at after (number_under v) in
    let takes : Item → Bool = (form_of v).takes in
    let keyed : Bool = is_keyed (shape_of_kind was.kind) in
    let spots : spots_of now.kind now.rows ≡ spots_of was.kind was.rows = ap (λ (k : Kind). spots_of k now.rows) same_kind ∙ same_spots was.kind was.rows now.rows same.many same.keys in
    let leaf_kind = kind_under before v (number_under v) known refl kind in
    ap (λ (ss : List RowSpot). spots_taken takes ss now.rows) spots
    ∙ same_taken takes keyed (λ a b h. taken_alike before v a b known leaf_kind made (λ k. h (subst (λ (it : Base). is_keyed (shape_of_kind it.kind) ≡ true) (known_base before v known) k)))
    (spots_of was.kind was.rows) was.rows now.rows same.many same.keys

pub same_places : (before after : World) (v : View) → is_known_view v ≡ true → is_known_kind (base_at before (number_under v)).kind ≡ true → IsMade before v → TellAll before (spots_in before) → TellAll after (spots_in after)
    → (base_at after (number_under v)).kind ≡ (base_at before (number_under v)).kind → SameSpots (base_at before (number_under v)) (base_at after (number_under v)) → places after (spots_in after) v ≡ places before (spots_in before) v
same_places before after v known kind made tell tells same_kind same =
    places_taken after v known tells ∙ ap (λ ts. turned_if (form_of v).turned (map place_of ts)) (same_base_taken before after v known kind made same_kind same) ∙ sym (places_taken before v known tell)

-- ---- where a row of the base goes

-- a world in which row n of the base under a view is gone
pub record LostRow (before after : World) (v : View) (n : ℕ) : Type 0 where
  pub kind : (base_at after (number_under v)).kind ≡ (base_at before (number_under v)).kind
  pub rows : (base_at after (number_under v)).rows ≡ remove (base_at before (number_under v)).rows n

spot_here : (p : Place) (o : Option RowSpot) → option_map place_of o ≡ Some p → o ≡ Some p.spot
spot_here p None e = absurd (cc)
spot_here p (Some s) e = ap (λ (q : Place). Some q.spot) (same_Some (place_of s) p e)

dropped_place : (s : RowSpot) (o : Option RowSpot) → option_map place_of (option_map (spot_after s) o) ≡ option_map (after_drop s) (option_map place_of o)
dropped_place s None = refl
dropped_place s (Some t) = refl

walk_taken : (world : World) (v : View) → is_known_view v ≡ true → TellAll world (spots_in world) → places world (spots_in world) v ≡ map place_of (turned_if (form_of v).turned (taken world v))
walk_taken world v known tell = places_taken world v known tell ∙ sym (turned-map place_of (form_of v).turned (taken world v))

taken_left : (before after : World) (v : View) (n m : ℕ) (s : RowSpot) → is_known_view v ≡ true → TellAll before (spots_in before) → LostRow before after v n → slice_get (spots_at before (number_under v)) n ≡ Some s → slice_get (taken before v) m ≡ Some s
    → taken after v ≡ map (spot_after s) (remove (taken before v) m)
taken_left before after v n m s known tell lost at there =
    let was : Base = base_at before (number_under v) in
    let takes : Item → Bool = (form_of v).takes in
    let tells : TellRows (spots_at before (number_under v)) was.rows = subst (λ (it : Base). TellRows (spots_at before (number_under v)) it.rows) (known_base before v known) (subst (λ (ss : List RowSpot). TellRows ss (leaf_at before (base_under v)).rows) (spots_under before v known) (tell (base_under v))) in
    (λ i. spots_taken takes (spots_of (lost.kind i) (lost.rows i)) (lost.rows i))
    ∙ ap (λ (ss : List RowSpot). spots_taken takes ss (remove was.rows n)) (spots_without was.kind was.rows n s at)
    ∙ taken-map (spot_after s) takes (remove (spots_at before (number_under v)) n) (remove was.rows n)
    ∙ ap (map (spot_after s)) (taken_without takes s n m (spots_at before (number_under v)) was.rows tells.as_many tells.apart at there)

-- the places before that of the row stand where they stood, moved as that row went
pub front_moves : (before after : World) (v : View) (i n : ℕ) (p : Place) → is_known_view v ≡ true → TellAll before (spots_in before) → TellAll after (spots_in after) → LostRow before after v n
    → slice_get (places before (spots_in before) v) i ≡ Some p → slice_get (spots_at before (number_under v)) n ≡ Some p.spot → (j : ℕ) → j < i
    → slice_get (places after (spots_in after) v) j ≡ option_map (after_drop p.spot) (slice_get (places before (spots_in before) v) j)
front_moves before after v i n p known tell tells lost stands at j lt =
    let t : Bool = (form_of v).turned in
    let was : List RowSpot = taken before v in
    let walk : places before (spots_in before) v ≡ map place_of (turned_if t was) = walk_taken before v known tell in
    let here : slice_get (turned_if t was) i ≡ Some p.spot = spot_here p (slice_get (turned_if t was) i) (sym (slice_get-map place_of (turned_if t was) i) ∙ ap (λ (ps : List Place). slice_get ps i) (sym walk) ∙ stands) in
    let first : StandsFirst t was i p.spot = stands_first t was i p.spot here in
    ap (λ (ps : List Place). slice_get ps j) (walk_taken after v known tells ∙ ap (λ ts. map place_of (turned_if t ts)) (taken_left before after v n first.index p.spot known tell lost at first.at))
    ∙ slice_get-map place_of (turned_if t (map (spot_after p.spot) (remove was first.index))) j
    ∙ ap (λ (ss : List RowSpot). option_map place_of (slice_get ss j)) (sym (turned-map (spot_after p.spot) t (remove was first.index)))
    ∙ ap (option_map place_of) (slice_get-map (spot_after p.spot) (turned_if t (remove was first.index)) j ∙ ap (option_map (spot_after p.spot)) (first.before j lt))
    ∙ dropped_place p.spot (slice_get (turned_if t was) j)
    ∙ ap (option_map (after_drop p.spot)) (sym (slice_get-map place_of (turned_if t was) j) ∙ ap (λ (ps : List Place). slice_get ps j) (sym walk))
