-- What a view has at a place, and each of its candidates, has the form of the view's shape.
use Rattle.std.proofs.Common.{◌≡◌, ℕ, suc, ◌+◌, ◌<◌, Bool, true, false, cond, not, List, [], ◌∷◌, length, refl, ap, arith}
use Rattle.std.specs.Prelude.{filter, nat_lt, Option, Some, None, option_map}
use Rattle.std.specs.Option.{IfSome, IsSome}
use Rattle.std.specs.List.{AllByRecursion, IsDistinct}
use Rattle.std.proofs.lemmas.Bool.Decides.{nat_tests}
use Rattle.elem.specs.declared.elements.Elem.{Elem}
use Rattle.vocabulary.specs.declared.items.Item.{Item}
use Rattle.vocabulary.specs.declared.items.Item.TheVariants.{One, Piece}
use Rattle.vocabulary.specs.declared.shapes.Shape.{Shape}
use Rattle.vocabulary.specs.declared.step_table.Family.{Family}
use Rattle.vocabulary.specs.declared.step_table.Family.TheVariants.{Same, Changed, Turned, Keyed, Hidden, Cut, Grouped, Run, Pieces}
use Rattle.vocabulary.specs.declared.step_table.JoinFamily.{JoinFamily}
use Rattle.vocabulary.specs.declared.step_table.JoinFamily.TheVariants as join
use Rattle.vocabulary.specs.declared.steps.JoinStep.{JoinStep}
use Rattle.vocabulary.specs.declared.steps.Step.{Step}
use Rattle.vocabulary.specs.Items.{part_of}
use Rattle.vocabulary.specs.Joins.{join_family, stays}
use Rattle.vocabulary.specs.Kinds.{shape_of_kind}
use Rattle.vocabulary.specs.StepShapes.{apply, apply_join}
use Rattle.vocabulary.specs.Steps.{family_of, length_of_pieces, side_of}
use Rattle.machine.specs.Bases.{World}
use Rattle.machine.specs.Candidates.{Candidate, is_seen, members, piece_count}
use Rattle.machine.specs.Joins.{shows, size_of}
use Rattle.machine.specs.Leaves.{leaf_at}
use Rattle.machine.specs.Views.{View, base, both, over, candidates, shape_after, shape_at, weight}
use Rattle.view_laws.specs.declared.places.Found.{Found}
use Rattle.view_laws.specs.declared.places.Place.{Place}
use Rattle.view_laws.specs.declared.places.RowSpot.{RowSpot}
use Rattle.view_laws.specs.declared.places.RowSpot.TheVariants.{Index, Key, Pair, Cell, Nth}
use Rattle.view_laws.specs.ItemForms.{IsFormed, has_form, is_pieces, stands_on_pieces}
use Rattle.view_laws.specs.JoinPlaces.{first_seen, first_size, occurrence_at, second_seen, shown_both, split}
use Rattle.view_laws.specs.Places.{found_if, found_in, found_over, found_row, piece_at, shown_over, unshifted}
use Rattle.view_laws.specs.Spots.{Spots, TellAll, row_at, same_spot}
use Rattle.view_laws.specs.ViewPlaces.{places, show}
use Rattle.view_laws.proofs.FormTable.{FormIn, JoinForm, Keeps, form_after, join_form}
use Rattle.view_laws.proofs.ListLemmas.{neither_true}
use Rattle.view_laws.proofs.OptionLemmas.{if_is}
use Rattle.view_laws.proofs.SpotLemmas.{Stands}
use Rattle.view_laws.proofs.ViewStands.{view_stands}
use Rattle.view_laws.proofs.ZipLemmas.{Zipped}

-- ---- what a view is made of is formed, too

pub formed_below : (world : World) (step : Step) (v : View) → IsFormed world (over step v) → IsFormed world v
formed_below world step v f = record { made = f.made.1; apart = (neither_true (is_pieces (shape_at world v)) (stands_on_pieces world v) f.apart).1; rows = f.rows }

formed_first : (world : World) (word : JoinStep) (v u : View) → IsFormed world (both word v u) → IsFormed world v
formed_first world word v u f = record { made = f.made.1; apart = (neither_true (stands_on_pieces world v) (stands_on_pieces world u) f.apart).0; rows = f.rows.0 }

formed_second : (world : World) (word : JoinStep) (v u : View) → IsFormed world (both word v u) → IsFormed world u
formed_second world word v u f = record { made = f.made.2; apart = (neither_true (stands_on_pieces world v) (stands_on_pieces world u) f.apart).1; rows = f.rows.1 }

-- the shape that a step gives is that of the view above it
pub given_shape : (P : Shape → Type 0) (below : Shape) (o : Option Shape) → IsSome o → IfSome o P → P (shape_after below o)
given_shape P below None h p = absurd (cc)
given_shape P below (Some given) h p = p

-- ---- what is found at a place

-- what is at any place has a form
abbrev FitsAt : Shape → (Place → Option Found) → Type 0
FitsAt of at = (p : Place) → IfSome (at p) (λ (d : Found). has_form of d.item ≡ true)

pub row_fits : (of : Shape) (spots : List RowSpot) (rows : List Item) (s : RowSpot) → AllByRecursion (λ row. has_form of row ≡ true) rows → IfSome (option_map found_row (row_at spots rows s)) (λ (d : Found). has_form of d.item ≡ true)
row_fits of [] rows s a = tt
row_fits of (t ∷ spots) [] s a = tt
row_fits of (t ∷ spots) (row ∷ rows) s a = by (same_spot t s) (row_fits of spots rows s a.1)
  where
    by : (b : Bool) → IfSome (option_map found_row (row_at spots rows s)) (λ (d : Found). has_form of d.item ≡ true) → IfSome (option_map found_row (cond b (Some row) (row_at spots rows s))) (λ (d : Found). has_form of d.item ≡ true)
    by true rest = a.0
    by false rest = rest

found_fits : (f : Found → Found) (of given : Shape) (o : Option Found) → ((d : Found) → has_form of d.item ≡ true → has_form given (f d).item ≡ true) → IfSome o (λ (d : Found). has_form of d.item ≡ true) → IfSome (option_map f o) (λ (d : Found). has_form given d.item ≡ true)
found_fits f of given None h a = tt
found_fits f of given (Some d) h a = h d a

piece_fits : (given : Shape) (count : ℕ) (s : RowSpot) → ((i : ℕ) → has_form given (Piece i) ≡ true) → IfSome (piece_at count s) (λ (d : Found). has_form given d.item ≡ true)
piece_fits given count (Index i) h = by (nat_lt i count)
  where
    by : (b : Bool) → IfSome (cond b (Some (record { item = Piece i; seen = true })) None) (λ (d : Found). has_form given d.item ≡ true)
    by true = h i
    by false = tt
piece_fits given count other h = tt

over_fits : (of : Family) (step : Step) (below given : Shape) (cs : List Candidate) (at : Place → Option Found) → FormIn of step below given → FitsAt below at → FitsAt given (shown_over of step cs at)
over_fits Same step below given cs at form fits p = found_fits (found_over Same step cs) below given (at p) (λ d h. form d.item h) (fits p)
over_fits Changed step below given cs at form fits p = found_fits (found_over Changed step cs) below given (at p) (λ d h. form d.item h) (fits p)
over_fits Turned step below given cs at form fits p = found_fits (found_over Turned step cs) below given (at p) (λ d h. form d.item h) (fits p)
over_fits Keyed step below given cs at form fits p = found_fits (found_over Keyed step cs) below given (at p) (λ d h. form d.item h) (fits p)
over_fits Hidden step below given cs at form fits p = found_fits (found_over Hidden step cs) below given (at p) (λ d h. form d.item h) (fits p)
over_fits Cut step below given cs at form fits p = found_fits (found_over Cut step cs) below given (at p) (λ d h. form d.item h) (fits p)
over_fits Grouped step below given cs at form fits p = found_fits (found_over Grouped step cs) below given (at p) (λ d h. form (part_of (side_of step) d.item) (length (members (side_of step) (part_of (side_of step) d.item) cs))) (fits p)
over_fits Run step below given cs at form fits p = found_fits (found_over Run step cs) below given (at p) (λ d h. form d.item h) (fits p)
over_fits Pieces step below given cs at form fits p = piece_fits given (piece_count (length_of_pieces step) (length (filter is_seen cs))) p.spot form

-- ---- of two views

split_fits : (of : Shape) (n : ℕ) (at bt : Place → Option Found) → FitsAt of at → FitsAt of bt → FitsAt of (split n at bt)
split_fits of n at bt f g p = by (nat_lt p.leaf n)
  where
    by : (b : Bool) → IfSome (cond b (at p) (bt (unshifted n p))) (λ (d : Found). has_form of d.item ≡ true)
    by true = f p
    by false = g (unshifted n p)

occurrence_fits : (of : Shape) (size seen : Elem → ℕ) → ((x : Elem) → has_form of (One x) ≡ true) → FitsAt of (λ p. occurrence_at size seen p.spot)
occurrence_fits of size seen h p = by p.spot
  where
    by : (s : RowSpot) → IfSome (occurrence_at size seen s) (λ (d : Found). has_form of d.item ≡ true)
    by (Nth x j) = at_number (nat_lt j (size x))
      where
        at_number : (b : Bool) → IfSome (cond b (Some (record { item = One x; seen = nat_lt j (seen x) })) None) (λ (d : Found). has_form of d.item ≡ true)
        at_number true = h x
        at_number false = tt
    by (Index i) = tt
    by (Key k) = tt
    by (Pair i) = tt
    by (Cell r c) = tt

kept_fits : (of given : Shape) (test : Item → Bool) (at : Place → Option Found) → Keeps of given → FitsAt of at → FitsAt given (λ p. option_map (found_if test) (at p))
kept_fits of given test at keeps fits p = found_fits (found_if test) of given (at p) (λ d h. keeps d.item h) (fits p)

both_fits : (family : JoinFamily) (word : JoinStep) (of other given : Shape) (n : ℕ) (cs ds : List Candidate) (at bt : Place → Option Found) → JoinForm of other given → FitsAt of at → FitsAt other bt → FitsAt given (shown_both family word n cs ds at bt)
both_fits join.Hidden word of other given n cs ds at bt form f g = kept_fits of given (λ item. stays word (shows ds item)) at form.0 f
both_fits join.Joined word of other given n cs ds at bt form f g =
    split_fits given n (λ q. option_map (found_if (λ item. stays word (shows ds item))) (at q)) (λ q. option_map (found_if (λ item. not (shows cs item))) (bt q))
    (kept_fits of given (λ item. stays word (shows ds item)) at form.0 f) (kept_fits other given (λ item. not (shows cs item)) bt form.1 g)
both_fits join.Counted word of other given n cs ds at bt form f g =
    split_fits given n (λ q. occurrence_at (first_size word cs ds) (first_seen word cs ds) q.spot) (λ q. occurrence_at (λ x. size_of x ds) (second_seen cs ds) q.spot)
    (occurrence_fits given (first_size word cs ds) (first_seen word cs ds) form.2) (occurrence_fits given (λ x. size_of x ds) (second_seen cs ds) form.2)

-- ---- each view

view_fits : (world : World) (spots : Spots) (v : View) → IsFormed world v → FitsAt (shape_at world v) (show world spots v)
view_fits world spots (base l) f = λ p. row_fits (shape_of_kind (leaf_at world l).kind) (spots l) (leaf_at world l).rows p.spot f.rows
view_fits world spots (over step v) f =
    over_fits (family_of step) step (shape_at world v) (shape_at world (over step v)) (candidates world v) (show world spots v)
    (given_shape (FormIn (family_of step) step (shape_at world v)) (shape_at world v) (apply (shape_at world v) step) f.made.0.given
    (form_after (shape_at world v) step (neither_true (is_pieces (shape_at world v)) (stands_on_pieces world v) f.apart).0))
    (view_fits world spots v (formed_below world step v f))
view_fits world spots (both word v u) f =
    both_fits (join_family word) word (shape_at world v) (shape_at world u) (shape_at world (both word v u)) (weight v) (candidates world v) (candidates world u) (show world spots v) (show world spots u)
    (given_shape (JoinForm (shape_at world v) (shape_at world u)) (shape_at world v) (apply_join (shape_at world v) word (shape_at world u)) f.made.0.given (join_form (shape_at world v) word (shape_at world u)))
    (view_fits world spots v (formed_first world word v u f)) (view_fits world spots u (formed_second world word v u f))

pub show_fits : (world : World) (spots : Spots) (v : View) (p : Place) (d : Found) → IsFormed world v → show world spots v p ≡ Some d → has_form (shape_at world v) d.item ≡ true
show_fits world spots v p d f is = if_is (λ (e : Found). has_form (shape_at world v) e.item ≡ true) (show world spots v p) d is (view_fits world spots v f p)

-- ---- each candidate stands in some place

-- spots that tell rows, by their indexes
abbrev indexes : ℕ → List Item → List RowSpot
indexes n [] = []
indexes n (row ∷ rows) = Index n ∷ indexes (n + 1) rows

as_many_indexes : (n : ℕ) (rows : List Item) → length (indexes n rows) ≡ length rows
as_many_indexes n [] = refl
as_many_indexes n (row ∷ rows) = ap suc (as_many_indexes (n + 1) rows)

later : (i n : ℕ) (rows : List Item) → i < n → AllByRecursion (λ s. same_spot (Index i) s ≡ false) (indexes n rows)
later i n [] lt = tt
later i n (row ∷ rows) lt = (grind (arith, nat_tests), later i (n + 1) rows (omega arith))

apart_indexes : (n : ℕ) (rows : List Item) → IsDistinct same_spot (indexes n rows)
unfolding IsDistinct
apart_indexes n [] = tt
apart_indexes n (row ∷ rows) = (later n (n + 1) rows (omega arith), apart_indexes (n + 1) rows)

abbrev by_index : World → Spots
by_index world l = indexes 0 (leaf_at world l).rows

all_by_index : (world : World) → TellAll world (by_index world)
all_by_index world l = record { as_many = as_many_indexes 0 (leaf_at world l).rows; apart = apart_indexes 0 (leaf_at world l).rows }

standing_fit : (of : Shape) (at : Place → Option Found) (ps : List Place) (cs : List Candidate) → FitsAt of at → Zipped (Stands at) ps cs → AllByRecursion (λ (c : Candidate). has_form of c.item ≡ true) cs
standing_fit of at [] [] fits z = tt
standing_fit of at [] (c ∷ cs) fits z = absurd z
standing_fit of at (p ∷ ps) [] fits z = absurd z
standing_fit of at (p ∷ ps) (c ∷ cs) fits z = (if_is (λ (d : Found). has_form of d.item ≡ true) (at p) (found_in c) z.0 (fits p), standing_fit of at ps cs fits z.1)

pub items_fit : (world : World) (v : View) → IsFormed world v → AllByRecursion (λ (c : Candidate). has_form (shape_at world v) c.item ≡ true) (candidates world v)
items_fit world v f =
    standing_fit (shape_at world v) (show world (by_index world) v) (places world (by_index world) v) (candidates world v) (view_fits world (by_index world) v f) (view_stands world (by_index world) (all_by_index world) v)
