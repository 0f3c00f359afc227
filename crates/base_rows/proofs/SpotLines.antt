-- The line of a set or a map is that of its keys.
use Rattle.std.proofs.Common.{◌≡◌, ℕ, ◌+◌, Bool, true, false, cond, ◌&&◌, List, [], ◌∷◌, map, refl, ap, sym, ◌∙◌, subst}
use Rattle.std.specs.Prelude.{filter, slice_get, Option, Some, None, IfSome, option_map, option_and_then}
use Rattle.std.specs.Map.{keys_of}
use Rattle.std.proofs.lemmas.Option.{slice_get-map}
use Rattle.std.proofs.lemmas.Simd.{map-map}
use Rattle.elem.specs.declared.elements.Elem.{Elem}
use Rattle.base_rows.specs.declared.base_rows.BaseRows.{BaseRows}
use Rattle.base_rows.specs.declared.spotted.SpottedRow.{SpottedRow}
use Rattle.base_rows.specs.BaseRows.{base_line, base_spots, kind_of, rows_of}
use Rattle.base_rows.specs.BaseSpots.{key_spot, row_of_key}
use Rattle.base_rows.specs.Journals.{items_by}
use Rattle.base_rows.specs.KeyLines.{keys_in, key_line, key_at}
use Rattle.view_laws.specs.declared.lanes.Lane.{Lane}
use Rattle.view_laws.specs.declared.lanes.PartAsk.TheVariants.{Any}
use Rattle.view_laws.specs.declared.places.RowSpot.{RowSpot}
use Rattle.view_laws.specs.declared.places.RowSpot.TheVariants.{Index, Key, Pair, Cell, Nth}
use Rattle.view_laws.specs.Following.{Follows, IsFrom}
use Rattle.view_laws.specs.Lanes.{meets, takes, turned_if}
use Rattle.view_laws.specs.RowPlaces.{spots_taken}
use Rattle.view_laws.specs.Spots.{row_at}
use Rattle.view_laws.proofs.ListLemmas.{and-true, filter-map}
use Rattle.view_laws.proofs.RowLemmas.{turned-map}
use Rattle.vocabulary.specs.declared.items.Item.{Item}
use Rattle.vocabulary.specs.Items.{key_of, second_of}
use Rattle.vocabulary.specs.Kinds.{shape_of_kind}
use Rattle.vocabulary.specs.Shapes.{is_keyed}
use Rattle.base_rows.proofs.KeyedRows.{keys_of_rows, row_at_its_key, spots_keyed}

-- ---- keys and their spots

inside : (o : Option Elem) (k : Elem) → option_map Key o ≡ Some (Key k) → o ≡ Some k
inside None k h = cc
inside (Some l) k h = ap (option_and_then key_at) h

no_other : (o : Option Elem) (s : RowSpot) → key_at s ≡ None → option_map Key o ≡ Some s → ⊥
no_other None s none h = cc
no_other (Some l) s none h = let e : Some l ≡ None = ap (option_and_then key_at) h ∙ none in cc

pub key_spot_at : (ks : List Elem) (i : ℕ) (k : Elem) → slice_get (map Key ks) i ≡ Some (Key k) → slice_get ks i ≡ Some k
key_spot_at ks i k is = inside (slice_get ks i) k (sym (slice_get-map Key ks i) ∙ is)

pub follows_key : (ks : List Elem) (from to : Option Elem) → Follows ks from to → Follows (map Key ks) (option_map Key from) (option_map Key to)
follows_key ks None to h = slice_get-map Key ks 0 ∙ ap (option_map Key) h
follows_key ks (Some k) to h = λ i is. slice_get-map Key ks (i + 1) ∙ ap (option_map Key) (h i (key_spot_at ks i k is))

pub from_key : (ks : List Elem) (from : Option RowSpot) → IsFrom (map Key ks) from → IsFrom ks (option_and_then key_at from) × (from ≡ option_map Key (option_and_then key_at from))
from_key ks None h = (tt, refl)
from_key ks (Some (Key k)) h = ((h.0, key_spot_at ks h.0 k h.1), refl)
from_key ks (Some (Index i)) h = absurd (no_other (slice_get ks h.0) (Index i) refl (sym (slice_get-map Key ks h.0) ∙ h.1))
from_key ks (Some (Pair i)) h = absurd (no_other (slice_get ks h.0) (Pair i) refl (sym (slice_get-map Key ks h.0) ∙ h.1))
from_key ks (Some (Cell r c)) h = absurd (no_other (slice_get ks h.0) (Cell r c) refl (sym (slice_get-map Key ks h.0) ∙ h.1))
from_key ks (Some (Nth x i)) h = absurd (no_other (slice_get ks h.0) (Nth x i) refl (sym (slice_get-map Key ks h.0) ∙ h.1))

-- the spots of rows of keys and values are the keys
pub spots_of_keys : {V : Type 0} (row_of : Elem → V → Item) → ((k : Elem) (v : V) → key_of (row_of k v) ≡ k) → (rows : List (Elem × V)) → map key_spot (items_by row_of rows) ≡ map Key (keys_of rows)
spots_of_keys row_of kept [] = refl
spots_of_keys row_of kept (row ∷ rows) = λ i. Key (kept row.0 row.1 i) ∷ spots_of_keys row_of kept rows i

-- ---- lines

pub taken_keys : (test : Item → Bool) (rows : List Item) → spots_taken test (map key_spot rows) rows ≡ map key_spot (filter test rows)
taken_keys test [] = refl
taken_keys test (row ∷ rows) = by (test row) (taken_keys test rows)
  where
    by : (b : Bool) → spots_taken test (map key_spot rows) rows ≡ map key_spot (filter test rows)
        → cond b (key_spot row ∷ spots_taken test (map key_spot rows) rows) (spots_taken test (map key_spot rows) rows) ≡ map key_spot (cond b (row ∷ filter test rows) (filter test rows))
    by true rest = ap (λ spots. key_spot row ∷ spots) rest
    by false rest = rest

-- where no value is asked for, a lane looks at keys alone
pub takes_by_key : (lane : Lane) (row : Item) → lane.second ≡ Any → takes lane row ≡ meets lane.first (key_of row)
takes_by_key lane row any = ap (λ ask. meets lane.first (key_of row) && meets ask (second_of row)) any ∙ and-true (meets lane.first (key_of row))

keys_taken : (lane : Lane) (rows : List Item) → lane.second ≡ Any → map key_spot (filter (takes lane) rows) ≡ map Key (filter (meets lane.first) (map key_of rows))
keys_taken lane rows any =
    sym (map-map Key key_of (filter (takes lane) rows))
    ∙ ap (λ (q : Item → Bool). map Key (map key_of (filter q rows))) (λ i row. takes_by_key lane row any i)
    ∙ ap (map Key) (sym (filter-map (meets lane.first) key_of rows))

pub line_by_keys : (r : BaseRows) (lane : Lane) (back : Bool) → is_keyed (shape_of_kind (kind_of r)) ≡ true → lane.second ≡ Any → base_line r lane back ≡ map Key (key_line lane.first back (keys_in r))
line_by_keys r lane back keyed any =
    ap (λ spots. turned_if back (spots_taken (takes lane) spots (rows_of r))) (spots_keyed r keyed)
    ∙ ap (turned_if back) (taken_keys (takes lane) (rows_of r) ∙ keys_taken lane (rows_of r) any ∙ ap (λ ks. map Key (filter (meets lane.first) ks)) (keys_of_rows r keyed))
    ∙ sym (turned-map Key back (filter (meets lane.first) (keys_in r)))

-- ---- what follows a spot

pub from_in_line : (r : BaseRows) (lane : Lane) (back : Bool) (from : Option RowSpot) → is_keyed (shape_of_kind (kind_of r)) ≡ true → lane.second ≡ Any → IsFrom (base_line r lane back) from
    → IsFrom (key_line lane.first back (keys_in r)) (option_and_then key_at from)
from_in_line r lane back from keyed any h = (from_key (key_line lane.first back (keys_in r)) from (subst (λ spots. IsFrom spots from) (line_by_keys r lane back keyed any) h)).0

pub follows_in_line : (r : BaseRows) (lane : Lane) (back : Bool) (from : Option RowSpot) (to : Option Elem) → is_keyed (shape_of_kind (kind_of r)) ≡ true → lane.second ≡ Any → IsFrom (base_line r lane back) from
    → Follows (key_line lane.first back (keys_in r)) (option_and_then key_at from) to → Follows (base_line r lane back) from (option_map Key to)
follows_in_line r lane back from to keyed any h n =
    let line : base_line r lane back ≡ map Key (key_line lane.first back (keys_in r)) = line_by_keys r lane back keyed any in
    let at = from_key (key_line lane.first back (keys_in r)) from (subst (λ spots. IsFrom spots from) line h) in
    subst (λ spots. Follows spots from (option_map Key to)) (sym line)
    (subst (λ f. Follows (map Key (key_line lane.first back (keys_in r))) f (option_map Key to)) (sym at.1) (follows_key (key_line lane.first back (keys_in r)) (option_and_then key_at from) to n))

-- ---- rows with their spots

-- a row whose spot is its key
abbrev pub GoesByKey : Option SpottedRow → Type 0
GoesByKey found = IfSome found (λ f. f.spot ≡ key_spot f.row)

pub spot_of_found : (found : Option SpottedRow) → GoesByKey found → option_map Key (option_map (λ f. key_of f.row) found) ≡ option_map (λ f. f.spot) found
spot_of_found None h = refl
spot_of_found (Some f) h = ap Some (sym h)

pub row_of_found : (r : BaseRows) (found : Option SpottedRow) → is_keyed (shape_of_kind (kind_of r)) ≡ true → GoesByKey found → IfSome found (λ f. row_of_key (rows_of r) (key_of f.row) ≡ Some f.row)
    → IfSome found (λ f. row_at (base_spots r) (rows_of r) f.spot ≡ Some f.row)
row_of_found r None keyed h is = tt
row_of_found r (Some f) keyed h is = ap (row_at (base_spots r) (rows_of r)) h ∙ row_at_its_key r (key_of f.row) keyed ∙ is
