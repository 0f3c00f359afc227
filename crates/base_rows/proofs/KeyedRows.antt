-- The rows of a set or a map, by their keys.
use Rattle.std.proofs.Common.{◌≡◌, ℕ, ◌+◌, Bool, true, false, not, cond, List, [], ◌∷◌, length, map, Option, Result, Ok, Err, refl, ap, sym, ◌∙◌, subst}
use Rattle.std.specs.Prelude.{find, is_some, slice_get, None, Some, option_map, OnErr}
use Rattle.std.specs.List.{IsDistinct}
use Rattle.std.specs.Map.{keys_of}
use Rattle.std.proofs.lemmas.Simd.{map-map}
use Rattle.elem.specs.declared.elements.Elem.{Elem}
use Rattle.elem.specs.Elements.{same}
use Rattle.elem.specs.ElementLaws.{same-Decides}
use Rattle.elem.specs.Keyed.{value_at}
use Rattle.bimap_base.specs.Pairs.{turned}
use Rattle.base_rows.specs.declared.base_rows.BaseRows.{BaseRows}
use Rattle.base_rows.specs.declared.base_rows.BaseRows.TheVariants as types
use Rattle.base_rows.specs.Adding.{is_one_more}
use Rattle.base_rows.specs.BaseRows.{base_spots, kind_of, plain, rows_of, items, entry_of, member_of, IsSpotIn}
use Rattle.base_rows.specs.BaseSpots.{key_spot, numbered, row_of_key, HasKeys}
use Rattle.base_rows.specs.Journals.{items_by}
use Rattle.base_rows.specs.KeyLines.{keys_in, IsOneOf}
use Rattle.vocabulary.specs.declared.edits.Spot.{Spot}
use Rattle.vocabulary.specs.declared.edits.Spot.TheVariants.{Own, Swapped, Before, Instead, InKey}
use Rattle.vocabulary.specs.declared.items.Item.{Item}
use Rattle.vocabulary.specs.declared.items.Item.TheVariants.{One, Entry}
use Rattle.view_laws.specs.declared.places.RowSpot.{RowSpot}
use Rattle.view_laws.specs.declared.places.RowSpot.TheVariants.{Index, Key}
use Rattle.vocabulary.specs.declared.items.Side.TheVariants.{First, Second}
use Rattle.vocabulary.specs.Items.{key_of, second_of}
use Rattle.vocabulary.specs.Kinds.{shape_of_kind}
use Rattle.vocabulary.specs.Known.{is_known_kind}
use Rattle.view_laws.specs.Following.{IsFrom}
use Rattle.view_laws.specs.Spots.{row_at}
use Rattle.vocabulary.specs.Shapes.{is_bimap, is_keyed}
use Rattle.base_rows.proofs.SpotsTold.{at_index, at_key, row_at_index, row_at_key}

-- each is of a known kind
pub known_rows : (r : BaseRows) → is_known_kind (kind_of r) ≡ true
known_rows (types.ArrayList rows) = refl
known_rows (types.LinkedHashSet rows) = refl
known_rows (types.TreeSet rows) = refl
known_rows (types.TreeSetReverse rows) = refl
known_rows (types.TreeSetLength rows) = refl
known_rows (types.LinkedHashMap rows) = refl
known_rows (types.TreeMap rows) = refl
known_rows (types.TreeMapReverse rows) = refl
known_rows (types.TreeMapLength rows) = refl
known_rows (types.HashBiMap rows) = refl

-- all but a list go by key
pub keyed_but_list : (r : BaseRows) → ((rows : List Elem) → r ≡ types.ArrayList rows → ⊥) → is_keyed (shape_of_kind (kind_of r)) ≡ true
keyed_but_list (types.ArrayList rows) other = absurd (other rows refl)
keyed_but_list (types.LinkedHashSet rows) other = refl
keyed_but_list (types.TreeSet rows) other = refl
keyed_but_list (types.TreeSetReverse rows) other = refl
keyed_but_list (types.TreeSetLength rows) other = refl
keyed_but_list (types.LinkedHashMap rows) other = refl
keyed_but_list (types.TreeMap rows) other = refl
keyed_but_list (types.TreeMapReverse rows) other = refl
keyed_but_list (types.TreeMapLength rows) other = refl
keyed_but_list (types.HashBiMap rows) other = refl

-- ---- the keys of the rows

keys_of_members : (rows : List (Elem × Unit {0})) → map key_of (map member_of rows) ≡ map (λ row. row.0) rows
keys_of_members rows = map-map key_of member_of rows

keys_of_entries : (rows : List (Elem × Elem)) → map key_of (map entry_of rows) ≡ map (λ row. row.0) rows
keys_of_entries rows = map-map key_of entry_of rows

pub keys_of_rows : (r : BaseRows) → is_keyed (shape_of_kind (kind_of r)) ≡ true → map key_of (rows_of r) ≡ keys_in r
keys_of_rows (types.ArrayList rows) h = cc
keys_of_rows (types.LinkedHashSet rows) h = keys_of_members rows
keys_of_rows (types.TreeSet rows) h = keys_of_members rows
keys_of_rows (types.TreeSetReverse rows) h = keys_of_members rows
keys_of_rows (types.TreeSetLength rows) h = keys_of_members rows
keys_of_rows (types.LinkedHashMap rows) h = keys_of_entries rows
keys_of_rows (types.TreeMap rows) h = keys_of_entries rows
keys_of_rows (types.TreeMapReverse rows) h = keys_of_entries rows
keys_of_rows (types.TreeMapLength rows) h = keys_of_entries rows
keys_of_rows (types.HashBiMap rows) h = keys_of_entries rows

-- the values by which rows are found: those of a bimap
abbrev values_in : BaseRows → List Elem
values_in (types.HashBiMap rows) = keys_of (turned rows)
values_in other = []

values_of_rows : (r : BaseRows) → is_bimap (shape_of_kind (kind_of r)) ≡ true → map second_of (rows_of r) ≡ values_in r
values_of_rows (types.HashBiMap rows) h = map-map second_of entry_of rows ∙ sym (map-map (λ (row : Elem × Elem). row.0) (λ (row : Elem × Elem). (row.1, row.0)) rows)
values_of_rows (types.ArrayList rows) h = cc
values_of_rows (types.LinkedHashSet rows) h = cc
values_of_rows (types.TreeSet rows) h = cc
values_of_rows (types.TreeSetReverse rows) h = cc
values_of_rows (types.TreeSetLength rows) h = cc
values_of_rows (types.LinkedHashMap rows) h = cc
values_of_rows (types.TreeMap rows) h = cc
values_of_rows (types.TreeMapReverse rows) h = cc
values_of_rows (types.TreeMapLength rows) h = cc

-- its keys and its values differ where those of the rows do
pub has_keys : (r : BaseRows) → IsDistinct same (keys_in r) → IsDistinct same (values_in r) → HasKeys (plain r)
has_keys r keys values First = λ keyed. subst (IsDistinct same) (sym (keys_of_rows r keyed)) keys
has_keys r keys values Second = λ bimap. subst (IsDistinct same) (sym (values_of_rows r bimap)) values

-- where there is no bimap, its keys alone
pub has_keys_alone : (r : BaseRows) → is_bimap (shape_of_kind (kind_of r)) ≡ false → IsDistinct same (keys_in r) → HasKeys (plain r)
has_keys_alone r other keys First = λ keyed. subst (IsDistinct same) (sym (keys_of_rows r keyed)) keys
has_keys_alone r other keys Second = λ bimap. absurd (let e : false ≡ true = sym other ∙ bimap in cc)

-- only a bimap is one
pub bimap_alone : (r : BaseRows) → ((rows : List (Elem × Elem)) → r ≡ types.HashBiMap rows → ⊥) → is_bimap (shape_of_kind (kind_of r)) ≡ false
bimap_alone (types.HashBiMap rows) other = absurd (other rows refl)
bimap_alone (types.ArrayList rows) other = refl
bimap_alone (types.LinkedHashSet rows) other = refl
bimap_alone (types.TreeSet rows) other = refl
bimap_alone (types.TreeSetReverse rows) other = refl
bimap_alone (types.TreeSetLength rows) other = refl
bimap_alone (types.LinkedHashMap rows) other = refl
bimap_alone (types.TreeMap rows) other = refl
bimap_alone (types.TreeMapReverse rows) other = refl
bimap_alone (types.TreeMapLength rows) other = refl

-- ---- the row of a key

module _ {V : Type 0} (row_of : Elem → V → Item) (kept : (k : Elem) (v : V) → key_of (row_of k v) ≡ k) where
  item_found : (rows : List (Elem × V)) (k : Elem) → row_of_key (items_by row_of rows) k ≡ option_map (row_of k) (value_at rows k)
  item_found [] k = refl
  item_found (r ∷ rs) k = ap (λ l. cond (same k l) (Some (row_of r.0 r.1)) (row_of_key (items_by row_of rs) k)) (kept r.0 r.1) ∙ by (same k r.0) refl (item_found rs k)
    where
      by : (b : Bool) → same k r.0 ≡ b → row_of_key (items_by row_of rs) k ≡ option_map (row_of k) (value_at rs k)
          → cond b (Some (row_of r.0 r.1)) (row_of_key (items_by row_of rs) k) ≡ option_map (row_of k) (cond b (Some r.1) (value_at rs k))
      by true e ih = ap (λ l. Some (row_of l r.1)) (sym ((same-Decides k r.0).0 e))
      by false e ih = ih

  -- what is one of the rows is found by its key
  pub found_by_key : (rows : List (Elem × V)) (found : Option (Elem × V)) (k : Elem) (v : V) (row : Item) → found ≡ Some (k, v) → row ≡ row_of k v → IsOneOf rows found → row_of_key (items_by row_of rows) (key_of row) ≡ Some row
  found_by_key rows found k v row e row_is one =
      let value : value_at rows k ≡ Some v = subst (IsOneOf rows) e one in
      ap (λ r. row_of_key (items_by row_of rows) (key_of r)) row_is ∙ ap (row_of_key (items_by row_of rows)) (kept k v) ∙ item_found rows k ∙ ap (option_map (row_of k)) value ∙ ap Some (sym row_is)

pub member_found : (rows : List (Elem × Unit {0})) (k : Elem) → row_of_key (map member_of rows) k ≡ option_map (λ _. One k) (value_at rows k)
member_found rows k = item_found (λ k v. One k) (λ k v. refl) rows k

pub entry_found : (rows : List (Elem × Elem)) (k : Elem) → row_of_key (map entry_of rows) k ≡ option_map (Entry k) (value_at rows k)
entry_found rows k = item_found Entry (λ k v. refl) rows k

-- ---- a row whose key is not there is one more

-- the items of rows of keys and values, among which a key is found by its value
abbrev IsFoundBy : {V : Type 0} → (Elem → V → Item) → List Item → List (Elem × V) → Type 0
IsFoundBy row_of items rows = (k : Elem) → find (λ row. same k (key_of row)) items ≡ option_map (row_of k) (value_at rows k)

one_more : {V : Type 0} (row_of : Elem → V → Item) (rows : List (Elem × V)) (self : BaseRows) (spot : Spot) (item : Item) → IsFoundBy row_of (rows_of self) rows → is_keyed (shape_of_kind (kind_of self)) ≡ true → is_bimap (shape_of_kind (kind_of self)) ≡ false → IsSpotIn (kind_of self) (length (rows_of self)) spot
    → value_at rows (key_of item) ≡ None → is_one_more (kind_of self) spot (rows_of self) item ≡ true
one_more row_of rows self Own item found keyed other is none =
    ap (λ (b : Bool). cond b (not (is_some (find (λ row. same (key_of item) (key_of row)) (rows_of self)))) true) keyed
    ∙ ap (λ (x : Option Item). not (is_some x)) (found (key_of item)) ∙ ap (λ x. not (is_some (option_map (row_of (key_of item)) x))) none
one_more row_of rows self (Before i) item found keyed other is none = let f = is.0 in absurd (cc)
one_more row_of rows self (Instead i) item found keyed other is none = let f = is.0 in absurd (cc)
one_more row_of rows self Swapped item found keyed other is none = let f = sym other ∙ is in absurd (cc)
one_more row_of rows self (InKey i) item found keyed other is none = absurd is

-- so a row for which a set or a map had no memory is one more
wants : {V E : Type 0} (row_of : Elem → V → Item) (rows : List (Elem × V)) (self : BaseRows) (spot : Spot) (item : Item) (r : Result (Unit {0}) E) → IsFoundBy row_of (rows_of self) rows → is_keyed (shape_of_kind (kind_of self)) ≡ true → is_bimap (shape_of_kind (kind_of self)) ≡ false
    → IsSpotIn (kind_of self) (length (rows_of self)) spot → OnErr r (value_at rows (key_of item) ≡ None) → OnErr r (is_one_more (kind_of self) spot (rows_of self) item ≡ true)
wants row_of rows self spot item (Ok u) found keyed other is none = tt
wants row_of rows self spot item (Err why) found keyed other is none = one_more row_of rows self spot item found keyed other is none

pub set_wants : {E : Type 0} (rows : List (Elem × Unit {0})) (self : BaseRows) (spot : Spot) (item : Item) (r : Result (Unit {0}) E) → rows_of self ≡ map member_of rows → is_keyed (shape_of_kind (kind_of self)) ≡ true → is_bimap (shape_of_kind (kind_of self)) ≡ false → IsSpotIn (kind_of self) (length (rows_of self)) spot
    → OnErr r (value_at rows (key_of item) ≡ None) → OnErr r (is_one_more (kind_of self) spot (rows_of self) item ≡ true)
set_wants rows self spot item r are keyed other is none = wants (λ k u. One k) rows self spot item r (λ k. ap (find (λ row. same k (key_of row))) are ∙ member_found rows k) keyed other is none

pub map_wants : {E : Type 0} (rows : List (Elem × Elem)) (self : BaseRows) (spot : Spot) (item : Item) (r : Result (Unit {0}) E) → rows_of self ≡ map entry_of rows → is_keyed (shape_of_kind (kind_of self)) ≡ true → is_bimap (shape_of_kind (kind_of self)) ≡ false → IsSpotIn (kind_of self) (length (rows_of self)) spot
    → OnErr r (value_at rows (key_of item) ≡ None) → OnErr r (is_one_more (kind_of self) spot (rows_of self) item ≡ true)
map_wants rows self spot item r are keyed other is none = wants Entry rows self spot item r (λ k. ap (find (λ row. same k (key_of row))) are ∙ entry_found rows k) keyed other is none

-- ---- spots of a list, and of a set or a map

pub spots_keyed : (r : BaseRows) → is_keyed (shape_of_kind (kind_of r)) ≡ true → base_spots r ≡ map key_spot (rows_of r)
spots_keyed r keyed = ap (λ b. cond b (map key_spot (rows_of r)) (numbered 0 (rows_of r))) keyed

-- a spot of a list is an index
pub index_in_list : (rows : List Item) (s : RowSpot) → IsFrom (numbered 0 rows) (Some s) → (i : ℕ) × (s ≡ Index i)
index_in_list rows s h = (0 + h.0, (at_index rows 0 h.0 s h.1).0)

-- and one of a set or a map is a key
pub key_in_keyed : (r : BaseRows) (s : RowSpot) → is_keyed (shape_of_kind (kind_of r)) ≡ true → IsFrom (base_spots r) (Some s) → (k : Elem) × (s ≡ Key k)
key_in_keyed r s keyed h = at_key (rows_of r) h.0 s (ap (λ spots. slice_get spots h.0) (sym (spots_keyed r keyed)) ∙ h.1)

no_key : (i : ℕ) (k : Elem) → Index i ≡ Key k → ⊥
no_key i k e = cc

-- so only a set or a map has spots by key
pub key_is_keyed : (r : BaseRows) (s : RowSpot) (k : Elem) → IsFrom (base_spots r) (Some s) → s ≡ Key k → is_keyed (shape_of_kind (kind_of r)) ≡ true
key_is_keyed (types.ArrayList rows) s k h e = let at = index_in_list (items rows) s h in absurd (no_key at.0 k (sym at.1 ∙ e))
key_is_keyed (types.LinkedHashSet rows) s k h e = refl
key_is_keyed (types.TreeSet rows) s k h e = refl
key_is_keyed (types.TreeSetReverse rows) s k h e = refl
key_is_keyed (types.TreeSetLength rows) s k h e = refl
key_is_keyed (types.LinkedHashMap rows) s k h e = refl
key_is_keyed (types.TreeMap rows) s k h e = refl
key_is_keyed (types.TreeMapReverse rows) s k h e = refl
key_is_keyed (types.TreeMapLength rows) s k h e = refl
key_is_keyed (types.HashBiMap rows) s k h e = refl

-- only a list has spots by index
pub index_is_in_list : (r : BaseRows) (s : RowSpot) (i : ℕ) → ((rows : List Elem) → r ≡ types.ArrayList rows → ⊥) → IsFrom (base_spots r) (Some s) → s ≡ Index i → ⊥
index_is_in_list r s i other h e = let at = key_in_keyed r s (keyed_but_list r other) h in no_key i at.0 (sym e ∙ at.1)

-- and none has others
pub no_other_spot : (r : BaseRows) (s : RowSpot) → IsFrom (base_spots r) (Some s) → ((i : ℕ) → s ≡ Index i → ⊥) → ((k : Elem) → s ≡ Key k → ⊥) → ⊥
no_other_spot r s h no_index no_key = by (is_keyed (shape_of_kind (kind_of r))) h
  where
    by : (b : Bool) → IsFrom (cond b (map key_spot (rows_of r)) (numbered 0 (rows_of r))) (Some s) → ⊥
    by true at = let key = at_key (rows_of r) at.0 s at.1 in no_key key.0 key.1
    by false at = let index = index_in_list (rows_of r) s at in no_index index.0 index.1

-- the row at a spot that is a key is the one of that key
pub row_at_its_key : (r : BaseRows) (k : Elem) → is_keyed (shape_of_kind (kind_of r)) ≡ true → row_at (base_spots r) (rows_of r) (Key k) ≡ row_of_key (rows_of r) k
row_at_its_key r k keyed = ap (λ spots. row_at spots (rows_of r) (Key k)) (spots_keyed r keyed) ∙ row_at_key (rows_of r) k

-- and the row at an index of a list is the one of that number
pub row_at_its_index : (r : BaseRows) (rows : List Elem) (s : RowSpot) (i : ℕ) → r ≡ types.ArrayList rows → s ≡ Index i → row_at (base_spots r) (rows_of r) s ≡ slice_get (items rows) i
row_at_its_index r rows s i e is = (λ j. row_at (base_spots (e j)) (rows_of (e j)) (is j)) ∙ row_at_index (items rows) i
