-- The pairs of a bimap, found by their values.
use Rattle.std.proofs.Common.{◌≡◌, ℕ, ◌+◌, Bool, true, false, cond, ◌&&◌, ◌||◌, List, [], ◌∷◌, map, Option, Some, None, refl, sym, ap, ◌∙◌, subst, arith}
use Rattle.std.specs.Prelude.{filter, slice_get, option_map}
use Rattle.std.specs.List.{IsDistinct, AllByRecursion}
use Rattle.std.specs.Option.{option_to_list}
use Rattle.std.proofs.lemmas.Option.{slice_get_past}
use Rattle.elem.specs.declared.elements.Elem.{Elem}
use Rattle.elem.specs.Elements.{same}
use Rattle.elem.specs.ElementLaws.{same-Decides, same_equiv}
use Rattle.bimap_base.specs.Pairs.{key_of as key_with, turned}
use Rattle.base_rows.specs.Journals.{items_by}
use Rattle.base_rows.specs.declared.base_rows.BaseRows.{BaseRows}
use Rattle.base_rows.specs.BaseRows.{base_line, base_spots, entries, kind_of, plain, rows_of}
use Rattle.base_rows.specs.BaseSpots.{key_spot, row_of_key, row_of_part, HasKeys}
use Rattle.vocabulary.specs.declared.items.Item.{Item}
use Rattle.vocabulary.specs.declared.items.Item.TheVariants.{Entry}
use Rattle.vocabulary.specs.declared.items.Side.{Side}
use Rattle.vocabulary.specs.declared.items.Side.TheVariants.{First, Second}
use Rattle.vocabulary.specs.declared.kinds.Kind.{Kind}
use Rattle.vocabulary.specs.declared.shapes.Shape.{Shape}
use Rattle.vocabulary.specs.declared.shapes.Shape.TheVariants as shape
use Rattle.vocabulary.specs.Items.{key_of, part_of, second_of, swapped}
use Rattle.vocabulary.specs.Kinds.{shape_of_kind}
use Rattle.vocabulary.specs.Shapes.{is_bimap, is_keyed}
use Rattle.view_laws.specs.declared.lanes.Lane.{Lane}
use Rattle.view_laws.specs.declared.lanes.PartAsk.{PartAsk}
use Rattle.view_laws.specs.declared.lanes.PartAsk.TheVariants.{Any, Is, Within, Nothing}
use Rattle.view_laws.specs.declared.places.RowSpot.{RowSpot}
use Rattle.view_laws.specs.Following.{Follows}
use Rattle.view_laws.specs.Lanes.{meets, takes, turned_if}
use Rattle.view_laws.specs.Narrowing.{is_any}
use Rattle.view_laws.specs.RowPlaces.{spots_taken}
use Rattle.view_laws.specs.Serving.{Serves, ServesPart, of_part}
use Rattle.view_laws.specs.Spots.{row_at}
use Rattle.view_laws.proofs.ListLemmas.{and-false}
use Rattle.base_rows.proofs.KeyedRows.{row_at_its_key, spots_keyed}
use Rattle.base_rows.proofs.SpotLines.{taken_keys}
use Rattle.base_rows.proofs.TurnLemmas.{nothing_there}

-- ---- the pair of a value

pub pair_found : (rows : List (Elem × Elem)) (v : Elem) → row_of_part Second (entries rows) v ≡ option_map (λ k. Entry k v) (key_with rows v)
pair_found [] v = refl
pair_found (r ∷ rs) v = by (same v r.1) refl (pair_found rs v)
  where
    by : (b : Bool) → same v r.1 ≡ b → row_of_part Second (entries rs) v ≡ option_map (λ k. Entry k v) (key_with rs v)
        → cond b (Some (Entry r.0 r.1)) (row_of_part Second (entries rs) v) ≡ option_map (λ k. Entry k v) (cond b (Some r.0) (key_with rs v))
    by true e ih = ap (λ x. Some (Entry r.0 x)) (sym ((same-Decides v r.1).0 e))
    by false e ih = ih

-- a bimap goes by key
pub bimap_keyed : (of : Shape) → is_bimap of ≡ true → is_keyed of ≡ true
bimap_keyed shape.BiMap h = refl
bimap_keyed _ h = absurd (cc)

-- ---- the one row of an element in a part that no two rows share

nothing_else : (side : Side) (x : Elem) (rows : List Item) → AllByRecursion (λ y. same x y ≡ false) (map (part_of side) rows) → filter (λ row. same x (part_of side row)) rows ≡ []
nothing_else side x [] h = refl
nothing_else side x (row ∷ rows) h = rw h.0 (nothing_else side x rows h.1)

found_alone : (side : Side) (x : Elem) (rows : List Item) → IsDistinct same (map (part_of side) rows) → filter (λ row. same x (part_of side row)) rows ≡ option_to_list (row_of_part side rows x)
unfolding IsDistinct
found_alone side x [] d = refl
found_alone side x (row ∷ rows) d = by (same x (part_of side row)) refl (found_alone side x rows d.1)
  where
    by : (b : Bool) → same x (part_of side row) ≡ b → filter (λ row. same x (part_of side row)) rows ≡ option_to_list (row_of_part side rows x)
        → cond b (row ∷ filter (λ row. same x (part_of side row)) rows) (filter (λ row. same x (part_of side row)) rows) ≡ option_to_list (cond b (Some row) (row_of_part side rows x))
    by true e ih = ap (λ (rest : List Item). row ∷ rest) (nothing_else side x rows (subst (λ y. AllByRecursion (λ z. same y z ≡ false) (map (part_of side) rows)) (sym ((same-Decides x (part_of side row)).0 e)) d.0))
    by false e ih = ih

-- a row that is found by one part is the one that is found by its key
unlike : (x : Elem) (rows : List Item) (side : Side) (y : Elem) (row : Item) → AllByRecursion (λ z. same x z ≡ false) (map key_of rows) → row_of_part side rows y ≡ Some row → same (key_of row) x ≡ false
unlike x [] side y row all e = absurd (cc)
unlike x (first ∷ rows) side y row all e = by (same y (part_of side first)) (unlike x rows side y row all.1) e
  where
    by : (b : Bool) → (row_of_part side rows y ≡ Some row → same (key_of row) x ≡ false) → cond b (Some first) (row_of_part side rows y) ≡ Some row → same (key_of row) x ≡ false
    by true ih f = let equal : first ≡ row = cc in same_equiv.symm (key_of row) x ∙ subst (λ r. same x (key_of r) ≡ false) equal all.0
    by false ih f = ih f

pub found_again : (side : Side) (y : Elem) (rows : List Item) (row : Item) → IsDistinct same (map key_of rows) → row_of_part side rows y ≡ Some row → row_of_key rows (key_of row) ≡ Some row
unfolding IsDistinct
found_again side y [] row d e = absurd (cc)
found_again side y (first ∷ rows) row d e = by (same y (part_of side first)) (found_again side y rows row d.1) e
  where
    by : (b : Bool) → (row_of_part side rows y ≡ Some row → row_of_key rows (key_of row) ≡ Some row) → cond b (Some first) (row_of_part side rows y) ≡ Some row → cond (same (key_of row) (key_of first)) (Some first) (row_of_key rows (key_of row)) ≡ Some row
    by true ih f =
        let equal : first ≡ row = cc in
        ap (λ r. cond (same (key_of row) (key_of r)) (Some r) (row_of_key rows (key_of row))) equal ∙ ap (λ b. cond b (Some row) (row_of_key rows (key_of row))) (same_equiv.refl (key_of row))
    by false ih f = ap (λ b. cond b (Some first) (row_of_key rows (key_of row))) (unlike (key_of first) rows side y row d.0 f) ∙ ih f

-- ---- the lane of a value

module _ (r : BaseRows) (bimap : is_bimap (shape_of_kind (kind_of r)) ≡ true) (keys : HasKeys (plain r)) (v : Elem) where
  abbrev one : Option Item
  one = row_of_part Second (rows_of r) v

  keyed : is_keyed (shape_of_kind (kind_of r)) ≡ true
  keyed = bimap_keyed (shape_of_kind (kind_of r)) bimap

  value_line : (back : Bool) → base_line r (of_part Second v) back ≡ turned_if back (map key_spot (option_to_list one))
  value_line back =
      ap (λ spots. turned_if back (spots_taken (takes (of_part Second v)) spots (rows_of r))) (spots_keyed r keyed)
      ∙ ap (turned_if back) (taken_keys (takes (of_part Second v)) (rows_of r) ∙ ap (map key_spot) (found_alone Second v (rows_of r) (keys Second bimap)))

  first_of : (back : Bool) (o : Option Item) → slice_get (turned_if back (map key_spot (option_to_list o))) 0 ≡ option_map key_spot o
  first_of true None = refl
  first_of false None = refl
  first_of true (Some row) = refl
  first_of false (Some row) = refl

  none_behind : (back : Bool) (o : Option Item) (i : ℕ) → slice_get (turned_if back (map key_spot (option_to_list o))) (i + 1) ≡ None
  none_behind back None i = nothing_there back (i + 1)
  none_behind true (Some row) i = slice_get_past (key_spot row ∷ []) (i + 1) (omega arith)
  none_behind false (Some row) i = slice_get_past (key_spot row ∷ []) (i + 1) (omega arith)

  -- it has one spot, which no other follows
  pub value_first : (back : Bool) (from to : Option RowSpot) → from ≡ None → to ≡ option_map key_spot one → Follows (base_line r (of_part Second v) back) from to
  value_first back from to none is = rw (none, is, value_line back) (first_of back one)

  pub value_last : (back : Bool) (from : Option RowSpot) (s : RowSpot) → from ≡ Some s → Follows (base_line r (of_part Second v) back) from None
  value_last back from s some = rw (some, value_line back) (λ i at. none_behind back one i)

  -- the row at that spot
  pub value_row : (row : Item) → one ≡ Some row → row_at (base_spots r) (rows_of r) (key_spot row) ≡ Some row
  value_row row e = row_at_its_key r (key_of row) keyed ∙ found_again Second v (rows_of r) row (keys First keyed) e

-- ---- which lanes ask for a value

any_is : (ask : PartAsk) → is_any ask ≡ true → ask ≡ Any
any_is Any h = refl
any_is (Is x) h = absurd (cc)
any_is (Within order w) h = absurd (cc)
any_is Nothing h = absurd (cc)

or-false : (a b : Bool) → b ≡ false → a || b ≡ true → a ≡ true
or-false true b off h = refl
or-false false b off h = absurd (cc)

module _ (kind : Kind) (lane : Lane) (serves : Serves kind lane) where
  -- one that asks for a value asks for no key
  pub value_lane : (v : Elem) → lane.second ≡ Is v → lane ≡ of_part Second v
  value_lane v e =
      let first : lane.first ≡ Any = any_is lane.first (or-false (is_any lane.first) (is_any lane.second) (ap is_any e) serves.one) in
      λ i. record { first = first i; second = e i; pick = serves.each i }

  pub of_bimap : (v : Elem) → lane.second ≡ Is v → is_bimap (shape_of_kind kind) ≡ true
  of_bimap v e = subst (ServesPart kind Second) e serves.values

-- one that asks for no value that there is takes no row
none_taken : (test : Item → Bool) (spots : List RowSpot) (rows : List Item) → ((row : Item) → test row ≡ false) → spots_taken test spots rows ≡ []
none_taken test [] rows none = refl
none_taken test (s ∷ spots) [] none = refl
none_taken test (s ∷ spots) (row ∷ rows) none = rw (none row) (none_taken test spots rows none)

nothing_follows : (back : Bool) (from : Option RowSpot) → Follows (turned_if back []) from None
nothing_follows back None = nothing_there back 0
nothing_follows back (Some s) = λ i is. nothing_there back (i + 1)

pub no_value : (r : BaseRows) (lane : Lane) (back : Bool) (from : Option RowSpot) → ServesPart (kind_of r) Second lane.second → (lane.second ≡ Any → ⊥) → ((v : Elem) → lane.second ≡ Is v → ⊥) → Follows (base_line r lane back) from None
no_value r lane back from serves not_any not_is = by lane.second refl serves
  where
    by : (ask : PartAsk) → lane.second ≡ ask → ServesPart (kind_of r) Second ask → Follows (base_line r lane back) from None
    by Any e s = absurd (not_any e)
    by (Is v) e s = absurd (not_is v e)
    by (Within order w) e s = absurd s
    by Nothing e s =
        let line : base_line r lane back ≡ turned_if back [] = ap (turned_if back) (none_taken (takes lane) (base_spots r) (rows_of r) (λ row. ap (λ ask. meets lane.first (key_of row) && meets ask (second_of row)) e ∙ and-false (meets lane.first (key_of row)))) in
        subst (λ spots. Follows spots from None) (sym line) (nothing_follows back from)

-- ---- pairs turned round

entries_turned : (rows : List (Elem × Elem)) → map swapped (items_by Entry (turned rows)) ≡ entries rows
entries_turned [] = refl
entries_turned (row ∷ rows) = ap (λ (rest : List Item). Entry row.0 row.1 ∷ rest) (entries_turned rows)

swapped_filter : (p : Item → Bool) (rows : List Item) → map swapped (filter (λ row. p (swapped row)) rows) ≡ filter p (map swapped rows)
swapped_filter p [] = refl
swapped_filter p (row ∷ rows) = by (p (swapped row)) (swapped_filter p rows)
  where
    by : (b : Bool) → map swapped (filter (λ row. p (swapped row)) rows) ≡ filter p (map swapped rows)
        → map swapped (cond b (row ∷ filter (λ row. p (swapped row)) rows) (filter (λ row. p (swapped row)) rows)) ≡ cond b (swapped row ∷ filter p (map swapped rows)) (filter p (map swapped rows))
    by true ih = ap (λ (rest : List Item). swapped row ∷ rest) ih
    by false ih = ih

-- what goes by the pairs turned round goes from the pairs
pub gone_turned : (p : Item → Bool) (old new : List (Elem × Elem)) → items_by Entry (turned new) ≡ filter (λ row. p (swapped row)) (items_by Entry (turned old)) → entries new ≡ filter p (entries old)
gone_turned p old new h = sym (entries_turned new) ∙ ap (map swapped) h ∙ swapped_filter p (items_by Entry (turned old)) ∙ ap (filter p) (entries_turned old)
