-- A lane of a table is one of its threads: the spots in it are keys of that thread.
use Rattle.std.proofs.Common.{◌≡◌, Bool, true, false, cond, ◌&&◌, List, [], ◌∷◌, map, refl, ap, sym, ◌∙◌, subst}
use Rattle.std.specs.Prelude.{filter, Option, None}
use Rattle.std.specs.Map.{keys_of}
use Rattle.std.proofs.lemmas.Simd.{map-map}
use Rattle.elem.specs.declared.elements.Elem.{Elem}
use Rattle.elem.specs.Elements.{same}
use Rattle.elem.specs.ElementLaws.{same-Decides}
use Rattle.table_base.specs.Cells.{Cell, row, transposed, by_spot}
use Rattle.vocabulary.specs.declared.items.Item.{Item}
use Rattle.vocabulary.specs.declared.items.Side.TheVariants.{First, Second}
use Rattle.vocabulary.specs.declared.kinds.Kind.{Kind}
use Rattle.view_laws.specs.declared.lanes.Lane.{Lane}
use Rattle.view_laws.specs.declared.lanes.PartAsk.{PartAsk}
use Rattle.view_laws.specs.declared.lanes.PartAsk.TheVariants.{Any, Is, Within, Nothing}
use Rattle.view_laws.specs.declared.places.RowSpot.{RowSpot}
use Rattle.view_laws.specs.declared.places.RowSpot.TheVariants as spot
use Rattle.view_laws.specs.Following.{Follows}
use Rattle.view_laws.specs.Lanes.{meets, takes, turned_if}
use Rattle.view_laws.specs.RowPlaces.{spots_taken}
use Rattle.view_laws.proofs.ListLemmas.{and-false, filter-all, filter-map}
use Rattle.view_laws.proofs.RowLemmas.{turned-map}
use Rattle.cell_rows.specs.CellRows.{items, item_of}
use Rattle.cell_rows.specs.CellSpots.{cell_line, cell_spot}
use Rattle.cell_rows.specs.Serving.{ServesColumns, ServesRows}
use Rattle.cell_rows.specs.Threads.{along, key_line, spot_along}
use Rattle.cell_rows.proofs.KeyLemmas.{filter-none, nothing_follows}

-- the spots of the rows that pass
pub taken_spots : (test : Item → Bool) (rows : List Item) → spots_taken test (map cell_spot rows) rows ≡ map cell_spot (filter test rows)
taken_spots test [] = refl
taken_spots test (row ∷ rows) = by (test row) (taken_spots test rows)
  where
    by : (b : Bool) → spots_taken test (map cell_spot rows) rows ≡ map cell_spot (filter test rows)
        → cond b (cell_spot row ∷ spots_taken test (map cell_spot rows) rows) (spots_taken test (map cell_spot rows) rows) ≡ map cell_spot (cond b (row ∷ filter test rows) (filter test rows))
    by true rest = ap (λ spots. cell_spot row ∷ spots) rest
    by false rest = rest

abbrev spot_of_cell : Cell → RowSpot
spot_of_cell x = spot.Cell x.0 x.1.0

-- whether a row and a column are as asked
abbrev meets_both : PartAsk → PartAsk → Cell → Bool
meets_both rows columns x = meets rows x.0 && meets columns x.1.0

line_of_cells : (cells : List Cell) (lane : Lane) (back : Bool) → cell_line (items cells) lane back ≡ turned_if back (map spot_of_cell (filter (meets_both lane.first lane.second) cells))
line_of_cells cells lane back =
    ap (turned_if back)
    (taken_spots (takes lane) (items cells)
    ∙ ap (map cell_spot) (filter-map (takes lane) item_of cells)
    ∙ map-map cell_spot item_of (filter (meets_both lane.first lane.second) cells))

-- the line where these are asked
lane_asks : (cells : List Cell) (lane : Lane) (back : Bool) (rows columns : PartAsk) → lane.first ≡ rows → lane.second ≡ columns
    → cell_line (items cells) lane back ≡ turned_if back (map spot_of_cell (filter (meets_both rows columns) cells))
lane_asks cells lane back rows columns e f = line_of_cells cells lane back ∙ (λ i. turned_if back (map spot_of_cell (filter (meets_both (e i) (f i)) cells)))

-- ---- in a row, or from the other side in a column

module _ (at : Elem → Elem → RowSpot) (k : Elem) where
  in_line : (asked : Elem → Bool) (cells : List Cell) → map (λ (x : Cell). at x.0 x.1.0) (filter (λ (x : Cell). same k x.0 && asked x.1.0) cells) ≡ map (at k) (filter asked (keys_of (row k cells)))
  in_line asked [] = refl
  in_line asked (x ∷ cells) = by (same k x.0) refl (in_line asked cells)
    where
      by_key : (b : Bool) → same k x.0 ≡ true → map (λ (y : Cell). at y.0 y.1.0) (filter (λ (y : Cell). same k y.0 && asked y.1.0) cells) ≡ map (at k) (filter asked (keys_of (row k cells)))
          → map (λ (y : Cell). at y.0 y.1.0) (cond b (x ∷ filter (λ (y : Cell). same k y.0 && asked y.1.0) cells) (filter (λ (y : Cell). same k y.0 && asked y.1.0) cells))
          ≡ map (at k) (cond b (x.1.0 ∷ filter asked (keys_of (row k cells))) (filter asked (keys_of (row k cells))))
      by_key true e rest = λ i. at (sym ((same-Decides k x.0).0 e) i) x.1.0 ∷ rest i
      by_key false e rest = rest

      by : (b : Bool) → same k x.0 ≡ b → map (λ (y : Cell). at y.0 y.1.0) (filter (λ (y : Cell). same k y.0 && asked y.1.0) cells) ≡ map (at k) (filter asked (keys_of (row k cells)))
          → map (λ (y : Cell). at y.0 y.1.0) (cond (b && asked x.1.0) (x ∷ filter (λ (y : Cell). same k y.0 && asked y.1.0) cells) (filter (λ (y : Cell). same k y.0 && asked y.1.0) cells))
          ≡ map (at k) (filter asked (keys_of (cond b (x.1 ∷ row k cells) (row k cells))))
      by true e rest = by_key (asked x.1.0) e rest
      by false e rest = rest

-- seen from the other side
from_column : (c : Elem) (cells : List Cell)
    → map spot_of_cell (filter (meets_both Any (Is c)) cells) ≡ map (λ (y : Cell). spot_along Second y.0 y.1.0) (filter (λ (y : Cell). same c y.0 && true) (transposed cells))
from_column c [] = refl
from_column c (x ∷ cells) = by (same c x.1.0) (from_column c cells)
  where
    by : (b : Bool) → map spot_of_cell (filter (meets_both Any (Is c)) cells) ≡ map (λ (y : Cell). spot_along Second y.0 y.1.0) (filter (λ (y : Cell). same c y.0 && true) (transposed cells))
        → map spot_of_cell (cond b (x ∷ filter (meets_both Any (Is c)) cells) (filter (meets_both Any (Is c)) cells))
        ≡ map (λ (y : Cell). spot_along Second y.0 y.1.0) (cond (b && true) ((x.1.0, (x.0, x.1.1)) ∷ filter (λ (y : Cell). same c y.0 && true) (transposed cells)) (filter (λ (y : Cell). same c y.0 && true) (transposed cells)))
    by true rest = ap (λ spots. spot.Cell x.0 x.1.0 ∷ spots) rest
    by false rest = rest

pub row_line : (cells : List Cell) (lane : Lane) (back : Bool) (r : Elem) → lane.first ≡ Is r → cell_line (items cells) lane back ≡ map (spot_along First r) (key_line lane.second back (keys_of (along First r cells)))
row_line cells lane back r e =
    lane_asks cells lane back (Is r) lane.second e refl ∙ ap (turned_if back) (in_line (spot_along First) r (meets lane.second) cells)
    ∙ sym (turned-map (spot_along First r) back (filter (meets lane.second) (keys_of (along First r cells))))

pub column_line : (cells : List Cell) (lane : Lane) (back : Bool) (c : Elem) → lane.first ≡ Any → lane.second ≡ Is c → cell_line (items cells) lane back ≡ map (spot_along Second c) (key_line Any back (keys_of (along Second c cells)))
column_line cells lane back c e f =
    lane_asks cells lane back Any (Is c) e f ∙ ap (turned_if back) (from_column c cells ∙ in_line (spot_along Second) c (λ _. true) (transposed cells))
    ∙ sym (turned-map (spot_along Second c) back (filter (meets Any) (keys_of (along Second c cells))))

-- ---- all cells

all_spots : (cells : List Cell) → map spot_of_cell cells ≡ map (λ (s : Elem × Elem). spot.Cell s.0 s.1) (keys_of (by_spot cells))
all_spots [] = refl
all_spots (x ∷ cells) = ap (λ spots. spot_of_cell x ∷ spots) (all_spots cells)

pub whole_line : (cells : List Cell) (lane : Lane) (back : Bool) → lane.first ≡ Any → lane.second ≡ Any → cell_line (items cells) lane back ≡ map (λ (s : Elem × Elem). spot.Cell s.0 s.1) (turned_if back (keys_of (by_spot cells)))
whole_line cells lane back e f =
    lane_asks cells lane back Any Any e f ∙ ap (λ cs. turned_if back (map spot_of_cell cs)) (filter-all cells) ∙ ap (turned_if back) (all_spots cells)
    ∙ sym (turned-map (λ (s : Elem × Elem). spot.Cell s.0 s.1) back (keys_of (by_spot cells)))

-- ---- none

none_meets : (columns : PartAsk) (cells : List Cell) → filter (meets_both Nothing columns) cells ≡ []
none_meets columns cells = filter-none cells

none_meets_column : (rows : PartAsk) (cells : List Cell) → filter (meets_both rows Nothing) cells ≡ []
none_meets_column rows cells = ap (λ (p : Cell → Bool). filter p cells) (λ i x. and-false (meets rows x.0) i) ∙ filter-none cells

follows_none : (line : List RowSpot) (back : Bool) (from : Option RowSpot) → line ≡ turned_if back [] → Follows line from None
follows_none line back from e = subst (λ spots. Follows spots from None) (sym e) (nothing_follows back from)

-- no row is asked for
pub follows_no_row : (kind : Kind) (cells : List Cell) (lane : Lane) (back : Bool) (from : Option RowSpot) → ServesRows lane.first → ((r : Elem) → lane.first ≡ Is r → ⊥) → (lane.first ≡ Any → ⊥)
    → Follows (cell_line (items cells) lane back) from None
follows_no_row kind cells lane back from serves not_one not_any = by lane.first refl serves
  where
    by : (ask : PartAsk) → lane.first ≡ ask → ServesRows ask → Follows (cell_line (items cells) lane back) from None
    by Any e s = absurd (not_any e)
    by (Is r) e s = absurd (not_one r e)
    by (Within order w) e s = absurd s
    by Nothing e s = follows_none (cell_line (items cells) lane back) back from (lane_asks cells lane back Nothing lane.second e refl ∙ ap (λ cs. turned_if back (map spot_of_cell cs)) (none_meets lane.second cells))

-- no column is asked for, of all rows
pub follows_no_column : (kind : Kind) (cells : List Cell) (lane : Lane) (back : Bool) (from : Option RowSpot) → lane.first ≡ Any → ServesColumns kind lane.first lane.second → ((c : Elem) → lane.second ≡ Is c → ⊥) → (lane.second ≡ Any → ⊥)
    → Follows (cell_line (items cells) lane back) from None
follows_no_column kind cells lane back from any serves not_one not_any = by lane.second refl (subst (λ ask. ServesColumns kind ask lane.second) any serves)
  where
    by : (ask : PartAsk) → lane.second ≡ ask → ServesColumns kind Any ask → Follows (cell_line (items cells) lane back) from None
    by Any e s = absurd (not_any e)
    by (Is r) e s = absurd (not_one r e)
    by (Within order w) e s = absurd s
    by Nothing e s = follows_none (cell_line (items cells) lane back) back from (lane_asks cells lane back lane.first Nothing refl e ∙ ap (λ cs. turned_if back (map spot_of_cell cs)) (none_meets_column lane.first cells))
