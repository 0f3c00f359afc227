-- The form of the items that a view of a shape shows, and the laws that they have it.
use Rattle.std.specs.Prelude.{◌≡◌, Bool, true, false, ◌||◌, Some}
use Rattle.std.specs.List.{AllByRecursion}
use Rattle.vocabulary.specs.declared.items.Item.{Item}
use Rattle.vocabulary.specs.declared.items.Item.TheVariants.{Counted, Group, Piece, Range, RangeEntry, Pair}
use Rattle.vocabulary.specs.declared.shapes.RowSort.{RowSort}
use Rattle.vocabulary.specs.declared.shapes.RowSort.TheVariants as rows
use Rattle.vocabulary.specs.declared.shapes.Shape.{Shape}
use Rattle.vocabulary.specs.declared.shapes.Shape.TheVariants as shape
use Rattle.vocabulary.specs.Kinds.{shape_of_kind}
use Rattle.machine.specs.Bases.{World}
use Rattle.machine.specs.Candidates.{Candidate}
use Rattle.machine.specs.Graphs.{is_edge}
use Rattle.machine.specs.Leaves.{leaf_at}
use Rattle.machine.specs.MadeViews.{IsMade}
use Rattle.machine.specs.Views.{View, base, both, over, candidates, shape_at}
use Rattle.view_laws.specs.declared.places.Found.{Found}
use Rattle.view_laws.specs.declared.places.Place.{Place}
use Rattle.view_laws.specs.LookUps.{is_one}
use Rattle.view_laws.specs.Narrowing.{is_cell, is_entry}
use Rattle.view_laws.specs.Spots.{Spots}
use Rattle.view_laws.specs.ViewPlaces.{show}

abbrev pub is_counted : Item → Bool
is_counted (Counted x n) = true
is_counted other = false

abbrev pub is_group : Item → Bool
is_group (Group k) = true
is_group other = false

abbrev pub is_piece : Item → Bool
is_piece (Piece i) = true
is_piece other = false

abbrev pub is_range : Item → Bool
is_range (Range s) = true
is_range other = false

abbrev pub is_range_entry : Item → Bool
is_range_entry (RangeEntry s v) = true
is_range_entry other = false

abbrev pub is_pair : Item → Bool
is_pair (Pair a b) = true
is_pair other = false

-- the form of rows that are no elements
abbrev pub is_row : RowSort → Item → Bool
is_row rows.Entry item = is_entry item
is_row rows.MultiEntry item = is_entry item
is_row rows.Group item = is_group item
is_row rows.Counted item = is_counted item
is_row rows.Cell item = is_cell item
is_row rows.Range item = is_range item
is_row rows.RangeEntry item = is_range_entry item
is_row (rows.Pair directed) item = is_pair item

-- whether an item is one that a view of a shape may show
abbrev pub has_form : Shape → Item → Bool
has_form shape.List item = is_one item
has_form (shape.Set sorted) item = is_one item
has_form shape.Coll item = is_one item
has_form (shape.Rows sort) item = is_row sort item
has_form (shape.Map sorted) item = is_entry item
has_form (shape.Groups of) item = is_group item
has_form (shape.Bag sorted) item = is_one item
has_form shape.BiMap item = is_entry item
has_form (shape.Multimap of sorted) item = is_entry item
has_form (shape.Table mirrored sorted) item = is_cell item
has_form shape.Pieces item = is_piece item
has_form shape.RangeSet item = is_range item
has_form shape.RangeMap item = is_range_entry item
has_form (shape.Graph directed) item = is_one item || is_edge item
has_form (shape.Builder kind) item = true

-- the rows of each leaf under a view have the form of its shape
abbrev pub RowsFit : World → View → Type 0
RowsFit world (base l) = AllByRecursion (λ (row : Item). has_form (shape_of_kind (leaf_at world l).kind) row ≡ true) (leaf_at world l).rows
RowsFit world (over step v) = RowsFit world v
RowsFit world (both word v u) = RowsFit world v × RowsFit world u

abbrev pub is_pieces : Shape → Bool
is_pieces shape.Pieces = true
is_pieces other = false

-- whether a step stands on pieces; a piece stands on the list under them
abbrev pub stands_on_pieces : World → View → Bool
stands_on_pieces world (base l) = false
stands_on_pieces world (over step v) = is_pieces (shape_at world v) || stands_on_pieces world v
stands_on_pieces world (both word v u) = stands_on_pieces world v || stands_on_pieces world u

-- a view as it is made, over rows of their forms
pub record IsFormed (world : World) (v : View) : Type 0 where
  pub made : IsMade world v
  pub apart : stands_on_pieces world v ≡ false
  pub rows : RowsFit world v

-- the item of each candidate is one that the view may show
abbrev pub ItemsFit : Type 0
ItemsFit = (world : World) (v : View) → IsFormed world v → AllByRecursion (λ (c : Candidate). has_form (shape_at world v) c.item ≡ true) (candidates world v)

-- so is what it has at a place
abbrev pub ShowFits : Type 0
ShowFits = (world : World) (spots : Spots) (v : View) (p : Place) (d : Found) → IsFormed world v → show world spots v p ≡ Some d → has_form (shape_at world v) d.item ≡ true
