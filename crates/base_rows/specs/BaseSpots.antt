-- What tells the rows of a base from one another: the index in a list, the key in a set or a map.
use Rattle.std.specs.Prelude.{◌≡◌, ℕ, ◌+◌, true, cond, List, [], ◌∷◌, map, find, Option, Some, slice_get}
use Rattle.std.specs.List.{IsDistinct}
use Rattle.elem.specs.declared.elements.Elem.{Elem}
use Rattle.elem.specs.Elements.{same}
use Rattle.vocabulary.specs.declared.items.Item.{Item}
use Rattle.vocabulary.specs.declared.kinds.Kind.{Kind}
use Rattle.vocabulary.specs.declared.items.Side.{Side}
use Rattle.vocabulary.specs.declared.items.Side.TheVariants.{First}
use Rattle.vocabulary.specs.Items.{key_of, part_of}
use Rattle.vocabulary.specs.Kinds.{shape_of_kind}
use Rattle.vocabulary.specs.Shapes.{is_keyed, is_unique}
use Rattle.machine.specs.Bases.{Base}
use Rattle.view_laws.specs.declared.places.RowSpot.{RowSpot}
use Rattle.view_laws.specs.declared.places.RowSpot.TheVariants.{Index, Key}
use Rattle.view_laws.specs.Spots.{TellRows}

abbrev pub key_spot : Item → RowSpot
key_spot row = Key (key_of row)

-- one spot for each row, the first of which has the index n
abbrev pub numbered : ℕ → List Item → List RowSpot
numbered n [] = []
numbered n (row ∷ rows) = Index n ∷ numbered (n + 1) rows

-- the spots of the rows of a base
abbrev pub spots_of : Kind → List Item → List RowSpot
spots_of kind rows = cond (is_keyed (shape_of_kind kind)) (map key_spot rows) (numbered 0 rows)

-- no two rows of a base that goes by key have the same key, nor two pairs of a bimap the same value
abbrev pub HasKeys : Base → Type 0
HasKeys it = (side : Side) → is_unique (shape_of_kind it.kind) side ≡ true → IsDistinct same (map (part_of side) it.rows)

-- so the spots tell them apart
abbrev pub SpotsTell : Type 0
SpotsTell = (it : Base) → HasKeys it → TellRows (spots_of it.kind it.rows) it.rows

-- the row that has an element in a part, and that of a key
abbrev pub row_of_part : Side → List Item → Elem → Option Item
row_of_part side rows x = find (λ row. same x (part_of side row)) rows

abbrev pub row_of_key : List Item → Elem → Option Item
row_of_key rows k = row_of_part First rows k

-- the numbers of the one row at a spot
pub record IsRowAt (spots : List RowSpot) (s : RowSpot) (numbers : List ℕ) : Type 0 where
  pub number : ℕ
  pub only : numbers ≡ number ∷ []
  pub at : slice_get spots number ≡ Some s
