-- The row at a spot is the one that it marks.
use Rattle.std.proofs.Common.{◌≡◌, ℕ, ◌+◌, true, false, cond, ◌&&◌, List, [], ◌∷◌, length, map, ap, ◌∙◌, arith}
use Rattle.std.specs.Prelude.{Option, Some, option_map}
use Rattle.std.specs.List.{IsDistinct, AllByRecursion}
use Rattle.std.specs.Cmp.{nat_eq_equiv}
use Rattle.elem.specs.ElementLaws.{same_equiv}
use Rattle.vocabulary.specs.declared.items.Item.{Item}
use Rattle.machine.specs.Candidates.{Candidate, of_rows}
use Rattle.view_laws.specs.declared.places.Found.{Found}
use Rattle.view_laws.specs.declared.places.Place.{Place}
use Rattle.view_laws.specs.declared.places.RowSpot.{RowSpot}
use Rattle.view_laws.specs.declared.places.RowSpot.TheVariants.{Index, Key, Pair, Cell, Nth}
use Rattle.view_laws.specs.Places.{found_in, found_row}
use Rattle.view_laws.specs.Spots.{row_at, same_spot, TellRows}
use Rattle.view_laws.specs.ViewPlaces.{place_of}
use Rattle.view_laws.proofs.ZipLemmas.{Zipped}

pub same_spot-refl : (s : RowSpot) → same_spot s s ≡ true
same_spot-refl (Index i) = nat_eq_equiv.refl i
same_spot-refl (Key k) = same_equiv.refl k
same_spot-refl (Pair i) = nat_eq_equiv.refl i
same_spot-refl (Cell r c) = λ i. same_equiv.refl r i && same_equiv.refl c i
same_spot-refl (Nth x j) = λ i. same_equiv.refl x i && nat_eq_equiv.refl j i

-- what stands at a place of a candidate
abbrev pub Stands : (Place → Option Found) → Place → Candidate → Type 0
Stands at p c = at p ≡ Some (found_in c)

-- rows after others that have other spots
abbrev behind : RowSpot → Item → (Place → Option Found) → Place → Option Found
behind t row at p = cond (same_spot t p.spot) (Some (found_row row)) (at p)

abbrev rows_at : List RowSpot → List Item → Place → Option Found
rows_at spots rows p = option_map found_row (row_at spots rows p.spot)

found_next : (t : RowSpot) (row : Item) (spots : List RowSpot) (rows : List Item) (s : RowSpot) → same_spot t s ≡ false → rows_at (t ∷ spots) (row ∷ rows) (place_of s) ≡ rows_at spots rows (place_of s)
found_next t row spots rows s e = ap (λ b. option_map found_row (cond b (Some row) (row_at spots rows s))) e

all_next : (t : RowSpot) (row : Item) (n : ℕ) (whole : List RowSpot) (all : List Item) (spots : List RowSpot) (rows : List Item) → AllByRecursion (λ s. same_spot t s ≡ false) spots
    → Zipped (Stands (rows_at whole all)) (map place_of spots) (of_rows n rows) → Zipped (Stands (rows_at (t ∷ whole) (row ∷ all))) (map place_of spots) (of_rows n rows)
all_next t row n whole all [] [] apart z = tt
all_next t row n whole all [] (r ∷ rows) apart z = absurd z
all_next t row n whole all (s ∷ spots) [] apart z = absurd z
all_next t row n whole all (s ∷ spots) (r ∷ rows) apart z = (found_next t row whole all s apart.0 ∙ z.0, all_next t row (n + 1) whole all spots rows apart.1 z.1)

rows_stand : (n : ℕ) (spots : List RowSpot) (rows : List Item) → length spots ≡ length rows → IsDistinct same_spot spots → Zipped (Stands (rows_at spots rows)) (map place_of spots) (of_rows n rows)
unfolding IsDistinct
rows_stand n [] [] many apart = tt
rows_stand n [] (row ∷ rows) many apart = absurd (omega arith)
rows_stand n (s ∷ spots) [] many apart = absurd (omega arith)
rows_stand n (s ∷ spots) (row ∷ rows) many apart = (
  ap (λ b. option_map found_row (cond b (Some row) (row_at spots rows s))) (same_spot-refl s),
  all_next s row (n + 1) spots rows spots rows apart.0 (rows_stand (n + 1) spots rows (omega arith) apart.1),
)

-- the rows of a base stand at their spots
pub base_stands : (spots : List RowSpot) (rows : List Item) → TellRows spots rows → Zipped (Stands (λ p. option_map found_row (row_at spots rows p.spot))) (map place_of spots) (of_rows 0 rows)
base_stands spots rows tell = rows_stand 0 spots rows tell.as_many tell.apart
