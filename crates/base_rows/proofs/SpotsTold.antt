-- The spots of the rows of a base, by index and by key, and the rows at them.
use Rattle.std.proofs.Common.{◌≡◌, ℕ, zero, suc, ◌+◌, ◌<◌, nat_eq, Bool, true, false, cond, List, [], ◌∷◌, length, map, refl, ap, sym, ◌∙◌, arith}
use Rattle.std.specs.Prelude.{slice_get, Some}
use Rattle.std.specs.List.{IsDistinct, AllByRecursion}
use Rattle.std.proofs.lemmas.Bool.Decides.{nat_tests}
use Rattle.std.proofs.lemmas.List.{length-map}
use Rattle.std.proofs.lemmas.Option.{same_Some}
use Rattle.elem.specs.declared.elements.Elem.{Elem}
use Rattle.elem.specs.Elements.{same}
use Rattle.elem.specs.ElementLaws.{same_equiv}
use Rattle.base_rows.specs.BaseSpots.{key_spot, numbered, row_of_key, SpotsTell}
use Rattle.view_laws.specs.declared.places.RowSpot.{RowSpot}
use Rattle.view_laws.specs.declared.places.RowSpot.TheVariants.{Index, Key}
use Rattle.view_laws.specs.Spots.{row_at, same_spot, TellRows}
use Rattle.vocabulary.specs.declared.items.Item.{Item}
use Rattle.vocabulary.specs.declared.items.Side.TheVariants.{First}
use Rattle.vocabulary.specs.Items.{key_of}
use Rattle.vocabulary.specs.Kinds.{shape_of_kind}
use Rattle.vocabulary.specs.Shapes.{is_keyed}

-- ---- by index

pub length-numbered : (n : ℕ) (rows : List Item) → length (numbered n rows) ≡ length rows
length-numbered n [] = refl
length-numbered n (row ∷ rows) = ap suc (length-numbered (n + 1) rows)

pub number_at : (n : ℕ) (rows : List Item) (i : ℕ) → i < length rows → slice_get (numbered n rows) i ≡ Some (Index (n + i))
number_at n [] i lt = absurd (omega arith)
number_at n (row ∷ rows) zero lt = ap (λ k. Some (Index k)) (let e : n ≡ n + 0 = omega arith in e)
number_at n (row ∷ rows) (suc i) lt = number_at (n + 1) rows i (omega arith) ∙ ap (λ k. Some (Index k)) (let e : n + 1 + i ≡ n + suc i = omega arith in e)

pub at_index : (rows : List Item) (n i : ℕ) (s : RowSpot) → slice_get (numbered n rows) i ≡ Some s → (s ≡ Index (n + i)) × (i < length rows)
at_index [] n i s e = absurd (cc)
at_index (row ∷ rows) n zero s e = (sym (same_Some (Index n) s e) ∙ ap Index (let h : n ≡ n + 0 = omega arith in h), omega arith)
at_index (row ∷ rows) n (suc i) s e =
    let rest = at_index rows (n + 1) i s e in
    (rest.0 ∙ ap Index (let h : n + 1 + i ≡ n + suc i = omega arith in h), (let h : suc i < suc (length rows) = omega (arith, rest.1) in h))

here : (n : ℕ) → nat_eq n (n + 0) ≡ true
here n = grind (arith, nat_tests)

not_here : (n i : ℕ) → nat_eq n (n + suc i) ≡ false
not_here n i = grind (arith, nat_tests)

row_from : (n : ℕ) (rows : List Item) (i : ℕ) → row_at (numbered n rows) rows (Index (n + i)) ≡ slice_get rows i
row_from n [] i = refl
row_from n (row ∷ rows) zero = ap (λ b. cond b (Some row) (row_at (numbered (n + 1) rows) rows (Index (n + 0)))) (here n)
row_from n (row ∷ rows) (suc i) =
    ap (λ b. cond b (Some row) (row_at (numbered (n + 1) rows) rows (Index (n + suc i)))) (not_here n i)
    ∙ ap (λ k. row_at (numbered (n + 1) rows) rows (Index k)) (let e : n + suc i ≡ n + 1 + i = omega arith in e) ∙ row_from (n + 1) rows i

pub row_at_index : (rows : List Item) (i : ℕ) → row_at (numbered 0 rows) rows (Index i) ≡ slice_get rows i
row_at_index rows i = ap (λ k. row_at (numbered 0 rows) rows (Index k)) (let e : i ≡ 0 + i = omega arith in e) ∙ row_from 0 rows i

-- ---- by key

pub at_key : (rows : List Item) (i : ℕ) (s : RowSpot) → slice_get (map key_spot rows) i ≡ Some s → (k : Elem) × (s ≡ Key k)
at_key [] i s e = absurd (cc)
at_key (row ∷ rows) zero s e = (key_of row, sym (same_Some (key_spot row) s e))
at_key (row ∷ rows) (suc i) s e = at_key rows i s e

pub row_at_key : (rows : List Item) (k : Elem) → row_at (map key_spot rows) rows (Key k) ≡ row_of_key rows k
row_at_key [] k = refl
row_at_key (row ∷ rows) k = (λ i. cond (same_equiv.symm (key_of row) k i) (Some row) (row_at_key rows k i))

-- ---- they tell the rows apart

others : (n m : ℕ) (rows : List Item) → n < m → AllByRecursion (λ s. same_spot (Index n) s ≡ false) (numbered m rows)
others n m [] lt = tt
others n m (row ∷ rows) lt = (not_same lt, others n (m + 1) rows (omega arith))
  where
    not_same : n < m → nat_eq n m ≡ false
    not_same h = grind (arith, nat_tests)

numbers_apart : (n : ℕ) (rows : List Item) → IsDistinct same_spot (numbered n rows)
unfolding IsDistinct
numbers_apart n [] = tt
numbers_apart n (row ∷ rows) = (others n (n + 1) rows (omega arith), numbers_apart (n + 1) rows)

other_keys : (k : Elem) (rows : List Item) → AllByRecursion (λ l. same k l ≡ false) (map key_of rows) → AllByRecursion (λ s. same_spot (Key k) s ≡ false) (map key_spot rows)
other_keys k [] h = tt
other_keys k (row ∷ rows) h = (h.0, other_keys k rows h.1)

keys_apart : (rows : List Item) → IsDistinct same (map key_of rows) → IsDistinct same_spot (map key_spot rows)
unfolding IsDistinct
keys_apart [] d = tt
keys_apart (row ∷ rows) d = (other_keys (key_of row) rows d.0, keys_apart rows d.1)

pub spots_tell : SpotsTell
spots_tell it keys = by (is_keyed (shape_of_kind it.kind)) (keys First)
  where
    by : (b : Bool) → (b ≡ true → IsDistinct same (map key_of it.rows)) → TellRows (cond b (map key_spot it.rows) (numbered 0 it.rows)) it.rows
    by true d = record { as_many = length-map it.rows key_spot; apart = keys_apart it.rows (d refl) }
    by false d = record { as_many = length-numbered 0 it.rows; apart = numbers_apart 0 it.rows }
