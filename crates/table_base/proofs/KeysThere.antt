-- A key read from rows is there.
use Rattle.std.proofs.Common.{◌≡◌, Bool, true, false, cond, List, [], ◌∷◌, Option, Some, None, refl, ap, ◌∙◌, subst}
use Rattle.std.specs.Prelude.{IsSome, is_some}
use Rattle.std.specs.List.{filter}
use Rattle.std.specs.Map.{keys_of}
use Rattle.elem.specs.declared.elements.Elem.{Elem}
use Rattle.elem.specs.declared.cuts.Cut.TheVariants.{Start, End}
use Rattle.elem.specs.Elements.{same}
use Rattle.elem.specs.ElementLaws.{same_equiv}
use Rattle.elem.specs.Keyed.{value_at, IsPresent}
use Rattle.elem.specs.Orders.{natural_before}
use Rattle.elem.specs.Rows.{first_key, last_key, last_key_or, key_after, key_before, key_before_or}
use Rattle.plain_base.specs.Sorted.{rows_between}

module _ {V : Type 0} where
  here : (row : Elem × V) (rows : List (Elem × V)) (k : Elem) → Some row.0 ≡ Some k → IsPresent (row ∷ rows) k
  here row rows k e = let equal : row.0 ≡ k = cc in subst (λ x. IsPresent (row ∷ rows) x) equal (ap (λ b. is_some (cond b (Some row.1) (value_at rows row.0))) (same_equiv.refl row.0))

  later : (row : Elem × V) (rows : List (Elem × V)) (k : Elem) → IsPresent rows k → IsPresent (row ∷ rows) k
  later row rows k h = by_case (same k row.0)
    where
      by_case : (b : Bool) → IsSome (cond b (Some row.1) (value_at rows k))
      by_case true = refl
      by_case false = h

  pub first_there : (rows : List (Elem × V)) (k : Elem) → first_key rows ≡ Some k → IsPresent rows k
  first_there [] k e = absurd (cc)
  first_there (row ∷ rows) k e = here row rows k e

  last_from : (row : Elem × V) (rows : List (Elem × V)) (k : Elem) → last_key_or (Some row.0) rows ≡ Some k → IsPresent (row ∷ rows) k
  last_from row [] k e = here row [] k e
  last_from row (next ∷ rows) k e = later row (next ∷ rows) k (last_from next rows k e)

  pub last_there : (rows : List (Elem × V)) (k : Elem) → last_key rows ≡ Some k → IsPresent rows k
  last_there [] k e = absurd (cc)
  last_there (row ∷ rows) k e = last_from row rows k e

  pub after_there : (test : Elem → Bool) (rows : List (Elem × V)) (k : Elem) → key_after test rows ≡ Some k → IsPresent rows k
  after_there test [] k e = absurd (cc)
  after_there test (row ∷ rows) k e = later row rows k (by_case (test row.0) e (after_there test rows k))
    where
      by_case : (b : Bool) → cond b (first_key rows) (key_after test rows) ≡ Some k → (key_after test rows ≡ Some k → IsPresent rows k) → IsPresent rows k
      by_case true f ih = first_there rows k f
      by_case false f ih = ih f

  before_from : (test : Elem → Bool) (row : Elem × V) (rows : List (Elem × V)) (k : Elem) → key_before_or (Some row.0) test rows ≡ Some k → IsPresent (row ∷ rows) k
  before_from test row [] k e = absurd (cc)
  before_from test row (next ∷ rows) k e = by_case (test next.0) e (before_from test next rows k)
    where
      by_case : (b : Bool) → cond b (Some row.0) (key_before_or (Some next.0) test rows) ≡ Some k → (key_before_or (Some next.0) test rows ≡ Some k → IsPresent (next ∷ rows) k) → IsPresent (row ∷ next ∷ rows) k
      by_case true f ih = here row (next ∷ rows) k f
      by_case false f ih = later row (next ∷ rows) k (ih f)

  pub before_there : (test : Elem → Bool) (rows : List (Elem × V)) (k : Elem) → key_before test rows ≡ Some k → IsPresent rows k
  before_there test [] k e = absurd (cc)
  before_there test (row ∷ rows) k e = by_case (test row.0) e
    where
      by_case : (b : Bool) → cond b None (key_before_or (Some row.0) test rows) ≡ Some k → IsPresent (row ∷ rows) k
      by_case true f = absurd (cc)
      by_case false f = before_from test row rows k f

  pub part_there : (test : Elem × V → Bool) (rows : List (Elem × V)) (k : Elem) → IsPresent (filter test rows) k → IsPresent rows k
  part_there test [] k h = h
  part_there test (row ∷ rows) k h = by_case (test row) h (part_there test rows k)
    where
      by_key : (s : Bool) → IsSome (cond s (Some row.1) (value_at (filter test rows) k)) → (IsPresent (filter test rows) k → IsPresent rows k) → IsSome (cond s (Some row.1) (value_at rows k))
      by_key true i ih = refl
      by_key false i ih = ih i

      by_case : (b : Bool) → IsPresent (cond b (row ∷ filter test rows) (filter test rows)) k → (IsPresent (filter test rows) k → IsPresent rows k) → IsPresent (row ∷ rows) k
      by_case true i ih = by_key (same k row.0) i ih
      by_case false i ih = later row rows k (ih i)

  pub whole_part : (rows : List (Elem × V)) → rows_between natural_before Start End rows ≡ rows
  whole_part [] = refl
  whole_part (row ∷ rows) = ap (λ (l : List (Elem × V)). row ∷ l) (whole_part rows)

-- what is read from the keys alone
module _ {A B : Type 0} where
  last_or_of_keys : (o : Option Elem) (xs : List (Elem × A)) (ys : List (Elem × B)) → keys_of xs ≡ keys_of ys → last_key_or o xs ≡ last_key_or o ys
  last_or_of_keys o [] [] e = refl
  last_or_of_keys o [] (y ∷ ys) e = cc
  last_or_of_keys o (x ∷ xs) [] e = cc
  last_or_of_keys o (x ∷ xs) (y ∷ ys) e =
      let f : x.0 ≡ y.0 = cc in
      let g : keys_of xs ≡ keys_of ys = cc in
      last_or_of_keys (Some x.0) xs ys g ∙ ap (λ z. last_key_or (Some z) ys) f

  pub last_of_keys : (xs : List (Elem × A)) (ys : List (Elem × B)) → keys_of xs ≡ keys_of ys → last_key xs ≡ last_key ys
  last_of_keys xs ys e = last_or_of_keys None xs ys e

  before_or_of_keys : (o : Option Elem) (test : Elem → Bool) (xs : List (Elem × A)) (ys : List (Elem × B)) → keys_of xs ≡ keys_of ys → key_before_or o test xs ≡ key_before_or o test ys
  before_or_of_keys o test [] [] e = refl
  before_or_of_keys o test [] (y ∷ ys) e = cc
  before_or_of_keys o test (x ∷ xs) [] e = cc
  before_or_of_keys o test (x ∷ xs) (y ∷ ys) e =
      let f : x.0 ≡ y.0 = cc in
      let g : keys_of xs ≡ keys_of ys = cc in
      ap (λ l. cond (test x.0) o l) (before_or_of_keys (Some x.0) test xs ys g) ∙ ap (λ z. cond (test z) o (key_before_or (Some z) test ys)) f

  pub before_of_keys : (test : Elem → Bool) (xs : List (Elem × A)) (ys : List (Elem × B)) → keys_of xs ≡ keys_of ys → key_before test xs ≡ key_before test ys
  before_of_keys test xs ys e = before_or_of_keys None test xs ys e
