-- What finds the places of cells, row by row: a cell put in, one taken out, and one written in its place.
use Rattle.std.proofs.Common.{◌≡◌, ◌≢◌, ℕ, Bool, true, false, cond, List, [], ◌∷◌, ◌++◌, length, Option, Some, None, refl, sym, ap, ◌∙◌, subst, arith, length-append}
use Rattle.std.specs.Option.{option_map}
use Rattle.std.specs.List.{cons_option, IsDistinct}
use Rattle.std.specs.Map.{lookup, keys_of}
use Rattle.std.proofs.lemmas.List.Elements.{filter-append}
use Rattle.elem.specs.declared.elements.Elem.{Elem}
use Rattle.elem.specs.Elements.{same}
use Rattle.elem.specs.ElementLaws.{same-Decides, same_equiv}
use Rattle.linked_base.specs.Thread.{Avoids}
use Rattle.linked_base.specs.Group.{has, of_key}
use Rattle.linked_base.specs.Places.{keyed, IsIndexed}
use Rattle.linked_base.proofs.ThreadLemmas.{avoids_cut}
use Rattle.linked_base.proofs.GroupLemmas.{avoids_filter, filter_beside, key_beside, own_cut}
use Rattle.linked_base.proofs.PlacesLemmas.{There, rows_beside}
use Rattle.linked_base.proofs.IdLemmas.{there_filter}
use Rattle.linked_base.proofs.KeyedLemmas.{keyed_at, keyed_keys, absent_row, indexed_with, indexed_without}
use Rattle.table_base.specs.CellNodes.{AreFound}

module _ {V : Type 0} (at new : ℕ → Option (Elem × V)) (find found : Elem → Option ℕ) where
  -- an index kept, where its rows are
  pub indexed_beside : (q len : ℕ) (ps : List ℕ) → ((p : ℕ) → p ≢ q → new p ≡ at p) → Avoids (Some q) ps → ((z : Elem) → found z ≡ find z) → IsIndexed at find len ps → IsIndexed new found len ps
  indexed_beside q len ps others a finds h = record {
    exact = λ z. finds z ∙ h.exact z ∙ sym (ap (lookup (same z)) (rows_beside (keyed_at at) (keyed_at new) q ps (λ p d. ap (option_map (λ (r : Elem × V). (r.0, p))) (others p d)) a));
    count = h.count;
    distinct = subst (λ rs. IsDistinct same (keys_of rs)) (sym (rows_beside at new q ps others a)) h.distinct;
  }

  -- or only their values change
  pub indexed_written : (len : ℕ) (ps : List ℕ) → ((p : ℕ) → keyed_at new p ≡ keyed_at at p) → There at ps → There new ps → ((z : Elem) → found z ≡ find z) → IsIndexed at find len ps → IsIndexed new found len ps
  indexed_written len ps kept there after finds h =
      let same_places : keyed new ps ≡ keyed at ps = pointwise ps in
      record {
        exact = λ z. finds z ∙ h.exact z ∙ sym (ap (lookup (same z)) same_places);
        count = h.count;
        distinct = subst (IsDistinct same) (sym (keyed_keys at ps there) ∙ ap keys_of (sym same_places) ∙ keyed_keys new ps after) h.distinct;
      }
    where
      pointwise : (xs : List ℕ) → keyed new xs ≡ keyed at xs
      pointwise [] = refl
      pointwise (x ∷ xs) = λ i. cons_option (kept x i) (pointwise xs i)

module _ (key new_key : ℕ → Option Elem) (rest new_rest : ℕ → Option (Elem × Elem)) (find found : Elem → Elem → Option ℕ) (us : List ℕ) (q : ℕ) (vs : List ℕ) (k x v : Elem)
    (beside : Avoids (Some q) (us ++ vs)) (keys : (p : ℕ) → p ≢ q → new_key p ≡ key p) (rests : (p : ℕ) → p ≢ q → new_rest p ≡ rest p) where
  parts : (y : Elem) → of_key key y (us ++ vs) ≡ of_key key y us ++ of_key key y vs
  parts y = filter-append (λ p. has y (key p)) us vs

  same_front : (y : Elem) → of_key new_key y us ≡ of_key key y us
  same_front y = filter_beside (λ p. has y (key p)) (λ p. has y (new_key p)) q us (λ p d. ap (has y) (keys p d)) (avoids_cut (Some q) us vs beside).0

  same_back : (y : Elem) → of_key new_key y vs ≡ of_key key y vs
  same_back y = filter_beside (λ p. has y (key p)) (λ p. has y (new_key p)) q vs (λ p d. ap (has y) (keys p d)) (avoids_cut (Some q) us vs beside).1

  there_parts : There rest (us ++ vs) → (y : Elem) → There rest (of_key key y us ++ of_key key y vs)
  there_parts all y = subst (There rest) (parts y) (there_filter rest (λ p. has y (key p)) (us ++ vs) all)

  -- the list of another row
  off_row : (g : ℕ → Option Elem) (y : Elem) → g q ≡ Some k → same k y ≡ false → of_key g y (us ++ q ∷ vs) ≡ of_key g y us ++ of_key g y vs
  off_row g y here f = filter-append (λ p. has y (g p)) us (q ∷ vs) ∙ ap (λ o. of_key g y us ++ cond (has y o) (q ∷ of_key g y vs) (of_key g y vs)) here ∙ ap (λ b. of_key g y us ++ cond b (q ∷ of_key g y vs) (of_key g y vs)) (same_equiv.symm y k ∙ f)

  module _ (o : Option ℕ) (finds : (y z : Elem) → found y z ≡ cond (same k y) (cond (same x z) o (find y z)) (find y z)) where
    own_finds : (z : Elem) → found k z ≡ cond (same x z) o (find k z)
    own_finds z = finds k z ∙ ap (λ b. cond b (cond (same x z) o (find k z)) (find k z)) (same_equiv.refl k)

    other_finds : (y : Elem) → same k y ≡ false → (z : Elem) → found y z ≡ find y z
    other_finds y f z = finds y z ∙ ap (λ b. cond b (cond (same x z) o (find y z)) (find y z)) f

  pub found_with : new_key q ≡ Some k → new_rest q ≡ Some (x, v) → ((y z : Elem) → found y z ≡ cond (same k y) (cond (same x z) (Some q) (find y z)) (find y z)) → There rest (us ++ vs) → find k x ≡ None → AreFound key rest find (us ++ vs) → AreFound new_key new_rest found (us ++ q ∷ vs)
  found_with here its finds all absent h y = each (same k y) refl
    where
      own : IsIndexed rest (find k) (length (of_key key k us ++ of_key key k vs)) (of_key key k us ++ of_key key k vs)
      own = subst (λ l. IsIndexed rest (find k) (length l) l) (parts k) (h k)

      grown : IsIndexed new_rest (found k) (length (of_key key k us ++ q ∷ of_key key k vs)) (of_key key k us ++ q ∷ of_key key k vs)
      grown =
          let ru = of_key key k us in
          let rv = of_key key k vs in
          indexed_with rest new_rest (find k) (found k) (length (ru ++ rv)) (length (ru ++ q ∷ rv)) ru q rv rests (key_beside key us q vs k beside) x v (there_parts all k) its
          (absent_row rest (same x) (ru ++ rv) (there_parts all k) (sym (own.exact x) ∙ absent)) (own_finds (Some q) finds) (omega (arith, length-append ru rv, length-append ru (q ∷ rv))) own

      each : (b : Bool) → same k y ≡ b → IsIndexed new_rest (found y) (length (of_key new_key y (us ++ q ∷ vs))) (of_key new_key y (us ++ q ∷ vs))
      each true t =
          subst (λ z. IsIndexed new_rest (found z) (length (of_key new_key z (us ++ q ∷ vs))) (of_key new_key z (us ++ q ∷ vs))) ((same-Decides k y).0 t)
          (subst (λ l. IsIndexed new_rest (found k) (length l) l) (sym (own_cut new_key us q vs k here ∙ (λ i. same_front k i ++ q ∷ same_back k i))) grown)
      each false f =
          subst (λ l. IsIndexed new_rest (found y) (length l) l) (sym (off_row new_key y here f ∙ (λ i. same_front y i ++ same_back y i) ∙ sym (parts y)))
          (indexed_beside rest new_rest (find y) (found y) q (length (of_key key y (us ++ vs))) (of_key key y (us ++ vs)) rests (avoids_filter (λ p. has y (key p)) (Some q) (us ++ vs) beside) (other_finds (Some q) finds y f) (h y))

  pub found_without : key q ≡ Some k → rest q ≡ Some (x, v) → ((y z : Elem) → found y z ≡ cond (same k y) (cond (same x z) None (find y z)) (find y z)) → There rest (us ++ q ∷ vs) → AreFound key rest find (us ++ q ∷ vs) → AreFound new_key new_rest found (us ++ vs)
  found_without here its finds all h y = each (same k y) refl
    where
      own : IsIndexed rest (find k) (length (of_key key k us ++ q ∷ of_key key k vs)) (of_key key k us ++ q ∷ of_key key k vs)
      own = subst (λ l. IsIndexed rest (find k) (length l) l) (own_cut key us q vs k here) (h k)

      shrunk : IsIndexed new_rest (found k) (length (of_key key k us ++ of_key key k vs)) (of_key key k us ++ of_key key k vs)
      shrunk =
          let ru = of_key key k us in
          let rv = of_key key k vs in
          indexed_without rest new_rest (find k) (found k) (length (ru ++ q ∷ rv)) (length (ru ++ rv)) ru q rv rests (key_beside key us q vs k beside) (x, v) x
          (subst (There rest) (own_cut key us q vs k here) (there_filter rest (λ p. has k (key p)) (us ++ q ∷ vs) all)) its (same_equiv.refl x) (own_finds None finds) (omega (arith, length-append ru rv, length-append ru (q ∷ rv))) own

      same_rest : (z : Elem) → of_key new_key z (us ++ vs) ≡ of_key key z us ++ of_key key z vs
      same_rest z = filter-append (λ p. has z (new_key p)) us vs ∙ (λ i. same_front z i ++ same_back z i)

      each : (b : Bool) → same k y ≡ b → IsIndexed new_rest (found y) (length (of_key new_key y (us ++ vs))) (of_key new_key y (us ++ vs))
      each true t =
          subst (λ z. IsIndexed new_rest (found z) (length (of_key new_key z (us ++ vs))) (of_key new_key z (us ++ vs))) ((same-Decides k y).0 t)
          (subst (λ l. IsIndexed new_rest (found k) (length l) l) (sym (same_rest k)) shrunk)
      each false f =
          subst (λ l. IsIndexed new_rest (found y) (length l) l) (sym (same_rest y))
          (indexed_beside rest new_rest (find y) (found y) q (length (of_key key y us ++ of_key key y vs)) (of_key key y us ++ of_key key y vs) rests (key_beside key us q vs y beside) (other_finds None finds y f)
          (subst (λ l. IsIndexed rest (find y) (length l) l) (off_row key y here f) (h y)))
