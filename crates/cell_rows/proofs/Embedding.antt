-- Lines of spots that are lines of keys: of columns, of rows, or of both.
use Rattle.std.proofs.Common.{◌≡◌, ℕ, ◌+◌, List, map, refl, ap, sym, ◌∙◌, subst}
use Rattle.std.specs.Prelude.{slice_get, Option, Some, None, option_map, option_and_then}
use Rattle.std.proofs.lemmas.Option.{slice_get-map}
use Rattle.view_laws.specs.declared.places.RowSpot.{RowSpot}
use Rattle.view_laws.specs.Following.{Follows, IsFrom}

-- a key becomes a spot, from which it is read again
module _ {K : Type 0} (spot : K → RowSpot) (key : RowSpot → Option K) (back_again : (k : K) → key (spot k) ≡ Some k) where
  inside : (o : Option K) (s : RowSpot) → option_map spot o ≡ Some s → (o ≡ key s) × (Some s ≡ option_map spot (key s))
  inside None s h = absurd (cc)
  inside (Some k) s h =
      let own : Some k ≡ key s = sym (back_again k) ∙ ap (option_and_then key) h in
      (own, sym h ∙ ap (option_map spot) own)

  spot_there : (ks : List K) (i : ℕ) (s : RowSpot) → slice_get (map spot ks) i ≡ Some s → (slice_get ks i ≡ key s) × (Some s ≡ option_map spot (key s))
  spot_there ks i s is = inside (slice_get ks i) s (sym (slice_get-map spot ks i) ∙ is)

  key_there : (ks : List K) (i : ℕ) (k : K) → slice_get (map spot ks) i ≡ Some (spot k) → slice_get ks i ≡ Some k
  key_there ks i k is = (spot_there ks i (spot k) is).0 ∙ back_again k

  read : (o : Option K) (s : RowSpot) → Some s ≡ option_map spot o → (k : K) × (o ≡ Some k)
  read None s h = absurd (cc)
  read (Some k) s h = (k, refl)

  from_keys : (ks : List K) (from : Option RowSpot) → IsFrom (map spot ks) from → IsFrom ks (option_and_then key from) × (from ≡ option_map spot (option_and_then key from))
  from_keys ks None h = (tt, refl)
  from_keys ks (Some s) h =
      let at = spot_there ks h.0 s h.1 in
      let own = read (key s) s at.1 in
      (subst (IsFrom ks) (sym own.1) (h.0, at.0 ∙ own.1), at.1)

  follows_keys : (ks : List K) (from to : Option K) → Follows ks from to → Follows (map spot ks) (option_map spot from) (option_map spot to)
  follows_keys ks None to h = slice_get-map spot ks 0 ∙ ap (option_map spot) h
  follows_keys ks (Some k) to h = λ i is. slice_get-map spot ks (i + 1) ∙ ap (option_map spot) (h i (key_there ks i k is))

  -- a line of spots that is one of keys
  module _ (line : List RowSpot) (ks : List K) (are : line ≡ map spot ks) (from : Option RowSpot) (stands : IsFrom line from) where
    pub from_in : IsFrom ks (option_and_then key from)
    from_in = (from_keys ks from (subst (λ spots. IsFrom spots from) are stands)).0

    pub follows_in : (to : Option K) → Follows ks (option_and_then key from) to → Follows line from (option_map spot to)
    follows_in to h =
        let at = from_keys ks from (subst (λ spots. IsFrom spots from) are stands) in
        subst (λ spots. Follows spots from (option_map spot to)) (sym are) (subst (λ f. Follows (map spot ks) f (option_map spot to)) (sym at.1) (follows_keys ks (option_and_then key from) to h))
