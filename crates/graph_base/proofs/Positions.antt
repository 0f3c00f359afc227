-- Rows of distinct keys by their number.
use Rattle.std.proofs.Common.{◌≡◌, ℕ, zero, suc, Bool, true, false, cond, List, [], ◌∷◌, Some, refl, sym, ap, ◌∙◌, slice_get}
use Rattle.std.specs.Option.{option_map}
use Rattle.std.specs.Cmp.{IsEquivalence}
use Rattle.std.specs.List.{IsDistinct, AllByRecursion}
use Rattle.std.specs.Map.{lookup, keys_of}
use Rattle.elem.specs.Rows.{first_key, key_after}

module _ {K V : Type 0} where
  abbrev pub key_of : K × V → K
  key_of r = r.0

  pub first_nth : (rows : List (K × V)) → first_key rows ≡ option_map key_of (slice_get rows 0)
  first_nth [] = refl
  first_nth (r ∷ rows) = refl

module _ {K V : Type 0} (eq : K → K → Bool) (laws : IsEquivalence eq) where
  other_key : (q : K) (rows : List (K × V)) (k : ℕ) (r : K × V) → AllByRecursion (λ y. eq q y ≡ false) (keys_of rows) → slice_get rows k ≡ Some r → eq r.0 q ≡ false
  other_key q [] k r h e = absurd (cc)
  other_key q (s ∷ rows) zero r h e = let equal : s ≡ r = cc in laws.symm r.0 q ∙ ap (λ (x : K × V). eq q x.0) (sym equal) ∙ h.0
  other_key q (s ∷ rows) (suc k) r h e = other_key q rows k r h.1 e

  own_key : (r s : K × V) → s ≡ r → eq r.0 s.0 ≡ true
  own_key r s e = ap (λ (x : K × V). eq r.0 x.0) e ∙ laws.refl r.0

  -- the key after that of row number k
  pub nth_after : (rows : List (K × V)) (k : ℕ) (r : K × V) → IsDistinct eq (keys_of rows) → slice_get rows k ≡ Some r → key_after (eq r.0) rows ≡ option_map key_of (slice_get rows (suc k))
  unfolding IsDistinct
  nth_after [] k r d e = absurd (cc)
  nth_after (s ∷ rows) zero r d e = let equal : s ≡ r = cc in ap (λ t. cond t (first_key rows) (key_after (eq r.0) rows)) (own_key r s equal) ∙ first_nth rows
  nth_after (s ∷ rows) (suc k) r d e = ap (λ t. cond t (first_key rows) (key_after (eq r.0) rows)) (other_key s.0 rows k r d.0 e) ∙ nth_after rows k r d.1 e

  -- row number k is found by its key
  pub nth_found : (rows : List (K × V)) (k : ℕ) (r : K × V) → IsDistinct eq (keys_of rows) → slice_get rows k ≡ Some r → lookup (eq r.0) rows ≡ Some r.1
  unfolding IsDistinct
  nth_found [] k r d e = absurd (cc)
  nth_found (s ∷ rows) zero r d e = let equal : s ≡ r = cc in ap (λ t. cond t (Some s.1) (lookup (eq r.0) rows)) (own_key r s equal) ∙ ap (λ (x : K × V). Some x.1) equal
  nth_found (s ∷ rows) (suc k) r d e = ap (λ t. cond t (Some s.1) (lookup (eq r.0) rows)) (other_key s.0 rows k r d.0 e) ∙ nth_found rows k r d.1 e
