-- Two lists with the same marks, one of what stands in a walk and one of what is found there.
use Rattle.std.proofs.Common.{◌≡◌, ℕ, ◌+◌, List, [], ◌∷◌, map, drop, refl, ap, sym, ◌∙◌}
use Rattle.std.specs.Prelude.{slice_get, Option, Some, None, option_map}
use Rattle.std.proofs.lemmas.Option.{same_Some, slice_get-map}
use Rattle.view_steps.proofs.FoundLemmas.{drop_at, drop_past}

module _ {S D : Type 0} where
  -- what they have at an index
  marked_at : (at : S → Option D) (ss : List S) (ds : List D) → map at ss ≡ map Some ds → (i : ℕ) → option_map Some (slice_get ds i) ≡ option_map at (slice_get ss i)
  marked_at at ss ds h i = sym (slice_get-map Some ds i) ∙ ap (λ (os : List (Option D)). slice_get os i) (sym h) ∙ slice_get-map at ss i

  pub found_there : (at : S → Option D) (ss : List S) (ds : List D) → map at ss ≡ map Some ds → (i : ℕ) (s : S) → slice_get ss i ≡ Some s → slice_get ds i ≡ at s
  found_there at ss ds h i s is = by (slice_get ds i) (at s) (marked_at at ss ds h i ∙ ap (option_map at) is)
    where
      by : (o to : Option D) → option_map Some o ≡ Some to → o ≡ to
      by None to e = absurd (cc)
      by (Some d) to e = same_Some (Some d) to e

  pub passes_found : (at : S → Option D) (ss : List S) (ds : List D) → map at ss ≡ map Some ds → (i : ℕ) (s : S) (d : D) → slice_get ss i ≡ Some s → at s ≡ Some d → drop i ds ≡ d ∷ drop (i + 1) ds
  passes_found at ss ds h i s d is found = drop_at ds i d (found_there at ss ds h i s is ∙ found)

  pub all_passed : (at : S → Option D) (ss : List S) (ds : List D) → map at ss ≡ map Some ds → (i : ℕ) → slice_get ss i ≡ None → drop i ds ≡ []
  all_passed at ss ds h i is = drop_past ds i (by (slice_get ds i) (marked_at at ss ds h i ∙ ap (option_map at) is))
    where
      by : (o : Option D) → option_map Some o ≡ None → o ≡ None
      by None e = refl
      by (Some x) e = absurd (cc)
