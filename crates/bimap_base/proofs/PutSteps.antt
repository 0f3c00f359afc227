-- What each put makes of the pairs and of the index of keys by values.
use Rattle.std.proofs.Common.{◌≡◌, ◌≢◌, Bool, true, false, cond, List, [], ◌∷◌, ◌++◌, Option, Some, None, refl, sym, ap, ◌∙◌, subst, append-nil, append_assoc}
use Rattle.std.specs.Prelude.{IsSome}
use Rattle.std.specs.Map.{lookup}
use Rattle.std.proofs.lemmas.Map.{NonePasses, none_passes_from_lookup, lookup-remove_entry}
use Rattle.elem.specs.declared.elements.Elem.{Elem}
use Rattle.elem.specs.Elements.{same}
use Rattle.elem.specs.ElementLaws.{same-Decides, same_equiv}
use Rattle.elem.specs.Keyed.{value_at, IsPresent, without, with_value, HasDistinctKeys}
use Rattle.elem.proofs.RowsLemmas.{remove_at}
use Rattle.linked_base.specs.Moving.{put_before}
use Rattle.linked_base.proofs.KeyedLemmas.{none_right, distinct_without}
use Rattle.linked_base.proofs.MovingLemmas.{put_last, put_at}
use Rattle.bimap_base.specs.Pairs.{turned, freed, with_pair}
use Rattle.bimap_base.specs.PairRows.{IsTurned, without_some, in_place_of}
use Rattle.bimap_base.proofs.PairCuts.{Pair, turned-append, turned_twice, none_join, IsPairCut, cut_turned, key_cut, value_cut, cut_value, cut_valued, cut_row, cut_paired, cut_freed, before, revalued_value, revalued_without, freed_whole, with_pair_last, removed_last}
use Rattle.bimap_base.proofs.TurnedLemmas.{less_one, one_more, less_none, turned_same, turned_without, turned_with, turned_over, gone_turned, gone_freed, holder_apart, placed_turned, placed_rows}

module _ {rows : List Pair} {find : Elem → Option Elem} (keys : HasDistinctKeys rows) (h : IsTurned rows find) (k v : Elem) where
  -- a key that the index names is there
  pub holder_present : (x : Elem) → find v ≡ Some x → IsPresent rows x
  holder_present x e = let c = value_cut rows x v keys h.distinct (sym (h.exact v) ∙ e) in subst IsSome (sym (cut_value c.2)) refl

  -- after the pair of another key that has the value went
  module _ (new : value_at rows k ≢ Some v) where
    pub left_value : value_at (without_some (find v) rows) k ≡ value_at rows k
    left_value = by_holder (find v) refl
      where
        by_holder : (o : Option Elem) → find v ≡ o → value_at (without_some o rows) k ≡ value_at rows k
        by_holder None e = refl
        by_holder (Some x) e =
            lookup-remove_entry same_equiv (same x) (λ a b t. ap (λ z. same z b) ((same-Decides x a).0 t)) k rows keys ∙ ap (λ b. cond b None (value_at rows k)) (holder_apart keys h v k new x e)

    module _ (w : Elem) (present : value_at (without_some (find v) rows) k ≡ Some w) (distinct : HasDistinctKeys (without_some (find v) rows)) where
      rest_cut : (us : List Pair) × (vs : List Pair) × IsPairCut (without_some (find v) rows) k w us vs
      rest_cut = key_cut (without_some (find v) rows) k w distinct (gone_turned keys h v).distinct present

      pub over_rows : with_value (without_some (find v) rows) k v ≡ with_pair (freed rows k v) k v
      over_rows = cut_valued rest_cut.2 v ∙ sym (cut_paired rest_cut.2 v) ∙ ap (λ rs. with_pair rs k v) (gone_freed keys h v k new)

      pub over_turned : (found : Elem → Option Elem) → ((q : Elem) → found q ≡ one_more (less_one find w) v k q) → IsTurned (with_value (without_some (find v) rows) k v) found
      over_turned found e =
          let none = ap (cond (same w v) None) (less_none find v) ∙ always (same w v) in
          subst (λ rs. IsTurned rs found) (sym (cut_valued rest_cut.2 v))
          (turned_same (rest_cut.0 ++ (k, v) ∷ rest_cut.1) (one_more (less_one (less_one find v) w) v k) found (λ q. e q ∙ twice q (same v q)) (turned_over rest_cut.2 (gone_turned keys h v) k v none))
        where
          always : (b : Bool) → cond {A = Option Elem} b None None ≡ None
          always true = refl
          always false = refl

          twice : (q : Elem) (b : Bool) → cond b (Some k) (cond (same w q) None (find q)) ≡ cond b (Some k) (cond (same w q) None (cond b None (find q)))
          twice q true = refl
          twice q false = refl

  -- a new key
  module _ (absent : value_at rows k ≡ None) where
    not_there : value_at rows k ≢ Some v
    not_there f = let both = sym absent ∙ f in cc

    last_left : without_some (find v) (rows ++ (k, v) ∷ []) ≡ without_some (find v) rows ++ (k, v) ∷ []
    last_left = by_holder (find v) refl
      where
        by_holder : (o : Option Elem) → find v ≡ o → without_some o (rows ++ (k, v) ∷ []) ≡ without_some o rows ++ (k, v) ∷ []
        by_holder None e = refl
        by_holder (Some x) e = removed_last x k v rows (holder_apart keys h v k not_there x e)

    pub new_rows : without_some (find v) (rows ++ (k, v) ∷ []) ≡ with_pair (freed rows k v) k v
    new_rows =
        let left = gone_freed keys h v k not_there in
        let none = none_passes_from_lookup (same k) (freed rows k v) (ap (lookup (same k)) (sym left) ∙ left_value not_there ∙ absent) in
        last_left ∙ ap (λ l. l ++ (k, v) ∷ []) left ∙ sym (with_pair_last k v (freed rows k v) none)

    pub new_turned : (found : Elem → Option Elem) → ((q : Elem) → found q ≡ one_more find v k q) → IsTurned (without_some (find v) (rows ++ (k, v) ∷ [])) found
    new_turned found e =
        let rest = without_some (find v) rows in
        subst (λ rs. IsTurned rs found) (sym last_left)
        (turned_same (rest ++ (k, v) ∷ []) (one_more (less_one find v) v k) found (λ q. e q ∙ twice q (same v q)) (turned_with k v rest [] (less_none find v) (subst (λ rs. IsTurned rs (less_one find v)) (sym (append-nil rest)) (gone_turned keys h v))))
      where
        twice : (q : Elem) (b : Bool) → cond b (Some k) (find q) ≡ cond b (Some k) (cond b None (find q))
        twice q true = refl
        twice q false = refl

    pub flipped_new : turned (in_place_of rows (find v) (k, v)) ≡ with_pair (freed (turned rows) v k) v k
    flipped_new =
        let none = subst (NonePasses (same k)) (sym (turned_twice rows)) (none_passes_from_lookup (same k) rows absent) in
        placed_rows keys h v k ∙ ap (λ rs. with_pair rs v k) (sym (freed_whole v k (turned rows) none))

-- a key that is there gets another value, from the side of the value
module _ {rows : List Pair} {find : Elem → Option Elem} (keys : HasDistinctKeys rows) (h : IsTurned rows find) (k v w : Elem) (present : value_at rows k ≡ Some w) (new : value_at rows k ≢ Some v) where
  its_cut : (us : List Pair) × (vs : List Pair) × IsPairCut rows k w us vs
  its_cut = key_cut rows k w keys h.distinct present

  rest : List Pair
  rest = its_cut.0 ++ its_cut.1

  rest_keys : HasDistinctKeys rest
  unfolding rest
  rest_keys = (distinct_without its_cut.0 (k, w) its_cut.1 (subst HasDistinctKeys its_cut.2.cut keys)).0

  rest_turned : IsTurned rest (less_one find w)
  unfolding rest
  rest_turned = turned_without its_cut.2 h

  other_value : same w v ≡ false
  other_value = by_case (same w v) refl
    where
      by_case : (b : Bool) → same w v ≡ b → b ≡ false
      by_case true t = absurd (new (present ∙ ap Some ((same-Decides w v).0 t)))
      by_case false t = refl

  same_holder : less_one find w v ≡ find v
  same_holder = ap (λ b. cond b None (find v)) other_value

  pub revalued : value_at (with_value rows k v) k ≡ Some v
  revalued = revalued_value its_cut.2 v

  without_own : without (with_value rows k v) k ≡ rest
  unfolding rest
  without_own = revalued_without its_cut.2 v

  pub holder_left : (x : Elem) → find v ≡ Some x → IsPresent (without (with_value rows k v) k) x
  holder_left x e = subst (λ rs. IsPresent rs x) (sym without_own) (holder_present rest_keys rest_turned k v x (same_holder ∙ e))

  moved : without_some (find v) (put_before (find v) (k, v) rest) ≡ in_place_of rest (find v) (k, v)
  unfolding rest
  moved = by_holder (find v) refl
    where
      by_holder : (o : Option Elem) → find v ≡ o → without_some o (put_before o (k, v) rest) ≡ in_place_of rest o (k, v)
      by_holder None e = put_last (k, v) rest
      by_holder (Some x) e =
          let c = value_cut rest x v rest_keys rest_turned.distinct (sym (rest_turned.exact v) ∙ same_holder ∙ e) in
          let us = c.0 in
          let vs = c.1 in
          let apart = (none_right (same k) us ((x, v) ∷ vs) (subst (NonePasses (same k)) c.2.cut its_cut.2.no_key)).0 in
          let none = none_join (same x) us ((k, v) ∷ []) (before c.2) (same_equiv.symm x k ∙ apart, tt) in
          ap (λ rs. without rs x) (ap (put_before (Some x) (k, v)) c.2.cut ∙ put_at x (k, v) us (x, v) vs (before c.2) (same_equiv.refl x) ∙ sym (append_assoc us ((k, v) ∷ []) ((x, v) ∷ vs)))
          ∙ remove_at (same x) (us ++ (k, v) ∷ []) (x, v) vs none (same_equiv.refl x) ∙ append_assoc us ((k, v) ∷ []) vs ∙ sym (cut_row c.2 (k, v))

  -- the pairs after the moves
  moved_whole : without_some (find v) (put_before (find v) (k, v) (without (with_value rows k v) k)) ≡ in_place_of rest (less_one find w v) (k, v)
  moved_whole = ap (λ rs. without_some (find v) (put_before (find v) (k, v) rs)) without_own ∙ moved ∙ ap (λ o. in_place_of rest o (k, v)) (sym same_holder)

  pub flipped_over : turned (without_some (find v) (put_before (find v) (k, v) (without (with_value rows k v) k))) ≡ with_pair (freed (turned rows) v k) v k
  unfolding rest
  flipped_over =
      ap turned moved_whole ∙ placed_rows rest_keys rest_turned v k
      ∙ ap (λ rs. with_pair rs v k) (turned-append its_cut.0 its_cut.1 ∙ sym (cut_freed (cut_turned rows k w its_cut.0 its_cut.1 its_cut.2) v (same_equiv.symm v w ∙ other_value)))

  pub flipped_turned : (found : Elem → Option Elem) → ((q : Elem) → found q ≡ one_more (less_one find w) v k q) → IsTurned (without_some (find v) (put_before (find v) (k, v) (without (with_value rows k v) k))) found
  flipped_turned found e =
      subst (λ rs. IsTurned rs found) (sym moved_whole) (turned_same (in_place_of rest (less_one find w v) (k, v)) (one_more (less_one find w) v k) found e (placed_turned rest_keys rest_turned v k))
