-- The rows of groups, one group after another: what they are at a key.
use Rattle.std.proofs.Common.{◌≡◌, Bool, true, false, cond, List, [], ◌∷◌, ◌++◌, Option, Some, None, refl, sym, ap, ◌∙◌, subst, append_assoc, append-nil}
use Rattle.std.specs.List.{filter, AllByRecursion}
use Rattle.std.proofs.lemmas.List.Elements.{filter-append}
use Rattle.elem.specs.declared.elements.Elem.{Elem}
use Rattle.elem.specs.Elements.{same}
use Rattle.elem.specs.ElementLaws.{same-Decides}
use Rattle.elem.specs.Keyed.{value_at}
use Rattle.elem.specs.Orders.{natural_before}
use Rattle.elem.specs.OrderLaws.{natural_before_strict}
use Rattle.elem.specs.Rows.{first_key, last_key, last_key_or}
use Rattle.plain_base.specs.Sorted.{IsInOrder, rows_above, rows_below}
use Rattle.plain_base.specs.TwoKeys.{group, beside, with_group}
use Rattle.plain_base.specs.Groups.{own, with_own, flat, rows_in, IsGroup}
use Rattle.plain_base.proofs.SortedCuts.{own_cut, absent_first}

-- both ways alike
either_way : {X : Type 0} (b : Bool) (xs : List X) → xs ≡ cond b xs xs
either_way true xs = refl
either_way false xs = refl

module _ {V : Type 0} where
  -- ---- parts by their first keys
  filter_beside : (P : Elem → Bool) (k : Elem) (xs : List (Elem × V)) → filter (λ (r : Elem × (Elem × V)). P r.0) (beside k xs) ≡ cond (P k) (beside k xs) []
  filter_beside P k [] = either_way (P k) []
  filter_beside P k (x ∷ xs) = by (P k) (filter_beside P k xs)
    where
      by : (b : Bool) → filter (λ (r : Elem × (Elem × V)). P r.0) (beside k xs) ≡ cond b (beside k xs) []
          → cond b ((k, x) ∷ filter (λ (r : Elem × (Elem × V)). P r.0) (beside k xs)) (filter (λ (r : Elem × (Elem × V)). P r.0) (beside k xs)) ≡ cond b ((k, x) ∷ beside k xs) []
      by true e = ap (λ (l : List (Elem × (Elem × V))). (k, x) ∷ l) e
      by false e = e

  pub flat-filter : (P : Elem → Bool) (gs : List (Elem × List (Elem × V))) → flat (filter (λ (g : Elem × List (Elem × V)). P g.0) gs) ≡ filter (λ (r : Elem × (Elem × V)). P r.0) (flat gs)
  flat-filter P [] = refl
  flat-filter P (g ∷ gs) =
      by (P g.0) (flat-filter P gs)
      ∙ sym (filter-append (λ (r : Elem × (Elem × V)). P r.0) (beside g.0 g.1) (flat gs) ∙ ap (λ (l : List (Elem × (Elem × V))). l ++ filter (λ (r : Elem × (Elem × V)). P r.0) (flat gs)) (filter_beside P g.0 g.1))
    where
      by : (b : Bool) → flat (filter (λ (g : Elem × List (Elem × V)). P g.0) gs) ≡ filter (λ (r : Elem × (Elem × V)). P r.0) (flat gs)
          → flat (cond b (g ∷ filter (λ (h : Elem × List (Elem × V)). P h.0) gs) (filter (λ (h : Elem × List (Elem × V)). P h.0) gs)) ≡ cond b (beside g.0 g.1) [] ++ filter (λ (r : Elem × (Elem × V)). P r.0) (flat gs)
      by true e = ap (λ (l : List (Elem × (Elem × V))). beside g.0 g.1 ++ l) e
      by false e = e

  pub flat-append : (us vs : List (Elem × List (Elem × V))) → flat (us ++ vs) ≡ flat us ++ flat vs
  flat-append [] vs = refl
  flat-append (u ∷ us) vs = ap (λ (l : List (Elem × (Elem × V))). beside u.0 u.1 ++ l) (flat-append us vs) ∙ sym (append_assoc (beside u.0 u.1) (flat us) (flat vs))

  -- ---- first and last keys
  first_flat : (gs : List (Elem × List (Elem × V))) → AllByRecursion IsGroup gs → first_key (flat gs) ≡ first_key gs
  first_flat [] a = refl
  first_flat ((k, []) ∷ gs) a = let n = a.0.0 in cc
  first_flat ((k, x ∷ xs) ∷ gs) a = refl

  last_beside : (start : Option Elem) (k : Elem) (x : Elem × V) (xs : List (Elem × V)) (rest : List (Elem × (Elem × V))) → last_key_or start (beside k (x ∷ xs) ++ rest) ≡ last_key_or (Some k) rest
  last_beside start k x [] rest = refl
  last_beside start k x (y ∷ ys) rest = last_beside (Some k) k y ys rest

  last_flat : (start : Option Elem) (gs : List (Elem × List (Elem × V))) → AllByRecursion IsGroup gs → last_key_or start (flat gs) ≡ last_key_or start gs
  last_flat start [] a = refl
  last_flat start ((k, []) ∷ gs) a = let n = a.0.0 in cc
  last_flat start ((k, x ∷ xs) ∷ gs) a = last_beside start k x xs (flat gs) ∙ last_flat (Some k) gs a.1

  pub kept_groups : (P : Elem → Bool) (gs : List (Elem × List (Elem × V))) → AllByRecursion IsGroup gs → AllByRecursion IsGroup (filter (λ (g : Elem × List (Elem × V)). P g.0) gs)
  kept_groups P [] a = tt
  kept_groups P (g ∷ gs) a = by (P g.0) (kept_groups P gs a.1)
    where
      by : (b : Bool) → AllByRecursion IsGroup (filter (λ (h : Elem × List (Elem × V)). P h.0) gs) → AllByRecursion IsGroup (cond b (g ∷ filter (λ (h : Elem × List (Elem × V)). P h.0) gs) (filter (λ (h : Elem × List (Elem × V)). P h.0) gs))
      by true ih = (a.0, ih)
      by false ih = ih

  pub first_in_flat : (P : Elem → Bool) (gs : List (Elem × List (Elem × V))) → AllByRecursion IsGroup gs → first_key (filter (λ (g : Elem × List (Elem × V)). P g.0) gs) ≡ first_key (filter (λ (r : Elem × (Elem × V)). P r.0) (flat gs))
  first_in_flat P gs a = sym (first_flat (filter (λ (g : Elem × List (Elem × V)). P g.0) gs) (kept_groups P gs a)) ∙ ap first_key (flat-filter P gs)

  pub last_in_flat : (P : Elem → Bool) (gs : List (Elem × List (Elem × V))) → AllByRecursion IsGroup gs → last_key (filter (λ (g : Elem × List (Elem × V)). P g.0) gs) ≡ last_key (filter (λ (r : Elem × (Elem × V)). P r.0) (flat gs))
  last_in_flat P gs a = sym (last_flat None (filter (λ (g : Elem × List (Elem × V)). P g.0) gs) (kept_groups P gs a)) ∙ ap last_key (flat-filter P gs)

  pub first_of_flat : (gs : List (Elem × List (Elem × V))) → AllByRecursion IsGroup gs → first_key gs ≡ first_key (flat gs)
  first_of_flat gs a = sym (first_flat gs a)

  pub last_of_flat : (gs : List (Elem × List (Elem × V))) → AllByRecursion IsGroup gs → last_key gs ≡ last_key (flat gs)
  last_of_flat gs a = sym (last_flat None gs a)

  -- ---- the rows of a key
  pub group-append : (k : Elem) (us vs : List (Elem × (Elem × V))) → group k (us ++ vs) ≡ group k us ++ group k vs
  group-append k [] vs = refl
  group-append k (u ∷ us) vs = by (same k u.0) (group-append k us vs)
    where
      by : (b : Bool) → group k (us ++ vs) ≡ group k us ++ group k vs → cond b (u.1 ∷ group k (us ++ vs)) (group k (us ++ vs)) ≡ cond b (u.1 ∷ group k us) (group k us) ++ group k vs
      by true e = ap (λ (l : List (Elem × V)). u.1 ∷ l) e
      by false e = e

  pub group_beside : (k q : Elem) (xs : List (Elem × V)) → group k (beside q xs) ≡ cond (same k q) xs []
  group_beside k q [] = either_way (same k q) []
  group_beside k q (x ∷ xs) = by (same k q) (group_beside k q xs)
    where
      by : (b : Bool) → group k (beside q xs) ≡ cond b xs [] → cond b (x ∷ group k (beside q xs)) (group k (beside q xs)) ≡ cond b (x ∷ xs) []
      by true e = ap (λ (l : List (Elem × V)). x ∷ l) e
      by false e = e

  pub group-flat : (k : Elem) (gs : List (Elem × List (Elem × V))) → IsInOrder natural_before gs → group k (flat gs) ≡ rows_in (value_at gs k)
  group-flat k [] s = refl
  group-flat k (g ∷ gs) s =
      group-append k (beside g.0 g.1) (flat gs) ∙ ap (λ (l : List (Elem × V)). l ++ group k (flat gs)) (group_beside k g.0 g.1) ∙ by (same k g.0) refl (group-flat k gs s.1)
    where
      by : (b : Bool) → same k g.0 ≡ b → group k (flat gs) ≡ rows_in (value_at gs k) → cond b g.1 [] ++ group k (flat gs) ≡ rows_in (cond b (Some g.1) (value_at gs k))
      by true e ih =
          let none = absent_first natural_before_strict g.0 gs s.0 in
          let here : value_at gs k ≡ None = ap (value_at gs) ((same-Decides k g.0).0 e) ∙ none in
          ap (λ (l : List (Elem × V)). g.1 ++ l) (ih ∙ ap rows_in here) ∙ append-nil g.1
      by false e ih = ih

  -- ---- the cut at a key
  flat_own : (k : Elem) (v : Option (List (Elem × V))) (rest : List (Elem × (Elem × V))) → flat (own k v) ++ rest ≡ beside k (rows_in v) ++ rest
  flat_own k None rest = refl
  flat_own k (Some xs) rest = ap (λ (l : List (Elem × (Elem × V))). l ++ rest) (append-nil (beside k xs))

  pub flat-with_own : (k : Elem) (v : Option (List (Elem × V))) (gs : List (Elem × List (Elem × V))) → flat (with_own k v gs) ≡ with_group k (rows_in v) (flat gs)
  flat-with_own k v gs =
      let below = rows_below natural_before k gs in
      let above = rows_above natural_before k gs in
      flat-append below (own k v ++ above) ∙ ap (λ (l : List (Elem × (Elem × V))). flat below ++ l) (flat-append (own k v) above ∙ flat_own k v (flat above))
      ∙ (λ i. flat-filter (λ q. natural_before q k) gs i ++ (beside k (rows_in v) ++ flat-filter (natural_before k) gs i))

  -- the rows are those before a key, its own and those after it
  pub flat_whole : (k : Elem) (gs : List (Elem × List (Elem × V))) → IsInOrder natural_before gs → flat gs ≡ with_group k (group k (flat gs)) (flat gs)
  flat_whole k gs s =
      ap flat (own_cut natural_before_strict k gs s) ∙ flat-with_own k (value_at gs k) gs ∙ ap (λ (xs : List (Elem × V)). with_group k xs (flat gs)) (sym (group-flat k gs s))

  pub whole_rows : (k : Elem) (gs : List (Elem × List (Elem × V))) (rows : List (Elem × (Elem × V))) → IsInOrder natural_before gs → flat gs ≡ rows → rows ≡ with_group k (group k rows) rows
  whole_rows k gs rows s e = subst (λ (l : List (Elem × (Elem × V))). l ≡ with_group k (group k l) l) e (flat_whole k gs s)
