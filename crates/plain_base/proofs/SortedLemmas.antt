-- Rows in the order of their keys: what a tree's calls find among them.
use Rattle.std.proofs.Common.{◌≡◌, Bool, true, false, cond, List, [], ◌∷◌, ◌++◌, Option, Some, None, refl, sym, ap, ◌∙◌, subst}
use Rattle.std.specs.Prelude.{IsSome}
use Rattle.std.specs.List.{IsDistinct, AllByRecursion}
use Rattle.std.specs.List.Sorted.{IsStrictlySortedBy}
use Rattle.std.specs.Map.{keys_of}
use Rattle.std.specs.Ordering.{match_ordering}
use Rattle.std.specs.declared.cmp.Ordering.TheVariants.{Less, Equal, Greater}
use Rattle.std.specs.BTreeMap.{insert_entry}
use Rattle.std.proofs.lemmas.Map.Keys.{IsDistinct-from_sorted}
use Rattle.elem.specs.declared.elements.Elem.{Elem}
use Rattle.elem.specs.Elements.{same}
use Rattle.elem.specs.ElementLaws.{same-Decides}
use Rattle.elem.specs.Keyed.{value_at, IsPresent, HasDistinctKeys}
use Rattle.elem.specs.Orders.{IsStrictOrder}
use Rattle.elem.specs.Rows.{first_key, last_key, last_key_or, key_after, key_before, key_before_or}
use Rattle.plain_base.specs.Ordered.{order_of}
use Rattle.plain_base.specs.Sorted.{ComesFirst, IsInOrder, placed, rows_above, rows_below}
use Rattle.plain_base.proofs.OrderLemmas.{same_by_order, one_way}

less_before : (before : Elem → Elem → Bool) (a b : Elem) → order_of before a b ≡ Less → before a b ≡ true
less_before before a b = by (same a b) (before a b)
  where
    by : (s t : Bool) → cond s Equal (cond t Less Greater) ≡ Less → t ≡ true
    by true t h = cc
    by false true h = refl
    by false false h = cc

module _ {V : Type 0} where
  pub insert-placed : (before : Elem → Elem → Bool) (k : Elem) (v : V) (rows : List (Elem × V)) → value_at rows k ≡ None → insert_entry (order_of before) rows k v ≡ placed before rows k v
  insert-placed before k v [] h = refl
  insert-placed before k v (row ∷ rows) h = by (same k row.0) h (before k row.0) (insert-placed before k v rows)
    where
      by : (s : Bool) → cond s (Some row.1) (value_at rows k) ≡ None → (t : Bool) → (value_at rows k ≡ None → insert_entry (order_of before) rows k v ≡ placed before rows k v)
          → match_ordering (cond s Equal (cond t Less Greater)) ((k, v) ∷ row ∷ rows) ((row.0, v) ∷ rows) (row ∷ insert_entry (order_of before) rows k v) ≡ cond t ((k, v) ∷ row ∷ rows) (row ∷ placed before rows k v)
      by true h t ih = cc
      by false h true ih = refl
      by false h false ih = ap (λ (rest : List (Elem × V)). row ∷ rest) (ih h)

  -- ---- what the order of a tree's keys says
  first_of_sorted : (before : Elem → Elem → Bool) (k : Elem) (rows : List (Elem × V)) → AllByRecursion (λ y. order_of before k y ≡ Less) (keys_of rows) → ComesFirst before k rows
  first_of_sorted before k [] a = tt
  first_of_sorted before k (row ∷ rows) a = (less_before before k row.0 a.0, first_of_sorted before k rows a.1)

  pub in_order : (before : Elem → Elem → Bool) (rows : List (Elem × V)) → IsStrictlySortedBy (order_of before) (keys_of rows) → IsInOrder before rows
  unfolding IsStrictlySortedBy
  in_order before [] s = tt
  in_order before (row ∷ rows) s = (first_of_sorted before row.0 rows s.0, in_order before rows s.1)

  pub distinct_keys : (before : Elem → Elem → Bool) (rows : List (Elem × V)) → IsStrictlySortedBy (order_of before) (keys_of rows) → HasDistinctKeys rows
  distinct_keys before rows s = subst (λ (e : Elem → Elem → Bool). IsDistinct e (keys_of rows)) (same_by_order before) (IsDistinct-from_sorted (order_of before) (keys_of rows) s)

  pub inserted_is : (before : Elem → Elem → Bool) (k q : Elem) (v : V) (rows os ns : List (Elem × V)) → ns ≡ insert_entry (order_of before) rows q v → q ≡ k → rows ≡ os → value_at os k ≡ None → ns ≡ placed before os k v
  inserted_is before k q v rows os ns e a s h = e ∙ (λ i. insert_entry (order_of before) (s i) (a i) v) ∙ insert-placed before k v os h

  -- ---- the ends
  pub last_key_or-push : (start : Option Elem) (rows : List (Elem × V)) (row : Elem × V) → last_key_or start (rows ++ row ∷ []) ≡ Some row.0
  last_key_or-push start [] row = refl
  last_key_or-push start (r ∷ rows) row = last_key_or-push (Some r.0) rows row

  -- ---- neighbours
  module _ {before : Elem → Elem → Bool} (o : IsStrictOrder before) where
    pub all_above : (k : Elem) (rows : List (Elem × V)) → ComesFirst before k rows → rows_above before k rows ≡ rows
    all_above k [] a = refl
    all_above k (row ∷ rows) a = rw a.0 (ap (λ (rest : List (Elem × V)). row ∷ rest) (all_above k rows a.1))

    pub none_below : (k : Elem) (rows : List (Elem × V)) → ComesFirst before k rows → rows_below before k rows ≡ []
    none_below k [] a = refl
    none_below k (row ∷ rows) a = rw (one_way o k row.0 a.0) (none_below k rows a.1)

    pub before_present : (a k : Elem) (rows : List (Elem × V)) → ComesFirst before a rows → IsPresent rows k → before a k ≡ true
    before_present a k [] f p = cc
    before_present a k (row ∷ rows) f p = by (same k row.0) refl p (before_present a k rows f.1)
      where
        by : (s : Bool) → same k row.0 ≡ s → IsSome (cond s (Some row.1) (value_at rows k)) → (IsPresent rows k → before a k ≡ true) → before a k ≡ true
        by true e w ih = ap (before a) ((same-Decides k row.0).0 e) ∙ f.0
        by false e w ih = ih w

    pub key_after-above : (k : Elem) (rows : List (Elem × V)) → IsInOrder before rows → IsPresent rows k → key_after (same k) rows ≡ first_key (rows_above before k rows)
    key_after-above k [] s p = refl
    key_after-above k (row ∷ rows) s p = by (same k row.0) refl p (key_after-above k rows s.1)
      where
        by : (t : Bool) → same k row.0 ≡ t → IsSome (cond t (Some row.1) (value_at rows k)) → (IsPresent rows k → key_after (same k) rows ≡ first_key (rows_above before k rows)) → cond t (first_key rows) (key_after (same k) rows) ≡ first_key (rows_above before k (row ∷ rows))
        by true e w ih =
            let key : row.0 ≡ k = sym ((same-Decides k row.0).0 e) in
            let itself : before k row.0 ≡ false = ap (before k) key ∙ o.irreflexive k in
            let behind : ComesFirst before k rows = subst (λ (x : Elem). ComesFirst before x rows) key s.0 in
            rw (itself, all_above k rows behind) refl
        by false e w ih =
            let later : before k row.0 ≡ false = one_way o row.0 k (before_present row.0 k rows s.0 w) in
            rw later (ih w)

    key_before_or-below : (start : Option Elem) (k : Elem) (rows : List (Elem × V)) → IsInOrder before rows → IsPresent rows k → key_before_or start (same k) rows ≡ last_key_or start (rows_below before k rows)
    key_before_or-below start k [] s p = cc
    key_before_or-below start k (row ∷ rows) s p = by (same k row.0) refl p (key_before_or-below (Some row.0) k rows s.1)
      where
        by : (t : Bool) → same k row.0 ≡ t → IsSome (cond t (Some row.1) (value_at rows k)) → (IsPresent rows k → key_before_or (Some row.0) (same k) rows ≡ last_key_or (Some row.0) (rows_below before k rows)) → cond t start (key_before_or (Some row.0) (same k) rows) ≡ last_key_or start (rows_below before k (row ∷ rows))
        by true e w ih =
            let key : row.0 ≡ k = sym ((same-Decides k row.0).0 e) in
            let itself : before row.0 k ≡ false = ap (λ (x : Elem). before x k) key ∙ o.irreflexive k in
            let behind : ComesFirst before k rows = subst (λ (x : Elem). ComesFirst before x rows) key s.0 in
            rw (itself, none_below k rows behind) refl
        by false e w ih = rw (before_present row.0 k rows s.0 w) (ih w)

    pub after_is : (k : Elem) (x : Option Elem) (rows os : List (Elem × V)) → x ≡ first_key (rows_above before k os) → rows ≡ os → IsInOrder before rows → IsPresent os k → x ≡ key_after (same k) os
    after_is k x rows os e s i p = e ∙ sym (key_after-above k os (subst (IsInOrder before) s i) p)

    pub key_before-below : (k : Elem) (rows : List (Elem × V)) → IsInOrder before rows → IsPresent rows k → key_before (same k) rows ≡ last_key (rows_below before k rows)
    key_before-below k rows s p = key_before_or-below None k rows s p

    pub before_is : (k : Elem) (x : Option Elem) (rows os : List (Elem × V)) → x ≡ last_key (rows_below before k os) → rows ≡ os → IsInOrder before rows → IsPresent os k → x ≡ key_before (same k) os
    before_is k x rows os e s i p = e ∙ sym (key_before-below k os (subst (IsInOrder before) s i) p)

  -- ---- what an iterator over a part of the rows gave
  pub first_found : (all part rest : List (Elem × V)) (row : Elem × V) (k : Elem) → part ≡ all → part ≡ row ∷ rest → k ≡ row.0 → Some k ≡ first_key all
  first_found all part rest row k e h x = ap Some x ∙ sym (ap first_key (sym e ∙ h))

  pub first_missing : (all part : List (Elem × V)) → part ≡ all → part ≡ [] → None ≡ first_key all
  first_missing all part e h = sym (ap first_key (sym e ∙ h))

  pub last_found : (all part rest : List (Elem × V)) (row : Elem × V) (k : Elem) → part ≡ all → part ≡ rest ++ row ∷ [] → k ≡ row.0 → Some k ≡ last_key all
  last_found all part rest row k e h x = ap Some x ∙ sym (ap last_key (sym e ∙ h) ∙ last_key_or-push None rest row)

  pub last_missing : (all part : List (Elem × V)) → part ≡ all → part ≡ [] → None ≡ last_key all
  last_missing all part e h = sym (ap last_key (sym e ∙ h))
