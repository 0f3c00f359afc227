-- Rows of two keys, cut at a first key: what each word is there, and what becomes of them where the group changes.
use Rattle.std.proofs.Common.{◌≡◌, ℕ, zero, suc, ◌+◌, Bool, true, false, not, cond, ◌&&◌, List, [], ◌∷◌, ◌++◌, length, take, drop, Some, None, refl, sym, ap, ◌∙◌, subst, append_assoc, append-nil, length-append}
use Rattle.std.specs.List.{insert}
use Rattle.std.proofs.lemmas.List.Elements.{filter-append}
use Rattle.std.proofs.lemmas.Map.{NonePasses}
use Rattle.elem.specs.declared.elements.Elem.{Elem}
use Rattle.elem.specs.Elements.{same}
use Rattle.elem.specs.ElementLaws.{same-Decides, same_equiv}
use Rattle.elem.specs.Keyed.{AddsRow, value_at, with_value, without}
use Rattle.elem.specs.Orders.{natural_before}
use Rattle.elem.specs.OrderLaws.{natural_before_strict}
use Rattle.plain_base.specs.Sorted.{IsInOrder, placed, rows_above, rows_below}
use Rattle.plain_base.specs.TwoKeys.{group, without_group, without_both, with_both, beside, with_group}
use Rattle.plain_base.proofs.SortedCuts.{absent_first, none_below_passes, none_above_passes}
use Rattle.plain_base.proofs.GroupsLemmas.{group-append, group_beside}

insert_at : {X : Type 0} (us vs : List X) (x : X) → us ++ x ∷ vs ≡ insert (us ++ vs) (length us) x
insert_at [] vs x = refl
insert_at {X} (u ∷ us) vs x = ap (λ (l : List X). u ∷ l) (insert_at us vs x)

pub parts : {X : Type 0} (i : ℕ) (xs : List X) → xs ≡ take i xs ++ drop i xs
parts zero xs = refl
parts (suc i) [] = refl
parts {X} (suc i) (x ∷ xs) = ap (λ (l : List X). x ∷ l) (parts i xs)

module _ {V : Type 0} where
  -- ---- rows of other first keys
  group_apart : (k : Elem) (us : List (Elem × (Elem × V))) → NonePasses (same k) us → group k us ≡ []
  group_apart k [] n = refl
  group_apart k (u ∷ us) n = ap (λ b. cond b (u.1 ∷ group k us) (group k us)) n.0 ∙ group_apart k us n.1

  kept_apart : (k : Elem) (us : List (Elem × (Elem × V))) → NonePasses (same k) us → without_group k us ≡ us
  kept_apart k [] n = refl
  kept_apart k (u ∷ us) n = ap (λ b. cond (not b) (u ∷ without_group k us) (without_group k us)) n.0 ∙ ap (λ (l : List (Elem × (Elem × V))). u ∷ l) (kept_apart k us n.1)

  both_apart : (k x : Elem) (us : List (Elem × (Elem × V))) → NonePasses (same k) us → without_both k x us ≡ us
  both_apart k x [] n = refl
  both_apart k x (u ∷ us) n = ap (λ b. cond (not (b && same x u.1.0)) (u ∷ without_both k x us) (without_both k x us)) n.0 ∙ ap (λ (l : List (Elem × (Elem × V))). u ∷ l) (both_apart k x us n.1)

  with_apart : (k x : Elem) (v : V) (us : List (Elem × (Elem × V))) → NonePasses (same k) us → with_both k x v us ≡ us
  with_apart k x v [] n = refl
  with_apart k x v (u ∷ us) n = (λ i. cond (n.0 i && same x u.1.0) (k, (x, v)) u ∷ with_apart k x v us n.1 i)

  -- ---- rows of the key itself
  none_beside : (k : Elem) (xs : List (Elem × V)) → without_group k (beside k xs) ≡ []
  none_beside k [] = refl
  none_beside k (x ∷ xs) = ap (λ b. cond (not b) ((k, x) ∷ without_group k (beside k xs)) (without_group k (beside k xs))) (same_equiv.refl k) ∙ none_beside k xs

  both_absent : (k x : Elem) (xs : List (Elem × V)) → value_at xs x ≡ None → without_both k x (beside k xs) ≡ beside k xs
  both_absent k x [] h = refl
  both_absent k x (y ∷ ys) h =
      ap (λ b. cond (not (b && same x y.0)) ((k, y) ∷ without_both k x (beside k ys)) (without_both k x (beside k ys))) (same_equiv.refl k) ∙ by (same x y.0) h (both_absent k x ys)
    where
      by : (b : Bool) → cond b (Some y.1) (value_at ys x) ≡ None → (value_at ys x ≡ None → without_both k x (beside k ys) ≡ beside k ys)
          → cond (not b) ((k, y) ∷ without_both k x (beside k ys)) (without_both k x (beside k ys)) ≡ (k, y) ∷ beside k ys
      by true e ih = cc
      by false e ih = ap (λ (l : List (Elem × (Elem × V))). (k, y) ∷ l) (ih e)

  with_absent : (k x : Elem) (v : V) (xs : List (Elem × V)) → value_at xs x ≡ None → with_both k x v (beside k xs) ≡ beside k xs
  with_absent k x v [] h = refl
  with_absent k x v (y ∷ ys) h =
      ap (λ b. cond (b && same x y.0) (k, (x, v)) (k, y) ∷ with_both k x v (beside k ys)) (same_equiv.refl k) ∙ by (same x y.0) h (with_absent k x v ys)
    where
      by : (b : Bool) → cond b (Some y.1) (value_at ys x) ≡ None → (value_at ys x ≡ None → with_both k x v (beside k ys) ≡ beside k ys)
          → cond b (k, (x, v)) (k, y) ∷ with_both k x v (beside k ys) ≡ (k, y) ∷ beside k ys
      by true e ih = cc
      by false e ih = ap (λ (l : List (Elem × (Elem × V))). (k, y) ∷ l) (ih e)

  -- what stands behind a row with the key has not the key
  alone : (x : Elem) (y : Elem × V) (ys : List (Elem × V)) → IsInOrder natural_before (y ∷ ys) → same x y.0 ≡ true → value_at ys x ≡ None
  alone x y ys s e = ap (value_at ys) ((same-Decides x y.0).0 e) ∙ absent_first natural_before_strict y.0 ys s.0

  without_beside : (k x : Elem) (xs : List (Elem × V)) → IsInOrder natural_before xs → without_both k x (beside k xs) ≡ beside k (without xs x)
  without_beside k x [] s = refl
  without_beside k x (y ∷ ys) s =
      ap (λ b. cond (not (b && same x y.0)) ((k, y) ∷ without_both k x (beside k ys)) (without_both k x (beside k ys))) (same_equiv.refl k) ∙ by (same x y.0) refl (without_beside k x ys s.1)
    where
      by : (b : Bool) → same x y.0 ≡ b → without_both k x (beside k ys) ≡ beside k (without ys x)
          → cond (not b) ((k, y) ∷ without_both k x (beside k ys)) (without_both k x (beside k ys)) ≡ beside k (cond b ys (y ∷ without ys x))
      by true e ih = both_absent k x ys (alone x y ys s e)
      by false e ih = ap (λ (l : List (Elem × (Elem × V))). (k, y) ∷ l) ih

  with_beside : (k x : Elem) (v : V) (xs : List (Elem × V)) → IsInOrder natural_before xs → with_both k x v (beside k xs) ≡ beside k (with_value xs x v)
  with_beside k x v [] s = refl
  with_beside k x v (y ∷ ys) s =
      ap (λ b. cond (b && same x y.0) (k, (x, v)) (k, y) ∷ with_both k x v (beside k ys)) (same_equiv.refl k) ∙ by (same x y.0) refl (with_beside k x v ys s.1)
    where
      by : (b : Bool) → same x y.0 ≡ b → with_both k x v (beside k ys) ≡ beside k (with_value ys x v)
          → cond b (k, (x, v)) (k, y) ∷ with_both k x v (beside k ys) ≡ beside k (cond b ((y.0, v) ∷ ys) (y ∷ with_value ys x v))
      by true e ih = (λ i. (k, ((same-Decides x y.0).0 e i, v)) ∷ with_absent k x v ys (alone x y ys s e) i)
      by false e ih = ap (λ (l : List (Elem × (Elem × V))). (k, y) ∷ l) ih

  with-append : (k x : Elem) (v : V) (us vs : List (Elem × (Elem × V))) → with_both k x v (us ++ vs) ≡ with_both k x v us ++ with_both k x v vs
  with-append k x v [] vs = refl
  with-append k x v (u ∷ us) vs = ap (λ (l : List (Elem × (Elem × V))). cond (same k u.0 && same x u.1.0) (k, (x, v)) u ∷ l) (with-append k x v us vs)

  beside-append : (k : Elem) (xs ys : List (Elem × V)) → beside k (xs ++ ys) ≡ beside k xs ++ beside k ys
  beside-append k [] ys = refl
  beside-append k (x ∷ xs) ys = ap (λ (l : List (Elem × (Elem × V))). (k, x) ∷ l) (beside-append k xs ys)

  length-beside : (k : Elem) (xs : List (Elem × V)) → length (beside k xs) ≡ length xs
  length-beside k [] = refl
  length-beside k (x ∷ xs) = ap suc (length-beside k xs)

  -- ---- at a cut
  module _ (k : Elem) (us vs : List (Elem × (Elem × V))) (before : NonePasses (same k) us) (after : NonePasses (same k) vs) where
    group_cut : (xs : List (Elem × V)) → group k (us ++ (beside k xs ++ vs)) ≡ xs
    group_cut xs =
        group-append k us (beside k xs ++ vs) ∙ ap (λ (l : List (Elem × V)). l ++ group k (beside k xs ++ vs)) (group_apart k us before)
        ∙ group-append k (beside k xs) vs ∙ (λ i. group_beside k k xs i ++ group_apart k vs after i) ∙ ap (λ (b : Bool). cond b xs [] ++ []) (same_equiv.refl k) ∙ append-nil xs

    without_group_cut : (xs : List (Elem × V)) → without_group k (us ++ (beside k xs ++ vs)) ≡ us ++ vs
    without_group_cut xs =
        filter-append (λ (r : Elem × (Elem × V)). not (same k r.0)) us (beside k xs ++ vs)
        ∙ (λ i. kept_apart k us before i ++ (filter-append (λ (r : Elem × (Elem × V)). not (same k r.0)) (beside k xs) vs ∙ (λ j. none_beside k xs j ++ kept_apart k vs after j)) i)

    without_both_cut : (x : Elem) (xs : List (Elem × V)) → IsInOrder natural_before xs → without_both k x (us ++ (beside k xs ++ vs)) ≡ us ++ (beside k (without xs x) ++ vs)
    without_both_cut x xs s =
        filter-append (λ (r : Elem × (Elem × V)). not (same k r.0 && same x r.1.0)) us (beside k xs ++ vs)
        ∙ (λ i. both_apart k x us before i ++ (filter-append (λ (r : Elem × (Elem × V)). not (same k r.0 && same x r.1.0)) (beside k xs) vs ∙ (λ j. without_beside k x xs s j ++ both_apart k x vs after j)) i)

    with_both_cut : (x : Elem) (v : V) (xs : List (Elem × V)) → IsInOrder natural_before xs → with_both k x v (us ++ (beside k xs ++ vs)) ≡ us ++ (beside k (with_value xs x v) ++ vs)
    with_both_cut x v xs s =
        with-append k x v us (beside k xs ++ vs)
        ∙ (λ i. with_apart k x v us before i ++ (with-append k x v (beside k xs) vs ∙ (λ j. with_beside k x v xs s j ++ with_apart k x v vs after j)) i)

  moved : (k : Elem) (us vs : List (Elem × (Elem × V))) (xs ys : List (Elem × V)) → us ++ (beside k (xs ++ ys) ++ vs) ≡ (us ++ beside k xs) ++ (beside k ys ++ vs)
  moved k us vs xs ys = ap (λ (l : List (Elem × (Elem × V))). us ++ (l ++ vs)) (beside-append k xs ys) ∙ ap (λ (l : List (Elem × (Elem × V))). us ++ l) (append_assoc (beside k xs) (beside k ys) vs) ∙ sym (append_assoc us (beside k xs) (beside k ys ++ vs))

  adds_cut : (k x : Elem) (v : V) (us vs : List (Elem × (Elem × V))) (xs zs : List (Elem × V)) → AddsRow xs zs x v → AddsRow (us ++ (beside k xs ++ vs)) (us ++ (beside k zs ++ vs)) k (x, v)
  adds_cut k x v us vs xs zs a =
      let front = us ++ beside k (take a.0 xs) in
      let back = beside k (drop a.0 xs) ++ vs in
      let old : us ++ (beside k xs ++ vs) ≡ front ++ back = ap (λ (l : List (Elem × V)). us ++ (beside k l ++ vs)) (parts a.0 xs) ∙ moved k us vs (take a.0 xs) (drop a.0 xs) in
      let new : us ++ (beside k zs ++ vs) ≡ front ++ (k, (x, v)) ∷ back = ap (λ (l : List (Elem × V)). us ++ (beside k l ++ vs)) a.1 ∙ moved k us vs (take a.0 xs) ((x, v) ∷ drop a.0 xs) in
      (length front, new ∙ insert_at front back (k, (x, v)) ∙ ap (λ (l : List (Elem × (Elem × V))). insert l (length front) (k, (x, v))) (sym old))

  -- ---- rows whose group at a key changes
  module _ (k : Elem) (rows : List (Elem × (Elem × V))) where
    abbrev below : List (Elem × (Elem × V))
    below = rows_below natural_before k rows

    abbrev above : List (Elem × (Elem × V))
    above = rows_above natural_before k rows

    pub group-with_group : (xs : List (Elem × V)) → group k (with_group k xs rows) ≡ xs
    group-with_group xs = group_cut k below above (none_below_passes natural_before_strict k rows) (none_above_passes natural_before_strict k rows) xs

    pub length-with_group : (xs : List (Elem × V)) → length (with_group k xs rows) ≡ length below + (length xs + length above)
    length-with_group xs = length-append below (beside k xs ++ above) ∙ ap (λ n. length below + n) (length-append (beside k xs) above ∙ ap (λ n. n + length above) (length-beside k xs))

    module _ (whole : rows ≡ with_group k (group k rows) rows) where
      pub added : (x : Elem) (v : V) (zs : List (Elem × V)) → AddsRow (group k rows) zs x v → AddsRow rows (with_group k zs rows) k (x, v)
      added x v zs a = subst (λ (l : List (Elem × (Elem × V))). AddsRow l (with_group k zs rows) k (x, v)) (sym whole) (adds_cut k x v below above (group k rows) zs a)

      pub removed : (x : Elem) → IsInOrder natural_before (group k rows) → with_group k (without (group k rows) x) rows ≡ without_both k x rows
      removed x s = sym (ap (without_both k x) whole ∙ without_both_cut k below above (none_below_passes natural_before_strict k rows) (none_above_passes natural_before_strict k rows) x (group k rows) s)

      pub changed : (x : Elem) (v : V) → IsInOrder natural_before (group k rows) → with_group k (with_value (group k rows) x v) rows ≡ with_both k x v rows
      changed x v s = sym (ap (with_both k x v) whole ∙ with_both_cut k below above (none_below_passes natural_before_strict k rows) (none_above_passes natural_before_strict k rows) x v (group k rows) s)

      pub others : (xs : List (Elem × V)) → without_group k (with_group k xs rows) ≡ without_group k rows
      others xs =
          let n = none_below_passes natural_before_strict k rows in
          let m = none_above_passes natural_before_strict k rows in
          without_group_cut k below above n m xs ∙ sym (ap (without_group k) whole ∙ without_group_cut k below above n m (group k rows))

      pub group_gone : with_group k [] rows ≡ without_group k rows
      group_gone = sym (ap (without_group k) whole ∙ without_group_cut k below above (none_below_passes natural_before_strict k rows) (none_above_passes natural_before_strict k rows) (group k rows))

  -- ---- lengths
  pub length-placed : (before : Elem → Elem → Bool) (xs : List (Elem × V)) (x : Elem) (v : V) → length (placed before xs x v) ≡ suc (length xs)
  length-placed before [] x v = refl
  length-placed before (y ∷ ys) x v = by (before x y.0) (length-placed before ys x v)
    where
      by : (b : Bool) → length (placed before ys x v) ≡ suc (length ys) → length (cond b ((x, v) ∷ y ∷ ys) (y ∷ placed before ys x v)) ≡ suc (suc (length ys))
      by true e = refl
      by false e = ap suc e

  pub length-without : (xs : List (Elem × V)) (x : Elem) (v : V) → value_at xs x ≡ Some v → suc (length (without xs x)) ≡ length xs
  length-without [] x v h = cc
  length-without (y ∷ ys) x v h = by (same x y.0) h (length-without ys x v)
    where
      by : (b : Bool) → cond b (Some y.1) (value_at ys x) ≡ Some v → (value_at ys x ≡ Some v → suc (length (without ys x)) ≡ length ys) → suc (length (cond b ys (y ∷ without ys x))) ≡ suc (length ys)
      by true e ih = refl
      by false e ih = ap suc (ih e)
