-- Groups after that of one key has changed: they are groups still, and their rows are those with the new group.
use Rattle.std.proofs.Common.{◌≡◌, ℕ, suc, ◌+◌, ◌≤◌, Bool, true, false, cond, List, [], ◌∷◌, ◌++◌, length, Option, Some, None, refl, sym, ap, ◌∙◌, subst, arith}
use Rattle.std.specs.Prelude.{IsSome}
use Rattle.std.specs.List.{AllByRecursion}
use Rattle.std.proofs.lemmas.Map.{length-set_value}
use Rattle.elem.specs.declared.elements.Elem.{Elem}
use Rattle.elem.specs.Elements.{same}
use Rattle.elem.specs.Keyed.{value_at, IsPresent, IsAbsent, AddsRow, with_value, without}
use Rattle.elem.specs.Orders.{natural_before}
use Rattle.elem.specs.OrderLaws.{natural_before_strict}
use Rattle.elem.specs.Rows.{first_key}
use Rattle.plain_base.specs.Sorted.{IsInOrder, placed, rows_above, rows_below}
use Rattle.plain_base.specs.SortedLaws.{placed-adds}
use Rattle.plain_base.specs.TwoKeys.{group, HasBoth, without_group, without_both, with_both, with_group}
use Rattle.plain_base.specs.Groups.{own, with_own, flat, rows_in, some_rows, IsGroup, AreGroups}
use Rattle.plain_base.proofs.SortedCuts.{remove_absent, remove_cut, set_present, placed_in_order, without_in_order, with_in_order}
use Rattle.plain_base.proofs.GroupsLemmas.{kept_groups, group-flat, flat-with_own, whole_rows}
use Rattle.plain_base.proofs.TwoKeysLemmas.{group-with_group, length-with_group, added, removed, changed, others, group_gone, length-placed, length-without}

abbrev pub Groups : Type 0 → Type 0
Groups V = List (Elem × List (Elem × V))

both : {X : Type 0} (P : X → Type 0) (us vs : List X) → AllByRecursion P us → AllByRecursion P vs → AllByRecursion P (us ++ vs)
both P [] vs a b = b
both P (u ∷ us) vs a b = (a.0, both P us vs a.1 b)

module _ {V : Type 0} where
  pub rows_in-some_rows : (ys : List (Elem × V)) → rows_in (some_rows ys) ≡ ys
  rows_in-some_rows [] = refl
  rows_in-some_rows (y ∷ ys) = refl

  pub some_of : (ys : List (Elem × V)) → IsSome (first_key ys) → Some ys ≡ some_rows ys
  some_of [] h = cc
  some_of (y ∷ ys) h = refl

  pub some_placed : (xs : List (Elem × V)) (x : Elem) (v : V) → Some (placed natural_before xs x v) ≡ some_rows (placed natural_before xs x v)
  some_placed [] x v = refl
  some_placed (y ∷ ys) x v = by (natural_before x y.0)
    where
      by : (b : Bool) → Some (cond b ((x, v) ∷ y ∷ ys) (y ∷ placed natural_before ys x v)) ≡ some_rows (cond b ((x, v) ∷ y ∷ ys) (y ∷ placed natural_before ys x v))
      by true = refl
      by false = refl

  pub some_with : (xs : List (Elem × V)) (x : Elem) (v : V) → IsPresent xs x → Some (with_value xs x v) ≡ some_rows (with_value xs x v)
  some_with [] x v h = cc
  some_with (y ∷ ys) x v h = by (same x y.0)
    where
      by : (b : Bool) → Some (cond b ((y.0, v) ∷ ys) (y ∷ with_value ys x v)) ≡ some_rows (cond b ((y.0, v) ∷ ys) (y ∷ with_value ys x v))
      by true = refl
      by false = refl

  pub none_there : (ys : List (Elem × V)) → length ys ≡ 0 → None ≡ some_rows ys
  none_there [] h = refl
  none_there (y ∷ ys) h = absurd (omega arith)

  pub some_there : (ys : List (Elem × V)) → 1 ≤ length ys → Some ys ≡ some_rows ys
  some_there [] h = absurd (omega arith)
  some_there (y ∷ ys) h = refl

  fewer : (xs : List (Elem × V)) (x : Elem) → IsPresent xs x → length (without xs x) + 1 ≡ length xs
  fewer xs x = by (value_at xs x) refl
    where
      by : (o : Option V) → value_at xs x ≡ o → IsSome o → length (without xs x) + 1 ≡ length xs
      by None e h = cc
      by (Some v) e h = let l = length-without xs x v e in omega arith

  pub has_rows : (xs : List (Elem × V)) (x : Elem) → IsPresent xs x → 1 ≤ length xs
  has_rows xs x h = let l = fewer xs x h in omega arith

  pub last_gone : (xs : List (Elem × V)) (x : Elem) → IsPresent xs x → length xs ≡ 1 → None ≡ some_rows (without xs x)
  last_gone xs x h n = let l = fewer xs x h in none_there (without xs x) (omega arith)

  pub more_left : (xs : List (Elem × V)) (x : Elem) → IsPresent xs x → 2 ≤ length xs → Some (without xs x) ≡ some_rows (without xs x)
  more_left xs x h n = let l = fewer xs x h in some_there (without xs x) (omega arith)

  own_groups : (k : Elem) (ys : List (Elem × V)) → IsInOrder natural_before ys → AllByRecursion IsGroup (own k (some_rows ys))
  own_groups k [] s = tt
  own_groups k (y ∷ ys) s = ((refl, s), tt)

  pub has_group : (gs : Groups V) (k x : Elem) → IsPresent (rows_in (value_at gs k)) x → IsPresent gs k
  has_group gs k x = by (value_at gs k)
    where
      by : (o : Option (List (Elem × V))) → IsPresent (rows_in o) x → IsSome o
      by None h = cc
      by (Some xs) h = refl

  group_order : (gs : Groups V) (k : Elem) → AllByRecursion IsGroup gs → IsInOrder natural_before (rows_in (value_at gs k))
  group_order [] k a = tt
  group_order (g ∷ gs) k a = by (same k g.0) (group_order gs k a.1)
    where
      by : (b : Bool) → IsInOrder natural_before (rows_in (value_at gs k)) → IsInOrder natural_before (rows_in (cond b (Some g.1) (value_at gs k)))
      by true ih = a.0.1
      by false ih = ih

  module _ (gs : Groups V) (total : ℕ) (rows : List (Elem × (Elem × V))) (h : AreGroups gs total) (view : flat gs ≡ rows) (k : Elem) where
    abbrev xs : List (Elem × V)
    xs = rows_in (value_at gs k)

    pub own_rows : rows_in (value_at gs k) ≡ group k rows
    own_rows = sym (group-flat k gs h.order) ∙ ap (group k) view

    pub in_order : IsInOrder natural_before (rows_in (value_at gs k))
    in_order = group_order gs k h.each

    pub whole : rows ≡ with_group k (group k rows) rows
    whole = whole_rows k gs rows h.order view

    pub settled_rows : (new : Groups V) (ys : List (Elem × V)) → new ≡ with_own k (some_rows ys) gs → flat new ≡ with_group k ys rows
    settled_rows new ys e = ap flat e ∙ flat-with_own k (some_rows ys) gs ∙ (λ i. with_group k (rows_in-some_rows ys i) (view i))

    pub settled : (new : Groups V) (ys : List (Elem × V)) (now : ℕ) → new ≡ with_own k (some_rows ys) gs → IsInOrder natural_before new → IsInOrder natural_before ys → now + length (group k rows) ≡ total + length ys → AreGroups new now
    settled new ys now e s t n =
        let counted = length-with_group k rows ys in
        let before = length-with_group k rows (group k rows) in
        let size : length rows ≡ length (with_group k (group k rows) rows) = ap length whole in
        let old : total ≡ length rows = h.count ∙ ap length view in
        let now_rows : length (flat new) ≡ length (with_group k ys rows) = ap length (settled_rows new ys e) in
        record {
          order = s;
          each = subst (AllByRecursion IsGroup) (sym e)
              (both IsGroup (rows_below natural_before k gs) (own k (some_rows ys) ++ rows_above natural_before k gs) (kept_groups (λ q. natural_before q k) gs h.each)
              (both IsGroup (own k (some_rows ys)) (rows_above natural_before k gs) (own_groups k ys t) (kept_groups (natural_before k) gs h.each)));
          count = omega arith;
        }

    -- ---- a new row
    abbrev with_new : Elem → V → List (Elem × V)
    with_new x v = placed natural_before (rows_in (value_at gs k)) x v

    pub put_groups : (new : Groups V) (x : Elem) (v : V) → new ≡ with_own k (some_rows (with_new x v)) gs → IsInOrder natural_before new → IsAbsent (group k rows) x → AreGroups new (total + 1)
    put_groups new x v e s a =
        let longer : length (with_new x v) ≡ suc (length (group k rows)) = length-placed natural_before (rows_in (value_at gs k)) x v ∙ ap (λ (l : List (Elem × V)). suc (length l)) own_rows in
        settled new (with_new x v) (total + 1) e s (placed_in_order natural_before_strict x v (rows_in (value_at gs k)) in_order (ap (λ (l : List (Elem × V)). value_at l x) own_rows ∙ a)) (omega arith)

    pub put_adds : (new : Groups V) (x : Elem) (v : V) → new ≡ with_own k (some_rows (with_new x v)) gs → AddsRow rows (flat new) k (x, v)
    put_adds new x v e =
        let rest : flat new ≡ with_group k (placed natural_before (group k rows) x v) rows = settled_rows new (with_new x v) e ∙ ap (λ (l : List (Elem × V)). with_group k (placed natural_before l x v) rows) own_rows in
        subst (λ (l : List (Elem × (Elem × V))). AddsRow rows l k (x, v)) (sym rest) (added k rows whole x v (placed natural_before (group k rows) x v) (placed-adds natural_before x v (group k rows)))

    -- ---- a row taken away
    pub fewer_groups : (new : Groups V) (x : Elem) (now : ℕ) → new ≡ with_own k (some_rows (without (rows_in (value_at gs k)) x)) gs → IsInOrder natural_before new → HasBoth rows k x → now + 1 ≡ total → AreGroups new now
    fewer_groups new x now e s p n =
        let shorter : length (without (rows_in (value_at gs k)) x) + 1 ≡ length (group k rows) = fewer (rows_in (value_at gs k)) x (subst (λ (l : List (Elem × V)). IsPresent l x) (sym own_rows) p) ∙ ap length own_rows in
        settled new (without (rows_in (value_at gs k)) x) now e s (without_in_order natural_before_strict x (rows_in (value_at gs k)) in_order) (omega arith)

    pub fewer_rows : (new : Groups V) (x : Elem) → new ≡ with_own k (some_rows (without (rows_in (value_at gs k)) x)) gs → flat new ≡ without_both k x rows
    fewer_rows new x e =
        settled_rows new (without (rows_in (value_at gs k)) x) e ∙ ap (λ (l : List (Elem × V)). with_group k (without l x) rows) own_rows ∙ removed k rows whole x (subst (IsInOrder natural_before) own_rows in_order)

    pub none_fewer : (x : Elem) → IsAbsent (group k rows) x → rows ≡ without_both k x rows
    none_fewer x a = whole ∙ ap (λ (l : List (Elem × V)). with_group k l rows) (sym (remove_absent x (group k rows) a)) ∙ removed k rows whole x (subst (IsInOrder natural_before) own_rows in_order)

    pub some_row : (x : Elem) → HasBoth rows k x → 1 ≤ total
    some_row x p =
        let shorter = fewer (group k rows) x p in
        let counted = length-with_group k rows (group k rows) in
        let size : length rows ≡ length (with_group k (group k rows) rows) = ap length whole in
        let old : total ≡ length rows = h.count ∙ ap length view in
        omega arith

    -- ---- another value
    pub has_own : (x : Elem) → HasBoth rows k x → IsPresent gs k
    has_own x p = has_group gs k x (subst (λ (l : List (Elem × V)). IsPresent l x) (sym own_rows) p)

    pub set_groups : (new : Groups V) (x : Elem) (v : V) → new ≡ with_value gs k (with_value (rows_in (value_at gs k)) x v) → HasBoth rows k x → new ≡ with_own k (some_rows (with_value (rows_in (value_at gs k)) x v)) gs
    set_groups new x v e p =
        e ∙ set_present natural_before_strict k gs (with_value (rows_in (value_at gs k)) x v) h.order (has_own x p)
        ∙ ap (λ (o : Option (List (Elem × V))). with_own k o gs) (some_with (rows_in (value_at gs k)) x v (subst (λ (l : List (Elem × V)). IsPresent l x) (sym own_rows) p))

    pub set_settled : (new : Groups V) (x : Elem) (v : V) → new ≡ with_own k (some_rows (with_value (rows_in (value_at gs k)) x v)) gs → IsInOrder natural_before new → AreGroups new total
    set_settled new x v e s =
        let as_long : length (with_value (rows_in (value_at gs k)) x v) ≡ length (group k rows) = length-set_value (same x) (rows_in (value_at gs k)) v ∙ ap length own_rows in
        settled new (with_value (rows_in (value_at gs k)) x v) total e s (with_in_order natural_before_strict x v (rows_in (value_at gs k)) in_order) (omega arith)

    pub set_rows : (new : Groups V) (x : Elem) (v : V) → new ≡ with_own k (some_rows (with_value (rows_in (value_at gs k)) x v)) gs → flat new ≡ with_both k x v rows
    set_rows new x v e =
        settled_rows new (with_value (rows_in (value_at gs k)) x v) e ∙ ap (λ (l : List (Elem × V)). with_group k (with_value l x v) rows) own_rows ∙ changed k rows whole x v (subst (IsInOrder natural_before) own_rows in_order)

    -- ---- no row of the key, or others
    pub gone : (new : Groups V) → new ≡ without gs k → new ≡ with_own k (some_rows []) gs
    gone new e = e ∙ remove_cut natural_before_strict k gs h.order

    pub gone_rows : (new : Groups V) → new ≡ with_own k (some_rows []) gs → flat new ≡ without_group k rows
    gone_rows new e = settled_rows new [] e ∙ group_gone k rows whole

    pub some_rows_of_key : length (group k rows) ≤ total
    some_rows_of_key =
        let counted = length-with_group k rows (group k rows) in
        let size : length rows ≡ length (with_group k (group k rows) rows) = ap length whole in
        let old : total ≡ length rows = h.count ∙ ap length view in
        omega arith

    pub others_stay : (new : Groups V) (ys : List (Elem × V)) → new ≡ with_own k (some_rows ys) gs → without_group k (flat new) ≡ without_group k rows
    others_stay new ys e = ap (without_group k) (settled_rows new ys e) ∙ others k rows whole ys

    pub new_group : (new : Groups V) (ys : List (Elem × V)) → new ≡ with_own k (some_rows ys) gs → group k (flat new) ≡ ys
    new_group new ys e = ap (group k) (settled_rows new ys e) ∙ group-with_group k rows ys
