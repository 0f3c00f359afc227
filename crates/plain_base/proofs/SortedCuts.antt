-- Rows in order are cut at a key: those before it, its own, and those after it.
use Rattle.std.proofs.Common.{◌≡◌, ℕ, zero, suc, ◌+◌, ◌≤◌, Bool, true, false, not, cond, List, [], ◌∷◌, ◌++◌, Option, Some, None, refl, sym, ap, ◌∙◌, subst, arith, slice_get}
use Rattle.std.specs.List.{AllByRecursion}
use Rattle.std.specs.Map.{set_value, keys_of}
use Rattle.std.specs.BTreeMap.{is_at}
use Rattle.std.proofs.lemmas.Map.{NonePasses}
use Rattle.elem.specs.declared.elements.Elem.{Elem}
use Rattle.elem.specs.Elements.{same}
use Rattle.elem.specs.ElementLaws.{same-Decides, same_equiv}
use Rattle.std.specs.Prelude.{IsSome, is_some}
use Rattle.elem.specs.Keyed.{value_at, IsPresent, IsAbsent, with_value, without}
use Rattle.elem.specs.Orders.{IsStrictOrder}
use Rattle.elem.specs.Rows.{first_key, key_after}
use Rattle.elem.proofs.RowsLemmas.{set_value_at, remove_at}
use Rattle.plain_base.specs.Sorted.{ComesFirst, IsInOrder, placed, rows_above, rows_below}
use Rattle.plain_base.specs.Groups.{own}
use Rattle.plain_base.specs.Ordered.{order_of}
use Rattle.plain_base.proofs.OrderLemmas.{is_at-order, one_way}
use Rattle.plain_base.proofs.SortedLemmas.{all_above, none_below, before_present}

pub remove_absent : {W : Type 0} (k : Elem) (gs : List (Elem × W)) → value_at gs k ≡ None → without gs k ≡ gs
remove_absent k [] h = refl
remove_absent k (g ∷ gs) h = by (same k g.0) h (remove_absent k gs)
  where
    by : (b : Bool) → cond b (Some g.1) (value_at gs k) ≡ None → (value_at gs k ≡ None → without gs k ≡ gs) → cond b gs (g ∷ without gs k) ≡ g ∷ gs
    by true e ih = cc
    by false e ih = ap (λ l. g ∷ l) (ih e)

pub set_itself : {W : Type 0} (k : Elem) (gs : List (Elem × W)) (w : W) → value_at gs k ≡ Some w → with_value gs k w ≡ gs
set_itself k [] w h = refl
set_itself k (g ∷ gs) w h = by (same k g.0) h (set_itself k gs w)
  where
    by : (b : Bool) → cond b (Some g.1) (value_at gs k) ≡ Some w → (value_at gs k ≡ Some w → with_value gs k w ≡ gs) → cond b ((g.0, w) ∷ gs) (g ∷ with_value gs k w) ≡ g ∷ gs
    by true e ih = let own : g.1 ≡ w = cc in (λ i. (g.0, sym own i) ∷ gs)
    by false e ih = ap (λ l. g ∷ l) (ih e)

-- a value written back where it was found
pub written_back : {W : Type 0} (before : Elem → Elem → Bool) (k q : Elem) (rows os : List (Elem × W)) (w z : W) → q ≡ k → rows ≡ os → z ≡ w → value_at os k ≡ Some w → set_value (is_at (order_of before q)) rows z ≡ os
written_back before k q rows os w z a s e h = (λ i. set_value (is_at (order_of before (a i))) (s i) (e i)) ∙ ap (λ test. set_value test os w) (is_at-order before k) ∙ set_itself k os w h

module _ {before : Elem → Elem → Bool} (o : IsStrictOrder before) where
  apart : (k a : Elem) → before a k ≡ true → same k a ≡ false
  apart k a h = by (same k a) refl
    where
      by : (b : Bool) → same k a ≡ b → b ≡ false
      by true e = let f = ap (before a) (sym ((same-Decides k a).0 e)) in let g = o.irreflexive a in cc
      by false e = refl

  pub apart_after : (k a : Elem) → before k a ≡ true → same k a ≡ false
  apart_after k a h = by (same k a) refl
    where
      by : (b : Bool) → same k a ≡ b → b ≡ false
      by true e = let f = ap (before k) ((same-Decides k a).0 e) in let g = o.irreflexive k in cc
      by false e = refl

module _ {before : Elem → Elem → Bool} (o : IsStrictOrder before) {W : Type 0} where
  pub comes_on : (k a : Elem) (gs : List (Elem × W)) → before k a ≡ true → ComesFirst before a gs → ComesFirst before k gs
  comes_on k a [] h f = tt
  comes_on k a (g ∷ gs) h f = (o.transitive k a g.0 h f.0, comes_on k a gs h f.1)

  pub absent_first : (k : Elem) (gs : List (Elem × W)) → ComesFirst before k gs → value_at gs k ≡ None
  absent_first k [] f = refl
  absent_first k (g ∷ gs) f = ap (λ b. cond b (Some g.1) (value_at gs k)) (apart_after o k g.0 f.0) ∙ absent_first k gs f.1

  pub own_cut : (k : Elem) (gs : List (Elem × W)) → IsInOrder before gs → gs ≡ rows_below before k gs ++ (own k (value_at gs k) ++ rows_above before k gs)
  own_cut k [] s = refl
  own_cut k (g ∷ gs) s = by (same k g.0) refl (before g.0 k) refl (own_cut k gs s.1)
    where
      by : (b : Bool) → same k g.0 ≡ b → (t : Bool) → before g.0 k ≡ t → gs ≡ rows_below before k gs ++ (own k (value_at gs k) ++ rows_above before k gs)
          → g ∷ gs ≡ cond t (g ∷ rows_below before k gs) (rows_below before k gs) ++ (own k (cond b (Some g.1) (value_at gs k)) ++ cond (before k g.0) (g ∷ rows_above before k gs) (rows_above before k gs))
      by true e true f ih = let a = apart o k g.0 f in let never : true ≡ false = sym e ∙ a in cc
      by true e false f ih =
          let key : g.0 ≡ k = sym ((same-Decides k g.0).0 e) in
          let itself : before k g.0 ≡ false = ap (before k) key ∙ o.irreflexive k in
          let first : ComesFirst before k gs = subst (λ (x : Elem). ComesFirst before x gs) key s.0 in
          rw (itself, none_below o k gs first, all_above o k gs first) (λ i. (key i, g.1) ∷ gs)
      by false e true f ih =
          let later : before k g.0 ≡ false = one_way o g.0 k f in
          rw later (ap (λ (l : List (Elem × W)). g ∷ l) ih)
      by false e false f ih =
          let earlier : before k g.0 ≡ true = o.exactly_one k g.0 (λ q. (let w = (same-Decides k g.0).1 q in cc)) ∙ ap not f in
          let first : ComesFirst before k gs = comes_on k g.0 gs earlier s.0 in
          rw (earlier, none_below o k gs first, all_above o k gs first, absent_first k gs first) refl

  pub none_below_passes : (k : Elem) (gs : List (Elem × W)) → NonePasses (same k) (rows_below before k gs)
  none_below_passes k [] = tt
  none_below_passes k (g ∷ gs) = by (before g.0 k) refl (none_below_passes k gs)
    where
      by : (t : Bool) → before g.0 k ≡ t → NonePasses (same k) (rows_below before k gs) → NonePasses (same k) (cond t (g ∷ rows_below before k gs) (rows_below before k gs))
      by true e ih = (apart o k g.0 e, ih)
      by false e ih = ih

  pub none_above_passes : (k : Elem) (gs : List (Elem × W)) → NonePasses (same k) (rows_above before k gs)
  none_above_passes k [] = tt
  none_above_passes k (g ∷ gs) = by (before k g.0) refl (none_above_passes k gs)
    where
      by : (t : Bool) → before k g.0 ≡ t → NonePasses (same k) (rows_above before k gs) → NonePasses (same k) (cond t (g ∷ rows_above before k gs) (rows_above before k gs))
      by true e ih = (apart_after o k g.0 e, ih)
      by false e ih = ih

  all_come_before : (k : Elem) (gs : List (Elem × W)) → AllByRecursion (λ (g : Elem × W). before g.0 k ≡ true) (rows_below before k gs)
  all_come_before k [] = tt
  all_come_before k (g ∷ gs) = by (before g.0 k) refl (all_come_before k gs)
    where
      by : (t : Bool) → before g.0 k ≡ t → AllByRecursion (λ (g : Elem × W). before g.0 k ≡ true) (rows_below before k gs) → AllByRecursion (λ (g : Elem × W). before g.0 k ≡ true) (cond t (g ∷ rows_below before k gs) (rows_below before k gs))
      by true e ih = (e, ih)
      by false e ih = ih

  all_come_after : (k : Elem) (gs : List (Elem × W)) → ComesFirst before k (rows_above before k gs)
  all_come_after k [] = tt
  all_come_after k (g ∷ gs) = by (before k g.0) refl (all_come_after k gs)
    where
      by : (t : Bool) → before k g.0 ≡ t → ComesFirst before k (rows_above before k gs) → ComesFirst before k (cond t (g ∷ rows_above before k gs) (rows_above before k gs))
      by true e ih = (e, ih)
      by false e ih = ih

  placed_at : (us vs : List (Elem × W)) (k : Elem) (w : W) → AllByRecursion (λ (g : Elem × W). before g.0 k ≡ true) us → ComesFirst before k vs → placed before (us ++ vs) k w ≡ us ++ (k, w) ∷ vs
  placed_at [] [] k w a f = refl
  placed_at [] (v ∷ vs) k w a f = ap (λ b. cond b ((k, w) ∷ v ∷ vs) (v ∷ placed before vs k w)) f.0
  placed_at (u ∷ us) vs k w a f = ap (λ b. cond b ((k, w) ∷ u ∷ (us ++ vs)) (u ∷ placed before (us ++ vs) k w)) (one_way o u.0 k a.0) ∙ ap (λ l. u ∷ l) (placed_at us vs k w a.1 f)

  pub set_cut : (k : Elem) (gs : List (Elem × W)) (x w : W) → IsInOrder before gs → value_at gs k ≡ Some x → with_value gs k w ≡ rows_below before k gs ++ (own k (Some w) ++ rows_above before k gs)
  set_cut k gs x w s h =
      ap (λ (l : List (Elem × W)). with_value l k w) (own_cut k gs s ∙ ap (λ (v : Option W). rows_below before k gs ++ (own k v ++ rows_above before k gs)) h)
      ∙ set_value_at (same k) (rows_below before k gs) (k, x) (rows_above before k gs) w (none_below_passes k gs) (same_equiv.refl k)

  pub set_present : (k : Elem) (gs : List (Elem × W)) (w : W) → IsInOrder before gs → IsPresent gs k → with_value gs k w ≡ rows_below before k gs ++ (own k (Some w) ++ rows_above before k gs)
  set_present k gs w s h = by (value_at gs k) refl h (λ x. set_cut k gs x w s)
    where
      by : (v : Option W) → value_at gs k ≡ v → IsSome v → ((x : W) → value_at gs k ≡ Some x → with_value gs k w ≡ rows_below before k gs ++ (own k (Some w) ++ rows_above before k gs))
          → with_value gs k w ≡ rows_below before k gs ++ (own k (Some w) ++ rows_above before k gs)
      by None e p f = cc
      by (Some x) e p f = f x e

  pub placed_cut : (k : Elem) (gs : List (Elem × W)) (w : W) → IsInOrder before gs → IsAbsent gs k → placed before gs k w ≡ rows_below before k gs ++ (own k (Some w) ++ rows_above before k gs)
  placed_cut k gs w s h =
      ap (λ (l : List (Elem × W)). placed before l k w) (own_cut k gs s ∙ ap (λ (v : Option W). rows_below before k gs ++ (own k v ++ rows_above before k gs)) h)
      ∙ placed_at (rows_below before k gs) (rows_above before k gs) k w (all_come_before k gs) (all_come_after k gs)

  pub remove_cut : (k : Elem) (gs : List (Elem × W)) → IsInOrder before gs → without gs k ≡ rows_below before k gs ++ rows_above before k gs
  remove_cut k gs s = by (value_at gs k) refl
    where
      cut : (v : Option W) → value_at gs k ≡ v → gs ≡ rows_below before k gs ++ (own k v ++ rows_above before k gs)
      cut v e = own_cut k gs s ∙ ap (λ (v : Option W). rows_below before k gs ++ (own k v ++ rows_above before k gs)) e

      by : (v : Option W) → value_at gs k ≡ v → without gs k ≡ rows_below before k gs ++ rows_above before k gs
      by None e = remove_absent k gs e ∙ cut None e
      by (Some x) e = ap (λ (l : List (Elem × W)). without l k) (cut (Some x) e) ∙ remove_at (same k) (rows_below before k gs) (k, x) (rows_above before k gs) (none_below_passes k gs) (same_equiv.refl k)

  -- ---- what keeps the order
  first_placed : (a k : Elem) (w : W) (gs : List (Elem × W)) → before a k ≡ true → ComesFirst before a gs → ComesFirst before a (placed before gs k w)
  first_placed a k w [] h f = (h, tt)
  first_placed a k w (g ∷ gs) h f = by (before k g.0) (first_placed a k w gs h f.1)
    where
      by : (t : Bool) → ComesFirst before a (placed before gs k w) → ComesFirst before a (cond t ((k, w) ∷ g ∷ gs) (g ∷ placed before gs k w))
      by true ih = (h, f)
      by false ih = (f.0, ih)

  pub placed_in_order : (k : Elem) (w : W) (gs : List (Elem × W)) → IsInOrder before gs → IsAbsent gs k → IsInOrder before (placed before gs k w)
  placed_in_order k w [] s h = (tt, tt)
  placed_in_order k w (g ∷ gs) s h = by (same k g.0) refl h (before k g.0) refl (placed_in_order k w gs s.1)
    where
      by : (b : Bool) → same k g.0 ≡ b → cond b (Some g.1) (value_at gs k) ≡ None → (t : Bool) → before k g.0 ≡ t → (IsAbsent gs k → IsInOrder before (placed before gs k w)) → IsInOrder before (cond t ((k, w) ∷ g ∷ gs) (g ∷ placed before gs k w))
      by true e n t f ih = cc
      by false e n true f ih = ((f, comes_on k g.0 gs f s.0), s)
      by false e n false f ih =
          let later : before g.0 k ≡ true = o.exactly_one g.0 k (λ q. (let r = (same-Decides k g.0).1 (sym q) in cc)) ∙ ap not f in
          (first_placed g.0 k w gs later s.0, ih n)

  first_without : (a k : Elem) (gs : List (Elem × W)) → ComesFirst before a gs → ComesFirst before a (without gs k)
  first_without a k [] f = tt
  first_without a k (g ∷ gs) f = by (same k g.0) (first_without a k gs f.1)
    where
      by : (b : Bool) → ComesFirst before a (without gs k) → ComesFirst before a (cond b gs (g ∷ without gs k))
      by true ih = f.1
      by false ih = (f.0, ih)

  pub without_in_order : (k : Elem) (gs : List (Elem × W)) → IsInOrder before gs → IsInOrder before (without gs k)
  without_in_order k [] s = tt
  without_in_order k (g ∷ gs) s = by (same k g.0) (without_in_order k gs s.1)
    where
      by : (b : Bool) → IsInOrder before (without gs k) → IsInOrder before (cond b gs (g ∷ without gs k))
      by true ih = s.1
      by false ih = (first_without g.0 k gs s.0, ih)

  first_with : (a k : Elem) (w : W) (gs : List (Elem × W)) → ComesFirst before a gs → ComesFirst before a (with_value gs k w)
  first_with a k w [] f = tt
  first_with a k w (g ∷ gs) f = by (same k g.0) (first_with a k w gs f.1)
    where
      by : (b : Bool) → ComesFirst before a (with_value gs k w) → ComesFirst before a (cond b ((g.0, w) ∷ gs) (g ∷ with_value gs k w))
      by true ih = f
      by false ih = (f.0, ih)

  pub with_in_order : (k : Elem) (w : W) (gs : List (Elem × W)) → IsInOrder before gs → IsInOrder before (with_value gs k w)
  with_in_order k w [] s = tt
  with_in_order k w (g ∷ gs) s = by (same k g.0) (with_in_order k w gs s.1)
    where
      by : (b : Bool) → IsInOrder before (with_value gs k w) → IsInOrder before (cond b ((g.0, w) ∷ gs) (g ∷ with_value gs k w))
      by true ih = s
      by false ih = (first_with g.0 k w gs s.0, ih)

  -- ---- by places
  pub nth_present : (gs : List (Elem × W)) (i : ℕ) (k : Elem) → slice_get (keys_of gs) i ≡ Some k → IsPresent gs k
  nth_present [] i k h = cc
  nth_present (g ∷ gs) zero k h = let e : g.0 ≡ k = cc in ap (λ (b : Bool). is_some (cond b (Some g.1) (value_at gs k))) ((same-Decides k g.0).1 (sym e))
  nth_present (g ∷ gs) (suc i) k h = by (same k g.0) (nth_present gs i k h)
    where
      by : (b : Bool) → IsPresent gs k → IsSome (cond b (Some g.1) (value_at gs k))
      by true p = refl
      by false p = p

  first_is_nth : (gs : List (Elem × W)) → first_key gs ≡ slice_get (keys_of gs) zero
  first_is_nth [] = refl
  first_is_nth (g ∷ gs) = refl

  pub nth_after : (gs : List (Elem × W)) (i : ℕ) (k : Elem) → IsInOrder before gs → slice_get (keys_of gs) i ≡ Some k → key_after (same k) gs ≡ slice_get (keys_of gs) (suc i)
  nth_after [] i k s h = cc
  nth_after (g ∷ gs) zero k s h = let e : g.0 ≡ k = cc in ap (λ (b : Bool). cond b (first_key gs) (key_after (same k) gs)) ((same-Decides k g.0).1 (sym e)) ∙ first_is_nth gs
  nth_after (g ∷ gs) (suc i) k s h =
      ap (λ (b : Bool). cond b (first_key gs) (key_after (same k) gs)) (apart o k g.0 (before_present o g.0 k gs s.0 (nth_present gs i k h))) ∙ nth_after gs i k s.1 h

module _ {before : Elem → Elem → Bool} (o : IsStrictOrder before) {W : Type 0} where
  pub after_nth : (gs : List (Elem × W)) (i : ℕ) (k : Elem) → IsInOrder before gs → slice_get (keys_of gs) i ≡ Some k → key_after (same k) gs ≡ slice_get (keys_of gs) (i + 1)
  after_nth gs i k s h = let e : suc i ≡ i + 1 = omega arith in nth_after o gs i k s h ∙ ap (slice_get (keys_of gs)) e

pub none_of : {X : Type 0} (x : Option X) → is_some x ≡ false → x ≡ None
none_of None e = refl
none_of (Some x) e = cc

pub none_later : {X : Type 0} (xs : List X) (i j : ℕ) → i ≤ j → slice_get xs i ≡ None → slice_get xs j ≡ None
none_later [] i j l h = refl
none_later (x ∷ xs) zero j l h = cc
none_later (x ∷ xs) (suc i) zero l h = absurd (omega arith)
none_later (x ∷ xs) (suc i) (suc j) l h = none_later xs i j (omega arith) h
