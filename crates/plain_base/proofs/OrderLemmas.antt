-- What a comparison answers, by the order that it is of.
use Rattle.std.proofs.Common.{◌≡◌, Bool, true, false, not, cond, List, Option, Some, refl, sym, ap, ◌∙◌}
use Rattle.std.specs.Ordering.{is_eq, is_lt, is_le, is_gt}
use Rattle.std.specs.declared.cmp.Ordering.TheVariants.{Less, Equal, Greater}
use Rattle.std.specs.BTreeMap.{is_at}
use Rattle.std.specs.Map.{lookup}
use Rattle.elem.specs.Keyed.{value_at}
use Rattle.elem.specs.declared.elements.Elem.{Elem}
use Rattle.elem.specs.Elements.{same}
use Rattle.elem.specs.ElementLaws.{same-Decides}
use Rattle.elem.specs.Orders.{IsStrictOrder}
use Rattle.plain_base.specs.Ordered.{order_of, order_of-ties}

-- a key is found by `same`
pub is_at-order : (before : Elem → Elem → Bool) (k : Elem) → is_at (order_of before k) ≡ same k
is_at-order before k = λ i q. sym (order_of-ties before k q) i

-- what a look-up in a tree finds
pub found_at : {W : Type 0} (before : Elem → Elem → Bool) (k q : Elem) (rows os : List (Elem × W)) (x : Option W) (w : W) → x ≡ lookup (is_at (order_of before q)) rows → q ≡ k → rows ≡ os → x ≡ Some w → value_at os k ≡ Some w
found_at before k q rows os x w e a s h = ap (λ test. lookup test os) (sym (is_at-order before k)) ∙ (λ i. lookup (is_at (order_of before (sym a i))) (sym s i)) ∙ sym e ∙ h

pub same_by_order : (before : Elem → Elem → Bool) → (λ (x y : Elem). is_eq (order_of before x y)) ≡ same
same_by_order before = λ i x y. sym (order_of-ties before x y) i

module _ {before : Elem → Elem → Bool} (o : IsStrictOrder before) where
  pub is_lt-order : (a b : Elem) → is_lt (order_of before a b) ≡ before a b
  is_lt-order a b = by (same a b) refl (before a b) refl
    where
      by : (s : Bool) → same a b ≡ s → (t : Bool) → before a b ≡ t → is_lt (cond s Equal (cond t Less Greater)) ≡ t
      by true p true q = let f = ap (before a) (sym ((same-Decides a b).0 p)) in let g = o.irreflexive a in cc
      by true p false q = refl
      by false p true q = refl
      by false p false q = refl

  pub is_le-order : (a b : Elem) → is_le (order_of before a b) ≡ not (before b a)
  is_le-order a b = by (same a b) refl (before a b) refl
    where
      by : (s : Bool) → same a b ≡ s → (t : Bool) → before a b ≡ t → is_le (cond s Equal (cond t Less Greater)) ≡ not (before b a)
      by true p t q = let f = ap (λ (x : Elem). before x a) ((same-Decides a b).0 p) in let g = o.irreflexive a in ap not (sym g ∙ f)
      by false p t q = less t ∙ sym q ∙ o.exactly_one a b (λ e. (let f = (same-Decides a b).1 e in cc))
        where
          less : (t : Bool) → is_le (cond t Less Greater) ≡ t
          less true = refl
          less false = refl

  pub is_gt-order : (a b : Elem) → is_gt (order_of before a b) ≡ before b a
  is_gt-order a b = turned (order_of before a b) ∙ ap not (is_le-order a b) ∙ twice (before b a)
    where
      turned : (r : _) → is_gt r ≡ not (is_le r)
      turned Less = refl
      turned Equal = refl
      turned Greater = refl

      twice : (b : Bool) → not (not b) ≡ b
      twice true = refl
      twice false = refl

  -- of two elements that are one before the other, the other is not before the one
  pub one_way : (a b : Elem) → before a b ≡ true → before b a ≡ false
  one_way a b h = by (before b a) refl
    where
      by : (t : Bool) → before b a ≡ t → t ≡ false
      by true e = (let f = o.transitive a b a h e in let g = o.irreflexive a in cc)
      by false e = refl
