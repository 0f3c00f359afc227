-- A row put in a tree: in the place of its key's row, or in its own place in the order.
use Rattle.std.proofs.Common.{◌≡◌, Bool, true, false, cond, List, [], ◌∷◌, Option, Some, None, refl, sym, ap, ◌∙◌, is_some}
use Rattle.std.specs.Map.{lookup}
use Rattle.std.specs.Ordering.{match_ordering}
use Rattle.std.specs.declared.cmp.Ordering.TheVariants.{Less, Equal, Greater}
use Rattle.std.specs.BTreeMap.{insert_entry, is_at}
use Rattle.elem.specs.declared.elements.Elem.{Elem}
use Rattle.elem.specs.Elements.{same}
use Rattle.elem.specs.Keyed.{value_at, with_value}
use Rattle.elem.specs.Orders.{IsStrictOrder}
use Rattle.plain_base.specs.Ordered.{order_of}
use Rattle.plain_base.specs.Sorted.{IsInOrder, placed}
use Rattle.plain_base.proofs.OrderLemmas.{is_at-order}
use Rattle.plain_base.proofs.SortedCuts.{absent_first, comes_on}

-- the rows with v at k
abbrev pub with_put : {V : Type 0} → (Elem → Elem → Bool) → List (Elem × V) → Elem → V → List (Elem × V)
with_put before rows k v = cond (is_some (value_at rows k)) (with_value rows k v) (placed before rows k v)

module _ {before : Elem → Elem → Bool} (o : IsStrictOrder before) {V : Type 0} where
  pub insert-put : (k : Elem) (v : V) (rows : List (Elem × V)) → IsInOrder before rows → insert_entry (order_of before) rows k v ≡ with_put before rows k v
  insert-put k v [] s = refl
  insert-put k v (row ∷ rows) s = by (same k row.0) (before k row.0) refl (insert-put k v rows s.1)
    where
      behind : (b : Bool) (x y : List (Elem × V)) → row ∷ cond b x y ≡ cond b (row ∷ x) (row ∷ y)
      behind true x y = refl
      behind false x y = refl

      by : (b t : Bool) → before k row.0 ≡ t → insert_entry (order_of before) rows k v ≡ with_put before rows k v
          → match_ordering (cond b Equal (cond t Less Greater)) ((k, v) ∷ row ∷ rows) ((row.0, v) ∷ rows) (row ∷ insert_entry (order_of before) rows k v)
          ≡ cond (is_some (cond b (Some row.1) (value_at rows k))) (cond b ((row.0, v) ∷ rows) (row ∷ with_value rows k v)) (cond t ((k, v) ∷ row ∷ rows) (row ∷ placed before rows k v))
      by true t e ih = refl
      by false true e ih = rw (absent_first o k rows (comes_on o k row.0 rows e s.0)) refl
      by false false e ih = ap (λ (rest : List (Elem × V)). row ∷ rest) ih ∙ behind (is_some (value_at rows k)) (with_value rows k v) (placed before rows k v)

  pub put_is : (k q : Elem) (v : V) (rows os ns : List (Elem × V)) → ns ≡ insert_entry (order_of before) rows q v → q ≡ k → rows ≡ os → IsInOrder before rows → ns ≡ with_put before os k v
  put_is k q v rows os ns e a s i = e ∙ ap (λ (x : Elem). insert_entry (order_of before) rows x v) a ∙ insert-put k v rows i ∙ ap (λ (rs : List (Elem × V)). with_put before rs k v) s

-- what a tree tells of a key
pub told_at : {V : Type 0} (before : Elem → Elem → Bool) (k q : Elem) (rows os : List (Elem × V)) (x : Option V) → x ≡ lookup (is_at (order_of before q)) rows → q ≡ k → rows ≡ os → x ≡ value_at os k
told_at before k q rows os x e a s = e ∙ (λ i. lookup (is_at (order_of before (a i))) (s i)) ∙ ap (λ (test : Elem → Bool). lookup test os) (is_at-order before k)
