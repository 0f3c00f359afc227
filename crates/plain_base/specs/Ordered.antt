-- An order of elements as the three answers of a comparison.
use Rattle.std.specs.Prelude.{◌≡◌, Bool, true, false, not, cond, refl}
use Rattle.std.proofs.Common.{sym, ap, ◌∙◌}
use Rattle.std.specs.Cmp.{IsTotalOrder, strict}
use Rattle.std.specs.Ordering.{is_eq, MatchOrdering}
use Rattle.std.specs.declared.cmp.Ordering.{Ordering}
use Rattle.std.specs.declared.cmp.Ordering.TheVariants.{Less, Equal, Greater}
use Rattle.elem.specs.declared.elements.Elem.{Elem}
use Rattle.elem.specs.Elements.{same}
use Rattle.elem.specs.ElementLaws.{same-Decides}
use Rattle.elem.specs.Orders.{IsStrictOrder}

-- how two elements stand where `before` puts them in order
abbrev pub order_of : (Elem → Elem → Bool) → Elem → Elem → Ordering
order_of before a b = cond (same a b) Equal (cond (before a b) Less Greater)

pub order_of-ties : (before : Elem → Elem → Bool) (a b : Elem) → same a b ≡ is_eq (order_of before a b)
order_of-ties before a b = by (same a b) (before a b)
  where
    by : (s t : Bool) → s ≡ is_eq (cond s Equal (cond t Less Greater))
    by true t = refl
    by false true = refl
    by false false = refl

module _ {before : Elem → Elem → Bool} (o : IsStrictOrder before) where
  never_itself : (a : Elem) → ¬ (before a a ≡ true)
  never_itself a h = let f = o.irreflexive a in cc

  stands : (a b : Elem) → MatchOrdering (order_of before a b) (before a b ≡ true) (a ≡ b) (before b a ≡ true)
  stands a b = by (same a b) refl (before a b) refl
    where
      by : (s : Bool) → same a b ≡ s → (t : Bool) → before a b ≡ t → MatchOrdering (cond s Equal (cond t Less Greater)) (t ≡ true) (a ≡ b) (before b a ≡ true)
      by true p t q = (same-Decides a b).0 p
      by false p true q = refl
      by false p false q = o.exactly_one b a (λ e. (let f = (same-Decides a b).1 (sym e) in cc)) ∙ ap not q

  pub order_of_total : IsTotalOrder (order_of before)
  order_of_total = strict (λ a b. before a b ≡ true) never_itself o.transitive (order_of before) stands
