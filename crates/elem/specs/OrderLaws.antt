-- The orders of elements are strict orders.
use Rattle.std.proofs.Common.{◌≡◌, ◌≢◌, true, not, length, refl, sym, ap, ◌∙◌}
use Rattle.std.specs.Cmp.{IsTotalOrder, on_total, then_total, nat_cmp_total, tied_itself}
use Rattle.std.specs.Ordering.{is_lt, is_eq, nat_cmp, ordering_then, ordering_reverse}
use Rattle.std.specs.declared.cmp.Ordering.{Ordering}
use Rattle.std.specs.declared.cmp.Ordering.TheVariants.{Less, Equal, Greater}
use Rattle.elem.specs.declared.elements.Elem.{Elem}
use Rattle.elem.specs.Elements.{natural_order}
use Rattle.elem.specs.ElementLaws.{same-Decides, natural_order_total, natural_ties}
use Rattle.elem.specs.Spelling.{spelling}
use Rattle.elem.specs.Orders.{IsStrictOrder, natural_before, reverse_before, length_order, length_before}

is_less : (r : Ordering) → is_lt r ≡ true → r ≡ Less
is_less Less h = refl
is_less Equal h = cc
is_less Greater h = cc

turned : (r : Ordering) → is_eq r ≢ true → is_lt (ordering_reverse r) ≡ not (is_lt r)
turned Less h = refl
turned Equal h = absurd (h refl)
turned Greater h = refl

module _ {A : Type 0} {R : A → A → Ordering} (o : IsTotalOrder R) (ties : (a b : A) → is_eq (R a b) ≡ true → a ≡ b) where
  strict_from_total : IsStrictOrder (λ a b. is_lt (R a b))
  strict_from_total = record {
    irreflexive = λ a. ap is_lt (tied_itself o a);
    exactly_one = λ a b h. ap is_lt (o.antisymm a b) ∙ turned (R b a) (λ e. h (sym (ties b a e)));
    transitive = λ a b c p q. ap is_lt (o.trans a b c (is_less (R a b) p) (is_less (R b c) q));
  }

natural_tie : (a b : Elem) → is_eq (natural_order a b) ≡ true → a ≡ b
natural_tie a b e = (same-Decides a b).0 (natural_ties a b ∙ e)

pub natural_before_strict : IsStrictOrder natural_before
natural_before_strict = strict_from_total natural_order_total natural_tie

pub reverse_before_strict : IsStrictOrder reverse_before
reverse_before_strict = record {
  irreflexive = natural_before_strict.irreflexive;
  exactly_one = λ a b h. natural_before_strict.exactly_one b a (λ e. h (sym e));
  transitive = λ a b c p q. natural_before_strict.transitive c b a q p;
}

second_tie : (r s : Ordering) → is_eq (ordering_then r s) ≡ true → is_eq s ≡ true
second_tie Less s h = cc
second_tie Equal s h = h
second_tie Greater s h = cc

length_order_total : IsTotalOrder length_order
unfolding length_order
length_order_total = then_total (on_total (λ (e : Elem). length (spelling e)) nat_cmp_total) natural_order_total

length_tie : (a b : Elem) → is_eq (length_order a b) ≡ true → a ≡ b
unfolding length_order
length_tie a b h = natural_tie a b (second_tie (nat_cmp (length (spelling a)) (length (spelling b))) (natural_order a b) h)

pub length_before_strict : IsStrictOrder length_before
length_before_strict = strict_from_total length_order_total length_tie
