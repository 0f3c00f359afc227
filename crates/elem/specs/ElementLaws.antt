-- `same` decides equality, and the natural order is total and ties exactly what is the same.
use Rattle.std.proofs.Common.{◌≡◌, List, ℕ, nat_eq, ap, refl, sym, ◌∙◌}
use Rattle.std.specs.Prelude.{IsTrue}
use Rattle.std.specs.Bool.{Decides, one_answer}
use Rattle.std.specs.Cmp.{IsEquivalence, IsTotalOrder, decided, on_total, then_total, nat_cmp_total, int_cmp_total}
use Rattle.std.specs.Cmp.Lexicographic.{pointwise, slice_cmp, nat_list_cmp_total}
use Rattle.std.specs.Ordering.{int_cmp, nat_cmp, is_eq, ordering_then}
use Rattle.std.specs.declared.cmp.Ordering.{Ordering}
use Rattle.std.specs.declared.cmp.Ordering.TheVariants.{Less, Equal, Greater}
use Rattle.std.proofs.lemmas.Bool.Decides.{Decides-int_eq}
use Rattle.std.proofs.lemmas.Slice.Eq.{bytes_eq-Decides}
use Rattle.std.proofs.lemmas.Map.Text.{is_eq-slice_cmp}
use Rattle.elem.specs.declared.elements.Elem.{Elem}
use Rattle.elem.specs.declared.elements.Elem.TheVariants.{Int, Text}
use Rattle.elem.specs.Elements.{same, natural_order, class_of, number_part, text_part, hashed}

pub same-Decides : (a b : Elem) → Decides (same a b) (a ≡ b)
unfolding same
same-Decides (Int m) (Int n) = (λ h. ap Int ((Decides-int_eq m n).0 h), λ e. (Decides-int_eq m n).1 (cc))
same-Decides (Int m) (Text w) = (λ h. cc, λ e. cc)
same-Decides (Text v) (Int n) = (λ h. cc, λ e. cc)
same-Decides (Text v) (Text w) = (λ h. ap Text ((bytes_eq-Decides v w).0 h), λ e. (bytes_eq-Decides v w).1 (cc))

pub same_equiv : IsEquivalence same
same_equiv = decided same same-Decides

pub hashed-same : (a b : Elem) → IsTrue (same a b) → hashed a ≡ hashed b
hashed-same a b h = ap hashed ((same-Decides a b).0 h)

pub natural_order_total : IsTotalOrder natural_order
unfolding natural_order
natural_order_total = then_total (on_total class_of nat_cmp_total) (then_total (on_total number_part int_cmp_total) (on_total text_part nat_list_cmp_total))

then_equal : (r : Ordering) → is_eq (ordering_then r Equal) ≡ is_eq r
then_equal Less = refl
then_equal Equal = refl
then_equal Greater = refl

natural_order-Decides : (a b : Elem) → Decides (is_eq (natural_order a b)) (a ≡ b)
unfolding natural_order
natural_order-Decides (Int m) (Int n) = (λ h. ap Int ((Decides-int_eq m n).0 (sym (then_equal (int_cmp m n)) ∙ h)), λ e. let numbers : m ≡ n = cc in then_equal (int_cmp m n) ∙ (Decides-int_eq m n).1 numbers)
natural_order-Decides (Int m) (Text w) = (λ h. cc, λ e. cc)
natural_order-Decides (Text v) (Int n) = (λ h. cc, λ e. cc)
natural_order-Decides (Text v) (Text w) = (λ h. ap Text ((bytes_eq-Decides v w).0 (sym (is_eq-slice_cmp v w) ∙ h)), λ e. let texts : v ≡ w = cc in is_eq-slice_cmp v w ∙ (bytes_eq-Decides v w).1 texts)

pub natural_ties : (a b : Elem) → same a b ≡ is_eq (natural_order a b)
natural_ties a b = one_answer (same a b) (is_eq (natural_order a b)) (same-Decides a b) (natural_order-Decides a b)

pub bytes_ties : (v w : List ℕ) → pointwise nat_eq v w ≡ is_eq (slice_cmp nat_cmp v w)
bytes_ties v w = sym (is_eq-slice_cmp v w)

pub ruleset same_is = same-Decides
