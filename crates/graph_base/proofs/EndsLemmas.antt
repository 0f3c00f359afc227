-- The key of two ends tells which edges join them.
use Rattle.std.proofs.Common.{◌≡◌, ◌⊎◌, inl, inr, Bool, true, false, cond, refl, sym, ap, ◌∙◌}
use Rattle.std.specs.Prelude.{◌&&◌, ◌||◌}
use Rattle.std.specs.Bool.{Decides}
use Rattle.std.specs.Cmp.{IsEquivalence, both_ways, decided}
use Rattle.std.specs.Ordering.{is_lt, is_eq, ordering_reverse}
use Rattle.std.specs.declared.cmp.Ordering.{Ordering}
use Rattle.std.specs.declared.cmp.Ordering.TheVariants.{Less, Equal, Greater}
use Rattle.elem.specs.declared.elements.Elem.{Elem}
use Rattle.elem.specs.Elements.{same, natural_order}
use Rattle.elem.specs.ElementLaws.{same-Decides, natural_order_total, natural_ties}
use Rattle.graph_base.specs.Edges.{Edge, joins}
use Rattle.graph_base.specs.Ends.{Ends, same_ends, ends}

pub and_parts : (s t : Bool) → (s && t) ≡ true → (s ≡ true) × (t ≡ true)
and_parts true true e = (refl, refl)
and_parts true false e = absurd (cc)
and_parts false t e = absurd (cc)

pub or_parts : (s t : Bool) → (s || t) ≡ true → (s ≡ true) ⊎ (t ≡ true)
or_parts true t e = inl refl
or_parts false t e = inr e

or_false : (s : Bool) → s ≡ (s || false)
or_false true = refl
or_false false = refl

or_left : (s t : Bool) → s ≡ true → (s || t) ≡ true
or_left true t e = refl
or_left false t e = absurd (cc)

or_right : (s t : Bool) → t ≡ true → (s || t) ≡ true
or_right true t e = refl
or_right false t e = e

pub same_ends-Decides : (x y : Ends) → Decides (same_ends x y) (x ≡ y)
same_ends-Decides x y = (
  λ h.
      let p = and_parts (same x.0 y.0) (same x.1 y.1) h in
      let first = (same-Decides x.0 y.0).0 p.0 in
      let second = (same-Decides x.1 y.1).0 p.1 in
      (λ i. (first i, second i)),
  λ e. (λ i. (same-Decides x.0 y.0).1 (ap (λ (z : Ends). z.0) e) i && (same-Decides x.1 y.1).1 (ap (λ (z : Ends). z.1) e) i),
)

pub same_ends_equiv : IsEquivalence same_ends
same_ends_equiv = decided same_ends same_ends-Decides

-- without directions the key is the same either way round
turned : (a b : Elem) → ends false a b ≡ ends false b a
turned a b = by_order (natural_order a b) refl
  where
    by_order : (o : Ordering) → natural_order a b ≡ o → ends false a b ≡ ends false b a
    by_order Less e = ap (λ t. cond (is_lt t) (b, a) (a, b)) (natural_order_total.antisymm b a ∙ ap ordering_reverse e) ∙ sym (ap (λ t. cond (is_lt t) (a, b) (b, a)) e)
    by_order Greater e = ap (λ t. cond (is_lt t) (b, a) (a, b)) (natural_order_total.antisymm b a ∙ ap ordering_reverse e) ∙ sym (ap (λ t. cond (is_lt t) (a, b) (b, a)) e)
    by_order Equal e =
        let equal : a ≡ b = (same-Decides a b).0 (natural_ties a b ∙ ap is_eq e) in
        ap (λ t. cond (is_lt t) (b, a) (a, b)) (natural_order_total.antisymm b a ∙ ap ordering_reverse e) ∙ (λ i. (equal i, sym equal i)) ∙ sym (ap (λ t. cond (is_lt t) (a, b) (b, a)) e)

module _ (a b x y : Elem) where
  straight : a ≡ x → b ≡ y → ((same a x && same b y) || (same b x && same a y)) ≡ true
  straight p q = or_left (same a x && same b y) (same b x && same a y) (λ i. (same-Decides a x).1 p i && (same-Decides b y).1 q i)

  crossed : b ≡ x → a ≡ y → ((same a x && same b y) || (same b x && same a y)) ≡ true
  crossed p q = or_right (same a x && same b y) (same b x && same a y) (λ i. (same-Decides b x).1 p i && (same-Decides a y).1 q i)

  by_keys : (s t : Bool) → ◌≡◌ {A = Ends} (cond s (b, a) (a, b)) (cond t (y, x) (x, y)) → ((same a x && same b y) || (same b x && same a y)) ≡ true
  by_keys true true e = straight (ap (λ (z : Ends). z.1) e) (ap (λ (z : Ends). z.0) e)
  by_keys true false e = crossed (ap (λ (z : Ends). z.0) e) (ap (λ (z : Ends). z.1) e)
  by_keys false true e = crossed (ap (λ (z : Ends). z.1) e) (ap (λ (z : Ends). z.0) e)
  by_keys false false e = straight (ap (λ (z : Ends). z.0) e) (ap (λ (z : Ends). z.1) e)

  same_key : ((same a x && same b y) || (same b x && same a y)) ≡ true → ends false a b ≡ ends false x y
  same_key h = by_side (or_parts (same a x && same b y) (same b x && same a y) h)
    where
      by_side : ((same a x && same b y) ≡ true) ⊎ ((same b x && same a y) ≡ true) → ends false a b ≡ ends false x y
      by_side (inl t) =
          let p = and_parts (same a x) (same b y) t in
          let first = (same-Decides a x).0 p.0 in
          let second = (same-Decides b y).0 p.1 in
          (λ i. ends false (first i) (second i))
      by_side (inr t) =
          let p = and_parts (same b x) (same a y) t in
          let first = (same-Decides b x).0 p.0 in
          let second = (same-Decides a y).0 p.1 in
          turned a b ∙ (λ i. ends false (first i) (second i))

  keys_tell : same_ends (ends false a b) (ends false x y) ≡ ((same a x && same b y) || (same b x && same a y))
  keys_tell =
      both_ways (same_ends (ends false a b) (ends false x y)) ((same a x && same b y) || (same b x && same a y))
      (λ h. by_keys (is_lt (natural_order b a)) (is_lt (natural_order y x)) ((same_ends-Decides (ends false a b) (ends false x y)).0 h))
      (λ h. (same_ends-Decides (ends false a b) (ends false x y)).1 (same_key h))

-- an edge joins two nodes exactly where its ends have their key
pub joins_ends : (directed : Bool) (a b : Elem) (e : Edge) → same_ends (ends directed a b) (ends directed e.0 e.1) ≡ joins directed a b e
joins_ends true a b e = or_false (same a e.0 && same b e.1)
joins_ends false a b e = keys_tell a b e.0 e.1

pub ends_join : (directed : Bool) (a b : Elem) (e : Edge) → same_ends (ends directed e.0 e.1) (ends directed a b) ≡ joins directed a b e
ends_join directed a b e = same_ends_equiv.symm (ends directed e.0 e.1) (ends directed a b) ∙ joins_ends directed a b e

pub same_ends_of : (directed : Bool) (a b : Elem) (e : Edge) → joins directed a b e ≡ true → ends directed a b ≡ ends directed e.0 e.1
same_ends_of directed a b e h = (same_ends-Decides (ends directed a b) (ends directed e.0 e.1)).0 (joins_ends directed a b e ∙ h)

-- what joins the nodes of an edge is what joins its ends
pub alike : (directed : Bool) (a b : Elem) (e : Edge) → joins directed a b e ≡ true → (x : Edge) → joins directed a b x ≡ joins directed e.0 e.1 x
alike directed a b e h x = sym (joins_ends directed a b x) ∙ ap (λ k. same_ends k (ends directed x.0 x.1)) (same_ends_of directed a b e h) ∙ joins_ends directed e.0 e.1 x
