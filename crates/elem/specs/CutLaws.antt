-- Cuts are in a strict order where the elements are.
use Rattle.std.proofs.Common.{◌≡◌, ◌≢◌, Bool, true, false, not, ◌&&◌, refl, sym, ap, ◌∙◌}
use Rattle.std.specs.Bool.{Decides}
use Rattle.std.specs.Cmp.{IsEquivalence, decided}
use Rattle.elem.specs.declared.elements.Elem.{Elem}
use Rattle.elem.specs.declared.cuts.Cut.{Cut}
use Rattle.elem.specs.declared.cuts.Cut.TheVariants.{Start, Below, Above, End}
use Rattle.elem.specs.Elements.{same}
use Rattle.elem.specs.ElementLaws.{same-Decides}
use Rattle.elem.specs.Orders.{IsStrictOrder}
use Rattle.elem.specs.Cuts.{same_cut, cut_before, cut_upto, lies_between}

pub same_cut-Decides : (c d : Cut) → Decides (same_cut c d) (c ≡ d)
unfolding same_cut
same_cut-Decides Start Start = (λ h. refl, λ e. refl)
same_cut-Decides Start (Below b) = (λ h. cc, λ e. cc)
same_cut-Decides Start (Above b) = (λ h. cc, λ e. cc)
same_cut-Decides Start End = (λ h. cc, λ e. cc)
same_cut-Decides (Below a) Start = (λ h. cc, λ e. cc)
same_cut-Decides (Below a) (Below b) = (λ h. ap Below ((same-Decides a b).0 h), λ e. (same-Decides a b).1 (cc))
same_cut-Decides (Below a) (Above b) = (λ h. cc, λ e. cc)
same_cut-Decides (Below a) End = (λ h. cc, λ e. cc)
same_cut-Decides (Above a) Start = (λ h. cc, λ e. cc)
same_cut-Decides (Above a) (Below b) = (λ h. cc, λ e. cc)
same_cut-Decides (Above a) (Above b) = (λ h. ap Above ((same-Decides a b).0 h), λ e. (same-Decides a b).1 (cc))
same_cut-Decides (Above a) End = (λ h. cc, λ e. cc)
same_cut-Decides End Start = (λ h. cc, λ e. cc)
same_cut-Decides End (Below b) = (λ h. cc, λ e. cc)
same_cut-Decides End (Above b) = (λ h. cc, λ e. cc)
same_cut-Decides End End = (λ h. refl, λ e. refl)

pub same_cut_equiv : IsEquivalence same_cut
same_cut_equiv = decided same_cut same_cut-Decides

negated : (b : Bool) → not b ≡ true → b ≡ false
negated true h = cc
negated false h = refl

module _ {before : Elem → Elem → Bool} (o : IsStrictOrder before) where
  -- b not before a, and one that comes after b
  pub upto_before : (a b c : Elem) → before b a ≡ false → before b c ≡ true → before a c ≡ true
  upto_before a b c h k = by (same a b) refl
    where
      by : (t : Bool) → same a b ≡ t → before a c ≡ true
      by true e = ap (λ (x : Elem). before x c) ((same-Decides a b).0 e) ∙ k
      by false e = o.transitive a b c (o.exactly_one a b (λ q. (let f = (same-Decides a b).1 q in cc)) ∙ ap not h) k

  pub before_upto : (a b c : Elem) → before a b ≡ true → before c b ≡ false → before a c ≡ true
  before_upto a b c h k = by (same b c) refl
    where
      by : (t : Bool) → same b c ≡ t → before a c ≡ true
      by true e = ap (λ (x : Elem). before a x) (sym ((same-Decides b c).0 e)) ∙ h
      by false e = o.transitive a b c h (o.exactly_one b c (λ q. (let f = (same-Decides b c).1 q in cc)) ∙ ap not k)

  not_both : (a b : Elem) → before a b ≡ true → before b a ≡ false
  not_both a b h = by (before b a) refl
    where
      by : (t : Bool) → before b a ≡ t → t ≡ false
      by true e = (let f = o.transitive a b a h e in let g = o.irreflexive a in cc)
      by false e = refl

  cut_irreflexive : (c : Cut) → cut_before before c c ≡ false
  cut_irreflexive Start = refl
  cut_irreflexive (Below a) = o.irreflexive a
  cut_irreflexive (Above a) = o.irreflexive a
  cut_irreflexive End = refl

  turned_twice : (b : Bool) → b ≡ not (not b)
  turned_twice true = refl
  turned_twice false = refl

  cut_exactly_one : (c d : Cut) → c ≢ d → cut_before before c d ≡ not (cut_before before d c)
  cut_exactly_one Start Start h = absurd (h refl)
  cut_exactly_one Start (Below b) h = refl
  cut_exactly_one Start (Above b) h = refl
  cut_exactly_one Start End h = refl
  cut_exactly_one (Below a) Start h = refl
  cut_exactly_one (Below a) (Below b) h = o.exactly_one a b (λ e. h (ap Below e))
  cut_exactly_one (Below a) (Above b) h = refl
  cut_exactly_one (Below a) End h = refl
  cut_exactly_one (Above a) Start h = refl
  cut_exactly_one (Above a) (Below b) h = turned_twice (before a b)
  cut_exactly_one (Above a) (Above b) h = o.exactly_one a b (λ e. h (ap Above e))
  cut_exactly_one (Above a) End h = refl
  cut_exactly_one End Start h = refl
  cut_exactly_one End (Below b) h = refl
  cut_exactly_one End (Above b) h = refl
  cut_exactly_one End End h = absurd (h refl)

  cut_transitive : (c d e : Cut) → cut_before before c d ≡ true → cut_before before d e ≡ true → cut_before before c e ≡ true
  cut_transitive c d Start h k = cc
  cut_transitive Start d End h k = refl
  cut_transitive (Below a) d End h k = refl
  cut_transitive (Above a) d End h k = refl
  cut_transitive End Start End h k = cc
  cut_transitive End (Below b) End h k = cc
  cut_transitive End (Above b) End h k = cc
  cut_transitive End End End h k = cc
  cut_transitive c Start (Below x) h k = cc
  cut_transitive c Start (Above x) h k = cc
  cut_transitive c End (Below x) h k = cc
  cut_transitive c End (Above x) h k = cc
  cut_transitive Start (Below b) (Below x) h k = refl
  cut_transitive Start (Below b) (Above x) h k = refl
  cut_transitive Start (Above b) (Below x) h k = refl
  cut_transitive Start (Above b) (Above x) h k = refl
  cut_transitive End (Below b) (Below x) h k = cc
  cut_transitive End (Below b) (Above x) h k = cc
  cut_transitive End (Above b) (Below x) h k = cc
  cut_transitive End (Above b) (Above x) h k = cc
  cut_transitive (Below a) (Below b) (Below x) h k = o.transitive a b x h k
  cut_transitive (Below a) (Below b) (Above x) h k = ap not (not_both a x (before_upto a b x h (negated (before x b) k)))
  cut_transitive (Below a) (Above b) (Below x) h k = upto_before a b x (negated (before b a) h) k
  cut_transitive (Below a) (Above b) (Above x) h k = ap not (not_both a x (upto_before a b x (negated (before b a) h) k))
  cut_transitive (Above a) (Below b) (Below x) h k = o.transitive a b x h k
  cut_transitive (Above a) (Below b) (Above x) h k = before_upto a b x h (negated (before x b) k)
  cut_transitive (Above a) (Above b) (Below x) h k = o.transitive a b x h k
  cut_transitive (Above a) (Above b) (Above x) h k = o.transitive a b x h k

  pub cut_before_strict : IsStrictOrder (cut_before before)
  cut_before_strict = record { irreflexive = cut_irreflexive; exactly_one = cut_exactly_one; transitive = cut_transitive }

  -- at or before chains
  not_before : (c d e : Cut) → cut_before before d c ≡ false → cut_before before e d ≡ false → cut_before before e c ≡ false
  not_before c d e h k = by (cut_before before e c) refl
    where
      after : (t : Bool) → same_cut d e ≡ t → cut_before before e c ≡ true → cut_before before d c ≡ true
      after true p q = ap (λ (x : Cut). cut_before before x c) ((same_cut-Decides d e).0 p) ∙ q
      after false p q = cut_transitive d e c (cut_exactly_one d e (λ r. (let f = (same_cut-Decides d e).1 r in cc)) ∙ ap not k) q

      by : (u : Bool) → cut_before before e c ≡ u → u ≡ false
      by true q = (let f = after (same_cut d e) refl q in cc)
      by false q = refl

  pub cut_upto_chain : (c d e : Cut) → cut_upto before c d ≡ true → cut_upto before d e ≡ true → cut_upto before c e ≡ true
  cut_upto_chain c d e h k = ap not (not_before c d e (negated (cut_before before d c) h) (negated (cut_before before e d) k))

  -- what lies between two cuts lies between two that stand at or outside them
  pub lies_between-wider : (lo hi from to : Cut) (x : Elem) → cut_upto before from lo ≡ true → cut_upto before hi to ≡ true → lies_between before lo hi x ≡ true → lies_between before from to x ≡ true
  lies_between-wider lo hi from to x h k l =
      let inside = both (cut_upto before lo (Below x)) (cut_upto before (Above x) hi) l in
      let above : cut_upto before from (Below x) ≡ true = cut_upto_chain from lo (Below x) h inside.0 in
      let below : cut_upto before (Above x) to ≡ true = cut_upto_chain (Above x) hi to inside.1 k in
      rw (above, below) refl
    where
      both : (a b : Bool) → a && b ≡ true → (a ≡ true) × (b ≡ true)
      both true true h = (refl, refl)
      both true false h = cc
      both false b h = cc

pub ruleset same_cut_is = same_cut-Decides
