-- A window's rows are those between its two bounds in a tree.
use Rattle.std.proofs.Common.{◌≡◌, Bool, true, false, not, ◌&&◌, ◌⊎◌, inl, inr, List, [], ◌∷◌, Option, None, refl, sym, ap, ◌∙◌}
use Rattle.std.specs.List.{filter}
use Rattle.std.specs.Ordering.{is_lt}
use Rattle.std.specs.declared.cmp.Ordering.{Ordering}
use Rattle.std.specs.declared.cmp.Ordering.TheVariants.{Less, Equal, Greater}
use Rattle.std.specs.BTreeMap.Range.{IsLeBy, IsLtBy, entries_between, is_from_start, is_past_end, range_contains}
use Rattle.std.specs.Bound.{IsForward}
use Rattle.std.specs.declared.ops.Bound.{Bound}
use Rattle.std.specs.declared.ops.Bound.TheVariants.{Excluded, Unbounded}
use Rattle.elem.specs.declared.elements.Elem.{Elem}
use Rattle.elem.specs.declared.cuts.Cut.{Cut}
use Rattle.elem.specs.declared.cuts.Cut.TheVariants.{Start, Below, Above, End}
use Rattle.elem.specs.Cuts.{cut_upto, lies_between}
use Rattle.elem.specs.Orders.{IsStrictOrder}
use Rattle.plain_base.specs.Ordered.{order_of}
use Rattle.plain_base.specs.Sorted.{lower_bound, upper_bound, rows_between, rows_above, rows_below}
use Rattle.plain_base.proofs.OrderLemmas.{is_lt-order, is_le-order, is_gt-order}

twice : (b : Bool) → b ≡ not (not b)
twice true = refl
twice false = refl

never : (b : Bool) → b && false ≡ false
never true = refl
never false = refl

is_less : (r : Ordering) → is_lt r ≡ true → r ≡ Less
is_less Less h = refl
is_less Equal h = cc
is_less Greater h = cc

negated : (b : Bool) → not b ≡ true → b ≡ false
negated true h = cc
negated false h = refl

module _ {before : Elem → Elem → Bool} (o : IsStrictOrder before) where
  from_start : (lo : Cut) (q : Elem) → (lo ≡ End → ⊥) → is_from_start (order_of before) (lower_bound lo) q ≡ cut_upto before lo (Below q)
  from_start Start q h = refl
  from_start (Below a) q h = is_le-order o a q
  from_start (Above a) q h = is_lt-order o a q ∙ twice (before a q)
  from_start End q h = absurd (h refl)

  up_to_end : (hi : Cut) (q : Elem) → (hi ≡ Start → ⊥) → not (is_past_end (order_of before) (upper_bound hi) q) ≡ cut_upto before (Above q) hi
  up_to_end Start q h = absurd (h refl)
  up_to_end (Below b) q h = ap not (is_le-order o b q)
  up_to_end (Above b) q h = ap not (is_lt-order o b q)
  up_to_end End q h = refl

  between : (lo hi : Cut) (q : Elem) → (lo ≡ End → ⊥) → (hi ≡ Start → ⊥) → range_contains (order_of before) (lower_bound lo) (upper_bound hi) q ≡ lies_between before lo hi q
  between lo hi q g h = rw (from_start lo q g, up_to_end hi q h) refl

  pub window_is_forward : (lo hi : Cut) → cut_upto before lo hi ≡ true → IsForward (IsLeBy (order_of before)) (IsLtBy (order_of before)) (lower_bound lo) (upper_bound hi)
  window_is_forward Start hi h = tt
  window_is_forward (Below a) Start h = tt
  window_is_forward (Below a) (Below b) h = is_gt-order o a b ∙ negated (before b a) h
  window_is_forward (Below a) (Above b) h = is_gt-order o a b ∙ negated (before b a) h
  window_is_forward (Below a) End h = tt
  window_is_forward (Above a) Start h = tt
  window_is_forward (Above a) (Below b) h = is_less (order_of before a b) (is_lt-order o a b ∙ twice (before a b) ∙ h)
  window_is_forward (Above a) (Above b) h = is_gt-order o a b ∙ negated (before b a) h
  window_is_forward (Above a) End h = tt
  window_is_forward End hi h = tt

  module _ {V : Type 0} where
    pub rows_between-range : (lo hi : Cut) (rows : List (Elem × V)) → (lo ≡ End → ⊥) → (hi ≡ Start → ⊥) → entries_between (order_of before) (lower_bound lo) (upper_bound hi) rows ≡ rows_between before lo hi rows
    rows_between-range lo hi rows g h = λ i. filter (λ (row : Elem × V). between lo hi row.0 g h i) rows

    pub rows_above-range : (k : Elem) (rows : List (Elem × V)) → entries_between (order_of before) (lower_bound (Above k)) (upper_bound End) rows ≡ rows_above before k rows
    rows_above-range k rows = λ i. filter (λ (row : Elem × V). above row.0 i) rows
      where
        above : (q : Elem) → range_contains (order_of before) (lower_bound (Above k)) (upper_bound End) q ≡ before k q
        above q = alone (is_lt (order_of before k q)) ∙ is_lt-order o k q
          where
            alone : (b : Bool) → b && true ≡ b
            alone true = refl
            alone false = refl

    pub rows_below-range : (k : Elem) (rows : List (Elem × V)) → entries_between (order_of before) (lower_bound Start) (upper_bound (Below k)) rows ≡ rows_below before k rows
    rows_below-range k rows = λ i. filter (λ (row : Elem × V). below row.0 i) rows
      where
        below : (q : Elem) → range_contains (order_of before) (lower_bound Start) (upper_bound (Below k)) q ≡ before q k
        below q = ap not (is_le-order o k q) ∙ sym (twice (before q k))

  -- nothing lies above the end, and nothing below the start
  module _ {V : Type 0} (keep : Elem → Bool) (none : (q : Elem) → keep q ≡ false) where
    empty_filter : (rows : List (Elem × V)) → filter (λ (row : Elem × V). keep row.0) rows ≡ []
    empty_filter [] = refl
    empty_filter (row ∷ rows) = rw (none row.0) (empty_filter rows)

  pub none_above_end : {V : Type 0} (hi : Cut) (rows : List (Elem × V)) → rows_between before End hi rows ≡ []
  none_above_end {V} hi rows = empty_filter (lies_between before End hi) (λ q. refl) rows

  pub none_below_start : {V : Type 0} (lo : Cut) (rows : List (Elem × V)) → rows_between before lo Start rows ≡ []
  none_below_start {V} lo rows = empty_filter (lies_between before lo Start) (λ q. never (cut_upto before lo (Below q))) rows

  -- ---- the answer that a key read from the part of a tree between two bounds is
  module _ {V : Type 0} (key : List (Elem × V) → Option Elem) where
    pub window_none : key [] ≡ None → (lo hi : Cut) (rows : List (Elem × V)) → (lo ≡ End) ⊎ (hi ≡ Start) → None ≡ key (rows_between before lo hi rows)
    window_none n lo hi rows e = sym (ap key (elim e [
      | inl p ↦ ap (λ (c : Cut). rows_between before c hi rows) p ∙ none_above_end hi rows
      | inr p ↦ ap (λ (c : Cut). rows_between before lo c rows) p ∙ none_below_start lo rows
    ]) ∙ n)

    pub window_some : (lo hi : Cut) (x : Option Elem) (from to : Bound Elem) (rows os : List (Elem × V)) → x ≡ key (entries_between (order_of before) from to rows) → from ≡ lower_bound lo → to ≡ upper_bound hi → rows ≡ os
        → (lo ≡ End → ⊥) → (hi ≡ Start → ⊥) → x ≡ key (rows_between before lo hi os)
    window_some lo hi x from to rows os e a b s g h = e ∙ ap key ((λ i. entries_between (order_of before) (a i) (b i) (s i)) ∙ rows_between-range lo hi os g h)

    pub above_some : (k q : Elem) (x : Option Elem) (rows os : List (Elem × V)) → x ≡ key (entries_between (order_of before) (Excluded q) Unbounded rows) → q ≡ k → rows ≡ os → x ≡ key (rows_above before k os)
    above_some k q x rows os e a s = e ∙ ap key ((λ i. entries_between (order_of before) (Excluded (a i)) Unbounded (s i)) ∙ rows_above-range k os)

    pub below_some : (k q : Elem) (x : Option Elem) (rows os : List (Elem × V)) → x ≡ key (entries_between (order_of before) Unbounded (Excluded q) rows) → q ≡ k → rows ≡ os → x ≡ key (rows_below before k os)
    below_some k q x rows os e a s = e ∙ ap key ((λ i. entries_between (order_of before) Unbounded (Excluded (a i)) (s i)) ∙ rows_below-range k os)
