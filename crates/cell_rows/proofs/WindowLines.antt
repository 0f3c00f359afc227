-- The keys in a window of sorted rows, one after another.
use Rattle.std.proofs.Common.{◌≡◌, ◌+◌, Bool, true, false, not, ◌&&◌, cond, List, [], ◌∷◌, reverse, refl, ap, sym, ◌∙◌}
use Rattle.std.specs.Prelude.{filter, slice_get, Option, Some, None}
use Rattle.std.specs.Map.{keys_of}
use Rattle.std.proofs.lemmas.Map.Made.{IsDistinct-keys_filter}
use Rattle.elem.specs.declared.cuts.Cut.{Cut}
use Rattle.elem.specs.declared.cuts.Cut.TheVariants.{Start, Below, Above, End}
use Rattle.elem.specs.declared.elements.Elem.{Elem}
use Rattle.elem.specs.declared.windows.Window.{Window}
use Rattle.elem.specs.Cuts.{cut_upto, lies_between}
use Rattle.elem.specs.Elements.{same}
use Rattle.elem.specs.Keyed.{HasDistinctKeys}
use Rattle.elem.specs.Orders.{IsStrictOrder}
use Rattle.elem.specs.Rows.{first_key, last_key}
use Rattle.plain_base.specs.Sorted.{ComesFirst, IsInOrder, rows_above, rows_below, rows_between}
use Rattle.plain_base.proofs.SortedLemmas.{key_after-above, key_before-below}
use Rattle.view_laws.specs.Lanes.{turned_if}
use Rattle.view_laws.specs.Following.{Follows, IsFrom}
use Rattle.view_laws.proofs.ListLemmas.{filter-filter, filter-map, and-true, and-false, both_true}
use Rattle.cell_rows.specs.Threads.{rest_of}
use Rattle.cell_rows.proofs.MemberLemmas.{in_turned, passes_filter}
use Rattle.cell_rows.proofs.KeyLemmas.{first_at, last_at, after_at, before_from_back, present_at}

twice : (b : Bool) → not (not b) ≡ b
twice true = refl
twice false = refl

module _ {V : Type 0} where
  first-filter : (before : Elem → Elem → Bool) (p : Elem × V → Bool) (a : Elem) (rows : List (Elem × V)) → ComesFirst before a rows → ComesFirst before a (filter p rows)
  first-filter before p a [] f = tt
  first-filter before p a (r ∷ rs) f = by (p r) (first-filter before p a rs f.1)
    where
      by : (b : Bool) → ComesFirst before a (filter p rs) → ComesFirst before a (cond b (r ∷ filter p rs) (filter p rs))
      by true ih = (f.0, ih)
      by false ih = ih

  pub in_order-filter : (before : Elem → Elem → Bool) (p : Elem × V → Bool) (rows : List (Elem × V)) → IsInOrder before rows → IsInOrder before (filter p rows)
  in_order-filter before p [] s = tt
  in_order-filter before p (r ∷ rs) s = by (p r) (in_order-filter before p rs s.1)
    where
      by : (b : Bool) → IsInOrder before (filter p rs) → IsInOrder before (cond b (r ∷ filter p rs) (filter p rs))
      by true ih = (first-filter before p r.0 rs s.0, ih)
      by false ih = ih

  keys_between : (p : Elem → Bool) (rows : List (Elem × V)) → keys_of (filter (λ row. p row.0) rows) ≡ filter p (keys_of rows)
  keys_between p rows = sym (filter-map p (λ (row : Elem × V). row.0) rows)

module _ {before : Elem → Elem → Bool} (o : IsStrictOrder before) where
  -- an order is kept where one goes on
  not_on : (a k x : Elem) → before k x ≡ true → before k a ≡ false → before x a ≡ false
  not_on a k x kx ka = by (before x a) refl
    where
      by : (b : Bool) → before x a ≡ b → b ≡ false
      by true e = let f = o.transitive k x a kx e in cc
      by false e = refl

  not_back : (a k x : Elem) → before x k ≡ true → before a k ≡ false → before a x ≡ false
  not_back a k x xk ak = by (before a x) refl
    where
      by : (b : Bool) → before a x ≡ b → b ≡ false
      by true e = let f = o.transitive a x k e xk in cc
      by false e = refl

  negated : (b : Bool) → not b ≡ true → b ≡ false
  negated true h = cc
  negated false h = refl

  -- what comes after an element above a cut is above it
  above_on : (lo : Cut) (k x : Elem) → cut_upto before lo (Below k) ≡ true → before k x ≡ true → cut_upto before lo (Below x) ≡ true
  above_on Start k x h kx = refl
  above_on (Below a) k x h kx = ap not (not_on a k x kx (negated (before k a) h))
  above_on (Above a) k x h kx = twice (before a x) ∙ o.transitive a k x (sym (twice (before a k)) ∙ h) kx
  above_on End k x h kx = h

  -- what comes before an element below a cut is below it
  below_on : (hi : Cut) (k x : Elem) → cut_upto before (Above k) hi ≡ true → before x k ≡ true → cut_upto before (Above x) hi ≡ true
  below_on Start k x h xk = h
  below_on (Below b) k x h xk = twice (before x b) ∙ o.transitive x k b xk (sym (twice (before k b)) ∙ h)
  below_on (Above b) k x h xk = ap not (not_back b k x xk (negated (before b k) h))
  below_on End k x h xk = refl

  -- the window behind a key is what comes after the key in the window
  pub behind : (lo hi : Cut) (k x : Elem) → cut_upto before lo (Below k) ≡ true → lies_between before lo hi x && before k x ≡ lies_between before (Above k) hi x
  behind lo hi k x low = by (before k x) refl
    where
      by : (b : Bool) → before k x ≡ b → lies_between before lo hi x && b ≡ not (not b) && cut_upto before (Above x) hi
      by true e = ap (λ c. (c && cut_upto before (Above x) hi) && true) (above_on lo k x low e) ∙ and-true (cut_upto before (Above x) hi)
      by false e = and-false (lies_between before lo hi x)

  ahead : (lo hi : Cut) (k x : Elem) → cut_upto before (Above k) hi ≡ true → lies_between before lo hi x && before x k ≡ lies_between before lo (Below k) x
  ahead lo hi k x high = by (before x k) refl
    where
      by : (b : Bool) → before x k ≡ b → lies_between before lo hi x && b ≡ cut_upto before lo (Below x) && not (not b)
      by true e = ap (λ c. (cut_upto before lo (Below x) && c) && true) (below_on hi k x high e) ∙ and-true (cut_upto before lo (Below x) && true)
      by false e = and-false (lies_between before lo hi x) ∙ sym (and-false (cut_upto before lo (Below x)))

  module _ {V : Type 0} where
    pub rows_behind : (lo hi : Cut) (k : Elem) (rows : List (Elem × V)) → cut_upto before lo (Below k) ≡ true → rows_above before k (rows_between before lo hi rows) ≡ rows_between before (Above k) hi rows
    rows_behind lo hi k rows low =
        filter-filter (λ (row : Elem × V). before k row.0) (λ (row : Elem × V). lies_between before lo hi row.0) rows ∙ (λ i. filter (λ (row : Elem × V). behind lo hi k row.0 low i) rows)

    rows_ahead : (lo hi : Cut) (k : Elem) (rows : List (Elem × V)) → cut_upto before (Above k) hi ≡ true → rows_below before k (rows_between before lo hi rows) ≡ rows_between before lo (Below k) rows
    rows_ahead lo hi k rows high =
        filter-filter (λ (row : Elem × V). before row.0 k) (λ (row : Elem × V). lies_between before lo hi row.0) rows ∙ (λ i. filter (λ (row : Elem × V). ahead lo hi k row.0 high i) rows)

    -- the keys in a window
    abbrev pub window_line : Window → Bool → List (Elem × V) → List Elem
    window_line w back rows = turned_if back (filter (lies_between before w.lo w.hi) (keys_of rows))

    -- a key of the window lies in it
    inside : (w : Window) (back : Bool) (rows : List (Elem × V)) (k : Elem) → IsFrom (window_line w back rows) (Some k) → (cut_upto before w.lo (Below k) ≡ true) × (cut_upto before (Above k) w.hi ≡ true)
    inside w back rows k at =
        let there = in_turned back (filter (lies_between before w.lo w.hi) (keys_of rows)) k at.0 at.1 in
        both_true (cut_upto before w.lo (Below k)) (cut_upto before (Above k) w.hi) (passes_filter (lies_between before w.lo w.hi) (keys_of rows) k there.0 there.1)

    -- the rest of a window does not end before it starts
    pub rest_is_window : (w : Window) (back : Bool) (rows : List (Elem × V)) (from : Option Elem) → cut_upto before w.lo w.hi ≡ true → IsFrom (window_line w back rows) from
        → cut_upto before (rest_of w back from).lo (rest_of w back from).hi ≡ true
    rest_is_window w back rows None h at = h
    rest_is_window w true rows (Some k) h at = (inside w true rows k at).0
    rest_is_window w false rows (Some k) h at = (inside w false rows k at).1

    pub window_first : (w : Window) (rows : List (Elem × V)) (from r : Option Elem) → IsInOrder before rows → HasDistinctKeys rows → IsFrom (window_line w false rows) from
        → r ≡ first_key (rows_between before (rest_of w false from).lo (rest_of w false from).hi rows) → Follows (window_line w false rows) from r
    window_first w rows None r s d at e =
        ap (λ ks. slice_get ks 0) (sym (keys_between (lies_between before w.lo w.hi) rows)) ∙ first_at (rows_between before w.lo w.hi rows) ∙ sym e
    window_first w rows (Some k) r s d at e = λ i is.
        let part : List (Elem × V) = rows_between before w.lo w.hi rows in
        let keys : keys_of part ≡ filter (lies_between before w.lo w.hi) (keys_of rows) = keys_between (lies_between before w.lo w.hi) rows in
        let here : slice_get (keys_of part) i ≡ Some k = ap (λ ks. slice_get ks i) keys ∙ is in
        ap (λ ks. slice_get ks (i + 1)) (sym keys)
        ∙ after_at part k i (IsDistinct-keys_filter same (λ (row : Elem × V). lies_between before w.lo w.hi row.0) rows d) here
        ∙ key_after-above o k part (in_order-filter before (λ (row : Elem × V). lies_between before w.lo w.hi row.0) rows s) (present_at part i k here)
        ∙ ap first_key (rows_behind w.lo w.hi k rows (inside w false rows k at).0) ∙ sym e

    pub window_last : (w : Window) (rows : List (Elem × V)) (from r : Option Elem) → IsInOrder before rows → HasDistinctKeys rows → IsFrom (window_line w true rows) from
        → r ≡ last_key (rows_between before (rest_of w true from).lo (rest_of w true from).hi rows) → Follows (window_line w true rows) from r
    window_last w rows None r s d at e =
        ap (λ ks. slice_get (reverse ks) 0) (sym (keys_between (lies_between before w.lo w.hi) rows)) ∙ last_at (rows_between before w.lo w.hi rows) ∙ sym e
    window_last w rows (Some k) r s d at e = λ i is.
        let part : List (Elem × V) = rows_between before w.lo w.hi rows in
        let keys : keys_of part ≡ filter (lies_between before w.lo w.hi) (keys_of rows) = keys_between (lies_between before w.lo w.hi) rows in
        let here : slice_get (reverse (keys_of part)) i ≡ Some k = ap (λ ks. slice_get (reverse ks) i) keys ∙ is in
        let there = in_turned true (keys_of part) k i here in
        ap (λ ks. slice_get (reverse ks) (i + 1)) (sym keys)
        ∙ before_from_back part k i (IsDistinct-keys_filter same (λ (row : Elem × V). lies_between before w.lo w.hi row.0) rows d) here
        ∙ key_before-below o k part (in_order-filter before (λ (row : Elem × V). lies_between before w.lo w.hi row.0) rows s) (present_at part there.0 k there.1)
        ∙ ap last_key (rows_ahead w.lo w.hi k rows (inside w true rows k at).1) ∙ sym e
