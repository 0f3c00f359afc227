-- Windows inside one another, and the window that `within` leaves.
use Rattle.std.proofs.Common.{◌≡◌, Bool, true, false, not, ◌&&◌, refl, sym, ap, ◌∙◌}
use Rattle.elem.specs.declared.elements.Elem.{Elem}
use Rattle.elem.specs.declared.cuts.Cut.{Cut}
use Rattle.elem.specs.declared.cuts.Cut.TheVariants.{Start, Below, Above, End}
use Rattle.elem.specs.declared.windows.Window.{Window}
use Rattle.elem.specs.CutLaws.{lies_between-wider, cut_before_strict, cut_upto_chain}
use Rattle.vocabulary.specs.declared.orders.Order.{Order}
use Rattle.vocabulary.specs.declared.orders.Order.TheVariants.{Natural, Reverse, ByLength}
use Rattle.vocabulary.specs.Orders.{before_strict, same_order, upto, lies_in, encloses}
use Rattle.vocabulary.specs.Windows.{stands_in, low_fits, high_fits, takes_range, low_end, high_end, resulting}
use Rattle.view_steps.proofs.ListLemmas.{both}

pub same_order-refl : (order : Order) → same_order order order ≡ true
same_order-refl Natural = refl
same_order-refl Reverse = refl
same_order-refl ByLength = refl

pub upto-refl : (order : Order) (c : Cut) → upto order c c ≡ true
upto-refl order c = ap not ((cut_before_strict (before_strict order)).irreflexive c)

-- what lies in a window lies in one that encloses it
pub lies_in-outer : (order : Order) (outer inner : Window) (x : Elem) → encloses order outer inner ≡ true → lies_in order inner x ≡ true → lies_in order outer x ≡ true
lies_in-outer order outer inner x h l =
    let ends = both (upto order outer.lo inner.lo) (upto order inner.hi outer.hi) h in
    lies_between-wider (before_strict order) inner.lo inner.hi outer.lo outer.hi x ends.0 ends.1 l

-- ---- the rule of `within`

pub record Inside (order : Order) (below w : Window) : Type 0 where
  pub in_order : upto order w.lo w.hi ≡ true
  pub low : upto order below.lo w.lo ≡ true
  pub high : upto order w.hi below.hi ≡ true

given : (order : Order) (below : Window) (lo hi : Cut) → upto order lo hi ≡ true → stands_in order below lo ≡ true → stands_in order below hi ≡ true → Inside order below (record { lo = lo; hi = hi })
given order below lo hi h low high =
    let left = both (upto order below.lo lo) (upto order lo below.hi) low in
    let right = both (upto order below.lo hi) (upto order hi below.hi) high in
    record { in_order = h; low = left.0; high = right.1 }

ends_inside : (order : Order) (below : Window) (lo hi : Cut) → upto order below.lo below.hi ≡ true → upto order lo hi ≡ true → low_fits order below lo ≡ true → high_fits order below hi ≡ true
    → Inside order below (record { lo = low_end below.lo lo; hi = high_end below.hi hi })
ends_inside order below Start End ordered h low high = record { in_order = ordered; low = upto-refl order below.lo; high = upto-refl order below.hi }
ends_inside order below Start Start ordered h low high = let ends = both (upto order below.lo Start) (upto order Start below.hi) high in record { in_order = ends.0; low = upto-refl order below.lo; high = ends.1 }
ends_inside order below Start (Below b) ordered h low high = let ends = both (upto order below.lo (Below b)) (upto order (Below b) below.hi) high in record { in_order = ends.0; low = upto-refl order below.lo; high = ends.1 }
ends_inside order below Start (Above b) ordered h low high = let ends = both (upto order below.lo (Above b)) (upto order (Above b) below.hi) high in record { in_order = ends.0; low = upto-refl order below.lo; high = ends.1 }
ends_inside order below (Below a) End ordered h low high = let ends = both (upto order below.lo (Below a)) (upto order (Below a) below.hi) low in record { in_order = ends.1; low = ends.0; high = upto-refl order below.hi }
ends_inside order below (Above a) End ordered h low high = let ends = both (upto order below.lo (Above a)) (upto order (Above a) below.hi) low in record { in_order = ends.1; low = ends.0; high = upto-refl order below.hi }
ends_inside order below End End ordered h low high = let ends = both (upto order below.lo End) (upto order End below.hi) low in record { in_order = ends.1; low = ends.0; high = upto-refl order below.hi }
ends_inside order below (Below a) (Below b) ordered h low high = given order below (Below a) (Below b) h low high
ends_inside order below (Below a) (Above b) ordered h low high = given order below (Below a) (Above b) h low high
ends_inside order below (Above a) (Below b) ordered h low high = given order below (Above a) (Below b) h low high
ends_inside order below (Above a) (Above b) ordered h low high = given order below (Above a) (Above b) h low high
ends_inside order below (Below a) Start ordered h low high = given order below (Below a) Start h low high
ends_inside order below (Above a) Start ordered h low high = given order below (Above a) Start h low high
ends_inside order below End Start ordered h low high = given order below End Start h low high
ends_inside order below End (Below b) ordered h low high = given order below End (Below b) h low high
ends_inside order below End (Above b) ordered h low high = given order below End (Above b) h low high

-- a range that is taken gives a window in order, inside the one below
pub resulting-inside : (order : Order) (below range : Window) → upto order below.lo below.hi ≡ true → takes_range order below range ≡ true → Inside order below (resulting below range)
resulting-inside order below range ordered h =
    let first = both (upto order range.lo range.hi && low_fits order below range.lo) (high_fits order below range.hi) h in
    let ends = both (upto order range.lo range.hi) (low_fits order below range.lo) first.0 in
    ends_inside order below range.lo range.hi ordered ends.0 ends.1 first.1

pub encloses-chain : (order : Order) (a b c : Window) → encloses order a b ≡ true → encloses order b c ≡ true → encloses order a c ≡ true
encloses-chain order a b c h k =
    let outer = both (upto order a.lo b.lo) (upto order b.hi a.hi) h in
    let inner = both (upto order b.lo c.lo) (upto order c.hi b.hi) k in
    rw (cut_upto_chain (before_strict order) a.lo b.lo c.lo outer.0 inner.0, cut_upto_chain (before_strict order) c.hi b.hi a.hi inner.1 outer.1) refl

pub inside-encloses : (order : Order) (below w : Window) → Inside order below w → encloses order below w ≡ true
inside-encloses order below w i = rw (i.low, i.high) refl

-- ---- what lies in the resulting window

first_cut : (order : Order) (c : Cut) → upto order Start c ≡ true
first_cut order Start = refl
first_cut order (Below a) = refl
first_cut order (Above a) = refl
first_cut order End = refl

last_cut : (order : Order) (c : Cut) → upto order c End ≡ true
last_cut order Start = refl
last_cut order (Below a) = refl
last_cut order (Above a) = refl
last_cut order End = refl

low_end-after : (order : Order) (below lo : Cut) → upto order lo (low_end below lo) ≡ true
low_end-after order below Start = first_cut order below
low_end-after order below (Below a) = upto-refl order (Below a)
low_end-after order below (Above a) = upto-refl order (Above a)
low_end-after order below End = upto-refl order End

high_end-before : (order : Order) (below hi : Cut) → upto order (high_end below hi) hi ≡ true
high_end-before order below Start = upto-refl order Start
high_end-before order below (Below a) = upto-refl order (Below a)
high_end-before order below (Above a) = upto-refl order (Above a)
high_end-before order below End = last_cut order below

low_end-upto : (order : Order) (below lo c : Cut) → upto order below c ≡ true → upto order lo c ≡ true → upto order (low_end below lo) c ≡ true
low_end-upto order below Start c h k = h
low_end-upto order below (Below a) c h k = k
low_end-upto order below (Above a) c h k = k
low_end-upto order below End c h k = k

high_end-upto : (order : Order) (below hi c : Cut) → upto order c below ≡ true → upto order c hi ≡ true → upto order c (high_end below hi) ≡ true
high_end-upto order below Start c h k = k
high_end-upto order below (Below a) c h k = k
high_end-upto order below (Above a) c h k = k
high_end-upto order below End c h k = h

-- in both windows, and so in the resulting one
in_both : (order : Order) (below range : Window) (x : Elem) → lies_in order below x && lies_in order range x ≡ true → lies_in order (resulting below range) x ≡ true
in_both order below range x h =
    let sides = both (lies_in order below x) (lies_in order range x) h in
    let outer = both (upto order below.lo (Below x)) (upto order (Above x) below.hi) sides.0 in
    let inner = both (upto order range.lo (Below x)) (upto order (Above x) range.hi) sides.1 in
    rw (low_end-upto order below.lo range.lo (Below x) outer.0 inner.0, high_end-upto order below.hi range.hi (Above x) outer.1 inner.1) refl

range-encloses : (order : Order) (below range : Window) → encloses order range (resulting below range) ≡ true
range-encloses order below range = rw (low_end-after order below.lo range.lo, high_end-before order below.hi range.hi) refl

pub resulting-lies : (order : Order) (below range : Window) (x : Elem) → upto order below.lo below.hi ≡ true → takes_range order below range ≡ true → lies_in order (resulting below range) x ≡ lies_in order below x && lies_in order range x
resulting-lies order below range x ordered taken = by (lies_in order (resulting below range) x) refl
  where
    inside : Inside order below (resulting below range)
    inside = resulting-inside order below range ordered taken

    holds : lies_in order (resulting below range) x ≡ true → lies_in order below x && lies_in order range x ≡ true
    holds h =
        let outer : lies_in order below x ≡ true = lies_in-outer order below (resulting below range) x (inside-encloses order below (resulting below range) inside) h in
        let inner : lies_in order range x ≡ true = lies_in-outer order range (resulting below range) x (range-encloses order below range) h in
        rw (outer, inner) refl

    fails : (t : Bool) → lies_in order below x && lies_in order range x ≡ t → lies_in order (resulting below range) x ≡ false → false ≡ t
    fails true e h = sym h ∙ in_both order below range x e
    fails false e h = refl

    by : (t : Bool) → lies_in order (resulting below range) x ≡ t → t ≡ lies_in order below x && lies_in order range x
    by true e = sym (holds e)
    by false e = fails (lies_in order below x && lies_in order range x) refl e
