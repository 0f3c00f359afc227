-- Windows inside one another.
use Rattle.std.proofs.Common.{◌≡◌, true, ◌&&◌, refl}
use Rattle.elem.specs.declared.elements.Elem.{Elem}
use Rattle.elem.specs.declared.windows.Window.{Window}
use Rattle.elem.specs.CutLaws.{lies_between-wider}
use Rattle.vocabulary.specs.declared.orders.Order.{Order}
use Rattle.vocabulary.specs.declared.orders.Order.TheVariants.{Natural, Reverse, ByLength}
use Rattle.vocabulary.specs.Orders.{before_strict, same_order, upto, lies_in, encloses}
use Rattle.view_laws.proofs.ListLemmas.{and-implied, both_true}

pub same_order-is : (a b : Order) → same_order a b ≡ true → a ≡ b
same_order-is Natural Natural h = refl
same_order-is Reverse Reverse h = refl
same_order-is ByLength ByLength h = refl
same_order-is Natural Reverse h = cc
same_order-is Natural ByLength h = cc
same_order-is Reverse Natural h = cc
same_order-is Reverse ByLength h = cc
same_order-is ByLength Natural h = cc
same_order-is ByLength Reverse h = cc

-- what lies in a window lies in one that encloses it
lies_in-outer : (order : Order) (outer inner : Window) (x : Elem) → encloses order outer inner ≡ true → lies_in order inner x ≡ true → lies_in order outer x ≡ true
lies_in-outer order outer inner x h l =
    let ends = both_true (upto order outer.lo inner.lo) (upto order inner.hi outer.hi) h in
    lies_between-wider (before_strict order) inner.lo inner.hi outer.lo outer.hi x ends.0 ends.1 l

pub lies_in-both : (order : Order) (outer inner : Window) (x : Elem) → encloses order outer inner ≡ true → lies_in order outer x && lies_in order inner x ≡ lies_in order inner x
lies_in-both order outer inner x h = and-implied (lies_in order outer x) (lies_in order inner x) (lies_in-outer order outer inner x h)
