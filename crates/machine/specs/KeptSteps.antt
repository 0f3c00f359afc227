-- Which steps a view takes, and how they are kept.
use Rattle.elem.specs.declared.windows.Window.{Window}
use Rattle.vocabulary.specs.declared.orders.Order.{Order}
use Rattle.vocabulary.specs.declared.steps.Step.{Step}
use Rattle.machine.specs.Bases.{World}
use Rattle.machine.specs.Leaves.{leaf_at}
use Rattle.machine.specs.Views.{View, base, base_under, both, over}
use Rattle.vocabulary.specs.Kinds.{order_of_kind}
use Rattle.vocabulary.specs.Orders.{whole}
use Rattle.vocabulary.specs.Windows.{kept_on, window_over}

-- the order in which the windows of a view are read: that of its base
abbrev pub order_at : World → View → Order
order_at world v = order_of_kind (leaf_at world (base_under v)).kind

-- the window of a view: that of the last `within` on its path; two views together have none
abbrev pub window_at : View → Window
window_at (base l) = whole
window_at (over step v) = window_over step (window_at v)
window_at (both word v u) = whole

-- a step as it is kept: a `within` has the order of the base and both cuts of the resulting window
abbrev pub kept : World → View → Step → Step
kept world v step = kept_on (order_at world v) (window_at v) step
