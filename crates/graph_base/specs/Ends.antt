-- The two ends of an edge as a key: in their order, or without directions the lesser first.
use Rattle.std.specs.Prelude.{Bool, cond, not, ◌&&◌}
use Rattle.std.specs.Ordering.{is_lt}
use Rattle.elem.specs.declared.elements.Elem.{Elem}
use Rattle.elem.specs.Elements.{same, natural_order}

abbrev pub Ends : Type 0
Ends = Elem × Elem

abbrev pub same_ends : Ends → Ends → Bool
same_ends x y = same x.0 y.0 && same x.1 y.1

abbrev pub ends : Bool → Elem → Elem → Ends
ends directed a b = cond (not directed && is_lt (natural_order b a)) (b, a) (a, b)
