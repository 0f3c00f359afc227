-- Ranges of elements in their natural order.
use Rattle.std.specs.Prelude.{◌≡◌, ◌≢◌, Bool, true, ◌&&◌}
use Rattle.elem.specs.declared.elements.Elem.{Elem}
use Rattle.elem.specs.declared.cuts.Cut.{Cut}
use Rattle.elem.specs.declared.cuts.Cut.TheVariants.{Start, End}
use Rattle.elem.specs.declared.spans.Span.{Span}
use Rattle.elem.specs.Orders.{natural_before}
use Rattle.elem.specs.Cuts.{cut_upto, lies_between, IsWholeCut}

-- one cut at or before another in the natural order
abbrev pub upto : Cut → Cut → Bool
upto = cut_upto natural_before

-- a range: its lower cut is at or before its upper cut, and neither stands at the far end
pub record IsSpan (s : Span) : Type 0 where
  pub lo : s.lo ≢ End
  pub hi : s.hi ≢ Start
  pub in_order : upto s.lo s.hi ≡ true

-- a range of whole numbers, which may be empty
pub record IsWhole (s : Span) : Type 0 where
  pub lo : IsWholeCut s.lo
  pub hi : IsWholeCut s.hi
  pub in_order : upto s.lo s.hi ≡ true

-- both cuts of the one stand at or between the cuts of the other
abbrev pub encloses : Span → Span → Bool
encloses s t = upto s.lo t.lo && upto t.hi s.hi

-- the lower cut of each stands at or before the upper cut of the other
abbrev pub connected : Span → Span → Bool
connected s t = upto s.lo t.hi && upto t.lo s.hi

-- the element lies in the range
abbrev pub holds : Span → Elem → Bool
holds s x = lies_between natural_before s.lo s.hi x
