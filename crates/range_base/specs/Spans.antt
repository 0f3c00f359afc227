-- Ranges of whole numbers as rows.
use Rattle.std.specs.Prelude.{⊤}
use Rattle.elem.specs.Places.{place}
use Rattle.elem.specs.declared.elements.Elem.{Elem}
use Rattle.elem.specs.declared.spans.Span.{Span}
use Rattle.range_base.specs.Rows.{Row, part}

-- a range as a row of a range set
abbrev pub row_of_span : Span → Row ⊤
row_of_span s = (place s.lo, part (place s.hi) tt)

-- a range and its value as a row of a range map
abbrev pub row_of_entry : Span × Elem → Row Elem
row_of_entry t = (place t.0.lo, part (place t.0.hi) t.1)
