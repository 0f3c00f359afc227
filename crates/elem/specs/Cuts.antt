-- The order of cuts, under an order of the elements.
use Rattle.std.specs.Prelude.{Bool, true, false, not, ◌&&◌, ⊤}
use Rattle.elem.specs.declared.elements.Elem.{Elem}
use Rattle.elem.specs.declared.elements.Elem.TheVariants.{Int, Text}
use Rattle.elem.specs.declared.cuts.Cut.{Cut}
use Rattle.elem.specs.declared.cuts.Cut.TheVariants.{Start, Below, Above, End}
use Rattle.elem.specs.Elements.{same, IsElem}

-- whether two cuts are the same
unfoldable pub same_cut : Cut → Cut → Bool
same_cut Start Start = true
same_cut (Below a) (Below b) = same a b
same_cut (Above a) (Above b) = same a b
same_cut End End = true
same_cut c d = false

-- one cut before another: Start, then for each element in turn the cut below it and the cut above it, then End
abbrev pub cut_before : (Elem → Elem → Bool) → Cut → Cut → Bool
cut_before before c Start = false
cut_before before End d = false
cut_before before Start d = true
cut_before before c End = true
cut_before before (Below a) (Below b) = before a b
cut_before before (Below a) (Above b) = not (before b a)
cut_before before (Above a) (Below b) = before a b
cut_before before (Above a) (Above b) = before a b

-- one cut at or before another
abbrev pub cut_upto : (Elem → Elem → Bool) → Cut → Cut → Bool
cut_upto before c d = not (cut_before before d c)

-- an element lies between two cuts: the cut below it is at or after the lower, the cut above it at or before the upper
abbrev pub lies_between : (Elem → Elem → Bool) → Cut → Cut → Elem → Bool
lies_between before lo hi x = cut_upto before lo (Below x) && cut_upto before (Above x) hi

-- the values of the type: an end of the order, or a cut beside an element
abbrev pub IsCut : Cut → Type 0
IsCut Start = ⊤
IsCut (Below v) = IsElem v
IsCut (Above v) = IsElem v
IsCut End = ⊤

-- a cut beside a number, or at an end of the order
abbrev pub IsWholeCut : Cut → Type 0
IsWholeCut Start = ⊤
IsWholeCut (Below (Int n)) = ⊤
IsWholeCut (Below (Text w)) = ⊥
IsWholeCut (Above (Int n)) = ⊤
IsWholeCut (Above (Text w)) = ⊥
IsWholeCut End = ⊤
