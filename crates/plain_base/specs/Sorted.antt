-- Rows in an order of their keys: where a new one goes, and parts of them by their keys.
use Rattle.std.specs.Prelude.{◌≡◌, Bool, true, false, cond, ⊤, List, [], ◌∷◌, Option, Some, None}
use Rattle.std.specs.List.{filter}
use Rattle.std.specs.declared.ops.Bound.{Bound}
use Rattle.std.specs.declared.ops.Bound.TheVariants.{Included, Excluded, Unbounded}
use Rattle.elem.specs.declared.elements.Elem.{Elem}
use Rattle.elem.specs.declared.cuts.Cut.{Cut}
use Rattle.elem.specs.declared.cuts.Cut.TheVariants.{Start, Below, Above, End}
use Rattle.elem.specs.Cuts.{lies_between}
use Rattle.elem.specs.Orders.{natural_before}

module _ {K V : Type 0} where
  -- the key k comes before those of all rows
  abbrev pub ComesFirst : (K → K → Bool) → K → List (K × V) → Type 0
  ComesFirst before k [] = ⊤
  ComesFirst before k (row ∷ rows) = (before k row.0 ≡ true) × ComesFirst before k rows

  -- each key comes before those of all rows behind it
  abbrev pub IsInOrder : (K → K → Bool) → List (K × V) → Type 0
  IsInOrder before [] = ⊤
  IsInOrder before (row ∷ rows) = ComesFirst before row.0 rows × IsInOrder before rows

module _ {V : Type 0} where
  -- the rows with a new one, before the first whose key comes after its own
  abbrev pub placed : (Elem → Elem → Bool) → List (Elem × V) → Elem → V → List (Elem × V)
  placed before [] k v = (k, v) ∷ []
  placed before (row ∷ rows) k v = cond (before k row.0) ((k, v) ∷ row ∷ rows) (row ∷ placed before rows k v)

  -- the rows whose keys lie between two cuts
  abbrev pub rows_between : (Elem → Elem → Bool) → Cut → Cut → List (Elem × V) → List (Elem × V)
  rows_between before lo hi rows = filter (λ row. lies_between before lo hi row.0) rows

  -- the rows whose keys come after k
  abbrev pub rows_above : (Elem → Elem → Bool) → Elem → List (Elem × V) → List (Elem × V)
  rows_above before k rows = filter (λ row. before k row.0) rows

  -- the rows whose keys come before k
  abbrev pub rows_below : (Elem → Elem → Bool) → Elem → List (Elem × V) → List (Elem × V)
  rows_below before k rows = filter (λ row. before row.0 k) rows

-- the least element that passes in the natural order, or none where none does
abbrev pub IsLeast : (Elem → Bool) → Option Elem → Type 0
IsLeast passes None = (x : Elem) → passes x ≡ false
IsLeast passes (Some c) = (passes c ≡ true) × ((x : Elem) → passes x ≡ true → natural_before x c ≡ false)

-- where the keys of a tree that lie above a cut begin
abbrev pub lower_bound : Cut → Bound Elem
lower_bound (Below k) = Included k
lower_bound (Above k) = Excluded k
lower_bound Start = Unbounded
lower_bound End = Unbounded

-- where the keys of a tree that lie below a cut end
abbrev pub upper_bound : Cut → Bound Elem
upper_bound (Below k) = Excluded k
upper_bound (Above k) = Included k
upper_bound Start = Unbounded
upper_bound End = Unbounded
