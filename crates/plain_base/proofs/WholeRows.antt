-- A row of a part of the rows has its key's own value.
use Rattle.std.proofs.Common.{◌≡◌, Bool, List, [], ◌∷◌, ◌++◌, Option, Some, refl, sym, ap, ◌∙◌}
use Rattle.std.specs.List.{All, filter}
use Rattle.std.specs.BTreeMap.Range.{entries_between}
use Rattle.std.specs.declared.ops.Bound.TheVariants.{Unbounded}
use Rattle.std.proofs.lemmas.List.Elements.{All-contains, All-filter, All-same, Contains-get_or, Contains-push}
use Rattle.std.proofs.lemmas.Map.Views.{lookup-from_Contains}
use Rattle.elem.specs.declared.elements.Elem.{Elem}
use Rattle.elem.specs.ElementLaws.{same_equiv}
use Rattle.elem.specs.Keyed.{value_at, HasDistinctKeys}
use Rattle.plain_base.specs.Ordered.{order_of}

module _ {V : Type 0} where
  abbrev IsRowOf : List (Elem × V) → Elem × V → Type 0
  IsRowOf rows row = value_at rows row.0 ≡ Some row.1

  all_rows : (rows : List (Elem × V)) → HasDistinctKeys rows → All (IsRowOf rows) rows
  all_rows rows d = λ i start within. lookup-from_Contains same_equiv _ _ rows d (Contains-get_or rows i start within)

  part_rows : (test : Elem × V → Bool) (rows part : List (Elem × V)) → HasDistinctKeys rows → part ≡ filter test rows → All (IsRowOf rows) part
  part_rows test rows part d e = All-same (IsRowOf rows) part (filter test rows) e (All-filter test (IsRowOf rows) rows (all_rows rows d))

  -- the last row of a part, as an iterator over the part gave it
  pub last_value : (test : Elem × V → Bool) (rows part rest : List (Elem × V)) (row : Elem × V) (k : Elem) → HasDistinctKeys rows → part ≡ filter test rows → part ≡ rest ++ row ∷ [] → k ≡ row.0 → value_at rows k ≡ Some row.1
  last_value test rows part rest row k d e h x =
      ap (value_at rows) x ∙ All-contains (IsRowOf rows) (rest ++ row ∷ []) row (All-same (IsRowOf rows) (rest ++ row ∷ []) part (sym h) (part_rows test rows part d e)) (Contains-push rest row)

  -- with no bounds the part is all of them
  whole_range : (before : Elem → Elem → Bool) (rows : List (Elem × V)) → entries_between (order_of before) Unbounded Unbounded rows ≡ rows
  whole_range before [] = refl
  whole_range before (row ∷ rows) = ap (λ (rest : List (Elem × V)). row ∷ rest) (whole_range before rows)

  pub whole_some : (before : Elem → Elem → Bool) (key : List (Elem × V) → Option Elem) (x : Option Elem) (rows os : List (Elem × V)) → x ≡ key (entries_between (order_of before) Unbounded Unbounded rows) → rows ≡ os → x ≡ key os
  whole_some before key x rows os e s = e ∙ ap key (whole_range before rows ∙ s)
