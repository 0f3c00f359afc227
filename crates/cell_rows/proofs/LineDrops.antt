-- What goes in several rows or columns of a table, one after another.
use Rattle.std.proofs.Common.{◌≡◌, ℕ, suc, ◌≤◌, Bool, true, false, cond, ◌||◌, List, [], ◌∷◌, take, length, Some, None, refl, sym, ap, ◌∙◌, arith}
use Rattle.std.specs.Prelude.{filter, is_some, not, slice_get}
use Rattle.std.specs.List.{AllByRecursion, list_any}
use Rattle.std.specs.Map.{keys_of}
use Rattle.std.proofs.lemmas.List.{length-map, take_all}
use Rattle.elem.specs.declared.elements.Elem.{Elem}
use Rattle.elem.specs.Elements.{same}
use Rattle.elem.specs.ElementLaws.{same-Decides}
use Rattle.elem.specs.Keyed.{value_at}
use Rattle.table_base.specs.Cells.{Cell}
use Rattle.vocabulary.specs.declared.items.Item.{Item}
use Rattle.vocabulary.specs.declared.items.Side.{Side}
use Rattle.vocabulary.specs.declared.items.Side.TheVariants.{First, Second}
use Rattle.vocabulary.specs.declared.kinds.Kind.{Kind}
use Rattle.vocabulary.specs.Items.{key_of, part_of}
use Rattle.vocabulary.specs.Kinds.{shape_of_kind}
use Rattle.view_laws.specs.ItemForms.{has_form}
use Rattle.view_laws.specs.Lanes.{takes}
use Rattle.view_laws.specs.Serving.{of_part}
use Rattle.view_laws.proofs.ListLemmas.{and-true, any-append}
use Rattle.cell_rows.specs.declared.cell_rows.CellRows.{CellRows}
use Rattle.cell_rows.specs.declared.cell_rows.CellRows.TheVariants as types
use Rattle.cell_rows.specs.CellRows.{items, item_of, kind_of, rows_of, cells_of}
use Rattle.cell_rows.specs.Reaches.{but}
use Rattle.cell_rows.specs.Serving.{ServesCells}
use Rattle.cell_rows.proofs.DropLemmas.{all_gone, gone_more, or-false, take_end, take_next}

-- each row of a table is a cell, so a reach covers those that pass
table_form : (self : CellRows) (x : Cell) → has_form (shape_of_kind (kind_of self)) (item_of x) ≡ true
table_form (types.Linked table) x = refl
table_form (types.Sorted table) x = refl

pub reach_covers : (self : CellRows) (passes within : Item → Bool) → ((row : Item) → has_form (shape_of_kind (kind_of self)) row ≡ true → passes row ≡ true → within row ≡ true)
    → AllByRecursion (λ row. passes row ≡ true → within row ≡ true) (rows_of self)
reach_covers self passes within reach = by (cells_of self)
  where
    by : (cells : List Cell) → AllByRecursion (λ row. passes row ≡ true → within row ≡ true) (items cells)
    by [] = tt
    by (x ∷ cells) = (reach (item_of x) (table_form self x), by cells)

-- whether a row is in one of some rows or columns of the table
abbrev pub is_in : Side → List Elem → Item → Bool
is_in side ks row = list_any (λ k. same k (part_of side row)) ks

-- and each is a lane that tables serve
pub serves_line : (kind : Kind) (side : Side) (k : Elem) → ServesCells kind (of_part side k)
serves_line kind First k = record { rows = tt; columns = tt; each = refl }
serves_line kind Second k = record { rows = tt; columns = tt; each = refl }

lane_test : (side : Side) (k : Elem) (row : Item) → takes (of_part side k) row ≡ same k (part_of side row)
lane_test First k row = and-true (same k (key_of row))
lane_test Second k row = refl

in_more : (side : Side) (ks : List Elem) (i j : ℕ) (k : Elem) (row : Item) → j ≡ suc i → slice_get ks i ≡ Some k → is_in side (take j ks) row ≡ (is_in side (take i ks) row || takes (of_part side k) row)
in_more side ks i j k row j_is at =
    ap (λ n. is_in side (take n ks) row) j_is ∙ ap (λ l. is_in side l row) (take_next i ks k at)
    ∙ any-append (λ x. same x (part_of side row)) (take i ks) (k ∷ [])
    ∙ ap (λ b. is_in side (take i ks) row || b) (or-false (same k (part_of side row)) ∙ sym (lane_test side k row))

-- one row or column more
pub line_gone : (passes : Item → Bool) (side : Side) (ks : List Elem) (i j : ℕ) (k : Elem) (old now new : List Item) → j ≡ suc i → slice_get ks i ≡ Some k → now ≡ but passes (is_in side (take i ks)) old → new ≡ but passes (takes (of_part side k)) now
    → new ≡ but passes (is_in side (take j ks)) old
line_gone passes side ks i j k old now new j_is at e f =
    gone_more passes (is_in side (take i ks)) (takes (of_part side k)) (is_in side (take j ks)) old now new (λ row. in_more side ks i j k row j_is at) e f

-- what is a key of rows is among their keys
among_keys : (rows : List (Elem × Unit {0})) (x : Elem) → is_some (value_at rows x) ≡ true → list_any (λ k. same k x) (keys_of rows) ≡ true
among_keys [] x h = absurd (cc)
among_keys (row ∷ rows) x h = by (same x row.0) refl h (among_keys rows x)
  where
    last : (c b : Bool) → b ≡ true → (c || b) ≡ true
    last true b e = refl
    last false b e = e

    by : (s : Bool) → same x row.0 ≡ s → is_some (cond s (Some row.1) (value_at rows x)) ≡ true → (is_some (value_at rows x) ≡ true → list_any (λ k. same k x) (keys_of rows) ≡ true)
        → (same row.0 x || list_any (λ k. same k x) (keys_of rows)) ≡ true
    by true e f ih = ap (λ b. b || list_any (λ k. same k x) (keys_of rows)) ((same-Decides row.0 x).1 (sym ((same-Decides x row.0).0 e)))
    by false e f ih = last (same row.0 x) (list_any (λ k. same k x) (keys_of rows)) (ih f)

module _ (self : CellRows) (passes : Item → Bool) (side : Side) (parts : List (Elem × Unit {0})) (reach : (row : Item) → has_form (shape_of_kind (kind_of self)) row ≡ true → passes row ≡ true → is_some (value_at parts (part_of side row)) ≡ true) where
  all_lines : (now : List Item) → now ≡ but passes (is_in side (keys_of parts)) (rows_of self) → now ≡ filter (λ row. not (passes row)) (rows_of self)
  all_lines now e =
      all_gone passes (is_in side (keys_of parts)) (rows_of self) now (reach_covers self passes (is_in side (keys_of parts)) (λ row form p. among_keys parts (part_of side row) (reach row form p))) e

  pub lines_at_end : (i : ℕ) (now : List Item) → now ≡ but passes (is_in side (take i (keys_of parts))) (rows_of self) → slice_get (keys_of parts) i ≡ None → now ≡ filter (λ row. not (passes row)) (rows_of self)
  lines_at_end i now e at = all_lines now (e ∙ ap (λ ks. but passes (is_in side ks) (rows_of self)) (take_end i (keys_of parts) at))

  pub lines_of_all : (i : ℕ) (now : List Item) → now ≡ but passes (is_in side (take i (keys_of parts))) (rows_of self) → length parts ≤ i → now ≡ filter (λ row. not (passes row)) (rows_of self)
  lines_of_all i now e end =
      let few : length (keys_of parts) ≤ i = omega (arith, length-map parts (λ (row : Elem × Unit {0}). row.0)) in
      all_lines now (e ∙ ap (λ ks. but passes (is_in side ks) (rows_of self)) (take_all i (keys_of parts) few))
