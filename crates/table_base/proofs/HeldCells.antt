-- What the fields of a table hold.
use Rattle.std.proofs.Common.{◌≡◌, ℕ, ◌≤◌, Bool, false, List, ◌∷◌, ◌++◌, length, Option, Some, None, refl, sym, ap, ◌∙◌, subst, arith}
use Rattle.std.specs.Prelude.{IsSome}
use Rattle.std.specs.Option.{option_map}
use Rattle.std.specs.List.{IsDistinct}
use Rattle.std.specs.Map.{lookup, keys_of}
use Rattle.std.proofs.lemmas.Map.{NonePasses}
use Rattle.slab.specs.Slab.{Slab, get, slab_len}
use Rattle.elem.specs.declared.elements.Elem.{Elem}
use Rattle.elem.specs.Elements.{same}
use Rattle.elem.specs.ElementLaws.{same-Decides}
use Rattle.elem.specs.Rows.{first_key, key_after, key_before}
use Rattle.elem.proofs.RowsLemmas.{lookup_at, key_after_at, key_before_at}
use Rattle.linked_base.specs.declared.links.Links.{Links}
use Rattle.linked_base.specs.declared.links.Ends.{Ends}
use Rattle.linked_base.specs.declared.group.Group.{Group}
use Rattle.linked_base.specs.Thread.{IsThread, links_at}
use Rattle.linked_base.specs.Group.{group_or_none, has, of_key, AreGrouped}
use Rattle.linked_base.specs.Places.{rows_of}
use Rattle.linked_base.proofs.ThreadLemmas.{thread_walked}
use Rattle.linked_base.proofs.GroupLemmas.{length-filter_le, grouped_same}
use Rattle.linked_base.proofs.PlacesLemmas.{There, length-rows, there_left, there_right, rows_at}
use Rattle.linked_base.proofs.IdLemmas.{thread_there, there_filter}
use Rattle.linked_base.proofs.KeyedLemmas.{absent_row, IsCut, cut_found, distinct_without, none_left, none_right}
use Rattle.table_base.specs.declared.cell_nodes.CellNode.{CellNode}
use Rattle.table_base.specs.declared.sides.Side.{Side}
use Rattle.table_base.specs.declared.sides.Side.TheVariants.{Row, Column}
use Rattle.table_base.specs.declared.spots.Spot.{Spot}
use Rattle.table_base.specs.Cells.{Cell, IsGrouped, Table, row}
use Rattle.table_base.specs.CellNodes.{all_links, links, rest, cell, key_at, rest_at, cell_at, groups_of, seen, other_of, spot, AreIndexed, places, cells_now, IsTable, table_now}
use Rattle.table_base.proofs.Results.{never_none}
use Rattle.table_base.proofs.SideReads.{seen_read, row_seen, first_other, last_other}
use Rattle.table_base.proofs.ThreadReads.{links_cut, node_there}

-- the fields hold these cells, at some places
pub record HoldsCells (nodes : Slab CellNode) (all : Ends) (rows columns : Elem → Option Group) (index : Spot → Option ℕ) (cells : List Cell) : Type 0 where
  pub at_places : List ℕ
  pub are_indexed : AreIndexed nodes all rows columns index at_places
  pub cells_equal : rows_of (cell_at Row nodes) at_places ≡ cells

module _ {nodes : Slab CellNode} {all : Ends} {rows columns : Elem → Option Group} {index : Spot → Option ℕ} {cells : List Cell} where
  pub held : AreIndexed nodes all rows columns index (places nodes all) → cells_now nodes all ≡ cells → HoldsCells nodes all rows columns index cells
  held h e = record { at_places = places nodes all; are_indexed = h; cells_equal = e }

  module _ (h : HoldsCells nodes all rows columns index cells) where
    places_are : places nodes all ≡ h.at_places
    places_are = let c = h.are_indexed.cells.count in thread_walked (links_at all_links nodes) all h.at_places (slab_len nodes) (omega arith) h.are_indexed.cells.thread

    pub still_holds : AreIndexed nodes all rows columns index (places nodes all)
    still_holds = subst (AreIndexed nodes all rows columns index) (sym places_are) h.are_indexed

    pub shows : cells_now nodes all ≡ cells
    shows = ap (rows_of (cell_at Row nodes)) places_are ∙ h.cells_equal

    pub grouped_held : (s : Side) → AreGrouped (key_at s nodes) (links_at (links s) nodes) (groups_of rows columns s) h.at_places
    grouped_held Row = h.are_indexed.cells.in_rows
    grouped_held Column = h.are_indexed.cells.in_columns

    pub len_held : slab_len nodes ≡ length cells
    len_held = h.are_indexed.cells.count ∙ sym (length-rows (cell_at Row nodes) h.at_places (thread_there all_links (cell Row) nodes all h.at_places h.are_indexed.cells.thread)) ∙ ap length h.cells_equal

    -- a row, or from the other side a column
    module _ (s : Side) (k : Elem) where
      of_row : List ℕ
      of_row = of_key (key_at s nodes) k h.at_places

      pub row_held : row k (seen s cells) ≡ rows_of (rest_at s nodes) (of_key (key_at s nodes) k h.at_places)
      row_held = ap (λ l. row k (seen s l)) (sym h.cells_equal) ∙ ap (row k) (seen_read nodes s h.at_places) ∙ row_seen nodes s k h.at_places

      pub there_held : There (rest_at s nodes) (of_key (key_at s nodes) k h.at_places)
      there_held = there_filter (rest_at s nodes) (λ p. has k (key_at s nodes p)) h.at_places (thread_there all_links (rest s) nodes all h.at_places h.are_indexed.cells.thread)

      pub count_held : (group_or_none (groups_of rows columns s k)).count ≡ length (row k (seen s cells))
      count_held = ((grouped_held s).group k).count ∙ sym (length-rows (rest_at s nodes) (of_key (key_at s nodes) k h.at_places) there_held) ∙ ap length (sym row_held)

      pub count_fits : (group_or_none (groups_of rows columns s k)).count ≤ slab_len nodes
      count_fits = let a = ((grouped_held s).group k).count in let b = length-filter_le (λ p. has k (key_at s nodes p)) h.at_places in let c = h.are_indexed.cells.count in omega arith

      pub distinct_held : IsDistinct same (keys_of (row k (seen s cells)))
      distinct_held = subst (λ l. IsDistinct same (keys_of l)) (sym row_held) (h.are_indexed.found s k).distinct

      pub first_in_held : (g : Group) → g ≡ group_or_none (groups_of rows columns s k) → other_of s nodes g.ends.first ≡ first_key (row k (seen s cells))
      first_in_held g e =
          ap (λ (x : Group). other_of s nodes x.ends.first) e ∙ ap (other_of s nodes) ((grouped_held s).group k).thread.first
          ∙ first_other nodes s (of_key (key_at s nodes) k h.at_places) there_held ∙ ap first_key (sym row_held)

      -- a cell of it
      module _ (x : Elem) where
        pub absent_held : index (spot s k x) ≡ None → lookup (same x) (row k (seen s cells)) ≡ None
        absent_held e = ap (lookup (same x)) row_held ∙ absent_row (rest_at s nodes) (same x) (of_key (key_at s nodes) k h.at_places) there_held (sym ((h.are_indexed.found s k).exact x) ∙ e)

        -- a cell that is there is found
        pub found_held : (o : Option ℕ) → o ≡ index (spot s k x) → IsSome (lookup (same x) (row k (seen s cells))) → IsSome o
        found_held None e i = absurd (never_none (lookup (same x) (row k (seen s cells))) i (absent_held (sym e)))
        found_held (Some p) e i = refl

        module _ (p : ℕ) (e : index (spot s k x) ≡ Some p) where
          pub place_cut : (us : List ℕ) × (vs : List ℕ) × (r : Elem × Elem) × IsCut (rest_at s nodes) (same x) (of_key (key_at s nodes) k h.at_places) p us vs r
          place_cut = cut_found (rest_at s nodes) (same x) (of_key (key_at s nodes) k h.at_places) p there_held (sym ((h.are_indexed.found s k).exact x) ∙ e)

          pub own_other : place_cut.2.0 ≡ x
          own_other = sym ((same-Decides x place_cut.2.0).0 place_cut.3.passes)

          pub row_cut : row k (seen s cells) ≡ rows_of (rest_at s nodes) place_cut.0 ++ place_cut.2 ∷ rows_of (rest_at s nodes) place_cut.1
          row_cut = row_held ∙ ap (rows_of (rest_at s nodes)) place_cut.3.places ∙ rows_at (rest_at s nodes) place_cut.0 p place_cut.1 place_cut.2 place_cut.3.here

          its_thread : IsThread (links_at (links s) nodes) (group_or_none (groups_of rows columns s k)).ends (place_cut.0 ++ p ∷ place_cut.1)
          its_thread = subst (IsThread (links_at (links s) nodes) (group_or_none (groups_of rows columns s k)).ends) place_cut.3.places ((grouped_held s).group k).thread

          pub node_held : IsSome (get nodes p)
          node_held = node_there (links s) nodes (group_or_none (groups_of rows columns s k)).ends place_cut.0 p place_cut.1 its_thread

          -- no other cell of the row has its column
          pub none_beside : NonePasses (same x) (rows_of (rest_at s nodes) place_cut.0) × NonePasses (same x) (rows_of (rest_at s nodes) place_cut.1)
          none_beside =
              let fs = rows_of (rest_at s nodes) place_cut.0 in
              let bs = rows_of (rest_at s nodes) place_cut.1 in
              let n = (distinct_without fs place_cut.2 bs (subst (λ l. IsDistinct same (keys_of l)) row_cut distinct_held)).1 in
              let m = subst (λ y. NonePasses (same y) (fs ++ bs)) own_other n in
              (none_left (same x) fs bs m, none_right (same x) fs bs m)

          there_cut : There (rest_at s nodes) (place_cut.0 ++ p ∷ place_cut.1)
          there_cut = subst (There (rest_at s nodes)) place_cut.3.places there_held

          module _ (n : CellNode) (g : get nodes p ≡ Some n) where
            pub rest_held : place_cut.2 ≡ rest s n
            rest_held = let both = sym place_cut.3.here ∙ ap (option_map (rest s)) g in cc

            pub value_held : lookup (same x) (row k (seen s cells)) ≡ Some (rest s n).1
            value_held =
                ap (lookup (same x)) row_cut ∙ lookup_at (same x) (rows_of (rest_at s nodes) place_cut.0) place_cut.2 (rows_of (rest_at s nodes) place_cut.1) place_cut.3.before place_cut.3.passes
                ∙ ap (λ (y : Elem × Elem). Some y.1) rest_held

            pub after_in_held : other_of s nodes (links s n).next ≡ key_after (same x) (row k (seen s cells))
            after_in_held =
                ap (λ (l : Links). other_of s nodes l.next) (links_cut (links s) nodes (group_or_none (groups_of rows columns s k)).ends place_cut.0 p place_cut.1 its_thread n g)
                ∙ first_other nodes s place_cut.1 (there_right (rest_at s nodes) place_cut.0 (p ∷ place_cut.1) there_cut).1
                ∙ sym (ap (key_after (same x)) row_cut ∙ key_after_at (same x) (rows_of (rest_at s nodes) place_cut.0) place_cut.2 (rows_of (rest_at s nodes) place_cut.1) place_cut.3.before place_cut.3.passes)

            pub before_in_held : other_of s nodes (links s n).previous ≡ key_before (same x) (row k (seen s cells))
            before_in_held =
                ap (λ (l : Links). other_of s nodes l.previous) (links_cut (links s) nodes (group_or_none (groups_of rows columns s k)).ends place_cut.0 p place_cut.1 its_thread n g)
                ∙ last_other nodes s place_cut.0 (there_left (rest_at s nodes) place_cut.0 (p ∷ place_cut.1) there_cut)
                ∙ sym (ap (key_before (same x)) row_cut ∙ key_before_at (same x) None (rows_of (rest_at s nodes) place_cut.0) place_cut.2 (rows_of (rest_at s nodes) place_cut.1) place_cut.3.before place_cut.3.passes)

-- other maps that find the same
module _ {nodes : Slab CellNode} {all : Ends} {rows rows₂ columns columns₂ : Elem → Option Group} {index index₂ : Spot → Option ℕ} {cells : List Cell} where
  pub refound : ((k : Elem) → rows₂ k ≡ rows k) → ((k : Elem) → columns₂ k ≡ columns k) → ((x : Spot) → index₂ x ≡ index x) → HoldsCells nodes all rows columns index cells → HoldsCells nodes all rows₂ columns₂ index₂ cells
  refound e f g h =
      let ps = h.at_places in
      let c = h.are_indexed.cells in
      record {
        at_places = ps;
        are_indexed = record {
          cells = record {
            thread = c.thread;
            in_rows = grouped_same (key_at Row nodes) (key_at Row nodes) (links_at (links Row) nodes) (links_at (links Row) nodes) rows rows₂ ps (λ p. refl) (λ p. refl) e c.in_rows;
            in_columns = grouped_same (key_at Column nodes) (key_at Column nodes) (links_at (links Column) nodes) (links_at (links Column) nodes) columns columns₂ ps (λ p. refl) (λ p. refl) f c.in_columns;
            count = c.count;
          };
          found = λ s k. let i = h.are_indexed.found s k in record { exact = λ x. g (spot s k x) ∙ i.exact x; count = i.count; distinct = i.distinct };
        };
        cells_equal = h.cells_equal;
      }

-- room made
pub roomier_held : (n₀ n₁ : Slab CellNode) {all : Ends} {rows columns : Elem → Option Group} {index : Spot → Option ℕ} {cells : List Cell} → n₁ ≡ record n₀ { capacity = n₁.capacity } → HoldsCells n₀ all rows columns index cells → HoldsCells n₁ all rows columns index cells
roomier_held n₀ n₁ {all} {rows} {columns} {index} {cells} resized h = subst (λ s. HoldsCells s all rows columns index cells) (sym resized) (with_capacity n₁.capacity)
  where
    with_capacity : (c : ℕ) → HoldsCells (record n₀ { capacity = c }) all rows columns index cells
    with_capacity c =
        let i = h.are_indexed.cells in
        record {
          at_places = h.at_places;
          are_indexed = record { cells = record { thread = i.thread; in_rows = i.in_rows; in_columns = i.in_columns; count = i.count }; found = h.are_indexed.found };
          cells_equal = h.cells_equal;
        }

-- the fields show this table
pub shown : {nodes : Slab CellNode} {all : Ends} {rows columns : Elem → Option Group} {index : Spot → Option ℕ} (t : Table) (loose : Bool) → HoldsCells nodes all rows columns index t.cells → loose ≡ t.loose → table_now nodes all loose ≡ t
shown t loose h e = λ i. record { cells = shows h i; loose = e i }

-- a table by its fields and the cells that they hold
pub is_table : {nodes : Slab CellNode} {all : Ends} {rows columns : Elem → Option Group} {index : Spot → Option ℕ} {cells : List Cell} (loose : Bool) → HoldsCells nodes all rows columns index cells → (loose ≡ false → IsGrouped cells) → IsTable nodes all rows columns index loose
is_table loose h g = record { indexed = still_holds h; grouped = λ e. subst IsGrouped (sym (shows h)) (g e) }

pub was_grouped : {now cells : List Cell} (loose : Bool) → now ≡ cells → (loose ≡ false → IsGrouped now) → loose ≡ false → IsGrouped cells
was_grouped loose e g f = subst IsGrouped e (g f)
