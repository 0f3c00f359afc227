-- Cells with their values, at places of the threads.
use Rattle.std.proofs.Common.{◌≡◌, ℕ, List, [], ◌∷◌, ◌++◌, Option, Some, None, refl, sym, ap, ◌∙◌, subst, append_assoc, arith}
use Rattle.std.specs.Prelude.{IfSome, IsSome}
use Rattle.std.specs.Option.{option_map, option_and_then}
use Rattle.std.specs.List.{cons_option, Contains}
use Rattle.std.specs.Map.{lookup}
use Rattle.std.proofs.lemmas.List.Elements.{Contains-append_right}
use Rattle.std.proofs.lemmas.Map.Views.{lookup-from_Contains}
use Rattle.slab.specs.Slab.{Slab, get}
use Rattle.elem.specs.declared.elements.Elem.{Elem}
use Rattle.elem.specs.Elements.{same}
use Rattle.elem.specs.ElementLaws.{same_equiv}
use Rattle.elem.specs.Rows.{last_key, last_key_or, key_before}
use Rattle.elem.proofs.RowsLemmas.{key_before_at}
use Rattle.linked_base.specs.declared.links.Links.{Links}
use Rattle.linked_base.specs.declared.links.Ends.{Ends}
use Rattle.linked_base.specs.declared.group.Group.{Group}
use Rattle.linked_base.specs.Thread.{last_or, IsThread, links_at}
use Rattle.linked_base.specs.Group.{of_key, group_or_none}
use Rattle.linked_base.specs.Places.{rows_of}
use Rattle.linked_base.proofs.GroupLemmas.{own_cut}
use Rattle.linked_base.proofs.IdLemmas.{thread_there}
use Rattle.linked_base.proofs.PlacesLemmas.{There, there_left, rows_at}
use Rattle.linked_base.proofs.Walks.{split_head, split_last}
use Rattle.linked_base.proofs.WholeRows.{StandsIn}
use Rattle.table_base.specs.declared.cell_nodes.CellNode.{CellNode}
use Rattle.table_base.specs.declared.sides.Side.{Side}
use Rattle.table_base.specs.declared.sides.Side.TheVariants.{Row}
use Rattle.table_base.specs.declared.spots.Spot.{Spot}
use Rattle.table_base.specs.Spots.{spot_at}
use Rattle.table_base.specs.Cells.{Cell, row, is_spot, by_spot, value_in}
use Rattle.table_base.specs.CellNodes.{all_links, links, key, rest, cell, key_at, rest_at, cell_at, groups_of, seen, other_of, spot, spot_of_place, whole_at}
use Rattle.table_base.proofs.CellLists.{its_spot}
use Rattle.table_base.proofs.RemovedCells.{spots-append, none_at_spot}
use Rattle.table_base.proofs.SideReads.{last_other}
use Rattle.table_base.proofs.ThreadReads.{links_cut}
use Rattle.table_base.proofs.HeldCells.{HoldsCells, row_held, there_held, distinct_held, grouped_held, place_cut}
use Rattle.table_base.proofs.HeldSteps.{all_cut, cut_cells, none_front, cells_cut}

-- the ends of a thread stand in it, and the neighbours of a place that does
module _ {T : Type 0} (links : T → Links) (nodes : Slab T) (ends : Ends) where
  module _ (ps : List ℕ) (t : IsThread (links_at links nodes) ends ps) (p : ℕ) where
    pub first_stands : ends.first ≡ Some p → StandsIn ps p
    first_stands e = let s = split_head ps p (sym t.first ∙ e) in ([], s.0, s.1)

    pub last_stands : ends.last ≡ Some p → StandsIn ps p
    last_stands e = let s = split_last ps p (sym t.last ∙ e) in (s.0, [], s.1)

  module _ (ps us : List ℕ) (p : ℕ) (vs : List ℕ) (cut : ps ≡ us ++ p ∷ vs) (t : IsThread (links_at links nodes) ends (us ++ p ∷ vs)) (n : T) (g : get nodes p ≡ Some n) (q : ℕ) where
    pub next_stands : (links n).next ≡ Some q → StandsIn ps q
    next_stands e =
        let s = split_head vs q (sym (ap (λ (l : Links). l.next) (links_cut links nodes ends us p vs t n g)) ∙ e) in
        (us ++ p ∷ [], s.0, cut ∙ ap (λ l. us ++ p ∷ l) s.1 ∙ sym (append_assoc us (p ∷ []) (q ∷ s.0)))

    pub previous_stands : (links n).previous ≡ Some q → StandsIn ps q
    previous_stands e =
        let s = split_last us q (sym (ap (λ (l : Links). l.previous) (links_cut links nodes ends us p vs t n g)) ∙ e) in
        (s.0, p ∷ vs, cut ∙ ap (λ l. l ++ p ∷ vs) s.1 ∙ append_assoc s.0 (q ∷ []) (p ∷ vs))

-- the row and the column of a cell
abbrev pub spot_in : Elem × Elem × Elem → Elem × Elem
spot_in x = (x.0, x.1)

module _ (nodes : Slab CellNode) where
  pub other_of_entry : (s : Side) (place : Option ℕ) → option_map (λ (x : Elem × Elem). x.0) (option_and_then (rest_at s nodes) place) ≡ other_of s nodes place
  other_of_entry s None = refl
  other_of_entry s (Some p) = of_node (get nodes p)
    where
      of_node : (x : Option CellNode) → option_map (λ (y : Elem × Elem). y.0) (option_map (rest s) x) ≡ option_map (λ (n : CellNode). (rest s n).0) x
      of_node None = refl
      of_node (Some n) = refl

  pub spot_of_cell : (place : Option ℕ) → option_map spot_in (option_and_then (whole_at nodes) place) ≡ spot_of_place nodes place
  spot_of_cell None = refl
  spot_of_cell (Some p) = of_node (get nodes p)
    where
      of_node : (x : Option CellNode) → option_map spot_in (option_map {U = Elem × Elem × Elem} (λ (n : CellNode). (n.row, n.column, n.value)) x) ≡ option_map (λ (n : CellNode). (n.row, n.column)) x
      of_node None = refl
      of_node (Some n) = refl

  last_spot_from : (o : Option ℕ) (ps : List ℕ) → There (cell_at Row nodes) ps → spot_of_place nodes (last_or o ps) ≡ last_key_or (spot_of_place nodes o) (by_spot (rows_of (cell_at Row nodes) ps))
  last_spot_from o [] t = refl
  last_spot_from o (p ∷ ps) t = last_spot_from (Some p) ps t.1 ∙ by_node (get nodes p) t.0
    where
      by_node : (x : Option CellNode) → IsSome (option_map (cell Row) x)
          → last_key_or (option_map (λ (n : CellNode). (n.row, n.column)) x) (by_spot (rows_of (cell_at Row nodes) ps)) ≡ last_key_or (spot_of_place nodes o) (by_spot (cons_option (option_map (cell Row) x) (rows_of (cell_at Row nodes) ps)))
      by_node None i = absurd (cc)
      by_node (Some n) i = refl

module _ {nodes : Slab CellNode} {all : Ends} {rows columns : Elem → Option Group} {index : Spot → Option ℕ} {cells : List Cell} (h : HoldsCells nodes all rows columns index cells) where
  -- the places of a row, or from the other side of a column
  module _ (s : Side) (k : Elem) where
    abbrev pub row_places : List ℕ
    row_places = of_key (key_at s nodes) k h.at_places

    entry_there : (p : ℕ) (x : Elem × Elem) → StandsIn row_places p → rest_at s nodes p ≡ Some x → lookup (same x.0) (row k (seen s cells)) ≡ Some x.1
    entry_there p x w e =
        let at = rest_at s nodes in
        let cut : row k (seen s cells) ≡ rows_of at w.0 ++ x ∷ rows_of at w.1 = row_held h s k ∙ ap (rows_of at) w.2 ∙ rows_at at w.0 p w.1 x e in
        lookup-from_Contains same_equiv x.0 x.1 (row k (seen s cells)) (distinct_held h s k) (subst (λ rs. Contains rs x) (sym cut) (Contains-append_right (rows_of at w.0) (x ∷ rows_of at w.1) x (0, omega arith, refl)))

    -- the value beside the column is the cell's own
    pub value_of_entry : (place : Option ℕ) (entry : Option (Elem × Elem)) → entry ≡ option_and_then (rest_at s nodes) place → ((p : ℕ) → place ≡ Some p → StandsIn row_places p) → IfSome entry (λ x. lookup (same x.0) (row k (seen s cells)) ≡ Some x.1)
    value_of_entry place None e w = tt
    value_of_entry None (Some x) e w = absurd (cc)
    value_of_entry (Some p) (Some x) e w = entry_there p x (w p refl) (sym e)

    pub last_in_held : (g : Group) → g ≡ group_or_none (groups_of rows columns s k) → other_of s nodes g.ends.last ≡ last_key (row k (seen s cells))
    last_in_held g e =
        ap (λ (x : Group). other_of s nodes x.ends.last) e ∙ ap (other_of s nodes) ((grouped_held h s).group k).thread.last
        ∙ last_other nodes s row_places (there_held h s k) ∙ ap last_key (sym (row_held h s k))

    module _ (g : Group) (e : g ≡ group_or_none (groups_of rows columns s k)) where
      its_ends : IsThread (links_at (links s) nodes) g.ends row_places
      its_ends = subst (λ (x : Group). IsThread (links_at (links s) nodes) x.ends row_places) (sym e) ((grouped_held h s).group k).thread

      pub first_in_row : (p : ℕ) → g.ends.first ≡ Some p → StandsIn row_places p
      first_in_row = first_stands (links s) nodes g.ends row_places its_ends

      pub last_in_row : (p : ℕ) → g.ends.last ≡ Some p → StandsIn row_places p
      last_in_row = last_stands (links s) nodes g.ends row_places its_ends

    module _ (x : Elem) (p : ℕ) (e : index (spot s k x) ≡ Some p) (n : CellNode) (g : get nodes p ≡ Some n) where
      its_thread : IsThread (links_at (links s) nodes) (group_or_none (groups_of rows columns s k)).ends ((place_cut h s k x p e).0 ++ p ∷ (place_cut h s k x p e).1)
      its_thread = subst (IsThread (links_at (links s) nodes) (group_or_none (groups_of rows columns s k)).ends) (place_cut h s k x p e).3.places ((grouped_held h s).group k).thread

      pub next_in_row : (q : ℕ) → (links s n).next ≡ Some q → StandsIn row_places q
      next_in_row q i = let cut = place_cut h s k x p e in next_stands (links s) nodes (group_or_none (groups_of rows columns s k)).ends row_places cut.0 p cut.1 cut.3.places its_thread n g q i

      pub previous_in_row : (q : ℕ) → (links s n).previous ≡ Some q → StandsIn row_places q
      previous_in_row q i = let cut = place_cut h s k x p e in previous_stands (links s) nodes (group_or_none (groups_of rows columns s k)).ends row_places cut.0 p cut.1 cut.3.places its_thread n g q i

  -- all cells
  cell_there : (p : ℕ) (n : CellNode) → StandsIn h.at_places p → get nodes p ≡ Some n → value_in n.row n.column cells ≡ Some n.value
  cell_there p n w g =
      let at = key_at Row nodes in
      entry_there Row n.row p (n.column, n.value) (of_key at n.row w.0, of_key at n.row w.1, ap (of_key at n.row) w.2 ∙ own_cut at w.0 p w.1 n.row (ap (option_map (key Row)) g)) (ap (option_map (rest Row)) g)

  pub value_of_cell : (place : Option ℕ) (x : Option (Elem × Elem × Elem)) → x ≡ option_and_then (whole_at nodes) place → ((p : ℕ) → place ≡ Some p → StandsIn h.at_places p) → IfSome x (λ y. value_in y.0 y.1 cells ≡ Some y.2)
  value_of_cell place None e w = tt
  value_of_cell None (Some x) e w = absurd (cc)
  value_of_cell (Some p) (Some x) e w = by_node (get nodes p) refl e
    where
      by_node : (o : Option CellNode) → get nodes p ≡ o → Some x ≡ option_map {U = Elem × Elem × Elem} (λ (n : CellNode). (n.row, n.column, n.value)) o → value_in x.0 x.1 cells ≡ Some x.2
      by_node None g f = absurd (cc)
      by_node (Some n) g f = let equal : (n.row, n.column, n.value) ≡ x = cc in subst (λ (y : Elem × Elem × Elem). value_in y.0 y.1 cells ≡ Some y.2) equal (cell_there p n (w p refl) g)

  all_thread : IsThread (links_at all_links nodes) all h.at_places
  all_thread = h.are_indexed.cells.thread

  pub first_of_all : (p : ℕ) → all.first ≡ Some p → StandsIn h.at_places p
  first_of_all = first_stands all_links nodes all h.at_places all_thread

  pub last_of_all : (p : ℕ) → all.last ≡ Some p → StandsIn h.at_places p
  last_of_all = last_stands all_links nodes all h.at_places all_thread

  pub last_cell_held : spot_of_place nodes all.last ≡ last_key (by_spot cells)
  last_cell_held =
      ap (spot_of_place nodes) all_thread.last ∙ last_spot_from nodes None h.at_places (thread_there all_links (cell Row) nodes all h.at_places all_thread)
      ∙ ap (λ l. last_key (by_spot l)) h.cells_equal

  module _ (r c : Elem) (p : ℕ) (e : index (spot_at r c) ≡ Some p) (n : CellNode) (g : get nodes p ≡ Some n) where
    pub next_of_all : (q : ℕ) → n.all.next ≡ Some q → StandsIn h.at_places q
    next_of_all q i = let cut = all_cut h r c p e in next_stands all_links nodes all h.at_places cut.before p cut.after cut.places (cut_cells h r c p e).thread n g q i

    pub previous_of_all : (q : ℕ) → n.all.previous ≡ Some q → StandsIn h.at_places q
    previous_of_all q i = let cut = all_cut h r c p e in previous_stands all_links nodes all h.at_places cut.before p cut.after cut.places (cut_cells h r c p e).thread n g q i

    -- the spot of the cell before in the thread of all
    pub before_cell_held : spot_of_place nodes n.all.previous ≡ key_before (is_spot r c) (by_spot cells)
    before_cell_held =
        let cut = all_cut h r c p e in
        let t = (cut_cells h r c p e).thread in
        let at = cell_at Row nodes in
        let fs = rows_of at cut.before in
        let bs = rows_of at cut.after in
        ap (λ (l : Links). spot_of_place nodes l.previous) (links_cut all_links nodes all cut.before p cut.after t n g)
        ∙ last_spot_from nodes None cut.before (there_left at cut.before (p ∷ cut.after) (thread_there all_links (cell Row) nodes all (cut.before ++ p ∷ cut.after) t))
        ∙ sym (ap (λ l. key_before (is_spot r c) (by_spot l)) (cells_cut h r c p e n g) ∙ ap (key_before (is_spot r c)) (spots-append fs ((r, (c, n.value)) ∷ bs))
        ∙ key_before_at (is_spot r c) None (by_spot fs) ((r, c), n.value) (by_spot bs) (none_at_spot r c fs (none_front h r c p e)) (its_spot r c n.value))
