-- What each step makes of the cells that the fields of a table hold.
use Rattle.std.proofs.Common.{◌≡◌, ◌≢◌, ℕ, ◌≤◌, Bool, true, false, cond, ◌&&◌, List, [], ◌∷◌, ◌++◌, length, Option, Some, None, refl, sym, ap, ◌∙◌, subst, inl, inr, arith, length-append}
use Rattle.std.specs.Prelude.{IsSome}
use Rattle.std.specs.Option.{option_map}
use Rattle.std.specs.List.{filter, cons_option}
use Rattle.std.specs.Map.{lookup}
use Rattle.std.proofs.lemmas.Map.{NonePasses}
use Rattle.std.proofs.lemmas.Bool.{cases_eq}
use Rattle.slab.specs.Slab.{Slab, get, slab_len}
use Rattle.elem.specs.declared.elements.Elem.{Elem}
use Rattle.elem.specs.Elements.{same}
use Rattle.elem.specs.ElementLaws.{same-Decides}
use Rattle.elem.specs.Rows.{first_key, key_after}
use Rattle.elem.proofs.RowsLemmas.{key_after_at}
use Rattle.linked_base.specs.declared.links.Links.{Links}
use Rattle.linked_base.specs.declared.links.Ends.{Ends}
use Rattle.linked_base.specs.declared.group.Group.{Group}
use Rattle.linked_base.specs.Thread.{head_or, Avoids, IsThread, links_at, Rewrites}
use Rattle.linked_base.specs.Group.{group_or_none, IsGroup, has, of_key}
use Rattle.linked_base.specs.Places.{rows_of, IsIndexed}
use Rattle.linked_base.proofs.ThreadLemmas.{apart_without, avoids_cut}
use Rattle.linked_base.proofs.GroupLemmas.{thread_same, same_everywhere, grouped_same, group_cut, group_there}
use Rattle.linked_base.proofs.PlacesLemmas.{There, there_right, rows_at, rows-append, rows_beside}
use Rattle.linked_base.proofs.IdLemmas.{thread_there, there_filter, fresh}
use Rattle.linked_base.proofs.KeyedLemmas.{absent_place}
use Rattle.table_base.specs.declared.cell_nodes.CellNode.{CellNode}
use Rattle.table_base.specs.declared.sides.Side.{Side}
use Rattle.table_base.specs.declared.sides.Side.TheVariants.{Row, Column}
use Rattle.table_base.specs.declared.spots.Spot.{Spot}
use Rattle.table_base.specs.Spots.{spot_at, same_spot, same_spot_at}
use Rattle.table_base.specs.Cells.{Cell, row, is_spot, by_spot, without_cell, with_value, with_new}
use Rattle.table_base.specs.CellNodes.{all_links, links, key, rest, cell, key_at, rest_at, cell_at, the_node, with_group, spot, spot_of_place, AreCells, AreFound, IsSpotFor}
use Rattle.table_base.proofs.CellLists.{its_spot, without_cell_at, with_value_at}
use Rattle.table_base.proofs.RemovedCells.{spots-append, none_at_spot}
use Rattle.table_base.proofs.RowPlaces.{IsCutAt, filter_cut}
use Rattle.table_base.proofs.SideReads.{keys_seen, rests_seen, row_seen}
use Rattle.table_base.proofs.FoundLemmas.{found_with, found_without, indexed_written}
use Rattle.table_base.proofs.ThreadReads.{links_cut, node_there}
use Rattle.table_base.proofs.HeldCells.{HoldsCells, row_held, there_held, place_cut, own_other, rest_held, none_beside}

-- an index where one spot's answer changes, from either side
cond_and : {X : Type 0} (a b : Bool) (o f : X) → cond (a && b) o f ≡ cond a (cond b o f) f
cond_and true b o f = refl
cond_and false b o f = refl

cond_back : {X : Type 0} (a b : Bool) (o f : X) → cond (a && b) o f ≡ cond b (cond a o f) f
cond_back true true o f = refl
cond_back true false o f = refl
cond_back false true o f = refl
cond_back false false o f = refl

spot_finds : (n : CellNode) (o : Option ℕ) (index found : Spot → Option ℕ) → ((x : Spot) → found x ≡ cond (same_spot (spot_at n.row n.column) x) o (index x)) → (s : Side) (y z : Elem)
    → found (spot s y z) ≡ cond (same (key s n) y) (cond (same (rest s n).0 z) o (index (spot s y z))) (index (spot s y z))
spot_finds n o index found f Row y z = f (spot_at y z) ∙ ap (λ b. cond b o (index (spot_at y z))) (same_spot_at n.row n.column y z) ∙ cond_and (same n.row y) (same n.column z) o (index (spot_at y z))
spot_finds n o index found f Column y z = f (spot_at z y) ∙ ap (λ b. cond b o (index (spot_at z y))) (same_spot_at n.row n.column z y) ∙ cond_back (same n.row z) (same n.column y) o (index (spot_at z y))

abbrev other_at : Side → ℕ → CellNode → Elem × ℕ
other_at s q m = ((rest s m).0, q)

-- nodes that have the same cells but at one place
module _ (n₀ n₁ : Slab CellNode) (q : ℕ) (others : (s : Side) (p : ℕ) → p ≢ q → cell_at s n₁ p ≡ cell_at s n₀ p) where
  key_beside : (s : Side) (p : ℕ) → p ≢ q → key_at s n₁ p ≡ key_at s n₀ p
  key_beside s p d = keys_seen n₁ s p ∙ ap (option_map (λ (x : Cell). x.0)) (others s p d) ∙ sym (keys_seen n₀ s p)

  rest_beside : (s : Side) (p : ℕ) → p ≢ q → rest_at s n₁ p ≡ rest_at s n₀ p
  rest_beside s p d = rests_seen n₁ s p ∙ ap (option_map (λ (x : Cell). x.1)) (others s p d) ∙ sym (rests_seen n₀ s p)

-- the spot of the first of some places
first_spot : (nodes : Slab CellNode) (ps : List ℕ) → There (cell_at Row nodes) ps → spot_of_place nodes (head_or None ps) ≡ first_key (by_spot (rows_of (cell_at Row nodes) ps))
first_spot nodes [] t = refl
first_spot nodes (p ∷ ps) t = by_node (get nodes p) t.0
  where
    by_node : (o : Option CellNode) → IsSome (option_map (cell Row) o) → option_map (λ (n : CellNode). (n.row, n.column)) o ≡ first_key (by_spot (cons_option (option_map (cell Row) o) (rows_of (cell_at Row nodes) ps)))
    by_node None i = absurd (cc)
    by_node (Some n) i = refl

module _ {nodes : Slab CellNode} {all : Ends} {rows columns : Elem → Option Group} {index : Spot → Option ℕ} {cells : List Cell} (h : HoldsCells nodes all rows columns index cells) where
  pub first_cell_held : spot_of_place nodes all.first ≡ first_key (by_spot cells)
  first_cell_held =
      ap (spot_of_place nodes) h.are_indexed.cells.thread.first ∙ first_spot nodes h.at_places (thread_there all_links (cell Row) nodes all h.at_places h.are_indexed.cells.thread)
      ∙ ap (λ l. first_key (by_spot l)) h.cells_equal

  pub spot_held : (loose : Bool) (r : Elem) (g : Group) (next : Option ℕ)
      → ((ps : List ℕ) (e : Ends) (k : Elem) → IsThread (links_at all_links nodes) e ps → IsGroup (links_at (links Row) nodes) g (of_key (key_at Row nodes) k ps) → IsSpotFor nodes loose k ps next)
      → g ≡ group_or_none (rows r) → IsSpotFor nodes loose r h.at_places next
  spot_held loose r g next clause e =
      clause h.at_places all r h.are_indexed.cells.thread (subst (λ x. IsGroup (links_at (links Row) nodes) x (of_key (key_at Row nodes) r h.at_places)) (sym e) (h.are_indexed.cells.in_rows.group r))

  module _ (loose : Bool) (r : Elem) (next : Option ℕ) (d : IsSpotFor nodes loose r h.at_places next) where
    spot_thread : IsThread (links_at all_links nodes) all (d.before ++ d.after)
    spot_thread = subst (IsThread (links_at all_links nodes) all) d.cut h.are_indexed.cells.thread

    pub next_held : (p : ℕ) → next ≡ Some p → IsSome (get nodes p)
    next_held p e = by_list d.after (sym d.start ∙ e) spot_thread
      where
        by_list : (xs : List ℕ) → head_or None xs ≡ Some p → IsThread (links_at all_links nodes) all (d.before ++ xs) → IsSome (get nodes p)
        by_list [] f t = absurd (cc)
        by_list (x ∷ xs) f t = let equal : x ≡ p = cc in subst (λ y. IsSome (get nodes y)) equal (node_there all_links nodes all d.before x xs t)

    few : length d.after ≤ slab_len nodes
    few = let c = h.are_indexed.cells.count in let whole = ap length d.cut in omega (arith, length-append d.before d.after)

    pub column_spot : (c : Elem) (g : Group) (next_in_column : Option ℕ) → g ≡ group_or_none (columns c)
        → ((us vs : List ℕ) (e : Ends) → next ≡ head_or None vs → IsThread (links_at all_links nodes) e (us ++ vs) → length vs ≤ slab_len nodes → IsGroup (links_at (links Column) nodes) g (of_key (key_at Column nodes) c (us ++ vs)) → next_in_column ≡ head_or None (of_key (key_at Column nodes) c vs))
        → next_in_column ≡ head_or None (of_key (key_at Column nodes) c d.after)
    column_spot c g next_in_column e clause =
        clause d.before d.after all d.start spot_thread few
        (subst (λ x. IsGroup (links_at (links Column) nodes) x (of_key (key_at Column nodes) c (d.before ++ d.after))) (sym e) (subst (λ l. IsGroup (links_at (links Column) nodes) (group_or_none (columns c)) (of_key (key_at Column nodes) c l)) d.cut (h.are_indexed.cells.in_columns.group c)))

    pub in_column_held : (c : Elem) (next_in_column : Option ℕ) → next_in_column ≡ head_or None (of_key (key_at Column nodes) c d.after) → (p : ℕ) → next_in_column ≡ Some p → IsSome (get nodes p)
    in_column_held c next_in_column i p e =
        by_list (of_key (key_at Column nodes) c d.after) (sym i ∙ e)
        (there_filter (cell_at Row nodes) (λ q. has c (key_at Column nodes q)) d.after (there_right (cell_at Row nodes) d.before d.after (thread_there all_links (cell Row) nodes all (d.before ++ d.after) spot_thread)))
      where
        some_node : (x : Option CellNode) → IsSome (option_map (cell Row) x) → IsSome x
        some_node None s = absurd (cc)
        some_node (Some n) s = refl

        by_list : (xs : List ℕ) → head_or None xs ≡ Some p → There (cell_at Row nodes) xs → IsSome (get nodes p)
        by_list [] f t = absurd (cc)
        by_list (x ∷ xs) f t = let equal : x ≡ p = cc in subst (λ y. IsSome (get nodes y)) equal (some_node (get nodes x) t.0)

  -- a cell put in, where its step does what it says for each list of places
  module _ (n₁ : Slab CellNode) (e₁ : Ends) (r₀ r₁ c₀ c₁ : Group) (r c v : Elem) (loose : Bool) (next next_in_column : Option ℕ) (q : ℕ) (found : Spot → Option ℕ) (d : IsSpotFor nodes loose r h.at_places next)
      (vacant : get nodes q ≡ None) (here : (s : Side) → cell_at s n₁ q ≡ Some (cell s (the_node r c v))) (others : (s : Side) (p : ℕ) → p ≢ q → cell_at s n₁ p ≡ cell_at s nodes p) (finds : (x : Spot) → found x ≡ cond (same_spot (spot_at r c) x) (Some q) (index x))
      (absent : lookup (same c) (row r cells) ≡ None) where
    abbrev nd : CellNode
    nd = the_node r c v

    before_cells : AreCells nodes all rows columns (d.before ++ d.after)
    before_cells = subst (AreCells nodes all rows columns) d.cut h.are_indexed.cells

    beside : Avoids (Some q) (d.before ++ d.after)
    beside = fresh all_links (key Row) nodes q None (d.before ++ d.after) None vacant before_cells.thread.links

    unfound : (s : Side) → index (spot s (key s nd) (rest s nd).0) ≡ None
    unfound Row = (h.are_indexed.found Row r).exact c ∙ absent_place (rest_at Row nodes) (same c) (of_key (key_at Row nodes) r h.at_places) (there_held h Row r) (ap (lookup (same c)) (sym (row_held h Row r)) ∙ absent)
    unfound Column = (h.are_indexed.found Row r).exact c ∙ absent_place (rest_at Row nodes) (same c) (of_key (key_at Row nodes) r h.at_places) (there_held h Row r) (ap (lookup (same c)) (sym (row_held h Row r)) ∙ absent)

    found_new : (s : Side) → AreFound (key_at s n₁) (rest_at s n₁) (λ k x. found (spot s k x)) (d.before ++ q ∷ d.after)
    found_new s =
        found_with (key_at s nodes) (key_at s n₁) (rest_at s nodes) (rest_at s n₁) (λ k x. index (spot s k x)) (λ k x. found (spot s k x)) d.before q d.after (key s nd) (rest s nd).0 (rest s nd).1 beside (key_beside nodes n₁ q others s) (rest_beside nodes n₁ q others s)
        (keys_seen n₁ s q ∙ ap (option_map (λ (x : Cell). x.0)) (here s)) (rests_seen n₁ s q ∙ ap (option_map (λ (x : Cell). x.1)) (here s)) (spot_finds nd (Some q) index found finds s) (thread_there all_links (rest s) nodes all (d.before ++ d.after) before_cells.thread) (unfound s)
        (subst (AreFound (key_at s nodes) (rest_at s nodes) (λ k x. index (spot s k x))) d.cut (h.are_indexed.found s))

    pub linked_held : next_in_column ≡ head_or None (of_key (key_at Column nodes) c d.after) → r₀ ≡ group_or_none (rows r) → c₀ ≡ group_or_none (columns c)
        → ((us vs : List ℕ) (rs cs : Elem → Option Group) → next ≡ head_or None vs → of_key (key_at Row nodes) r vs ≡ [] → next_in_column ≡ head_or None (of_key (key_at Column nodes) c vs) → r₀ ≡ group_or_none (rs r) → c₀ ≡ group_or_none (cs c) → AreCells nodes all rs cs (us ++ vs) → AreCells n₁ e₁ (with_group r r₁ rs) (with_group c c₁ cs) (us ++ q ∷ vs))
        → HoldsCells n₁ e₁ (with_group r r₁ rows) (with_group c c₁ columns) found (with_new (record { cells = cells; loose = loose }) (r, (c, v)))
    linked_held i er ec clause =
        let cut = avoids_cut (Some q) d.before d.after beside in
        let core = cell_at Row nodes in
        record {
          at_places = d.before ++ q ∷ d.after;
          are_indexed = record { cells = clause d.before d.after rows columns d.start d.none i er ec before_cells; found = found_new };
          cells_equal =
              rows_at (cell_at Row n₁) d.before q d.after (r, (c, v)) (here Row)
              ∙ (λ j. rows_beside core (cell_at Row n₁) q d.before (others Row) cut.0 j ++ (r, (c, v)) ∷ rows_beside core (cell_at Row n₁) q d.after (others Row) cut.1 j)
              ∙ sym (d.with_it (c, v)) ∙ ap (λ l. with_new (record { cells = l; loose = loose }) (r, (c, v))) h.cells_equal;
        }

  -- the cell of a row and a column
  module _ (r c : Elem) (p : ℕ) (e : index (spot_at r c) ≡ Some p) where
    pub all_cut : IsCutAt (λ q. has r (key_at Row nodes q)) h.at_places (place_cut h Row r c p e).0 p (place_cut h Row r c p e).1
    all_cut = filter_cut (λ q. has r (key_at Row nodes q)) h.at_places (place_cut h Row r c p e).0 p (place_cut h Row r c p e).1 (place_cut h Row r c p e).3.places

    pub cut_cells : AreCells nodes all rows columns (all_cut.before ++ p ∷ all_cut.after)
    cut_cells = subst (AreCells nodes all rows columns) all_cut.places h.are_indexed.cells

    core_front : row r (rows_of (cell_at Row nodes) all_cut.before) ≡ rows_of (rest_at Row nodes) (place_cut h Row r c p e).0
    core_front = row_seen nodes Row r all_cut.before ∙ ap (rows_of (rest_at Row nodes)) all_cut.front

    core_back : row r (rows_of (cell_at Row nodes) all_cut.after) ≡ rows_of (rest_at Row nodes) (place_cut h Row r c p e).1
    core_back = row_seen nodes Row r all_cut.after ∙ ap (rows_of (rest_at Row nodes)) all_cut.back

    pub none_front : NonePasses (same c) (row r (rows_of (cell_at Row nodes) all_cut.before))
    none_front = subst (NonePasses (same c)) (sym core_front) (none_beside h Row r c p e).0

    pub none_back : NonePasses (same c) (row r (rows_of (cell_at Row nodes) all_cut.after))
    none_back = subst (NonePasses (same c)) (sym core_back) (none_beside h Row r c p e).1

    module _ (n : CellNode) (g : get nodes p ≡ Some n) where
      own_row : n.row ≡ r
      own_row = sym ((same-Decides r n.row).0 (sym (ap (λ o. has r (option_map (key Row) o)) g) ∙ all_cut.passes))

      own_column : n.column ≡ c
      own_column = ap (λ (y : Elem × Elem). y.0) (sym (rest_held h Row r c p e n g)) ∙ own_other h Row r c p e

      pub row_here : key_at Row nodes p ≡ Some r
      row_here = ap (option_map (key Row)) g ∙ ap Some own_row

      pub column_here : key_at Column nodes p ≡ Some c
      column_here = ap (option_map (key Column)) g ∙ ap Some own_column

      pub row_group : IsSome (rows r) × (1 ≤ (group_or_none (rows r)).count)
      row_group = group_there (links_at (links Row) nodes) (rows r) (of_key (key_at Row nodes) r all_cut.before) p (of_key (key_at Row nodes) r all_cut.after) (group_cut (key_at Row nodes) (links_at (links Row) nodes) rows all_cut.before p all_cut.after r row_here cut_cells.in_rows)

      pub column_group : IsSome (columns c) × (1 ≤ (group_or_none (columns c)).count)
      column_group =
          group_there (links_at (links Column) nodes) (columns c) (of_key (key_at Column nodes) c all_cut.before) p (of_key (key_at Column nodes) c all_cut.after) (group_cut (key_at Column nodes) (links_at (links Column) nodes) columns all_cut.before p all_cut.after c column_here cut_cells.in_columns)

      cell_here : cell_at Row nodes p ≡ Some (r, (c, n.value))
      cell_here = ap (option_map (cell Row)) g ∙ (λ i. Some (own_row i, (own_column i, n.value)))

      pub cells_cut : cells ≡ rows_of (cell_at Row nodes) all_cut.before ++ (r, (c, n.value)) ∷ rows_of (cell_at Row nodes) all_cut.after
      cells_cut = sym h.cells_equal ∙ ap (rows_of (cell_at Row nodes)) all_cut.places ∙ rows_at (cell_at Row nodes) all_cut.before p all_cut.after (r, (c, n.value)) cell_here

      -- the spot of the next cell in the thread of all
      pub after_cell_held : spot_of_place nodes n.all.next ≡ key_after (is_spot r c) (by_spot cells)
      after_cell_held =
          let fs = rows_of (cell_at Row nodes) all_cut.before in
          let bs = rows_of (cell_at Row nodes) all_cut.after in
          ap (λ (l : Links). spot_of_place nodes l.next) (links_cut all_links nodes all all_cut.before p all_cut.after cut_cells.thread n g)
          ∙ first_spot nodes all_cut.after (there_right (cell_at Row nodes) all_cut.before (p ∷ all_cut.after) (thread_there all_links (cell Row) nodes all (all_cut.before ++ p ∷ all_cut.after) cut_cells.thread)).1
          ∙ sym (ap (λ l. key_after (is_spot r c) (by_spot l)) cells_cut ∙ ap (key_after (is_spot r c)) (spots-append fs ((r, (c, n.value)) ∷ bs))
          ∙ key_after_at (is_spot r c) (by_spot fs) ((r, c), n.value) (by_spot bs) (none_at_spot r c fs none_front) (its_spot r c n.value))

      beside_it : Avoids (Some p) (all_cut.before ++ all_cut.after)
      beside_it = (apart_without all_cut.before p all_cut.after cut_cells.thread.apart).1

      -- taken out, where its step does what it says for each list of places
      module _ (n₁ : Slab CellNode) (found : Spot → Option ℕ) (others : (s : Side) (q : ℕ) → q ≢ p → cell_at s n₁ q ≡ cell_at s nodes q) (finds : (x : Spot) → found x ≡ cond (same_spot (spot_at r c) x) None (index x)) where
        found_less : (s : Side) → AreFound (key_at s n₁) (rest_at s n₁) (λ k x. found (spot s k x)) (all_cut.before ++ all_cut.after)
        found_less s =
            found_without (key_at s nodes) (key_at s n₁) (rest_at s nodes) (rest_at s n₁) (λ k x. index (spot s k x)) (λ k x. found (spot s k x)) all_cut.before p all_cut.after (key s n) (rest s n).0 (rest s n).1 beside_it
            (key_beside nodes n₁ p others s) (rest_beside nodes n₁ p others s) (ap (option_map (key s)) g) (ap (option_map (rest s)) g)
            (spot_finds n None index found (λ x. finds x ∙ (λ i. cond (same_spot (spot_at (sym own_row i) (sym own_column i)) x) None (index x))) s) (thread_there all_links (rest s) nodes all (all_cut.before ++ p ∷ all_cut.after) cut_cells.thread)
            (subst (AreFound (key_at s nodes) (rest_at s nodes) (λ k x. index (spot s k x))) all_cut.places (h.are_indexed.found s))

        pub unlinked_held : (e₁ : Ends) (r₀ r₁ c₀ c₁ : Group) → r₀ ≡ group_or_none (rows r) → c₀ ≡ group_or_none (columns c)
            → ((us vs : List ℕ) (rs cs : Elem → Option Group) (k j : Elem) → key_at Row nodes p ≡ Some k → key_at Column nodes p ≡ Some j → r₀ ≡ group_or_none (rs k) → c₀ ≡ group_or_none (cs j) → AreCells nodes all rs cs (us ++ p ∷ vs) → AreCells n₁ e₁ (with_group k r₁ rs) (with_group j c₁ cs) (us ++ vs))
            → HoldsCells n₁ e₁ (with_group r r₁ rows) (with_group c c₁ columns) found (without_cell r c cells)
        unlinked_held e₁ r₀ r₁ c₀ c₁ er ec clause =
            let us = all_cut.before in
            let vs = all_cut.after in
            let core = cell_at Row nodes in
            record {
              at_places = us ++ vs;
              are_indexed = record { cells = clause us vs rows columns r c row_here column_here er ec cut_cells; found = found_less };
              cells_equal =
                  rows_beside core (cell_at Row n₁) p (us ++ vs) (others Row) beside_it ∙ rows-append core us vs
                  ∙ sym (ap (without_cell r c) cells_cut ∙ without_cell_at r c (rows_of core us) n.value (rows_of core vs) none_front none_back);
            }

      -- its value written
      module _ (n₁ : Slab CellNode) (v : Elem) (w : Rewrites (λ (m : CellNode). record m { value = v }) (Some p) nodes n₁) where
        unwritten : {X : Type 0} (read : CellNode → X) → ((m : CellNode) → read (record m { value = v }) ≡ read m) → (q : ℕ) → option_map read (get n₁ q) ≡ option_map read (get nodes q)
        unwritten read reads q = elim (cases_eq p q) [
          | inl equal ↦ ap (option_map read) (w.changed q (ap Some equal)) ∙ twice (get nodes q)
          | inr differs ↦ ap (option_map read) (w.others q (λ f. differs (cc)))
        ]
          where
            twice : (x : Option CellNode) → option_map read (option_map (λ (m : CellNode). record m { value = v }) x) ≡ option_map read x
            twice None = refl
            twice (Some m) = ap Some (reads m)

        same_key : (s : Side) (m : CellNode) → key s (record m { value = v }) ≡ key s m
        same_key Row m = refl
        same_key Column m = refl

        same_other : (s : Side) (m : CellNode) → (rest s (record m { value = v })).0 ≡ (rest s m).0
        same_other Row m = refl
        same_other Column m = refl

        as_keyed : (s : Side) (q : ℕ) (x : Option CellNode) → option_map (λ (y : Elem × Elem). (y.0, q)) (option_map (rest s) x) ≡ option_map (other_at s q) x
        as_keyed s q None = refl
        as_keyed s q (Some m) = refl

        written_cells : slab_len n₁ ≡ slab_len nodes → AreCells n₁ all rows columns h.at_places
        written_cells len =
            let ps = h.at_places in
            let i = h.are_indexed.cells in
            record {
              thread = thread_same (links_at all_links nodes) (links_at all_links n₁) all ps (same_everywhere (links_at all_links nodes) (links_at all_links n₁) (unwritten all_links (λ m. refl)) ps) i.thread;
              in_rows = grouped_same (key_at Row nodes) (key_at Row n₁) (links_at (links Row) nodes) (links_at (links Row) n₁) rows rows ps (unwritten (key Row) (λ m. refl)) (unwritten (links Row) (λ m. refl)) (λ k. refl) i.in_rows;
              in_columns = grouped_same (key_at Column nodes) (key_at Column n₁) (links_at (links Column) nodes) (links_at (links Column) n₁) columns columns ps (unwritten (key Column) (λ m. refl)) (unwritten (links Column) (λ m. refl)) (λ k. refl) i.in_columns;
              count = len ∙ i.count;
            }

        pub written_held : slab_len n₁ ≡ slab_len nodes → HoldsCells n₁ all rows columns index (with_value r c v cells)
        written_held len =
            let us = all_cut.before in
            let vs = all_cut.after in
            let core = cell_at Row nodes in
            let cut = avoids_cut (Some p) us vs beside_it in
            let others = λ (q : ℕ) (f : q ≢ p). ap (option_map (cell Row)) (w.others q (λ y. f (cc))) in
            let threaded = (written_cells len).thread in
            record {
              at_places = h.at_places;
              are_indexed = record {
                cells = written_cells len;
                found = λ s k.
                    let kept = unwritten (key s) (same_key s) in
                    let old = of_key (key_at s nodes) k h.at_places in
                    subst (λ l. IsIndexed (rest_at s n₁) (λ x. index (spot s k x)) (length l) l) (sym (λ i. filter (λ q. has k (kept q i)) h.at_places))
                    (indexed_written (rest_at s nodes) (rest_at s n₁) (λ x. index (spot s k x)) (λ x. index (spot s k x)) (length old) old
                    (λ q. as_keyed s q (get n₁ q) ∙ unwritten (other_at s q) (λ m. ap (λ y. (y, q)) (same_other s m)) q ∙ sym (as_keyed s q (get nodes q))) (there_held h s k)
                    (there_filter (rest_at s n₁) (λ q. has k (key_at s nodes q)) h.at_places (thread_there all_links (rest s) n₁ all h.at_places threaded)) (λ z. refl) (h.are_indexed.found s k));
              };
              cells_equal =
                  ap (rows_of (cell_at Row n₁)) all_cut.places
                  ∙ rows_at (cell_at Row n₁) us p vs (r, (c, v)) (ap (option_map (cell Row)) (w.changed p refl ∙ ap (option_map (λ (m : CellNode). record m { value = v })) g) ∙ (λ i. Some (own_row i, (own_column i, v))))
                  ∙ (λ i. rows_beside core (cell_at Row n₁) p us others cut.0 i ++ (r, (c, v)) ∷ rows_beside core (cell_at Row n₁) p vs others cut.1 i)
                  ∙ sym (ap (with_value r c v) cells_cut ∙ with_value_at r c v (rows_of core us) n.value (rows_of core vs) none_front none_back);
            }
