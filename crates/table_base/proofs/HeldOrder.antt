-- The order of the rows, or from the other side of the columns, in the fields of a table.
use Rattle.std.proofs.Common.{◌≡◌, ℕ, suc, ◌≤◌, ◌<◌, true, List, [], ◌∷◌, ◌++◌, length, Option, Some, None, refl, sym, ap, ◌∙◌, subst, arith, length-append, append_assoc, ◌+◌}
use Rattle.std.specs.Prelude.{IsSome}
use Rattle.std.specs.Option.{option_map, is_none}
use Rattle.std.specs.List.{filter, cons_option}
use Rattle.slab.specs.Slab.{Slab, get, slab_len}
use Rattle.elem.specs.declared.elements.Elem.{Elem}
use Rattle.elem.specs.Elements.{same}
use Rattle.elem.specs.ElementLaws.{same-Decides}
use Rattle.elem.specs.Rows.{first_key, last_key_or, key_after, key_before}
use Rattle.linked_base.specs.declared.links.Links.{Links}
use Rattle.linked_base.specs.declared.links.Ends.{Ends}
use Rattle.linked_base.specs.declared.group.Group.{Group}
use Rattle.linked_base.specs.Thread.{head_or, last_or, IsThread, links_at}
use Rattle.linked_base.specs.Group.{group_or_none, has, of_key, IsGroup, AreGrouped}
use Rattle.linked_base.specs.Places.{rows_of}
use Rattle.linked_base.proofs.GroupLemmas.{group_cut}
use Rattle.linked_base.proofs.HeadLemmas.{none_iff_empty, is_unseen}
use Rattle.linked_base.proofs.PlacesLemmas.{There, length-rows, rows_at, there_left, there_right}
use Rattle.linked_base.proofs.IdLemmas.{thread_there, there_filter}
use Rattle.table_base.specs.declared.cell_nodes.CellNode.{CellNode}
use Rattle.table_base.specs.declared.seeking.Sought.TheVariants.{First}
use Rattle.table_base.specs.declared.sides.Side.{Side}
use Rattle.table_base.specs.declared.sides.Side.TheVariants.{Row}
use Rattle.table_base.specs.declared.spots.Spot.{Spot}
use Rattle.table_base.specs.Cells.{Cell, row, IsGrouped, first_of_rows}
use Rattle.table_base.specs.CellNodes.{all_links, links, key, cell, key_at, rest_at, cell_at, groups_of, seen, key_of}
use Rattle.table_base.specs.Seeking.{passes_at, node_passes}
use Rattle.table_base.proofs.RowPlaces.{IsCutAt, filter_cut}
use Rattle.table_base.proofs.SideReads.{keys_seen, seen_read, row_seen, last_cut}
use Rattle.table_base.proofs.ThreadReads.{links_cut, node_there}
use Rattle.table_base.proofs.HeldCells.{HoldsCells, grouped_held, row_held, there_held}
use Rattle.table_base.proofs.GroupedOrder.{after_grouped, before_grouped}
use Rattle.table_base.proofs.RowOrder.{TellsHeads, after_first, before_first}

-- the rows at the ends of a list of places
module _ (nodes : Slab CellNode) (s : Side) where
  pub first_of : (ps : List ℕ) → There (cell_at s nodes) ps → key_of s nodes (head_or None ps) ≡ first_key (rows_of (cell_at s nodes) ps)
  first_of [] t = refl
  first_of (p ∷ ps) t = by_node (get nodes p) t.0
    where
      by_node : (o : Option CellNode) → IsSome (option_map (cell s) o) → option_map (key s) o ≡ first_key (cons_option (option_map (cell s) o) (rows_of (cell_at s nodes) ps))
      by_node None i = absurd (cc)
      by_node (Some n) i = refl

  pub last_from : (o : Option ℕ) (ps : List ℕ) → There (cell_at s nodes) ps → key_of s nodes (last_or o ps) ≡ last_key_or (key_of s nodes o) (rows_of (cell_at s nodes) ps)
  last_from o [] t = refl
  last_from o (p ∷ ps) t = last_from (Some p) ps t.1 ∙ by_node (get nodes p) t.0
    where
      by_node : (x : Option CellNode) → IsSome (option_map (cell s) x) → last_key_or (option_map (key s) x) (rows_of (cell_at s nodes) ps) ≡ last_key_or (key_of s nodes o) (cons_option (option_map (cell s) x) (rows_of (cell_at s nodes) ps))
      by_node None i = absurd (cc)
      by_node (Some n) i = refl

module _ {nodes : Slab CellNode} {all : Ends} {rows columns : Elem → Option Group} {index : Spot → Option ℕ} {cells : List Cell} (h : HoldsCells nodes all rows columns index cells) (s : Side) where
  cells_there : There (cell_at s nodes) h.at_places
  cells_there = thread_there all_links (cell s) nodes all h.at_places h.are_indexed.cells.thread

  seen_held : rows_of (cell_at s nodes) h.at_places ≡ seen s cells
  seen_held = sym (seen_read nodes s h.at_places) ∙ ap (seen s) h.cells_equal

  pub first_key_held : key_of s nodes all.first ≡ first_key (first_of_rows (seen s cells))
  first_key_held = ap (key_of s nodes) h.are_indexed.cells.thread.first ∙ first_of nodes s h.at_places cells_there ∙ ap first_key seen_held ∙ of_firsts (seen s cells)
    where
      of_firsts : (xs : List Cell) → first_key xs ≡ first_key (first_of_rows xs)
      of_firsts [] = refl
      of_firsts (x ∷ xs) = refl

  heads : TellsHeads (key_at s nodes) (passes_at (First s) nodes) h.at_places
  heads us p vs k cut here = by_node (get nodes p) refl
    where
      whole : (n : CellNode) → get nodes p ≡ Some n → (links s n).previous ≡ last_or None (of_key (key_at s nodes) k us)
      whole n g =
          let grouped = subst (AreGrouped (key_at s nodes) (links_at (links s) nodes) (groups_of rows columns s)) cut (grouped_held h s) in
          let t = (group_cut (key_at s nodes) (links_at (links s) nodes) (groups_of rows columns s) us p vs k here grouped).thread in
          ap (λ (l : Links). l.previous) (links_cut (links s) nodes (group_or_none (groups_of rows columns s k)).ends (of_key (key_at s nodes) k us) p (of_key (key_at s nodes) k vs) t n g)

      by_node : (o : Option CellNode) → get nodes p ≡ o → node_passes (First s) o ≡ is_unseen (key_at s nodes) us k
      by_node None g = let both = sym here ∙ ap (option_map (key s)) g in absurd (cc)
      by_node (Some n) g = ap is_none (whole n g) ∙ none_iff_empty (of_key (key_at s nodes) k us)

  -- the first place of a row
  module _ (k : Elem) (some : 0 < length (row k (seen s cells))) (g : Group) (e : g ≡ group_or_none (groups_of rows columns s k)) where
    counted : 0 < length (of_key (key_at s nodes) k h.at_places)
    counted = let whole = ap length (row_held h s k) ∙ length-rows (rest_at s nodes) (of_key (key_at s nodes) k h.at_places) (there_held h s k) in omega arith

    starts : g.ends.first ≡ head_or None (of_key (key_at s nodes) k h.at_places)
    starts = ap (λ (x : Group). x.ends.first) e ∙ ((grouped_held h s).group k).thread.first

    pub first_there : IsSome g.ends.first
    first_there = subst IsSome (sym starts) (by_list (of_key (key_at s nodes) k h.at_places) counted)
      where
        by_list : (xs : List ℕ) → 0 < length xs → IsSome (head_or None xs)
        by_list [] l = absurd (omega arith)
        by_list (x ∷ xs) l = refl

    module _ (q : ℕ) (f : g.ends.first ≡ Some q) where
      first_cut : (ws : List ℕ) × IsCutAt (λ p. has k (key_at s nodes p)) h.at_places [] q ws
      first_cut = by_list (of_key (key_at s nodes) k h.at_places) refl (sym starts ∙ f)
        where
          by_list : (xs : List ℕ) → of_key (key_at s nodes) k h.at_places ≡ xs → head_or None xs ≡ Some q → (ws : List ℕ) × IsCutAt (λ p. has k (key_at s nodes p)) h.at_places [] q ws
          by_list [] i j = absurd (cc)
          by_list (x ∷ xs) i j = let equal : x ≡ q = cc in (xs, filter_cut (λ p. has k (key_at s nodes p)) h.at_places [] q xs (i ∙ ap (λ y. y ∷ xs) equal))

      cut_thread : IsThread (links_at all_links nodes) all (first_cut.1.before ++ q ∷ first_cut.1.after)
      cut_thread = subst (IsThread (links_at all_links nodes) all) first_cut.1.places h.are_indexed.cells.thread

      pub first_node : IsSome (get nodes q)
      first_node = node_there all_links nodes all first_cut.1.before q first_cut.1.after cut_thread

      module _ (n : CellNode) (i : get nodes q ≡ Some n) where
        its_links : n.all ≡ record { previous = last_or None first_cut.1.before; next = head_or None first_cut.1.after }
        its_links = links_cut all_links nodes all first_cut.1.before q first_cut.1.after cut_thread n i

        own : key s n ≡ k
        own = sym ((same-Decides k (key s n)).0 (sym (ap (λ o. has k (option_map (key s) o)) i) ∙ first_cut.1.passes))

        first_of_key : of_key (key_at s nodes) (key s n) first_cut.1.before ≡ []
        first_of_key = ap (λ x. of_key (key_at s nodes) x first_cut.1.before) own ∙ first_cut.1.front

        cut_there : There (cell_at s nodes) (first_cut.1.before ++ q ∷ first_cut.1.after)
        cut_there = subst (There (cell_at s nodes)) first_cut.1.places cells_there

        fits : length first_cut.1.before + suc (length first_cut.1.after) ≤ slab_len nodes
        fits = let c = h.are_indexed.cells.count in let whole = ap length first_cut.1.places ∙ length-append first_cut.1.before (q ∷ first_cut.1.after) in omega arith

        pub after_key_held : (o : Option ℕ)
            → ((us vs : List ℕ) (e : Ends) → n.all.next ≡ head_or None vs → IsThread (links_at all_links nodes) e (us ++ vs) → length vs ≤ slab_len nodes → o ≡ head_or None (filter (passes_at (First s) nodes) vs))
            → key_of s nodes o ≡ key_after (same k) (first_of_rows (seen s cells))
        after_key_held o clause =
            let vs = first_cut.1.after in
            let moved = subst (IsThread (links_at all_links nodes) all) (sym (append_assoc first_cut.1.before (q ∷ []) vs)) cut_thread in
            let l = fits in
            ap (key_of s nodes) (clause (first_cut.1.before ++ q ∷ []) vs all (ap (λ (x : Links). x.next) its_links) moved (omega arith))
            ∙ first_of nodes s (filter (passes_at (First s) nodes) vs) (there_filter (cell_at s nodes) (passes_at (First s) nodes) vs (there_right (cell_at s nodes) first_cut.1.before (q ∷ vs) cut_there).1)
            ∙ after_first (cell_at s nodes) (key_at s nodes) (keys_seen nodes s) (passes_at (First s) nodes) h.at_places heads first_cut.1.before q vs first_cut.1.places cut_there cells_there (cell s n) (ap (option_map (cell s)) i) first_of_key
            ∙ (λ j. key_after (same (own j)) (first_of_rows (seen_held j)))

        pub before_key_held : (o : Option ℕ)
            → ((us vs : List ℕ) (e : Ends) → n.all.previous ≡ last_or None us → IsThread (links_at all_links nodes) e (us ++ vs) → length us ≤ slab_len nodes → o ≡ last_or None (filter (passes_at (First s) nodes) us))
            → key_of s nodes o ≡ key_before (same k) (first_of_rows (seen s cells))
        before_key_held o clause =
            let us = first_cut.1.before in
            let l = fits in
            ap (key_of s nodes) (clause us (q ∷ first_cut.1.after) all (ap (λ (x : Links). x.previous) its_links) cut_thread (omega arith))
            ∙ last_from nodes s None (filter (passes_at (First s) nodes) us) (there_filter (cell_at s nodes) (passes_at (First s) nodes) us (there_left (cell_at s nodes) us (q ∷ first_cut.1.after) cut_there))
            ∙ before_first (cell_at s nodes) (key_at s nodes) (keys_seen nodes s) (passes_at (First s) nodes) h.at_places heads us q first_cut.1.after first_cut.1.places cut_there cells_there (cell s n) (ap (option_map (cell s)) i) first_of_key
            ∙ (λ j. key_before (same (own j)) (first_of_rows (seen_held j)))

-- the rows of a table that is not loose
module _ {nodes : Slab CellNode} {all : Ends} {rows columns : Elem → Option Group} {index : Spot → Option ℕ} {cells : List Cell} (h : HoldsCells nodes all rows columns index cells) (grouped : IsGrouped cells) (k : Elem) (some : 0 < length (row k cells)) (g : Group) (e : g ≡ group_or_none (rows k)) where
  its_group : IsGroup (links_at (links Row) nodes) g (of_key (key_at Row nodes) k h.at_places)
  its_group = subst (λ x. IsGroup (links_at (links Row) nodes) x (of_key (key_at Row nodes) k h.at_places)) (sym e) (h.are_indexed.cells.in_rows.group k)

  pub last_there : IsSome g.ends.last
  last_there = subst IsSome (sym its_group.thread.last) (by_list (of_key (key_at Row nodes) k h.at_places) (counted h Row k some g e))
    where
      some_last : (x : ℕ) (xs : List ℕ) → IsSome (last_or (Some x) xs)
      some_last x [] = refl
      some_last x (y ∷ xs) = some_last y xs

      by_list : (xs : List ℕ) → 0 < length xs → IsSome (last_or None xs)
      by_list [] l = absurd (omega arith)
      by_list (x ∷ xs) l = some_last x xs

  module _ (us : List ℕ) (p : ℕ) (vs : List ℕ) (cut : h.at_places ≡ us ++ p ∷ vs) (n : CellNode) (i : get nodes p ≡ Some n) (own : has k (key_at Row nodes p) ≡ true) where
    at_cut : IsThread (links_at all_links nodes) all (us ++ p ∷ vs)
    at_cut = subst (IsThread (links_at all_links nodes) all) cut h.are_indexed.cells.thread

    there_at : There (cell_at Row nodes) (us ++ p ∷ vs)
    there_at = subst (There (cell_at Row nodes)) cut (cells_there h Row)

    cells_at : rows_of (cell_at Row nodes) us ++ cell Row n ∷ rows_of (cell_at Row nodes) vs ≡ cells
    cells_at = sym (rows_at (cell_at Row nodes) us p vs (cell Row n) (ap (option_map (cell Row)) i)) ∙ ap (rows_of (cell_at Row nodes)) (sym cut) ∙ h.cells_equal

    own_row : same k n.row ≡ true
    own_row = sym (ap (λ o. has k (option_map (key Row) o)) i) ∙ own

    pub behind_held : of_key (key_at Row nodes) k vs ≡ [] → key_of Row nodes n.all.next ≡ key_after (same k) (first_of_rows cells)
    behind_held none =
        ap (λ (l : Links). key_of Row nodes l.next) (links_cut all_links nodes all us p vs at_cut n i) ∙ first_of nodes Row vs (there_right (cell_at Row nodes) us (p ∷ vs) there_at).1
        ∙ sym (after_grouped k (rows_of (cell_at Row nodes) us) (cell Row n) (rows_of (cell_at Row nodes) vs) own_row (row_seen nodes Row k vs ∙ ap (rows_of (rest_at Row nodes)) none) (subst IsGrouped (sym cells_at) grouped))
        ∙ ap (λ l. key_after (same k) (first_of_rows l)) cells_at

    pub ahead_held : of_key (key_at Row nodes) k us ≡ [] → key_of Row nodes n.all.previous ≡ key_before (same k) (first_of_rows cells)
    ahead_held none =
        ap (λ (l : Links). key_of Row nodes l.previous) (links_cut all_links nodes all us p vs at_cut n i) ∙ last_from nodes Row None us (there_left (cell_at Row nodes) us (p ∷ vs) there_at)
        ∙ sym (before_grouped None k (rows_of (cell_at Row nodes) us) (cell Row n) (rows_of (cell_at Row nodes) vs) own_row (row_seen nodes Row k us ∙ ap (rows_of (rest_at Row nodes)) none) (subst IsGrouped (sym cells_at) grouped))
        ∙ ap (λ l. key_before (same k) (first_of_rows l)) cells_at

  -- at the last place of the row
  module _ (p : ℕ) (f : g.ends.last ≡ Some p) where
    row_end : (us : List ℕ) × IsCutAt (λ q. has k (key_at Row nodes q)) h.at_places us p []
    row_end = last_cut nodes k h.at_places all g h.are_indexed.cells.thread its_group p f

    pub last_node : IsSome (get nodes p)
    last_node = node_there all_links nodes all row_end.1.before p row_end.1.after (subst (IsThread (links_at all_links nodes) all) row_end.1.places h.are_indexed.cells.thread)

    pub row_behind_held : (n : CellNode) → get nodes p ≡ Some n → key_of Row nodes n.all.next ≡ key_after (same k) (first_of_rows cells)
    row_behind_held n i = behind_held row_end.1.before p row_end.1.after row_end.1.places n i row_end.1.passes row_end.1.back

  -- at its first
  module _ (p : ℕ) (f : g.ends.first ≡ Some p) where
    pub row_ahead_held : (n : CellNode) → get nodes p ≡ Some n → key_of Row nodes n.all.previous ≡ key_before (same k) (first_of_rows cells)
    row_ahead_held n i = let d = (first_cut h Row k some g e p f).1 in ahead_held d.before p d.after d.places n i d.passes d.front
