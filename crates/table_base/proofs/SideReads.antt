-- Nodes of cells seen from either side, and where a new one goes.
use Rattle.std.proofs.Common.{◌≡◌, ℕ, true, false, List, [], ◌∷◌, ◌++◌, Option, Some, None, refl, sym, ap, ◌∙◌, subst, append-nil, append_assoc}
use Rattle.std.specs.Option.{option_map}
use Rattle.std.specs.Prelude.{IsSome}
use Rattle.std.specs.List.{filter, cons_option}
use Rattle.elem.specs.Rows.{first_key, last_key_or}
use Rattle.slab.specs.Slab.{Slab, get}
use Rattle.elem.specs.declared.elements.Elem.{Elem}
use Rattle.elem.specs.Elements.{same}
use Rattle.linked_base.specs.declared.links.Links.{Links}
use Rattle.linked_base.specs.declared.links.Ends.{Ends}
use Rattle.linked_base.specs.declared.group.Group.{Group}
use Rattle.linked_base.specs.Thread.{head_or, last_or, IsThread, links_at}
use Rattle.linked_base.specs.Group.{has, of_key, IsGroup}
use Rattle.linked_base.specs.Places.{rows_of}
use Rattle.linked_base.proofs.Walks.{split_last, no_last}
use Rattle.linked_base.proofs.PlacesLemmas.{There, rows_at}
use Rattle.table_base.specs.declared.cell_nodes.CellNode.{CellNode}
use Rattle.table_base.specs.declared.sides.Side.{Side}
use Rattle.table_base.specs.declared.sides.Side.TheVariants.{Row, Column}
use Rattle.table_base.specs.declared.seeking.Sought.TheVariants.{OfColumn}
use Rattle.table_base.specs.Cells.{Cell, row, turned, with_cell}
use Rattle.table_base.specs.CellNodes.{all_links, links, key, rest, cell, key_at, rest_at, cell_at, seen, other_of, IsSpotFor}
use Rattle.table_base.specs.Seeking.{passes_at, node_passes}
use Rattle.table_base.proofs.CellLists.{with_cell_new, with_cell_behind}
use Rattle.table_base.proofs.RowPlaces.{row_read, transposed_read, IsCutAt, filter_cut}
use Rattle.table_base.proofs.ThreadReads.{links_cut, node_cut}

module _ (nodes : Slab CellNode) where
  pub keys_seen : (s : Side) (p : ℕ) → key_at s nodes p ≡ option_map (λ (x : Cell). x.0) (cell_at s nodes p)
  keys_seen s p = by_node (get nodes p)
    where
      by_node : (o : Option CellNode) → option_map (key s) o ≡ option_map (λ (x : Cell). x.0) (option_map (cell s) o)
      by_node None = refl
      by_node (Some n) = refl

  pub rests_seen : (s : Side) (p : ℕ) → rest_at s nodes p ≡ option_map (λ (x : Cell). x.1) (cell_at s nodes p)
  rests_seen s p = by_node (get nodes p)
    where
      by_node : (o : Option CellNode) → option_map (rest s) o ≡ option_map (λ (x : Cell). x.1) (option_map (cell s) o)
      by_node None = refl
      by_node (Some n) = refl

  pub turns_seen : (p : ℕ) → cell_at Column nodes p ≡ option_map turned (cell_at Row nodes p)
  turns_seen p = by_node (get nodes p)
    where
      by_node : (o : Option CellNode) → option_map (cell Column) o ≡ option_map turned (option_map (cell Row) o)
      by_node None = refl
      by_node (Some n) = refl

  pub row_seen : (s : Side) (k : Elem) (ps : List ℕ) → row k (rows_of (cell_at s nodes) ps) ≡ rows_of (rest_at s nodes) (of_key (key_at s nodes) k ps)
  row_seen s k ps = row_read (cell_at s nodes) (key_at s nodes) (rest_at s nodes) (keys_seen s) (rests_seen s) k ps

  pub seen_read : (s : Side) (ps : List ℕ) → seen s (rows_of (cell_at Row nodes) ps) ≡ rows_of (cell_at s nodes) ps
  seen_read Row ps = refl
  seen_read Column ps = transposed_read (cell_at Row nodes) (cell_at Column nodes) turns_seen ps

  -- the first and the last of places in a row
  pub first_other : (s : Side) (ps : List ℕ) → There (rest_at s nodes) ps → other_of s nodes (head_or None ps) ≡ first_key (rows_of (rest_at s nodes) ps)
  first_other s [] h = refl
  first_other s (p ∷ ps) h = by_node (get nodes p) refl h.0
    where
      by_node : (o : Option CellNode) → get nodes p ≡ o → IsSome (option_map (rest s) (get nodes p)) → option_map (λ (n : CellNode). (rest s n).0) (get nodes p) ≡ first_key (cons_option (option_map (rest s) (get nodes p)) (rows_of (rest_at s nodes) ps))
      by_node None g i = absurd (let j = subst (λ x. IsSome (option_map (rest s) x)) g i in cc)
      by_node (Some n) g i = ap (option_map (λ (m : CellNode). (rest s m).0)) g ∙ sym (ap (λ o. first_key (cons_option (option_map (rest s) o) (rows_of (rest_at s nodes) ps))) g)

  last_from : (s : Side) (o : Option ℕ) (ps : List ℕ) → There (rest_at s nodes) ps → other_of s nodes (last_or o ps) ≡ last_key_or (other_of s nodes o) (rows_of (rest_at s nodes) ps)
  last_from s o [] h = refl
  last_from s o (p ∷ ps) h = by_node (get nodes p) refl h.0 (last_from s (Some p) ps h.1)
    where
      by_node : (x : Option CellNode) → get nodes p ≡ x → IsSome (option_map (rest s) (get nodes p)) → other_of s nodes (last_or (Some p) ps) ≡ last_key_or (option_map (λ (n : CellNode). (rest s n).0) (get nodes p)) (rows_of (rest_at s nodes) ps)
          → other_of s nodes (last_or (Some p) ps) ≡ last_key_or (other_of s nodes o) (cons_option (option_map (rest s) (get nodes p)) (rows_of (rest_at s nodes) ps))
      by_node None g i r = absurd (let j = subst (λ x. IsSome (option_map (rest s) x)) g i in cc)
      by_node (Some n) g i r =
          r ∙ ap (λ y. last_key_or (option_map (λ (m : CellNode). (rest s m).0) y) (rows_of (rest_at s nodes) ps)) g
          ∙ sym (ap (λ y. last_key_or (other_of s nodes o) (cons_option (option_map (rest s) y) (rows_of (rest_at s nodes) ps))) g)

  pub last_other : (s : Side) (ps : List ℕ) → There (rest_at s nodes) ps → other_of s nodes (last_or None ps) ≡ last_key_or None (rows_of (rest_at s nodes) ps)
  last_other s ps h = last_from s None ps h

  column_passes : (c : Elem) (p : ℕ) → passes_at (OfColumn c) nodes p ≡ has c (key_at Column nodes p)
  column_passes c p = by_node (get nodes p)
    where
      by_node : (o : Option CellNode) → node_passes (OfColumn c) o ≡ has c (option_map (key Column) o)
      by_node None = refl
      by_node (Some n) = refl

  pub passing_column : (c : Elem) (ps : List ℕ) → filter (passes_at (OfColumn c) nodes) ps ≡ of_key (key_at Column nodes) c ps
  passing_column c ps = λ i. filter (λ p. column_passes c p i) ps

-- where a new cell goes
module _ (nodes : Slab CellNode) (r : Elem) (ps : List ℕ) where
  pub loose_spot : IsSpotFor nodes true r ps None
  loose_spot = record { before = ps; after = []; cut = sym (append-nil ps); start = refl; none = refl; with_it = λ x. refl }

  module _ (all : Ends) (g : Group) (t : IsThread (links_at all_links nodes) all ps) (h : IsGroup (links_at (links Row) nodes) g (of_key (key_at Row nodes) r ps)) where
    pub new_spot : g.ends.last ≡ None → IsSpotFor nodes false r ps None
    new_spot e =
        let nothing = no_last (of_key (key_at Row nodes) r ps) (sym h.thread.last ∙ e) in
        record {
          before = ps;
          after = [];
          cut = sym (append-nil ps);
          start = refl;
          none = refl;
          with_it = λ x. with_cell_new (r, x) (rows_of (cell_at Row nodes) ps) (row_seen nodes Row r ps ∙ ap (rows_of (rest_at Row nodes)) nothing);
        }

    module _ (p : ℕ) (e : g.ends.last ≡ Some p) where
      pub last_cut : (us : List ℕ) × IsCutAt (λ q. has r (key_at Row nodes q)) ps us p []
      last_cut =
          let d = split_last (of_key (key_at Row nodes) r ps) p (sym h.thread.last ∙ e) in
          (d.0, filter_cut (λ q. has r (key_at Row nodes q)) ps d.0 p [] d.1)

      cut_thread : IsThread (links_at all_links nodes) all (last_cut.1.before ++ p ∷ last_cut.1.after)
      cut_thread = subst (IsThread (links_at all_links nodes) all) last_cut.1.places t

      pub no_node : get nodes p ≡ None → ⊥
      no_node f = node_cut all_links nodes all last_cut.1.before p last_cut.1.after cut_thread f

      pub spot_behind : (n : CellNode) → get nodes p ≡ Some n → IsSpotFor nodes false r ps n.all.next
      spot_behind n f =
          let us = last_cut.1.before in
          let vs = last_cut.1.after in
          let core = cell_at Row nodes in
          let here : core p ≡ Some (cell Row n) = ap (option_map (cell Row)) f in
          let own : same r n.row ≡ true = sym (ap (λ o. has r (option_map (key Row) o)) f) ∙ last_cut.1.passes in
          let none : row r (rows_of core vs) ≡ [] = row_seen nodes Row r vs ∙ ap (rows_of (rest_at Row nodes)) last_cut.1.back in
          record {
            before = us ++ p ∷ [];
            after = vs;
            cut = last_cut.1.places ∙ sym (append_assoc us (p ∷ []) vs);
            start = ap (λ (x : Links). x.next) (links_cut all_links nodes all us p vs cut_thread n f);
            none = last_cut.1.back;
            with_it = λ x.
                ap (λ l. with_cell (r, x) (rows_of core l)) last_cut.1.places ∙ ap (with_cell (r, x)) (rows_at core us p vs (cell Row n) here)
                ∙ with_cell_behind (r, x) (rows_of core us) (cell Row n) (rows_of core vs) own none
                ∙ sym (ap (λ l. l ++ (r, x) ∷ rows_of core vs) (rows_at core us p [] (cell Row n) here) ∙ append_assoc (rows_of core us) (cell Row n ∷ []) ((r, x) ∷ rows_of core vs));
          }
