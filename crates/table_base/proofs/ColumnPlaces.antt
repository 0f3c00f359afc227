-- The next cell of a column behind a cut of the thread of all, told by the last one before it.
use Rattle.std.proofs.Common.{◌≡◌, ℕ, List, [], ◌∷◌, ◌++◌, Option, Some, None, sym, ap, ◌∙◌, subst, append_assoc}
use Rattle.std.specs.List.{filter}
use Rattle.std.proofs.lemmas.List.Elements.{filter-append}
use Rattle.slab.specs.Slab.{Slab, get}
use Rattle.elem.specs.declared.elements.Elem.{Elem}
use Rattle.linked_base.specs.declared.links.Links.{Links}
use Rattle.linked_base.specs.declared.links.Ends.{Ends}
use Rattle.linked_base.specs.declared.group.Group.{Group}
use Rattle.linked_base.specs.Thread.{head_or, last_or, IsThread, links_at}
use Rattle.linked_base.specs.Group.{has, of_key, IsGroup}
use Rattle.linked_base.proofs.Walks.{split_last, no_last, no_head}
use Rattle.table_base.specs.declared.cell_nodes.CellNode.{CellNode}
use Rattle.table_base.specs.declared.sides.Side.TheVariants.{Column}
use Rattle.table_base.specs.declared.seeking.Sought.TheVariants.{OfColumn}
use Rattle.table_base.specs.CellNodes.{all_links, links, key_at}
use Rattle.table_base.specs.Seeking.{passes_at}
use Rattle.table_base.proofs.SideReads.{passing_column}
use Rattle.table_base.proofs.ThreadReads.{links_cut, node_cut}

module _ (nodes : Slab CellNode) (g : Group) (c : Elem) (us vs : List ℕ) (h : IsGroup (links_at (links Column) nodes) g (of_key (key_at Column nodes) c (us ++ vs))) where
  parts : of_key (key_at Column nodes) c (us ++ vs) ≡ of_key (key_at Column nodes) c us ++ of_key (key_at Column nodes) c vs
  parts = filter-append (λ p. has c (key_at Column nodes p)) us vs

  -- with none before it the next is the first of the column
  pub first_behind : last_or None (filter (passes_at (OfColumn c) nodes) us) ≡ None → g.ends.first ≡ head_or None (of_key (key_at Column nodes) c vs)
  first_behind e =
      let none = no_last (of_key (key_at Column nodes) c us) (sym (ap (last_or None) (passing_column nodes c us)) ∙ e) in
      h.thread.first ∙ ap (head_or None) (parts ∙ ap (λ l. l ++ of_key (key_at Column nodes) c vs) none)

  -- else it is the one that follows the last before it
  pub next_behind : (p : ℕ) → last_or None (filter (passes_at (OfColumn c) nodes) us) ≡ Some p → (n : CellNode) → get nodes p ≡ Some n → n.in_column.next ≡ head_or None (of_key (key_at Column nodes) c vs)
  next_behind p e n i =
      let d = split_last (of_key (key_at Column nodes) c us) p (sym (ap (last_or None) (passing_column nodes c us)) ∙ e) in
      let rest = of_key (key_at Column nodes) c vs in
      let whole = parts ∙ ap (λ l. l ++ rest) d.1 ∙ append_assoc d.0 (p ∷ []) rest in
      ap (λ (l : Links). l.next) (links_cut (links Column) nodes g.ends d.0 p rest (subst (IsThread (links_at (links Column) nodes) g.ends) whole h.thread) n i)

-- the start of a walk
pub none_ahead : (nodes : Slab CellNode) (c : Elem) (vs : List ℕ) (from : Option ℕ) → from ≡ head_or None vs → from ≡ None → None ≡ head_or None (of_key (key_at Column nodes) c vs)
none_ahead nodes c vs from e f = sym (ap (λ l. head_or None (of_key (key_at Column nodes) c l)) (no_head vs (sym e ∙ f)))

module _ (nodes : Slab CellNode) (all : Ends) (us vs : List ℕ) (t : IsThread (links_at all_links nodes) all (us ++ vs)) (from : Option ℕ) (p : ℕ) (e : from ≡ head_or None vs) (f : from ≡ Some p) where
  cut_ahead : (ws : List ℕ) × (IsThread (links_at all_links nodes) all (us ++ p ∷ ws))
  cut_ahead = by_list vs (sym e ∙ f) t
    where
      by_list : (xs : List ℕ) → head_or None xs ≡ Some p → IsThread (links_at all_links nodes) all (us ++ xs) → (ws : List ℕ) × (IsThread (links_at all_links nodes) all (us ++ p ∷ ws))
      by_list [] i s = absurd (cc)
      by_list (x ∷ xs) i s = let equal : x ≡ p = cc in (xs, subst (λ y. IsThread (links_at all_links nodes) all (us ++ y ∷ xs)) equal s)

  pub node_ahead : get nodes p ≡ None → ⊥
  node_ahead g = node_cut all_links nodes all us p cut_ahead.0 cut_ahead.1 g

  pub neighbour_behind : (n : CellNode) → get nodes p ≡ Some n → n.all.previous ≡ last_or None us
  neighbour_behind n g = ap (λ (l : Links). l.previous) (links_cut all_links nodes all us p cut_ahead.0 cut_ahead.1 n g)
