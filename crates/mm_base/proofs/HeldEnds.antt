-- The last pair of a key, and the pair before another, in the fields of linked pairs.
use Rattle.std.proofs.Common.{◌≡◌, ℕ, List, [], ◌∷◌, Option, Some, None, refl, sym, ap, ◌∙◌, subst}
use Rattle.std.specs.Prelude.{IsSome, nat_eq}
use Rattle.std.specs.Map.{lookup}
use Rattle.slab.specs.Slab.{Slab, get}
use Rattle.std.proofs.lemmas.Bool.Decides.{Decides-eqb}
use Rattle.elem.specs.declared.elements.Elem.{Elem}
use Rattle.elem.specs.Rows.{last_key, last_key_or, key_before}
use Rattle.elem.proofs.RowsLemmas.{key_before_at}
use Rattle.linked_base.specs.declared.links.Links.{Links}
use Rattle.linked_base.specs.declared.links.Ends.{Ends}
use Rattle.linked_base.specs.declared.group.Group.{Group}
use Rattle.linked_base.specs.Thread.{last_or, links_at}
use Rattle.linked_base.specs.Group.{group_or_none, of_key}
use Rattle.linked_base.specs.Places.{id_rows}
use Rattle.linked_base.proofs.ThreadLemmas.{thread_cut_at, links_read}
use Rattle.linked_base.proofs.PlacesLemmas.{There, some_of, there_left}
use Rattle.linked_base.proofs.IdLemmas.{ids-cons, rows_cut}
use Rattle.mm_base.specs.declared.pair_nodes.PairNode.{PairNode}
use Rattle.mm_base.specs.PairNodes.{all_links, key_at, core_at}
use Rattle.mm_base.specs.PairRows.{Row, pairs_of_key}
use Rattle.mm_base.proofs.PairsReads.{there, key_rows, key_there, id_cut, cut_pairs}
use Rattle.mm_base.proofs.HeldPairs.{HoldsPairs}

last_id : {C : Type 0} (core : ℕ → Option C) (o : Option ℕ) (ps : List ℕ) → There core ps → last_or o ps ≡ last_key_or o (id_rows core ps)
last_id core o [] t = refl
last_id core o (p ∷ ps) t = let c = some_of (core p) t.0 in last_id core (Some p) ps t.1 ∙ sym (ap (last_key_or o) (ids-cons core p ps c.0 c.1))

module _ {nodes : Slab PairNode} {all : Ends} (find : Elem → Option Group) {rows : List Row} (h : HoldsPairs nodes all find rows) where
  pub last_of_key : (k : Elem) → (group_or_none (find k)).ends.last ≡ last_key (pairs_of_key k rows)
  last_of_key k =
      (h.are_pairs.groups.group k).thread.last ∙ last_id (core_at nodes) None (of_key (key_at nodes) k h.at_places) (key_there nodes all find h.at_places h.are_pairs k)
      ∙ ap last_key (sym (key_rows nodes all find h.at_places h.are_pairs k)) ∙ ap (λ rs. last_key (pairs_of_key k rs)) h.rows_equal

  pub before_held : (q : ℕ) → IsSome (lookup (nat_eq q) rows) → (n : PairNode) → get nodes q ≡ Some n → n.all.previous ≡ key_before (nat_eq q) rows
  before_held q s n g =
      let live = subst (λ rs. IsSome (lookup (nat_eq q) rs)) (sym h.rows_equal) s in
      let d = id_cut nodes all find h.at_places h.are_pairs q live in
      let t = (cut_pairs nodes all find h.at_places h.are_pairs q live).thread in
      let front = there_left (core_at nodes) d.0 (q ∷ d.1) (subst (There (core_at nodes)) d.3.places (there nodes all find h.at_places h.are_pairs)) in
      ap (λ (l : Links). l.previous) (links_read all_links nodes q n n.all _ g refl (thread_cut_at (links_at all_links nodes) all d.0 q d.1 t).1)
      ∙ last_id (core_at nodes) None d.0 front
      ∙ sym (key_before_at (nat_eq q) None (id_rows (core_at nodes) d.0) (q, d.2) (id_rows (core_at nodes) d.1) d.3.before ((Decides-eqb q q).1 refl))
      ∙ ap (key_before (nat_eq q)) (sym (rows_cut (core_at nodes) h.at_places q d.0 d.1 d.2 d.3) ∙ h.rows_equal)
