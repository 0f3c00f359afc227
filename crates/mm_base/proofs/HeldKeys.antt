-- The order of the keys, by the first pair of each, in the fields of linked pairs.
use Rattle.std.proofs.Common.{◌≡◌, ℕ, Bool, true, false, cond, List, [], ◌∷◌, ◌++◌, Option, Some, None, refl, sym, ap, ◌∙◌, subst, slice_get, append_assoc}
use Rattle.std.specs.Option.{option_map}
use Rattle.std.specs.List.{filter}
use Rattle.slab.specs.Slab.{Slab, get}
use Rattle.elem.specs.declared.elements.Elem.{Elem}
use Rattle.elem.specs.Elements.{same}
use Rattle.elem.specs.ElementLaws.{same-Decides}
use Rattle.elem.specs.Rows.{first_key, last_key, key_after, key_before}
use Rattle.linked_base.specs.declared.links.Links.{Links}
use Rattle.linked_base.specs.declared.links.Ends.{Ends}
use Rattle.linked_base.specs.declared.group.Group.{Group}
use Rattle.linked_base.specs.Thread.{head_or, last_or, links_at}
use Rattle.linked_base.specs.Group.{has, of_key}
use Rattle.linked_base.specs.Places.{id_rows}
use Rattle.linked_base.proofs.ThreadLemmas.{thread_cut_at, links_read}
use Rattle.linked_base.proofs.PlacesLemmas.{There, some_of, there_right}
use Rattle.linked_base.proofs.IdLemmas.{there_filter}
use Rattle.mm_base.specs.declared.pair_nodes.PairNode.{PairNode}
use Rattle.mm_base.specs.PairNodes.{all_links, key_at, core_at, key_of, is_head, ArePairs}
use Rattle.mm_base.specs.PairRows.{Row, id_of, first_pairs}
use Rattle.linked_base.proofs.Walks.{WalkedOn, on_split, on_cut, WalkedBack, back_split, back_cut}
use Rattle.mm_base.proofs.PairsReads.{there, own_key}
use Rattle.mm_base.proofs.KeyOrder.{pairs_in, heads_are, first_of, last_of, key_after_first, key_before_first}
use Rattle.mm_base.proofs.HeldPairs.{HoldsPairs, nth_held}

-- a place at a cut of the thread
module _ (nodes : Slab PairNode) (all : Ends) (find : Elem → Option Group) (us : List ℕ) (p : ℕ) (vs : List ℕ) (h : ArePairs nodes all find (us ++ p ∷ vs)) where
  read : links_at all_links nodes p ≡ Some (record { previous = last_or None us; next = head_or None vs })
  read = (thread_cut_at (links_at all_links nodes) all us p vs h.thread).1

  pub links_cut : (n : PairNode) → get nodes p ≡ Some n → n.all ≡ record { previous = last_or None us; next = head_or None vs }
  links_cut n g = links_read all_links nodes p n n.all _ g refl read

  pub node_cut : get nodes p ≡ None → ⊥
  node_cut g = let both = sym read ∙ ap (option_map all_links) g in cc

-- a walk through the thread
module _ (nodes : Slab PairNode) (all : Ends) (find : Elem → Option Group) (us vs : List ℕ) (h : ArePairs nodes all find (us ++ vs)) (test : ℕ → Bool) (at : Option ℕ) (n p : ℕ) (e : at ≡ Some p) where
  module _ (w : WalkedOn test vs at n) where
    forth : ArePairs nodes all find ((us ++ w.passed) ++ p ∷ (on_split test vs at n w p e).0)
    forth = subst (ArePairs nodes all find) (ap (λ l. us ++ l) (on_cut test vs at n w p e) ∙ sym (append_assoc us w.passed (p ∷ (on_split test vs at n w p e).0))) h

    pub next_on : (m : PairNode) → get nodes p ≡ Some m → m.all.next ≡ head_or None (on_split test vs at n w p e).0
    next_on m g = ap (λ (l : Links). l.next) (links_cut nodes all find (us ++ w.passed) p (on_split test vs at n w p e).0 forth m g)

    pub there_on : get nodes p ≡ None → ⊥
    there_on g = node_cut nodes all find (us ++ w.passed) p (on_split test vs at n w p e).0 forth g

  module _ (w : WalkedBack test us at n) where
    back : ArePairs nodes all find ((back_split test us at n w p e).0 ++ p ∷ (w.passed ++ vs))
    back = subst (ArePairs nodes all find) (ap (λ l. l ++ vs) (back_cut test us at n w p e) ∙ append_assoc (back_split test us at n w p e).0 (p ∷ w.passed) vs) h

    pub previous_back : (m : PairNode) → get nodes p ≡ Some m → m.all.previous ≡ last_or None (back_split test us at n w p e).0
    previous_back m g = ap (λ (l : Links). l.previous) (links_cut nodes all find (back_split test us at n w p e).0 p (w.passed ++ vs) back m g)

    pub there_back : get nodes p ≡ None → ⊥
    there_back g = node_cut nodes all find (back_split test us at n w p e).0 p (w.passed ++ vs) back g

-- the first place that has a key
first_cut : (keys : ℕ → Option Elem) (k : Elem) (ps : List ℕ) (q : ℕ) → slice_get (of_key keys k ps) 0 ≡ Some q → (us : List ℕ) × (vs : List ℕ) × (ps ≡ us ++ q ∷ vs) × (of_key keys k us ≡ []) × (has k (keys q) ≡ true)
first_cut keys k [] q e = absurd (cc)
first_cut keys k (p ∷ ps) q e = by_case (has k (keys p)) refl (first_cut keys k ps q) e
  where
    by_case : (b : Bool) → has k (keys p) ≡ b → (slice_get (of_key keys k ps) 0 ≡ Some q → (us : List ℕ) × (vs : List ℕ) × (ps ≡ us ++ q ∷ vs) × (of_key keys k us ≡ []) × (has k (keys q) ≡ true))
        → slice_get (cond b (p ∷ of_key keys k ps) (of_key keys k ps)) 0 ≡ Some q → (us : List ℕ) × (vs : List ℕ) × (p ∷ ps ≡ us ++ q ∷ vs) × (of_key keys k us ≡ []) × (has k (keys q) ≡ true)
    by_case true t rest f =
        let equal : p ≡ q = cc in
        ([], ps, ap (λ x. x ∷ ps) equal, refl, ap (λ x. has k (keys x)) (sym equal) ∙ t)
    by_case false t rest f =
        let r = rest f in
        (p ∷ r.0, r.1, ap (λ l. p ∷ l) r.2, ap (λ b. cond b (p ∷ of_key keys k r.0) (of_key keys k r.0)) t ∙ r.3, r.4)

key_is : (k : Elem) (o : Option Elem) (x : Elem) → o ≡ Some x → has k o ≡ true → x ≡ k
key_is k o x e t = sym ((same-Decides k x).0 (sym (ap (has k) e) ∙ t))

module _ {nodes : Slab PairNode} {all : Ends} (find : Elem → Option Group) {rows : List Row} (h : HoldsPairs nodes all find rows) where
  all_there : There (core_at nodes) h.at_places
  all_there = there nodes all find h.at_places h.are_pairs

  firsts_held : pairs_in (id_rows (core_at nodes) (filter (is_head nodes) h.at_places)) ≡ first_pairs rows
  firsts_held = heads_are nodes all find h.at_places h.are_pairs ∙ ap first_pairs h.rows_equal

  pub first_key_held : key_of nodes (head_or None (filter (is_head nodes) h.at_places)) ≡ first_key (first_pairs rows)
  first_key_held = first_of nodes (filter (is_head nodes) h.at_places) (there_filter (core_at nodes) (is_head nodes) h.at_places all_there) ∙ ap first_key firsts_held

  pub last_key_held : key_of nodes (last_or None (filter (is_head nodes) h.at_places)) ≡ last_key (first_pairs rows)
  last_key_held = last_of nodes (filter (is_head nodes) h.at_places) (there_filter (core_at nodes) (is_head nodes) h.at_places all_there) ∙ ap last_key firsts_held

  -- the first pair of a key, and its neighbours
  module _ (k : Elem) (q : ℕ) (e : id_of k 0 rows ≡ Some q) where
    pub record IsFirst (us vs : List ℕ) : Type 0 where
      pub pairs : ArePairs nodes all find (us ++ q ∷ vs)
      pub after : key_of nodes (head_or None (filter (is_head nodes) vs)) ≡ key_after (same k) (first_pairs rows)
      pub before : key_of nodes (last_or None (filter (is_head nodes) us)) ≡ key_before (same k) (first_pairs rows)

    pub first_place : (us : List ℕ) × (vs : List ℕ) × IsFirst us vs
    first_place =
        let d = first_cut (key_at nodes) k h.at_places q (nth_held find h k 0 ∙ e) in
        let us = d.0 in
        let vs = d.1 in
        let cut = subst (ArePairs nodes all find) d.2 h.are_pairs in
        let c = some_of (core_at nodes q) (there_right (core_at nodes) us (q ∷ vs) (subst (There (core_at nodes)) d.2 all_there)).0 in
        let own : c.0.0 ≡ k = key_is k (key_at nodes q) c.0.0 (own_key (get nodes q) c.0 c.1) d.4 in
        let first : of_key (key_at nodes) c.0.0 us ≡ [] = ap (λ x. of_key (key_at nodes) x us) own ∙ d.3 in
        let same_rows : id_rows (core_at nodes) (us ++ q ∷ vs) ≡ rows = ap (id_rows (core_at nodes)) (sym d.2) ∙ h.rows_equal in (
          us,
          vs,
          record {
            pairs = cut;
            after = key_after_first nodes all find us q vs cut c.0 c.1 first ∙ (λ i. key_after (same (own i)) (first_pairs (same_rows i)));
            before = key_before_first nodes all find us q vs cut c.0 c.1 first ∙ (λ i. key_before (same (own i)) (first_pairs (same_rows i)));
          },
        )
