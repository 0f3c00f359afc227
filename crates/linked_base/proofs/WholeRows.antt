-- The row of a place in the thread: its key and its value.
use Rattle.std.proofs.Common.{◌≡◌, ℕ, List, [], ◌∷◌, ◌++◌, Option, Some, None, refl, sym, ap, ◌∙◌, subst, append_assoc, arith}
use Rattle.std.specs.Prelude.{IfSome}
use Rattle.std.specs.Option.{option_map, option_and_then}
use Rattle.std.specs.List.{Contains, IsDistinct}
use Rattle.std.specs.Map.{lookup, keys_of}
use Rattle.std.specs.HashMap.{HashMap}
use Rattle.std.specs.HashMap as hash
use Rattle.std.proofs.lemmas.List.Elements.{Contains-append_right}
use Rattle.std.proofs.lemmas.Map.Views.{lookup-from_Contains}
use Rattle.slab.specs.Slab.{Slab, get}
use Rattle.elem.specs.declared.elements.Elem.{Elem}
use Rattle.elem.specs.Elements.{same}
use Rattle.elem.specs.ElementLaws.{same_equiv}
use Rattle.linked_base.specs.declared.links.Links.{Links}
use Rattle.linked_base.specs.declared.links.Ends.{Ends}
use Rattle.linked_base.specs.declared.row_nodes.Node.{Node}
use Rattle.linked_base.specs.Places.{rows_of}
use Rattle.linked_base.specs.LinkedMap.{key_of, row_at}
use Rattle.linked_base.proofs.HeldRows.{HoldsRows}
use Rattle.linked_base.proofs.LinkedMapLemmas.{row_found, links_found}
use Rattle.linked_base.proofs.PlacesLemmas.{rows_at}
use Rattle.linked_base.proofs.Walks.{split_head, split_last}

-- the place is one of these
abbrev pub StandsIn : List ℕ → ℕ → Type 0
StandsIn ps p = (us : List ℕ) × (vs : List ℕ) × (ps ≡ us ++ p ∷ vs)

module _ {V : Type 0} (nodes : Slab (Node V)) where
  pub key_of_row : (place : Option ℕ) → option_map (λ (row : Elem × V). row.0) (option_and_then (row_at nodes) place) ≡ key_of nodes place
  key_of_row None = refl
  key_of_row (Some p) = of_node (get nodes p)
    where
      of_node : (x : Option (Node V)) → option_map (λ (row : Elem × V). row.0) (option_map (λ (n : Node V). (n.key, n.value)) x) ≡ option_map (λ (n : Node V). n.key) x
      of_node None = refl
      of_node (Some n) = refl

module _ {V S : Type 0} {nodes : Slab (Node V)} {ends : Ends} {index : HashMap Elem ℕ S} {rows : List (Elem × V)} (h : HoldsRows nodes ends index rows) where
  row_there : (p : ℕ) (r : Elem × V) → StandsIn h.at_places p → row_at nodes p ≡ Some r → lookup (same r.0) rows ≡ Some r.1
  row_there p r s e =
      let cut : rows ≡ rows_of (row_at nodes) s.0 ++ r ∷ rows_of (row_at nodes) s.1 = sym h.rows_equal ∙ ap (rows_of (row_at nodes)) s.2 ∙ rows_at (row_at nodes) s.0 p s.1 r e in
      let distinct : IsDistinct same (keys_of rows) = subst (λ rs. IsDistinct same (keys_of rs)) h.rows_equal h.are_rows.indexed.distinct in
      lookup-from_Contains same_equiv r.0 r.1 rows distinct (subst (λ rs. Contains rs r) (sym cut) (Contains-append_right (rows_of (row_at nodes) s.0) (r ∷ rows_of (row_at nodes) s.1) r (0, omega arith, refl)))

  -- the value beside the key is the key's own
  pub value_of_row : (place : Option ℕ) (row : Option (Elem × V)) → row ≡ option_and_then (row_at nodes) place → ((p : ℕ) → place ≡ Some p → StandsIn h.at_places p) → IfSome row (λ r. lookup (same r.0) rows ≡ Some r.1)
  value_of_row place None e s = tt
  value_of_row None (Some r) e s = absurd (cc)
  value_of_row (Some p) (Some r) e s = row_there p r (s p refl) (sym e)

  -- the ends of the thread, and the neighbours of a key's place, stand in it
  pub first_in : (p : ℕ) → ends.first ≡ Some p → StandsIn h.at_places p
  first_in p e = let s = split_head h.at_places p (sym h.are_rows.thread.first ∙ e) in ([], s.0, s.1)

  pub last_in : (p : ℕ) → ends.last ≡ Some p → StandsIn h.at_places p
  last_in p e = let s = split_last h.at_places p (sym h.are_rows.thread.last ∙ e) in (s.0, [], s.1)

  module _ (k : Elem) (p : ℕ) (n : Node V) (e : hash.get same index k ≡ Some p) (g : get nodes p ≡ Some n) where
    pub next_in : (q : ℕ) → n.links.next ≡ Some q → StandsIn h.at_places q
    next_in q i =
        let f = row_found nodes ends index h.at_places h.are_rows k p e in
        let l = links_found nodes ends index h.at_places h.are_rows k p n e g f.0 f.1 f.2 f.3 in
        let s = split_head f.1 q (sym (ap (λ (x : Links). x.next) l) ∙ i) in
        (f.0 ++ p ∷ [], s.0, f.3.places ∙ ap (λ vs. f.0 ++ p ∷ vs) s.1 ∙ sym (append_assoc f.0 (p ∷ []) (q ∷ s.0)))

    pub previous_in : (q : ℕ) → n.links.previous ≡ Some q → StandsIn h.at_places q
    previous_in q i =
        let f = row_found nodes ends index h.at_places h.are_rows k p e in
        let l = links_found nodes ends index h.at_places h.are_rows k p n e g f.0 f.1 f.2 f.3 in
        let s = split_last f.0 q (sym (ap (λ (x : Links). x.previous) l) ∙ i) in
        (s.0, p ∷ f.1, f.3.places ∙ ap (λ us. us ++ p ∷ f.1) s.1 ∙ append_assoc s.0 (q ∷ []) (p ∷ f.1))
