-- What the fields of a linked map say of its rows.
use Rattle.std.proofs.Common.{◌≡◌, ℕ, List, [], ◌∷◌, Option, Some, None, refl, sym, ap, ◌∙◌, subst, arith}
use Rattle.std.specs.Prelude.{IsSome}
use Rattle.std.specs.Option.{option_map}
use Rattle.std.specs.List.{cons_option}
use Rattle.std.specs.Map.{lookup}
use Rattle.std.specs.HashMap.{HashMap, hash_map_len}
use Rattle.std.specs.HashMap as hash
use Rattle.slab.specs.Slab.{Slab, get}
use Rattle.elem.specs.declared.elements.Elem.{Elem}
use Rattle.elem.specs.Elements.{same}
use Rattle.elem.specs.Rows.{first_key, last_key_or, key_after, key_before}
use Rattle.elem.proofs.RowsLemmas.{lookup_at, key_after_at, key_before_at}
use Rattle.linked_base.specs.declared.links.Links.{Links}
use Rattle.linked_base.specs.declared.links.Ends.{Ends}
use Rattle.linked_base.specs.declared.row_nodes.Node.{Node}
use Rattle.linked_base.specs.Thread.{head_or, last_or, IsRun, IsThread, links_at, KeepsRest}
use Rattle.linked_base.specs.Places.{rows_of}
use Rattle.linked_base.specs.LinkedMap.{links, row, key_of, row_at, places, rows_now, IsRowsOf}
use Rattle.linked_base.proofs.ThreadLemmas.{thread_walked, thread_cut_at, links_read}
use Rattle.linked_base.proofs.PlacesLemmas.{some_of, There, there_left, there_right}
use Rattle.linked_base.proofs.KeyedLemmas.{absent_row, absent_place, IsCut, cut_found, cut_rows}

-- the fields of a linked map
module _ {V : Type 0} where
  found_row : (x : Option (Node V)) (l : Links) → option_map links x ≡ Some l → IsSome (option_map row x)
  found_row None l e = absurd (cc)
  found_row (Some n) l e = refl

  run_there : (nodes : Slab (Node V)) (b : Option ℕ) (ps : List ℕ) (z : Option ℕ) → IsRun (links_at links nodes) b ps z → There (row_at nodes) ps
  run_there nodes b [] z h = tt
  run_there nodes b (p ∷ ps) z h = (found_row (get nodes p) _ h.0, run_there nodes (Some p) ps z h.1)

  pub thread_there : (nodes : Slab (Node V)) (ends : Ends) (ps : List ℕ) → IsThread (links_at links nodes) ends ps → There (row_at nodes) ps
  thread_there nodes ends ps t = run_there nodes None ps None t.links

  -- the row of a node that is the same but for its links
  pub row_kept : (x y : Option (Node V)) → KeepsRest (λ n l. record n { links = l }) x y → option_map row y ≡ option_map row x
  row_kept None y k = ap (option_map row) k
  row_kept (Some n) y k = ap (option_map row) k.1

module _ {V S : Type 0} (nodes : Slab (Node V)) (ends : Ends) (index : HashMap Elem ℕ S) (ps : List ℕ) (h : IsRowsOf nodes ends index ps) where
  pub places_are : places nodes ends (hash_map_len index) ≡ ps
  places_are = let c = h.indexed.count in thread_walked (links_at links nodes) ends ps (hash_map_len index) (omega arith) h.thread

  pub rows_are : rows_now nodes ends index ≡ rows_of (row_at nodes) ps
  rows_are = ap (rows_of (row_at nodes)) places_are

  pub kept_by_walk : IsRowsOf nodes ends index (places nodes ends (hash_map_len index))
  kept_by_walk = subst (IsRowsOf nodes ends index) (sym places_are) h

  pub all_there : There (row_at nodes) ps
  all_there = thread_there nodes ends ps h.thread

  pub row_absent : (k : Elem) → hash.get same index k ≡ None → lookup (same k) (rows_of (row_at nodes) ps) ≡ None
  row_absent k e = absent_row (row_at nodes) (same k) ps all_there (sym (h.indexed.exact k) ∙ e)

  pub place_absent : (k : Elem) → lookup (same k) (rows_of (row_at nodes) ps) ≡ None → hash.get same index k ≡ None
  place_absent k e = h.indexed.exact k ∙ absent_place (row_at nodes) (same k) ps all_there e

  -- a key that has a row has a place
  pub place_there : (k : Elem) → IsSome (lookup (same k) (rows_of (row_at nodes) ps)) → IsSome (hash.get same index k)
  place_there k s = found (hash.get same index k) refl
    where
      found : (x : Option ℕ) → hash.get same index k ≡ x → IsSome x
      found None e = let there = some_of (lookup (same k) (rows_of (row_at nodes) ps)) s in let both = sym there.1 ∙ row_absent k e in absurd (cc)
      found (Some p) e = refl

  pub row_found : (k : Elem) (p : ℕ) → hash.get same index k ≡ Some p → (us : List ℕ) × (vs : List ℕ) × (r : Elem × V) × IsCut (row_at nodes) (same k) ps p us vs r
  row_found k p e = cut_found (row_at nodes) (same k) ps p all_there (sym (h.indexed.exact k) ∙ e)

  -- the value of a key that the index has
  pub value_found : (k : Elem) (p : ℕ) (n : Node V) → hash.get same index k ≡ Some p → get nodes p ≡ Some n → lookup (same k) (rows_of (row_at nodes) ps) ≡ Some n.value
  value_found k p n e g =
      let c = row_found k p e in
      let cut = c.3 in
      let equal : Some c.2 ≡ Some (n.key, n.value) = sym cut.here ∙ ap (option_map row) g in
      ap (lookup (same k)) (cut_rows (row_at nodes) (same k) ps p c.0 c.1 c.2 cut) ∙ lookup_at (same k) (rows_of (row_at nodes) c.0) c.2 (rows_of (row_at nodes) c.1) cut.before cut.passes
      ∙ value_of c.2 n equal
    where
      value_of : (r : Elem × V) (n : Node V) → Some r ≡ Some (n.key, n.value) → Some r.1 ≡ Some n.value
      value_of r n e = cc

  has_node : (x : Option (Node V)) (r : Elem × V) → option_map row x ≡ Some r → IsSome x
  has_node None r e = absurd (cc)
  has_node (Some n) r e = refl

  -- a place that the index names has a node
  pub node_found : (k : Elem) (p : ℕ) → hash.get same index k ≡ Some p → IsSome (get nodes p)
  node_found k p e = let c = row_found k p e in has_node (get nodes p) c.2 c.3.here

-- keys of neighbours
module _ {V : Type 0} (nodes : Slab (Node V)) where
  has_node_at : (x : Option (Node V)) → IsSome (option_map row x) → IsSome x
  has_node_at None h = absurd (cc)
  has_node_at (Some n) h = refl

  key_row : (x : Option (Node V)) (rs : List (Elem × V)) → IsSome (option_map row x) → option_map (λ (n : Node V). n.key) x ≡ first_key (cons_option (option_map row x) rs)
  key_row None rs h = absurd (cc)
  key_row (Some n) rs h = refl

  last_row : (x : Option (Node V)) (start : Option Elem) (rs : List (Elem × V)) → IsSome (option_map row x) → last_key_or (option_map (λ (n : Node V). n.key) x) rs ≡ last_key_or start (cons_option (option_map row x) rs)
  last_row None start rs h = absurd (cc)
  last_row (Some n) start rs h = refl

  pub first_key_of : (ps : List ℕ) → There (row_at nodes) ps → key_of nodes (head_or None ps) ≡ first_key (rows_of (row_at nodes) ps)
  first_key_of [] h = refl
  first_key_of (p ∷ ps) h = key_row (get nodes p) (rows_of (row_at nodes) ps) h.0

  pub last_key_of : (o : Option ℕ) (ps : List ℕ) → There (row_at nodes) ps → key_of nodes (last_or o ps) ≡ last_key_or (key_of nodes o) (rows_of (row_at nodes) ps)
  last_key_of o [] h = refl
  last_key_of o (p ∷ ps) h = last_key_of (Some p) ps h.1 ∙ last_row (get nodes p) (key_of nodes o) (rows_of (row_at nodes) ps) h.0

  -- the ends of a list of places with rows have nodes
  pub head_there : (ps : List ℕ) (p : ℕ) → There (row_at nodes) ps → head_or None ps ≡ Some p → IsSome (get nodes p)
  head_there [] p h e = absurd (cc)
  head_there (q ∷ ps) p h e = let equal : q ≡ p = cc in subst (λ x. IsSome (get nodes x)) equal (has_node_at (get nodes q) h.0)

  pub last_there : (o : Option ℕ) (ps : List ℕ) (p : ℕ) → (o ≡ Some p → IsSome (get nodes p)) → There (row_at nodes) ps → last_or o ps ≡ Some p → IsSome (get nodes p)
  last_there o [] p g h e = g e
  last_there o (q ∷ ps) p g h e = last_there (Some q) ps p (λ f. let equal : q ≡ p = cc in subst (λ x. IsSome (get nodes x)) equal (has_node_at (get nodes q) h.0)) h.1 e

module _ {V S : Type 0} (nodes : Slab (Node V)) (ends : Ends) (index : HashMap Elem ℕ S) (ps : List ℕ) (h : IsRowsOf nodes ends index ps) (k : Elem) (p : ℕ) (n : Node V) (e : hash.get same index k ≡ Some p) (g : get nodes p ≡ Some n) where
  -- the links of a key's node are its neighbours
  pub links_found : (us vs : List ℕ) (r : Elem × V) → IsCut (row_at nodes) (same k) ps p us vs r → n.links ≡ record { previous = last_or None us; next = head_or None vs }
  links_found us vs r c = links_read links nodes p n n.links _ g refl (thread_cut_at (links_at links nodes) ends us p vs (subst (IsThread (links_at links nodes) ends) c.places h.thread)).1

  pub after_found : key_of nodes n.links.next ≡ key_after (same k) (rows_of (row_at nodes) ps)
  after_found =
      let f = row_found nodes ends index ps h k p e in
      let c = f.3 in
      let there = there_right (row_at nodes) f.0 (p ∷ f.1) (subst (There (row_at nodes)) c.places (all_there nodes ends index ps h)) in
      ap (λ (l : Links). key_of nodes l.next) (links_found f.0 f.1 f.2 c) ∙ first_key_of nodes f.1 there.1
      ∙ sym (ap (key_after (same k)) (cut_rows (row_at nodes) (same k) ps p f.0 f.1 f.2 c) ∙ key_after_at (same k) (rows_of (row_at nodes) f.0) f.2 (rows_of (row_at nodes) f.1) c.before c.passes)

  pub next_there : (q : ℕ) → n.links.next ≡ Some q → IsSome (get nodes q)
  next_there q i =
      let f = row_found nodes ends index ps h k p e in
      let c = f.3 in
      let there = there_right (row_at nodes) f.0 (p ∷ f.1) (subst (There (row_at nodes)) c.places (all_there nodes ends index ps h)) in
      head_there nodes f.1 q there.1 (sym (ap (λ (l : Links). l.next) (links_found f.0 f.1 f.2 c)) ∙ i)

  pub before_found : key_of nodes n.links.previous ≡ key_before (same k) (rows_of (row_at nodes) ps)
  before_found =
      let f = row_found nodes ends index ps h k p e in
      let c = f.3 in
      let there = there_left (row_at nodes) f.0 (p ∷ f.1) (subst (There (row_at nodes)) c.places (all_there nodes ends index ps h)) in
      ap (λ (l : Links). key_of nodes l.previous) (links_found f.0 f.1 f.2 c) ∙ last_key_of nodes None f.0 there
      ∙ sym (ap (key_before (same k)) (cut_rows (row_at nodes) (same k) ps p f.0 f.1 f.2 c) ∙ key_before_at (same k) None (rows_of (row_at nodes) f.0) f.2 (rows_of (row_at nodes) f.1) c.before c.passes)

  pub previous_there : (q : ℕ) → n.links.previous ≡ Some q → IsSome (get nodes q)
  previous_there q i =
      let f = row_found nodes ends index ps h k p e in
      let c = f.3 in
      let there = there_left (row_at nodes) f.0 (p ∷ f.1) (subst (There (row_at nodes)) c.places (all_there nodes ends index ps h)) in
      last_there nodes None f.0 q (λ f. cc) there (sym (ap (λ (l : Links). l.previous) (links_found f.0 f.1 f.2 c)) ∙ i)
