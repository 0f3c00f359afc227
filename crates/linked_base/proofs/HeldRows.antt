-- What the fields of a linked map hold, and what each step makes of it.
use Rattle.std.proofs.Common.{◌≡◌, ◌⊎◌, inl, inr, ℕ, ◌+◌, Bool, true, false, cond, List, [], ◌∷◌, ◌++◌, Option, Some, None, refl, sym, ap, ◌∙◌, subst}
use Rattle.std.specs.Prelude.{IsSome}
use Rattle.std.specs.List.{IsDistinct}
use Rattle.std.specs.Map.{lookup, keys_of, remove_entry, set_value}
use Rattle.std.specs.HashMap.{HashMap, hash_map_len}
use Rattle.std.specs.HashMap as hash
use Rattle.std.proofs.lemmas.Map.{lookup-remove_entry}
use Rattle.slab.specs.Slab.{Slab, get, Updates}
use Rattle.elem.specs.declared.elements.Elem.{Elem}
use Rattle.elem.specs.Elements.{same}
use Rattle.elem.specs.ElementLaws.{same-Decides, same_equiv}
use Rattle.elem.specs.Rows.{key_after, key_before, set_row}
use Rattle.linked_base.specs.declared.links.Ends.{Ends}
use Rattle.linked_base.specs.declared.row_nodes.Node.{Node}
use Rattle.linked_base.specs.Thread.{head_or, Avoids, IsThread, links_at, KeepsRest, Rewrites}
use Rattle.linked_base.specs.Places.{rows_of}
use Rattle.linked_base.specs.LinkedMap.{links, key_of, row_at, places, rows_now, IsRowsOf}
use Rattle.linked_base.proofs.ThreadLemmas.{apart_without}
use Rattle.linked_base.proofs.LinkedMapLemmas.{kept_by_walk, rows_are, place_absent, place_there, row_absent, row_found, value_found, node_found, next_there, previous_there, after_found, before_found}
use Rattle.linked_base.proofs.KeyedLemmas.{IsCut}
use Rattle.linked_base.proofs.LinkedMapSteps.{Linked, Rowed, the_node, roomier, roomier_rows, unlinked_new, pushed, pushed_rows, thread_at_cut, dropped, dropped_rows, mid_absent, rekeyed, rekeyed_rows, replaced, replaced_rows}

-- the fields hold these rows, at some places
pub record HoldsRows {V S : Type 0} (nodes : Slab (Node V)) (ends : Ends) (index : HashMap Elem ℕ S) (rows : List (Elem × V)) : Type 0 where
  pub at_places : List ℕ
  pub are_rows : IsRowsOf nodes ends index at_places
  pub rows_equal : rows_of (row_at nodes) at_places ≡ rows

module _ {V S : Type 0} {nodes : Slab (Node V)} {ends : Ends} {index : HashMap Elem ℕ S} {rows : List (Elem × V)} where
  pub held : IsRowsOf nodes ends index (places nodes ends (hash_map_len index)) → rows_now nodes ends index ≡ rows → HoldsRows nodes ends index rows
  held h e = record { at_places = places nodes ends (hash_map_len index); are_rows = h; rows_equal = e }

  module _ (h : HoldsRows nodes ends index rows) where
    pub still_holds : IsRowsOf nodes ends index (places nodes ends (hash_map_len index))
    still_holds = kept_by_walk nodes ends index h.at_places h.are_rows

    pub shows : rows_now nodes ends index ≡ rows
    shows = rows_are nodes ends index h.at_places h.are_rows ∙ h.rows_equal

    -- the look-up of a key, by the index
    pub value_held : (k : Elem) (p : ℕ) (n : Node V) → hash.get same index k ≡ Some p → get nodes p ≡ Some n → lookup (same k) rows ≡ Some n.value
    value_held k p n e g = ap (lookup (same k)) (sym h.rows_equal) ∙ value_found nodes ends index h.at_places h.are_rows k p n e g

    pub absent_held : (k : Elem) → hash.get same index k ≡ None → lookup (same k) rows ≡ None
    absent_held k e = ap (lookup (same k)) (sym h.rows_equal) ∙ row_absent nodes ends index h.at_places h.are_rows k e

    pub place_held : (k : Elem) → IsSome (lookup (same k) rows) → IsSome (hash.get same index k)
    place_held k s = place_there nodes ends index h.at_places h.are_rows k (subst (λ rs. IsSome (lookup (same k) rs)) (sym h.rows_equal) s)

    pub node_held : (k : Elem) (p : ℕ) → hash.get same index k ≡ Some p → IsSome (get nodes p)
    node_held k p e = node_found nodes ends index h.at_places h.are_rows k p e

    pub distinct_held : IsDistinct same (keys_of rows)
    distinct_held = subst (λ rs. IsDistinct same (keys_of rs)) h.rows_equal h.are_rows.indexed.distinct

    -- the neighbours of a key's row
    module _ (k : Elem) (p : ℕ) (n : Node V) (e : hash.get same index k ≡ Some p) (g : get nodes p ≡ Some n) where
      pub next_held : (q : ℕ) → n.links.next ≡ Some q → IsSome (get nodes q)
      next_held = next_there nodes ends index h.at_places h.are_rows k p n e g

      pub previous_held : (q : ℕ) → n.links.previous ≡ Some q → IsSome (get nodes q)
      previous_held = previous_there nodes ends index h.at_places h.are_rows k p n e g

      pub key_after_held : key_of nodes n.links.next ≡ key_after (same k) rows
      key_after_held = after_found nodes ends index h.at_places h.are_rows k p n e g ∙ ap (key_after (same k)) h.rows_equal

      pub key_before_held : key_of nodes n.links.previous ≡ key_before (same k) rows
      key_before_held = before_found nodes ends index h.at_places h.are_rows k p n e g ∙ ap (key_before (same k)) h.rows_equal

-- room made, and nothing else done
module _ {V S : Type 0} (n₀ n₁ : Slab (Node V)) (e : Ends) (i₀ i₁ : HashMap Elem ℕ S) {rows : List (Elem × V)} where
  pub roomier_held : n₁ ≡ record n₀ { capacity = n₁.capacity } → ((x : Elem) → hash.get same i₁ x ≡ hash.get same i₀ x) → hash_map_len i₁ ≡ hash_map_len i₀ → HoldsRows n₀ e i₀ rows → HoldsRows n₁ e i₁ rows
  roomier_held resized finds len h = record {
    at_places = h.at_places;
    are_rows = roomier n₀ n₁ e i₀ i₁ h.at_places resized finds len h.are_rows;
    rows_equal = roomier_rows n₀ n₁ e i₀ i₁ h.at_places resized ∙ h.rows_equal;
  }

-- a row put last
module _ {V S : Type 0} (n₀ n₁ n₂ : Slab (Node V)) (e₀ e₂ : Ends) (i₀ i₁ : HashMap Elem ℕ S) {rows : List (Elem × V)} (k : Elem) (v : V) (q : ℕ) (h : HoldsRows n₀ e₀ i₀ rows) (vacant : get n₀ q ≡ None) (updates : Updates n₀ n₁ q (Some (the_node k v))) where
  pub pushed_held : ((us vs : List ℕ) → None ≡ head_or None vs → Avoids (Some q) (us ++ vs) → IsThread (links_at links n₁) e₀ (us ++ vs) → IsThread (links_at links n₂) e₂ (us ++ q ∷ vs))
      → ((p : ℕ) → KeepsRest Linked (get n₁ p) (get n₂ p)) → ((x : Elem) → hash.get same i₁ x ≡ cond (same k x) (Some q) (hash.get same i₀ x)) → (hash.get same i₀ k ≡ None → hash_map_len i₁ ≡ hash_map_len i₀ + 1)
      → lookup (same k) rows ≡ None → HoldsRows n₂ e₂ i₁ (rows ++ (k, v) ∷ [])
  pushed_held thread rest finds len absent =
      let ps = h.at_places in
      let nd = the_node k v in
      let a = ap (lookup (same k)) h.rows_equal ∙ absent in
      let longer = len (place_absent n₀ e₀ i₀ ps h.are_rows k a) in
      let fresh = unlinked_new n₀ n₁ n₂ e₀ e₂ i₀ i₁ ps q nd h.are_rows vacant updates in
      let t = thread ps [] refl fresh.1 fresh.0 in
      record {
        at_places = ps ++ q ∷ [];
        are_rows = pushed n₀ n₁ n₂ e₀ e₂ i₀ i₁ ps q nd h.are_rows vacant updates rest finds longer a t;
        rows_equal = pushed_rows n₀ n₁ n₂ e₀ e₂ i₀ i₁ ps q nd h.are_rows vacant updates rest finds longer a t ∙ ap (λ rs. rs ++ (k, v) ∷ []) h.rows_equal;
      }

-- a row taken out
module _ {V S : Type 0} (n₀ n₁ : Slab (Node V)) (e₀ e₁ : Ends) (i₀ i₁ : HashMap Elem ℕ S) {rows : List (Elem × V)} (k : Elem) (p : ℕ) (h : HoldsRows n₀ e₀ i₀ rows) (found : hash.get same i₀ k ≡ Some p) where
  at_cut : (us : List ℕ) × (vs : List ℕ) × (r : Elem × V) × IsCut (row_at n₀) (same k) h.at_places p us vs r
  at_cut = row_found n₀ e₀ i₀ h.at_places h.are_rows k p found

  cut_thread : IsThread (links_at links n₀) e₀ (at_cut.0 ++ p ∷ at_cut.1)
  cut_thread = thread_at_cut n₀ n₀ n₀ e₀ e₀ i₀ i₀ k p at_cut.0 at_cut.1 at_cut.2 h.at_places h.are_rows at_cut.3

  -- its node is the same when it is out of the thread
  pub own_node : ((us vs : List ℕ) (q : ℕ) → IsThread (links_at links n₀) e₀ (us ++ p ∷ vs) → Avoids (Some q) (us ++ vs) → get n₁ q ≡ get n₀ q) → get n₁ p ≡ get n₀ p
  own_node others = others at_cut.0 at_cut.1 p cut_thread (apart_without at_cut.0 p at_cut.1 cut_thread.apart).1

  pub dropped_held : (n₂ : Slab (Node V)) → ((us vs : List ℕ) → IsThread (links_at links n₀) e₀ (us ++ p ∷ vs) → IsThread (links_at links n₁) e₁ (us ++ vs)) → ((q : ℕ) → KeepsRest Linked (get n₀ q) (get n₁ q)) → Updates n₁ n₂ p None
      → ((x : Elem) → hash.get same i₁ x ≡ cond (same k x) None (hash.get same i₀ x)) → hash_map_len i₁ + 1 ≡ hash_map_len i₀ → HoldsRows n₂ e₁ i₁ (remove_entry (same k) rows)
  dropped_held n₂ thread rest updates finds len =
      let t = thread at_cut.0 at_cut.1 cut_thread in
      record {
        at_places = at_cut.0 ++ at_cut.1;
        are_rows = dropped n₀ n₁ n₂ e₀ e₁ i₀ i₁ k p at_cut.0 at_cut.1 at_cut.2 h.at_places h.are_rows at_cut.3 t rest updates finds len;
        rows_equal = dropped_rows n₀ n₁ n₂ e₀ e₁ i₀ i₁ k p at_cut.0 at_cut.1 at_cut.2 h.at_places h.are_rows at_cut.3 t rest updates finds len ∙ ap (remove_entry (same k)) h.rows_equal;
      }

-- a row written in its place
module _ {V S : Type 0} (n₀ n₁ : Slab (Node V)) (e : Ends) (i₀ : HashMap Elem ℕ S) {rows : List (Elem × V)} (k : Elem) (v : V) (p : ℕ) (h : HoldsRows n₀ e i₀ rows) (found : hash.get same i₀ k ≡ Some p) where
  its_cut : (us : List ℕ) × (vs : List ℕ) × (r : Elem × V) × IsCut (row_at n₀) (same k) h.at_places p us vs r
  its_cut = row_found n₀ e i₀ h.at_places h.are_rows k p found

  pub replaced_held : Rewrites (Rowed k v) (Some p) n₀ n₁ → HoldsRows n₁ e i₀ (set_value (same k) rows v)
  replaced_held w = record {
    at_places = h.at_places;
    are_rows = replaced n₀ n₁ e i₀ k v p its_cut.0 its_cut.1 its_cut.2 h.at_places h.are_rows its_cut.3 found w;
    rows_equal = replaced_rows n₀ n₁ e i₀ k v p its_cut.0 its_cut.1 its_cut.2 h.at_places h.are_rows its_cut.3 found w ∙ ap (λ rs. set_value (same k) rs v) h.rows_equal;
  }

  -- a key that is absent, or is the row's own, is absent from the other rows
  free_key : (new : Elem) → (lookup (same new) rows ≡ None) ⊎ (new ≡ k) → lookup (same new) (remove_entry (same k) rows) ≡ None
  free_key new c = lookup-remove_entry same_equiv (same k) (λ x y e. ap (λ z. same z y) ((same-Decides k x).0 e)) new rows (distinct_held h) ∙ by_case c
    where
      always : (b : Bool) → (o : Option V) → o ≡ None → cond b None o ≡ None
      always true o e = refl
      always false o e = e

      by_case : (lookup (same new) rows ≡ None) ⊎ (new ≡ k) → cond (same k new) None (lookup (same new) rows) ≡ None
      by_case (inl e) = always (same k new) (lookup (same new) rows) e
      by_case (inr e) = ap (λ b. cond b None (lookup (same new) rows)) ((same-Decides k new).1 (sym e))

  -- maybe under another key
  pub rekeyed_held : (new : Elem) (i₁ i₂ : HashMap Elem ℕ S) → Rewrites (Rowed new v) (Some p) n₀ n₁ → (lookup (same new) rows ≡ None) ⊎ (new ≡ k) → ((x : Elem) → hash.get same i₁ x ≡ cond (same k x) None (hash.get same i₀ x)) → hash_map_len i₁ + 1 ≡ hash_map_len i₀
      → ((x : Elem) → hash.get same i₂ x ≡ cond (same new x) (Some p) (hash.get same i₁ x)) → (hash.get same i₁ new ≡ None → hash_map_len i₂ ≡ hash_map_len i₁ + 1) → HoldsRows n₁ e i₂ (set_row (same k) rows (new, v))
  rekeyed_held new i₁ i₂ w c taken fewer written more =
      let absent = ap (λ rs. lookup (same new) (remove_entry (same k) rs)) h.rows_equal ∙ free_key new c in
      let mid = mid_absent n₀ n₁ e i₀ i₂ k new v p its_cut.0 its_cut.1 its_cut.2 h.at_places h.are_rows its_cut.3 w (hash.get same i₁) (hash_map_len i₁) taken fewer absent in
      record {
        at_places = h.at_places;
        are_rows = rekeyed n₀ n₁ e i₀ i₂ k new v p its_cut.0 its_cut.1 its_cut.2 h.at_places h.are_rows its_cut.3 w (hash.get same i₁) (hash_map_len i₁) taken fewer absent written (more mid);
        rows_equal = rekeyed_rows n₀ n₁ e i₀ i₂ k new v p its_cut.0 its_cut.1 its_cut.2 h.at_places h.are_rows its_cut.3 w ∙ ap (λ rs. set_row (same k) rs (new, v)) h.rows_equal;
      }
