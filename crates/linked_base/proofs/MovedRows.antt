-- A row put last: its node goes out of the thread and comes in again at the end.
use Rattle.std.proofs.Common.{◌≡◌, ℕ, ◌+◌, ◌-◌, Bool, true, false, cond, List, [], ◌∷◌, ◌++◌, length, Option, Some, None, refl, sym, ap, ◌∙◌, subst, arith, length-append, append-nil}
use Rattle.std.specs.List.{IsDistinct}
use Rattle.std.specs.Map.{lookup, remove_entry, keys_of}
use Rattle.std.specs.HashMap.{HashMap, hash_map_len}
use Rattle.std.specs.HashMap as hash
use Rattle.std.proofs.lemmas.Map.{NonePasses, lookup-none}
use Rattle.slab.specs.Slab.{Slab, get}
use Rattle.elem.specs.declared.elements.Elem.{Elem}
use Rattle.elem.specs.Elements.{same}
use Rattle.elem.specs.ElementLaws.{same-Decides}
use Rattle.elem.proofs.RowsLemmas.{lookup_at, remove_at}
use Rattle.linked_base.specs.declared.links.Ends.{Ends}
use Rattle.linked_base.specs.declared.row_nodes.Node.{Node}
use Rattle.linked_base.specs.Thread.{head_or, Avoids, IsThread, links_at, KeepsRest}
use Rattle.linked_base.specs.Places.{rows_of, IsIndexed}
use Rattle.linked_base.specs.LinkedMap.{links, row_at}
use Rattle.linked_base.proofs.ThreadLemmas.{apart_without}
use Rattle.linked_base.proofs.PlacesLemmas.{There, there_both, rows-append, rows_at, rows_kept}
use Rattle.linked_base.proofs.LinkedMapLemmas.{all_there, row_kept, row_found}
use Rattle.linked_base.proofs.KeyedLemmas.{indexed_with, indexed_without, IsCut, cut_rows, distinct_without}
use Rattle.linked_base.proofs.LinkedMapSteps.{Linked}
use Rattle.linked_base.proofs.HeldRows.{HoldsRows}

module _ {V S : Type 0} (n₀ n₁ n₂ : Slab (Node V)) (e₀ e₁ e₂ : Ends) (i : HashMap Elem ℕ S) {rows : List (Elem × V)} (k : Elem) (p : ℕ) (h : HoldsRows n₀ e₀ i rows) (found : hash.get same i k ≡ Some p) where
  at_cut : (us : List ℕ) × (vs : List ℕ) × (r : Elem × V) × IsCut (row_at n₀) (same k) h.at_places p us vs r
  at_cut = row_found n₀ e₀ i h.at_places h.are_rows k p found

  abbrev others : List ℕ
  others = at_cut.0 ++ at_cut.1

  cut_thread : IsThread (links_at links n₀) e₀ (at_cut.0 ++ p ∷ at_cut.1)
  cut_thread = subst (IsThread (links_at links n₀) e₀) at_cut.3.places h.are_rows.thread

  beside : Avoids (Some p) others
  beside = (apart_without at_cut.0 p at_cut.1 cut_thread.apart).1

  all_else : There (row_at n₀) others
  all_else = there_both (row_at n₀) at_cut.0 p at_cut.1 (subst (There (row_at n₀)) at_cut.3.places (all_there n₀ e₀ i h.at_places h.are_rows))

  own_key : k ≡ at_cut.2.0
  own_key = (same-Decides k at_cut.2.0).0 at_cut.3.passes

  -- what the index finds when the row is out
  abbrev mid : Elem → Option ℕ
  mid x = cond (same k x) None (hash.get same i x)

  back : (x : Elem) (b : Bool) → same k x ≡ b → hash.get same i x ≡ cond b (Some p) (cond b None (hash.get same i x))
  back x true t = ap (hash.get same i) (sym ((same-Decides k x).0 t)) ∙ found
  back x false t = refl

  one_less : (hash_map_len i - 1) + 1 ≡ hash_map_len i
  one_less = let total = h.are_rows.indexed.count ∙ ap length at_cut.3.places ∙ length-append at_cut.0 (p ∷ at_cut.1) in omega arith

  taken_out : IsIndexed (row_at n₀) mid (hash_map_len i - 1) others
  taken_out =
      indexed_without (row_at n₀) (row_at n₀) (hash.get same i) mid (hash_map_len i) (hash_map_len i - 1) at_cut.0 p at_cut.1 (λ q d. refl) beside at_cut.2 k
      (subst (There (row_at n₀)) at_cut.3.places (all_there n₀ e₀ i h.at_places h.are_rows)) at_cut.3.here at_cut.3.passes (λ x. refl) one_less
      (subst (IsIndexed (row_at n₀) (hash.get same i) (hash_map_len i)) at_cut.3.places h.are_rows.indexed)

  whole : rows ≡ rows_of (row_at n₀) at_cut.0 ++ at_cut.2 ∷ rows_of (row_at n₀) at_cut.1
  whole = sym h.rows_equal ∙ cut_rows (row_at n₀) (same k) h.at_places p at_cut.0 at_cut.1 at_cut.2 at_cut.3

  else_rows : rows_of (row_at n₀) others ≡ remove_entry (same k) rows
  else_rows =
      rows-append (row_at n₀) at_cut.0 at_cut.1
      ∙ sym (ap (remove_entry (same k)) whole ∙ remove_at (same k) (rows_of (row_at n₀) at_cut.0) at_cut.2 (rows_of (row_at n₀) at_cut.1) at_cut.3.before at_cut.3.passes)

  no_other : lookup (same k) (rows_of (row_at n₀) others) ≡ None
  no_other =
      let d = distinct_without (rows_of (row_at n₀) at_cut.0) at_cut.2 (rows_of (row_at n₀) at_cut.1) (subst (λ l. IsDistinct same (keys_of l)) (cut_rows (row_at n₀) (same k) h.at_places p at_cut.0 at_cut.1 at_cut.2 at_cut.3) h.are_rows.indexed.distinct) in
      let none = subst (λ x. NonePasses (same x) (rows_of (row_at n₀) at_cut.0 ++ rows_of (row_at n₀) at_cut.1)) (sym own_key) d.1 in
      ap (lookup (same k)) (rows-append (row_at n₀) at_cut.0 at_cut.1) ∙ lookup-none (same k) (rows_of (row_at n₀) at_cut.0 ++ rows_of (row_at n₀) at_cut.1) none

  -- out of the thread
  module _ (out : (us vs : List ℕ) → IsThread (links_at links n₀) e₀ (us ++ p ∷ vs) → IsThread (links_at links n₁) e₁ (us ++ vs)) (rest₁ : (q : ℕ) → KeepsRest Linked (get n₀ q) (get n₁ q)) where
    out_thread : IsThread (links_at links n₁) e₁ (others ++ [])
    out_thread = subst (IsThread (links_at links n₁) e₁) (sym (append-nil others)) (out at_cut.0 at_cut.1 cut_thread)

    -- and in again
    module _ (into : (us vs : List ℕ) → None ≡ head_or None vs → Avoids (Some p) (us ++ vs) → IsThread (links_at links n₁) e₁ (us ++ vs) → IsThread (links_at links n₂) e₂ (us ++ p ∷ vs)) (rest₂ : (q : ℕ) → KeepsRest Linked (get n₁ q) (get n₂ q)) where
      rows_same : (q : ℕ) → row_at n₂ q ≡ row_at n₀ q
      rows_same q = row_kept (get n₁ q) (get n₂ q) (rest₂ q) ∙ row_kept (get n₀ q) (get n₁ q) (rest₁ q)

      moved_value : (v : V) → lookup (same k) rows ≡ Some v → at_cut.2 ≡ (k, v)
      moved_value v e =
          let both = sym (lookup_at (same k) (rows_of (row_at n₀) at_cut.0) at_cut.2 (rows_of (row_at n₀) at_cut.1) at_cut.3.before at_cut.3.passes) ∙ sym (ap (lookup (same k)) whole) ∙ e in
          pair_of at_cut.2 v (sym own_key) (some_same at_cut.2.1 v both)
        where
          some_same : (a b : V) → Some a ≡ Some b → a ≡ b
          some_same a b f = cc

          pair_of : (r : Elem × V) (v : V) → r.0 ≡ k → r.1 ≡ v → r ≡ (k, v)
          pair_of r v a b = λ j. (a j, b j)

      pub moved_held : (v : V) → lookup (same k) rows ≡ Some v → HoldsRows n₂ e₂ i (remove_entry (same k) rows ++ (k, v) ∷ [])
      moved_held v e =
          let nil = append-nil others in
          let own = moved_value v e in
          let here : row_at n₂ p ≡ Some (k, v) = rows_same p ∙ at_cut.3.here ∙ ap Some own in
          let away = subst (Avoids (Some p)) (sym nil) beside in
          record {
            at_places = others ++ p ∷ [];
            are_rows = record {
              thread = into others [] refl away out_thread;
              indexed =
                  indexed_with (row_at n₀) (row_at n₂) mid (hash.get same i) (hash_map_len i - 1) (hash_map_len i) others p [] (λ q d. rows_same q) away k v (subst (There (row_at n₀)) (sym nil) all_else) here
                  (subst (λ l. lookup (same k) (rows_of (row_at n₀) l) ≡ None) (sym nil) no_other) (λ x. back x (same k x) refl) (sym one_less) (subst (IsIndexed (row_at n₀) mid (hash_map_len i - 1)) (sym nil) taken_out);
            };
            rows_equal = rows_at (row_at n₂) others p [] (k, v) here ∙ ap (λ l. l ++ (k, v) ∷ []) (rows_kept (row_at n₀) (row_at n₂) others rows_same ∙ else_rows);
          }
