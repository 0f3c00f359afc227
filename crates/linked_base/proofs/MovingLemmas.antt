-- A row moved before another, or last.
use Rattle.std.proofs.Common.{◌≡◌, ℕ, ◌+◌, ◌-◌, Bool, true, false, cond, List, [], ◌∷◌, ◌++◌, length, Option, Some, None, refl, sym, ap, ◌∙◌, subst, arith, length-append, append-nil}
use Rattle.std.specs.Prelude.{IsSome}
use Rattle.std.specs.Option.{option_and_then}
use Rattle.std.specs.Map.{lookup, remove_entry}
use Rattle.std.specs.HashMap.{HashMap, hash_map_len}
use Rattle.std.specs.HashMap as hash
use Rattle.std.proofs.lemmas.Map.{NonePasses}
use Rattle.slab.specs.Slab.{Slab, get}
use Rattle.elem.specs.declared.elements.Elem.{Elem}
use Rattle.elem.specs.Elements.{same}
use Rattle.elem.specs.ElementLaws.{same-Decides, same_equiv}
use Rattle.elem.proofs.RowsLemmas.{lookup_at, remove_at}
use Rattle.linked_base.specs.declared.links.Ends.{Ends}
use Rattle.linked_base.specs.declared.row_nodes.Node.{Node}
use Rattle.linked_base.specs.Thread.{head_or, Avoids, IsThread, links_at, KeepsRest}
use Rattle.linked_base.specs.Places.{rows_of, keyed, IsIndexed}
use Rattle.linked_base.specs.LinkedMap.{links, row_at, IsRowsOf}
use Rattle.linked_base.specs.Moving.{put_before}
use Rattle.linked_base.proofs.ThreadLemmas.{apart_without}
use Rattle.linked_base.proofs.PlacesLemmas.{some_of, There, there_both, rows-append, rows-cons, rows_at, rows_kept}
use Rattle.linked_base.proofs.KeyedLemmas.{absent_row, IsCut, cut_found, cut_rows, indexed_with, indexed_without}
use Rattle.linked_base.proofs.LinkedMapLemmas.{all_there, row_kept, row_found}
use Rattle.linked_base.proofs.LinkedMapSteps.{Linked}
use Rattle.linked_base.proofs.HeldRows.{HoldsRows, node_held}

module _ {V : Type 0} where
  pub put_last : (new : Elem × V) (rows : List (Elem × V)) → put_before None new rows ≡ rows ++ new ∷ []
  put_last new [] = refl
  put_last new (r ∷ rows) = ap (λ l. r ∷ l) (put_last new rows)

  pub put_at : (k : Elem) (new : Elem × V) (us : List (Elem × V)) (r : Elem × V) (vs : List (Elem × V)) → NonePasses (same k) us → same k r.0 ≡ true → put_before (Some k) new (us ++ r ∷ vs) ≡ us ++ new ∷ r ∷ vs
  put_at k new [] r vs n h = ap (λ b. cond b (new ∷ r ∷ vs) (r ∷ put_before (Some k) new vs)) (same_equiv.symm r.0 k ∙ h)
  put_at k new (u ∷ us) r vs n h = ap (λ b. cond b (new ∷ u ∷ (us ++ r ∷ vs)) (u ∷ put_before (Some k) new (us ++ r ∷ vs))) (same_equiv.symm u.0 k ∙ n.0) ∙ ap (λ l. u ∷ l) (put_at k new us r vs n.1 h)

  -- the places are cut where a row goes
  pub record IsGap (at : ℕ → Option (Elem × V)) (next : Option Elem) (place : Option ℕ) (ps us vs : List ℕ) : Type 0 where
    pub places : ps ≡ us ++ vs
    pub start : place ≡ head_or None vs
    pub rows : (new : Elem × V) → put_before next new (rows_of at ps) ≡ rows_of at us ++ new ∷ rows_of at vs

  gap_found : (at : ℕ → Option (Elem × V)) (next : Option Elem) (find : Elem → Option ℕ) (ps : List ℕ) → There at ps → ((x : Elem) → find x ≡ lookup (same x) (keyed at ps)) → ((x : Elem) → next ≡ Some x → IsSome (find x))
      → (us : List ℕ) × (vs : List ℕ) × IsGap at next (option_and_then find next) ps us vs
  gap_found at None find ps t e s = (ps, [], record { places = sym (append-nil ps); start = refl; rows = λ new. put_last new (rows_of at ps) })
  gap_found at (Some x) find ps t e s =
      let p = some_of (find x) (s x refl) in
      let f = cut_found at (same x) ps p.0 t (sym (e x) ∙ p.1) in
      let c = f.3 in (
        f.0,
        p.0 ∷ f.1,
        record {
          places = c.places;
          start = p.1;
          rows = λ new.
              ap (put_before (Some x) new) (cut_rows at (same x) ps p.0 f.0 f.1 f.2 c) ∙ put_at x new (rows_of at f.0) f.2 (rows_of at f.1) c.before c.passes ∙ ap (λ l. rows_of at f.0 ++ new ∷ l) (sym (rows-cons at p.0 f.1 f.2 c.here));
        },
      )

  pub keeps_there : (x y : Option (Node V)) → KeepsRest Linked x y → IsSome x → IsSome y
  keeps_there None y k s = absurd (cc)
  keeps_there (Some n) y k s = subst IsSome (sym k.1) refl

-- a row and its place taken out of the list, and back
module _ {V S : Type 0} (nodes : Slab (Node V)) (ends : Ends) (index : HashMap Elem ℕ S) (k : Elem) (p : ℕ) (us vs ps : List ℕ) (r : Elem × V) (h : IsRowsOf nodes ends index ps) (cut : IsCut (row_at nodes) (same k) ps p us vs r) (found : hash.get same index k ≡ Some p) where
  abbrev find_left : Elem → Option ℕ
  find_left x = cond (same k x) None (hash.get same index x)

  beside : Avoids (Some p) (us ++ vs)
  beside = (apart_without us p vs (subst (IsThread (links_at links nodes) ends) cut.places h.thread).apart).1

  there_left : There (row_at nodes) (us ++ vs)
  there_left = there_both (row_at nodes) us p vs (subst (There (row_at nodes)) cut.places (all_there nodes ends index ps h))

  less : (hash_map_len index - 1) + 1 ≡ hash_map_len index
  less = let total = h.indexed.count ∙ ap length cut.places ∙ length-append us (p ∷ vs) in omega (arith, total)

  taken_out : IsIndexed (row_at nodes) find_left (hash_map_len index - 1) (us ++ vs)
  taken_out =
      indexed_without (row_at nodes) (row_at nodes) (hash.get same index) find_left (hash_map_len index) (hash_map_len index - 1) us p vs (λ q d. refl) beside r k (subst (There (row_at nodes)) cut.places (all_there nodes ends index ps h)) cut.here cut.passes (λ x. refl) less
      (subst (IsIndexed (row_at nodes) (hash.get same index) (hash_map_len index)) cut.places h.indexed)

  rows_left : rows_of (row_at nodes) (us ++ vs) ≡ remove_entry (same k) (rows_of (row_at nodes) ps)
  rows_left =
      rows-append (row_at nodes) us vs
      ∙ sym (ap (remove_entry (same k)) (cut_rows (row_at nodes) (same k) ps p us vs r cut) ∙ remove_at (same k) (rows_of (row_at nodes) us) r (rows_of (row_at nodes) vs) cut.before cut.passes)

  own_absent : lookup (same k) (rows_of (row_at nodes) (us ++ vs)) ≡ None
  own_absent = absent_row (row_at nodes) (same k) (us ++ vs) there_left (sym (taken_out.exact k) ∙ ap (λ b. cond b None (hash.get same index k)) (same_equiv.refl k))

  find_back : (x : Elem) (b : Bool) → same k x ≡ b → hash.get same index x ≡ cond b (Some p) (cond b None (hash.get same index x))
  find_back x true t = ap (hash.get same index) (sym ((same-Decides k x).0 t)) ∙ found
  find_back x false t = refl

  -- the place of another key is the same without the row
  same_place : (next : Option Elem) → ((x : Elem) → next ≡ Some x → IsSome (find_left x)) → option_and_then (hash.get same index) next ≡ option_and_then find_left next
  same_place None s = refl
  same_place (Some x) s = by_case (same k x) refl (s x refl)
    where
      by_case : (b : Bool) → same k x ≡ b → IsSome (cond b None (hash.get same index x)) → hash.get same index x ≡ cond b None (hash.get same index x)
      by_case true t s = absurd (cc)
      by_case false t s = refl

  left_found : (x : Elem) → IsSome (lookup (same x) (remove_entry (same k) (rows_of (row_at nodes) ps))) → IsSome (find_left x)
  left_found x s = by_place (find_left x) refl
    where
      by_place : (o : Option ℕ) → find_left x ≡ o → IsSome o
      by_place None e =
          let none = absent_row (row_at nodes) (same x) (us ++ vs) there_left (sym (taken_out.exact x) ∙ e) in
          let there = some_of (lookup (same x) (remove_entry (same k) (rows_of (row_at nodes) ps))) s in
          let both = sym there.1 ∙ ap (lookup (same x)) (sym rows_left) ∙ none in absurd (cc)
      by_place (Some q) e = refl

  module _ (next : Option Elem) (present : (x : Elem) → next ≡ Some x → IsSome (lookup (same x) (remove_entry (same k) (rows_of (row_at nodes) ps)))) where
    pub gap : (fs : List ℕ) × (bs : List ℕ) × IsGap (row_at nodes) next (option_and_then (hash.get same index) next) (us ++ vs) fs bs
    gap =
        let some = λ (x : Elem) (e : next ≡ Some x). left_found x (present x e) in
        let f = gap_found (row_at nodes) next find_left (us ++ vs) there_left taken_out.exact some in
        (f.0, f.1, subst (λ o. IsGap (row_at nodes) next o (us ++ vs) f.0 f.1) (sym (same_place next some)) f.2)

    pub gap_beside : Avoids (Some p) (gap.0 ++ gap.1)
    gap_beside = subst (Avoids (Some p)) gap.2.places beside

    module _ (v : V) (here : row_at nodes p ≡ Some (k, v)) where
      pub put_back : IsIndexed (row_at nodes) (hash.get same index) (hash_map_len index) (gap.0 ++ p ∷ gap.1)
      put_back =
          indexed_with (row_at nodes) (row_at nodes) find_left (hash.get same index) (hash_map_len index - 1) (hash_map_len index) gap.0 p gap.1 (λ q d. refl) gap_beside k v (subst (There (row_at nodes)) gap.2.places there_left) here
          (subst (λ l. lookup (same k) (rows_of (row_at nodes) l) ≡ None) gap.2.places own_absent) (λ x. find_back x (same k x) refl) (sym less) (subst (IsIndexed (row_at nodes) find_left (hash_map_len index - 1)) gap.2.places taken_out)

      pub rows_back : rows_of (row_at nodes) (gap.0 ++ p ∷ gap.1) ≡ put_before next (k, v) (remove_entry (same k) (rows_of (row_at nodes) ps))
      rows_back = rows_at (row_at nodes) gap.0 p gap.1 (k, v) here ∙ sym (gap.2.rows (k, v)) ∙ ap (put_before next (k, v)) rows_left

-- a row moved
module _ {V S : Type 0} (n₀ n₁ n₂ : Slab (Node V)) (e₀ e₁ e₂ : Ends) (index : HashMap Elem ℕ S) {rows : List (Elem × V)} (k : Elem) (next : Option Elem) (p : ℕ) (h : HoldsRows n₀ e₀ index rows) (found : hash.get same index k ≡ Some p) where
  its_cut : (us : List ℕ) × (vs : List ℕ) × (r : Elem × V) × IsCut (row_at n₀) (same k) h.at_places p us vs r
  its_cut = row_found n₀ e₀ index h.at_places h.are_rows k p found

  -- the place of a key in the slab, after other writes of links
  pub next_node : ((q : ℕ) → KeepsRest Linked (get n₀ q) (get n₁ q)) → (q : ℕ) → option_and_then (hash.get same index) next ≡ Some q → IsSome (get n₁ q)
  next_node rest q e = by_next next e
    where
      by_next : (o : Option Elem) → option_and_then (hash.get same index) o ≡ Some q → IsSome (get n₁ q)
      by_next None f = absurd (cc)
      by_next (Some x) f = keeps_there (get n₀ q) (get n₁ q) (rest q) (node_held h x q f)

  pub moved_held : (place : Option ℕ) → place ≡ option_and_then (hash.get same index) next → ((us vs : List ℕ) → IsThread (links_at links n₀) e₀ (us ++ p ∷ vs) → IsThread (links_at links n₁) e₁ (us ++ vs))
      → ((us vs : List ℕ) → place ≡ head_or None vs → Avoids (Some p) (us ++ vs) → IsThread (links_at links n₁) e₁ (us ++ vs) → IsThread (links_at links n₂) e₂ (us ++ p ∷ vs))
      → ((q : ℕ) → KeepsRest Linked (get n₀ q) (get n₁ q)) → ((q : ℕ) → KeepsRest Linked (get n₁ q) (get n₂ q))
      → ((x : Elem) → next ≡ Some x → IsSome (lookup (same x) (remove_entry (same k) rows))) → (v : V) → lookup (same k) rows ≡ Some v → HoldsRows n₂ e₂ index (put_before next (k, v) (remove_entry (same k) rows))
  moved_held place is_place unlinked linked rest₁ rest₂ present v value =
      let ps = h.at_places in
      let us = its_cut.0 in
      let vs = its_cut.1 in
      let r = its_cut.2 in
      let c = its_cut.3 in
      let there : (x : Elem) → next ≡ Some x → IsSome (lookup (same x) (remove_entry (same k) (rows_of (row_at n₀) ps))) = λ x e. subst (λ rs. IsSome (lookup (same x) (remove_entry (same k) rs))) (sym h.rows_equal) (present x e) in
      let gap = gap n₀ e₀ index k p us vs ps r h.are_rows c found next there in
      let t₁ = unlinked us vs (subst (IsThread (links_at links n₀) e₀) c.places h.are_rows.thread) in
      let t₂ = linked gap.0 gap.1 (is_place ∙ gap.2.start) (gap_beside n₀ e₀ index k p us vs ps r h.are_rows c found next there) (subst (IsThread (links_at links n₁) e₁) gap.2.places t₁) in
      let own : Some r.1 ≡ Some v = sym (lookup_at (same k) (rows_of (row_at n₀) us) r (rows_of (row_at n₀) vs) c.before c.passes) ∙ ap (lookup (same k)) (sym (cut_rows (row_at n₀) (same k) ps p us vs r c) ∙ h.rows_equal) ∙ value in
      let here : row_at n₀ p ≡ Some (k, v) = c.here ∙ pair r ((same-Decides k r.0).0 c.passes) own in
      let all : (q : ℕ) → row_at n₂ q ≡ row_at n₀ q = λ q. row_kept (get n₁ q) (get n₂ q) (rest₂ q) ∙ row_kept (get n₀ q) (get n₁ q) (rest₁ q) in
      record {
        at_places = gap.0 ++ p ∷ gap.1;
        are_rows = record {
          thread = t₂;
          indexed = subst (λ f. IsIndexed f (hash.get same index) (hash_map_len index) (gap.0 ++ p ∷ gap.1)) (λ i q. sym (all q) i) (put_back n₀ e₀ index k p us vs ps r h.are_rows c found next there v here);
        };
        rows_equal = rows_kept (row_at n₀) (row_at n₂) (gap.0 ++ p ∷ gap.1) all ∙ rows_back n₀ e₀ index k p us vs ps r h.are_rows c found next there v here ∙ ap (λ rs. put_before next (k, v) (remove_entry (same k) rs)) h.rows_equal;
      }
    where
      pair : (r : Elem × V) → k ≡ r.0 → Some r.1 ≡ Some v → Some r ≡ Some (k, v)
      pair r e f = let same_value : r.1 ≡ v = cc in λ i. Some (sym e i, same_value i)
