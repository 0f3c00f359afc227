-- A row put in, taken out, or written in its place.
use Rattle.std.proofs.Common.{◌≡◌, ◌≢◌, inl, inr, ℕ, ◌+◌, ◌-◌, Bool, true, false, cond, List, [], ◌∷◌, ◌++◌, length, Option, Some, None, refl, sym, ap, ◌∙◌, subst, arith, length-append, append-nil}
use Rattle.std.specs.Option.{option_map}
use Rattle.std.specs.List.{IsDistinct}
use Rattle.std.specs.Map.{lookup, keys_of, remove_entry, set_value}
use Rattle.std.specs.HashMap.{HashMap, hash_map_len}
use Rattle.std.specs.HashMap as hash
use Rattle.std.proofs.lemmas.Bool.{cases_eq}
use Rattle.std.proofs.lemmas.Map.{NonePasses, lookup-none, none_passes_from_lookup}
use Rattle.slab.specs.Slab.{Slab, get, Updates}
use Rattle.elem.specs.declared.elements.Elem.{Elem}
use Rattle.elem.specs.Elements.{same}
use Rattle.elem.specs.ElementLaws.{same-Decides}
use Rattle.elem.specs.Rows.{set_row}
use Rattle.elem.proofs.RowsLemmas.{remove_at, set_value_at, set_row_at}
use Rattle.linked_base.specs.declared.links.Links.{Links}
use Rattle.linked_base.specs.declared.links.Ends.{Ends}
use Rattle.linked_base.specs.declared.row_nodes.Node.{Node}
use Rattle.linked_base.specs.Thread.{Avoids, IsThread, links_at, KeepsRest, Rewrites}
use Rattle.linked_base.specs.Places.{rows_of, keyed, IsIndexed}
use Rattle.linked_base.specs.LinkedMap.{links, row, row_at, IsRowsOf}
use Rattle.linked_base.proofs.ThreadLemmas.{run_kept, apart_without, avoids_cut}
use Rattle.linked_base.proofs.PlacesLemmas.{There, there_both, rows-append, rows_at, rows_beside, some_of}
use Rattle.linked_base.proofs.LinkedMapLemmas.{all_there, row_kept}
use Rattle.linked_base.proofs.KeyedLemmas.{indexed_with, indexed_without, IsCut, cut_rows, distinct_without, absent_place}

abbrev pub Linked : {V : Type 0} → Node V → Links → Node V
Linked n l = record n { links = l }

abbrev pub the_node : {V : Type 0} → Elem → V → Node V
the_node k v = record { key = k; value = v; links = record { previous = None; next = None } }

abbrev pub Rowed : {V : Type 0} → Elem → V → Node V → Node V
Rowed k v n = record n { key = k; value = v }

module _ {V : Type 0} where
  -- a place with no node is in no thread
  pub fresh : (nodes : Slab (Node V)) (q : ℕ) (ps : List ℕ) → get nodes q ≡ None → There (row_at nodes) ps → Avoids (Some q) ps
  fresh nodes q [] e h = tt
  fresh nodes q (p ∷ ps) e h = (
    λ f. let equal : q ≡ p = cc in
        let none : row_at nodes p ≡ None = ap (row_at nodes) (sym equal) ∙ ap (option_map row) e in
        let there = some_of (row_at nodes p) h.0 in
        let both = sym there.1 ∙ none in cc,
    fresh nodes q ps e h.1,
  )

  -- a thread beside a node that is written
  pub thread_beside : (old new : Slab (Node V)) (ends : Ends) (q : ℕ) (ps : List ℕ) → ((p : ℕ) → p ≢ q → get new p ≡ get old p) → Avoids (Some q) ps → IsThread (links_at links old) ends ps → IsThread (links_at links new) ends ps
  thread_beside old new ends q ps others a t =
      let kept : (p : ℕ) → Some q ≢ Some p → links_at links new p ≡ links_at links old p = λ p d. ap (option_map links) (others p (λ e. d (ap Some (sym e)))) in
      record { first = t.first; last = t.last; links = run_kept (links_at links old) (links_at links new) (Some q) kept None ps None a t.links; apart = t.apart }

-- room made, and nothing else done
module _ {V S : Type 0} (n₀ n₁ : Slab (Node V)) (e₀ : Ends) (i₀ i₁ : HashMap Elem ℕ S) (ps : List ℕ) (resized : n₁ ≡ record n₀ { capacity = n₁.capacity }) where
  rows_same : row_at n₁ ≡ row_at n₀
  rows_same = λ i p. option_map row (get (resized i) p)

  links_same : links_at links n₁ ≡ links_at links n₀
  links_same = λ i p. option_map links (get (resized i) p)

  pub roomier : ((x : Elem) → hash.get same i₁ x ≡ hash.get same i₀ x) → hash_map_len i₁ ≡ hash_map_len i₀ → IsRowsOf n₀ e₀ i₀ ps → IsRowsOf n₁ e₀ i₁ ps
  roomier find len h = record {
    thread = subst (λ f. IsThread f e₀ ps) (sym links_same) h.thread;
    indexed = record {
      exact = λ x. find x ∙ h.indexed.exact x ∙ ap (λ f. lookup (same x) (keyed f ps)) (sym rows_same);
      count = len ∙ h.indexed.count;
      distinct = subst (λ f. IsDistinct same (keys_of (rows_of f ps))) (sym rows_same) h.indexed.distinct;
    };
  }

  pub roomier_rows : rows_of (row_at n₁) ps ≡ rows_of (row_at n₀) ps
  roomier_rows = ap (λ f. rows_of f ps) rows_same

-- a row put last
module _ {V S : Type 0} (n₁ n₂ n₃ : Slab (Node V)) (e₀ e₃ : Ends) (i₁ i₂ : HashMap Elem ℕ S) (ps : List ℕ) (q : ℕ) (nd : Node V) (h : IsRowsOf n₁ e₀ i₁ ps) (vacant : get n₁ q ≡ None) (updates : Updates n₁ n₂ q (Some nd)) where
  unused : Avoids (Some q) ps
  unused = fresh n₁ q ps vacant (all_there n₁ e₀ i₁ ps h)

  -- before the new node is linked
  pub unlinked_new : IsThread (links_at links n₂) e₀ (ps ++ []) × Avoids (Some q) (ps ++ [])
  unlinked_new =
      (subst (IsThread (links_at links n₂) e₀) (sym (append-nil ps)) (thread_beside n₁ n₂ e₀ q ps updates.others unused h.thread), subst (Avoids (Some q)) (sym (append-nil ps)) unused)

  module _ (rest : (p : ℕ) → KeepsRest Linked (get n₂ p) (get n₃ p)) (find : (x : Elem) → hash.get same i₂ x ≡ cond (same nd.key x) (Some q) (hash.get same i₁ x)) (len : hash_map_len i₂ ≡ hash_map_len i₁ + 1)
      (absent : lookup (same nd.key) (rows_of (row_at n₁) ps) ≡ None) (thread : IsThread (links_at links n₃) e₃ (ps ++ q ∷ [])) where
    pushed_others : (p : ℕ) → p ≢ q → row_at n₃ p ≡ row_at n₁ p
    pushed_others p d = row_kept (get n₂ p) (get n₃ p) (rest p) ∙ ap (option_map row) (updates.others p d)

    pushed_here : row_at n₃ q ≡ Some (row nd)
    pushed_here = row_kept (get n₂ q) (get n₃ q) (rest q) ∙ ap (option_map row) updates.changed

    pub pushed : IsRowsOf n₃ e₃ i₂ (ps ++ q ∷ [])
    pushed =
        let whole : ps ++ [] ≡ ps = append-nil ps in
        record {
          thread = thread;
          indexed =
              indexed_with (row_at n₁) (row_at n₃) (hash.get same i₁) (hash.get same i₂) (hash_map_len i₁) (hash_map_len i₂) ps q [] pushed_others unlinked_new.1 nd.key nd.value (subst (There (row_at n₁)) (sym whole) (all_there n₁ e₀ i₁ ps h)) pushed_here
              (subst (λ l. lookup (same nd.key) (rows_of (row_at n₁) l) ≡ None) (sym whole) absent) find len (subst (IsIndexed (row_at n₁) (hash.get same i₁) (hash_map_len i₁)) (sym whole) h.indexed);
        }

    pub pushed_rows : rows_of (row_at n₃) (ps ++ q ∷ []) ≡ rows_of (row_at n₁) ps ++ row nd ∷ []
    pushed_rows = rows_at (row_at n₃) ps q [] (row nd) pushed_here ∙ ap (λ l. l ++ row nd ∷ []) (rows_beside (row_at n₁) (row_at n₃) q ps pushed_others unused)

-- a row taken out
module _ {V S : Type 0} (n₀ n₁ n₂ : Slab (Node V)) (e₀ e₁ : Ends) (i₀ i₁ : HashMap Elem ℕ S) (k : Elem) (p : ℕ) (us vs : List ℕ) (r : Elem × V) (ps : List ℕ) (h : IsRowsOf n₀ e₀ i₀ ps) (cut : IsCut (row_at n₀) (same k) ps p us vs r) where
  pub thread_at_cut : IsThread (links_at links n₀) e₀ (us ++ p ∷ vs)
  thread_at_cut = subst (IsThread (links_at links n₀) e₀) cut.places h.thread

  module _ (thread : IsThread (links_at links n₁) e₁ (us ++ vs)) (rest : (q : ℕ) → KeepsRest Linked (get n₀ q) (get n₁ q)) (updates : Updates n₁ n₂ p None)
      (find : (x : Elem) → hash.get same i₁ x ≡ cond (same k x) None (hash.get same i₀ x)) (len : hash_map_len i₁ + 1 ≡ hash_map_len i₀) where
    dropped_beside : Avoids (Some p) (us ++ vs)
    dropped_beside = (apart_without us p vs thread_at_cut.apart).1

    dropped_others : (q : ℕ) → q ≢ p → row_at n₂ q ≡ row_at n₀ q
    dropped_others q d = ap (option_map row) (updates.others q d) ∙ row_kept (get n₀ q) (get n₁ q) (rest q)

    pub dropped : IsRowsOf n₂ e₁ i₁ (us ++ vs)
    dropped = record {
      thread = thread_beside n₁ n₂ e₁ p (us ++ vs) updates.others dropped_beside thread;
      indexed =
          indexed_without (row_at n₀) (row_at n₂) (hash.get same i₀) (hash.get same i₁) (hash_map_len i₀) (hash_map_len i₁) us p vs dropped_others dropped_beside r k (subst (There (row_at n₀)) cut.places (all_there n₀ e₀ i₀ ps h)) cut.here cut.passes find len
          (subst (IsIndexed (row_at n₀) (hash.get same i₀) (hash_map_len i₀)) cut.places h.indexed);
    }

    pub dropped_rows : rows_of (row_at n₂) (us ++ vs) ≡ remove_entry (same k) (rows_of (row_at n₀) ps)
    dropped_rows =
        rows_beside (row_at n₀) (row_at n₂) p (us ++ vs) dropped_others dropped_beside ∙ rows-append (row_at n₀) us vs
        ∙ sym (ap (remove_entry (same k)) (cut_rows (row_at n₀) (same k) ps p us vs r cut) ∙ remove_at (same k) (rows_of (row_at n₀) us) r (rows_of (row_at n₀) vs) cut.before cut.passes)

-- a row written in its place, maybe under another key
module _ {V S : Type 0} (n₀ n₁ : Slab (Node V)) (e : Ends) (i₀ i₂ : HashMap Elem ℕ S) (from to : Elem) (v : V) (p : ℕ) (us vs : List ℕ) (r : Elem × V) (ps : List ℕ) (h : IsRowsOf n₀ e i₀ ps) (cut : IsCut (row_at n₀) (same from) ps p us vs r) (w : Rewrites (Rowed to v) (Some p) n₀ n₁) where
  links_kept : (q : ℕ) → links_at links n₁ q ≡ links_at links n₀ q
  links_kept q = elim (cases_eq p q) [
    | inl equal ↦ ap (option_map links) (w.changed q (ap Some equal)) ∙ twice (get n₀ q)
    | inr differs ↦ ap (option_map links) (w.others q (λ f. differs (cc)))
  ]
    where
      twice : (x : Option (Node V)) → option_map links (option_map (Rowed to v) x) ≡ option_map links x
      twice None = refl
      twice (Some n) = refl

  written_others : (q : ℕ) → q ≢ p → row_at n₁ q ≡ row_at n₀ q
  written_others q d = ap (option_map row) (w.others q (λ f. d (cc)))

  written_here : row_at n₁ p ≡ Some (to, v)
  written_here = ap (option_map row) (w.changed p refl) ∙ written (get n₀ p) cut.here
    where
      written : (x : Option (Node V)) → option_map row x ≡ Some r → option_map row (option_map (Rowed to v) x) ≡ Some (to, v)
      written None f = absurd (cc)
      written (Some n) f = refl

  written_beside : Avoids (Some p) (us ++ vs)
  written_beside = (apart_without us p vs (subst (IsThread (links_at links n₀) e) cut.places h.thread).apart).1

  front_back : rows_of (row_at n₀) (us ++ vs) ≡ remove_entry (same from) (rows_of (row_at n₀) ps)
  front_back =
      rows-append (row_at n₀) us vs
      ∙ sym (ap (remove_entry (same from)) (cut_rows (row_at n₀) (same from) ps p us vs r cut) ∙ remove_at (same from) (rows_of (row_at n₀) us) r (rows_of (row_at n₀) vs) cut.before cut.passes)

  all_else : There (row_at n₀) (us ++ vs)
  all_else = there_both (row_at n₀) us p vs (subst (There (row_at n₀)) cut.places (all_there n₀ e i₀ ps h))

  module _ (mid : Elem → Option ℕ) (m : ℕ) (find₁ : (x : Elem) → mid x ≡ cond (same from x) None (hash.get same i₀ x)) (len₁ : m + 1 ≡ hash_map_len i₀) (absent : lookup (same to) (remove_entry (same from) (rows_of (row_at n₀) ps)) ≡ None) where
    taken_out : IsIndexed (row_at n₀) mid m (us ++ vs)
    taken_out =
        indexed_without (row_at n₀) (row_at n₀) (hash.get same i₀) mid (hash_map_len i₀) m us p vs (λ q d. refl) written_beside r from (subst (There (row_at n₀)) cut.places (all_there n₀ e i₀ ps h)) cut.here cut.passes find₁ len₁
        (subst (IsIndexed (row_at n₀) (hash.get same i₀) (hash_map_len i₀)) cut.places h.indexed)

    pub mid_absent : mid to ≡ None
    mid_absent = taken_out.exact to ∙ absent_place (row_at n₀) (same to) (us ++ vs) all_else (ap (lookup (same to)) front_back ∙ absent)

    pub rekeyed : ((x : Elem) → hash.get same i₂ x ≡ cond (same to x) (Some p) (mid x)) → hash_map_len i₂ ≡ m + 1 → IsRowsOf n₁ e i₂ ps
    rekeyed find₂ len₂ = record {
      thread = subst (λ f. IsThread f e ps) (λ i q. sym (links_kept q) i) h.thread;
      indexed =
          subst (IsIndexed (row_at n₁) (hash.get same i₂) (hash_map_len i₂)) (sym cut.places)
          (indexed_with (row_at n₀) (row_at n₁) mid (hash.get same i₂) m (hash_map_len i₂) us p vs written_others written_beside to v all_else written_here (ap (lookup (same to)) front_back ∙ absent) find₂ len₂ taken_out);
    }

  pub rekeyed_rows : rows_of (row_at n₁) ps ≡ set_row (same from) (rows_of (row_at n₀) ps) (to, v)
  rekeyed_rows =
      ap (rows_of (row_at n₁)) cut.places ∙ rows_at (row_at n₁) us p vs (to, v) written_here
      ∙ (λ i. rows_beside (row_at n₀) (row_at n₁) p us written_others (avoids_cut (Some p) us vs written_beside).0 i ++ (to, v) ∷ rows_beside (row_at n₀) (row_at n₁) p vs written_others (avoids_cut (Some p) us vs written_beside).1 i)
      ∙ sym (ap (λ l. set_row (same from) l (to, v)) (cut_rows (row_at n₀) (same from) ps p us vs r cut) ∙ set_row_at (same from) (rows_of (row_at n₀) us) r (rows_of (row_at n₀) vs) (to, v) cut.before cut.passes)

module _ {V S : Type 0} (n₀ n₁ : Slab (Node V)) (e : Ends) (i : HashMap Elem ℕ S) (k : Elem) (v : V) (p : ℕ) (us vs : List ℕ) (r : Elem × V) (ps : List ℕ) (h : IsRowsOf n₀ e i ps) (cut : IsCut (row_at n₀) (same k) ps p us vs r) (found : hash.get same i k ≡ Some p) (w : Rewrites (Rowed k v) (Some p) n₀ n₁) where
  without : Elem → Option ℕ
  without x = cond (same k x) None (hash.get same i x)

  back : (x : Elem) (b : Bool) → same k x ≡ b → hash.get same i x ≡ cond b (Some p) (cond b None (hash.get same i x))
  back x true t = ap (hash.get same i) (sym ((same-Decides k x).0 t)) ∙ found
  back x false t = refl

  no_other : lookup (same k) (remove_entry (same k) (rows_of (row_at n₀) ps)) ≡ None
  no_other =
      let rows = cut_rows (row_at n₀) (same k) ps p us vs r cut in
      let d = distinct_without (rows_of (row_at n₀) us) r (rows_of (row_at n₀) vs) (subst (λ l. IsDistinct same (keys_of l)) rows h.indexed.distinct) in
      let none = subst (λ x. NonePasses (same x) (rows_of (row_at n₀) us ++ rows_of (row_at n₀) vs)) (sym ((same-Decides k r.0).0 cut.passes)) d.1 in
      ap (lookup (same k)) (ap (remove_entry (same k)) rows ∙ remove_at (same k) (rows_of (row_at n₀) us) r (rows_of (row_at n₀) vs) cut.before cut.passes) ∙ lookup-none (same k) (rows_of (row_at n₀) us ++ rows_of (row_at n₀) vs) none

  pub replaced : IsRowsOf n₁ e i ps
  replaced =
      let m = hash_map_len i in
      let total = h.indexed.count ∙ ap length cut.places ∙ length-append us (p ∷ vs) in
      let less : (m - 1) + 1 ≡ m = omega (arith, total) in
      rekeyed n₀ n₁ e i i k k v p us vs r ps h cut w (λ x. cond (same k x) None (hash.get same i x)) (m - 1) (λ x. refl) less no_other (λ x. back x (same k x) refl) (sym less)

  pub replaced_rows : rows_of (row_at n₁) ps ≡ set_value (same k) (rows_of (row_at n₀) ps) v
  replaced_rows =
      let at = rows_of (row_at n₀) us in
      let past = rows_of (row_at n₀) vs in
      let rows = cut_rows (row_at n₀) (same k) ps p us vs r cut in
      rekeyed_rows n₀ n₁ e i i k k v p us vs r ps h cut w
      ∙ ap (λ l. set_row (same k) l (k, v)) rows ∙ set_row_at (same k) at r past (k, v) cut.before cut.passes ∙ ap (λ x. at ++ (x, v) ∷ past) ((same-Decides k r.0).0 cut.passes)
      ∙ sym (ap (λ l. set_value (same k) l v) rows ∙ set_value_at (same k) at r past v cut.before cut.passes)

-- a key that is absent takes nothing out
module _ {K X : Type 0} (test : K → Bool) where
  kept_whole : (es : List (K × X)) → NonePasses test es → remove_entry test es ≡ es
  kept_whole [] h = refl
  kept_whole (e ∷ es) h = ap (λ b. cond b es (e ∷ remove_entry test es)) h.0 ∙ ap (λ l. e ∷ l) (kept_whole es h.1)

  pub remove_none : (es : List (K × X)) → lookup test es ≡ None → remove_entry test es ≡ es
  remove_none es e = kept_whole es (none_passes_from_lookup test es e)
