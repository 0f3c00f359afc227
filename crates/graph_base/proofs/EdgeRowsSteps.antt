-- Rows of edges: one put last, one taken out at a cut, one given another value. No map and no slab is named here.
use Rattle.std.proofs.Common.{◌≡◌, ◌≢◌, ◌≤◌, ℕ, suc, Bool, true, false, cond, List, [], ◌∷◌, ◌++◌, length, Option, Some, None, refl, sym, ap, ◌∙◌, subst, arith, slice_get, length-append, append-nil, nat_eq}
use Rattle.std.specs.List.{filter, flat_map, IsDistinct}
use Rattle.std.specs.Map.{keys_of}
use Rattle.std.proofs.lemmas.Map.{NonePasses}
use Rattle.std.proofs.lemmas.List.Elements.{filter-append}
use Rattle.std.proofs.lemmas.List.Concat.{flat_map-append}
use Rattle.std.proofs.lemmas.Bool.Decides.{Decides-eqb}
use Rattle.elem.specs.declared.elements.Elem.{Elem}
use Rattle.elem.specs.Elements.{same}
use Rattle.elem.specs.Rows.{first_key}
use Rattle.linked_base.proofs.KeyedLemmas.{distinct_without}
use Rattle.mm_base.specs.PairRows.{Row}
use Rattle.graph_base.specs.declared.edge_row.EdgeRow.{EdgeRow}
use Rattle.graph_base.specs.Edges.{joins}
use Rattle.graph_base.specs.Ends.{Ends, same_ends, ends}
use Rattle.graph_base.specs.Numbers.{number}
use Rattle.graph_base.specs.EdgeRows.{Numbered, edge_of, halves_of, rows_joining, AreEdges}
use Rattle.graph_base.proofs.Cuts.{nothing, nth_cut, all_join, all_without, all_with, all_right}
use Rattle.graph_base.proofs.EndsLemmas.{ends_join, alike}
use Rattle.graph_base.proofs.NumberLemmas.{number_differs}

-- the first key where one row of two is under the same key
same_first : (xs : List Numbered) (r s : Numbered) (ys : List Numbered) (t : Bool) → r.0 ≡ s.0 → first_key (xs ++ cond t (r ∷ ys) ys) ≡ first_key (xs ++ cond t (s ∷ ys) ys)
same_first (x ∷ xs) r s ys t e = refl
same_first [] r s ys true e = ap Some e
same_first [] r s ys false e = refl

same_length : (xs : List Numbered) (r s : Numbered) (ys : List Numbered) (t : Bool) → length (xs ++ cond t (r ∷ ys) ys) ≡ length (xs ++ cond t (s ∷ ys) ys)
same_length [] r s ys true = refl
same_length [] r s ys false = refl
same_length (x ∷ xs) r s ys t = ap suc (same_length xs r s ys t)

module _ (directed : Bool) where
  pub joining_at : (a b : Elem) (us : List Numbered) (r : Numbered) (vs : List Numbered) → rows_joining directed a b (us ++ r ∷ vs) ≡ rows_joining directed a b us ++ cond (joins directed a b (edge_of r)) (r ∷ rows_joining directed a b vs) (rows_joining directed a b vs)
  joining_at a b us r vs = filter-append (λ (row : Numbered). joins directed a b (edge_of row)) us (r ∷ vs)

  -- the rows between two nodes that a row joins are those between its ends
  joining_alike : (a b : Elem) (r : Numbered) (rows : List Numbered) → joins directed a b (edge_of r) ≡ true → rows_joining directed a b rows ≡ rows_joining directed r.1.from r.1.to rows
  joining_alike a b r rows j = λ i. filter (λ (row : Numbered). alike directed a b (edge_of r) j (edge_of row) i) rows

  -- the edge that ends find
  pub found_cut : (a b : Elem) (rows : List Numbered) (n : Elem) → first_key (rows_joining directed a b rows) ≡ Some n → (us : List Numbered) × (vs : List Numbered) × (r : Numbered) × (rows ≡ us ++ r ∷ vs) × (r.0 ≡ n) × (joins directed a b (edge_of r) ≡ true)
  found_cut a b rows n e = by_case (rows_joining directed a b rows) refl e
    where
      by_case : (rs : List Numbered) → rows_joining directed a b rows ≡ rs → first_key rs ≡ Some n → (us : List Numbered) × (vs : List Numbered) × (r : Numbered) × (rows ≡ us ++ r ∷ vs) × (r.0 ≡ n) × (joins directed a b (edge_of r) ≡ true)
      by_case [] f g = absurd (cc)
      by_case (r ∷ rs) f g =
          let c = nth_cut (λ (row : Numbered). joins directed a b (edge_of row)) rows 0 r (ap (λ l. slice_get l 0) f) in
          let equal : r.0 ≡ n = cc in
          (c.0, c.1, r, c.2, equal, c.3)

  pub found_none : (a b : Elem) (rows : List Numbered) → first_key (rows_joining directed a b rows) ≡ None → rows_joining directed a b rows ≡ []
  found_none a b rows e = by_case (rows_joining directed a b rows) e
    where
      by_case : (rs : List Numbered) → first_key rs ≡ None → rs ≡ []
      by_case [] f = refl
      by_case (r ∷ rs) f = absurd (cc)

  -- found as before, and the same places taken
  pub refound : (rows : List Numbered) (halves : List Row) (find found : Ends → Option Elem) (place new_place : ℕ → Option (Unit {0})) → ((q : Ends) → found q ≡ find q) → ((p : ℕ) → new_place p ≡ place p) → AreEdges directed rows halves find place → AreEdges directed rows halves found new_place
  refound rows halves find found place new_place same_find same_place h = record {
    halves_equal = h.halves_equal;
    found = λ a b. same_find (ends directed a b) ∙ h.found a b;
    apart = h.apart;
    numbered = h.numbered;
    free = λ p e. h.free p (sym (same_place p) ∙ e);
  }

  -- one put last
  module _ (rows : List Numbered) (halves : List Row) (find found : Ends → Option Elem) (place new_place : ℕ → Option (Unit {0})) (k : ℕ) (row : EdgeRow) (own : row.place ≡ k) (h : AreEdges directed rows halves find place) (absent : rows_joining directed row.from row.to rows ≡ [])
      (finds : (q : Ends) → found q ≡ cond (same_ends (ends directed row.from row.to) q) (Some (number k)) (find q)) (taken : new_place k ≡ Some tt) (others : (p : ℕ) → p ≢ k → new_place p ≡ place p) where
    abbrev pub its : Numbered
    its = (number k, row)

    its_joining : (a b : Elem) (t : Bool) → joins directed a b (edge_of its) ≡ t → rows_joining directed a b (rows ++ its ∷ []) ≡ cond t (its ∷ []) (rows_joining directed a b rows)
    its_joining a b true j = joining_at a b rows its [] ∙ (λ i. (joining_alike a b its rows j ∙ absent) i ++ cond (j i) (its ∷ []) [])
    its_joining a b false j = joining_at a b rows its [] ∙ ap (λ t. rows_joining directed a b rows ++ cond t (its ∷ []) []) j ∙ append-nil (rows_joining directed a b rows)

    finds_at : (a b : Elem) (t : Bool) → joins directed a b (edge_of its) ≡ t → found (ends directed a b) ≡ cond t (Some (number k)) (find (ends directed a b))
    finds_at a b t j = finds (ends directed a b) ∙ ap (λ s. cond s (Some (number k)) (find (ends directed a b))) (ends_join directed a b (edge_of its) ∙ j)

    found_at : (a b : Elem) (t : Bool) → joins directed a b (edge_of its) ≡ t → found (ends directed a b) ≡ first_key (rows_joining directed a b (rows ++ its ∷ []))
    found_at a b true j = finds_at a b true j ∙ sym (ap first_key (its_joining a b true j))
    found_at a b false j = finds_at a b false j ∙ h.found a b ∙ sym (ap first_key (its_joining a b false j))

    apart_at : (a b : Elem) (t : Bool) → joins directed a b (edge_of its) ≡ t → length (rows_joining directed a b (rows ++ its ∷ [])) ≤ 1
    apart_at a b true j = let n = ap length (its_joining a b true j) in omega arith
    apart_at a b false j = let n = ap length (its_joining a b false j) in let one = h.apart a b in omega arith

    free_at : (p : ℕ) → new_place p ≡ None → NonePasses (same (number p)) (rows ++ its ∷ [])
    free_at p e = by_case (nat_eq p k) refl
      where
        by_case : (t : Bool) → nat_eq p k ≡ t → NonePasses (same (number p)) (rows ++ its ∷ [])
        by_case true t = let both = sym taken ∙ ap new_place (sym ((Decides-eqb p k).0 t)) ∙ e in absurd (cc)
        by_case false t =
            let differs : p ≢ k = λ f. (let both = sym t ∙ (Decides-eqb p k).1 f in cc) in
            all_join (λ (r : Numbered). same (number p) r.0 ≡ false) rows (its ∷ []) (h.free p (sym (others p differs) ∙ e)) (number_differs p k differs, tt)

    pub added : AreEdges directed (rows ++ its ∷ []) (halves ++ halves_of its) found new_place
    added = record {
      halves_equal = (λ i. h.halves_equal i ++ sym (append-nil (halves_of its)) i) ∙ sym (flat_map-append halves_of rows (its ∷ []));
      found = λ a b. found_at a b (joins directed a b (edge_of its)) refl;
      apart = λ a b. apart_at a b (joins directed a b (edge_of its)) refl;
      numbered = all_join (λ (r : Numbered). r.0 ≡ number r.1.place) rows (its ∷ []) h.numbered (ap number (sym own), tt);
      free = free_at;
    }

  -- one at a cut
  module _ (us : List Numbered) (r : Numbered) (vs : List Numbered) where
    pub halves_at : flat_map halves_of (us ++ r ∷ vs) ≡ flat_map halves_of us ++ (halves_of r ++ flat_map halves_of vs)
    halves_at = flat_map-append halves_of us (r ∷ vs)

    -- taken out
    module _ (halves new_halves : List Row) (find found : Ends → Option Elem) (place new_place : ℕ → Option (Unit {0})) (h : AreEdges directed (us ++ r ∷ vs) halves find place) (distinct : IsDistinct same (keys_of (us ++ r ∷ vs))) (less : new_halves ≡ flat_map halves_of us ++ flat_map halves_of vs)
        (finds : (q : Ends) → found q ≡ cond (same_ends (ends directed r.1.from r.1.to) q) None (find q)) (others : (p : ℕ) → p ≢ r.1.place → new_place p ≡ place p) where
      left_joining : (a b : Elem) → rows_joining directed a b (us ++ vs) ≡ rows_joining directed a b us ++ rows_joining directed a b vs
      left_joining a b = filter-append (λ (row : Numbered). joins directed a b (edge_of row)) us vs

      found_left : (a b : Elem) (t : Bool) → joins directed a b (edge_of r) ≡ t → found (ends directed a b) ≡ first_key (rows_joining directed a b (us ++ vs))
      found_left a b true j =
          let whole = ap length (joining_at a b us r vs ∙ ap (λ s. rows_joining directed a b us ++ cond s (r ∷ rows_joining directed a b vs) (rows_joining directed a b vs)) j) ∙ length-append (rows_joining directed a b us) (r ∷ rows_joining directed a b vs) in
          let one = h.apart a b in
          let count = ap length (left_joining a b) ∙ length-append (rows_joining directed a b us) (rows_joining directed a b vs) in
          let none = nothing (rows_joining directed a b (us ++ vs)) (omega arith) in
          finds (ends directed a b) ∙ ap (λ s. cond s None (find (ends directed a b))) (ends_join directed a b (edge_of r) ∙ j) ∙ sym (ap first_key none)
      found_left a b false j =
          finds (ends directed a b) ∙ ap (λ s. cond s None (find (ends directed a b))) (ends_join directed a b (edge_of r) ∙ j) ∙ h.found a b
          ∙ ap first_key (joining_at a b us r vs ∙ ap (λ s. rows_joining directed a b us ++ cond s (r ∷ rows_joining directed a b vs) (rows_joining directed a b vs)) j ∙ sym (left_joining a b))

      fewer : (xs : List Numbered) (t : Bool) (ys : List Numbered) → length (xs ++ ys) ≤ length (xs ++ cond t (r ∷ ys) ys)
      fewer [] true ys = omega arith
      fewer [] false ys = omega arith
      fewer (x ∷ xs) t ys = let n = fewer xs t ys in omega arith

      free_left : (p : ℕ) → new_place p ≡ None → NonePasses (same (number p)) (us ++ vs)
      free_left p e = by_case (nat_eq p r.1.place) refl
        where
          its_number : r.0 ≡ number r.1.place
          its_number = (all_right (λ (x : Numbered). x.0 ≡ number x.1.place) us (r ∷ vs) h.numbered).0

          by_case : (t : Bool) → nat_eq p r.1.place ≡ t → NonePasses (same (number p)) (us ++ vs)
          by_case true t = subst (λ n. NonePasses (same n) (us ++ vs)) (its_number ∙ ap number (sym ((Decides-eqb p r.1.place).0 t))) (distinct_without us r vs distinct).1
          by_case false t =
              let differs : p ≢ r.1.place = λ f. (let both = sym t ∙ (Decides-eqb p r.1.place).1 f in cc) in
              all_without (λ (x : Numbered). same (number p) x.0 ≡ false) us r vs (h.free p (sym (others p differs) ∙ e))

      pub dropped : AreEdges directed (us ++ vs) new_halves found new_place
      dropped = record {
        halves_equal = less ∙ sym (flat_map-append halves_of us vs);
        found = λ a b. found_left a b (joins directed a b (edge_of r)) refl;
        apart = λ a b.
            let more = ap length (joining_at a b us r vs) in
            let one = h.apart a b in
            let count = ap length (left_joining a b) in
            let less = fewer (rows_joining directed a b us) (joins directed a b (edge_of r)) (rows_joining directed a b vs) in
            omega arith;
        numbered = all_without (λ (x : Numbered). x.0 ≡ number x.1.place) us r vs h.numbered;
        free = free_left;
      }

    -- given another value
    pub valued : (v : Elem) (halves : List Row) (find : Ends → Option Elem) (place : ℕ → Option (Unit {0})) → AreEdges directed (us ++ r ∷ vs) halves find place → AreEdges directed (us ++ (r.0, record r.1 { value = v }) ∷ vs) halves find place
    valued v halves find place h =
        let s : Numbered = (r.0, record r.1 { value = v }) in
        record {
          halves_equal = h.halves_equal ∙ halves_at ∙ sym (flat_map-append halves_of us (s ∷ vs));
          found = λ a b.
              h.found a b ∙ ap first_key (joining_at a b us r vs) ∙ same_first (rows_joining directed a b us) r s (rows_joining directed a b vs) (joins directed a b (edge_of r)) refl ∙ sym (ap first_key (joining_at a b us s vs));
          apart = λ a b.
              let one = h.apart a b in
              let before = ap length (joining_at a b us r vs) in
              let equal = same_length (rows_joining directed a b us) r s (rows_joining directed a b vs) (joins directed a b (edge_of r)) in
              let after = ap length (joining_at a b us s vs) in
              omega arith;
          numbered =
              all_with (λ (x : Numbered). x.0 ≡ number x.1.place) us s vs (all_right (λ (x : Numbered). x.0 ≡ number x.1.place) us (r ∷ vs) h.numbered).0 (all_without (λ (x : Numbered). x.0 ≡ number x.1.place) us r vs h.numbered);
          free = λ p e.
              let n = h.free p e in
              all_with (λ (x : Numbered). same (number p) x.0 ≡ false) us s vs (all_right (λ (x : Numbered). same (number p) x.0 ≡ false) us (r ∷ vs) n).0 (all_without (λ (x : Numbered). same (number p) x.0 ≡ false) us r vs n);
        }
