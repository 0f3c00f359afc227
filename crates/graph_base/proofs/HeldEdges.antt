-- What the fields of edge rows hold, and what each call makes of it.
use Rattle.std.proofs.Common.{◌≡◌, ◌≢◌, ◌≤◌, ℕ, Bool, true, false, cond, List, [], ◌∷◌, ◌++◌, map, length, Option, Some, None, refl, sym, ap, ◌∙◌, subst, arith}
use Rattle.std.specs.Prelude.{IsSome}
use Rattle.std.specs.List.{flat_map, IsDistinct}
use Rattle.std.specs.Map.{lookup, remove_entry, set_value, keys_of}
use Rattle.std.proofs.lemmas.Map.{NonePasses}
use Rattle.std.proofs.lemmas.List.{map-append, length-map}
use Rattle.elem.specs.declared.elements.Elem.{Elem}
use Rattle.elem.specs.Elements.{same}
use Rattle.elem.specs.ElementLaws.{same_equiv}
use Rattle.elem.specs.Keyed.{HasDistinctKeys}
use Rattle.elem.proofs.RowsLemmas.{lookup_at, remove_at, set_value_at}
use Rattle.linked_base.proofs.KeyedLemmas.{distinct_without, none_left}
use Rattle.mm_base.specs.PairRows.{Row}
use Rattle.graph_base.specs.declared.edge_row.EdgeRow.{EdgeRow}
use Rattle.graph_base.specs.Edges.{joins, joining, edge_joining, with_edge, without_edge}
use Rattle.graph_base.specs.Ends.{Ends, same_ends, ends}
use Rattle.graph_base.specs.Numbers.{number}
use Rattle.graph_base.specs.EdgeRows.{Numbered, edge_of, edges_of, halves_of, rows_joining, AreEdges}
use Rattle.graph_base.proofs.Cuts.{filter-map, all_right}
use Rattle.graph_base.proofs.EndsLemmas.{same_ends_of, same_ends-Decides}
use Rattle.graph_base.proofs.EdgesLemmas.{with_new, with_there, without_there, without_absent, edge_there, edge_absent, none_before, none_joining}
use Rattle.graph_base.proofs.EdgeRowsSteps.{found_cut, found_none, halves_at, dropped, valued, added}

pub joining_rows : (d : Bool) (a b : Elem) (rows : List Numbered) → joining d a b (edges_of rows) ≡ map edge_of (rows_joining d a b rows)
joining_rows d a b rows = filter-map (joins d a b) edge_of rows

module _ (d : Bool) (rows : List Numbered) (halves : List Row) (find : Ends → Option Elem) (place : ℕ → Option (Unit {0})) (h : AreEdges d rows halves find place) (a b : Elem) where
  pub apart_held : length (joining d a b (edges_of rows)) ≤ 1
  apart_held =
      let one = h.apart a b in
      let count = ap length (joining_rows d a b rows) ∙ length-map (rows_joining d a b rows) edge_of in
      omega arith

  -- no number is found
  module _ (e : find (ends d a b) ≡ None) where
    pub none_joins : joining d a b (edges_of rows) ≡ []
    none_joins = joining_rows d a b rows ∙ ap (map edge_of) (found_none d a b rows (sym (h.found a b) ∙ e))

    pub no_edge : edge_joining d a b (edges_of rows) ≡ None
    no_edge = edge_absent d a b (edges_of rows) none_joins

    pub all_stay : without_edge d a b (edges_of rows) ≡ edges_of rows
    all_stay = without_absent d a b (edges_of rows) none_joins

  -- a number is found
  module _ (n : Elem) (e : find (ends d a b) ≡ Some n) (distinct : HasDistinctKeys rows) where
    cut : (us : List Numbered) × (vs : List Numbered) × (r : Numbered) × (rows ≡ us ++ r ∷ vs) × (r.0 ≡ n) × (joins d a b (edge_of r) ≡ true)
    cut = found_cut d a b rows n (sym (h.found a b) ∙ e)

    before : NonePasses (same n) cut.0
    before = subst (λ k. NonePasses (same k) cut.0) cut.4 (none_left (same cut.2.0) cut.0 cut.1 (distinct_without cut.0 cut.2 cut.1 (subst (λ rs. IsDistinct same (keys_of rs)) cut.3 distinct)).1)

    passes : same n cut.2.0 ≡ true
    passes = ap (same n) cut.4 ∙ same_equiv.refl n

    own : lookup (same n) rows ≡ Some cut.2.1
    own = ap (lookup (same n)) cut.3 ∙ lookup_at (same n) cut.0 cut.2 cut.1 before passes

    pub row_there : IsSome (lookup (same n) rows)
    row_there = subst IsSome (sym own) refl

    module _ (row : EdgeRow) (g : lookup (same n) rows ≡ Some row) where
      same_row : cut.2 ≡ (n, row)
      same_row =
          let equal : cut.2.1 ≡ row = inside (sym own ∙ g) in
          let key = cut.4 in
          (λ i. (key i, equal i))
        where
          inside : {x y : EdgeRow} → ◌≡◌ {A = Option EdgeRow} (Some x) (Some y) → x ≡ y
          inside p = cc

      at_cut : rows ≡ cut.0 ++ (n, row) ∷ cut.1
      at_cut = cut.3 ∙ ap (λ r. cut.0 ++ r ∷ cut.1) same_row

      pub joins_row : joins d a b (edge_of (n, row)) ≡ true
      joins_row = ap (λ r. joins d a b (edge_of r)) (sym same_row) ∙ cut.5

      edges_at : edges_of rows ≡ edges_of cut.0 ++ edge_of (n, row) ∷ edges_of cut.1
      edges_at = ap edges_of at_cut ∙ map-append edge_of cut.0 ((n, row) ∷ cut.1)

      one : length (joining d a b (edges_of cut.0 ++ edge_of (n, row) ∷ edges_of cut.1)) ≤ 1
      one = subst (λ es. length (joining d a b es) ≤ 1) edges_at apart_held

      pub its_edge : edge_joining d a b (edges_of rows) ≡ Some (edge_of (n, row))
      its_edge = ap (edge_joining d a b) edges_at ∙ edge_there d a b (edge_of (n, row)) (edges_of cut.1) joins_row (edges_of cut.0) one

      held_at_cut : AreEdges d (cut.0 ++ (n, row) ∷ cut.1) halves find place
      held_at_cut = subst (λ rs. AreEdges d rs halves find place) at_cut h

      distinct_at_cut : IsDistinct same (keys_of (cut.0 ++ (n, row) ∷ cut.1))
      distinct_at_cut = subst (λ rs. IsDistinct same (keys_of rs)) at_cut distinct

      -- its value written
      module _ (v : Elem) where
        set_at_cut : set_value (same n) rows (record row { value = v }) ≡ cut.0 ++ (n, record row { value = v }) ∷ cut.1
        set_at_cut = ap (λ rs. set_value (same n) rs (record row { value = v })) at_cut ∙ set_value_at (same n) cut.0 (n, row) cut.1 (record row { value = v }) before (same_equiv.refl n)

        pub written : AreEdges d (set_value (same n) rows (record row { value = v })) halves find place
        written = subst (λ rs. AreEdges d rs halves find place) (sym set_at_cut) (valued d cut.0 (n, row) cut.1 v halves find place held_at_cut)

        pub written_edges : edges_of (set_value (same n) rows (record row { value = v })) ≡ with_edge d a b v (edges_of rows)
        written_edges =
            ap edges_of set_at_cut ∙ map-append edge_of cut.0 ((n, record row { value = v }) ∷ cut.1)
            ∙ sym (ap (with_edge d a b v) edges_at ∙ with_there d a b (edge_of (n, row)) (edges_of cut.1) joins_row v (edges_of cut.0) (none_before d a b (edge_of (n, row)) (edges_of cut.1) joins_row (edges_of cut.0) one))

      -- it is taken out
      halves_cut : halves ≡ flat_map halves_of cut.0 ++ (halves_of (n, row) ++ flat_map halves_of cut.1)
      halves_cut = h.halves_equal ∙ ap (flat_map halves_of) at_cut ∙ halves_at d cut.0 (n, row) cut.1

      pub its_halves : (us : List Row) × (vs : List Row) × (halves ≡ us ++ (halves_of (n, row) ++ vs))
      its_halves = (flat_map halves_of cut.0, flat_map halves_of cut.1, halves_cut)

      pub its_place : n ≡ number row.place
      its_place = (all_right (λ (x : Numbered). x.0 ≡ number x.1.place) cut.0 ((n, row) ∷ cut.1) held_at_cut.numbered).0

      pub place_taken : IsSome (place row.place)
      place_taken = by_case (place row.place) refl
        where
          by_case : (o : Option (Unit {0})) → place row.place ≡ o → IsSome o
          by_case None f =
              let none = held_at_cut.free row.place f in
              let fails = (all_right (λ (x : Numbered). same (number row.place) x.0 ≡ false) cut.0 ((n, row) ∷ cut.1) none).0 in
              let holds = ap (λ k. same k n) (sym its_place) ∙ same_equiv.refl n in
              let both = sym fails ∙ holds in
              absurd (cc)
          by_case (Some x) f = refl

      removed_at_cut : remove_entry (same n) rows ≡ cut.0 ++ cut.1
      removed_at_cut = ap (remove_entry (same n)) at_cut ∙ remove_at (same n) cut.0 (n, row) cut.1 before (same_equiv.refl n)

      pub removed : (new_halves : List Row) (found : Ends → Option Elem) (new_place : ℕ → Option (Unit {0})) → ((us vs : List Row) → halves ≡ us ++ (halves_of (n, row) ++ vs) → new_halves ≡ us ++ vs)
          → ((q : Ends) → found q ≡ cond (same_ends (ends d a b) q) None (find q)) → ((p : ℕ) → p ≢ row.place → new_place p ≡ place p) → AreEdges d (remove_entry (same n) rows) new_halves found new_place
      removed new_halves found new_place less finds others =
          let key = same_ends_of d a b (edge_of (n, row)) joins_row in
          subst (λ rs. AreEdges d rs new_halves found new_place) (sym removed_at_cut)
          (dropped d cut.0 (n, row) cut.1 halves new_halves find found place new_place held_at_cut distinct_at_cut (less (flat_map halves_of cut.0) (flat_map halves_of cut.1) halves_cut) (λ q. finds q ∙ ap (λ k. cond (same_ends k q) None (find q)) key) others)

      pub removed_edges : edges_of (remove_entry (same n) rows) ≡ without_edge d a b (edges_of rows)
      removed_edges = ap edges_of removed_at_cut ∙ map-append edge_of cut.0 cut.1 ∙ sym (ap (without_edge d a b) edges_at ∙ without_there d a b (edge_of (n, row)) (edges_of cut.1) joins_row (edges_of cut.0) one)

  -- one put last
  pub added_edges : (n : Elem) (row : EdgeRow) → edge_joining d a b (edges_of rows) ≡ None → row.from ≡ a → row.to ≡ b → edges_of (rows ++ (n, row) ∷ []) ≡ with_edge d a b row.value (edges_of rows)
  added_edges n row e f g =
      map-append edge_of rows ((n, row) ∷ []) ∙ (λ i. edges_of rows ++ (f i, g i, row.value) ∷ []) ∙ sym (with_new d a b row.value (edges_of rows) (none_joining d a b (edges_of rows) e))

  pub none_joined : edge_joining d a b (edges_of rows) ≡ None → rows_joining d a b rows ≡ []
  none_joined e = no_map (rows_joining d a b rows) (sym (joining_rows d a b rows) ∙ none_joining d a b (edges_of rows) e)
    where
      no_map : (rs : List Numbered) → map edge_of rs ≡ [] → rs ≡ []
      no_map [] p = refl
      no_map (r ∷ rs) p = absurd (cc)

-- nothing was found, and so nothing taken
pub taken_none : (find found : Ends → Option Elem) (k : Ends) → find k ≡ None → ((q : Ends) → found q ≡ cond (same_ends k q) None (find q)) → (q : Ends) → found q ≡ find q
taken_none find found k e finds q = by_case (same_ends k q) refl
  where
    by_case : (t : Bool) → same_ends k q ≡ t → found q ≡ find q
    by_case true t = finds q ∙ ap (λ s. cond s None (find q)) t ∙ sym (ap find (sym ((same_ends-Decides k q).0 t)) ∙ e)
    by_case false t = finds q ∙ ap (λ s. cond s None (find q)) t

-- an edge put last, under the number of a free place
module _ (d : Bool) (rows new_rows : List Numbered) (halves new_halves : List Row) (find found : Ends → Option Elem) (place new_place : ℕ → Option (Unit {0})) (k : ℕ) (n : Elem) (row : EdgeRow) (own : row.place ≡ k) (h : AreEdges d rows halves find place)
    (absent : edge_joining d row.from row.to (edges_of rows) ≡ None) (numbered : n ≡ number k) where
  pub pushed : new_rows ≡ rows ++ (n, row) ∷ [] → new_halves ≡ halves ++ halves_of (n, row) → ((q : Ends) → found q ≡ cond (same_ends (ends d row.from row.to) q) (Some n) (find q)) → (new_place k ≡ Some tt) × ((p : ℕ) → p ≢ k → new_place p ≡ place p) → AreEdges d new_rows new_halves found new_place
  pushed rows_are halves_are finds u =
      let none = none_joined d rows halves find place h row.from row.to absent in
      let after = added d rows halves find found place new_place k row own h none (λ q. finds q ∙ ap (λ z. cond (same_ends (ends d row.from row.to) q) (Some z) (find q)) numbered) u.0 u.1 in
      subst (λ rs. AreEdges d rs new_halves found new_place) (sym (rows_are ∙ ap (λ z. rows ++ (z, row) ∷ []) numbered)) (subst (λ hs. AreEdges d (rows ++ (number k, row) ∷ []) hs found new_place) (sym (halves_are ∙ ap (λ z. halves ++ halves_of (z, row)) numbered)) after)
