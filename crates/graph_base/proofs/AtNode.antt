-- The edge behind another at a node, by the number that its ends find.
use Rattle.std.proofs.Common.{◌≡◌, ℕ, Bool, true, cond, List, ◌∷◌, ◌++◌, length, Option, Some, sym, ap, ◌∙◌, slice_get, ◌+◌, arith, length-append}
use Rattle.std.specs.Prelude.{IsSome, ◌||◌, ◌&&◌, not, nat_eq}
use Rattle.std.specs.List.{flat_map}
use Rattle.std.specs.Map.{lookup}
use Rattle.elem.specs.declared.elements.Elem.{Elem}
use Rattle.elem.specs.Elements.{same}
use Rattle.elem.specs.ElementLaws.{same_equiv}
use Rattle.elem.specs.Keyed.{HasDistinctKeys}
use Rattle.elem.specs.Rows.{first_key, key_after}
use Rattle.mm_base.specs.PairRows.{Row, HasDistinctIds, IsLive, rows_beside, id_of, pair_of}
use Rattle.graph_base.specs.declared.edge_row.EdgeRow.{EdgeRow}
use Rattle.graph_base.specs.Edges.{Edge, joins, is_at, incident}
use Rattle.graph_base.specs.Ends.{Ends, ends}
use Rattle.graph_base.specs.EdgeRows.{Numbered, edge_of, edges_of, halves_of, rows_joining, AreEdges}
use Rattle.graph_base.proofs.Cuts.{nth_cut, nothing}
use Rattle.graph_base.proofs.EdgeRowsSteps.{joining_at}
use Rattle.graph_base.proofs.HalvesAt.{Ended, of_edge}
use Rattle.graph_base.proofs.HalvesAt as halves_at

-- a row of a number
abbrev pub numbered : Ended EdgeRow
numbered = record {
  from = λ (row : EdgeRow). row.from;
  to = λ (row : EdgeRow). row.to;
  first = λ (row : EdgeRow). row.first;
  second = λ (row : EdgeRow). row.second;
  value = λ (row : Numbered). row.1.value;
}

module _ (a : Elem) (rows : List Numbered) (halves : List Row) (e : halves ≡ flat_map halves_of rows) (ids : HasDistinctIds halves) (keys : HasDistinctKeys rows) (k : ℕ) (z : Edge) (f : slice_get (incident a (edges_of rows)) k ≡ Some z) where
  -- the row of edge number k at the node
  abbrev pub its_row : (r : Numbered) × (slice_get (halves_at.rows_at numbered a rows) k ≡ Some r) × (edge_of r ≡ z)
  its_row = of_edge numbered a rows halves e ids keys k z f

  -- the ends of the edge find its number
  module _ (d : Bool) (find : Ends → Option Elem) (place : ℕ → Option (Unit {0})) (h : AreEdges d rows halves find place) where
    pub number_found : find (ends d z.0 z.1) ≡ Some its_row.0.0
    number_found =
        let r : Numbered = its_row.0 in
        let cut = nth_cut (λ row. is_at a (edge_of row)) rows k r its_row.1 in
        let joining : List Numbered → List Numbered = λ rs. rows_joining d z.0 z.1 rs in
        let joined : joins d z.0 z.1 (edge_of r) ≡ true = ap (joins d z.0 z.1) its_row.2 ∙ (λ i. (same_equiv.refl z.0 i && same_equiv.refl z.1 i) || (not d && (same z.1 z.0 && same z.0 z.1))) in
        let split : joining rows ≡ joining cut.0 ++ r ∷ joining cut.1 = ap joining cut.2 ∙ joining_at d z.0 z.1 cut.0 r cut.1 ∙ ap (λ t. joining cut.0 ++ cond t (r ∷ joining cut.1) (joining cut.1)) joined in
        let one = h.apart z.0 z.1 in
        let count = ap length split ∙ length-append (joining cut.0) (r ∷ joining cut.1) in
        let none = nothing (joining cut.0) (omega arith) in
        h.found z.0 z.1 ∙ ap first_key (split ∙ ap (λ rs. rs ++ r ∷ joining cut.1) none)

    -- its row by that number, its half at the node, and the one behind it
    module _ (n : Elem) (found : find (ends d z.0 z.1) ≡ Some n) where
      own : its_row.0.0 ≡ n
      own = inside (sym number_found ∙ found)
        where
          inside : {x y : Elem} → ◌≡◌ {A = Option Elem} (Some x) (Some y) → x ≡ y
          inside p = cc

      pub row_there : IsSome (lookup (same n) rows)
      row_there = halves_at.edge_row numbered a rows halves e ids keys k z f n own

      module _ (row : EdgeRow) (g : lookup (same n) rows ≡ Some row) (q : ℕ) (half : q ≡ cond (same a row.from) row.first row.second) where
        pub edge_half_live : IsLive halves q
        edge_half_live = halves_at.edge_half_live numbered a rows halves e ids keys k z f n own row g q half

        pub next_half : key_after (nat_eq q) (rows_beside (pair_of halves q) halves) ≡ id_of a (k + 1) halves
        next_half = halves_at.next_half numbered a rows halves e ids keys k z f n own row g q half
