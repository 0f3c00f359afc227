-- The edge behind another at a node, by its element.
use Rattle.std.proofs.Common.{◌≡◌, ℕ, ◌+◌, cond, List, Some, ap, slice_get}
use Rattle.std.specs.Prelude.{IsSome, nat_eq}
use Rattle.std.specs.List.{flat_map}
use Rattle.std.specs.Map.{lookup}
use Rattle.elem.specs.declared.elements.Elem.{Elem}
use Rattle.elem.specs.Elements.{same}
use Rattle.elem.specs.Keyed.{HasDistinctKeys}
use Rattle.elem.specs.Rows.{key_after}
use Rattle.mm_base.specs.PairRows.{Row, HasDistinctIds, IsLive, rows_beside, id_of, pair_of}
use Rattle.graph_base.specs.Edges.{Edge, incident}
use Rattle.graph_base.proofs.HalvesAt.{Ended, of_edge}
use Rattle.graph_base.proofs.HalvesAt as halves_at
use Rattle.network_base.specs.declared.named_edges.Joined.{Joined}
use Rattle.network_base.specs.NamedEdges.{Named, edges_of, halves_of}

-- a row of an edge
abbrev pub named : Ended Joined
named = record {
  from = λ (row : Joined). row.from;
  to = λ (row : Joined). row.to;
  first = λ (row : Joined). row.first;
  second = λ (row : Joined). row.second;
  value = λ (row : Named). row.0;
}

module _ (a : Elem) (rows : List Named) (halves : List Row) (e : halves ≡ flat_map halves_of rows) (ids : HasDistinctIds halves) (keys : HasDistinctKeys rows) (k : ℕ) (z : Edge) (f : slice_get (incident a (edges_of rows)) k ≡ Some z) where
  own : (of_edge named a rows halves e ids keys k z f).0.0 ≡ z.2
  own = ap (λ (y : Edge). y.2) (of_edge named a rows halves e ids keys k z f).2

  pub edge_row : IsSome (lookup (same z.2) rows)
  edge_row = halves_at.edge_row named a rows halves e ids keys k z f z.2 own

  module _ (row : Joined) (g : lookup (same z.2) rows ≡ Some row) (q : ℕ) (half : q ≡ cond (same a row.from) row.first row.second) where
    pub edge_half_live : IsLive halves q
    edge_half_live = halves_at.edge_half_live named a rows halves e ids keys k z f z.2 own row g q half

    pub next_half : key_after (nat_eq q) (rows_beside (pair_of halves q) halves) ≡ id_of a (k + 1) halves
    next_half = halves_at.next_half named a rows halves e ids keys k z f z.2 own row g q half
