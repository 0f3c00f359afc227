-- All edges, by the keys of their rows.
use Rattle.std.proofs.Common.{◌≡◌, ℕ, ◌+◌, List, Option, Some, None, refl, sym, ap, ◌∙◌, subst, slice_get, add-one}
use Rattle.std.specs.Prelude.{IsSome}
use Rattle.std.specs.Option.{option_map}
use Rattle.std.specs.Map.{lookup}
use Rattle.std.proofs.lemmas.Option.{slice_get-map}
use Rattle.elem.specs.declared.elements.Elem.{Elem}
use Rattle.elem.specs.Elements.{same}
use Rattle.elem.specs.ElementLaws.{same_equiv}
use Rattle.elem.specs.Keyed.{HasDistinctKeys}
use Rattle.elem.specs.Rows.{key_after}
use Rattle.graph_base.specs.Edges.{Edge}
use Rattle.network_base.specs.declared.named_edges.Joined.{Joined}
use Rattle.network_base.specs.NamedEdges.{Named, edge_of, edges_of}
use Rattle.graph_base.proofs.HalvesAt.{some_under}
use Rattle.graph_base.proofs.Positions.{key_of, nth_after, nth_found}

module _ (rows : List Named) where
  pub nth_of : (i : ℕ) → slice_get (edges_of rows) i ≡ option_map edge_of (slice_get rows i)
  nth_of i = slice_get-map edge_of rows i

  pub no_row : (i : ℕ) → option_map key_of (slice_get rows i) ≡ None → slice_get (edges_of rows) i ≡ None
  no_row i f = nth_of i ∙ ap (option_map edge_of) (none_at (slice_get rows i) f)
    where
      none_at : (o : Option Named) → option_map key_of o ≡ None → o ≡ None
      none_at None g = refl
      none_at (Some r) g = absurd (cc)

  module _ (distinct : HasDistinctKeys rows) where
    -- a key by its number
    module _ (i : ℕ) (x : Elem) (f : option_map key_of (slice_get rows i) ≡ Some x) where
      at_row : (r : Named) × (slice_get rows i ≡ Some r) × (r.0 ≡ x)
      at_row = some_under key_of (slice_get rows i) x f

      found : lookup (same x) rows ≡ Some at_row.0.1
      found = subst (λ k. lookup (same k) rows ≡ Some at_row.0.1) at_row.2 (nth_found same same_equiv rows i at_row.0 distinct at_row.1)

      pub key_present : IsSome (lookup (same x) rows)
      key_present = subst IsSome (sym found) refl

      pub key_edge : (z : Edge) → ((row : Joined) → lookup (same x) rows ≡ Some row → z ≡ (row.from, row.to, x)) → slice_get (edges_of rows) i ≡ Some z
      key_edge z g = nth_of i ∙ ap (option_map edge_of) at_row.1 ∙ ap (λ k. Some (at_row.0.1.from, at_row.0.1.to, k)) at_row.2 ∙ ap Some (sym (g at_row.0.1 found))

    -- an edge by its number, and the key after it
    module _ (k : ℕ) (z : Edge) (f : slice_get (edges_of rows) k ≡ Some z) where
      of_edge : (r : Named) × (slice_get rows k ≡ Some r) × (edge_of r ≡ z)
      of_edge = some_under edge_of (slice_get rows k) z (sym (nth_of k) ∙ f)

      name_of : of_edge.0.0 ≡ z.2
      name_of = ap (λ (y : Edge). y.2) of_edge.2

      pub edge_present : IsSome (lookup (same z.2) rows)
      edge_present = subst (λ x. IsSome (lookup (same x) rows)) name_of (subst IsSome (sym (nth_found same same_equiv rows k of_edge.0 distinct of_edge.1)) refl)

      pub next_key : key_after (same z.2) rows ≡ option_map key_of (slice_get rows (k + 1))
      next_key = ap (λ x. key_after (same x) rows) (sym name_of) ∙ nth_after same same_equiv rows k of_edge.0 distinct of_edge.1 ∙ ap (λ n. option_map key_of (slice_get rows n)) (sym (add-one k))

      -- the row that its look-up tells stands at its number
      pub edge_row_at : (row : Joined) → lookup (same z.2) rows ≡ Some row → slice_get rows k ≡ Some (z.2, row)
      edge_row_at row g =
          let its : lookup (same z.2) rows ≡ Some of_edge.0.1 = subst (λ x. lookup (same x) rows ≡ Some of_edge.0.1) name_of (nth_found same same_equiv rows k of_edge.0 distinct of_edge.1) in
          let equal = inside of_edge.0.1 row (sym its ∙ g) in
          of_edge.1 ∙ (λ i. Some (name_of i, equal i))
        where
          inside : (x y : Joined) → ◌≡◌ {A = Option Joined} (Some x) (Some y) → x ≡ y
          inside x y h = cc
