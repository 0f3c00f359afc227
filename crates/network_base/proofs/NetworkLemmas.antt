-- A network's nodes, edges and counts after each call.
use Rattle.std.proofs.Common.{◌≡◌, ◌+◌, Bool, true, false, cond, not, List, [], ◌∷◌, ◌++◌, length, Option, Some, None, refl, sym, ap, ◌∙◌, subst, arith, slice_get}
use Rattle.std.specs.Prelude.{IsSome}
use Rattle.std.specs.List.{filter, IsDistinct}
use Rattle.std.specs.Map.{keys_of}
use Rattle.std.proofs.lemmas.List.Elements.{filter-append}
use Rattle.elem.specs.declared.elements.Elem.{Elem}
use Rattle.elem.specs.Elements.{same}
use Rattle.elem.specs.ElementLaws.{same-Decides}
use Rattle.elem.specs.Keyed.{value_at, HasDistinctKeys}
use Rattle.mm_base.proofs.KeyedRowsLemmas.{contains_keys}
use Rattle.graph_base.specs.declared.degrees.Degrees.{Degrees}
use Rattle.graph_base.specs.Edges.{Edge, joins, is_at, incident, without_edges_at}
use Rattle.graph_base.specs.Graphs.{HasEnds, HasNoLoop}
use Rattle.graph_base.specs.Counted.{AreGraph}
use Rattle.graph_base.proofs.Cuts.{nth_cut, all_map, all_join}
use Rattle.graph_base.proofs.CountedLemmas.{one, count_cut}
use Rattle.network_base.specs.Held.{network}
use Rattle.network_base.specs.Networks.{names, ends_of, without_edge, are_others, IsNetwork}
use Rattle.network_base.proofs.NamedLemmas.{without_at}

-- an edge that is found stands at a cut
pub edge_cut : (x : Elem) (edges : List Edge) (p : Elem × Elem) → ends_of x edges ≡ Some p → (us : List Edge) × (vs : List Edge) × (edges ≡ us ++ (p.0, p.1, x) ∷ vs)
edge_cut x [] p e = absurd (cc)
edge_cut x (k ∷ edges) p e = by_case (same x k.2) refl (edge_cut x edges p) e
  where
    by_case : (t : Bool) → same x k.2 ≡ t → (ends_of x edges ≡ Some p → (us : List Edge) × (vs : List Edge) × (edges ≡ us ++ (p.0, p.1, x) ∷ vs)) → cond t (Some (k.0, k.1)) (ends_of x edges) ≡ Some p → (us : List Edge) × (vs : List Edge) × (k ∷ edges ≡ us ++ (p.0, p.1, x) ∷ vs)
    by_case true t rest f =
        let key : k.2 ≡ x = sym ((same-Decides x k.2).0 t) in
        let equal : (k.0, k.1) ≡ p = inside (k.0, k.1) p f in
        ([], edges, (λ i. ((equal i).0, (equal i).1, key i) ∷ edges))
      where
        inside : (y z : Elem × Elem) → ◌≡◌ {A = Option (Elem × Elem)} (Some y) (Some z) → y ≡ z
        inside y z h = cc
    by_case false t rest f = let c = rest f in (k ∷ c.0, c.1, ap (λ l. k ∷ l) c.2)

-- the edge that is found goes
module _ (x : Elem) (edges : List Edge) (distinct : IsDistinct same (names edges)) (p : Elem × Elem) (e : ends_of x edges ≡ Some p) where
  pub found_cut : (us : List Edge) × (vs : List Edge) × (edges ≡ us ++ (p.0, p.1, x) ∷ vs) × (without_edge x edges ≡ us ++ vs)
  found_cut =
      let c = edge_cut x edges p e in
      (c.0, c.1, c.2, ap (without_edge x) c.2 ∙ without_at c.0 (p.0, p.1, x) c.1 (subst (λ es. IsDistinct same (names es)) c.2 distinct))

-- an edge at a node goes
module _ (edges : List Edge) (distinct : IsDistinct same (names edges)) (a : Elem) (e : Edge) (f : slice_get (incident a edges) 0 ≡ Some e) where
  cut : (us : List Edge) × (vs : List Edge) × (edges ≡ us ++ e ∷ vs) × (is_at a e ≡ true)
  cut = nth_cut (is_at a) edges 0 e f

  gone : without_edge e.2 edges ≡ cut.0 ++ cut.1
  gone = ap (without_edge e.2) cut.2 ∙ without_at cut.0 e cut.1 (subst (λ es. IsDistinct same (names es)) cut.2 distinct)

  pub others_stay : without_edges_at a (without_edge e.2 edges) ≡ without_edges_at a edges
  others_stay =
      let test : Edge → Bool = λ x. not (is_at a x) in
      ap (without_edges_at a) gone ∙ filter-append test cut.0 cut.1 ∙ ap (λ t. filter test cut.0 ++ cond (not t) (e ∷ filter test cut.1) (filter test cut.1)) (sym cut.3) ∙ sym (ap (without_edges_at a) cut.2 ∙ filter-append test cut.0 (e ∷ cut.1))

  pub one_fewer : length (incident a (without_edge e.2 edges)) + 1 ≡ length (incident a edges)
  one_fewer =
      let fewer = ap (λ es. length (incident a es)) gone in
      let whole = ap (λ es. length (incident a es)) cut.2 ∙ count_cut (is_at a) cut.0 e cut.1 in
      let here = ap one cut.3 in
      omega arith

-- a valid network
pub valid : (nodes : List (Elem × Degrees)) (edges : List Edge) (directed loops : Bool) → AreGraph (value_at nodes) nodes edges loops → HasDistinctKeys nodes → IsDistinct same (names edges) → IsNetwork (network nodes edges directed loops)
valid nodes edges directed loops h distinct apart = record {
  distinct_nodes = distinct;
  distinct_edges = apart;
  ends = all_map (λ (k : Edge). IsSome (value_at nodes k.0) × IsSome (value_at nodes k.1)) (HasEnds (keys_of nodes)) (λ k s. (contains_keys k.0 nodes ∙ s.0, contains_keys k.1 nodes ∙ s.1)) edges h.counts.ends;
  no_loops = h.no_loops;
}

-- one more edge, which is no loop
pub no_loop_last : (a b x : Elem) (edges : List Edge) → same a b ≡ false → HasNoLoop edges → HasNoLoop (edges ++ (a, b, x) ∷ [])
no_loop_last a b x edges f h = all_join (λ (e : Edge). same e.0 e.1 ≡ false) edges ((a, b, x) ∷ []) h (f, tt)

-- the test of the ends that are there
pub others_at : (directed : Bool) (a b x : Elem) (o : Option (Elem × Elem)) (p : Elem × Elem) → o ≡ Some p → are_others directed a b x o ≡ not (joins directed a b (p.0, p.1, x))
others_at directed a b x o p e = ap (are_others directed a b x) e

pub no_others : (directed : Bool) (a b x : Elem) (o : Option (Elem × Elem)) → o ≡ None → are_others directed a b x o ≡ true → ⊥
no_others directed a b x o e f = let both = sym (ap (are_others directed a b x) e) ∙ f in cc
