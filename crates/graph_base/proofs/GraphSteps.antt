-- Nodes and edges of a graph together, where a node or an edge is put in or taken out.
use Rattle.std.proofs.Common.{◌≡◌, suc, ◌+◌, ◌≤◌, Bool, true, false, cond, not, List, [], ◌∷◌, ◌++◌, length, Option, Some, None, refl, sym, ap, ◌∙◌, subst, arith, slice_get, append-nil}
use Rattle.std.specs.Prelude.{IsSome, is_some, ◌||◌, ◌&&◌}
use Rattle.std.specs.List.{filter, AllByRecursion}
use Rattle.std.specs.Map.{lookup, keys_of}
use Rattle.std.proofs.lemmas.Map.{NonePasses, none_passes_from_lookup}
use Rattle.std.proofs.lemmas.List.Elements.{filter-append}
use Rattle.elem.specs.declared.elements.Elem.{Elem}
use Rattle.elem.specs.Elements.{same}
use Rattle.elem.specs.ElementLaws.{same-Decides, same_equiv}
use Rattle.elem.specs.Keyed.{value_at}
use Rattle.linked_base.proofs.KeyedLemmas.{lookup_with}
use Rattle.mm_base.specs.KeyedRows.{contains, with_key}
use Rattle.mm_base.proofs.KeyedRowsLemmas.{contains_keys, keys_last, not_not}
use Rattle.graph_base.specs.declared.degrees.Degrees.{Degrees}
use Rattle.graph_base.specs.Edges.{Edge, joins, joining, edge_joining, without_edge, is_at, incident, without_edges_at}
use Rattle.graph_base.specs.Degrees.{out_of, into}
use Rattle.graph_base.specs.Graphs.{AreApart}
use Rattle.graph_base.specs.Counted.{no_degrees, with_new, AreCounted}
use Rattle.graph_base.proofs.Cuts.{nth_cut, none_pass, nothing, all_map}
use Rattle.graph_base.proofs.CountedLemmas.{one, count_cut}
use Rattle.graph_base.proofs.EdgesLemmas.{without_there, without_absent, none_joining}
use Rattle.graph_base.proofs.NodesLemmas.{absent_key}

-- edges whose ends are other nodes
module _ (find : Elem → Option Degrees) (a : Elem) (none : find a ≡ None) where
  is_other : (x : Elem) → IsSome (find x) → same a x ≡ false
  is_other x s = by_case (same a x) refl
    where
      by_case : (t : Bool) → same a x ≡ t → t ≡ false
      by_case true t = let gone = subst (λ y. IsSome (find y)) (sym ((same-Decides a x).0 t)) s in let both = sym (ap is_some none) ∙ gone in absurd (cc)
      by_case false t = refl

  pub none_out : (edges : List Edge) → AllByRecursion (λ (e : Edge). IsSome (find e.0) × IsSome (find e.1)) edges → out_of a edges ≡ 0
  none_out [] h = refl
  none_out (e ∷ edges) h = ap (λ t. length (cond t (e ∷ filter (λ (x : Edge). same a x.0) edges) (filter (λ (x : Edge). same a x.0) edges))) (is_other e.0 h.0.0) ∙ none_out edges h.1

  pub none_into : (edges : List Edge) → AllByRecursion (λ (e : Edge). IsSome (find e.0) × IsSome (find e.1)) edges → into a edges ≡ 0
  none_into [] h = refl
  none_into (e ∷ edges) h = ap (λ t. length (cond t (e ∷ filter (λ (x : Edge). same a x.1) edges) (filter (λ (x : Edge). same a x.1) edges))) (is_other e.1 h.0.1) ∙ none_into edges h.1

  -- the node is at no edge
  pub none_at : (edges : List Edge) → AllByRecursion (λ (e : Edge). IsSome (find e.0) × IsSome (find e.1)) edges → without_edges_at a edges ≡ edges
  none_at [] h = refl
  none_at (e ∷ edges) h = (λ i. cond (not (is_other e.0 h.0.0 i || is_other e.1 h.0.1 i)) (e ∷ none_at edges h.1 i) (none_at edges h.1 i))

-- a node put, where it is new
module _ (nodes : List (Elem × Degrees)) (a : Elem) where
  pub new_keys : (new : Bool) → new ≡ not (contains a (keys_of nodes)) → keys_of (with_new new a nodes) ≡ with_key a (keys_of nodes)
  new_keys true e = keys_last nodes a no_degrees ∙ ap (λ t. cond t (keys_of nodes) (keys_of nodes ++ a ∷ [])) (ap not e ∙ not_not (contains a (keys_of nodes)))
  new_keys false e = ap (λ t. cond t (keys_of nodes) (keys_of nodes ++ a ∷ [])) (ap not e ∙ not_not (contains a (keys_of nodes)))

  put_finds : lookup (same a) nodes ≡ None → (x : Elem) → value_at (nodes ++ (a, no_degrees) ∷ []) x ≡ cond (same a x) (Some no_degrees) (value_at nodes x)
  put_finds e x =
      lookup_with nodes a no_degrees [] (subst (NonePasses (same a)) (sym (append-nil nodes)) (none_passes_from_lookup (same a) nodes e)) x ∙ ap (λ rs. cond (same a x) (Some no_degrees) (lookup (same x) rs)) (append-nil nodes)

  pub new_stays : (new : Bool) → new ≡ not (contains a (keys_of nodes)) → (x : Elem) → IsSome (value_at nodes x) → IsSome (value_at (with_new new a nodes) x)
  new_stays false e x s = s
  new_stays true e x s = subst IsSome (sym (put_finds (absent_key nodes a (sym (not_not (contains a (keys_of nodes))) ∙ ap not (sym e))) x)) (by_case (same a x))
    where
      by_case : (t : Bool) → IsSome (cond t (Some no_degrees) (value_at nodes x))
      by_case true = refl
      by_case false = s

  pub new_there : (new : Bool) → new ≡ not (contains a (keys_of nodes)) → IsSome (value_at (with_new new a nodes) a)
  new_there false e = sym (contains_keys a nodes) ∙ sym (not_not (contains a (keys_of nodes))) ∙ ap not (sym e)
  new_there true e =
      subst IsSome (sym (put_finds (absent_key nodes a (sym (not_not (contains a (keys_of nodes))) ∙ ap not (sym e))) a)) (ap (λ t. is_some (cond t (Some no_degrees) (value_at nodes a))) (same_equiv.refl a))

  pub new_counted : (new : Bool) → new ≡ not (contains a (keys_of nodes)) → (edges : List Edge) → AreCounted (value_at nodes) edges → AreCounted (value_at (with_new new a nodes)) edges
  new_counted false e edges c = c
  new_counted true e edges c = record {
    ends = all_map (λ (k : Edge). IsSome (value_at nodes k.0) × IsSome (value_at nodes k.1)) (λ (k : Edge). IsSome (value_at (with_new true a nodes) k.0) × IsSome (value_at (with_new true a nodes) k.1)) (λ k s. (new_stays true e k.0 s.0, new_stays true e k.1 s.1)) edges c.ends;
    counted = λ x d q. by_case x d (same a x) refl (sym (put_finds none x) ∙ q);
  }
    where
      none : lookup (same a) nodes ≡ None
      none = absent_key nodes a (sym (not_not (contains a (keys_of nodes))) ∙ ap not (sym e))

      inside : (y z : Degrees) → ◌≡◌ {A = Option Degrees} (Some y) (Some z) → y ≡ z
      inside y z p = cc

      by_case : (x : Elem) (d : Degrees) (t : Bool) → same a x ≡ t → cond (same a x) (Some no_degrees) (value_at nodes x) ≡ Some d → (d.leaving ≡ out_of x edges) × (d.entering ≡ into x edges)
      by_case x d true t q =
          let equal = inside no_degrees d (sym (ap (λ s. cond s (Some no_degrees) (value_at nodes x)) t) ∙ q) in
          let own = (same-Decides a x).0 t in
          (ap (λ (y : Degrees). y.leaving) (sym equal) ∙ sym (none_out (value_at nodes) a none edges c.ends) ∙ ap (λ y. out_of y edges) own, ap (λ (y : Degrees). y.entering) (sym equal) ∙ sym (none_into (value_at nodes) a none edges c.ends) ∙ ap (λ y. into y edges) own)
      by_case x d false t q = c.counted x d (sym (ap (λ s. cond s (Some no_degrees) (value_at nodes x)) t) ∙ q)

-- the part of a list that passes is no longer
pub filter_le : {X : Type 0} (test : X → Bool) (xs : List X) → length (filter test xs) ≤ length xs
filter_le test [] = omega arith
filter_le {X} test (x ∷ xs) = by_case (test x) (filter_le test xs)
  where
    by_case : (t : Bool) → length (filter test xs) ≤ length xs → length (cond t (x ∷ filter test xs) (filter test xs)) ≤ suc (length xs)
    by_case true h = omega arith
    by_case false h = omega arith

pub counts_fit : (find : Elem → Option Degrees) (edges : List Edge) → AreCounted find edges → (x : Elem) (d : Degrees) → find x ≡ Some d → (d.leaving ≤ length edges) × (d.entering ≤ length edges)
counts_fit find edges c x d e =
    let k = c.counted x d e in
    let first = filter_le (λ (y : Edge). same x y.0) edges in
    let second = filter_le (λ (y : Edge). same x y.1) edges in
    (omega (arith, k.0, first), omega (arith, k.1, second))

-- an edge that joins two nodes, at its cut
module _ (directed : Bool) (edges : List Edge) (apart : AreApart directed edges) (a b : Elem) where
  pub edge_cut : (e : Edge) → edge_joining directed a b edges ≡ Some e → (us : List Edge) × (vs : List Edge) × (edges ≡ us ++ e ∷ vs) × (without_edge directed a b edges ≡ us ++ vs)
  edge_cut e f =
      let c = nth_cut (joins directed a b) edges 0 e f in
      let single = subst (λ es. length (joining directed a b es) ≤ 1) c.2 (apart a b) in
      (c.0, c.1, c.2, ap (without_edge directed a b) c.2 ∙ without_there directed a b e c.1 c.3 c.0 single)

  pub no_edge_gone : edge_joining directed a b edges ≡ None → without_edge directed a b edges ≡ edges
  no_edge_gone f = without_absent directed a b edges (none_joining directed a b edges f)

joins_own : (directed : Bool) (e : Edge) → joins directed e.0 e.1 e ≡ true
joins_own directed e = (λ i. (same_equiv.refl e.0 i && same_equiv.refl e.1 i) || (not directed && (same e.1 e.0 && same e.0 e.1)))

-- an edge at a node goes
module _ (directed : Bool) (edges : List Edge) (apart : AreApart directed edges) (a : Elem) (e : Edge) (f : slice_get (incident a edges) 0 ≡ Some e) where
  cut : (us : List Edge) × (vs : List Edge) × (edges ≡ us ++ e ∷ vs) × (is_at a e ≡ true)
  cut = nth_cut (is_at a) edges 0 e f

  gone : without_edge directed e.0 e.1 edges ≡ cut.0 ++ cut.1
  gone =
      let single = subst (λ es. length (joining directed e.0 e.1 es) ≤ 1) cut.2 (apart e.0 e.1) in
      ap (without_edge directed e.0 e.1) cut.2 ∙ without_there directed e.0 e.1 e cut.1 (joins_own directed e) cut.0 single

  pub others_stay : without_edges_at a (without_edge directed e.0 e.1 edges) ≡ without_edges_at a edges
  others_stay =
      let test : Edge → Bool = λ x. not (is_at a x) in
      ap (without_edges_at a) gone ∙ filter-append test cut.0 cut.1 ∙ ap (λ t. filter test cut.0 ++ cond (not t) (e ∷ filter test cut.1) (filter test cut.1)) (sym cut.3) ∙ sym (ap (without_edges_at a) cut.2 ∙ filter-append test cut.0 (e ∷ cut.1))

  pub one_fewer : length (incident a (without_edge directed e.0 e.1 edges)) + 1 ≡ length (incident a edges)
  one_fewer =
      let fewer = ap (λ es. length (incident a es)) gone in
      let whole = ap (λ es. length (incident a es)) cut.2 ∙ count_cut (is_at a) cut.0 e cut.1 in
      let here = ap one cut.3 in
      omega arith

-- no edge is left at a node
pub none_incident : (a : Elem) (edges : List Edge) → length (incident a edges) ≡ 0 → without_edges_at a edges ≡ edges
none_incident a edges e = none_pass (is_at a) edges (nothing (incident a edges) e)

pub no_first : {X : Type 0} (xs : List X) → slice_get xs 0 ≡ None → length xs ≡ 0
no_first [] e = refl
no_first (x ∷ xs) e = absurd (cc)
