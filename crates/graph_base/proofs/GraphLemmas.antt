-- A graph's nodes, edges and counts after each call.
use Rattle.std.proofs.Common.{◌≡◌, ◌⊎◌, inl, inr, ℕ, zero, suc, ◌+◌, ◌≤◌, Bool, true, false, cond, not, List, [], ◌∷◌, ◌++◌, length, Option, Some, None, refl, sym, ap, ◌∙◌, subst, arith, slice_get, length-append}
use Rattle.std.specs.Prelude.{IsSome, ◌||◌, ◌&&◌}
use Rattle.std.specs.Option.{option_map}
use Rattle.std.specs.List.{filter, IsDistinct, AllByRecursion}
use Rattle.std.specs.Map.{keys_of}
use Rattle.std.proofs.lemmas.Map.{lookup-remove_entry}
use Rattle.elem.specs.declared.elements.Elem.{Elem}
use Rattle.elem.specs.Elements.{same}
use Rattle.elem.specs.ElementLaws.{same-Decides, same_equiv}
use Rattle.elem.specs.Keyed.{value_at, without, HasDistinctKeys}
use Rattle.mm_base.specs.KeyedRows.{contains, with_key}
use Rattle.mm_base.proofs.KeyedRowsLemmas.{contains_keys}
use Rattle.elem.specs.Rows.{first_key, key_after}
use Rattle.graph_base.specs.Nexts.{behind}
use Rattle.graph_base.specs.declared.degrees.Degrees.{Degrees}
use Rattle.graph_base.specs.Edges.{Edge, joins, joining, edge_joining, value_joining, with_edge, is_at, without_edges_at}
use Rattle.graph_base.specs.Degrees.{out_of, into}
use Rattle.graph_base.specs.Graphs.{AreApart, HasEnds, HasNoLoop, IsValid, without_node}
use Rattle.graph_base.specs.Counted.{AreCounted, AreGraph}
use Rattle.graph_base.proofs.Cuts.{nth_cut, all_with, all_without, all_right, all_map}
use Rattle.graph_base.proofs.EndsLemmas.{or_parts, and_parts}
use Rattle.graph_base.proofs.EdgesLemmas.{with_there, none_before}
use Rattle.graph_base.proofs.CountedLemmas.{out_cut, into_cut}

pub length_keys : {V : Type 0} (rows : List (Elem × V)) → length (keys_of rows) ≡ length rows
length_keys [] = refl
length_keys (row ∷ rows) = ap suc (length_keys rows)

pub nth_key : {V : Type 0} (rows : List (Elem × V)) (i : ℕ) → slice_get (keys_of rows) i ≡ option_map (λ (row : Elem × V). row.0) (slice_get rows i)
nth_key [] i = refl
nth_key (row ∷ rows) zero = refl
nth_key (row ∷ rows) (suc i) = nth_key rows i

-- the key behind another stands behind it among the keys
pub key_behind : {V : Type 0} (a : Elem) (rows : List (Elem × V)) → key_after (same a) rows ≡ behind a (keys_of rows)
key_behind a [] = refl
key_behind {V} a (row ∷ rows) = λ i. cond (same a row.0) (first rows i) (key_behind a rows i)
  where
    first : (rest : List (Elem × V)) → first_key rest ≡ slice_get (keys_of rest) 0
    first [] = refl
    first (r ∷ rest) = refl

pub with_key_le : (k : Elem) (keys : List Elem) → length (with_key k keys) ≤ length keys + 1
with_key_le k keys = by_case (contains k keys)
  where
    by_case : (t : Bool) → length (cond t keys (keys ++ k ∷ [])) ≤ length keys + 1
    by_case true = omega arith
    by_case false = omega (arith, length-append keys (k ∷ []))

pub with_key_there : (k : Elem) (keys : List Elem) → contains k keys ≡ true → with_key k keys ≡ keys
with_key_there k keys e = ap (λ t. cond t keys (keys ++ k ∷ [])) e

module _ (d : Bool) (a b v : Elem) where
  pub with_edge_le : (edges : List Edge) → length (with_edge d a b v edges) ≤ length edges + 1
  with_edge_le [] = omega arith
  with_edge_le (e ∷ edges) = by_case (joins d a b e) (with_edge_le edges)
    where
      by_case : (t : Bool) → length (with_edge d a b v edges) ≤ length edges + 1 → length (cond t ((e.0, e.1, v) ∷ edges) (e ∷ with_edge d a b v edges)) ≤ suc (length edges) + 1
      by_case true h = omega arith
      by_case false h = omega arith

  pub no_loop_with : same a b ≡ false → (edges : List Edge) → HasNoLoop edges → HasNoLoop (with_edge d a b v edges)
  no_loop_with f [] h = (f, tt)
  no_loop_with f (e ∷ edges) h = by_case (joins d a b e) (no_loop_with f edges h.1)
    where
      by_case : (t : Bool) → HasNoLoop (with_edge d a b v edges) → HasNoLoop (cond t ((e.0, e.1, v) ∷ edges) (e ∷ with_edge d a b v edges))
      by_case true r = (h.0, h.1)
      by_case false r = (h.0, r)

  -- an edge that is there gets another value
  module _ (edges : List Edge) (apart : AreApart d edges) (w : Elem) (there : value_joining d a b edges ≡ Some w) (find : Elem → Option Degrees) (c : AreCounted find edges) where
    its : (e : Edge) × (edge_joining d a b edges ≡ Some e)
    its = by_case (edge_joining d a b edges) refl there
      where
        by_case : (o : Option Edge) → edge_joining d a b edges ≡ o → option_map (λ (e : Edge). e.2) o ≡ Some w → (e : Edge) × (edge_joining d a b edges ≡ Some e)
        by_case None p q = absurd (cc)
        by_case (Some e) p q = (e, p)

    cut : (us : List Edge) × (vs : List Edge) × (edges ≡ us ++ its.0 ∷ vs) × (joins d a b its.0 ≡ true)
    cut = nth_cut (joins d a b) edges 0 its.0 its.1

    counted_at_cut : AreCounted find (cut.0 ++ its.0 ∷ cut.1)
    counted_at_cut = subst (AreCounted find) cut.2 c

    valued : with_edge d a b v edges ≡ cut.0 ++ (its.0.0, its.0.1, v) ∷ cut.1
    valued =
        let single = subst (λ es. length (joining d a b es) ≤ 1) cut.2 (apart a b) in
        ap (with_edge d a b v) cut.2 ∙ with_there d a b its.0 cut.1 cut.3 v cut.0 (none_before d a b its.0 cut.1 cut.3 cut.0 single)

    its_ends : IsSome (find its.0.0) × IsSome (find its.0.1)
    its_ends = (all_right (λ (k : Edge). IsSome (find k.0) × IsSome (find k.1)) cut.0 (its.0 ∷ cut.1) counted_at_cut.ends).0

    pub replaced_counted : AreCounted find (with_edge d a b v edges)
    replaced_counted = subst (AreCounted find) (sym valued) (record {
      ends = all_with (λ (k : Edge). IsSome (find k.0) × IsSome (find k.1)) cut.0 (its.0.0, its.0.1, v) cut.1 its_ends (all_without (λ (k : Edge). IsSome (find k.0) × IsSome (find k.1)) cut.0 its.0 cut.1 counted_at_cut.ends);
      counted = λ x n q.
          let k = counted_at_cut.counted x n q in
          (k.0 ∙ out_cut cut.0 its.0.0 its.0.1 its.0.2 cut.1 x ∙ sym (out_cut cut.0 its.0.0 its.0.1 v cut.1 x), k.1 ∙ into_cut cut.0 its.0.0 its.0.1 its.0.2 cut.1 x ∙ sym (into_cut cut.0 its.0.0 its.0.1 v cut.1 x));
    })

    pub both_there : IsSome (find a) × IsSome (find b)
    both_there = by_side (or_parts (same a its.0.0 && same b its.0.1) (not d && (same b its.0.0 && same a its.0.1)) cut.3)
      where
        by_side : ((same a its.0.0 && same b its.0.1) ≡ true) ⊎ ((not d && (same b its.0.0 && same a its.0.1)) ≡ true) → IsSome (find a) × IsSome (find b)
        by_side (inl t) =
            let p = and_parts (same a its.0.0) (same b its.0.1) t in
            (subst (λ x. IsSome (find x)) (sym ((same-Decides a its.0.0).0 p.0)) its_ends.0, subst (λ x. IsSome (find x)) (sym ((same-Decides b its.0.1).0 p.1)) its_ends.1)
        by_side (inr t) =
            let p = and_parts (same b its.0.0) (same a its.0.1) (and_parts (not d) (same b its.0.0 && same a its.0.1) t).1 in
            (subst (λ x. IsSome (find x)) (sym ((same-Decides a its.0.1).0 p.1)) its_ends.1, subst (λ x. IsSome (find x)) (sym ((same-Decides b its.0.0).0 p.0)) its_ends.0)

-- the elements that pass a test
pub all_filter : {X : Type 0} (P : X → Type 0) (test : X → Bool) (xs : List X) → AllByRecursion P xs → AllByRecursion P (filter test xs)
all_filter P test [] h = tt
all_filter {X} P test (x ∷ xs) h = by_case (test x) (all_filter P test xs h.1)
  where
    by_case : (t : Bool) → AllByRecursion P (filter test xs) → AllByRecursion P (cond t (x ∷ filter test xs) (filter test xs))
    by_case true r = (h.0, r)
    by_case false r = r

-- a node that goes, with the edges at it
module _ (a : Elem) where
  all_differ : (keys : List Elem) → AllByRecursion (λ y. same a y ≡ false) keys → without_node a keys ≡ keys
  all_differ [] h = refl
  all_differ (k ∷ keys) h = (λ i. cond (not (h.0 i)) (k ∷ all_differ keys h.1 i) (all_differ keys h.1 i))

  pub less_keys : {V : Type 0} (rows : List (Elem × V)) → HasDistinctKeys rows → keys_of (without rows a) ≡ without_node a (keys_of rows)
  unfolding IsDistinct
  less_keys [] h = refl
  less_keys {V} (row ∷ rows) h = by_case (same a row.0) refl (less_keys rows h.1)
    where
      by_case : (t : Bool) → same a row.0 ≡ t → keys_of (without rows a) ≡ without_node a (keys_of rows) → keys_of (cond (same a row.0) rows (row ∷ without rows a)) ≡ cond (not (same a row.0)) (row.0 ∷ without_node a (keys_of rows)) (without_node a (keys_of rows))
      by_case true t rest =
          let own = (same-Decides a row.0).0 t in
          (λ i. keys_of (cond (t i) rows (row ∷ without rows a))) ∙ sym (all_differ (keys_of rows) (subst (λ x. AllByRecursion (λ y. same x y ≡ false) (keys_of rows)) (sym own) h.0)) ∙ sym (λ i. cond (not (t i)) (row.0 ∷ without_node a (keys_of rows)) (without_node a (keys_of rows)))
      by_case false t rest = (λ i. keys_of (cond (t i) rows (row ∷ without rows a))) ∙ ap (λ l. row.0 ∷ l) rest ∙ sym (λ i. cond (not (t i)) (row.0 ∷ without_node a (keys_of rows)) (without_node a (keys_of rows)))

  absent_differ : (keys : List Elem) → contains a keys ≡ false → AllByRecursion (λ y. same a y ≡ false) keys
  absent_differ [] e = tt
  absent_differ (k ∷ keys) e = by_case (same a k) refl (absent_differ keys) e
    where
      by_case : (t : Bool) → same a k ≡ t → (contains a keys ≡ false → AllByRecursion (λ y. same a y ≡ false) keys) → cond t true (contains a keys) ≡ false → (same a k ≡ false) × AllByRecursion (λ y. same a y ≡ false) keys
      by_case true t rest f = absurd (cc)
      by_case false t rest f = (t, rest f)

  pub keys_stay : (keys : List Elem) → contains a keys ≡ false → without_node a keys ≡ keys
  keys_stay keys e = all_differ keys (absent_differ keys e)

  module _ (find found : Elem → Option Degrees) (finds : (x : Elem) → found x ≡ cond (same a x) None (find x)) where
    stays : (x : Elem) → same a x ≡ false → IsSome (find x) → IsSome (found x)
    stays x t s = subst IsSome (sym (finds x ∙ ap (λ u. cond u None (find x)) t)) s

    ends_stay : (edges : List Edge) → AllByRecursion (λ (k : Edge). IsSome (find k.0) × IsSome (find k.1)) edges → AllByRecursion (λ (k : Edge). IsSome (found k.0) × IsSome (found k.1)) (without_edges_at a edges)
    ends_stay [] h = tt
    ends_stay (e ∷ edges) h = by_case (same a e.0) (same a e.1) refl refl (ends_stay edges h.1)
      where
        by_case : (s t : Bool) → same a e.0 ≡ s → same a e.1 ≡ t → AllByRecursion (λ (k : Edge). IsSome (found k.0) × IsSome (found k.1)) (without_edges_at a edges)
            → AllByRecursion (λ (k : Edge). IsSome (found k.0) × IsSome (found k.1)) (cond (not (s || t)) (e ∷ without_edges_at a edges) (without_edges_at a edges))
        by_case true t p q r = r
        by_case false true p q r = r
        by_case false false p q r = ((stays e.0 p h.0.0, stays e.1 q h.0.1), r)

    twice : (edges : List Edge) → without_edges_at a (without_edges_at a edges) ≡ without_edges_at a edges
    twice [] = refl
    twice (e ∷ edges) = by_case (is_at a e) refl (twice edges)
      where
        by_case : (t : Bool) → is_at a e ≡ t → without_edges_at a (without_edges_at a edges) ≡ without_edges_at a edges
            → without_edges_at a (cond (not t) (e ∷ without_edges_at a edges) (without_edges_at a edges)) ≡ cond (not t) (e ∷ without_edges_at a edges) (without_edges_at a edges)
        by_case true t r = r
        by_case false t r = (λ i. cond (not (t i)) (e ∷ r i) (r i))

    pub less_counted : (edges : List Edge) → AreCounted find (without_edges_at a edges) → AreCounted found (without_edges_at a edges)
    less_counted edges c = record {
      ends = subst (AllByRecursion (λ (k : Edge). IsSome (found k.0) × IsSome (found k.1))) (twice edges) (ends_stay (without_edges_at a edges) c.ends);
      counted = λ x n q. by_case x n (same a x) refl (sym (finds x) ∙ q);
    }
      where
        by_case : (x : Elem) (n : Degrees) (t : Bool) → same a x ≡ t → cond (same a x) None (find x) ≡ Some n → (n.leaving ≡ out_of x (without_edges_at a edges)) × (n.entering ≡ into x (without_edges_at a edges))
        by_case x n true t q = let both = sym (ap (λ u. cond u None (find x)) t) ∙ q in absurd (cc)
        by_case x n false t q = c.counted x n (sym (ap (λ u. cond u None (find x)) t) ∙ q)

  pub without_finds : (rows : List (Elem × Degrees)) → HasDistinctKeys rows → (x : Elem) → value_at (without rows a) x ≡ cond (same a x) None (value_at rows x)
  without_finds rows h x = lookup-remove_entry same_equiv (same a) (λ y z e. ap (λ u. same u z) ((same-Decides a y).0 e)) x rows h

-- a valid graph
pub valid : (nodes : List (Elem × Degrees)) (edges : List Edge) (directed loops : Bool) → AreGraph (value_at nodes) nodes edges loops → HasDistinctKeys nodes → AreApart directed edges → IsValid (record { nodes = keys_of nodes; edges = edges; directed = directed; loops = loops })
valid nodes edges directed loops h distinct apart = record {
  distinct = distinct;
  ends = all_map (λ (k : Edge). IsSome (value_at nodes k.0) × IsSome (value_at nodes k.1)) (HasEnds (keys_of nodes)) (λ k s. (contains_keys k.0 nodes ∙ s.0, contains_keys k.1 nodes ∙ s.1)) edges h.counts.ends;
  apart = apart;
  no_loops = h.no_loops;
}

pub length_without : (rows : List (Elem × Degrees)) (a : Elem) → length (without rows a) ≤ length rows
length_without [] a = omega arith
length_without (row ∷ rows) a = by_case (same a row.0) (length_without rows a)
  where
    by_case : (t : Bool) → length (without rows a) ≤ length rows → length (cond t rows (row ∷ without rows a)) ≤ suc (length rows)
    by_case true h = omega arith
    by_case false h = omega arith
