-- What a value graph tells is what its graph to walk through has.
use Rattle.std.proofs.Common.{◌≡◌, ◌≤◌, Bool, true, false, not, cond, ◌||◌, ◌&&◌, List, [], ◌∷◌, map, length, slice_get, refl, ap, sym, ◌∙◌, arith}
use Rattle.std.specs.List.{IsDistinct, AllByRecursion, filter_map, cons_option}
use Rattle.elem.specs.declared.elements.Elem.{Elem}
use Rattle.elem.specs.Elements.{same}
use Rattle.elem.specs.ElementLaws.{same_equiv}
use Rattle.mm_base.specs.KeyedRows.{contains}
use Rattle.graph_base.specs.Edges.{Edge, joins, joining}
use Rattle.graph_base.specs.Graphs.{Graph as ValueGraph, HasEnds as EndsIn, AreApart, IsValid as IsValidRows}
use Rattle.graph_base.specs.Nexts.{end_from as edge_from, nexts as nexts_of, behind}
use Rattle.graph_walk.specs.Graphs.{is_in, end_from, same_link, HasEnds, IsValid}
use Rattle.graph_walk.specs.Places.{after}
use Rattle.graph_turned.specs.Turned.{link_of, turned_graph}

pub is_there : (x : Elem) (xs : List Elem) → contains x xs ≡ is_in x xs
is_there x [] = refl
is_there x (y ∷ ys) = by_case (same x y) (is_there x ys)
  where
    by_case : (b : Bool) → contains x ys ≡ is_in x ys → cond b true (contains x ys) ≡ (b || is_in x ys)
    by_case true e = refl
    by_case false e = e

pub after_it : (x : Elem) (xs : List Elem) → behind x xs ≡ after x xs
after_it x [] = refl
after_it x (y ∷ ys) = ap (cond (same x y) (slice_get ys 0)) (after_it x ys)

-- an edge leads from a node as its link does
leads_same : (d t : Bool) (a : Elem) (e : Edge) → end_from d a (link_of (d && t) e) ≡ edge_from d t a e
leads_same true true a e = refl
leads_same true false a e = refl
leads_same false t a e = refl

pub nexts_same : (d t : Bool) (a : Elem) (edges : List Edge) → filter_map (end_from d a) (map (link_of (d && t)) edges) ≡ nexts_of d t a edges
nexts_same d t a [] = refl
nexts_same d t a (e ∷ es) = λ i. cons_option (leads_same d t a e i) (nexts_same d t a es i)

and_turned : (x y : Bool) → (x && y) ≡ (y && x)
and_turned true true = refl
and_turned true false = refl
and_turned false true = refl
and_turned false false = refl

-- two links join the same nodes where one edge joins the ends of the other
links_same : (d t : Bool) (e f : Edge) → same_link d (link_of (d && t) e) (link_of (d && t) f) ≡ joins d e.0 e.1 f
links_same true true e f = ap (λ b. b || false) (and_turned (same e.1 f.1) (same e.0 f.0))
links_same true false e f = refl
links_same false t e f = ap (λ b. (same e.0 f.0 && same e.1 f.1) || b) (and_turned (same e.0 f.1) (same e.1 f.0))

joins_itself : (d : Bool) (e : Edge) → joins d e.0 e.1 e ≡ true
joins_itself d e = λ i. (same_equiv.refl e.0 i && same_equiv.refl e.1 i) || (not d && (same e.1 e.0 && same e.0 e.1))

fewer : (d : Bool) (e : Edge) (es : List Edge) → AreApart d (e ∷ es) → AreApart d es
fewer d e es h a b = by_case (joins d a b e) (h a b)
  where
    by_case : (c : Bool) → length (cond c (e ∷ joining d a b es) (joining d a b es)) ≤ 1 → length (joining d a b es) ≤ 1
    by_case true l = omega arith
    by_case false l = l

no_other : (d t : Bool) (e : Edge) (es : List Edge) → length (joining d e.0 e.1 es) ≤ 0 → AllByRecursion (λ f. same_link d (link_of (d && t) e) f ≡ false) (map (link_of (d && t)) es)
no_other d t e [] h = tt
no_other d t e (f ∷ es) h = by_case (joins d e.0 e.1 f) refl h (no_other d t e es)
  where
    by_case : (c : Bool) → joins d e.0 e.1 f ≡ c → length (cond c (f ∷ joining d e.0 e.1 es) (joining d e.0 e.1 es)) ≤ 0 → (length (joining d e.0 e.1 es) ≤ 0 → AllByRecursion (λ g. same_link d (link_of (d && t) e) g ≡ false) (map (link_of (d && t)) es))
        → (same_link d (link_of (d && t) e) (link_of (d && t) f) ≡ false) × AllByRecursion (λ g. same_link d (link_of (d && t) e) g ≡ false) (map (link_of (d && t)) es)
    by_case true j l rest = absurd (omega arith)
    by_case false j l rest = (links_same d t e f ∙ j, rest l)

links_distinct : (d t : Bool) (es : List Edge) → AreApart d es → IsDistinct (same_link d) (map (link_of (d && t)) es)
unfolding IsDistinct
links_distinct d t [] h = tt
links_distinct d t (e ∷ es) h = (no_other d t e es alone, links_distinct d t es (fewer d e es h))
  where
    by_case : (c : Bool) → joins d e.0 e.1 e ≡ c → c ≡ true → length (cond c (e ∷ joining d e.0 e.1 es) (joining d e.0 e.1 es)) ≤ 1 → length (joining d e.0 e.1 es) ≤ 0
    by_case true j s l = omega arith
    by_case false j s l = absurd (cc)

    alone : length (joining d e.0 e.1 es) ≤ 0
    alone = by_case (joins d e.0 e.1 e) refl (joins_itself d e) (h e.0 e.1)

links_end : (d t : Bool) (nodes : List Elem) (es : List Edge) → AllByRecursion (EndsIn nodes) es → AllByRecursion (HasEnds nodes) (map (link_of (d && t)) es)
links_end d t nodes [] h = tt
links_end d t nodes (e ∷ es) h = (by_case (d && t), links_end d t nodes es h.1)
  where
    by_case : (c : Bool) → HasEnds nodes (link_of c e)
    by_case true = (sym (is_there e.1 nodes) ∙ h.0.1, sym (is_there e.0 nodes) ∙ h.0.0)
    by_case false = (sym (is_there e.0 nodes) ∙ h.0.0, sym (is_there e.1 nodes) ∙ h.0.1)

pub turned_valid : (t : Bool) (g : ValueGraph) → IsValidRows g → IsValid (turned_graph t g)
turned_valid t g h = record { nodes = h.distinct; ends = links_end g.directed t g.nodes g.edges h.ends; edges = links_distinct g.directed t g.edges h.apart }
