-- What a graph's tests and flags tell.
use Rattle.std.proofs.Common.{◌≡◌, ℕ, ◌+◌, ◌≤◌, Bool, true, false, cond, not, List, length, Option, Some, None, refl, sym, ap, ◌∙◌, arith}
use Rattle.std.specs.Prelude.{is_some, OnSome, IfNone, ◌&&◌}
use Rattle.std.specs.Map.{keys_of}
use Rattle.elem.specs.declared.elements.Elem.{Elem}
use Rattle.elem.specs.Elements.{same}
use Rattle.elem.specs.ElementLaws.{same-Decides}
use Rattle.elem.specs.Keyed.{value_at}
use Rattle.mm_base.specs.KeyedRows.{contains}
use Rattle.mm_base.proofs.KeyedRowsLemmas.{contains_keys, not_not}
use Rattle.graph_base.specs.declared.degrees.Degrees.{Degrees}
use Rattle.graph_base.specs.Edges.{Edge}
use Rattle.graph_base.specs.Graphs.{HasNoLoop}
use Rattle.graph_base.specs.Counted.{AreCounted, AreGraph}
use Rattle.graph_base.proofs.EndsLemmas.{and_parts}
use Rattle.graph_base.proofs.GraphLemmas.{length_keys}

pub when_true : {X : Type 0} (t : Bool) (x y : X) → t ≡ true → x ≡ cond t x y
when_true true x y e = refl
when_true false x y e = absurd (cc)

pub when_false : {X : Type 0} (t : Bool) (x y : X) → t ≡ false → y ≡ cond t x y
when_false false x y e = refl
when_false true x y e = absurd (cc)

pub not_both : (s t : Bool) → t ≡ false → (s && t) ≡ false
not_both true t e = e
not_both false t e = refl

pub on_some_of : {X P : Type 0} (o : Option X) (x : X) → o ≡ Some x → OnSome o P → P
on_some_of None x e h = absurd (cc)
on_some_of (Some y) x e h = h

pub if_none_of : {X P : Type 0} (o : Option X) → o ≡ None → IfNone o P → P
if_none_of None e h = h
if_none_of (Some y) e h = absurd (cc)

-- the test of a loop that is not allowed
module _ (loops : Bool) (a b : Elem) where
  pub refused_loop : (not loops && same a b) ≡ true → (a ≡ b) × (loops ≡ false)
  refused_loop e =
      let p = and_parts (not loops) (same a b) e in
      ((same-Decides a b).0 p.1, sym (not_not loops) ∙ ap not p.0)

  pub no_loop : (not loops && same a b) ≡ false → loops ≡ false → same a b ≡ false
  no_loop e f = ap (λ t. not t && same a b) (sym f) ∙ e

  pub allowed : (not loops && same a b) ≡ false → a ≡ b → loops ≡ false → ⊥
  allowed e f g = let both = sym (no_loop e g) ∙ (same-Decides a b).1 f in cc

-- whether a node is there, as its look-up tells
module _ (nodes : List (Elem × Degrees)) (a : Elem) (keys : List Elem) (e : keys_of nodes ≡ keys) where
  pub node_test : contains a keys ≡ is_some (value_at nodes a)
  node_test = ap (contains a) (sym e) ∙ contains_keys a nodes

-- nodes and edges that are few enough
pub small_graph : (nodes new_nodes : List (Elem × Degrees)) (edges new_edges : List Edge) (loops : Bool) → AreCounted (value_at new_nodes) new_edges → (loops ≡ false → HasNoLoop new_edges) → (n : ℕ) → length (keys_of new_nodes) ≤ length (keys_of nodes) + n → length new_edges + n ≤ length edges + 3
    → length (keys_of nodes) + length edges ≤ 1073741820 → AreGraph (value_at new_nodes) new_nodes new_edges loops
small_graph nodes new_nodes edges new_edges loops c l n more few total = record {
  counts = c;
  no_loops = l;
  small =
      let size = length_keys new_nodes in
      omega (arith, more, few, total, size);
}

pub smaller_graph : (nodes new_nodes : List (Elem × Degrees)) (edges new_edges : List Edge) (loops : Bool) → AreCounted (value_at new_nodes) new_edges → (loops ≡ false → HasNoLoop new_edges) → length new_nodes ≤ length nodes → length new_edges ≤ length edges → length nodes + length edges ≤ 1073741823
    → AreGraph (value_at new_nodes) new_nodes new_edges loops
smaller_graph nodes new_nodes edges new_edges loops c l less fewer total = record { counts = c; no_loops = l; small = omega (arith, less, fewer, total) }
