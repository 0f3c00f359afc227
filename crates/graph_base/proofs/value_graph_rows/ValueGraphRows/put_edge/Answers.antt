use Rattle.std.proofs.Common.{length, sym, ap, ◌∙◌, subst, arith}
use Rattle.std.specs.Map.{keys_of}
use Rattle.elem.specs.Keyed.{value_at}
use Rattle.mm_base.specs.KeyedRows.{with_key}
use Rattle.mm_base.proofs.KeyedRowsLemmas.{contains_keys}
use Rattle.mm_base.proofs.Results.{on_ok_of}
use Rattle.graph_base.specs.EdgeRows.{EdgeList}
use Rattle.graph_base.specs.Edges.{with_edge}
use Rattle.graph_base.specs.Graphs.{Graph, size, HasNoLoop}
use Rattle.graph_base.specs.Counted.{AreCounted}
use Rattle.graph_base.proofs.GraphLemmas.{with_key_le, with_key_there, with_edge_le, no_loop_with, replaced_counted, both_there}
use Rattle.graph_base.proofs.GraphAnswers.{on_some_of, if_none_of, refused_loop, no_loop, allowed, small_graph}
use Rattle.graph_base.proofs.value_graph_rows.ValueGraphRows.put_edge.Goals as goal

pub returns-then-is_refused-clause-refused : goal.returns-then-is_refused-clause-refused
returns-then-is_refused-clause-refused g c =
    let m = c.self.inside in
    let p = refused_loop m.loops c.args.a c.args.b (sym c.is_refused.ensures ∙ c.if-is_refused.true) in
    (p.0, sym (ap (λ (x : Graph). x.loops) c.self.view_is) ∙ p.1)

pub invariant_of-self : goal.invariant_of-self
invariant_of-self g c =
    let m = c.self.inside in
    let d = m.edges.directed in
    let edges = m.edges.edges in
    let valued = ap (λ (x : EdgeList). x.edges) (on_some_of c.replace.result c.in-Some.former c.in-Some.is c.replace.ensures.edges) in
    let test = sym c.is_refused.ensures ∙ c.if-is_refused.false in
    let counted = replaced_counted d c.args.a c.args.b c.args.v edges c.len-len.ensures.apart c.in-Some.former (sym c.replace.ensures.value ∙ c.in-Some.is) (value_at m.nodes) c.self.invariant.counts in
    let longer = ap length valued in
    let most = with_edge_le d c.args.a c.args.b c.args.v edges in
    let total = ap size c.self.view_is in
    let room = c.requires in
    small_graph m.nodes m.nodes edges c.replace.new.self.edges m.loops (subst (AreCounted (value_at m.nodes)) (sym valued) counted) (λ f. subst HasNoLoop (sym valued) (no_loop_with d c.args.a c.args.b c.args.v (no_loop m.loops c.args.a c.args.b test f) edges (c.self.invariant.no_loops f))) 0
    (omega arith) (omega (arith, longer, most)) (omega (arith, total, room))

pub returns-in-Some-clause-nodes : goal.returns-in-Some-clause-nodes
returns-in-Some-clause-nodes g c =
    let m = c.self.inside in
    let a = c.args.a in
    let b = c.args.b in
    let there = both_there m.edges.directed a b c.args.v m.edges.edges c.len-len.ensures.apart c.in-Some.former (sym c.replace.ensures.value ∙ c.in-Some.is) (value_at m.nodes) c.self.invariant.counts in
    let first = with_key_there a (keys_of m.nodes) (contains_keys a m.nodes ∙ there.0) in
    let second = with_key_there b (keys_of m.nodes) (contains_keys b m.nodes ∙ there.1) in
    sym (ap (with_key b) first ∙ second) ∙ ap (λ (x : Graph). with_key b (with_key a x.nodes)) c.self.view_is

pub returns-in-Some-clause-looped : goal.returns-in-Some-clause-looped
returns-in-Some-clause-looped g c e f = absurd (allowed c.self.inside.loops c.args.a c.args.b (sym c.is_refused.ensures ∙ c.if-is_refused.false) e (ap (λ (x : Graph). x.loops) c.self.view_is ∙ f))

pub returns-then-is_err-clause-looped : goal.returns-then-is_err-clause-looped
returns-then-is_err-clause-looped g c e f = absurd (allowed c.self.inside.loops c.args.a c.args.b (sym c.is_refused.ensures ∙ c.if-is_refused.false) e (ap (λ (x : Graph). x.loops) c.self.view_is ∙ f))

pub returns-clause-looped : goal.returns-clause-looped
returns-clause-looped g c e f = absurd (allowed c.self.inside.loops c.args.a c.args.b (sym c.is_refused.ensures ∙ c.if-is_refused.false) e (ap (λ (x : Graph). x.loops) c.self.view_is ∙ f))

pub invariant_of-self-2 : goal.invariant_of-self-2
invariant_of-self-2 g c =
    let m = c.self.inside in
    let d = m.edges.directed in
    let edges = m.edges.edges in
    let done = sym c.is_err.ensures.value ∙ c.if-is_err.false in
    let same_edges = if_none_of c.replace.result c.in_default.is c.replace.ensures.absent in
    let put = on_ok_of c.put_new_edge.result done c.put_new_edge.ensures.edges in
    let more = ap (λ (x : EdgeList). x.edges) put ∙ ap (λ (x : EdgeList). with_edge x.directed c.args.a c.args.b c.args.v x.edges) same_edges in
    let test = sym c.is_refused.ensures ∙ c.if-is_refused.false in
    let keys = ap length (on_ok_of c.put_new_edge.result done c.put_new_edge.ensures.keys) in
    let first = with_key_le c.args.a (keys_of m.nodes) in
    let second = with_key_le c.args.b (with_key c.args.a (keys_of m.nodes)) in
    let longer = ap length more in
    let most = with_edge_le d c.args.a c.args.b c.args.v edges in
    let total = ap size c.self.view_is in
    let room = c.requires in
    small_graph m.nodes c.put_new_edge.new.nodes edges c.put_new_edge.new.edges.edges m.loops (on_ok_of c.put_new_edge.result done c.put_new_edge.ensures.counted)
    (λ f. subst HasNoLoop (sym more) (no_loop_with d c.args.a c.args.b c.args.v (no_loop m.loops c.args.a c.args.b test f) edges (c.self.invariant.no_loops f))) 2 (omega (arith, keys, first, second)) (omega (arith, longer, most)) (omega (arith, total, room))
