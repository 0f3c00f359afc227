use Rattle.std.proofs.Common.{not, sym, ap, ◌∙◌}
use Rattle.graph_base.specs.Graphs.{Graph}
use Rattle.graph_base.proofs.GraphAnswers.{refused_loop, allowed}
use Rattle.network_base.specs.Networks.{ends_of, has_other_ends}
use Rattle.network_base.proofs.NetworkLemmas.{others_at}
use Rattle.network_base.proofs.network_rows.NetworkRows.add_edge.Goals as goal

pub returns-then-are_joined-clause-taken : goal.returns-then-are_joined-clause-taken
returns-then-are_joined-clause-taken g c e =
    let m = c.self.inside in
    let test = others_at m.directed c.args.a c.args.b c.args.x (ends_of c.args.x m.edges) (c.in-Some.from, c.in-Some.to) (sym c.ends.ensures ∙ c.in-Some.is) ∙ ap not (sym (c.are_joined.ensures c.args.x) ∙ c.if-are_joined.true) in
    let both = sym test ∙ ap (has_other_ends c.args.a c.args.b c.args.x) c.self.view_is ∙ e in
    absurd (cc)

pub returns-in-Some-clause-refused : goal.returns-in-Some-clause-refused
returns-in-Some-clause-refused g c =
    let m = c.self.inside in
    let test = others_at m.directed c.args.a c.args.b c.args.x (ends_of c.args.x m.edges) (c.in-Some.from, c.in-Some.to) (sym c.ends.ensures ∙ c.in-Some.is) ∙ ap not (sym (c.are_joined.ensures c.args.x) ∙ c.if-are_joined.false) in
    sym (ap (has_other_ends c.args.a c.args.b c.args.x) c.self.view_is) ∙ test

pub returns-then-is_refused-clause-refused : goal.returns-then-is_refused-clause-refused
returns-then-is_refused-clause-refused g c =
    let m = c.self.inside in
    let p = refused_loop m.loops c.args.a c.args.b (sym c.is_refused.ensures ∙ c.if-is_refused.true) in
    (sym (ap (λ (x : Graph). ends_of c.args.x x.edges) c.self.view_is) ∙ sym c.ends.ensures ∙ c.in_default.is, p.0, sym (ap (λ (x : Graph). x.loops) c.self.view_is) ∙ p.1)

pub returns-then-is_err-clause-looped : goal.returns-then-is_err-clause-looped
returns-then-is_err-clause-looped g c n e f = absurd (allowed c.self.inside.loops c.args.a c.args.b (sym c.is_refused.ensures ∙ c.if-is_refused.false) e (ap (λ (x : Graph). x.loops) c.self.view_is ∙ f))

pub returns-clause-looped : goal.returns-clause-looped
returns-clause-looped g c n e f = absurd (allowed c.self.inside.loops c.args.a c.args.b (sym c.is_refused.ensures ∙ c.if-is_refused.false) e (ap (λ (x : Graph). x.loops) c.self.view_is ∙ f))
