use Rattle.std.proofs.Common.{sym, ap, ◌∙◌, subst, slice_get}
use Rattle.std.specs.Prelude.{IsSome}
use Rattle.network_base.proofs.AllEdges.{edge_present, edge_row_at}
use Rattle.network_base.proofs.Rising.{numbers_tell}
use Rattle.network_base.proofs.named_edges.NamedEdges.comes_before.Goals as goal

pub unwrap-first-requires : goal.unwrap-first-requires
unwrap-first-requires c =
    let m = c.self.inside in
    let k = c.requires.first in
    subst IsSome (sym c.probe.ensures) (edge_present m.rows c.len-len.ensures.distinct k.0 c.args.e.now (ap (λ es. slice_get es k.0) c.self.view_is ∙ k.1))

pub unwrap-second-requires : goal.unwrap-second-requires
unwrap-second-requires c =
    let m = c.self.inside in
    let k = c.requires.second in
    subst IsSome (sym c.probe-2.ensures) (edge_present m.rows c.len-len.ensures.distinct k.0 c.args.f.now (ap (λ es. slice_get es k.0) c.self.view_is ∙ k.1))

pub returns-in-Some : goal.returns-in-Some
returns-in-Some c i j e f =
    let m = c.self.inside in
    let first = edge_row_at m.rows c.len-len.ensures.distinct i c.args.e.now (ap (λ es. slice_get es i) c.self.view_is ∙ e) c.unwrap-first.result (sym c.probe.ensures ∙ c.unwrap-first.ensures) in
    let second = edge_row_at m.rows c.len-len.ensures.distinct j c.args.f.now (ap (λ es. slice_get es j) c.self.view_is ∙ f) c.unwrap-second.result (sym c.probe-2.ensures ∙ c.unwrap-second.ensures) in
    numbers_tell m.rows i j (c.args.e.now.2, c.unwrap-first.result) (c.args.f.now.2, c.unwrap-second.result) (c.self.invariant.rising c.in-Some._number c.in-Some.is).rising first second
