use Rattle.std.proofs.Common.{◌+◌, sym, ap, ◌∙◌, slice_get}
use Rattle.network_base.proofs.AllEdges.{no_row, key_present, key_edge, edge_present, next_key}
use Rattle.network_base.proofs.named_edges.NamedEdges.after.Goals as goal

pub after-requires : goal.after-requires
after-requires c =
    let m = c.self.inside in
    let k = c.requires.0 in
    edge_present m.rows c.len-len.ensures.distinct k c.args.e.now (ap (λ es. slice_get es k) c.self.view_is ∙ c.requires.1)

pub returns-in_err-next : goal.returns-in_err-next
returns-in_err-next c k e =
    let m = c.self.inside in
    let next = sym (next_key m.rows c.len-len.ensures.distinct k c.args.e.now (ap (λ es. slice_get es k) c.self.view_is ∙ e)) ∙ sym c.after.ensures in
    c.from_residual.ensures ∙ sym (no_row m.rows (k + 1) (next ∙ c.in_err-next.was)) ∙ ap (λ es. slice_get es (k + 1)) c.self.view_is

pub whole_edge-requires : goal.whole_edge-requires
whole_edge-requires c =
    let m = c.self.inside in
    let k = c.requires.0 in
    let next = sym (next_key m.rows c.len-len.ensures.distinct k c.args.e.now (ap (λ es. slice_get es k) c.self.view_is ∙ c.requires.1)) ∙ sym c.after.ensures in
    key_present m.rows c.len-len.ensures.distinct (k + 1) c.in_ok-next.next (next ∙ c.in_ok-next.was)

pub returns : goal.returns
returns c k e =
    let m = c.self.inside in
    let next = sym (next_key m.rows c.len-len.ensures.distinct k c.args.e.now (ap (λ es. slice_get es k) c.self.view_is ∙ e)) ∙ sym c.after.ensures in
    sym (key_edge m.rows c.len-len.ensures.distinct (k + 1) c.in_ok-next.next (next ∙ c.in_ok-next.was) c.whole_edge.result c.whole_edge.ensures) ∙ ap (λ es. slice_get es (k + 1)) c.self.view_is
