use Rattle.std.proofs.Common.{sym, ap, ◌∙◌, slice_get}
use Rattle.graph_base.proofs.Positions.{first_nth}
use Rattle.network_base.proofs.AllEdges.{no_row, key_present, key_edge}
use Rattle.network_base.proofs.named_edges.NamedEdges.first.Goals as goal

pub returns-in_err-x : goal.returns-in_err-x
returns-in_err-x c =
    let m = c.self.inside in
    c.from_residual.ensures ∙ sym (no_row m.rows 0 (sym (first_nth m.rows) ∙ sym c.first.ensures ∙ c.in_err-x.was)) ∙ ap (λ es. slice_get es 0) c.self.view_is

pub whole_edge-requires : goal.whole_edge-requires
whole_edge-requires c =
    let m = c.self.inside in
    key_present m.rows c.len-len.ensures.distinct 0 c.in_ok-x.x (sym (first_nth m.rows) ∙ sym c.first.ensures ∙ c.in_ok-x.was)

pub returns : goal.returns
returns c =
    let m = c.self.inside in
    sym (key_edge m.rows c.len-len.ensures.distinct 0 c.in_ok-x.x (sym (first_nth m.rows) ∙ sym c.first.ensures ∙ c.in_ok-x.was) c.whole_edge.result c.whole_edge.ensures) ∙ ap (λ es. slice_get es 0) c.self.view_is
