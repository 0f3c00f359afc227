use Rattle.std.proofs.Common.{sym, ap, ◌∙◌, slice_get}
use Rattle.std.specs.Option.{option_map}
use Rattle.elem.specs.declared.elements.Elem.{Elem}
use Rattle.graph_base.specs.declared.degrees.Degrees.{Degrees}
use Rattle.graph_base.specs.Graphs.{Graph}
use Rattle.graph_base.proofs.GraphLemmas.{nth_key}
use Rattle.graph_base.proofs.value_graph_rows.ValueGraphRows.node_at.Goals as goal

pub returns-clause-answer : goal.returns-clause-answer
returns-clause-answer g c =
    let m = c.self.inside in
    sym (nth_key m.nodes c.args.i ∙ ap (option_map (λ (row : Elem × Degrees). row.0)) (sym c.row_at.ensures ∙ c.in_ok-node.was)) ∙ ap (λ (x : Graph). slice_get x.nodes c.args.i) c.self.view_is
