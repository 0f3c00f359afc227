use Rattle.std.proofs.Common.{sym, ◌∙◌, subst}
use Rattle.elem.specs.Keyed.{value_at}
use Rattle.graph_base.specs.Counted.{AreCounted}
use Rattle.network_base.proofs.NamedLemmas.{absent_stay}
use Rattle.network_base.proofs.NetworkLemmas.{found_cut}
use Rattle.network_base.proofs.network_edits.drop_edge.Goals as goal

pub uncount_edge-requires : goal.uncount_edge-requires
uncount_edge-requires c =
    let edges = c.args.edges.now in
    let cut = found_cut c.args.x.now edges c.len-len.ensures.distinct (c.in-Some.from, c.in-Some.to) (sym c.remove.ensures.ends ∙ c.in-Some.is) in
    (cut.0, c.args.x.now, cut.1, subst (AreCounted (value_at c.args.nodes.now)) cut.2 c.requires)

pub returns-in-None-clause-counted : goal.returns-in-None-clause-counted
returns-in-None-clause-counted c =
    let edges = c.args.edges.now in
    let stay = c.remove.ensures.edges ∙ absent_stay c.args.x.now edges (sym c.remove.ensures.ends ∙ c.in-None.is) in
    subst (AreCounted (value_at c.args.nodes.now)) (sym stay) c.requires

pub returns-in-Some-clause-counted : goal.returns-in-Some-clause-counted
returns-in-Some-clause-counted c =
    let edges = c.args.edges.now in
    let cut = found_cut c.args.x.now edges c.len-len.ensures.distinct (c.in-Some.from, c.in-Some.to) (sym c.remove.ensures.ends ∙ c.in-Some.is) in
    let after = c.uncount_edge.ensures.counted cut.0 c.args.x.now cut.1 (subst (AreCounted (value_at c.args.nodes.now)) cut.2 c.requires) in
    subst (AreCounted (value_at c.uncount_edge.new.nodes)) (sym (c.remove.ensures.edges ∙ cut.3)) after
