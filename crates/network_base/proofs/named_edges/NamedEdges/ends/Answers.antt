use Rattle.std.proofs.Common.{sym, ap, ◌∙◌}
use Rattle.network_base.specs.Networks.{ends_of}
use Rattle.network_base.proofs.NamedLemmas.{its_ends, ends_found}
use Rattle.network_base.proofs.named_edges.NamedEdges.ends.Goals as goal

pub returns-in-None : goal.returns-in-None
returns-in-None c =
    let m = c.self.inside in
    sym (ap its_ends (sym c.probe.ensures ∙ c.in-None.is)) ∙ sym (ends_found c.args.x.now m.rows) ∙ ap (ends_of c.args.x.now) c.self.view_is

pub returns-in-Some : goal.returns-in-Some
returns-in-Some c =
    let m = c.self.inside in
    sym (ap its_ends (sym c.probe.ensures ∙ c.in-Some.is)) ∙ sym (ends_found c.args.x.now m.rows) ∙ ap (ends_of c.args.x.now) c.self.view_is
