use Rattle.std.proofs.Common.{sym, ap, ◌∙◌, subst, length}
use Rattle.std.specs.List.{IsDistinct}
use Rattle.std.proofs.lemmas.List.{length-map}
use Rattle.elem.specs.Elements.{same}
use Rattle.network_base.specs.NamedEdges.{edge_of}
use Rattle.network_base.specs.Networks.{names}
use Rattle.network_base.proofs.NamedLemmas.{names_of}
use Rattle.network_base.proofs.named_edges.NamedEdges.len.Goals as goal

pub returns-clause-len : goal.returns-clause-len
returns-clause-len c = let m = c.self.inside in c.len.ensures.len ∙ sym (length-map m.rows edge_of) ∙ ap length c.self.view_is

pub returns-clause-distinct : goal.returns-clause-distinct
returns-clause-distinct c = let m = c.self.inside in subst (λ es. IsDistinct same (names es)) c.self.view_is (subst (IsDistinct same) (sym (names_of m.rows)) c.len.ensures.distinct)
