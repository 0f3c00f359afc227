use Rattle.std.proofs.Common.{sym, ap, ◌∙◌, subst}
use Rattle.elem.specs.Elements.{same}
use Rattle.network_base.specs.NamedEdges.{edges_of, AreNamed}
use Rattle.network_base.specs.Networks.{ends_of, without_edge}
use Rattle.linked_base.proofs.LinkedMapSteps.{remove_none}
use Rattle.network_base.proofs.NamedLemmas.{its_ends, ends_found, absent_stay, its_halves, removed, removed_edges}
use Rattle.network_base.proofs.named_edges.NamedEdges.remove.Goals as goal

pub invariant_of-self : goal.invariant_of-self
invariant_of-self c =
    let m = c.self.inside in
    let stay = c.remove.ensures.rows ∙ remove_none (same c.args.x.now) m.rows (sym c.remove.ensures.value ∙ c.in_err-row.was) in
    subst (λ rs. AreNamed rs m.halves m.next) (sym stay) c.self.invariant

pub returns-in_err-row-clause-ends : goal.returns-in_err-row-clause-ends
returns-in_err-row-clause-ends c =
    let m = c.self.inside in
    c.from_residual.ensures ∙ sym (ap its_ends (sym c.remove.ensures.value ∙ c.in_err-row.was)) ∙ sym (ends_found c.args.x.now m.rows) ∙ ap (ends_of c.args.x.now) c.self.view_is

pub returns-in_err-row-clause-edges : goal.returns-in_err-row-clause-edges
returns-in_err-row-clause-edges c =
    let m = c.self.inside in
    let none = ends_found c.args.x.now m.rows ∙ ap its_ends (sym c.remove.ensures.value ∙ c.in_err-row.was) in
    ap edges_of (c.remove.ensures.rows ∙ remove_none (same c.args.x.now) m.rows (sym c.remove.ensures.value ∙ c.in_err-row.was)) ∙ sym (absent_stay c.args.x.now (edges_of m.rows) none) ∙ ap (without_edge c.args.x.now) c.self.view_is

pub drop_halves-requires : goal.drop_halves-requires
drop_halves-requires c =
    let m = c.self.inside in
    its_halves c.args.x.now m.rows c.in_ok-row.row (sym c.remove.ensures.value ∙ c.in_ok-row.was) c.len-len.ensures.distinct m.halves m.next c.self.invariant

pub invariant_of-self-2 : goal.invariant_of-self-2
invariant_of-self-2 c =
    let m = c.self.inside in
    removed c.args.x.now m.rows c.in_ok-row.row (sym c.remove.ensures.value ∙ c.in_ok-row.was) c.len-len.ensures.distinct m.halves m.next c.self.invariant c.remove.new.self c.drop_halves.new.halves c.remove.ensures.rows c.drop_halves.ensures

pub returns-clause-ends : goal.returns-clause-ends
returns-clause-ends c =
    let m = c.self.inside in
    sym (ap its_ends (sym c.remove.ensures.value ∙ c.in_ok-row.was)) ∙ sym (ends_found c.args.x.now m.rows) ∙ ap (ends_of c.args.x.now) c.self.view_is

pub returns-clause-edges : goal.returns-clause-edges
returns-clause-edges c =
    let m = c.self.inside in
    ap edges_of c.remove.ensures.rows ∙ removed_edges c.args.x.now m.rows c.in_ok-row.row (sym c.remove.ensures.value ∙ c.in_ok-row.was) c.len-len.ensures.distinct m.halves m.next c.self.invariant ∙ ap (without_edge c.args.x.now) c.self.view_is
