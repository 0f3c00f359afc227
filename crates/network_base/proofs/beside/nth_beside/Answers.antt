use Rattle.std.proofs.Common.{sym, ap, ◌∙◌, slice_get}
use Rattle.network_base.proofs.Merged.{none_beside}
use Rattle.network_base.proofs.beside.nth_beside.Goals as goal

pub returns-in_err-ends : goal.returns-in_err-ends
returns-in_err-ends c = c.from_residual.ensures ∙ sym (ap (λ l. slice_get l c.args.i) (none_beside c.args.edges.now c.args.edges.now c.args.x.now (sym c.ends.ensures ∙ c.in_err-ends.was)))

pub nth_merged-requires-clause-ends : goal.nth_merged-requires-clause-ends
nth_merged-requires-clause-ends c = sym c.ends.ensures ∙ c.in_ok-ends.was

pub nth_merged-requires-clause-begun : goal.nth_merged-requires-clause-begun
nth_merged-requires-clause-begun c = (0, c.first_at-first.ensures, c.first_at-second.ensures)

pub returns-in-Some : goal.returns-in-Some
returns-in-Some c = c.in-Some.ensures 0 c.first_at-first.ensures c.first_at-second.ensures

pub returns-in-None : goal.returns-in-None
returns-in-None c = c.nth_passing.ensures
