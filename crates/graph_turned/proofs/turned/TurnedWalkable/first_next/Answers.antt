use Rattle.std.proofs.Common.{sym, ap, ◌∙◌, slice_get}
use Rattle.graph_turned.proofs.TurnedLemmas.{nexts_same}
use Rattle.graph_turned.proofs.turned.TurnedWalkable.first_next.Goals as goal

pub returns-clause-answer : goal.returns-clause-answer
returns-clause-answer g c =
    let rows = c.args.self.now.rows.now in
    c.first_next.ensures.answer ∙ ap (λ xs. slice_get xs 0) (sym (nexts_same rows.directed c.args.self.now.turned c.args.a rows.edges))
