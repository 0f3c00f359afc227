use Rattle.std.proofs.Common.{ap, ◌∙◌, arith}
use Rattle.bag_base.specs.Counts.{total_of}
use Rattle.bag_base.proofs.OccurrenceLemmas.{length-occurrences}
use Rattle.bag_base.proofs.bag.Bag.total.Goals as goal

pub returns-clause-total : goal.returns-clause-total
returns-clause-total g c =
    let e = length-occurrences c.args.self.now in
    let t = c.self.invariant.1 ∙ ap total_of c.self.view_is in
    let f = c.from.ensures in
    let m = c.min.ensures in
    omega arith
