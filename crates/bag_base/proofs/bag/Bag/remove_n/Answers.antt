use Rattle.std.proofs.Common.{◌≡◌, unwrap_or, ap, ◌∙◌, arith}
use Rattle.bag_base.specs.Counts.{count_of}
use Rattle.bag_base.proofs.CountLemmas.{count-le-most}
use Rattle.bag_base.proofs.bag.Bag.remove_n.Goals as goal

pub write-written-requires-clause-most : goal.write-written-requires-clause-most
write-written-requires-clause-most g c =
    let before : c.unwrap_or-before.result ≡ count_of (g.R.CountRows.rows c.self.inside.rows) c.args.x = c.unwrap_or-before.ensures ∙ ap (λ o. unwrap_or o 0) c.probe-found.ensures in
    let less = c.saturating_sub.ensures in
    let most = count-le-most c.args.x (g.R.CountRows.rows c.self.inside.rows) c.self.invariant.0 in
    omega arith
