use Rattle.std.proofs.Common.{◌≡◌, ◌+◌, unwrap_or, ap, ◌∙◌, subst, arith}
use Rattle.bag_base.specs.Counts.{count_of, AreCounts}
use Rattle.bag_base.proofs.CountLemmas.{count-le-most, same_with_count}
use Rattle.bag_base.proofs.bag.Bag.add_n.Goals as goal

pub overflow_add-before : goal.overflow_add-before
overflow_add-before g c =
    let before : c.unwrap_or-before.result ≡ count_of (g.R.CountRows.rows c.self.inside.rows) c.args.x = c.unwrap_or-before.ensures ∙ ap (λ o. unwrap_or o 0) c.probe-found.ensures in
    let most = count-le-most c.args.x (g.R.CountRows.rows c.self.inside.rows) c.self.invariant.0 in
    let n = c.requires in
    omega arith

pub returns-in-Ok-clause-nothing : goal.returns-in-Ok-clause-nothing
returns-in-Ok-clause-nothing g c = λ e.
    let rows = g.R.CountRows.rows c.self.inside.rows in
    let before : c.unwrap_or-before.result ≡ count_of rows c.args.x = c.unwrap_or-before.ensures ∙ ap (λ o. unwrap_or o 0) c.probe-found.ensures in
    let before_now : c.unwrap_or-before.result ≡ count_of c.args.self.now c.args.x = before ∙ ap (λ l. count_of l c.args.x) c.self.view_is in
    let zero_more : c.unwrap_or-before.result + c.args.n ≡ count_of c.args.self.now c.args.x = omega arith in
    c.in-Ok.ensures.rows ∙ same_with_count g.R.CountRows.inserted g.met.R.CountRows.adds_row c.args.self.now c.args.x (c.unwrap_or-before.result + c.args.n) (subst AreCounts c.self.view_is c.self.invariant.0) zero_more
