use Rattle.std.proofs.Common.{◌≡◌, cond, unwrap_or, ap, ◌∙◌, sym, subst, arith}
use Rattle.elem.specs.Elements.{same}
use Rattle.bag_base.specs.Counts.{count_of, with_count, AreCounts, total_of}
use Rattle.bag_base.proofs.CountLemmas.{count-le-total, total-le, counts-with_count, total-with_count, sets-with_count}
use Rattle.bag_base.proofs.bag.Bag.write.Goals as goal

pub overflow_sub-self : goal.overflow_sub-self
overflow_sub-self g c =
    let h = count-le-total c.args.x.now (g.R.CountRows.rows c.self.inside.rows) in
    let before : c.from.result ≡ count_of (g.R.CountRows.rows c.self.inside.rows) c.args.x.now = c.from.ensures ∙ c.unwrap_or-before.ensures ∙ ap (λ o. unwrap_or o 0) c.requires.found ∙ ap (λ l. count_of l c.args.x.now) (sym c.self.view_is) in
    let total = c.self.invariant.1 in
    omega arith

pub overflow_add-self : goal.overflow_add-self
overflow_add-self g c =
    let h = total-le (g.R.CountRows.rows c.self.inside.rows) c.self.invariant.0 in
    let len = c.len-rows.ensures.len in
    let short = c.len-rows.type_inv in
    let total = c.self.invariant.1 in
    let n = c.from-2.ensures in
    let most = c.requires.most in
    omega arith

pub invariant_of-self-2 : goal.invariant_of-self-2
invariant_of-self-2 g c =
    let e = c.in_ok-write_row.ensures.ok in
    let rows = g.R.CountRows.rows c.self.inside.rows in
    let counts = subst AreCounts (sym e) (counts-with_count g.R.CountRows.inserted g.met.R.CountRows.adds_row rows c.args.x.now c.args.n c.requires.most c.self.invariant.0) in
    let sum = total-with_count g.R.CountRows.inserted g.met.R.CountRows.adds_row rows c.args.x.now c.args.n in
    let new : total_of (g.R.CountRows.rows c.write_row.new.rows) ≡ total_of (with_count g.R.CountRows.inserted rows c.args.x.now c.args.n) = ap total_of e in
    let h = count-le-total c.args.x.now rows in
    let before : c.from.result ≡ count_of rows c.args.x.now = c.from.ensures ∙ c.unwrap_or-before.ensures ∙ ap (λ o. unwrap_or o 0) c.requires.found ∙ ap (λ l. count_of l c.args.x.now) (sym c.self.view_is) in
    let total = c.self.invariant.1 in
    let n = c.from-2.ensures in
    (counts, omega arith)

pub returns-clause-counts : goal.returns-clause-counts
returns-clause-counts g c = λ y.
    let e = c.in_ok-write_row.ensures.ok in
    ap (λ l. count_of l y) e ∙ sets-with_count g.R.CountRows.inserted g.met.R.CountRows.adds_row (g.R.CountRows.rows c.self.inside.rows) c.args.x.now c.args.n c.len-rows.ensures.distinct y
    ∙ ap (λ l. cond (same c.args.x.now y) c.args.n (count_of l y)) c.self.view_is
