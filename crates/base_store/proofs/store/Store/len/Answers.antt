use Rattle.std.proofs.Common.{◌<◌, length, ap, sym, ◌∙◌, arith}
use Rattle.machine.specs.Bases.{Base}
use Rattle.base_store.proofs.store.Store.len.Goals as goal
use Rattle.view_steps.proofs.WorldLemmas.{read_at}
use Rattle.view_steps.proofs.CountLemmas.{rows_in-at}

pub returns-clause-few : goal.returns-clause-few
returns-clause-few c =
    let world = c.self.inside.slots.items in
    let within : c.number.result < length world = let h = rw (← c.self.view_is) at c.requires in omega (arith, h, c.number.ensures) in
    let is = read_at world c.number.result c.index.result.now within c.index.ensures in
    let many = ap (λ (x : Base). length x.rows) (is ∙ sym c.behind-self.view_is) in
    omega (arith, c.len.ensures.len, many, rows_in-at world c.number.result within (c.self.invariant.built.kinds c.number.result), c.self.invariant.few, c.self.invariant.counted)
