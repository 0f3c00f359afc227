use Rattle.std.proofs.Common.{◌≤◌, length, take, ◌∙◌, ap, arith}
use Rattle.elem.proofs.MemoryLemmas.{given}
use Rattle.elem.proofs.memory.MemInputsInputs.read.Goals as goal

pub overflow_add-self : goal.overflow_add-self
overflow_add-self c = omega (arith, c.rest_of-rest.ensures.fits)

pub returns-clause-bytes : goal.returns-clause-bytes
returns-clause-bytes c =
    let rest = rw c.deref-2.ensures.value at (rw c.deref-3.ensures.value at c.rest_of-rest.ensures.rest) in
    let short : c.min-count.result ≤ length c.rest_of-rest.result.now = omega (arith, c.min.ensures, c.min-count.ensures) in
    rw (← c.self.view_is) (given _ c.args.room.now c.copy_from_slice.new.self c.self.inside.at c.min-count.result (c.copy_from_slice.ensures.after ∙ ap (λ r. take c.min-count.result r) rest) (rw (← rest) short))
