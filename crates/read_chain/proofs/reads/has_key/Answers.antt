use Rattle.std.proofs.Common.{sym, ◌∙◌, ap}
use Rattle.std.specs.Prelude.{is_some}
use Rattle.read_chain.specs.Reads.{shown_in}
use Rattle.machine.specs.Shown.{has_key}
use Rattle.read_chain.proofs.reads.has_key.Goals as goal
use Rattle.view_steps.proofs.KeyLemmas.{find_one, any_found}

pub returns-clause-key : goal.returns-clause-key
returns-clause-key g c =
    let items = shown_in c.args.store.now c.args.n in
    c.is_some.ensures ∙ sym (any_found (has_key c.args.k.now) items ∙ ap is_some (find_one (has_key c.args.k.now) items c.shown_with.result c.shown_with.ensures.item))
