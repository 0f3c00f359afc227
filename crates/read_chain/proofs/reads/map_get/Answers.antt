use Rattle.std.proofs.Common.{sym, ◌∙◌, ap, Some, None}
use Rattle.std.specs.Option.{option_map}
use Rattle.read_chain.specs.Reads.{shown_in}
use Rattle.machine.specs.Shown.{has_key}
use Rattle.vocabulary.specs.Items.{value_of}
use Rattle.read_chain.proofs.reads.map_get.Goals as goal
use Rattle.view_steps.proofs.KeyLemmas.{find_one}

pub returns-in-Some-clause-value : goal.returns-in-Some-clause-value
returns-in-Some-clause-value g c =
    let items = shown_in c.args.store.now c.args.n in
    ap Some c.value_of.ensures ∙ sym (ap (option_map value_of) (find_one (has_key c.args.k.now) items (Some c.in-Some.item) c.in-Some.ensures.item))

pub returns-in-None-clause-value : goal.returns-in-None-clause-value
returns-in-None-clause-value g c =
    let items = shown_in c.args.store.now c.args.n in
    sym (ap (option_map value_of) (find_one (has_key c.args.k.now) items None c.in-None.ensures.item))
