use Rattle.std.proofs.Common.{◌≡◌, sym, ◌∙◌, ap, subst, Some, None}
use Rattle.std.specs.Prelude.{filter, is_some}
use Rattle.std.specs.Option.{option_to_list}
use Rattle.elem.specs.declared.elements.Elem.{Elem}
use Rattle.read_chain.specs.Reads.{shown_in}
use Rattle.machine.specs.Shown.{has_key}
use Rattle.vocabulary.specs.Items.{same_item}
use Rattle.read_chain.proofs.reads.contains.Goals as goal
use Rattle.view_steps.proofs.KeyLemmas.{any_found, shown_at}

pub returns-in-Some-clause-shown : goal.returns-in-Some-clause-shown
returns-in-Some-clause-shown g c =
    let items = shown_in c.args.store.now c.args.n in
    c.same_item.ensures ∙ sym (shown_at c.args.item.now items (Some c.in-Some.shown) (subst (λ (k : Elem). filter (has_key k) items ≡ option_to_list (Some c.in-Some.shown)) c.key_of.ensures c.in-Some.ensures.item))

pub returns-in-None-clause-shown : goal.returns-in-None-clause-shown
returns-in-None-clause-shown g c =
    let items = shown_in c.args.store.now c.args.n in
    sym (shown_at c.args.item.now items None (subst (λ (k : Elem). filter (has_key k) items ≡ option_to_list None) c.key_of.ensures c.in-None.ensures.item))

pub returns-else-is_found_at_once-clause-shown : goal.returns-else-is_found_at_once-clause-shown
returns-else-is_found_at_once-clause-shown g c =
    let items = shown_in c.args.store.now c.args.n in
    c.is_some.ensures ∙ sym (any_found (same_item c.args.item.now) items ∙ ap is_some (sym c.find.ensures))
