use Rattle.std.proofs.Common.{ℕ, ap, sym, ◌∙◌}
use Rattle.std.specs.List.{position}
use Rattle.base_store.specs.Stored.{view_in}
use Rattle.machine.specs.Bases.{Base, base_at}
use Rattle.vocabulary.specs.declared.items.Item.{Item}
use Rattle.vocabulary.specs.declared.items.Item.TheVariants.{One}
use Rattle.vocabulary.specs.Items.{same_item}
use Rattle.view_steps.proofs.KnownLemmas.{known_base}
use Rattle.read_chain.proofs.ListLookUps.{at_once}
use Rattle.read_chain.proofs.list_look_ups.first_row.Goals as goal

pub returns-clause-index : goal.returns-clause-index
returns-clause-index g c =
    let s = c.args.store.now in
    let v = view_in s c.args.n in
    let item = c.args.item.now in
    c.find_item.ensures.index
    ∙ ap (λ (it : Item). position (same_item it) (base_at s.world c.base_of.result).rows) (ap One c.key_of.ensures ∙ sym (at_once s.world v item c.requires.at_once).is)
    ∙ ap (λ (b : ℕ). position (same_item item) (base_at s.world b).rows) c.base_of.ensures.base
    ∙ ap (λ (at : Base). position (same_item item) at.rows) (sym (known_base s.world v c.base_of.ensures.known))
