use Rattle.std.proofs.Common.{List, ap, sym, ◌∙◌}
use Rattle.std.specs.List.{position}
use Rattle.base_store.specs.Stored.{view_in}
use Rattle.vocabulary.specs.declared.items.Item.{Item}
use Rattle.vocabulary.specs.Items.{same_item}
use Rattle.read_chain.proofs.ListLookUps.{all_rows}
use Rattle.read_chain.proofs.list_look_ups.item_index_of.Goals as goal

pub returns-clause-index : goal.returns-clause-index
returns-clause-index g c =
    let s = c.args.store.now in
    c.first_row.ensures.index ∙ sym (ap (λ (rows : List Item). position (same_item c.args.item.now) rows) (all_rows s.world (view_in s c.args.n) c.args.item.now c.base_of-base.ensures.known c.requires.at_once))
