use Rattle.std.proofs.Common.{sym, subst}
use Rattle.std.specs.Prelude.{Ok}
use Rattle.base_store.specs.Stored.{view_in}
use Rattle.vocabulary.specs.declared.answers.Answer.TheVariants.{Element}
use Rattle.machine.specs.CallEdits.{hit_at}
use Rattle.machine.specs.Views.{candidates}
use Rattle.write_chain.specs.Calls.{Came}
use Rattle.write_chain.proofs.RemoveLemmas.{gone_came, remove_at_given, row_gone, spot_there}
use Rattle.write_chain.proofs.removing.remove_at.Goals as goal
use Rattle.view_steps.proofs.ChangeLemmas.{room}

pub remove_row-requires-clause-change : goal.remove_row-requires-clause-change
remove_row-requires-clause-change g c = room _ _ c.requires.change

pub remove_row-requires-clause-spot : goal.remove_row-requires-clause-spot
remove_row-requires-clause-spot g c =
    let s = c.args.store.now in
    let v = view_in s c.args.n in
    spot_there s.world v c.place_of_item-place.result c.base_of-b.result (hit_at c.in-Some.at (candidates s.world v)) c.base_of-b.ensures.base c.place_of_item-place.ensures

pub returns-clause-came : goal.returns-clause-came
returns-clause-came g c =
    let s = c.args.store.now in
    let v = view_in s c.args.n in
    let gone = hit_at c.in-Some.at (candidates s.world v) in
    let key = c.key_of.result in
    subst (Came (Ok (Element key)) s c.remove_row.new.self)
    (sym (remove_at_given s.world v c.args.i c.in-Some.at c.in-Some-item_at.item key c.in-Some.is c.requires.removes c.in-Some-item_at.ensures c.key_of.ensures))
    (gone_came s c.remove_row.new.self v gone (Element key) (row_gone s c.remove_row.new.self v c.place_of_item-place.result c.base_of-b.result gone c.base_of-b.ensures.base c.place_of_item-place.ensures c.remove_row.ensures.after) c.remove_row.ensures.few)
