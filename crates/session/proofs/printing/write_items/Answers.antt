use Rattle.std.proofs.Common.{List, [], ◌++◌, map, sym, ap, subst}
use Rattle.session.specs.KnownShapes.{AreKnown}
use Rattle.base_store.specs.Stored.{view_in}
use Rattle.read_chain.specs.Walks.{to_come}
use Rattle.vocabulary.specs.declared.items.Item.{Item}
use Rattle.machine.specs.Texts.{item_text, listed}
use Rattle.machine.specs.Views.{shown}
use Rattle.session.specs.Printing.{separator}
use Rattle.session.proofs.PrintLemmas.{item_said, all_said}
use Rattle.session.proofs.ReplyLemmas.{goes_none, goes_more, goes_text}
use Rattle.session.proofs.printing.write_items.Goals as goal

pub loop-item-init : goal.loop-item-init
loop-item-init g c = record { walk = c.over-walk.ensures.walk; known = subst AreKnown (sym c.over-walk.ensures.items) c.items_fit.ensures; said = []; goes = goes_none _ _ _; whole = ap (λ (items : List Item). listed (map item_text items)) c.over-walk.ensures.items }

pub loop-item-preserved : goal.loop-item-preserved
loop-item-preserved g c = record {
  walk = c.in-Some.ensures.walk;
  known = (subst AreKnown c.in-Some.ensures.item c.loop-item.invariant.known).1;
  said = c.loop-item.invariant.said ++ (separator c.loop-item.is_first ++ item_text c.in-Some.item);
  goes = goes_more c.loop-item.invariant.goes (goes_more (rw c.separator.ensures at c.write.ensures) c.write_item.ensures);
  whole = item_said c.loop-item.is_first c.loop-item.invariant.said (listed (map item_text (shown c.args.store.now.world (view_in c.args.store.now c.args.n)))) c.in-Some.item
      (to_come c.args.store.now c.loop-item.walk) (to_come c.args.store.now c.next.new.self) c.in-Some.ensures.item c.loop-item.invariant.whole;
}

pub returns : goal.returns
returns g c =
    goes_text (all_said c.loop-item.is_first c.loop-item.invariant.said (listed (map item_text (shown c.args.store.now.world (view_in c.args.store.now c.args.n)))) (to_come c.args.store.now c.loop-item.walk) c.in_default.ensures.item.0 c.loop-item.invariant.whole)
    c.loop-item.invariant.goes

pub write_item-requires : goal.write_item-requires
write_item-requires g c = (subst AreKnown c.in-Some.ensures.item c.loop-item.invariant.known).0
