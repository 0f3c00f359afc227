use Rattle.std.proofs.Common.{ap, ◌∙◌, ◌||◌}
use Rattle.std.specs.List.{list_any}
use Rattle.elem.specs.declared.elements.Elem.{Elem}
use Rattle.elem.specs.Elements.{same}
use Rattle.base_store.specs.Stored.{view_in}
use Rattle.read_chain.specs.Walks.{to_come}
use Rattle.machine.specs.Shown.{has_key}
use Rattle.machine.specs.Views.{shown}
use Rattle.write_chain.specs.Members.{is_member}
use Rattle.write_chain.proofs.MemberLemmas.{members_more}
use Rattle.write_chain.proofs.members.members_of.Goals as goal

pub loop-item-preserved : goal.loop-item-preserved
loop-item-preserved g c =
    let s = c.args.store.now in
    let old = c.loop-item.members in
    record {
      walk = c.in-Some.ensures.walk;
      rest = λ x.
          members_more old c.add_member.new.members c.in-Some.item (to_come s c.loop-item.walk) (to_come s c.next.new.self) x (list_any (has_key x) (shown s.world (view_in s c.args.n)))
          (c.in-Ok.ensures x ∙ ap (λ (k : Elem). same x k || is_member old x) c.key_of.ensures) c.in-Some.ensures.item (c.loop-item.invariant.rest x);
    }
