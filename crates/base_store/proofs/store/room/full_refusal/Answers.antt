use Rattle.std.proofs.Common.{ap, not, sym, ◌∙◌}
use Rattle.machine.specs.Bases.{base_at}
use Rattle.base_store.specs.contracts.store.Slot.{the_view}
use Rattle.view_steps.proofs.WorldLemmas.{read_at}
use Rattle.base_store.proofs.RoomLemmas.{edit_taken}
use Rattle.base_store.proofs.store.room.full_refusal.Goals as goal

pub returns-then-binds_partner-clause-full : goal.returns-then-binds_partner-clause-full
returns-then-binds_partner-clause-full c d = λ taken.
    let same = read_at d.args.slots.now d.args.b d.index-slots-b.result d.requires.base d.index-slots-b.is ∙ sym d.slot.view_is in
    let told = edit_taken (base_at d.args.slots.now d.args.b) (the_view d.slot.inside) d.args.spot d.args.row.now d.binds_partner.result same d.binds_partner.ensures.bound in
    let other = sym taken ∙ told ∙ ap not d.if-binds_partner.true in
    absurd (cc other)

pub returns-else-binds_partner-clause-refused : goal.returns-else-binds_partner-clause-refused
returns-else-binds_partner-clause-refused c d = λ refused.
    let same = read_at d.args.slots.now d.args.b d.index-slots-b.result d.requires.base d.index-slots-b.is ∙ sym d.slot.view_is in
    let told = edit_taken (base_at d.args.slots.now d.args.b) (the_view d.slot.inside) d.args.spot d.args.row.now d.binds_partner.result same d.binds_partner.ensures.bound in
    let other = sym refused ∙ told ∙ ap not d.if-binds_partner.false in
    absurd (cc other)
