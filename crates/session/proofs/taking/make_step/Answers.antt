use Rattle.session.proofs.FollowLemmas.{room_or_long, steps_made}
use Rattle.session.proofs.taking.make_step.Goals as goal

pub make_view-requires-clause-room : goal.make_view-requires-clause-room
make_view-requires-clause-room c = room_or_long c.args.store.now c.args.node c.requires.room

pub returns : goal.returns
returns c =
    let made = c.make_view.ensures in
    steps_made c.args.store.now c.make_view.new.store c.args.node c.args.step c.make_view.result made.refusal made.number made.view made.made made.err
