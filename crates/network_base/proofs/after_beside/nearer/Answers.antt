use Rattle.network_base.proofs.Nearing.{nearing_place, nearing_number, nearer_on, told_behind}
use Rattle.network_base.proofs.after_beside.nearer.Goals as goal

pub comes_before-requires-clause-second : goal.comes_before-requires-clause-second
comes_before-requires-clause-second c = let k = c.requires.place in nearing_number c.args.edges.now k.0 c.args.end.now c.args.at.now (c.requires.nearing k.0 k.1) c.in-Some.e c.in-Some.is

pub after_at-requires : goal.after_at-requires
after_at-requires c = let k = c.requires.place in nearing_place c.args.edges.now k.0 c.args.end.now c.args.at.now (c.requires.nearing k.0 k.1) c.in-Some.e c.in-Some.is

pub returns-in-Some-false : goal.returns-in-Some-false
returns-in-Some-false c k is = nearer_on c.args.edges.now k c.args.end.now c.args.at.now (c.requires.nearing k is) c.in-Some.e c.in-Some.is c.args.start.now is (λ j h. told_behind c.in-Some-false.field-0 k j c.in-Some-false.field-0-test (c.in-Some-false.ensures k j is h)) c.after_at.result c.after_at.ensures
