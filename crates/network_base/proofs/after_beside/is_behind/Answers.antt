use Rattle.network_base.proofs.Nearing.{over_behind, nearing_number, later_behind, told_before}
use Rattle.network_base.proofs.after_beside.is_behind.Goals as goal

pub returns-in_default : goal.returns-in_default
returns-in_default c t k is = over_behind c.args.edges.now k c.args.end.now c.args.at.now (c.requires.nearing k is) c.in_default.is

pub comes_before-requires-clause-second : goal.comes_before-requires-clause-second
comes_before-requires-clause-second c = let k = c.requires.place in nearing_number c.args.edges.now k.0 c.args.end.now c.args.at.now (c.requires.nearing k.0 k.1) c.in-Some.e c.in-Some.is

pub returns-in-Some-comes_before : goal.returns-in-Some-comes_before
returns-in-Some-comes_before c t k is = later_behind c.args.edges.now k c.args.end.now c.args.at.now (c.requires.nearing k is) c.in-Some.e c.in-Some.is (λ j h. told_before c.in-Some-comes_before.before k j t (c.in-Some-comes_before.ensures k j is h))
