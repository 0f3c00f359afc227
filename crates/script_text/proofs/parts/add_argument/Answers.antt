use Rattle.std.proofs.Common.{◌∷◌, [], ◌<◌, length, sym, ap, ◌∙◌, arith, length-append, lit<}
use Rattle.script_text.specs.Calls.{last_count}
use Rattle.script_text.proofs.PartLaws.{last_count-push, with_argument_shown}
use Rattle.script_text.proofs.parts.add_argument.Goals as goal

pub push-requires : goal.push-requires
push-requires c =
    let small : length c.pop.new.self.items < 512 = omega (arith, c.requires.room, ap length c.in-Some.ensures.items, length-append c.pop.new.self.items (c.in-Some.part ∷ [])) in
    (lit< tt, small)

pub with_argument-requires : goal.with_argument-requires
with_argument-requires c = omega (arith, c.requires.count, ap last_count c.in-Some.ensures.items, last_count-push c.pop.new.self.items c.in-Some.part)

pub returns-in-Some-clause-parts : goal.returns-in-Some-clause-parts
returns-in-Some-clause-parts c = λ calls are.
    rw c.push.ensures.items (with_argument_shown c.pop.new.self.items c.in-Some.part c.with_argument.result c.args.place c.with_argument.ensures.part calls (sym c.in-Some.ensures.items ∙ are))

pub returns-in-Some-clause-count : goal.returns-in-Some-clause-count
returns-in-Some-clause-count c =
    omega (arith, ap last_count c.push.ensures.items, last_count-push c.pop.new.self.items c.with_argument.result, c.with_argument.ensures.count, ap last_count c.in-Some.ensures.items, last_count-push c.pop.new.self.items c.in-Some.part)
