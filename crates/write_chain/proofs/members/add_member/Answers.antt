use Rattle.std.proofs.Common.{ap, ◌∙◌}
use Rattle.std.specs.Prelude.{is_some}
use Rattle.write_chain.proofs.MemberLemmas.{member_inserted, member_there}
use Rattle.write_chain.proofs.members.add_member.Goals as goal

pub returns-then-is_some : goal.returns-then-is_some
returns-then-is_some c = member_there c.args.members.now c.args.x.now (c.if-is_some.ensures ∙ ap is_some c.probe.ensures)

pub returns : goal.returns
returns c = member_inserted c.insert.result c.args.members.now c.insert.new.self c.args.x.now c.insert.ensures.ok
