use Rattle.std.proofs.Common.{sym}
use Rattle.discrete_set.proofs.SetLaws.{last_item}
use Rattle.discrete_set.proofs.look_ups.last_rank.Goals as goal

pub returns-in-Some : goal.returns-in-Some
returns-in-Some c = sym (last_item c.args.runs.now c.in-Some.run'.now c.requires (sym c.in-Some.ensures.value))
