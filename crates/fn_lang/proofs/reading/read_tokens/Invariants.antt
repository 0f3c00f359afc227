use Rattle.std.proofs.Common.{length, ◌-◌}
use Rattle.fn_lang.proofs.StackLaws.{IsRead}
use Rattle.fn_lang.proofs.reading.read_tokens.Given as goal

abbrev pub invariant-loop-token : goal.invariant-loop-token
invariant-loop-token l = IsRead l.text l.fn.sort l.parts.items l.count l.stack.items l.bare l.at

abbrev pub decreases-loop-token : goal.decreases-loop-token
decreases-loop-token l = length l.text - l.at
