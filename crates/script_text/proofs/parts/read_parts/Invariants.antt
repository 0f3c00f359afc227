use Rattle.std.proofs.Common.{length, ◌-◌}
use Rattle.script_text.proofs.LoopLaws.{IsRead}
use Rattle.script_text.proofs.parts.read_parts.Given as goal

abbrev pub invariant-loop-token : goal.invariant-loop-token
invariant-loop-token l = IsRead l.line l.from l.parts.items l.stage l.place l.at

abbrev pub decreases-loop-token : goal.decreases-loop-token
decreases-loop-token l = length l.line - l.at
