use Rattle.std.proofs.Common.{◌≡◌, ◌≤◌, ◌-◌, length}
use Rattle.elem.specs.Lexing.{lexed_from}
use Rattle.elem.proofs.lexing.behind_spaces.Given as goal

abbrev pub invariant-loop-start : goal.invariant-loop-start
invariant-loop-start l = record {
  same : lexed_from l.text l.start ≡ lexed_from l.text l.at;
  behind : l.at ≤ l.start;
  within : l.start ≤ length l.text;
}

abbrev pub decreases-loop-start : goal.decreases-loop-start
decreases-loop-start l = length l.text - l.start
