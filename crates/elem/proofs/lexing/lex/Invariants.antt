use Rattle.std.proofs.Common.{◌≡◌, ◌≤◌, ◌-◌, ◌++◌, length}
use Rattle.std.specs.Option.{option_map}
use Rattle.elem.specs.Lexing.{lexed, lexed_from}
use Rattle.elem.proofs.lexing.lex.Given as goal

abbrev pub invariant-loop-found : goal.invariant-loop-found
invariant-loop-found g l = record {
  so_far : lexed l.text ≡ option_map (λ xs. l.found.items ++ xs) (lexed_from l.text l.at);
  within : l.at ≤ length l.text;
}

abbrev pub decreases-loop-found : goal.decreases-loop-found
decreases-loop-found g l = length l.text - l.at
