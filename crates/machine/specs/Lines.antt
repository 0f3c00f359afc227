-- One line: its reply, and the state after it.
use Rattle.std.specs.Prelude.{ℕ, false, List, [], ◌∷◌, Option, None, Some, Result, Ok, Err, codes}
use Rattle.vocabulary.specs.declared.lines.Fault.{Fault}
use Rattle.vocabulary.specs.declared.lines.Fault.TheVariants as fault
use Rattle.vocabulary.specs.declared.lines.Purpose.TheVariants as purpose
use Rattle.vocabulary.specs.Kinds.{kind_named}
use Rattle.script_text.specs.Lines.{line_of}
use Rattle.script_text.specs.Trees.{Tree}
use Rattle.script_text.specs.Trees as line
use Rattle.machine.specs.Calling.{ended}
use Rattle.machine.specs.Following.{on_view, reached}
use Rattle.machine.specs.Iterating.{iterated, iterator_word}
use Rattle.machine.specs.Languages.{Language, only_if}
use Rattle.machine.specs.Naming.{it_of, let_of, new_of}
use Rattle.machine.specs.Outcomes.{Outcome, faulted, says}
use Rattle.machine.specs.Parts.{Part}
use Rattle.machine.specs.State.{Bound, State, named, to_iterator, to_view}
use Rattle.machine.specs.Typing.{Typing, typed}
use Rattle.machine.specs.Views.{View, shape_at}

-- ---- an expression that asks for a reply

abbrev pub eval_typed : State → View → Result Typing Fault → Outcome
eval_typed state v (Err why) = faulted state why
eval_typed state v (Ok t) = on_view state (ended state t.ending) (reached state v t.steps)

abbrev pub eval_on : Language → State → View → List Part → Outcome
eval_on language state v parts = eval_typed state v (typed language state.bases state.names purpose.Reply (shape_at state.bases v) parts)

-- the words behind a name, with what it stands for
abbrev pub eval_of : Language → State → List ℕ → Option Bound → List Part → Outcome
eval_of language state name None parts = faulted state fault.Name
eval_of language state name (Some (to_iterator it)) parts = iterated state name it (iterator_word parts)
eval_of language state name (Some (to_view v)) parts = eval_on language state v parts

-- ---- a line

-- the step of a line's tree, in a language
abbrev pub step_of : Language → State → Tree Part → Outcome
step_of language state line.Blank = record { reply = None; after = state; memory = false }
step_of language state line.Long = says state (codes "?long")
step_of language state line.Syntax = says state (codes "?syntax")
step_of language state (line.New name kind) = new_of state name (only_if language.kinds (kind_named kind))
step_of language state (line.Let name e) = let_of language state name (named state.names e.head) e.calls
step_of language state (line.It name e) = it_of language state name (named state.names e.head) e.calls
step_of language state (line.Eval e) = eval_of language state e.head (named state.names e.head) e.calls

-- the step of a line's bytes
abbrev pub step : Language → State → List ℕ → Outcome
step language state text = step_of language state (line_of text)

-- the replies to lines, one after another
abbrev pub replies : Language → State → List (List ℕ) → List (Option (List ℕ))
replies language state [] = []
replies language state (text ∷ lines) = let outcome = step language state text in outcome.reply ∷ replies language outcome.after lines
