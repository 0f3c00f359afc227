-- What stands at the end of an expression that asks for a reply: the text of a view, or a call.
use Rattle.std.specs.Prelude.{Bool, Option, None, Some, Result, Ok, Err}
use Rattle.vocabulary.specs.declared.calls.Call.{Call}
use Rattle.vocabulary.specs.declared.lines.Fault.TheVariants as fault
use Rattle.vocabulary.specs.declared.refusals.Refusal.{Refusal}
use Rattle.vocabulary.specs.Refusals.{name_of}
use Rattle.machine.specs.Answering.{Answered, answered, answered_for, answered_with}
use Rattle.machine.specs.Meanings.{Ending, calls, calls_for, calls_with, makes, shows}
use Rattle.machine.specs.Memory.{wants_memory, wants_memory_for, wants_memory_with}
use Rattle.machine.specs.Outcomes.{Outcome, faulted, refused_by, says}
use Rattle.machine.specs.Reading.{reading_refusal}
use Rattle.machine.specs.State.{State, written_through}
use Rattle.machine.specs.Texts.{answer_text}
use Rattle.machine.specs.Views.{View}
use Rattle.machine.specs.ViewTexts.{text_of}

-- an outcome, unless something is refused first
abbrev pub unless_refused : State → Option Refusal → Outcome → Outcome
unless_refused state None outcome = outcome
unless_refused state (Some why) outcome = refused_by state why

-- the answer of a call on a view is the reply, or the name of the refusal
abbrev pub replied : State → View → Bool → Answered → Outcome
replied state v memory (Ok done) = record { reply = Some (answer_text done.0); after = written_through state v done.1; memory = memory }
replied state v memory (Err why) = record { reply = Some (name_of why); after = state; memory = memory }

-- a view is read and printed
abbrev pub printed : State → View → Outcome
printed state v = unless_refused state (reading_refusal state.bases v) (says state (text_of state.bases v))

abbrev pub called : State → View → Result Call Refusal → Outcome
called state v (Err why) = refused_by state why
called state v (Ok call) =
    let done = answered state.bases v call in
    replied state v (wants_memory state.bases v call done) done

-- the end of the steps, at a view
abbrev pub ended : State → Ending → View → Outcome
ended state shows v = printed state v
ended state (calls call) v = called state v call
ended state (calls_with word other) v = replied state v (wants_memory_with state.bases v word) (answered_with state.bases v word other)
ended state (calls_for word k other) v = replied state v (wants_memory_for state.bases v word) (answered_for state.bases v word k other)
ended state (makes word) v = faulted state fault.Call
