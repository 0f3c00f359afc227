-- How often a line asks the bases: an upper bound, where there is one.
use Rattle.std.specs.Prelude.{ℕ, ◌+◌, ◌≤◌, ◌&&◌, ◌||◌, if◌then◌else◌, List, drop, Option, None, Some, Result, Ok, Err}
use Rattle.cursor_seat.specs.Seats.{hidden_ahead}
use Rattle.machine.specs.Bases.{World}
use Rattle.machine.specs.Iterating.{iterator_word}
use Rattle.machine.specs.Iterators.{Iterator}
use Rattle.machine.specs.Meanings.{Ending, calls, calls_for, calls_with, makes, shows}
use Rattle.machine.specs.Parts.{Part}
use Rattle.machine.specs.State.{Bound, State, named, to_iterator, to_view}
use Rattle.machine.specs.Views.{View, candidates, shape_at}
use Rattle.read_chain.specs.ListLookUps.{is_asked_at_once}
use Rattle.read_chain.specs.Reads.{is_looked_up}
use Rattle.script_text.specs.Lines.{line_of}
use Rattle.script_text.specs.Trees.{Tree}
use Rattle.script_text.specs.Trees as line
use Rattle.session.specs.Targets.{Target, leads, nothing, stops, target}
use Rattle.vocabulary.specs.declared.calls.Call.{Call}
use Rattle.vocabulary.specs.declared.lines.Fault.{Fault}
use Rattle.vocabulary.specs.declared.lines.OnIterator.{OnIterator}
use Rattle.vocabulary.specs.declared.lines.OnIterator.TheVariants.{Remove}
use Rattle.vocabulary.specs.declared.lines.Purpose.TheVariants as purpose
use Rattle.vocabulary.specs.Shapes.{is_keyed}
use Rattle.write_chain.specs.Calls.{is_forced, is_removed_at_once, is_single}

-- no more calls than that, where there is a bound
abbrev pub AsksAtMost : Option ℕ → ℕ → ℕ → Type 0
AsksAtMost None before after = Unit {0}
AsksAtMost (Some most) before after = after ≤ before + most

-- a look-up asks once; a removal that a list finds at once, twice; what puts or removes one item by its key, three times;
-- and a pair that takes its partners from others, four times
abbrev pub most_of_call : World → View → Call → Option ℕ
most_of_call world v call =
    if is_looked_up (shape_at world v) call || is_asked_at_once world v call then Some 1
    else if is_removed_at_once world v call then Some 2
    else if is_single call && is_keyed (shape_at world v) then Some 3
    else if is_forced call then Some 4 else None

-- a view is printed by a walk, and another view is read whole
abbrev pub most_at : World → View → Ending → Option ℕ
most_at world v (calls (Ok call)) = most_of_call world v call
most_at world v (calls (Err why)) = Some 0
most_at world v ending = None

abbrev pub most_for : World → Result Target Fault → Option ℕ
most_for world (Err fault) = Some 0
most_for world (Ok (leads v ending)) = most_at world v ending
most_for world (Ok nothing) = Some 0
most_for world (Ok (stops why)) = Some 0

-- an iterator passes the hidden candidates on its way, and asks once more; and it removes in one call
abbrev pub most_of_iterator : World → Iterator → Option OnIterator → Option ℕ
most_of_iterator world it None = Some 0
most_of_iterator world it (Some Remove) = Some 1
most_of_iterator world it (Some word) = Some (hidden_ahead (drop it.passed (candidates world it.view)) + 1)

-- the words behind a name, with what it stands for
abbrev pub most_for_words : State → Option Bound → List Part → Option ℕ
most_for_words state None parts = Some 0
most_for_words state (Some (to_iterator it)) parts = most_of_iterator state.bases it (iterator_word parts)
most_for_words state (Some (to_view v)) parts = most_for state.bases (target state.bases state.names state.handles purpose.Reply v parts)

-- a line asks nothing but where a reply is asked for
abbrev pub most_in : State → Tree Part → Option ℕ
most_in state (line.Eval e) = most_for_words state (named state.names e.head) e.calls
most_in state other = Some 0

abbrev pub most_asked : State → List ℕ → Option ℕ
most_asked state text = most_in state (line_of text)
