-- Lines that bind a name: to a new base, to a view or a base made of one, and to an iterator.
use Rattle.std.specs.Prelude.{ℕ, ◌+◌, ◌-◌, max, true, List, [], ◌∷◌, ◌++◌, length, Option, None, Some, Result, Ok, Err, codes, if◌then◌else◌}
use Rattle.vocabulary.specs.declared.kinds.Kind.{Kind}
use Rattle.vocabulary.specs.declared.lines.Fault.{Fault}
use Rattle.vocabulary.specs.declared.lines.Fault.TheVariants as fault
use Rattle.vocabulary.specs.declared.lines.Purpose.TheVariants as purpose
use Rattle.vocabulary.specs.declared.refusals.Refusal.{Refusal}
use Rattle.machine.specs.Bases.{World, empty_base}
use Rattle.machine.specs.Calling.{unless_refused}
use Rattle.machine.specs.Copies.{made_of}
use Rattle.machine.specs.Following.{on_view, reached}
use Rattle.machine.specs.Iterators.{iterator_over}
use Rattle.machine.specs.Languages.{Language}
use Rattle.machine.specs.Leaves.{stored}
use Rattle.machine.specs.Meanings.{Ending, makes}
use Rattle.machine.specs.Outcomes.{Outcome, faulted, refused_by, refused_late, within_handles}
use Rattle.machine.specs.Parts.{Part}
use Rattle.machine.specs.Reading.{reading_refusal}
use Rattle.machine.specs.State.{Bound, State, bound, to_iterator, to_view}
use Rattle.machine.specs.Typing.{Typing, iterates, typed, typed_words}
use Rattle.machine.specs.Views.{View, base, shape_at}

-- among these bases a name stands for something, for so many handles
abbrev pub binding : State → World → List ℕ → Bound → ℕ → Outcome
binding state world name it handles = within_handles state handles (record {
  reply = Some (codes "ok");
  after = record { bases = world; names = bound state.names name it; handles = state.handles + handles };
  memory = true;
})

-- a name for the last of these bases
abbrev pub named_last : State → List ℕ → World → Outcome
named_last state name world = binding state world name (to_view (base (stored (length world - 1)))) 1

-- ---- a new base

abbrev pub new_of : State → List ℕ → Option Kind → Outcome
new_of state name None = faulted state fault.Call
new_of state name (Some kind) = named_last state name (state.bases ++ empty_base kind ∷ [])

-- ---- a view, or a base made of one

abbrev pub base_made : State → List ℕ → Result World Refusal → Outcome
base_made state name (Err why) = refused_late state why
base_made state name (Ok world) = named_last state name world

-- a view takes as many handles as it has steps, and at least one
abbrev pub let_ended : State → List ℕ → ℕ → Ending → View → Outcome
let_ended state name steps (makes word) v = base_made state name (made_of state.bases v word)
let_ended state name steps other v = binding state state.bases name (to_view v) (max 1 steps)

abbrev pub let_typed : State → List ℕ → View → Result Typing Fault → Outcome
let_typed state name v (Err why) = faulted state why
let_typed state name v (Ok t) = on_view state (let_ended state name (length t.steps) t.ending) (reached state v t.steps)

abbrev pub let_on : Language → State → List ℕ → View → List Part → Outcome
let_on language state name v parts = let_typed state name v (typed language state.bases state.names purpose.Name (shape_at state.bases v) parts)

abbrev pub let_of : Language → State → List ℕ → Option Bound → List Part → Outcome
let_of language state name None parts = faulted state fault.Name
let_of language state name (Some (to_iterator it)) parts = faulted state fault.Call
let_of language state name (Some (to_view v)) parts = let_on language state name v parts

-- ---- an iterator

-- the view is read, and the iterator takes one handle more than its steps
abbrev pub it_made : State → List ℕ → ℕ → View → Outcome
it_made state name steps v =
    unless_refused state (reading_refusal state.bases v) (binding state state.bases name (to_iterator (iterator_over state.bases v)) (steps + 1))

-- the whole expression is typed, and then its shape is asked
abbrev pub it_typed : State → List ℕ → View → Result Typing Fault → Outcome
it_typed state name v (Err why) = faulted state why
it_typed state name v (Ok t) = if iterates t.gives then on_view state (it_made state name (length t.steps)) (reached state v t.steps) else faulted state fault.Call

abbrev pub it_on : Language → State → List ℕ → View → List Part → Outcome
it_on language state name v parts = it_typed state name v (typed_words language state.bases state.names purpose.Iterator (shape_at state.bases v) parts)

abbrev pub it_named : Language → State → List ℕ → Option Bound → List Part → Outcome
it_named language state name None parts = faulted state fault.Name
it_named language state name (Some (to_iterator it)) parts = faulted state fault.Call
it_named language state name (Some (to_view v)) parts = it_on language state name v parts

-- a language without iterators knows no such line
abbrev pub it_of : Language → State → List ℕ → Option Bound → List Part → Outcome
it_of language state name it parts = if language.iterators then it_named language state name it parts else faulted state fault.Call
