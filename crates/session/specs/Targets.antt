-- What the words behind a name lead to, and the outcome that comes of it.
use Rattle.std.specs.Prelude.{ℕ, List, codes, Option, None, Some, Result, Ok, Err, if◌then◌else◌}
use Rattle.vocabulary.specs.declared.lines.Fault.{Fault}
use Rattle.vocabulary.specs.declared.lines.Fault.TheVariants.{Call}
use Rattle.vocabulary.specs.declared.lines.Purpose.{Purpose}
use Rattle.vocabulary.specs.declared.refusals.Refusal.{Refusal}
use Rattle.vocabulary.specs.declared.shapes.Shape.{Shape}
use Rattle.machine.specs.Bases.{World}
use Rattle.machine.specs.Calling.{ended}
use Rattle.machine.specs.Following.{made}
use Rattle.machine.specs.Languages.{known}
use Rattle.machine.specs.Making.{Made, a_view, absent, refused}
use Rattle.machine.specs.Meanings.{Ending}
use Rattle.machine.specs.Naming.{it_made, let_ended}
use Rattle.machine.specs.Outcomes.{Outcome, faulted, refused_by, says}
use Rattle.machine.specs.Parts.{Part}
use Rattle.machine.specs.State.{Names, State}
use Rattle.machine.specs.Typing.{Typing, iterates, typed_words}
use Rattle.machine.specs.Views.{View, shape_at}

-- a view with what stands at the end of the steps, nothing, or a refusal
pub data Target : Type 0 where
  leads : View → Ending → Target
  nothing : Target
  stops : Refusal → Target

abbrev pub with_ending : Ending → Made → Target
with_ending ending (a_view v) = leads v ending
with_ending ending absent = nothing
with_ending ending (refused why) = stops why

-- what the steps of a typing lead to from a view, the first of which has this number, or the fault
abbrev pub reach : World → ℕ → View → Result Typing Fault → Result Target Fault
reach world number v (Err why) = Err why
reach world number v (Ok t) = Ok (with_ending t.ending (made world number v t.steps))

-- what known words lead to from a view, or their fault
abbrev pub target : World → Names → ℕ → Purpose → View → List Part → Result Target Fault
target world names number for v parts = reach world number v (typed_words known world names for (shape_at world v) parts)

-- ---- what the words give, before they are followed

-- the shape of the view to which words lead, or their fault
abbrev pub shape_of : Result Typing Fault → Result Shape Fault
shape_of (Err why) = Err why
shape_of (Ok t) = Ok t.gives

-- why they give no iterator
abbrev pub iterator_fault : Result Shape Fault → Option Fault
iterator_fault (Err why) = Some why
iterator_fault (Ok of) = if iterates of then None else Some Call

-- ---- outcomes

-- the outcome where a reply is asked for
abbrev pub concluded : State → Result Target Fault → Outcome
concluded state (Err fault) = faulted state fault
concluded state (Ok (leads v ending)) = ended state ending v
concluded state (Ok nothing) = says state (codes "null")
concluded state (Ok (stops why)) = refused_by state why

-- the outcome where a name is bound at the end
abbrev pub bound_concluded : State → (Ending → View → Outcome) → Result Target Fault → Outcome
bound_concluded state rest (Err fault) = faulted state fault
bound_concluded state rest (Ok (leads v ending)) = rest ending v
bound_concluded state rest (Ok nothing) = says state (codes "null")
bound_concluded state rest (Ok (stops why)) = refused_by state why

-- to the view, which so many steps lead to, or to an iterator over it
abbrev pub let_concluded : State → List ℕ → ℕ → Result Target Fault → Outcome
let_concluded state name steps target = bound_concluded state (let_ended state name steps) target

abbrev pub it_concluded : State → List ℕ → ℕ → Result Target Fault → Outcome
it_concluded state name steps target = bound_concluded state (λ ending. it_made state name steps) target
