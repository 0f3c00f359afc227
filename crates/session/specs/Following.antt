-- Where the words of an expression lead in a store.
use Rattle.std.specs.Prelude.{◌≡◌, ◌≢◌, ℕ, ◌+◌, ◌<◌, ◌≤◌, true, List, [], length, map, Option, None, Some, Result, Ok, Err, IsSome}
use Rattle.base_store.specs.declared.store.Made.{Made}
use Rattle.base_store.specs.Stored.{Stored, view_in, with_node, without_temporary}
use Rattle.script_text.specs.declared.lines.Part.{Part as Placed}
use Rattle.script_text.specs.Parts.{part_in}
use Rattle.session.specs.declared.following.End.{End}
use Rattle.session.specs.declared.following.End.TheVariants as end
use Rattle.session.specs.declared.typing.Typed.{Typed}
use Rattle.session.specs.declared.typing.Typed.TheVariants as typed
use Rattle.session.specs.Environment.{Entries, named}
use Rattle.session.specs.Targets.{Target, leads, stops, target}
use Rattle.vocabulary.specs.declared.calls.Call.{Call}
use Rattle.vocabulary.specs.declared.calls.CallForm.{CallForm}
use Rattle.vocabulary.specs.declared.lines.Fault.{Fault}
use Rattle.vocabulary.specs.declared.lines.Fault.TheVariants as fault
use Rattle.vocabulary.specs.declared.lines.Purpose.{Purpose}
use Rattle.vocabulary.specs.declared.refusals.Refusal.{Refusal}
use Rattle.vocabulary.specs.declared.refusals.Refusal.TheVariants.{NoMemory}
use Rattle.vocabulary.specs.declared.shapes.Shape.{Shape}
use Rattle.vocabulary.specs.declared.steps.StepForm.{StepForm}
use Rattle.vocabulary.specs.Fits.{fits, fits_with}
use Rattle.vocabulary.specs.Known.{form_of_call, is_known_call, is_known_other, is_known_step}
use Rattle.vocabulary.specs.StepShapes.{apply_form}
use Rattle.machine.specs.Following.{step_over}
use Rattle.machine.specs.Making.{Asked, a_view, refused}
use Rattle.machine.specs.Meanings.{Meaning, calls, calls_with, ends, shows, steps_to}
use Rattle.machine.specs.Parts.{Part}
use Rattle.machine.specs.StepArguments.{step_asked}
use Rattle.machine.specs.Views.{path, shape_at}

-- parts beside their line
abbrev pub parts_in : List ℕ → List Placed → List Part
parts_in line parts = map (part_in line) parts

-- ---- one word

-- a step with the argument that a text is; no known step takes a second one
abbrev pub asked : StepForm → List ℕ → Option (Result Asked Refusal)
asked form text = step_asked form text []

-- a step whose argument fits, on a shape that has it
abbrev pub a_step : Option (Result Asked Refusal) → Option Shape → Result Meaning Fault
a_step None next = Err fault.Call
a_step (Some it) None = Err fault.Call
a_step (Some it) (Some next) = Ok (steps_to it next)

-- a call whose arguments fit
abbrev pub a_call : Option Call → Result Meaning Fault
a_call None = Err fault.Call
a_call (Some it) = Ok (ends (calls (Ok it)))

-- a typed word with the text of its first argument, and the view of its node
abbrev pub meaning_in : Stored → List ℕ → Typed → Result Meaning Fault
meaning_in store text (typed.Step form next) = a_step (asked form text) (Some next)
meaning_in store text (typed.Call call) = Ok (ends (calls (Ok call)))
meaning_in store text (typed.With word other) = Ok (ends (calls_with word (view_in store other)))

abbrev pub meant_in : Stored → List ℕ → Result Typed Fault → Result Meaning Fault
meant_in store text (Ok it) = meaning_in store text it
meant_in store text (Err fault) = Err fault

-- views of a shape have each call of a form
abbrev pub HasCalls : Shape → CallForm → Type 0
HasCalls on form = (it : Call) → form_of_call it ≡ form → fits on it ≡ true

-- what a typed word does on views of a shape: a known step that they have, and whose argument the text fits, or a known
-- call that they have, with the view of a node of the store
abbrev pub IsTyped : Stored → Shape → List ℕ → Typed → Type 0
IsTyped store on text (typed.Step form next) = (apply_form on form ≡ Some next) × IsSome (asked form text) × (is_known_step form ≡ true)
IsTyped store on text (typed.Call call) = (fits on call ≡ true) × (is_known_call (form_of_call call) ≡ true)
IsTyped store on text (typed.With word other) = (other < length store.nodes) × (fits_with on word (shape_at store.world (view_in store other)) ≡ true) × (is_known_other word ≡ true)

-- ---- the end

-- an end is at a node of the store, and a call there is a known one that its view has; a refusal is not want of memory,
-- which no word tells
abbrev pub IsEnd : Stored → Result End Refusal → Type 0
IsEnd store (Ok (end.View n)) = n < length store.nodes
IsEnd store (Ok (end.Call n call)) = (n < length store.nodes) × (fits (shape_at store.world (view_in store n)) call ≡ true) × (is_known_call (form_of_call call) ≡ true)
IsEnd store (Ok (end.With n word other)) = (n < length store.nodes) × (other < length store.nodes) × (fits_with (shape_at store.world (view_in store n)) word (shape_at store.world (view_in store other)) ≡ true) × (is_known_other word ≡ true)
IsEnd store (Err refusal) = refusal ≢ NoMemory

-- the node at an end
abbrev pub node_of : End → ℕ
node_of (end.View n) = n
node_of (end.Call n call) = n
node_of (end.With n word other) = n

-- an end with the views of its nodes
abbrev pub end_in : Stored → Result End Refusal → Target
end_in store (Ok (end.View n)) = leads (view_in store n) shows
end_in store (Ok (end.Call n call)) = leads (view_in store n) (calls (Ok call))
end_in store (Ok (end.With n word other)) = leads (view_in store n) (calls_with word (view_in store other))
end_in store (Err refusal) = stops refusal

-- what words lead to from a node, the first step of which has this number, where names stand for nodes
abbrev pub target_in : Stored → ℕ → Entries → Purpose → ℕ → List Part → Result Target Fault
target_in store number names for n parts = target store.world (named store.nodes names) number for (view_in store n) parts

-- ---- the way

-- The view of a step over the view of a node was made, as another node.
pub record Stepped (s now : Stored) (node : ℕ) (it : Result Asked Refusal) (next : ℕ) : Type 0 where
  pub added : Made
  pub grown : now ≡ with_node s added
  pub number : next ≡ length s.nodes
  pub view : (number : ℕ) → step_over s.world number (view_in s node) it ≡ a_view (view_in now next)

-- the view of a step is made, or the step is refused and nothing changes
abbrev pub Steps : Stored → Stored → ℕ → Result Asked Refusal → Result ℕ Refusal → Type 0
Steps s now node it (Ok next) = Stepped s now node it next
Steps s now node it (Err refusal) = (now ≡ s) × ((number : ℕ) → step_over s.world number (view_in s node) it ≡ refused refusal) × (refusal ≢ NoMemory)

-- The words so far led from one node to another: what is left leads where all of them lead.
pub record Followed (names : Entries) (for : Purpose) (before now : Stored) (head node : ℕ) (parts rest : List Part) : Type 0 where
  pub world : now.world ≡ before.world
  pub front : without_temporary now ≡ without_temporary before
  pub within : now.lasting ≤ length now.nodes
  pub stands : node < length now.nodes
  pub room : length now.nodes ≤ now.lasting + path (view_in now node)
  -- the number of the next step
  pub number : ℕ
  pub same : target_in before before.handles names for head parts ≡ target_in now number names for node rest
