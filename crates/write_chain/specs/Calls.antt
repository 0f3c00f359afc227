-- What a call leaves.
use Rattle.std.specs.Prelude.{◌≡◌, Bool, true, false, if◌then◌else◌, ℕ, List, Option, None, Some, Result, Ok, Err}
use Rattle.base_store.specs.Stored.{Stored, with_world}
use Rattle.vocabulary.specs.declared.answers.Answer.{Answer}
use Rattle.vocabulary.specs.declared.calls.Call.{Call}
use Rattle.vocabulary.specs.declared.calls.Call.TheVariants as call
use Rattle.vocabulary.specs.declared.calls.OnElement.TheVariants.{Add, Remove, RemoveKey}
use Rattle.vocabulary.specs.declared.calls.OnOther.{OnOther}
use Rattle.vocabulary.specs.declared.calls.OnPair.TheVariants.{Put, ForcePut, RemoveEntry}
use Rattle.vocabulary.specs.declared.edits.Spot.{Spot}
use Rattle.vocabulary.specs.declared.items.Item.{Item}
use Rattle.vocabulary.specs.declared.items.Item.TheVariants.{One}
use Rattle.vocabulary.specs.declared.refusals.Refusal.{Refusal}
use Rattle.vocabulary.specs.declared.refusals.Refusal.TheVariants.{IllegalArgument, NoMemory}
use Rattle.vocabulary.specs.Needs.{needs_of, needs_with}
use Rattle.machine.specs.Answering.{Answered, unless_refused, within_rows}
use Rattle.machine.specs.Answers.{answer_of, answer_with}
use Rattle.machine.specs.CallRefusals.{flag_refusal, items_lifted, items_lifted_with, lift_refusal, test_refusal}
use Rattle.machine.specs.CallEdits.{adding_last, edit_of, edit_with, forcing, rows_for}
use Rattle.machine.specs.Edits.{Edit, adding, removing, takes_edit}
use Rattle.machine.specs.Reading.{first_refusal}
use Rattle.read_chain.specs.ListLookUps.{is_placed_at_once}
use Rattle.view_steps.specs.KnownViews.{edited_at, number_under}
use Rattle.machine.specs.Bases.{World, base_at}
use Rattle.machine.specs.Views.{View, flags_at, shape_at, shown}

-- a refused call changes nothing; want of memory is answered in place of an answer or of a refusal
abbrev pub IsRefused : Refusal → Answered → Type 0
IsRefused NoMemory outcome = Unit {0}
IsRefused why outcome = outcome ≡ Err why

-- whether a call puts or removes one item, which a view that goes by key finds by its key
abbrev pub is_single : Call → Bool
is_single (call.Element Add x) = true
is_single (call.Element Remove x) = true
is_single (call.Element RemoveKey k) = true
is_single (call.Pair Put k w) = true
is_single (call.Pair RemoveEntry k w) = true
is_single other = false

-- whether a call puts a pair, and takes its partners from others
abbrev pub is_forced : Call → Bool
is_forced (call.Pair ForcePut k w) = true
is_forced other = false

-- whether a call removes one item, whose place one look-up in a list tells
abbrev pub is_removed_at_once : World → View → Call → Bool
is_removed_at_once world v (call.Element Remove x) = is_placed_at_once world v (One x)
is_removed_at_once world v other = false

-- the answer and the bases that were defined, or the refusal, or want of memory
abbrev pub Came : Result Answer Refusal → Stored → Stored → Answered → Type 0
Came (Ok answer) before now (Ok done) = (answer ≡ done.0) × (now ≡ with_world before done.1)
Came (Ok answer) before now (Err why) = ⊥
Came (Err why) before now outcome = (now ≡ before) × IsRefused why outcome

-- an answer, and the bases after an edit of the base under a view, or its refusal, or the limit of rows
abbrev pub left : World → View → Answer → Option Edit → Answered
left world v answer None = Ok (answer, world)
left world v answer (Some edit) = if takes_edit (base_at world (number_under v)) edit then within_rows answer (edited_at world (number_under v) edit) else Err IllegalArgument

-- a known call on a known view: reading the view does not refuse it
abbrev pub known_refusal : World → View → Call → Option Refusal
known_refusal world v call = first_refusal (flag_refusal world v (needs_of call)) (first_refusal (test_refusal (flags_at world v) call (shown world v)) (lift_refusal v (items_lifted call (shown world v))))

abbrev pub answered_known : World → View → Call → Answered
answered_known world v call = unless_refused (known_refusal world v call) (left world v (answer_of (shape_at world v) call (shown world v)) (edit_of world v call))

-- the same with another view
abbrev pub known_refusal_with : World → View → OnOther → View → Option Refusal
known_refusal_with world v word other = first_refusal (flag_refusal world v (needs_with word)) (lift_refusal v (items_lifted_with word (shown world other)))

abbrev pub answered_known_with : World → View → OnOther → View → Answered
answered_known_with world v word other = unless_refused (known_refusal_with world v word other) (left world v (answer_with (shape_at world v) word (shown world v) (shown world other)) (edit_with world v word (shown world other)))

-- the answer where items are added to a view that allows it, unless one of them does not pass: in a spot of its base
abbrev pub added : World → View → List Item → Spot → Answer → Answered
added world v items spot answer = unless_refused (lift_refusal v items) (left world v answer (Some (adding spot (rows_for v items))))

-- or at its end
abbrev pub added_last : World → View → List Item → Answer → Answered
added_last world v items answer = unless_refused (lift_refusal v items) (left world v answer (Some (adding_last world v (rows_for v items))))

-- the answer where items are forced into a bimap, unless one of them does not pass
abbrev pub forced : World → View → List Item → Answer → Answered
forced world v items answer = unless_refused (lift_refusal v items) (left world v answer (Some (forcing world v (rows_for v items))))

-- the answer where rows of the base under a view go
abbrev pub removed : World → View → List ℕ → Answer → Answered
removed world v gone answer = left world v answer (Some (removing gone))
