-- A call on a view: its refusal, or its answer and what it leaves of the bases.
use Rattle.std.specs.Prelude.{nat_lt, if◌then◌else◌, List, Option, None, Some, is_some, find, Result, Ok, Err}
use Rattle.elem.specs.declared.elements.Elem.{Elem}
use Rattle.vocabulary.specs.declared.answers.Answer.{Answer}
use Rattle.vocabulary.specs.declared.answers.Answer.TheVariants as answer
use Rattle.vocabulary.specs.declared.calls.OnElement.TheVariants.{RemoveGroup}
use Rattle.vocabulary.specs.declared.calls.OnOther.{OnOther}
use Rattle.vocabulary.specs.declared.calls.OnValues.{OnValues}
use Rattle.vocabulary.specs.declared.calls.Call.{Call}
use Rattle.vocabulary.specs.declared.calls.Call.TheVariants as call
use Rattle.vocabulary.specs.declared.items.Item.{Item}
use Rattle.vocabulary.specs.declared.refusals.Refusal.{Refusal}
use Rattle.vocabulary.specs.declared.refusals.Refusal.TheVariants.{IllegalArgument, Limit}
use Rattle.vocabulary.specs.declared.shapes.GroupSort.TheVariants as groups
use Rattle.vocabulary.specs.declared.shapes.Shape.{Shape}
use Rattle.vocabulary.specs.declared.shapes.Shape.TheVariants as shape
use Rattle.machine.specs.Answers.{answer_for, answer_of, answer_with}
use Rattle.machine.specs.Bases.{World}
use Rattle.machine.specs.CallEdits.{change_of, change_with}
use Rattle.machine.specs.CallRefusals.{call_refusal, refusal_for, refusal_with}
use Rattle.machine.specs.Edits.{Change, an_edit, takes_change, world_after}
use Rattle.machine.specs.Groups.{members_shown}
use Rattle.machine.specs.Replacing.{edit_for}
use Rattle.machine.specs.RowCounts.{rows_in}
use Rattle.machine.specs.Shown.{has_key}
use Rattle.machine.specs.Views.{View, base_under, root, shape_at, shown}
use Rattle.vocabulary.specs.Limits.{most_rows}

abbrev pub Answered : Type 0
Answered = Result (Answer × World) Refusal

-- ---- the answer

-- what stands in a group, by its shape
abbrev pub group_answer : Shape → List Item → Answer
group_answer (shape.Groups (groups.Values of)) items = answer.Values items
group_answer of items = answer.Cells items

-- the group of a key that is shown
abbrev pub removed_group : World → View → Elem → Answer
removed_group world v k = if is_some (find (has_key k) (shown world v)) then group_answer (shape_at world v) (members_shown world v k) else answer.Optional None

abbrev pub answer_at : World → View → Call → Answer
answer_at world v (call.Element RemoveGroup k) = removed_group world v k
answer_at world v call = answer_of (shape_at world v) call (shown world v)

-- ---- what follows where the call itself is not refused: the base's own refusal, and the limit of rows

-- bases that have no more rows than there may be
abbrev pub within_rows : Answer → World → Answered
within_rows answer world = if nat_lt most_rows (rows_in world) then Err Limit else Ok (answer, world)

abbrev pub where_taken : World → View → Answer → Change → Answered
where_taken world v answer change = if takes_change (root world v) change then within_rows answer (world_after world (base_under v).number change) else Err IllegalArgument

-- an answer, and the bases after a change of the base under a view
abbrev pub carried_out : World → View → Answer → Option Change → Answered
carried_out world v answer None = Ok (answer, world)
carried_out world v answer (Some change) = where_taken world v answer change

-- ---- the call

abbrev pub unless_refused : {X : Type 0} → Option Refusal → Result X Refusal → Result X Refusal
unless_refused None done = done
unless_refused (Some why) done = Err why

abbrev pub answered : World → View → Call → Answered
answered world v call = unless_refused (call_refusal world v call) (carried_out world v (answer_at world v call) (change_of world v call))

-- with another view, whose items are read first
abbrev pub answered_with : World → View → OnOther → View → Answered
answered_with world v word other =
    let others = shown world other in
    unless_refused (refusal_with world v word other) (carried_out world v (answer_with (shape_at world v) word (shown world v) others) (change_with world v word others))

-- with a key and another view
abbrev pub answered_for : World → View → OnValues → Elem → View → Answered
answered_for world v word k other =
    let others = shown world other in
    unless_refused (refusal_for world v word k other) (carried_out world v (answer_for (shape_at world v) word k (shown world v) others) (Some (an_edit (edit_for world v word k others))))
