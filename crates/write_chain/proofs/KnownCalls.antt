-- Known calls on views that stand: what they answer and leave.
use Rattle.std.proofs.Common.{◌≡◌, ℕ, Bool, true, false, [], ◌∷◌, Option, Some, None, refl, ap, sym, ◌∙◌, subst}
use Rattle.std.specs.Prelude.{List, option_map}
use Rattle.elem.specs.declared.elements.Elem.{Elem}
use Rattle.vocabulary.specs.declared.answers.Answer.{Answer}
use Rattle.vocabulary.specs.declared.answers.Answer.TheVariants.{Truth, Optional}
use Rattle.vocabulary.specs.declared.calls.Call.{Call}
use Rattle.vocabulary.specs.declared.calls.Call.TheVariants as call
use Rattle.vocabulary.specs.declared.calls.OnElement.TheVariants.{Add}
use Rattle.vocabulary.specs.declared.calls.OnOther.{OnOther}
use Rattle.vocabulary.specs.declared.calls.OnPair.TheVariants.{Put, ForcePut}
use Rattle.vocabulary.specs.declared.edits.Spot.{Spot}
use Rattle.vocabulary.specs.declared.items.Item.{Item}
use Rattle.vocabulary.specs.declared.items.Item.TheVariants.{One, Entry}
use Rattle.vocabulary.specs.Kinds.{shape_of_kind}
use Rattle.vocabulary.specs.Known.{form_of_call, is_known_call, is_known_kind, is_known_other}
use Rattle.vocabulary.specs.Shapes.{is_bimap, is_elements}
use Rattle.machine.specs.Answering.{answered, answered_with, carried_out, unless_refused, within_rows}
use Rattle.machine.specs.Answers.{answer_of, answer_with, is_added}
use Rattle.machine.specs.Bases.{World, base_at}
use Rattle.machine.specs.CallEdits.{adding_last, edit_of, edit_with, forcing, rows_for}
use Rattle.machine.specs.CallRefusals.{lift_refusal}
use Rattle.machine.specs.Edits.{Edit, adding, an_edit, takes_edit}
use Rattle.machine.specs.MadeViews.{IsMade}
use Rattle.machine.specs.Shown.{value_shown}
use Rattle.machine.specs.Spots.{own_spot}
use Rattle.machine.specs.Views.{View, flags_at, shape_at, shown}
use Rattle.view_steps.specs.Indexes.{end_of_view}
use Rattle.view_steps.specs.KnownViews.{is_known_view, number_under}
use Rattle.view_steps.proofs.CallLemmas as calls
use Rattle.view_steps.proofs.SpotViews as spots
use Rattle.write_chain.specs.Calls.{added, added_last, answered_known, answered_known_with, forced, known_refusal, known_refusal_with, left}
use Rattle.write_chain.proofs.CameLemmas.{left_taken}
use Rattle.write_chain.proofs.LiftLemmas.{adding_allowed}
use Rattle.write_chain.proofs.ShapeLemmas.{elements_base}

-- a known view as it is made, over a base of a known kind
pub record Stands (world : World) (v : View) : Type 0 where
  pub known : is_known_view v ≡ true
  pub kind : is_known_kind (base_at world (number_under v)).kind ≡ true
  pub made : IsMade world v

pub stands : (world : World) (v : View) (b : ℕ) → b ≡ number_under v → is_known_view v ≡ true → is_known_kind (base_at world b).kind ≡ true → IsMade world v → Stands world v
stands world v b at known kind made = record { known = known; kind = subst (λ (n : ℕ). is_known_kind (base_at world n).kind ≡ true) at kind; made = made }

-- ---- refusals and edits

all_left : (world : World) (v : View) (answer : Answer) (edit : Option Edit) → carried_out world v answer (option_map an_edit edit) ≡ left world v answer edit
all_left world v answer None = refl
all_left world v answer (Some edit) = refl

pub known_answer : (world : World) (v : View) (call : Call) → Stands world v → is_known_call (form_of_call call) ≡ true → answered world v call ≡ answered_known world v call
known_answer world v call it known =
    calls.answered_known world v it.known call known (calls.shape_without_ranges world v it.known it.kind)
    ∙ ap (unless_refused (known_refusal world v call)) (all_left world v (answer_of (shape_at world v) call (shown world v)) (edit_of world v call))

pub known_answer_with : (world : World) (v : View) (word : OnOther) (other : View) → Stands world v → is_known_other word ≡ true → is_known_view other ≡ true → answered_with world v word other ≡ answered_known_with world v word other
known_answer_with world v word other it known known_other =
    calls.answered_with_known world v it.known word known other known_other
    ∙ ap (unless_refused (known_refusal_with world v word other)) (all_left world v (answer_with (shape_at world v) word (shown world v) (shown world other)) (edit_with world v word (shown world other)))

-- ---- items that are added

-- what is added at the end of a view that is no bimap goes to one spot of its base
pub last_placed : (world : World) (v : View) (items : List Item) (answer : Answer) → Stands world v → (flags_at world v).add ≡ true → is_bimap (shape_of_kind (base_at world (number_under v)).kind) ≡ false
    → added_last world v items answer ≡ added world v items (end_of_view world v) answer
last_placed world v items answer it ok other =
    let rows : List Item = rows_for v items in
    let taken : (edit : Edit) → takes_edit (base_at world (number_under v)) edit ≡ true = λ edit. calls.takes_edits (base_at world (number_under v)) it.kind other edit in
    ap (unless_refused (lift_refusal v items))
    (left_taken world v answer (adding_last world v rows) (taken (adding_last world v rows))
    ∙ ap (within_rows answer) (spots.added_last world v it.known it.kind it.made ok rows)
    ∙ sym (left_taken world v answer (adding (end_of_view world v) rows) (taken (adding (end_of_view world v) rows))))

pub add_given : (world : World) (v : View) (x : Elem) (spot : Spot) (new : Bool) → Stands world v → (flags_at world v).add ≡ true → is_elements (shape_at world v) ≡ true → spot ≡ end_of_view world v → new ≡ is_added (shape_at world v) (shown world v) (One x)
    → answered_known world v (call.Element Add x) ≡ added world v (One x ∷ []) spot (Truth new)
add_given world v x spot new it ok elements at is =
    let answer : Answer = Truth (is_added (shape_at world v) (shown world v) (One x)) in
    adding_allowed world v None (One x ∷ []) (adding_last world v (rows_for v (One x ∷ []))) answer ok refl
    ∙ last_placed world v (One x ∷ []) answer it ok (elements_base world v it.known ok elements)
    ∙ (λ i. added world v (One x ∷ []) (sym at i) (Truth (sym is i)))

pub put_given : (world : World) (v : View) (k w : Elem) (spot : Spot) (before : Option Elem) → (flags_at world v).add ≡ true → spot ≡ own_spot v → before ≡ value_shown (shown world v) k
    → answered_known world v (call.Pair Put k w) ≡ added world v (Entry k w ∷ []) spot (Optional before)
put_given world v k w spot before ok at is =
    let items : List Item = Entry k w ∷ [] in
    adding_allowed world v None items (adding (own_spot v) (rows_for v items)) (Optional (value_shown (shown world v) k)) ok refl
    ∙ (λ i. added world v items (sym at i) (Optional (sym is i)))

pub force_given : (world : World) (v : View) (k w : Elem) (before : Option Elem) → (flags_at world v).add ≡ true → before ≡ value_shown (shown world v) k
    → answered_known world v (call.Pair ForcePut k w) ≡ forced world v (Entry k w ∷ []) (Optional before)
force_given world v k w before ok is =
    let items : List Item = Entry k w ∷ [] in
    adding_allowed world v None items (forcing world v (rows_for v items)) (Optional (value_shown (shown world v) k)) ok refl
    ∙ (λ i. forced world v items (Optional (sym is i)))
