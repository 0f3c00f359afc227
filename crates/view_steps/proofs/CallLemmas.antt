-- Known calls on known views: what may refuse them, and what they leave of the base.
use Rattle.std.proofs.Common.{◌≡◌, true, false, cond, ◌&&◌, List, [], ◌∷◌, refl, ap, ◌∙◌}
use Rattle.std.specs.Prelude.{Option, Some, None, Err, option_map}
use Rattle.vocabulary.specs.declared.answers.Answer.{Answer}
use Rattle.vocabulary.specs.declared.calls.Ask.TheVariants.{Clear}
use Rattle.vocabulary.specs.declared.calls.Call.{Call}
use Rattle.vocabulary.specs.declared.calls.Call.TheVariants as call
use Rattle.vocabulary.specs.declared.calls.OnElement.TheVariants.{RemoveGroup}
use Rattle.vocabulary.specs.declared.calls.OnOther.{OnOther}
use Rattle.vocabulary.specs.declared.calls.OnOther.TheVariants.{AddSpans, RemoveSpans}
use Rattle.vocabulary.specs.declared.edits.Spot.{Spot}
use Rattle.vocabulary.specs.declared.items.Item.{Item}
use Rattle.vocabulary.specs.declared.kinds.Kind.{Kind}
use Rattle.vocabulary.specs.declared.refusals.Refusal.{Refusal}
use Rattle.vocabulary.specs.declared.refusals.Refusal.TheVariants.{IllegalArgument}
use Rattle.vocabulary.specs.Known.{form_of_call, is_known_call, is_known_kind, is_known_other}
use Rattle.vocabulary.specs.Kinds.{shape_of_kind}
use Rattle.vocabulary.specs.Needs.{needs_of, needs_with}
use Rattle.vocabulary.specs.Shapes.{is_bimap, is_ranges}
use Rattle.machine.specs.Answering.{answer_at, answered, answered_with, carried_out, unless_refused, within_rows}
use Rattle.machine.specs.Answers.{answer_of, answer_with}
use Rattle.machine.specs.Bases.{Base, World}
use Rattle.machine.specs.CallEdits.{change_by, change_of, change_with, edit_of, edit_with, reach_of, reaches_with, writes_of}
use Rattle.machine.specs.CallRefusals.{call_refusal, flag_refusal, items_lifted, items_lifted_with, lift_refusal, reach_refusal, reaches_refusal, refusal_with, test_refusal}
use Rattle.machine.specs.Edits.{Coming, Edit, adding, an_edit, takes_all, takes_change, with_coming, without_rows, world_after}
use Rattle.machine.specs.Placing.{takes_row}
use Rattle.machine.specs.Reaching.{cleared}
use Rattle.machine.specs.Reading.{first_refusal, reading_refusal}
use Rattle.machine.specs.Views.{View, base_under, flags_at, root, shape_at, shown}
use Rattle.view_steps.specs.KnownViews.{edited_at, is_known_view, number_under}
use Rattle.view_steps.proofs.EditedRows.{without_none}
use Rattle.view_steps.proofs.KindLemmas.{takes_each}
use Rattle.view_steps.proofs.KnownLemmas.{is_read, known_base, known_shape}
use Rattle.view_steps.proofs.KnownShapes.{no_ranges}
use Rattle.view_steps.proofs.ListLemmas.{and-true}

-- ---- refusals

nothing_later : (o : Option Refusal) → first_refusal o None ≡ o
nothing_later None = refl
nothing_later (Some why) = refl

pub shape_without_ranges : (world : World) (v : View) → is_known_view v ≡ true → is_known_kind (root world v).kind ≡ true → is_ranges (shape_at world v) ≡ false
shape_without_ranges world v known kind = no_ranges (shape_at world v) (known_shape world v known (ap (λ (it : Base). is_known_kind it.kind) (known_base world v known) ∙ kind))

-- a known call writes no ranges
pub reaches_nothing : (world : World) (v : View) (call : Call) → is_known_call (form_of_call call) ≡ true → is_ranges (shape_at world v) ≡ false → reach_of world v call ≡ None
reaches_nothing world v (call.Ask Clear) known none = ap (λ b. cond b (Some (cleared v)) None) none
reaches_nothing world v (call.Span word s) known none = absurd (cc)
reaches_nothing world v (call.SpanValue word s x) known none = absurd (cc)
reaches_nothing world v _ known none = refl

pub refused_call : (world : World) (v : View) → is_known_view v ≡ true → (call : Call) → is_known_call (form_of_call call) ≡ true → is_ranges (shape_at world v) ≡ false
    → call_refusal world v call ≡ first_refusal (flag_refusal world v (needs_of call)) (first_refusal (test_refusal (flags_at world v) call (shown world v)) (lift_refusal v (items_lifted call (shown world v))))
refused_call world v known call is none =
    let items : List Item = shown world v in
    let tests : Option Refusal = test_refusal (flags_at world v) call items in
    let lifts : Option Refusal = lift_refusal v (items_lifted call items) in
    ap (λ o. first_refusal (flag_refusal world v (needs_of call)) (first_refusal o (first_refusal tests (first_refusal lifts (reach_refusal (reach_of world v call)))))) (is_read world v known)
    ∙ ap (λ o. first_refusal (flag_refusal world v (needs_of call)) (first_refusal tests (first_refusal lifts (reach_refusal o)))) (reaches_nothing world v call is none)
    ∙ ap (λ o. first_refusal (flag_refusal world v (needs_of call)) (first_refusal tests o)) (nothing_later lifts)

no_spans : (v : View) (word : OnOther) (others : List Item) → is_known_other word ≡ true → reaches_with v word others ≡ []
no_spans v AddSpans others known = absurd (cc)
no_spans v RemoveSpans others known = absurd (cc)
no_spans v _ others known = refl

pub refused_with : (world : World) (v : View) → is_known_view v ≡ true → (word : OnOther) → is_known_other word ≡ true → (other : View) → is_known_view other ≡ true
    → refusal_with world v word other ≡ first_refusal (flag_refusal world v (needs_with word)) (lift_refusal v (items_lifted_with word (shown world other)))
refused_with world v known word is other known_other =
    let others : List Item = shown world other in
    let flags : Option Refusal = flag_refusal world v (needs_with word) in
    let lifts : Option Refusal = lift_refusal v (items_lifted_with word others) in
    ap (λ o. first_refusal flags (first_refusal o (first_refusal (reading_refusal world other) (first_refusal lifts (reaches_refusal (reaches_with v word others)))))) (is_read world v known)
    ∙ ap (λ o. first_refusal flags (first_refusal o (first_refusal lifts (reaches_refusal (reaches_with v word others))))) (is_read world other known_other)
    ∙ ap (λ found. first_refusal flags (first_refusal lifts (reaches_refusal found))) (no_spans v word others is)
    ∙ ap (first_refusal flags) (nothing_later lifts)

-- ---- changes

pub change_is_edit : (world : World) (v : View) (call : Call) → is_known_call (form_of_call call) ≡ true → is_ranges (shape_at world v) ≡ false → change_of world v call ≡ option_map an_edit (edit_of world v call)
change_is_edit world v call known none = ap (λ o. change_by (writes_of (shape_at world v) call) o (edit_of world v call)) (reaches_nothing world v call known none)

pub change_is_edit_with : (world : World) (v : View) (word : OnOther) (others : List Item) → is_known_other word ≡ true → change_with world v word others ≡ option_map an_edit (edit_with world v word others)
change_is_edit_with world v AddSpans others known = absurd (cc)
change_is_edit_with world v RemoveSpans others known = absurd (cc)
change_is_edit_with world v _ others known = refl

all_taken : (kind : Kind) → is_known_kind kind ≡ true → is_bimap (shape_of_kind kind) ≡ false → (rows : List Item) (added : List Coming) → takes_all kind rows added ≡ true
all_taken kind known one rows [] = refl
all_taken kind known one rows (new ∷ added) =
    ap (λ b. b && takes_all kind (with_coming kind rows new) added) (takes_each kind known one new.0 rows new.1) ∙ all_taken kind known one (with_coming kind rows new) added

-- a base of a known kind takes every edit, unless it is a bimap
pub takes_edits : (it : Base) → is_known_kind it.kind ≡ true → is_bimap (shape_of_kind it.kind) ≡ false → (edit : Edit) → takes_change it (an_edit edit) ≡ true
takes_edits it known one edit = all_taken it.kind known one (without_rows edit.gone 0 it.rows) edit.added

-- a base takes the edit that adds a row where it takes that row
pub takes_one : (it : Base) (spot : Spot) (row : Item) → takes_change it (an_edit (adding spot (row ∷ []))) ≡ takes_row it.kind spot it.rows row
takes_one it spot row = and-true (takes_row it.kind spot (without_rows [] 0 it.rows) row) ∙ ap (λ (rows : List Item). takes_row it.kind spot rows row) (without_none 0 it.rows)

-- an edit that a base takes is carried out
pub carried : (world : World) (v : View) (answer : Answer) (edit : Edit) → takes_change (root world v) (an_edit edit) ≡ true → carried_out world v answer (Some (an_edit edit)) ≡ within_rows answer (edited_at world (number_under v) edit)
carried world v answer edit taken = ap (λ b. cond b (within_rows answer (world_after world (base_under v).number (an_edit edit))) (Err IllegalArgument)) taken

-- ---- answers

-- a known call is answered by what is shown
pub answer_known : (world : World) (v : View) (call : Call) → is_known_call (form_of_call call) ≡ true → answer_at world v call ≡ answer_of (shape_at world v) call (shown world v)
answer_known world v (call.Element RemoveGroup k) known = absurd (cc)
answer_known world v _ known = refl

pub answered_known : (world : World) (v : View) → is_known_view v ≡ true → (call : Call) → is_known_call (form_of_call call) ≡ true → is_ranges (shape_at world v) ≡ false
    → answered world v call
    ≡ unless_refused (first_refusal (flag_refusal world v (needs_of call)) (first_refusal (test_refusal (flags_at world v) call (shown world v)) (lift_refusal v (items_lifted call (shown world v)))))
    (carried_out world v (answer_of (shape_at world v) call (shown world v)) (option_map an_edit (edit_of world v call)))
answered_known world v known call is none =
    (λ i. unless_refused (refused_call world v known call is none i) (carried_out world v (answer_known world v call is i) (change_is_edit world v call is none i)))

pub answered_with_known : (world : World) (v : View) → is_known_view v ≡ true → (word : OnOther) → is_known_other word ≡ true → (other : View) → is_known_view other ≡ true
    → answered_with world v word other
    ≡ unless_refused (first_refusal (flag_refusal world v (needs_with word)) (lift_refusal v (items_lifted_with word (shown world other))))
    (carried_out world v (answer_with (shape_at world v) word (shown world v) (shown world other)) (option_map an_edit (edit_with world v word (shown world other))))
answered_with_known world v known word is other known_other =
    (λ i. unless_refused (refused_with world v known word is other known_other i)
    (carried_out world v (answer_with (shape_at world v) word (shown world v) (shown world other)) (change_is_edit_with world v word (shown world other) is i)))
