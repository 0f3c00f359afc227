-- Known views: their shapes, the items that they show, and what known calls answer.
use Rattle.std.proofs.Common.{IfSome, IfOk, ◌≡◌, Bool, true, false, cond, List, [], ◌∷◌, map, Option, None, Some, Result, Ok, Err, nat_lt, refl, sym, ◌∙◌, ap, subst}
use Rattle.base_rows.specs.BaseRows.{AreRowsOf}
use Rattle.base_store.specs.Stored.{Stored}
use Rattle.vocabulary.specs.declared.answers.Answer.{Answer}
use Rattle.vocabulary.specs.declared.calls.Ask.TheVariants as ask
use Rattle.vocabulary.specs.declared.calls.Call.{Call}
use Rattle.vocabulary.specs.declared.calls.Call.TheVariants as call
use Rattle.vocabulary.specs.declared.calls.OnElement.TheVariants as element
use Rattle.vocabulary.specs.declared.calls.OnIndexed.TheVariants.{AddAt, SetAt}
use Rattle.vocabulary.specs.declared.calls.OnOther.{OnOther}
use Rattle.vocabulary.specs.declared.calls.OnOther.TheVariants.{ContainsAll}
use Rattle.vocabulary.specs.declared.calls.OnPair.TheVariants as pair
use Rattle.vocabulary.specs.declared.items.Item.{Item}
use Rattle.vocabulary.specs.declared.items.Item.TheVariants.{One, Entry}
use Rattle.vocabulary.specs.declared.refusals.Refusal.{Refusal}
use Rattle.vocabulary.specs.declared.refusals.Refusal.TheVariants.{IllegalArgument, Limit}
use Rattle.vocabulary.specs.declared.shapes.RowSort.TheVariants as rows
use Rattle.vocabulary.specs.declared.shapes.Shape.{Shape}
use Rattle.vocabulary.specs.declared.shapes.Shape.TheVariants as shape
use Rattle.vocabulary.specs.declared.steps.ChangeStep.TheVariants.{Transform, TransformValues, AsMap}
use Rattle.vocabulary.specs.declared.steps.FilterStep.TheVariants as filter_by
use Rattle.vocabulary.specs.declared.steps.PlainStep.TheVariants.{Reverse, KeySet, Values, EntrySet, Descending, Inverse, ForMap, Unmodifiable}
use Rattle.vocabulary.specs.declared.steps.StepForm.{StepForm}
use Rattle.vocabulary.specs.declared.steps.StepForm.TheVariants as form
use Rattle.vocabulary.specs.Known.{form_of_call, is_known_call, is_known_kind, is_known_step}
use Rattle.vocabulary.specs.Limits.{most_rows}
use Rattle.vocabulary.specs.StepShapes.{apply_form, on_bimap, on_coll, on_list, on_map, on_set, where_sorted}
use Rattle.machine.specs.Answering.{Answered, answer_at, answered, answered_with, carried_out, unless_refused, within_rows}
use Rattle.machine.specs.Answers.{answer_of, answer_with, element_of}
use Rattle.machine.specs.Bases.{Base, World, base_at}
use Rattle.machine.specs.MadeViews.{IsMade}
use Rattle.machine.specs.CallEdits.{change_of, change_with}
use Rattle.machine.specs.CallRefusals.{call_refusal, refusal_with}
use Rattle.machine.specs.Edits.{Change, takes_change, world_after}
use Rattle.machine.specs.RowCounts.{rows_in}
use Rattle.machine.specs.Texts.{item_text, text_in}
use Rattle.machine.specs.Views.{View, base_under, root, shape_at, shown}
use Rattle.machine.specs.ViewTexts.{plain_text, text_by, text_of}
use Rattle.view_steps.specs.KnownViews.{is_known_view, number_under}
use Rattle.view_steps.proofs.ItemLemmas.{Each, IsItemIn}
use Rattle.view_steps.proofs.KnownLemmas.{known_base, known_shape}
use Rattle.write_chain.proofs.ItemLemmas.{shown_items}
use Rattle.write_chain.specs.Calls.{Came as Answers}
use Rattle.session.specs.KnownShapes.{AreKnown, is_known_answer, is_known_item, is_known_shape}

-- ---- shapes

-- a shape that is given is known
abbrev pub Known : Option Shape → Type 0
Known given = IfSome given (λ (next : Shape). is_known_shape next ≡ true)

where_known : (sorted : Bool) (given : Shape) → is_known_shape given ≡ true → Known (where_sorted sorted given)
where_known true given h = h
where_known false given h = tt

list_known : (it : StepForm) → is_known_step it ≡ true → Known (on_list it)
list_known (form.Plain Reverse) h = refl
list_known (form.Change Transform) h = refl
list_known (form.Filter filter_by.Filter) h = refl
list_known (form.Plain Unmodifiable) h = refl
list_known form.Sub h = absurd (cc)
list_known form.Partition h = absurd (cc)
list_known form.Piece h = absurd (cc)
list_known _ h = tt

coll_known : (it : StepForm) → is_known_step it ≡ true → Known (on_coll it)
coll_known (form.Filter filter_by.Filter) h = refl
coll_known (form.Change Transform) h = refl
coll_known (form.Plain Unmodifiable) h = refl
coll_known _ h = tt

set_known : (sorted : Bool) (it : StepForm) → is_known_step it ≡ true → Known (on_set sorted it)
set_known sorted (form.Change Transform) h = refl
set_known sorted (form.Filter filter_by.Filter) h = refl
set_known sorted form.Within h = where_known sorted (shape.Set sorted) refl
set_known sorted (form.Plain Descending) h = where_known sorted (shape.Set sorted) refl
set_known sorted (form.Change AsMap) h = refl
set_known sorted (form.Plain Unmodifiable) h = refl
set_known sorted (form.Join word) h = absurd (cc)
set_known sorted _ h = tt

map_known : (sorted : Bool) (it : StepForm) → is_known_step it ≡ true → Known (on_map sorted it)
map_known sorted form.Within h = where_known sorted (shape.Map sorted) refl
map_known sorted (form.Plain Descending) h = where_known sorted (shape.Map sorted) refl
map_known sorted (form.Plain KeySet) h = refl
map_known sorted (form.Plain Values) h = refl
map_known sorted (form.Plain EntrySet) h = refl
map_known sorted (form.Filter filter_by.FilterKeys) h = refl
map_known sorted (form.Filter filter_by.FilterValues) h = refl
map_known sorted form.FilterPairs h = refl
map_known sorted (form.Change TransformValues) h = refl
map_known sorted (form.Plain ForMap) h = absurd (cc)
map_known sorted (form.Plain Unmodifiable) h = refl
map_known sorted _ h = tt

bimap_known : (it : StepForm) → is_known_step it ≡ true → Known (on_bimap it)
bimap_known (form.Plain KeySet) h = refl
bimap_known (form.Plain Values) h = refl
bimap_known (form.Plain EntrySet) h = refl
bimap_known (form.Filter filter_by.FilterKeys) h = refl
bimap_known (form.Filter filter_by.FilterValues) h = refl
bimap_known form.FilterPairs h = refl
bimap_known (form.Change TransformValues) h = refl
bimap_known (form.Plain ForMap) h = absurd (cc)
bimap_known (form.Plain Inverse) h = refl
bimap_known (form.Plain Unmodifiable) h = refl
bimap_known _ h = tt

-- a known step on a view of a known shape gives a known shape
pub given_known : (on : Shape) (it : StepForm) → is_known_shape on ≡ true → is_known_step it ≡ true → Known (apply_form on it)
given_known shape.List it k h = list_known it h
given_known (shape.Set sorted) it k h = set_known sorted it h
given_known shape.Coll it k h = coll_known it h
given_known (shape.Rows sort) it k h = tt
given_known (shape.Map sorted) it k h = map_known sorted it h
given_known shape.BiMap it k h = bimap_known it h
given_known _ it k h = absurd (cc)

-- a known view of a base of a known kind has a known shape
pub shape_known : (world : World) (v : View) → is_known_view v ≡ true → is_known_kind (base_at world (number_under v)).kind ≡ true → is_known_shape (shape_at world v) ≡ true
shape_known world v h k = known_shape world v h (subst (λ (it : Base). is_known_kind it.kind ≡ true) (sym (known_base world v h)) k)

text_known : (of : Shape) (world : World) (v : View) → is_known_shape of ≡ true → text_by of world v ≡ plain_text world v
text_known shape.List world v h = refl
text_known (shape.Set sorted) world v h = refl
text_known shape.Coll world v h = refl
text_known (shape.Rows rows.Entry) world v h = refl
text_known (shape.Map sorted) world v h = refl
text_known shape.BiMap world v h = refl
text_known _ world v h = absurd (cc)

-- the text of a view of a known shape lists its items
pub plainly : (world : World) (v : View) → is_known_shape (shape_at world v) ≡ true → text_of world v ≡ plain_text world v
plainly world v h = text_known (shape_at world v) world v h

-- ---- items

item_known : (of : Shape) (item : Item) → IsItemIn of item → is_known_item item ≡ true
item_known of (One x) h = refl
item_known of (Entry k v) h = refl
item_known shape.List _ h = absurd h
item_known (shape.Set sorted) _ h = absurd h
item_known shape.Coll _ h = absurd h
item_known (shape.Rows rows.Entry) _ h = absurd h
item_known (shape.Map sorted) _ h = absurd h
item_known shape.BiMap _ h = absurd h
item_known _ _ h = absurd h

items_known : (of : Shape) (items : List Item) → Each (IsItemIn of) items → AreKnown items
items_known of [] h = tt
items_known of (item ∷ items) h = (item_known of item h.0, items_known of items h.1)

-- a known view of a base of a known kind shows elements, or keys and their values
pub shown_known : (world : World) (v : View) → is_known_view v ≡ true → is_known_kind (base_at world (number_under v)).kind ≡ true → IsMade world v → AreRowsOf (base_at world (number_under v)).kind (base_at world (number_under v)).rows → AreKnown (shown world v)
shown_known world v h k made fit =
    let under = sym (known_base world v h) in
    items_known (shape_at world v) (shown world v)
    (shown_items world v h (subst (λ (it : Base). is_known_kind it.kind ≡ true) under k) made (subst (λ (it : Base). AreRowsOf it.kind it.rows) under fit))

pub item_plain : (of : Shape) (item : Item) → is_known_item item ≡ true → text_in of item ≡ item_text item
item_plain of (One x) h = refl
item_plain of (Entry k v) h = refl
item_plain of _ h = absurd (cc)

-- the shape of a view makes no difference to the texts of known items
pub items_plain : (of : Shape) (items : List Item) → AreKnown items → map (text_in of) items ≡ map item_text items
items_plain of [] h = refl
items_plain of (item ∷ items) h = λ i. item_plain of item h.0 i ∷ items_plain of items h.1 i

-- ---- answers

element_known : (o : Option Item) → is_known_answer (element_of o) ≡ true
element_known None = refl
element_known (Some item) = refl

answer_known : (of : Shape) (it : Call) (items : List Item) → is_known_call (form_of_call it) ≡ true → is_known_answer (answer_of of it items) ≡ true
answer_known of (call.Ask ask.First) items h = element_known _
answer_known of (call.Ask ask.Last) items h = element_known _
answer_known of (call.Ask ask.FirstKey) items h = element_known _
answer_known of (call.Ask ask.LastKey) items h = element_known _
answer_known of (call.Ask ask.FirstEntry) items h = absurd (cc)
answer_known of (call.Ask ask.LastEntry) items h = absurd (cc)
answer_known of (call.Ask ask.SpanOf) items h = absurd (cc)
answer_known of (call.Ask _) items h = refl
answer_known of (call.Element element.RemoveValues x) items h = absurd (cc)
answer_known of (call.Element element.RangeAt x) items h = absurd (cc)
answer_known of (call.Element _ x) items h = refl
answer_known of (call.Index word i) items h = element_known _
answer_known of (call.Indexed AddAt i x) items h = refl
answer_known of (call.Indexed SetAt i x) items h = element_known _
answer_known of (call.Counted word x n) items h = absurd (cc)
answer_known of (call.Pair pair.Put k v) items h = refl
answer_known of (call.Pair pair.ForcePut k v) items h = refl
answer_known of (call.Pair pair.ContainsEntry k v) items h = refl
answer_known of (call.Pair pair.RemoveEntry k v) items h = refl
answer_known of (call.Pair _ k v) items h = absurd (cc)
answer_known of (call.Triple word r c v) items h = absurd (cc)
answer_known of (call.Span word s) items h = absurd (cc)
answer_known of (call.SpanValue word s v) items h = absurd (cc)
answer_known of (call.Build word item) items h = refl

told_known : (world : World) (v : View) (it : Call) → is_known_call (form_of_call it) ≡ true → is_known_answer (answer_at world v it) ≡ true
told_known world v (call.Element element.RemoveGroup k) h = absurd (cc)
told_known world v it h = answer_known (shape_at world v) it (shown world v) h

other_known : (of : Shape) (word : OnOther) (items others : List Item) → is_known_answer (answer_with of word items others) ≡ true
other_known of ContainsAll items others = refl
other_known of _ items others = refl

-- what is carried out answers so
carried_answer : (world : World) (v : View) (answer : Answer) (o : Option Refusal) (change : Option Change) → IfOk (unless_refused o (carried_out world v answer change)) (λ (done : Answer × World). done.0 ≡ answer)
carried_answer world v answer (Some why) change = tt
carried_answer world v answer None None = refl
carried_answer world v answer None (Some change) = taken (takes_change (root world v) change)
  where
    after : World
    after = world_after world (base_under v).number change

    within : (b : Bool) → IfOk {T = Answer × World} {E = Refusal} (cond b (Err Limit) (Ok (answer, after))) (λ (done : Answer × World). done.0 ≡ answer)
    within true = tt
    within false = refl

    taken : (b : Bool) → IfOk {T = Answer × World} {E = Refusal} (cond b (within_rows answer after) (Err IllegalArgument)) (λ (done : Answer × World). done.0 ≡ answer)
    taken true = within (nat_lt most_rows (rows_in after))
    taken false = tt

abbrev DoneKnown : Answered → Type 0
DoneKnown outcome = IfOk outcome (λ (done : Answer × World). is_known_answer done.0 ≡ true)

done_known : (answer : Answer) (outcome : Answered) → is_known_answer answer ≡ true → IfOk outcome (λ (done : Answer × World). done.0 ≡ answer) → DoneKnown outcome
done_known answer (Ok done) h e = ap is_known_answer e ∙ h
done_known answer (Err why) h e = tt

came_known : (answer : Result Answer Refusal) (s now : Stored) (outcome : Answered) → Answers answer s now outcome → DoneKnown outcome → IfOk answer (λ (it : Answer). is_known_answer it ≡ true)
came_known (Ok answer) s now (Ok done) came h = ap is_known_answer came.0 ∙ h
came_known (Ok answer) s now (Err why) came h = absurd came
came_known (Err why) s now outcome came h = tt

-- a known call answers nothing in which a row stands
pub call_answers : (answer : Result Answer Refusal) (s now : Stored) (world : World) (v : View) (it : Call) → is_known_call (form_of_call it) ≡ true → Answers answer s now (answered world v it) → IfOk answer (λ (it : Answer). is_known_answer it ≡ true)
call_answers answer s now world v it h came =
    came_known answer s now (answered world v it) came
    (done_known (answer_at world v it) (answered world v it) (told_known world v it h) (carried_answer world v (answer_at world v it) (call_refusal world v it) (change_of world v it)))

pub other_answers : (answer : Result Answer Refusal) (s now : Stored) (world : World) (v : View) (word : OnOther) (other : View) → Answers answer s now (answered_with world v word other) → IfOk answer (λ (it : Answer). is_known_answer it ≡ true)
other_answers answer s now world v word other came =
    let told = answer_with (shape_at world v) word (shown world v) (shown world other) in
    came_known answer s now (answered_with world v word other) came
    (done_known told (answered_with world v word other) (other_known (shape_at world v) word (shown world v) (shown world other)) (carried_answer world v told (refusal_with world v word other) (change_with world v word (shown world other))))
