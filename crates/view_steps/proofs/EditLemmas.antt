-- What a view shows after one row came or went.
use Rattle.std.proofs.Common.{◌≡◌, List, [], ◌∷◌, ◌++◌, map, reverse, refl, ap, sym, ◌∙◌, Bool, true, false, cond}
use Rattle.std.specs.Prelude.{filter, not, Some, if◌then◌else◌}
use Rattle.std.proofs.lemmas.List.{reverse-append, map-append, append_assoc}
use Rattle.std.proofs.lemmas.List.Elements.{filter-append}
use Rattle.vocabulary.specs.declared.items.Item.{Item}
use Rattle.view_laws.specs.declared.places.Found.{Found}
use Rattle.vocabulary.specs.declared.step_table.Family.{Family}
use Rattle.vocabulary.specs.declared.step_table.Family.TheVariants.{Turned}
use Rattle.vocabulary.specs.declared.steps.Step.{Step}
use Rattle.view_laws.specs.Lanes.{turned_if}
use Rattle.vocabulary.specs.Steps.{family_of}
use Rattle.machine.specs.Bases.{World}
use Rattle.machine.specs.Views.{View, base, both, over, lift, flags_at}
use Rattle.view_laws.proofs.LiftLemmas as laws
use Rattle.view_steps.specs.KnownViews.{is_known_view}
use Rattle.view_steps.specs.Turning.{turned, turns}
use Rattle.view_laws.specs.RowForm.{RowForm, form_over, form_of, found_row_by, shows, shown_by, IsShownAs}
use Rattle.view_steps.specs.RowHits.{one_more, ShownAround, FoundAround}
use Rattle.view_steps.proofs.FamilyTable.{is_turned, turned_family}
use Rattle.view_steps.proofs.KnownLemmas.{has_all_room, known_by_row}

-- ---- adding

pub lift_law : (world : World) (v : View) → is_known_view v ≡ true → (item row : Item) → (flags_at world v).add ≡ true → lift v item ≡ Some row → IsShownAs (form_of v) row item
lift_law world v known item row ok is = laws.lift_law world v item row (known_by_row world v known) ok (has_all_room v item known) is

-- ---- one row among others

abbrev items : RowForm → List Item → List Item
items f rows = map f.item (filter (shows f) rows)

items-append : (f : RowForm) (xs ys : List Item) → items f (xs ++ ys) ≡ items f xs ++ items f ys
items-append f xs ys = ap (map f.item) (filter-append (shows f) xs ys) ∙ map-append f.item (filter (shows f) xs) (filter (shows f) ys)

items-shown : (f : RowForm) (row : Item) (rows : List Item) → shows f row ≡ true → items f (row ∷ rows) ≡ f.item row ∷ items f rows
items-shown f row rows h = ap (λ b. map f.item (cond b (row ∷ filter (shows f) rows) (filter (shows f) rows))) h

items-unseen : (f : RowForm) (row : Item) (rows : List Item) → shows f row ≡ false → items f (row ∷ rows) ≡ items f rows
items-unseen f row rows h = ap (λ b. map f.item (cond b (row ∷ filter (shows f) rows) (filter (shows f) rows))) h

turned_more : (t : Bool) (is : List Item) (i : Item) → turned_if t (is ++ i ∷ []) ≡ one_more t (turned_if t is) i
turned_more true is i = reverse-append is (i ∷ [])
turned_more false is i = refl

turned_in : (family : Family) (it : Step) (f : RowForm) → (form_over family it f).turned ≡ (if is_turned family then not f.turned else f.turned)
turned_in Turned it f = refl
turned_in _ it f = refl

pub over_turned : (it : Step) (f : RowForm) → (form_over (family_of it) it f).turned ≡ (if turns it then not f.turned else f.turned)
over_turned it f = turned_in (family_of it) it f ∙ ap (λ t. if t then not f.turned else f.turned) (sym (turned_family it))

-- a form is turned where its view is
pub form_turned : (v : View) → (form_of v).turned ≡ turned v
form_turned (base l) = refl
form_turned (over it v) = over_turned it (form_of v) ∙ ap (λ t. if turns it then not t else t) (form_turned v)
form_turned (both word v u) = refl

shown_one : (f : RowForm) (row item : Item) → IsShownAs f row item → shows f row ≡ true
shown_one f row item s = rw (s.taken, s.seen) refl

pub add_law : (world : World) (v : View) (item row : Item) (rows : List Item) → is_known_view v ≡ true → (flags_at world v).add ≡ true → lift v item ≡ Some row
    → shown_by (form_of v) (rows ++ row ∷ []) ≡ one_more (turned v) (shown_by (form_of v) rows) item
add_law world v item row rows known ok is =
    let f : RowForm = form_of v in
    let s : IsShownAs f row item = lift_law world v known item row ok is in
    let more : items f (rows ++ row ∷ []) ≡ items f rows ++ item ∷ [] =
    items-append f rows (row ∷ []) ∙ ap (λ is. items f rows ++ is) (items-shown f row [] (shown_one f row item s) ∙ ap (λ k. k ∷ []) s.same) in
    ap (turned_if f.turned) more ∙ turned_more f.turned (items f rows) item ∙ ap (λ t. one_more t (shown_by f rows) item) (form_turned v)

-- two lists, one behind the other, turned round or not; and with an element between them
abbrev front : {X : Type 0} → Bool → List X → List X → List X
front t xs ys = cond t (reverse ys) xs

abbrev back : {X : Type 0} → Bool → List X → List X → List X
back t xs ys = cond t (reverse xs) ys

turned-append : {X : Type 0} (t : Bool) (xs ys : List X) → turned_if t (xs ++ ys) ≡ front t xs ys ++ back t xs ys
turned-append true xs ys = reverse-append xs ys
turned-append false xs ys = refl

turned-between : {X : Type 0} (t : Bool) (xs : List X) (x : X) (ys : List X) → turned_if t (xs ++ x ∷ ys) ≡ front t xs ys ++ x ∷ back t xs ys
turned-between true xs x ys = reverse-append xs (x ∷ ys) ∙ ap (λ zs. zs ++ reverse xs) (reverse-append (x ∷ []) ys) ∙ append_assoc (reverse ys) (x ∷ []) (reverse xs)
turned-between false xs x ys = refl

pub drop_law : (f : RowForm) (before after : List Item) → ShownAround f before after
drop_law f before after = record {
  first = front f.turned (items f before) (items f after);
  last = back f.turned (items f before) (items f after);
  without = ap (turned_if f.turned) (items-append f before after) ∙ turned-append f.turned (items f before) (items f after);
  with_shown = λ row h.
      ap (turned_if f.turned) (items-append f before (row ∷ after) ∙ ap (λ is. items f before ++ is) (items-shown f row after h)) ∙ turned-between f.turned (items f before) (f.item row) (items f after);
  with_unseen = λ row h.
      ap (turned_if f.turned) (items-append f before (row ∷ after) ∙ ap (λ is. items f before ++ is) (items-unseen f row after h)) ∙ turned-append f.turned (items f before) (items f after);
}

abbrev found : RowForm → List Item → List Found
found f rows = map (found_row_by f) (filter f.takes rows)

found-append : (f : RowForm) (xs ys : List Item) → found f (xs ++ ys) ≡ found f xs ++ found f ys
found-append f xs ys = ap (map (found_row_by f)) (filter-append f.takes xs ys) ∙ map-append (found_row_by f) (filter f.takes xs) (filter f.takes ys)

found-taken : (f : RowForm) (row : Item) (rows : List Item) → f.takes row ≡ true → found f (row ∷ rows) ≡ found_row_by f row ∷ found f rows
found-taken f row rows h = ap (λ b. map (found_row_by f) (cond b (row ∷ filter f.takes rows) (filter f.takes rows))) h

found-left_out : (f : RowForm) (row : Item) (rows : List Item) → f.takes row ≡ false → found f (row ∷ rows) ≡ found f rows
found-left_out f row rows h = ap (λ b. map (found_row_by f) (cond b (row ∷ filter f.takes rows) (filter f.takes rows))) h

pub one_candidate_law : (f : RowForm) (before after : List Item) → FoundAround f before after
one_candidate_law f before after = record {
  first = front f.turned (found f before) (found f after);
  last = back f.turned (found f before) (found f after);
  without = ap (turned_if f.turned) (found-append f before after) ∙ turned-append f.turned (found f before) (found f after);
  with_taken = λ row h.
      ap (turned_if f.turned) (found-append f before (row ∷ after) ∙ ap (λ ds. found f before ++ ds) (found-taken f row after h)) ∙ turned-between f.turned (found f before) (found_row_by f row) (found f after);
  with_left_out = λ row h.
      ap (turned_if f.turned) (found-append f before (row ∷ after) ∙ ap (λ ds. found f before ++ ds) (found-left_out f row after h)) ∙ turned-append f.turned (found f before) (found f after);
}
