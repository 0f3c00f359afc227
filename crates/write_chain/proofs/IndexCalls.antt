-- The calls that add at an index: what they answer where the view allows adding.
use Rattle.std.proofs.Common.{◌≡◌, ℕ, ◌<◌, ◌≤◌, true, [], ◌∷◌, length, Option, Some, sym, ap, ◌∙◌, arith, nat_lt, nat_le}
use Rattle.std.specs.Prelude.{Err, slice_get}
use Rattle.elem.specs.declared.elements.Elem.{Elem}
use Rattle.vocabulary.specs.declared.answers.Answer.TheVariants as answer
use Rattle.vocabulary.specs.declared.calls.Call.TheVariants as call
use Rattle.vocabulary.specs.declared.calls.OnIndexed.TheVariants.{AddAt, SetAt}
use Rattle.vocabulary.specs.declared.edits.Spot.{Spot}
use Rattle.vocabulary.specs.declared.edits.Spot.TheVariants.{Before, Instead}
use Rattle.vocabulary.specs.declared.items.Item.{Item}
use Rattle.vocabulary.specs.declared.items.Item.TheVariants.{One}
use Rattle.vocabulary.specs.declared.refusals.Refusal.TheVariants.{IndexOutOfBounds}
use Rattle.machine.specs.CallEdits.{rows_for, seen_at}
use Rattle.machine.specs.CallRefusals.{index_refusal}
use Rattle.machine.specs.Edits.{adding}
use Rattle.machine.specs.Spots.{gap, place_of}
use Rattle.machine.specs.Answers.{element_of}
use Rattle.view_steps.specs.Indexes.{gap_index, item_index}
use Rattle.vocabulary.specs.Shapes.{is_list}
use Rattle.vocabulary.specs.Items.{key_of}
use Rattle.machine.specs.Bases.{World, base_at}
use Rattle.machine.specs.Views.{View, candidates, flags_at, root, shape_at, shown}
use Rattle.view_steps.specs.KnownViews.{number_under}
use Rattle.write_chain.specs.Calls.{added, answered_known}
use Rattle.write_chain.proofs.KnownCalls.{Stands}
use Rattle.read_chain.proofs.UnderLemmas.{few_items}
use Rattle.write_chain.proofs.LiftLemmas.{adding_allowed, adding_refused}
use Rattle.view_steps.proofs.SpotViews.{gap_spot, list_size, place_spot}
use Rattle.view_steps.proofs.IndexRefusals.{gap_refused, gap_given, index_given}

-- a list with so many rows, at an index
pub record IsIndexed (world : World) (v : View) (b rows : ℕ) (i : Option ℕ) (at : ℕ) : Type 0 where
  pub base : b ≡ number_under v
  pub rows_are : rows ≡ length (base_at world b).rows
  pub index : i ≡ Some at

size_is : (world : World) (v : View) (b rows : ℕ) (i : Option ℕ) (at : ℕ) → IsIndexed world v b rows i at → rows ≡ length (root world v).rows
size_is world v b rows i at it = it.rows_are ∙ ap (λ n. length (base_at world n).rows) it.base

pub add_at_refused : (world : World) (v : View) (b rows : ℕ) (i : Option ℕ) (at : ℕ) (x : Elem) → IsIndexed world v b rows i at → Stands world v → (flags_at world v).add ≡ true → rows < at → answered_known world v (call.Indexed AddAt i x) ≡ Err IndexOutOfBounds
add_at_refused world v b rows i at x it view ok h =
    let past : length (shown world v) < at = omega (arith, few_items world v b view.known it.base, it.rows_are) in
    ap (λ o. answered_known world v (call.Indexed AddAt o x)) it.index
    ∙ adding_refused world v (index_refusal (λ n. nat_le n (length (shown world v))) (Some at)) IndexOutOfBounds (One x ∷ []) (adding (gap world v 0 at) (rows_for v (One x ∷ []))) answer.Done ok (gap_refused (shown world v) at past)

pub add_at_given : (world : World) (v : View) (b rows : ℕ) (i : Option ℕ) (at gap_there : ℕ) (x : Elem) → IsIndexed world v b rows i at → Stands world v → (flags_at world v).add ≡ true → is_list (shape_at world v) ≡ true → at ≤ rows → gap_there ≡ gap_index v rows at
    → answered_known world v (call.Indexed AddAt i x) ≡ added world v (One x ∷ []) (Before gap_there) answer.Done
add_at_given world v b rows i at gap_there x it view ok list le is =
    let size = size_is world v b rows i at it in
    let within : at ≤ length (shown world v) = omega (arith, list_size world v view.known view.made list, size) in
    ap (λ o. answered_known world v (call.Indexed AddAt o x)) it.index
    ∙ adding_allowed world v (index_refusal (λ n. nat_le n (length (shown world v))) (Some at)) (One x ∷ []) (adding (gap world v 0 at) (rows_for v (One x ∷ []))) answer.Done ok (gap_given (shown world v) at within)
    ∙ ap (λ (spot : Spot). added world v (One x ∷ []) spot answer.Done) (gap_spot world v view.known view.made list at ∙ ap Before (ap (λ n. gap_index v n at) (sym size) ∙ sym is))

pub set_at_within : (world : World) (v : View) (b rows : ℕ) (i : Option ℕ) (at : ℕ) (old : Item) → IsIndexed world v b rows i at → Stands world v → Some old ≡ slice_get (shown world v) at → at < rows
set_at_within world v b rows i at old it view some =
    let lt : at < length (shown world v) = (index_given (shown world v) at old some).0 in
    omega (arith, few_items world v b view.known it.base, it.rows_are)

pub set_at_given : (world : World) (v : View) (b rows : ℕ) (i : Option ℕ) (at place : ℕ) (x : Elem) (old : Item) (key : Elem) → IsIndexed world v b rows i at → Stands world v → (flags_at world v).add ≡ true → is_list (shape_at world v) ≡ true
    → Some old ≡ slice_get (shown world v) at → place ≡ item_index v rows at → key ≡ key_of old → answered_known world v (call.Indexed SetAt i x) ≡ added world v (One x ∷ []) (Instead place) (answer.Element key)
set_at_given world v b rows i at place x old key it view ok list some is k =
    let size = size_is world v b rows i at it in
    let lt : at < length (root world v).rows = omega (arith, set_at_within world v b rows i at old it view some, size) in
    ap (λ o. answered_known world v (call.Indexed SetAt o x)) it.index
    ∙ adding_allowed world v (index_refusal (λ n. nat_lt n (length (shown world v))) (Some at)) (One x ∷ []) (adding (place_of (seen_at at (candidates world v))) (rows_for v (One x ∷ []))) (element_of (slice_get (shown world v) at)) ok
    (index_given (shown world v) at old some).1
    ∙ ap (λ o. added world v (One x ∷ []) (place_of (seen_at at (candidates world v))) (element_of o)) (sym some)
    ∙ ap (λ (spot : Spot). added world v (One x ∷ []) spot (answer.Element (key_of old))) (place_spot world v view.known view.made list at lt ∙ ap Instead (ap (λ n. item_index v n at) (sym size) ∙ sym is))
    ∙ ap (λ y. added world v (One x ∷ []) (Instead place) (answer.Element y)) (sym k)
