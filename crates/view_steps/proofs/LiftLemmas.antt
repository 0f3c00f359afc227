-- Items that are added: where they pass, the rows that they mean are they themselves, or have their parts exchanged.
use Rattle.std.proofs.Common.{◌≡◌, true, List, [], ◌∷◌, ◌++◌, Option, Some, None, refl, sym, ap, ◌∙◌, Bool, false, cond}
use Rattle.std.specs.Prelude.{is_some, not, option_to_list, if◌then◌else◌}
use Rattle.std.specs.List.{list_all}
use Rattle.std.proofs.lemmas.Option.{same_Some, cond_some, option_and_then_some}
use Rattle.vocabulary.specs.declared.items.Item.{Item}
use Rattle.machine.specs.CallEdits.{rows_for}
use Rattle.vocabulary.specs.Items.{swapped}
use Rattle.vocabulary.specs.Steps.{lifted, passes}
use Rattle.machine.specs.Spots.{is_swapped}
use Rattle.machine.specs.Views.{View, base, both, over, lift}
use Rattle.view_laws.proofs.LiftTable.{twice_swapped}
use Rattle.view_laws.proofs.ListLemmas.{both_true}
use Rattle.view_steps.specs.KnownViews.{is_known_view}
use Rattle.view_steps.proofs.KnownLemmas.{known_over}
use Rattle.view_steps.proofs.SpotTable.{exchanged, exchanges, is_lifted, step_swaps}

-- parts that were exchanged, exchanged again where a step says so
exchanged_twice : (swaps swapped_below : Bool) (item : Item) → exchanged swapped_below (exchanged swaps item) ≡ exchanged (cond swaps (not swapped_below) swapped_below) item
exchanged_twice true true item = twice_swapped item
exchanged_twice true false item = refl
exchanged_twice false true item = refl
exchanged_twice false false item = refl

-- an added item goes down as it is, or with its parts exchanged where the view shows them so
pub lift_known : (v : View) → is_known_view v ≡ true → (item row : Item) → lift v item ≡ Some row → row ≡ (if is_swapped v then swapped item else item)
lift_known (base l) known item row e = sym (same_Some item row e)
lift_known (over it v) known item row e =
    let parts = known_over it v known in
    option_and_then_some (lift v) (lifted it item) row e
    (λ below first rest.
    lift_known v parts.1 below row rest
    ∙ ap (exchanged (is_swapped v)) (sym (cond_some (passes it item) (exchanged (exchanges it) item) below (sym (is_lifted it item parts.0) ∙ first)).1)
    ∙ exchanged_twice (exchanges it) (is_swapped v) item
    ∙ ap (λ t. exchanged t item) (sym (step_swaps it v)))
lift_known (both word v u) known item row e = absurd (cc)

lift_same : (v : View) → is_known_view v ≡ true → is_swapped v ≡ false → (item row : Item) → lift v item ≡ Some row → row ≡ item
lift_same v known straight item row e = lift_known v known item row e ∙ ap (λ t. exchanged t item) straight

lifts_to : (v : View) → is_known_view v ≡ true → is_swapped v ≡ false → (item : Item) (o : Option Item) → lift v item ≡ o → is_some o ≡ true → o ≡ Some item
lifts_to v known straight item None e h = absurd (cc)
lifts_to v known straight item (Some row) e h = ap Some (lift_same v known straight item row e)

-- the rows of items that all pass, in a view that shows the parts as its base has them
pub rows_same : (v : View) → is_known_view v ≡ true → is_swapped v ≡ false → (items : List Item) → list_all (λ item. is_some (lift v item)) items ≡ true → rows_for v items ≡ items
rows_same v known straight [] h = refl
rows_same v known straight (item ∷ items) h =
    let here = both_true (is_some (lift v item)) (list_all (λ item. is_some (lift v item)) items) h in
    let e : lift v item ≡ Some item = lifts_to v known straight item (lift v item) refl here.0 in
    ap (λ o. option_to_list o ++ rows_for v items) e ∙ ap (λ rest. item ∷ rest) (rows_same v known straight items here.1)
