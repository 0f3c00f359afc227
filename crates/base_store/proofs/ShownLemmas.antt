-- What a node has of a row of its base, step by step.
use Rattle.std.proofs.Common.{◌≡◌, ℕ, ◌+◌, arith, true, List, ap, sym, ◌∙◌}
use Rattle.std.specs.Prelude.{Some, None, slice_get}
use Rattle.vocabulary.specs.declared.items.Item.{Item}
use Rattle.view_laws.specs.declared.places.Found.{Found}
use Rattle.vocabulary.specs.declared.steps.Step.{Step}
use Rattle.view_laws.specs.RowForm.{form_of}
use Rattle.view_steps.specs.RowHits.{found_of_row, found_through}
use Rattle.vocabulary.specs.Steps.{family_of}
use Rattle.machine.specs.Views.{View, over}
use Rattle.base_store.specs.declared.store.Made.{Made}
use Rattle.base_store.specs.declared.store.Made.TheVariants as made
use Rattle.base_store.specs.Hits.{StandBelow}
use Rattle.base_store.specs.Nodes.{view_at}
use Rattle.base_store.proofs.ViewLemmas.{view_at-node}
use Rattle.view_steps.specs.KnownViews.{is_known, is_known_view}
use Rattle.view_steps.proofs.RowHits.{found_step, through}
use Rattle.view_steps.proofs.KnownLemmas.{known_family, known_over}

-- a base has each row as it is
pub found_base : (nodes : List Made) (n b : ℕ) (row : Item) → StandBelow nodes → slice_get nodes n ≡ Some (made.Base b) → found_of_row (form_of (view_at nodes n)) row ≡ Some (record { item = row; seen = true })
found_base nodes n b row below is = ap (λ (v : View). found_of_row (form_of v) row) (view_at-node nodes n (b + 1) (made.Base b) is (omega arith))

view_over : (nodes : List Made) (n parent : ℕ) (step : Step) → StandBelow nodes → slice_get nodes n ≡ Some (made.Over step parent) → view_at nodes n ≡ over step (view_at nodes parent)
view_over nodes n parent step below is = view_at-node nodes n 0 (made.Over step parent) is (below n parent step is)

-- where a node's view is known, so is its step, and the view below it
pub known_parts : (nodes : List Made) (n parent : ℕ) (step : Step) → StandBelow nodes → slice_get nodes n ≡ Some (made.Over step parent) → is_known_view (view_at nodes n) ≡ true → (is_known step ≡ true) × (is_known_view (view_at nodes parent) ≡ true)
known_parts nodes n parent step below is known = known_over step (view_at nodes parent) (ap is_known_view (sym (view_over nodes n parent step below is)) ∙ known)

pub found_none : (nodes : List Made) (n parent : ℕ) (step : Step) (row : Item) → StandBelow nodes → is_known step ≡ true → slice_get nodes n ≡ Some (made.Over step parent) → found_of_row (form_of (view_at nodes parent)) row ≡ None → found_of_row (form_of (view_at nodes n)) row ≡ None
found_none nodes n parent step row below known is none =
    ap (λ (v : View). found_of_row (form_of v) row) (view_over nodes n parent step below is) ∙ found_step (family_of step) (known_family step known) step (form_of (view_at nodes parent)) row ∙ ap (through (family_of step) step) none

pub found_some : (nodes : List Made) (n parent : ℕ) (step : Step) (row : Item) (d : Found) → StandBelow nodes → is_known step ≡ true → slice_get nodes n ≡ Some (made.Over step parent) → found_of_row (form_of (view_at nodes parent)) row ≡ Some d
    → found_of_row (form_of (view_at nodes n)) row ≡ found_through step d
found_some nodes n parent step row d below known is some =
    ap (λ (v : View). found_of_row (form_of v) row) (view_over nodes n parent step below is) ∙ found_step (family_of step) (known_family step known) step (form_of (view_at nodes parent)) row ∙ ap (through (family_of step) step) some
