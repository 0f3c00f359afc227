-- A view whose steps are known has rows and items of their forms, and makes of a row what its form makes of it.
use Rattle.std.proofs.Common.{◌≡◌, true, false, ◌||◌, refl, ap, sym, subst, ◌∙◌}
use Rattle.std.specs.Prelude.{IsSome}
use Rattle.vocabulary.specs.declared.items.Item.{Item}
use Rattle.vocabulary.specs.declared.shapes.Shape.{Shape}
use Rattle.vocabulary.specs.declared.step_table.Family.{Family}
use Rattle.vocabulary.specs.declared.step_table.Family.TheVariants.{Same, Changed, Turned, Hidden, Cut}
use Rattle.vocabulary.specs.declared.steps.Step.{Step}
use Rattle.vocabulary.specs.Known.{is_known_kind}
use Rattle.vocabulary.specs.StepShapes.{apply}
use Rattle.vocabulary.specs.Steps.{family_of, item_of}
use Rattle.machine.specs.Bases.{World}
use Rattle.machine.specs.Leaves.{leaf_at}
use Rattle.machine.specs.MadeViews.{IsMade}
use Rattle.machine.specs.Views.{View, base, both, over, base_under, shape_after, shape_at}
use Rattle.view_laws.specs.ItemForms.{IsFormed, RowsFit, has_form, stands_on_pieces}
use Rattle.view_laws.specs.Places.{found_row}
use Rattle.view_laws.specs.RowForm.{RowForm, form_of, form_over, found_row_by}
use Rattle.view_laws.proofs.FormLemmas.{given_shape}
use Rattle.view_laws.proofs.FormTable.{FormIn, form_after}
use Rattle.view_laws.proofs.LiftTable.{leaves_items, left_items}
use Rattle.view_steps.specs.Founds.{found_in_family, found_through_steps}
use Rattle.view_steps.specs.KnownViews.{is_known, is_known_view}
use Rattle.view_steps.specs.KnownShapes.{is_known_shape}
use Rattle.view_steps.proofs.FamilyTable.{is_plain, known_family}
use Rattle.view_steps.proofs.KnownLemmas.{known_over, known_shape, of_families}
use Rattle.view_steps.proofs.KnownShapes.{no_pieces}

apart : (world : World) (v : View) → is_known_view v ≡ true → is_known_kind (leaf_at world (base_under v)).kind ≡ true → stands_on_pieces world v ≡ false
apart world (base l) known kind = refl
apart world (over it v) known kind =
    let below : is_known_view v ≡ true = (known_over it v known).1 in
    ap (λ b. b || stands_on_pieces world v) (no_pieces (shape_at world v) (known_shape world v below kind)) ∙ apart world v below kind
apart world (both word v u) known kind = absurd (cc)

rows_fit : (world : World) (v : View) → is_known_view v ≡ true → RowsFit world (base (base_under v)) → RowsFit world v
rows_fit world (base l) known fit = fit
rows_fit world (over it v) known fit = rows_fit world v (known_over it v known).1 fit
rows_fit world (both word v u) known fit = absurd (cc)

pub known_formed : (world : World) (v : View) → is_known_view v ≡ true → is_known_kind (leaf_at world (base_under v)).kind ≡ true → IsMade world v → RowsFit world (base (base_under v)) → IsFormed world v
known_formed world v known kind made fit = record { made = made; apart = apart world v known kind; rows = rows_fit world v known fit }

-- ---- the forms of items

-- an item of a form has that of the shape above once a known step has made another of it
made_form : (family : Family) (it : Step) → family_of it ≡ family → is_plain family ≡ true → (of given : Shape) → FormIn family it of given → (item : Item) → has_form of item ≡ true → has_form given (item_of it item) ≡ true
made_form Same it e plain of given makes item h = subst (λ (i : Item). has_form given i ≡ true) (sym (left_items it item (ap leaves_items e))) (makes item h)
made_form Changed it e plain of given makes item h = makes item h
made_form Turned it e plain of given makes item h = subst (λ (i : Item). has_form given i ≡ true) (sym (left_items it item (ap leaves_items e))) (makes item h)
made_form Hidden it e plain of given makes item h = subst (λ (i : Item). has_form given i ≡ true) (sym (left_items it item (ap leaves_items e))) (makes item h)
made_form Cut it e plain of given makes item h = makes item h
made_form _ it e plain of given makes item h = absurd (cc)

pub item_formed : (of : Shape) (it : Step) → is_known it ≡ true → IsSome (apply of it) → is_known_shape of ≡ true → (item : Item) → has_form of item ≡ true → has_form (shape_after of (apply of it)) (item_of it item) ≡ true
item_formed of it known given shape item h =
    made_form (family_of it) it refl (known_family it known) of (shape_after of (apply of it))
    (given_shape (FormIn (family_of it) it of) of (apply of it) given (form_after of it (no_pieces of shape))) item h

-- ---- step by step

abbrev found_over_form : (it : Step) (f : RowForm) (row : Item) (family : Family) → Type 0
found_over_form it f row family = found_in_family family it (found_row_by f row) ≡ found_row_by (form_over family it f) row

pub found_by_steps : (v : View) (row : Item) → is_known_view v ≡ true → found_through_steps v (found_row row) ≡ found_row_by (form_of v) row
found_by_steps (base l) row known = refl
found_by_steps (over it v) row known =
    let parts = known_over it v known in
    ap (found_in_family (family_of it) it) (found_by_steps v row parts.1)
    ∙ of_families (found_over_form it (form_of v) row) refl refl refl refl refl (family_of it) (known_family it parts.0)
found_by_steps (both word v u) row known = absurd (cc)
