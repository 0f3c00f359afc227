-- The rows that a view shows stand on its course, and have the parts of its items.
use Rattle.std.proofs.Common.{◌≡◌, Bool, true, false, List, refl, ap, sym, ◌∙◌, subst}
use Rattle.std.specs.Prelude.{is_some}
use Rattle.elem.specs.declared.elements.Elem.{Elem}
use Rattle.elem.specs.Keyed.{value_at}
use Rattle.vocabulary.specs.declared.items.Item.{Item}
use Rattle.vocabulary.specs.declared.items.Side.{Side}
use Rattle.vocabulary.specs.declared.items.Side.TheVariants.{First, Second}
use Rattle.vocabulary.specs.declared.kinds.Kind.{Kind}
use Rattle.vocabulary.specs.declared.step_table.Family.{Family}
use Rattle.vocabulary.specs.declared.step_table.Family.TheVariants.{Same, Changed, Turned, Keyed, Hidden, Cut, Grouped, Run, Pieces}
use Rattle.vocabulary.specs.declared.steps.Step.{Step}
use Rattle.vocabulary.specs.Items.{part_of}
use Rattle.vocabulary.specs.Kinds.{shape_of_kind}
use Rattle.vocabulary.specs.Shapes.{is_unique}
use Rattle.machine.specs.Bases.{Base, World, base_at}
use Rattle.machine.specs.Leaves.{leaf_at}
use Rattle.machine.specs.Views.{View, base_under}
use Rattle.view_laws.specs.ItemForms.{IsFormed, has_form}
use Rattle.view_laws.specs.Lanes.{all, takes}
use Rattle.view_laws.specs.RowForm.{RowForm, form_of, form_over, is_by_row, shows}
use Rattle.view_laws.specs.Serving.{Serves}
use Rattle.view_steps.specs.KnownViews.{is_known_view, number_under}
use Rattle.view_steps.specs.RowHits.{is_row_hit}
use Rattle.base_rows.specs.Reaches.{IsSideOf}
use Rattle.base_store.specs.declared.store.courses.Course.{Course}
use Rattle.base_store.specs.Courses.{IsCourse}
use Rattle.view_steps.proofs.ListLemmas.{both}
use Rattle.view_steps.proofs.KnownLemmas.{known_base}
use Rattle.view_laws.proofs.TakeLemmas.{takes_down}

-- a part that no two rows share is one by which they are looked for
pub side_of : (kind : Kind) (side : Side) → is_unique (shape_of_kind kind) side ≡ true → IsSideOf kind side
side_of kind First h = tt
side_of kind Second h = h

-- a row that is hit is taken, and its item passes
hit_taken : (p : Item → Bool) (f : RowForm) (row : Item) → is_row_hit p f row ≡ true → (f.takes row ≡ true) × (p (f.item row) ≡ true)
hit_taken p f row h =
    let parts = both (shows f row) (p (f.item row)) h in
    ((both (f.takes row) (f.sees row) parts.0).0, parts.1)

-- the base serves the lane of a course
pub course_served : (world : World) (v : View) (course : Course) → IsCourse world v all false course → Serves (base_at world (number_under v)).kind course.lane
course_served world v course is = subst (λ b. Serves (base_at world b).kind course.lane) is.base is.served

module _ (world : World) (v : View) (known : is_known_view v ≡ true) (formed : IsFormed world v) (by_row : is_by_row world v ≡ true) (p : Item → Bool) (row : Item) (fits : has_form (shape_of_kind (base_at world (number_under v)).kind) row ≡ true) (hit : is_row_hit p (form_of v) row ≡ true) where
  fits_leaf : has_form (shape_of_kind (leaf_at world (base_under v)).kind) row ≡ true
  fits_leaf = subst (λ (it : Base). has_form (shape_of_kind it.kind) row ≡ true) (sym (known_base world v known)) fits

  -- a row that is hit stands on the course of the whole walk
  pub hit_on_course : (course : Course) → IsCourse world v all false course → takes course.lane row ≡ true
  hit_on_course course is = takes_down world v all course.lane false course.back row formed.made formed.apart by_row fits_leaf is.down (hit_taken p (form_of v) row hit).0 refl

  -- and has one of some elements where each item that passes has, in a part that comes from this one
  pub hit_of_part : {U : Type 0} (keys : List (Elem × U)) (side below : Side) → (has_form (shape_of_kind (leaf_at world (base_under v)).kind) row ≡ true → part_of side ((form_of v).item row) ≡ part_of below row)
      → ((item : Item) → p item ≡ true → is_some (value_at keys (part_of side item)) ≡ true) → is_some (value_at keys (part_of below row)) ≡ true
  hit_of_part keys side below kept covers = ap (λ (x : Elem). is_some (value_at keys x)) (sym (kept fits_leaf)) ∙ covers ((form_of v).item row) (hit_taken p (form_of v) row hit).1

-- a step that leaves nothing out and hides nothing shows each row that the view below it shows
pub shows_over : (family : Family) (step : Step) (f : RowForm) → (family ≡ Hidden → ⊥) → (family ≡ Cut → ⊥) → ((row : Item) → shows f row ≡ true) → (row : Item) → shows (form_over family step f) row ≡ true
shows_over Same step f h c each row = each row
shows_over Changed step f h c each row = each row
shows_over Turned step f h c each row = each row
shows_over Keyed step f h c each row = each row
shows_over Grouped step f h c each row = each row
shows_over Run step f h c each row = each row
shows_over Pieces step f h c each row = each row
shows_over Hidden step f h c each row = absurd (h refl)
shows_over Cut step f h c each row = absurd (c refl)
