-- The form of a view that makes no other items: each row is a candidate, and is the item that is shown.
use Rattle.std.proofs.Common.{◌≡◌, Bool, true, false, ◌&&◌, not, List, [], ◌∷◌, map, reverse, refl, ap, sym, ◌∙◌}
use Rattle.std.specs.Prelude.{filter}
use Rattle.std.specs.List.{list_any}
use Rattle.std.proofs.lemmas.List.Sorted.{list_any-IsPermutation, IsPermutation-reverse}
use Rattle.vocabulary.specs.declared.items.Item.{Item}
use Rattle.vocabulary.specs.declared.step_table.Family.{Family}
use Rattle.vocabulary.specs.declared.step_table.Family.TheVariants.{Same, Turned, Hidden}
use Rattle.vocabulary.specs.declared.steps.Step.{Step}
use Rattle.vocabulary.specs.Steps.{family_of}
use Rattle.machine.specs.Candidates.{changed, cut, hidden, of_rows}
use Rattle.machine.specs.Views.{View, base, both, over}
use Rattle.read_chain.specs.ListLookUps.{keeps_items, makes_others}
use Rattle.view_laws.specs.Lanes.{turned_if}
use Rattle.view_laws.specs.RowForm.{RowForm, candidates_by, form_of, form_over, shown_by}
use Rattle.view_laws.proofs.ListLemmas as lists
use Rattle.view_laws.proofs.ListLemmas.{filter-all}

-- each row is a candidate, and is what it shows
pub record KeepsRows (f : RowForm) : Type 0 where
  pub takes : (row : Item) → f.takes row ≡ true
  pub item : (row : Item) → f.item row ≡ row

over_kept : (family : Family) (step : Step) (f : RowForm) → makes_others family ≡ false → KeepsRows f → KeepsRows (form_over family step f)
over_kept Same step f h k = k
over_kept Turned step f h k = record { takes = k.takes; item = k.item }
over_kept Hidden step f h k = record { takes = k.takes; item = k.item }
over_kept _ step f h k = absurd (cc)

pub not_so : (b : Bool) → not b ≡ true → b ≡ false
not_so true e = sym e
not_so false e = refl

none_made : (step : Step) (v : View) → keeps_items (over step v) ≡ true → (makes_others (family_of step) ≡ false) × (keeps_items v ≡ true)
none_made step v h = let parts = lists.both_true (not (makes_others (family_of step))) (keeps_items v) h in (not_so (makes_others (family_of step)) parts.0, parts.1)

pub form_kept : (v : View) → keeps_items v ≡ true → KeepsRows (form_of v)
form_kept (base l) h = record { takes = λ row. refl; item = λ row. refl }
form_kept (over step v) h = let parts = none_made step v h in over_kept (family_of step) step (form_of v) parts.0 (form_kept v parts.1)
form_kept (both word v u) h = absurd (cc)

-- ---- what is shown

pub all_same : {X : Type 0} (xs : List X) → map (λ x. x) xs ≡ xs
all_same [] = refl
all_same (x ∷ xs) = ap (λ ys. x ∷ ys) (all_same xs)

pub shown_kept : (f : RowForm) (rows : List Item) → KeepsRows f → shown_by f rows ≡ turned_if f.turned (filter f.sees rows)
shown_kept f rows k = ap (turned_if f.turned) ((λ i. map (λ row. k.item row i) (filter (λ row. k.takes row i && f.sees row) rows)) ∙ all_same (filter f.sees rows))

pub any_turned : (p : Item → Bool) (t : Bool) (rows : List Item) → list_any p (turned_if t rows) ≡ list_any p rows
any_turned p true rows = sym (list_any-IsPermutation p rows (reverse rows) (IsPermutation-reverse rows))
any_turned p false rows = refl

-- each row has one candidate, in the order of the rows
pub candidates_kept : (f : RowForm) (rows : List Item) → f.turned ≡ false → KeepsRows f → candidates_by f rows ≡ hidden f.sees (of_rows 0 rows)
candidates_kept f rows t k =
    (λ i. turned_if (t i) (changed (λ row. k.item row i) (hidden f.sees (cut (λ row. k.takes row i) (of_rows 0 rows)))))
    ∙ all_same (hidden f.sees (cut (λ row. true) (of_rows 0 rows)))
    ∙ ap (hidden f.sees) (filter-all (of_rows 0 rows))
