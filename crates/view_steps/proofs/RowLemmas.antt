-- The row form of a known view.
use Rattle.std.proofs.Common.{◌≡◌, true}
use Rattle.machine.specs.Bases.{World}
use Rattle.machine.specs.Leaves.{leaf_at}
use Rattle.machine.specs.Views.{View, base_under, candidates, shown}
use Rattle.view_laws.proofs.RowLemmas as laws
use Rattle.view_laws.specs.RowForm.{candidates_by, form_of, shown_by}
use Rattle.view_steps.specs.KnownViews.{is_known_view}
use Rattle.view_steps.proofs.KnownLemmas.{known_by_row}

pub row_law : (world : World) (v : View) → is_known_view v ≡ true → candidates world v ≡ candidates_by (form_of v) (leaf_at world (base_under v)).rows
row_law world v known = laws.row_law world v (known_by_row world v known)

pub shown_law : (world : World) (v : View) → is_known_view v ≡ true → shown world v ≡ shown_by (form_of v) (leaf_at world (base_under v)).rows
shown_law world v known = laws.shown_law world v (known_by_row world v known)
