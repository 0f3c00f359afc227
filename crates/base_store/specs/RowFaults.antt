-- Why rows do not come to a base of a store.
use Rattle.std.specs.Prelude.{◌≡◌, ℕ, ◌<◌, true, false}
use Rattle.machine.specs.Bases.{World, base_at}
use Rattle.machine.specs.Edits.{Edit, takes_edit}
use Rattle.machine.specs.RowCounts.{rows_in}
use Rattle.view_steps.specs.KnownViews.{edited_at}
use Rattle.vocabulary.specs.Limits.{most_rows}
use Rattle.vocabulary.specs.declared.refusals.Refusal.{Refusal}
use Rattle.vocabulary.specs.declared.refusals.Refusal.TheVariants.{IllegalArgument, Limit, NoMemory}

-- the base refuses one of them, or there would be too many, or memory is wanted
abbrev pub IsRowFault : World → ℕ → Edit → Refusal → Type 0
IsRowFault world b edit IllegalArgument = takes_edit (base_at world b) edit ≡ false
IsRowFault world b edit Limit = (takes_edit (base_at world b) edit ≡ true) × (most_rows < rows_in (edited_at world b edit))
IsRowFault world b edit NoMemory = Unit {0}
IsRowFault world b edit other = ⊥
