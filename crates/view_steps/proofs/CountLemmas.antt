-- How many rows the bases of a world have, and how many items a view shows.
use Rattle.std.proofs.Common.{◌≡◌, ℕ, ◌+◌, ◌<◌, ◌≤◌, [], ◌∷◌, ◌++◌, length, set, zero, suc, arith, Bool, ap, List, map, ◌∙◌, true}
use Rattle.std.specs.Prelude.{filter}
use Rattle.std.proofs.lemmas.List.{length-map}
use Rattle.vocabulary.specs.declared.items.Item.{Item}
use Rattle.machine.specs.Bases.{Base, World, base_at}
use Rattle.machine.specs.Leaves.{leaf_at}
use Rattle.view_steps.specs.KnownViews.{is_known_view}
use Rattle.machine.specs.Views.{View, base_under, candidates, shown, shape_at}
use Rattle.machine.specs.Candidates.{is_seen, item_in}
use Rattle.machine.specs.RowCounts.{rows_in}
use Rattle.view_laws.specs.RowForm.{RowForm, form_of, shows}
use Rattle.machine.specs.MadeViews.{IsMade}
use Rattle.vocabulary.specs.Known.{is_known_kind}
use Rattle.vocabulary.specs.Shapes.{is_list}
use Rattle.view_steps.proofs.KindLemmas.{counts_rows}
use Rattle.view_steps.proofs.KnownLemmas.{known_by_row}
use Rattle.view_steps.proofs.ListLemmas.{fewer, filter-all}
use Rattle.view_laws.proofs.RowPlaceLemmas.{few_candidates}
use Rattle.view_steps.proofs.TurnLemmas.{length-turned}
use Rattle.view_laws.proofs.RowLemmas.{shown_law}
use Rattle.view_steps.proofs.IndexLemmas.{shows_all}

-- the rows after a write: those before, without those that the base had, and with those that it has now
pub rows_in-written : (world : World) (b : ℕ) (it : Base) → b < length world → is_known_kind (base_at world b).kind ≡ true → is_known_kind it.kind ≡ true
    → rows_in (set world b it) + length (base_at world b).rows ≡ rows_in world + length it.rows
rows_in-written [] b it lt old new = absurd (omega arith)
rows_in-written (first ∷ world) zero it lt old new = omega (arith, counts_rows first old, counts_rows it new)
rows_in-written (first ∷ world) (suc b) it lt old new = omega (arith, rows_in-written world b it (omega arith) old new)

-- a base has no more rows than all bases together
pub rows_in-at : (world : World) (b : ℕ) → b < length world → is_known_kind (base_at world b).kind ≡ true → length (base_at world b).rows ≤ rows_in world
rows_in-at [] b lt known = absurd (omega arith)
rows_in-at (first ∷ world) zero lt known = omega (arith, counts_rows first known)
rows_in-at (first ∷ world) (suc b) lt known = omega (arith, rows_in-at world b (omega arith) known)

pub rows_in-more : (world : World) (it : Base) → is_known_kind it.kind ≡ true → rows_in (world ++ it ∷ []) ≡ rows_in world + length it.rows
rows_in-more [] it known = omega (arith, counts_rows it known)
rows_in-more (first ∷ world) it known = omega (arith, rows_in-more world it known)

-- no more items than rows
pub few_shown : (world : World) (v : View) → is_known_view v ≡ true → length (shown world v) ≤ length (leaf_at world (base_under v)).rows
few_shown world v known = omega (arith, length-map (filter is_seen (candidates world v)) item_in, fewer is_seen (candidates world v), few_candidates world v (known_by_row world v known))

pub length_shown : (world : World) (v : View) → is_known_view v ≡ true → length (shown world v) ≡ length (filter (shows (form_of v)) (leaf_at world (base_under v)).rows)
length_shown world v known =
    let f : RowForm = form_of v in
    let seen : List Item = filter (shows f) (leaf_at world (base_under v)).rows in
    ap length (shown_law world v (known_by_row world v known)) ∙ length-turned f.turned (map f.item seen) ∙ length-map seen f.item

-- a list view shows as many items as there are rows
pub list_shown : (world : World) (v : View) → is_known_view v ≡ true → IsMade world v → is_list (shape_at world v) ≡ true → length (shown world v) ≡ length (leaf_at world (base_under v)).rows
list_shown world v known made h =
    let rows : List Item = (leaf_at world (base_under v)).rows in
    length_shown world v known ∙ ap length (ap (λ (p : Item → Bool). filter p rows) (λ i row. shows_all world v known made h row i) ∙ filter-all rows)
