-- List views: every candidate is seen.
use Rattle.std.proofs.Common.{◌≡◌, ℕ, ◌+◌, true, List, [], ◌∷◌, map, reverse, refl, ap, ◌∙◌}
use Rattle.std.specs.Prelude.{filter}
use Rattle.vocabulary.specs.declared.items.Item.{Item}
use Rattle.vocabulary.specs.declared.step_table.Family.{Family}
use Rattle.vocabulary.specs.declared.step_table.Family.TheVariants.{Same, Changed, Turned}
use Rattle.vocabulary.specs.declared.steps.Step.{Step}
use Rattle.machine.specs.MadeViews.{IsMade}
use Rattle.vocabulary.specs.Steps.{family_of, item_of}
use Rattle.machine.specs.Bases.{World}
use Rattle.machine.specs.KeyOrders.{KeyOrder}
use Rattle.machine.specs.Leaves.{leaf_at}
use Rattle.machine.specs.Views.{View, base, both, over, candidates, order_over, shape_at}
use Rattle.vocabulary.specs.Shapes.{is_list}
use Rattle.view_steps.specs.KnownViews.{is_known_view}
use Rattle.machine.specs.Candidates.{Candidate, in_family, is_seen, of_rows, with_item}
use Rattle.view_steps.proofs.FamilyTable.{shows_each}
use Rattle.view_steps.proofs.IndexLemmas.{list_below}
use Rattle.view_steps.proofs.KnownLemmas.{known_over}
use Rattle.view_steps.proofs.ListLemmas.{filter-map, filter-reverse}

rows_seen : (n : ℕ) (rows : List Item) → filter is_seen (of_rows n rows) ≡ of_rows n rows
rows_seen n [] = refl
rows_seen n (row ∷ rows) = ap (λ cs. record { rows = n ∷ []; item = row; seen = true } ∷ cs) (rows_seen (n + 1) rows)

seen_over : (family : Family) (it : Step) (order : KeyOrder) (cs : List Candidate) → shows_each family ≡ true → filter is_seen cs ≡ cs → filter is_seen (in_family family it order cs) ≡ in_family family it order cs
seen_over Same it order cs each all = all
seen_over Changed it order cs each all = filter-map is_seen (with_item (item_of it)) cs ∙ ap (map (with_item (item_of it))) all
seen_over Turned it order cs each all = filter-reverse is_seen cs ∙ ap reverse all
seen_over _ it order cs each all = absurd (cc)

-- every candidate of a list is seen
pub list_seen : (world : World) (v : View) → is_known_view v ≡ true → IsMade world v → is_list (shape_at world v) ≡ true → filter is_seen (candidates world v) ≡ candidates world v
list_seen world (base l) known made h = rows_seen 0 (leaf_at world l).rows
list_seen world (over it v) known made h =
    let parts = known_over it v known in
    let below = list_below (shape_at world v) it parts.0 made.0.given h in
    seen_over (family_of it) it (order_over world v it) (candidates world v) below.1 (list_seen world v parts.1 made.1 below.0)
list_seen world (both word v u) known made h = absurd (cc)
