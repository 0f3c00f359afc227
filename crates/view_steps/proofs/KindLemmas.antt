-- Known kinds: rows go by their keys or come last.
use Rattle.std.proofs.Common.{◌≡◌, true, false, ◌&&◌, cond, List, length, map, refl, ap, ◌∙◌}
use Rattle.elem.specs.Elements.{same}
use Rattle.vocabulary.specs.declared.edits.Spot.{Spot}
use Rattle.vocabulary.specs.declared.items.Item.{Item}
use Rattle.vocabulary.specs.declared.kinds.Kind.{Kind}
use Rattle.vocabulary.specs.Items.{key_of}
use Rattle.vocabulary.specs.Kinds.{shape_of_kind}
use Rattle.vocabulary.specs.Known.{is_known_kind}
use Rattle.vocabulary.specs.Shapes.{is_bimap, is_keyed}
use Rattle.machine.specs.Bases.{Base}
use Rattle.machine.specs.KeyOrders.{each_once}
use Rattle.machine.specs.Placing.{follows, replaces, takes_row}
use Rattle.machine.specs.RowCounts.{rows_of}
use Rattle.view_steps.proofs.KindTable.{kind_shape, no_groups, replaces_by_shape, takes_by_shape}
use Rattle.view_steps.proofs.KnownShapes.{by_key, each_taken, no_bag}

-- a base of a known kind has so many rows
pub counts_rows : (it : Base) → is_known_kind it.kind ≡ true → rows_of it ≡ length it.rows
counts_rows it h = ap (λ b. cond b (length (each_once (map key_of it.rows))) (length it.rows)) (no_bag (shape_of_kind it.kind) (kind_shape it.kind h))

-- no row of a known kind follows another of its key
pub no_follower : (kind : Kind) → is_known_kind kind ≡ true → (new old : Item) (others : List Item) → follows kind new old others ≡ false
no_follower kind h new old others = rw (no_groups kind h) refl

-- a known kind takes every row, unless it is that of a bimap
pub takes_each : (kind : Kind) → is_known_kind kind ≡ true → is_bimap (shape_of_kind kind) ≡ false → (spot : Spot) (rows : List Item) (new : Item) → takes_row kind spot rows new ≡ true
takes_each kind h one spot rows new = takes_by_shape kind h spot rows new ∙ each_taken (shape_of_kind kind) (kind_shape kind h) one spot rows new

-- a row of a known kind takes the place of that of its key, where the kind goes by key
pub replaces_by_key : (kind : Kind) → is_known_kind kind ≡ true → (new old : Item) → replaces kind new old ≡ (is_keyed (shape_of_kind kind) && same (key_of new) (key_of old))
replaces_by_key kind h new old = replaces_by_shape kind h new old ∙ by_key (shape_of_kind kind) (kind_shape kind h) new old
