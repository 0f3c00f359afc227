-- A store as contracts see it: its bases, and its nodes.
use Rattle.std.specs.Prelude.{◌≡◌, ℕ, ◌+◌, ◌<◌, ◌≤◌, true, List, [], ◌∷◌, ◌++◌, length, take, Some, slice_get}
use Rattle.base_store.specs.declared.store.Made.{Made}
use Rattle.base_store.specs.declared.store.Made.TheVariants as made
use Rattle.base_store.specs.declared.store.facts.Facts.{Facts}
use Rattle.base_store.specs.Facts.{AreFactsOf}
use Rattle.base_store.specs.Limits.{most_handles}
use Rattle.base_store.specs.Nodes.{IsBelow, view_at}
use Rattle.vocabulary.specs.declared.kinds.Kind.{Kind}
use Rattle.machine.specs.RowCounts.{rows_in}
use Rattle.vocabulary.specs.Limits.{most_rows}
use Rattle.machine.specs.MadeViews.{IsMade}
use Rattle.base_rows.specs.BaseSpots.{HasKeys}
use Rattle.machine.specs.Bases.{World, base_at, empty_base}
use Rattle.machine.specs.Views.{View}
use Rattle.view_steps.specs.KnownViews.{is_known_view}
use Rattle.vocabulary.specs.Known.{is_known_kind}

-- the nodes at the front last, and those behind them are temporary; what lasts was counted by handles
pub record Stored : Type 0 where
  pub world : World
  pub nodes : List Made
  pub lasting : ℕ
  pub handles : ℕ

-- the view of a node
abbrev pub view_in : Stored → ℕ → View
view_in s n = view_at s.nodes n

-- every node stands on what stands before it, and takes a known step that the view below it has; each base is of a known
-- kind and has no key twice, nor a bimap a value
pub record IsBuilt (s : Stored) : Type 0 where
  pub below : (n : ℕ) (node : Made) → slice_get s.nodes n ≡ Some node → IsBelow (length s.world) n node
  pub lasting : s.lasting ≤ length s.nodes
  pub made : (n : ℕ) → n < length s.nodes → IsMade s.world (view_in s n)
  pub known : (n : ℕ) → n < length s.nodes → is_known_view (view_in s n) ≡ true
  pub kinds : (b : ℕ) → is_known_kind (base_at s.world b).kind ≡ true
  pub keys : (b : ℕ) → HasKeys (base_at s.world b)

-- the nodes are built, each keeps the facts of its view, the rows are counted, and neither they nor the handles pass
-- their limit
pub record IsSound (s : Stored) (facts : List Facts) (rows : ℕ) : Type 0 where
  pub built : IsBuilt s
  pub kept : AreFactsOf s.world s.nodes facts
  pub counted : rows ≡ rows_in s.world
  pub few : rows ≤ most_rows
  pub handles : s.handles ≤ most_handles

-- the store without its temporary nodes
abbrev pub without_temporary : Stored → Stored
without_temporary s = record { world = s.world; nodes = take s.lasting s.nodes; lasting = s.lasting; handles = s.handles }

-- the store with its temporary nodes made lasting, for so many handles
abbrev pub with_kept : Stored → ℕ → Stored
with_kept s handles = record { world = s.world; nodes = s.nodes; lasting = length s.nodes; handles = s.handles + handles }

-- the store with another base, of a kind and without rows, and its node, for one handle
abbrev pub with_base : Stored → Kind → Stored
with_base s kind = record {
  world = s.world ++ empty_base kind ∷ [];
  nodes = take s.lasting s.nodes ++ made.Base (length s.world) ∷ [];
  lasting = s.lasting + 1;
  handles = s.handles + 1;
}

-- the store with another temporary node
abbrev pub with_node : Stored → Made → Stored
with_node s node = record { world = s.world; nodes = s.nodes ++ node ∷ []; lasting = s.lasting; handles = s.handles }

-- the store with other bases
abbrev pub with_world : Stored → World → Stored
with_world s world = record { world = world; nodes = s.nodes; lasting = s.lasting; handles = s.handles }
