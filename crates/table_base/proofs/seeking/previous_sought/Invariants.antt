use Rattle.std.proofs.Common.{◌≡◌, ℕ, ◌≤◌, List, ◌++◌, length, None}
use Rattle.slab.specs.Slab.{slab_len}
use Rattle.linked_base.specs.declared.links.Ends.{Ends}
use Rattle.linked_base.specs.Thread.{last_or, IsThread, links_at}
use Rattle.linked_base.proofs.Walks.{WalkedBack}
use Rattle.table_base.specs.CellNodes.{all_links}
use Rattle.table_base.specs.Seeking.{passes_at}
use Rattle.table_base.proofs.seeking.previous_sought.Given as goal

abbrev pub invariant-loop-step : goal.invariant-loop-step
invariant-loop-step l =
    (us vs : List ℕ) (all : Ends) → l.fn.from ≡ last_or None us → IsThread (links_at all_links l.nodes) all (us ++ vs) → length us ≤ slab_len l.nodes → WalkedBack (passes_at l.sought l.nodes) us l.at l._step
