use Rattle.std.proofs.Common.{◌≡◌, ℕ, ◌≤◌, List, ◌++◌, length, None}
use Rattle.slab.specs.Slab.{slab_len}
use Rattle.linked_base.specs.declared.links.Ends.{Ends}
use Rattle.linked_base.specs.Thread.{head_or, last_or, IsThread, links_at}
use Rattle.linked_base.proofs.Walks.{WalkedOn, WalkedBack}
use Rattle.table_base.specs.declared.seeking.Sought.TheVariants.{OfColumn}
use Rattle.table_base.specs.CellNodes.{all_links}
use Rattle.table_base.specs.Seeking.{passes_at}
use Rattle.table_base.proofs.seeking.next_of_column.Given as goal

abbrev pub invariant-loop-step : goal.invariant-loop-step
invariant-loop-step l =
    (us vs : List ℕ) (all : Ends) → l.fn.from ≡ head_or None vs → l.fn.before ≡ last_or None us → IsThread (links_at all_links l.nodes) all (us ++ vs) → length vs ≤ slab_len l.nodes
    → WalkedOn (passes_at (OfColumn l.c) l.nodes) vs l.ahead l._step × WalkedBack (passes_at (OfColumn l.c) l.nodes) us l.behind l._step
