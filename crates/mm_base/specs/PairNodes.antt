-- What nodes of pairs mean: a thread goes through all, and one through the pairs of each key, in the same order.
use Rattle.std.specs.Prelude.{◌≡◌, ℕ, cond, Bool, false, List, length, Option, Some, None}
use Rattle.std.specs.Option.{option_map, is_none}
use Rattle.slab.specs.Slab.{Slab, get, slab_len}
use Rattle.elem.specs.declared.elements.Elem.{Elem}
use Rattle.elem.specs.Elements.{same}
use Rattle.linked_base.specs.declared.links.Links.{Links}
use Rattle.linked_base.specs.declared.links.Ends.{Ends}
use Rattle.linked_base.specs.declared.group.Group.{Group}
use Rattle.linked_base.specs.Thread.{walk, IsThread, links_at}
use Rattle.linked_base.specs.Group.{some_used, AreGrouped}
use Rattle.linked_base.specs.Places.{id_rows}
use Rattle.mm_base.specs.declared.pair_nodes.PairNode.{PairNode}

abbrev pub all_links : PairNode → Links
all_links n = n.all

abbrev pub key_links : PairNode → Links
key_links n = n.of_key

abbrev pub key : PairNode → Elem
key n = n.key

-- key and value of a node
abbrev pub core : PairNode → Elem × Elem
core n = (n.key, n.value)

abbrev pub key_at : Slab PairNode → ℕ → Option Elem
key_at nodes p = option_map key (get nodes p)

abbrev pub value_at : Slab PairNode → ℕ → Option Elem
value_at nodes p = option_map (λ (n : PairNode). n.value) (get nodes p)

abbrev pub core_at : Slab PairNode → ℕ → Option (Elem × Elem)
core_at nodes p = option_map core (get nodes p)

-- the key of the node at a place, where there is a place
abbrev pub key_of : Slab PairNode → Option ℕ → Option Elem
key_of nodes None = None
key_of nodes (Some p) = key_at nodes p

abbrev pub starts_key : Option PairNode → Bool
starts_key None = false
starts_key (Some n) = is_none n.of_key.previous

-- whether the pair at a place is the first of its key
abbrev pub is_head : Slab PairNode → ℕ → Bool
is_head nodes p = starts_key (get nodes p)

abbrev pub no_links : Links
no_links = record { previous = None; next = None }

abbrev pub the_node : Elem → Elem → PairNode
the_node k v = record { key = k; value = v; all = no_links; of_key = no_links }

-- with this group for the key
abbrev pub with_group : Elem → Group → (Elem → Option Group) → Elem → Option Group
with_group k g find x = cond (same k x) (some_used g) (find x)

-- the threads of these places, where `find` gives the group of each key
pub record ArePairs (nodes : Slab PairNode) (all : Ends) (find : Elem → Option Group) (ps : List ℕ) : Type 0 where
  pub thread : IsThread (links_at all_links nodes) all ps
  pub groups : AreGrouped (key_at nodes) (links_at key_links nodes) find ps
  pub count : slab_len nodes ≡ length ps

-- the places of the first pairs in order
abbrev pub places : Slab PairNode → Ends → List ℕ
places nodes all = walk (links_at all_links nodes) (slab_len nodes) all.first

abbrev pub pairs_now : Slab PairNode → Ends → List (ℕ × (Elem × Elem))
pairs_now nodes all = id_rows (core_at nodes) (places nodes all)
