-- What the fields of a linked map mean.
use Rattle.std.specs.Prelude.{ℕ, List, Option, Some, None}
use Rattle.std.specs.Option.{option_map}
use Rattle.std.specs.HashMap.{HashMap, hash_map_len}
use Rattle.std.specs.HashMap as hash
use Rattle.slab.specs.Slab.{Slab, get}
use Rattle.elem.specs.declared.elements.Elem.{Elem}
use Rattle.elem.specs.Elements.{same}
use Rattle.linked_base.specs.declared.links.Links.{Links}
use Rattle.linked_base.specs.declared.links.Ends.{Ends}
use Rattle.linked_base.specs.declared.row_nodes.Node.{Node}
use Rattle.linked_base.specs.Places.{rows_of, IsIndexed}
use Rattle.linked_base.specs.Thread.{walk, IsThread, links_at}

module _ {V : Type 0} where
  abbrev pub links : Node V → Links
  links n = n.links

  abbrev pub row : Node V → Elem × V
  row n = (n.key, n.value)

  abbrev pub row_at : Slab (Node V) → ℕ → Option (Elem × V)
  row_at nodes p = option_map row (get nodes p)

  -- the key of the node at a place
  abbrev pub key_of : Slab (Node V) → Option ℕ → Option Elem
  key_of nodes None = None
  key_of nodes (Some p) = option_map (λ n. n.key) (get nodes p)

  -- the places of the first rows in order
  abbrev pub places : Slab (Node V) → Ends → ℕ → List ℕ
  places nodes ends len = walk (links_at links nodes) len ends.first

module _ {V S : Type 0} where
  abbrev pub rows_now : Slab (Node V) → Ends → HashMap Elem ℕ S → List (Elem × V)
  rows_now nodes ends index = rows_of (row_at nodes) (places nodes ends (hash_map_len index))

  -- the thread is these places, and the index names the place of each row and no other
  pub record IsRowsOf (nodes : Slab (Node V)) (ends : Ends) (index : HashMap Elem ℕ S) (ps : List ℕ) : Type 0 where
    pub thread : IsThread (links_at links nodes) ends ps
    pub indexed : IsIndexed (row_at nodes) (hash.get same index) (hash_map_len index) ps
