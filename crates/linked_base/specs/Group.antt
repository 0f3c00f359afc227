-- For each key, a thread through the places that have it.
use Rattle.std.specs.Prelude.{◌≡◌, ℕ, zero, suc, ◌<◌, Bool, false, List, length, Option, Some, None}
use Rattle.std.specs.List.{filter}
use Rattle.elem.specs.declared.elements.Elem.{Elem}
use Rattle.elem.specs.Elements.{same}
use Rattle.linked_base.specs.declared.links.Links.{Links}
use Rattle.linked_base.specs.declared.group.Group.{Group}
use Rattle.linked_base.specs.Thread.{IsThread}

abbrev pub no_group : Group
no_group = record { ends = record { first = None; last = None }; count = 0 }

abbrev pub group_or_none : Option Group → Group
group_or_none None = no_group
group_or_none (Some g) = g

abbrev pub used_at : ℕ → Group → Option Group
used_at zero g = None
used_at (suc n) g = Some g

-- the group, or none where nothing is in it
abbrev pub some_used : Group → Option Group
some_used g = used_at g.count g

-- the group's thread is these places
pub record IsGroup (at : ℕ → Option Links) (g : Group) (ps : List ℕ) : Type 0 where
  pub thread : IsThread at g.ends ps
  pub count : g.count ≡ length ps

abbrev pub has : Elem → Option Elem → Bool
has k None = false
has k (Some x) = same k x

-- those of the places that have the key
abbrev pub of_key : (ℕ → Option Elem) → Elem → List ℕ → List ℕ
of_key key k ps = filter (λ p. has k (key p)) ps

-- the thread of each key's group is those of the places that have the key, in their order, and no group is empty
pub record AreGrouped (key : ℕ → Option Elem) (at : ℕ → Option Links) (find : Elem → Option Group) (ps : List ℕ) : Type 0 where
  pub group : (k : Elem) → IsGroup at (group_or_none (find k)) (of_key key k ps)
  pub used : (k : Elem) (g : Group) → find k ≡ Some g → 0 < g.count
