-- A thread through the nodes of a slab is a list of places.
use Rattle.std.specs.Prelude.{◌≡◌, ◌≢◌, ℕ, zero, suc, List, [], ◌∷◌, Option, Some, None}
use Rattle.std.specs.Option.{option_map}
use Rattle.slab.specs.Slab.{Slab, get}
use Rattle.linked_base.specs.declared.links.Links.{Links}
use Rattle.linked_base.specs.declared.links.Ends.{Ends}

-- the first place, or `end` where there is none
abbrev pub head_or : Option ℕ → List ℕ → Option ℕ
head_or end [] = end
head_or end (p ∷ ps) = Some p

-- the last place, or `start` where there is none
abbrev pub last_or : Option ℕ → List ℕ → Option ℕ
last_or start [] = start
last_or start (p ∷ ps) = last_or (Some p) ps

-- none of the places is the one named
abbrev pub Avoids : Option ℕ → List ℕ → Type 0
Avoids o [] = Unit {0}
Avoids o (p ∷ ps) = (o ≢ Some p) × Avoids o ps

-- no place comes twice
abbrev pub Apart : List ℕ → Type 0
Apart [] = Unit {0}
Apart (p ∷ ps) = Avoids (Some p) ps × Apart ps

abbrev pub next_of : Option Links → Option ℕ
next_of None = None
next_of (Some l) = l.next

module _ (at : ℕ → Option Links) where
  -- the places follow one another, between `before` and `after`
  abbrev pub IsRun : Option ℕ → List ℕ → Option ℕ → Type 0
  IsRun before [] after = Unit {0}
  IsRun before (p ∷ ps) after = (at p ≡ Some (record { previous = before; next = head_or after ps })) × IsRun (Some p) ps after

  -- the places that at most n steps from a place reach
  abbrev pub walk : ℕ → Option ℕ → List ℕ
  walk zero from = []
  walk (suc n) None = []
  walk (suc n) (Some p) = p ∷ walk n (next_of (at p))

  -- read from its first place the thread is this list of places, and read from its last the same list backwards
  pub record IsThread (ends : Ends) (ps : List ℕ) : Type 0 where
    pub first : ends.first ≡ head_or None ps
    pub last : ends.last ≡ last_or None ps
    pub links : IsRun None ps None
    pub apart : Apart ps

module _ {T : Type 0} where
  -- the links of the node at each place
  abbrev pub links_at : (T → Links) → Slab T → ℕ → Option Links
  links_at links nodes p = option_map links (get nodes p)

  -- the node at the place named is changed, and no other
  pub record Rewrites (change : T → T) (at : Option ℕ) (old new : Slab T) : Type 0 where
    pub others : (p : ℕ) → at ≢ Some p → get new p ≡ get old p
    pub changed : (p : ℕ) → at ≡ Some p → get new p ≡ option_map change (get old p)

  -- the node is the same but for its links
  abbrev pub KeepsRest : (T → Links → T) → Option T → Option T → Type 0
  KeepsRest with_links None new = new ≡ None
  KeepsRest with_links (Some n) new = (l : Links) × (new ≡ Some (with_links n l))
