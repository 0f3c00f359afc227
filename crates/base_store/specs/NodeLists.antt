-- The nodes of a store as contracts see them: how each was made, and its facts.
use Rattle.std.specs.Prelude.{ℕ, ◌+◌, List, [], ◌∷◌, ◌++◌, length, take}
use Rattle.base_store.specs.declared.store.Made.{Made}
use Rattle.base_store.specs.declared.store.facts.Facts.{Facts}

-- the nodes at the front last, and those behind them are temporary
pub record NodeList : Type 0 where
  pub made : List Made
  pub facts : List Facts
  pub lasting : ℕ

-- the nodes with another temporary one
abbrev pub with_temporary : NodeList → Made → Facts → NodeList
with_temporary ns made facts = record { made = ns.made ++ made ∷ []; facts = ns.facts ++ facts ∷ []; lasting = ns.lasting }

-- the nodes that last
abbrev pub front : NodeList → NodeList
front ns = record { made = take ns.lasting ns.made; facts = take ns.lasting ns.facts; lasting = ns.lasting }

-- the nodes, all of which last
abbrev pub all_kept : NodeList → NodeList
all_kept ns = record { made = ns.made; facts = ns.facts; lasting = length ns.made }

-- the nodes that last, and another one that lasts
abbrev pub with_lasting : NodeList → Made → Facts → NodeList
with_lasting ns made facts = record { made = take ns.lasting ns.made ++ made ∷ []; facts = take ns.lasting ns.facts ++ facts ∷ []; lasting = ns.lasting + 1 }
