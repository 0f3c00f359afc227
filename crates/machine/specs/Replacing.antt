-- The values of a key exchanged for others.
use Rattle.std.specs.Prelude.{ℕ, ◌+◌, if◌then◌else◌, List, [], ◌∷◌, length, drop, slice_get, Option, None, Some}
use Rattle.elem.specs.declared.elements.Elem.{Elem}
use Rattle.vocabulary.specs.declared.calls.OnValues.{OnValues}
use Rattle.vocabulary.specs.declared.calls.OnValues.TheVariants.{PutValues, ReplaceValues}
use Rattle.vocabulary.specs.declared.edits.Spot.TheVariants.{Own, Before, Instead}
use Rattle.vocabulary.specs.declared.items.Item.{Item}
use Rattle.vocabulary.specs.declared.kinds.Kind.{Kind}
use Rattle.vocabulary.specs.declared.kinds.Kind.TheVariants.{LinkedListMultimap, LinkedArrayListMultimap}
use Rattle.machine.specs.Answers.{pairs_with}
use Rattle.machine.specs.Bases.{World}
use Rattle.machine.specs.CallEdits.{all_hits, rows_for}
use Rattle.machine.specs.Edits.{Coming, Edit, adding, coming}
use Rattle.machine.specs.Leaves.{leaf_at}
use Rattle.machine.specs.Placing.{numbers_of}
use Rattle.machine.specs.Shown.{has_key, is_empty}
use Rattle.machine.specs.Views.{View, base, candidates}

-- ---- on a base: the rows of the key have these numbers

-- new pairs in the place of the old as far as both go, and then last
abbrev pub overwriting : List ℕ → List Item → List Coming
overwriting numbers [] = []
overwriting [] (pair ∷ pairs) = (Own, pair) ∷ overwriting [] pairs
overwriting (n ∷ numbers) (pair ∷ pairs) = (Instead n, pair) ∷ overwriting numbers pairs

-- new pairs from a number on, or where they go by themselves
abbrev pub coming_from : ℕ → List Item → List Coming
coming_from n [] = []
coming_from n (pair ∷ pairs) = (Before n, pair) ∷ coming_from (n + 1) pairs

abbrev pub coming_at : Option ℕ → List Item → List Coming
coming_at None pairs = coming Own pairs
coming_at (Some n) pairs = coming_from n pairs

-- a flat list multimap overwrites its pairs; a grouped one exchanges the group in its place; in the others the key
-- keeps its place in the order of the keys, where new pairs come
abbrev pub exchange : Kind → Elem → List ℕ → List Item → Edit
exchange LinkedListMultimap k numbers pairs = record { gone = drop (length pairs) numbers; held = []; added = overwriting numbers pairs }
exchange LinkedArrayListMultimap k numbers pairs = record { gone = numbers; held = []; added = coming_at (slice_get numbers 0) pairs }
exchange kind k numbers pairs = record { gone = numbers; held = if is_empty pairs then [] else k ∷ []; added = coming Own pairs }

-- ---- on any view

-- through a step the pairs shown of the key go, and then the new ones are put
abbrev pub replacing : World → View → Elem → List Item → Edit
replacing world (base l) k pairs = exchange (leaf_at world l).kind k (numbers_of k 0 (leaf_at world l).rows) pairs
replacing world v k pairs = record { gone = all_hits (has_key k) (candidates world v); held = []; added = coming Own (rows_for v pairs) }

-- what a call with a key and another view does, which shows the others
abbrev pub edit_for : World → View → OnValues → Elem → List Item → Edit
edit_for world v PutValues k others = adding Own (rows_for v (pairs_with k others))
edit_for world v ReplaceValues k others = replacing world v k (pairs_with k others)
