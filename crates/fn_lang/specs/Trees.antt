-- Predicates and functions as trees, and their lists of parts.
use Rattle.std.specs.Prelude.{List, [], ◌∷◌, ◌++◌, Option, Some, None}
use Rattle.fn_lang.specs.declared.leaves.Test.{Test}
use Rattle.fn_lang.specs.declared.leaves.Map.{Map}
use Rattle.fn_lang.specs.declared.parts.Part.{Part}
use Rattle.fn_lang.specs.declared.parts.Part.TheVariants as parts

-- a predicate on elements
pub data PredTree : Type 0 where
  One : Test → PredTree
  And : PredTree → PredTree → PredTree
  Or : PredTree → PredTree → PredTree
  Not : PredTree → PredTree

-- a predicate on pairs of a key and a value
pub data PairTree : Type 0 where
  OfKey : PredTree → PairTree
  OfValue : PredTree → PairTree
  Both : PairTree → PairTree → PairTree
  Either : PairTree → PairTree → PairTree
  Neither : PairTree → PairTree

-- a function on elements
pub data FuncTree : Type 0 where
  Leaf : Map → FuncTree
  Then : FuncTree → FuncTree → FuncTree
  When : PredTree → FuncTree → FuncTree → FuncTree

-- ---- the parts, each name before what is in its brackets

abbrev pub pred_parts : PredTree → List Part
pred_parts (One t) = parts.Test t ∷ []
pred_parts (And p q) = parts.And ∷ (pred_parts p ++ pred_parts q)
pred_parts (Or p q) = parts.Or ∷ (pred_parts p ++ pred_parts q)
pred_parts (Not p) = parts.Not ∷ pred_parts p

abbrev pub pair_parts : PairTree → List Part
pair_parts (OfKey p) = parts.Key ∷ pred_parts p
pair_parts (OfValue p) = parts.Value ∷ pred_parts p
pair_parts (Both p q) = parts.And ∷ (pair_parts p ++ pair_parts q)
pair_parts (Either p q) = parts.Or ∷ (pair_parts p ++ pair_parts q)
pair_parts (Neither p) = parts.Not ∷ pair_parts p

abbrev pub func_parts : FuncTree → List Part
func_parts (Leaf m) = parts.Map m ∷ []
func_parts (Then f g) = parts.Then ∷ (func_parts f ++ func_parts g)
func_parts (When p f g) = parts.When ∷ (pred_parts p ++ (func_parts f ++ func_parts g))

unfoldable pub uncons : List Part → Option (Part × List Part)
uncons [] = None
uncons (p ∷ ps) = Some (p, ps)
