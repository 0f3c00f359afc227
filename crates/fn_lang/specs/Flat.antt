-- Lists of parts that are those of a tree, each name before what stands in its brackets.
use Rattle.std.specs.Prelude.{◌≡◌, List}
use Rattle.std.proofs.Common.{ap}
use Rattle.fn_lang.specs.declared.leaves.Test.TheVariants as tests
use Rattle.fn_lang.specs.declared.parts.Part.{Part}
use Rattle.fn_lang.specs.declared.parts.Part.TheVariants as parts
use Rattle.fn_lang.specs.declared.names.Sort.{Sort}
use Rattle.fn_lang.specs.declared.names.Sort.TheVariants as sorts
use Rattle.fn_lang.specs.Trees.{PredTree, PairTree, FuncTree, pred_parts, pair_parts, func_parts}
use Rattle.fn_lang.specs.PartTrees.{pred_of, pair_of, func_of, pred_of-parts, pair_of-parts, func_of-parts}

-- the part that stands for none
abbrev pub blank : Part
blank = parts.Test tests.Any

-- the parts are those of a tree
abbrev pub IsPred : List Part → Type 0
IsPred ps = (p : PredTree) × (ps ≡ pred_parts p)

abbrev pub IsPairPred : List Part → Type 0
IsPairPred ps = (p : PairTree) × (ps ≡ pair_parts p)

abbrev pub IsFunc : List Part → Type 0
IsFunc ps = (f : FuncTree) × (ps ≡ func_parts f)

-- the parts are those of a tree of the sort
abbrev pub IsSort : Sort → List Part → Type 0
IsSort sorts.Pred ps = IsPred ps
IsSort sorts.PairPred ps = IsPairPred ps
IsSort sorts.Func ps = IsFunc ps

-- the parts are those of the tree that they are read as
pub pred_whole : (ps : List Part) → IsPred ps → pred_parts (pred_of ps) ≡ ps
pred_whole ps (p, e) = rw e (ap pred_parts (pred_of-parts p))

pub pair_whole : (ps : List Part) → IsPairPred ps → pair_parts (pair_of ps) ≡ ps
pair_whole ps (p, e) = rw e (ap pair_parts (pair_of-parts p))

pub func_whole : (ps : List Part) → IsFunc ps → func_parts (func_of ps) ≡ ps
func_whole ps (f, e) = rw e (ap func_parts (func_of-parts f))
