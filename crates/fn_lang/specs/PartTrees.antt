-- The trees that a list of parts is, read from its end, and the codes of trees.
use Rattle.std.proofs.Common.{◌≡◌, List, [], ◌∷◌, ◌++◌, refl, sym, ap, ◌∙◌, append_assoc}
use Rattle.std.proofs.lemmas.List.{append-nil}
use Rattle.std.specs.Coded.{Coded, code_by, coded_list}
use Rattle.fn_lang.specs.contracts.parts.Part as part_contract
use Rattle.fn_lang.specs.declared.leaves.Test.TheVariants as tests
use Rattle.fn_lang.specs.declared.leaves.Map.TheVariants as maps
use Rattle.fn_lang.specs.declared.parts.Part.{Part}
use Rattle.fn_lang.specs.declared.parts.Part.TheVariants as parts
use Rattle.fn_lang.specs.Trees.{PredTree, One, And, Or, Not, PairTree, OfKey, OfValue, Both, Either, Neither, FuncTree, Leaf, Then, When, pred_parts, pair_parts, func_parts}

-- a tree of any sort
pub data Tree : Type 0 where
  pred : PredTree → Tree
  pair : PairTree → Tree
  func : FuncTree → Tree

-- a part put on top of the trees behind it
abbrev pub rooted : Part → List Tree → List Tree
rooted (parts.Test t) trees = pred (One t) ∷ trees
rooted (parts.Map m) trees = func (Leaf m) ∷ trees
rooted parts.And (pred p ∷ pred q ∷ trees) = pred (And p q) ∷ trees
rooted parts.And (pair p ∷ pair q ∷ trees) = pair (Both p q) ∷ trees
rooted parts.Or (pred p ∷ pred q ∷ trees) = pred (Or p q) ∷ trees
rooted parts.Or (pair p ∷ pair q ∷ trees) = pair (Either p q) ∷ trees
rooted parts.Not (pred p ∷ trees) = pred (Not p) ∷ trees
rooted parts.Not (pair p ∷ trees) = pair (Neither p) ∷ trees
rooted parts.Key (pred p ∷ trees) = pair (OfKey p) ∷ trees
rooted parts.Value (pred p ∷ trees) = pair (OfValue p) ∷ trees
rooted parts.Then (func f ∷ func g ∷ trees) = func (Then f g) ∷ trees
rooted parts.When (pred p ∷ func f ∷ func g ∷ trees) = func (When p f g) ∷ trees
rooted part trees = trees

-- the trees that stand one behind another in a list of parts
abbrev pub trees_of : List Part → List Tree
trees_of [] = []
trees_of (part ∷ behind) = rooted part (trees_of behind)

abbrev pub first_pred : List Tree → PredTree
first_pred (pred p ∷ trees) = p
first_pred trees = One tests.Any

abbrev pub first_pair : List Tree → PairTree
first_pair (pair p ∷ trees) = p
first_pair trees = OfKey (One tests.Any)

abbrev pub first_func : List Tree → FuncTree
first_func (func f ∷ trees) = f
first_func trees = Leaf maps.Negate

-- the tree that the parts are, where they are those of a tree of the sort
abbrev pub pred_of : List Part → PredTree
pred_of ps = first_pred (trees_of ps)

abbrev pub pair_of : List Part → PairTree
pair_of ps = first_pair (trees_of ps)

abbrev pub func_of : List Part → FuncTree
func_of ps = first_func (trees_of ps)

-- ---- a tree is read from its parts

pub trees-pred : (p : PredTree) (behind : List Part) → trees_of (pred_parts p ++ behind) ≡ pred p ∷ trees_of behind
trees-pred (One t) behind = refl
trees-pred (And p q) behind = rw (append_assoc (pred_parts p) (pred_parts q) behind, trees-pred p (pred_parts q ++ behind), trees-pred q behind) refl
trees-pred (Or p q) behind = rw (append_assoc (pred_parts p) (pred_parts q) behind, trees-pred p (pred_parts q ++ behind), trees-pred q behind) refl
trees-pred (Not p) behind = rw (trees-pred p behind) refl

pub trees-pair : (p : PairTree) (behind : List Part) → trees_of (pair_parts p ++ behind) ≡ pair p ∷ trees_of behind
trees-pair (OfKey p) behind = rw (trees-pred p behind) refl
trees-pair (OfValue p) behind = rw (trees-pred p behind) refl
trees-pair (Both p q) behind = rw (append_assoc (pair_parts p) (pair_parts q) behind, trees-pair p (pair_parts q ++ behind), trees-pair q behind) refl
trees-pair (Either p q) behind = rw (append_assoc (pair_parts p) (pair_parts q) behind, trees-pair p (pair_parts q ++ behind), trees-pair q behind) refl
trees-pair (Neither p) behind = rw (trees-pair p behind) refl

pub trees-func : (f : FuncTree) (behind : List Part) → trees_of (func_parts f ++ behind) ≡ func f ∷ trees_of behind
trees-func (Leaf m) behind = refl
trees-func (Then f g) behind = rw (append_assoc (func_parts f) (func_parts g) behind, trees-func f (func_parts g ++ behind), trees-func g behind) refl
trees-func (When p f g) behind =
    rw (append_assoc (pred_parts p) (func_parts f ++ func_parts g) behind, append_assoc (func_parts f) (func_parts g) behind, trees-pred p (func_parts f ++ (func_parts g ++ behind)), trees-func f (func_parts g ++ behind), trees-func g behind) refl

pub pred_of-parts : (p : PredTree) → pred_of (pred_parts p) ≡ p
pred_of-parts p = ap first_pred (ap trees_of (sym (append-nil (pred_parts p))) ∙ trees-pred p [])

pub pair_of-parts : (p : PairTree) → pair_of (pair_parts p) ≡ p
pair_of-parts p = ap first_pair (ap trees_of (sym (append-nil (pair_parts p))) ∙ trees-pair p [])

pub func_of-parts : (f : FuncTree) → func_of (func_parts f) ≡ f
func_of-parts f = ap first_func (ap trees_of (sym (append-nil (func_parts f))) ∙ trees-func f [])

-- ---- codes

abbrev pub parts_code : Coded (List Part)
parts_code = coded_list part_contract.the_row.coded

abbrev pub pred_code : Coded PredTree
pred_code = code_by (List Part) parts_code pred_parts pred_of pred_of-parts

abbrev pub pair_code : Coded PairTree
pair_code = code_by (List Part) parts_code pair_parts pair_of pair_of-parts

abbrev pub func_code : Coded FuncTree
func_code = code_by (List Part) parts_code func_parts func_of func_of-parts
