-- The steps that nodes keep: which step each is, by a table in which the parts of predicates and functions stand.
use Rattle.std.specs.Prelude.{ℕ, ◌+◌, ◌-◌, ◌*◌, ◌≤◌, List, [], ◌∷◌, ◌++◌, drop, length, map, take}
use Rattle.fn_lang.specs.declared.parts.Part.{Part}
use Rattle.fn_lang.specs.Flat.{IsFunc, IsPairPred, IsPred}
use Rattle.fn_lang.specs.PartTrees.{func_of, pair_of, pred_of}
use Rattle.fn_lang.specs.Trees.{func_parts, pair_parts, pred_parts}
use Rattle.base_store.specs.declared.store.Made.{Made}
use Rattle.base_store.specs.declared.store.Made.TheVariants as made
use Rattle.base_store.specs.declared.store.facts.Facts.{Facts}
use Rattle.base_store.specs.declared.store.kept.Kept.{Kept}
use Rattle.base_store.specs.declared.store.kept.KeptMade.{KeptMade}
use Rattle.base_store.specs.declared.store.kept.KeptMade.TheVariants as node
use Rattle.base_store.specs.declared.store.kept.KeptStep.{KeptStep}
use Rattle.base_store.specs.declared.store.kept.KeptStep.TheVariants as kept
use Rattle.base_store.specs.declared.store.kept.Run.{Run}
use Rattle.base_store.specs.NodeLists.{NodeList}
use Rattle.vocabulary.specs.declared.steps.Step.{Step}
use Rattle.vocabulary.specs.declared.steps.Step.TheVariants as step

-- the parts of a run, in a table whose first part has the number `from`
abbrev pub run_in : ℕ → List Part → Run → List Part
run_in from parts r = take r.len (drop (r.start - from) parts)

-- the step that is kept
abbrev pub step_in : ℕ → List Part → KeptStep → Step
step_in from parts (kept.Plain word) = step.Plain word
step_in from parts (kept.Filter word r) = step.Filter word (pred_of (run_in from parts r))
step_in from parts (kept.FilterPairs r) = step.FilterPairs (pair_of (run_in from parts r))
step_in from parts (kept.Change word r) = step.Change word (func_of (run_in from parts r))
step_in from parts (kept.Within order window) = step.Within order window

abbrev pub made_by : ℕ → List Part → KeptMade → Made
made_by from parts (node.Base b) = made.Base b
made_by from parts (node.Over step parent) = made.Over (step_in from parts step) parent

-- how a node was made
abbrev pub made_in : ℕ → List Part → Kept → Made
made_in from parts node = made_by from parts node.made

abbrev pub facts_in : Kept → Facts
facts_in node = node.facts

-- a run lies in the table, and its parts are those of a tree
pub record StandsAs (is_tree : List Part → Type 0) (from : ℕ) (parts : List Part) (r : Run) : Type 0 where
  pub behind : from ≤ r.start
  pub within : r.start + r.len ≤ from + length parts
  pub few : r.len ≤ 64
  pub tree : is_tree (run_in from parts r)

-- the run of a step lies in the table
abbrev pub StandsIn : ℕ → List Part → KeptStep → Type 0
StandsIn from parts (kept.Plain word) = Unit {0}
StandsIn from parts (kept.Filter word r) = StandsAs IsPred from parts r
StandsIn from parts (kept.FilterPairs r) = StandsAs IsPairPred from parts r
StandsIn from parts (kept.Change word r) = StandsAs IsFunc from parts r
StandsIn from parts (kept.Within order window) = Unit {0}

abbrev pub MadeStands : ℕ → List Part → KeptMade → Type 0
MadeStands from parts (node.Base b) = Unit {0}
MadeStands from parts (node.Over step parent) = StandsIn from parts step

-- the runs of all nodes lie in the table
abbrev pub AllStand : ℕ → List Part → List Kept → Type 0
AllStand from parts [] = Unit {0}
AllStand from parts (node ∷ nodes) = MadeStands from parts node.made × AllStand from parts nodes

-- the table of the lasting nodes, and behind it that of the temporary ones, with at most 64 parts for each
pub record AreTabled (parts temporary_parts : List Part) (lasting temporary : List Kept) : Type 0 where
  pub lasting_stand : AllStand 0 parts lasting
  pub temporary_stand : AllStand (length parts) temporary_parts temporary
  pub few : length temporary_parts ≤ 64 * length temporary

-- the parts of a step's predicate or function
abbrev pub parts_of : Step → List Part
parts_of (step.Filter word p) = pred_parts p
parts_of (step.FilterPairs q) = pair_parts q
parts_of (step.Change word f) = func_parts f
parts_of other = []

-- all nodes, by the two tables
abbrev pub listed : List Part → List Part → List Kept → List Kept → NodeList
listed parts temporary_parts lasting temporary = record {
  made = map (made_in 0 parts) lasting ++ map (made_in (length parts) temporary_parts) temporary;
  facts = map facts_in lasting ++ map facts_in temporary;
  lasting = length lasting;
}
