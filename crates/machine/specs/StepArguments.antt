-- Steps as a line asks for them, with the arguments that its texts are.
use Rattle.std.specs.Prelude.{ℕ, List, Option, None, Some, Result, Ok}
use Rattle.std.specs.Option.{option_map, option_and_then}
use Rattle.elem.specs.declared.spans.Span.{Span}
use Rattle.elem.specs.Spelling.{elem_of}
use Rattle.fn_lang.specs.declared.names.Sort.TheVariants as sorts
use Rattle.fn_lang.specs.PartTrees.{pred_of, pair_of, func_of}
use Rattle.fn_lang.specs.Reading.{reading}
use Rattle.vocabulary.specs.declared.leaves.LeafForm.{LeafForm}
use Rattle.vocabulary.specs.declared.leaves.LeafForm.TheVariants as form_at
use Rattle.vocabulary.specs.declared.leaves.LeafStep.{LeafStep}
use Rattle.vocabulary.specs.declared.leaves.LeafStep.TheVariants as leaf
use Rattle.vocabulary.specs.declared.orders.Order.TheVariants.{Natural}
use Rattle.vocabulary.specs.declared.refusals.Refusal.{Refusal}
use Rattle.vocabulary.specs.declared.steps.Step.{Step}
use Rattle.vocabulary.specs.declared.steps.Step.TheVariants as step
use Rattle.vocabulary.specs.declared.steps.StepForm.{StepForm}
use Rattle.vocabulary.specs.declared.steps.StepForm.TheVariants as form
use Rattle.machine.specs.Arguments.{by_range, by_whole_range, index_in, of_parts}
use Rattle.machine.specs.Making.{Asked, at_leaf, by, member, partition, piece, sublist}

-- the step that shows what lies in a range
abbrev pub within : Span → Step
within range = step.Within Natural (record { lo = range.lo; hi = range.hi })

-- a step at the foot of a path, which nothing refuses yet
abbrev pub plain_leaf : LeafStep → Option (Result Asked Refusal)
plain_leaf step = Some (Ok (at_leaf step))

-- a step at the foot of a path with the argument that a text is
abbrev pub leaf_asked : LeafForm → List ℕ → Option (Result Asked Refusal)
leaf_asked form_at.Complement text = plain_leaf leaf.Complement
leaf_asked form_at.Part text = by_whole_range (λ range. at_leaf (leaf.Part range)) text
leaf_asked form_at.Ranges text = plain_leaf leaf.Ranges
leaf_asked form_at.Nodes text = plain_leaf leaf.Nodes
leaf_asked form_at.Edges text = plain_leaf leaf.Edges
leaf_asked form_at.Transpose text = plain_leaf leaf.Transpose
leaf_asked (form_at.Near word) text = option_map (λ a. Ok (at_leaf (leaf.Near word a))) (elem_of text)
leaf_asked form_at.Lock text = plain_leaf leaf.Lock

-- a step with the arguments that two texts are, or the refusal of an argument, where each fits its kind; a step over two
-- views takes a name in place of a text
abbrev pub step_asked : StepForm → List ℕ → List ℕ → Option (Result Asked Refusal)
step_asked (form.Plain word) a b = Some (Ok (by (step.Plain word)))
step_asked (form.Filter word) a b = of_parts (λ parts. by (step.Filter word (pred_of parts))) (reading sorts.Pred a)
step_asked form.FilterPairs a b = of_parts (λ parts. by (step.FilterPairs (pair_of parts))) (reading sorts.PairPred a)
step_asked (form.Change word) a b = of_parts (λ parts. by (step.Change word (func_of parts))) (reading sorts.Func a)
step_asked form.Within a b = by_range (λ range. by (within range)) a
step_asked (form.At side) a b = option_map (λ k. Ok (by (step.At side k 0))) (elem_of a)
step_asked form.Member a b = option_map (λ k. Ok (member k)) (elem_of a)
step_asked (form.Group side made) a b = Some (Ok (by (step.Group side made)))
step_asked (form.Join word) a b = None
step_asked form.Sub a b = option_and_then (λ i. option_map (λ j. Ok (sublist i j)) (index_in b)) (index_in a)
step_asked form.Partition a b = option_map (λ n. Ok (partition n)) (index_in a)
step_asked form.Piece a b = option_map (λ i. Ok (piece i)) (index_in a)
step_asked (form.Leaf word) a b = leaf_asked word a
