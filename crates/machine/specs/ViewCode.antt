-- How one view is told from another: by its parts, each behind the views that it stands over.
use Rattle.std.specs.Prelude.{◌≡◌, ◌⊎◌, ℕ, List, [], ◌∷◌, ◌++◌, get_or, refl}
use denote.Signature.{static_lft}
use Rattle.std.specs.Coded.{Coded, code_by, coded⊎, coded_ℕ, coded_list, coded×}
use Rattle.std.specs.List.{fold}
use Rattle.std.proofs.Common.{ap, ◌∙◌, inl, inr}
use Rattle.std.proofs.lemmas.List.Sums.{fold-append}
use Rattle.vocabulary.specs.contracts.leaves.LeafStep as leaf_contract
use Rattle.vocabulary.specs.contracts.steps.JoinStep as join_contract
use Rattle.vocabulary.specs.contracts.steps.Step as step_contract
use Rattle.vocabulary.specs.declared.steps.JoinStep.{JoinStep}
use Rattle.vocabulary.specs.declared.steps.Step.{Step}
use Rattle.vocabulary.specs.declared.leaves.LeafStep.{LeafStep}
use Rattle.machine.specs.Leaves.{stored}
use Rattle.machine.specs.Views.{View, base, both, over}

-- a base, a step over the view before it, or a step over the two views before it
abbrev pub Part : Type 0
Part = (ℕ × List LeafStep) ⊎ (Step ⊎ JoinStep)

abbrev pub parts_of : View → List Part
parts_of (base l) = inl (l.number, l.steps) ∷ []
parts_of (over step v) = parts_of v ++ inr (inl step) ∷ []
parts_of (both word v u) = parts_of v ++ (parts_of u ++ inr (inr word) ∷ [])

-- the views that are made so far, the last one first, after a part
abbrev pub after_part : List View → Part → List View
after_part vs (inl l) = base (record { number = l.0; steps = l.1 }) ∷ vs
after_part (v ∷ vs) (inr (inl step)) = over step v ∷ vs
after_part (u ∷ v ∷ vs) (inr (inr word)) = both word v u ∷ vs
after_part vs part = vs

abbrev pub view_of : List Part → View
view_of parts = get_or (fold after_part [] parts) 0 (base (stored 0))

parts_back : (v : View) (vs : List View) → fold after_part vs (parts_of v) ≡ v ∷ vs
parts_back (base l) vs = refl
parts_back (over step v) vs = fold-append after_part vs (parts_of v) (inr (inl step) ∷ []) ∙ ap (λ us. fold after_part us (inr (inl step) ∷ [])) (parts_back v vs)
parts_back (both word v u) vs =
    fold-append after_part vs (parts_of v) (parts_of u ++ inr (inr word) ∷ []) ∙ ap (λ us. fold after_part us (parts_of u ++ inr (inr word) ∷ [])) (parts_back v vs)
    ∙ fold-append after_part (v ∷ vs) (parts_of u) (inr (inr word) ∷ []) ∙ ap (λ us. fold after_part us (inr (inr word) ∷ [])) (parts_back u (v ∷ vs))

pub parts_whole : (v : View) → view_of (parts_of v) ≡ v
parts_whole v = ap (λ us. get_or us 0 (base (stored 0))) (parts_back v [])

abbrev pub view_code : Coded View
view_code = code_by (List Part) (coded_list (coded⊎ (coded× coded_ℕ (coded_list leaf_contract.the_row.coded)) (coded⊎ (step_contract.the_row static_lft).coded join_contract.the_row.coded))) parts_of view_of parts_whole
