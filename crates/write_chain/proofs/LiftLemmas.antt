-- What a call answers that adds items, and where its argument is refused.
use Rattle.std.proofs.Common.{◌≡◌, true, cond, List, Option, Some, None, ap, ◌∙◌}
use Rattle.std.specs.Prelude.{Err, not}
use Rattle.vocabulary.specs.declared.answers.Answer.{Answer}
use Rattle.vocabulary.specs.declared.items.Item.{Item}
use Rattle.vocabulary.specs.declared.refusals.Refusal.{Refusal}
use Rattle.vocabulary.specs.declared.refusals.Refusal.TheVariants.{UnsupportedOperation}
use Rattle.machine.specs.Answering.{unless_refused}
use Rattle.machine.specs.CallRefusals.{lift_refusal}
use Rattle.machine.specs.Edits.{Edit}
use Rattle.machine.specs.Reading.{first_refusal}
use Rattle.machine.specs.Bases.{World}
use Rattle.machine.specs.Views.{View, flags_at}
use Rattle.write_chain.specs.Calls.{left}

-- ---- adding to a view that allows it

-- what an adding call answers, where the view allows it and the argument is in order
pub adding_allowed : (world : World) (v : View) (test : Option Refusal) (items : List Item) (edit : Edit) (answer : Answer) → (flags_at world v).add ≡ true → test ≡ None
    → unless_refused (first_refusal (cond (not (flags_at world v).add) (Some UnsupportedOperation) None) (first_refusal test (lift_refusal v items))) (left world v answer (Some edit))
    ≡ unless_refused (lift_refusal v items) (left world v answer (Some edit))
adding_allowed world v test items edit answer ok none =
    ap (λ b. unless_refused (first_refusal (cond (not b) (Some UnsupportedOperation) None) (first_refusal test (lift_refusal v items))) (left world v answer (Some edit))) ok
    ∙ ap (λ t. unless_refused (first_refusal t (lift_refusal v items)) (left world v answer (Some edit))) none

-- and where the argument is refused
pub adding_refused : (world : World) (v : View) (test : Option Refusal) (why : Refusal) (items : List Item) (edit : Edit) (answer : Answer) → (flags_at world v).add ≡ true → test ≡ Some why
    → unless_refused (first_refusal (cond (not (flags_at world v).add) (Some UnsupportedOperation) None) (first_refusal test (lift_refusal v items))) (left world v answer (Some edit))
    ≡ Err why
adding_refused world v test why items edit answer ok some =
    ap (λ b. unless_refused (first_refusal (cond (not b) (Some UnsupportedOperation) None) (first_refusal test (lift_refusal v items))) (left world v answer (Some edit))) ok
    ∙ ap (λ t. unless_refused (first_refusal t (lift_refusal v items)) (left world v answer (Some edit))) some
