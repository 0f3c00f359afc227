-- What an iterator that is not stale answers.
use Rattle.std.proofs.Common.{◌≡◌, ℕ, true, false, cond, ◌&&◌, nat_eq, List, [], ◌∷◌, refl, ap, ◌∙◌, arith}
use Rattle.std.specs.Prelude.{Option, None, Some, Result, Ok, Err, is_some}
use Rattle.std.specs.Cmp.Lexicographic.{pointwise}
use Rattle.std.proofs.lemmas.Bool.Decides.{nat_tests}
use Rattle.view_laws.proofs.ListLemmas.{both_true}
use Rattle.machine.specs.Answering.{unless_refused}
use Rattle.machine.specs.Bases.{World}
use Rattle.machine.specs.Iterators.{Iterator, ahead, has_next, is_passed_by, next_of, passed_on, passed_refusal}
use Rattle.vocabulary.specs.declared.items.Item.{Item}
use Rattle.vocabulary.specs.declared.refusals.Refusal.{Refusal}
use Rattle.vocabulary.specs.declared.refusals.Refusal.TheVariants.{ConcurrentModification}

pub stale_is : {X : Type 0} (world : World) (it : Iterator) (r : Result X Refusal) → is_passed_by world it ≡ true → unless_refused (passed_refusal world it) r ≡ Err ConcurrentModification
stale_is world it r h = ap (λ b. unless_refused (cond b (Some ConcurrentModification) None) r) h

pub fresh_is : {X : Type 0} (world : World) (it : Iterator) (r : Result X Refusal) → is_passed_by world it ≡ false → unless_refused (passed_refusal world it) r ≡ r
fresh_is world it r h = ap (λ b. unless_refused (cond b (Some ConcurrentModification) None) r) h

pub has_more : (world : World) (it : Iterator) (o : Option (ℕ × Item)) → is_passed_by world it ≡ false → ahead world it ≡ o → has_next world it ≡ Ok (is_some o)
has_more world it o fresh first = fresh_is world it (Ok (is_some (ahead world it))) fresh ∙ ap (λ (x : Option (ℕ × Item)). Ok (is_some x)) first

pub next_is : (world : World) (it : Iterator) (o : Option (ℕ × Item)) → is_passed_by world it ≡ false → ahead world it ≡ o → next_of world it ≡ passed_on it o
next_is world it o fresh first = fresh_is world it (passed_on it (ahead world it)) fresh ∙ ap (passed_on it) first

-- ---- change numbers

same_number : (n : ℕ) → nat_eq n n ≡ true
same_number n = grind (arith, nat_tests)

pub same_numbers : (ns : List ℕ) → pointwise nat_eq ns ns ≡ true
same_numbers [] = refl
same_numbers (n ∷ ns) = ap (λ b. b && pointwise nat_eq ns ns) (same_number n) ∙ same_numbers ns

pub numbers_are : (ms ns : List ℕ) → pointwise nat_eq ms ns ≡ true → ms ≡ ns
numbers_are [] [] h = refl
numbers_are [] (n ∷ ns) h = absurd (cc)
numbers_are (m ∷ ms) [] h = absurd (cc)
numbers_are (m ∷ ms) (n ∷ ns) h =
    let parts = both_true (nat_eq m n) (pointwise nat_eq ms ns) h in
    let first : m ≡ n = grind (arith, nat_tests, parts.0) in
    λ i. first i ∷ numbers_are ms ns parts.1 i
