-- Tests of indexes.
use Rattle.std.proofs.Common.{◌≡◌, ℕ, ◌<◌, ◌≤◌, true, false, cond, List, length, Some, None, sym, ap, arith, nat_lt, nat_le}
use Rattle.std.specs.Prelude.{slice_get}
use Rattle.std.proofs.lemmas.Option.{slice_get_within}
use Rattle.std.proofs.lemmas.Bool.Decides.{nat_tests}
use Rattle.vocabulary.specs.declared.items.Item.{Item}
use Rattle.vocabulary.specs.declared.refusals.Refusal.TheVariants.{IndexOutOfBounds}
use Rattle.machine.specs.CallRefusals.{index_refusal}

pub gap_refused : (items : List Item) (i : ℕ) → length items < i → index_refusal (λ n. nat_le n (length items)) (Some i) ≡ Some IndexOutOfBounds
gap_refused items i h = let e : nat_le i (length items) ≡ false = grind (arith, nat_tests) in ap (λ b. cond b None (Some IndexOutOfBounds)) e

pub gap_given : (items : List Item) (i : ℕ) → i ≤ length items → index_refusal (λ n. nat_le n (length items)) (Some i) ≡ None
gap_given items i h = let e : nat_le i (length items) ≡ true = grind (arith, nat_tests) in ap (λ b. cond b None (Some IndexOutOfBounds)) e

pub index_given : (items : List Item) (i : ℕ) (item : Item) → Some item ≡ slice_get items i → (i < length items) × (index_refusal (λ n. nat_lt n (length items)) (Some i) ≡ None)
index_given items i item h =
    let lt : i < length items = slice_get_within items i item (sym h) in
    let e : nat_lt i (length items) ≡ true = grind (arith, nat_tests) in
    (lt, ap (λ b. cond b None (Some IndexOutOfBounds)) e)
