-- What known shapes have nothing of, and what stands last.
use Rattle.std.proofs.Common.{◌≡◌, ℕ, true, List, [], ◌∷◌, length, reverse, refl}
use Rattle.std.specs.Prelude.{Ok, slice_get}
use Rattle.std.proofs.lemmas.List.{length-reverse}
use Rattle.vocabulary.specs.declared.calls.OnElement.TheVariants.{ContainsKey}
use Rattle.vocabulary.specs.declared.items.Item.{Item}
use Rattle.vocabulary.specs.declared.shapes.RowSort.TheVariants as rows
use Rattle.vocabulary.specs.declared.shapes.Shape.{Shape}
use Rattle.vocabulary.specs.declared.shapes.Shape.TheVariants as shape
use Rattle.vocabulary.specs.Fits.{fits_element}
use Rattle.vocabulary.specs.Shapes.{is_keyed}
use Rattle.machine.specs.Answering.{unless_refused}
use Rattle.machine.specs.Answers.{element_of, size_of}
use Rattle.machine.specs.CallRefusals.{empty_refusal}
use Rattle.machine.specs.Shown.{last_shown}
use Rattle.read_chain.specs.Reads.{element_told}
use Rattle.view_steps.proofs.KnownLemmas.{is_known_shape}

-- what has keys among known shapes is a map or a bimap
pub has_key_shape : (of : Shape) → is_known_shape of ≡ true → fits_element of ContainsKey ≡ true → is_keyed of ≡ true
has_key_shape (shape.Map sorted) known fits = refl
has_key_shape shape.BiMap known fits = refl
has_key_shape (shape.Set sorted) known fits = refl
has_key_shape (shape.Rows rows.Entry) known fits = refl
has_key_shape shape.List known fits = absurd (cc)
has_key_shape shape.Coll known fits = absurd (cc)
has_key_shape _ known fits = absurd (cc)

-- and all of it is counted
pub counts_all : (of : Shape) (n : ℕ) → is_known_shape of ≡ true → n ≡ size_of of n
counts_all (shape.Bag sorted) n known = absurd (cc)
counts_all _ n known = refl

pub last_told : (items : List Item) → element_told (last_shown items) ≡ unless_refused (empty_refusal items) (Ok (element_of (last_shown items)))
last_told [] = refl
last_told (item ∷ items) = by (reverse (item ∷ items)) (length-reverse (item ∷ items))
  where
    by : (turned : List Item) → length turned ≡ length (item ∷ items) → element_told (slice_get turned 0) ≡ Ok (element_of (slice_get turned 0))
    by [] e = absurd (cc)
    by (x ∷ xs) e = refl
