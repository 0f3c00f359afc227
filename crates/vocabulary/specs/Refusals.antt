-- The printed words of refusals.
use Rattle.std.specs.Prelude.{ℕ, List, [], codes}
use Rattle.vocabulary.specs.declared.refusals.Refusal.{Refusal}
use Rattle.vocabulary.specs.declared.refusals.Refusal.TheVariants.{ConcurrentModification, IllegalState, IndexOutOfBounds, NoSuchElement, UnsupportedOperation, IllegalArgument, Limit, NoMemory}

-- an exception by its whole name; want of memory is never printed
abbrev pub name_of : Refusal → List ℕ
name_of ConcurrentModification = codes "ConcurrentModificationException"
name_of IllegalState = codes "IllegalStateException"
name_of IndexOutOfBounds = codes "IndexOutOfBoundsException"
name_of NoSuchElement = codes "NoSuchElementException"
name_of UnsupportedOperation = codes "UnsupportedOperationException"
name_of IllegalArgument = codes "IllegalArgumentException"
name_of Limit = codes "?limit"
name_of NoMemory = []
