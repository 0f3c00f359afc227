-- The words of an iterator, which stand alone behind its name.
use Rattle.std.specs.Prelude.{ℕ, nat_eq, Bool, false, List, [], ◌∷◌, length, Option, None, Some, Result, Ok, Err, codes, if◌then◌else◌}
use Rattle.std.specs.Cmp.Lexicographic.{pointwise}
use Rattle.vocabulary.specs.declared.items.Item.{Item}
use Rattle.vocabulary.specs.declared.lines.Fault.TheVariants as fault
use Rattle.vocabulary.specs.declared.lines.OnIterator.{OnIterator}
use Rattle.vocabulary.specs.declared.lines.OnIterator.TheVariants.{HasNext, Next, Remove}
use Rattle.vocabulary.specs.declared.refusals.Refusal.{Refusal}
use Rattle.machine.specs.Bases.{World}
use Rattle.machine.specs.Iterators.{Iterator, has_next, next_of, removed}
use Rattle.machine.specs.Outcomes.{Outcome, faulted, refused_by, says}
use Rattle.machine.specs.Parts.{Part}
use Rattle.machine.specs.State.{State, bound, to_iterator, written_through}
use Rattle.machine.specs.Texts.{truth_text}
use Rattle.machine.specs.ViewTexts.{text_of_item}

abbrev pub word_of : List ℕ → Option OnIterator
word_of word =
    if pointwise nat_eq word (codes "hasNext") then Some HasNext
    else if pointwise nat_eq word (codes "next") then Some Next
    else if pointwise nat_eq word (codes "remove") then Some Remove
    else None

-- one word, without arguments
abbrev pub iterator_word : List Part → Option OnIterator
iterator_word [] = None
iterator_word (part ∷ []) = if nat_eq (length part.args) 0 then word_of part.word else None
iterator_word (part ∷ next ∷ more) = None

-- the state in which a name stands for this iterator
abbrev pub with_iterator : State → List ℕ → Iterator → State
with_iterator state name it = record { bases = state.bases; names = bound state.names name (to_iterator it); handles = state.handles }

abbrev pub told : State → Result Bool Refusal → Outcome
told state (Err why) = refused_by state why
told state (Ok truth) = says state (truth_text truth)

-- the item that comes next, and the iterator behind it
abbrev pub given : State → List ℕ → Iterator → Result (Item × Iterator) Refusal → Outcome
given state name it (Err why) = refused_by state why
given state name it (Ok found) = record { reply = Some (text_of_item state.bases it.view found.0); after = with_iterator state name found.1; memory = false }

-- the iterator after its own removal, which is a write through its view
abbrev pub gone : State → List ℕ → Iterator → Result (Iterator × World) Refusal → Outcome
gone state name it (Err why) = refused_by state why
gone state name it (Ok done) = record { reply = Some (codes "ok"); after = with_iterator (written_through state it.view done.1) name done.0; memory = false }

-- what an iterator does, which has this name
abbrev pub iterated : State → List ℕ → Iterator → Option OnIterator → Outcome
iterated state name it None = faulted state fault.Call
iterated state name it (Some HasNext) = told state (has_next state.bases it)
iterated state name it (Some Next) = given state name it (next_of state.bases it)
iterated state name it (Some Remove) = gone state name it (removed state.bases it)
