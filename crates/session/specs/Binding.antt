-- What binding a name to the end of an expression leaves.
use Rattle.std.specs.Prelude.{◌≡◌, ◌⊎◌, ℕ, ◌+◌, ◌<◌, ◌≤◌, Bool, false, List, [], ◌∷◌, ◌++◌, nat_eq, Option, Result, Ok, Err, codes}
use Rattle.std.specs.Cmp.Lexicographic.{pointwise}
use Rattle.indexmap.specs.IndexMap.{insert_entry}
use Rattle.base_store.specs.Stored.{Stored, view_in, with_kept, without_temporary}
use Rattle.cursor_seat.specs.Seats.{Fits, iterator_in}
use Rattle.machine.specs.Iterators.{iterator_over}
use Rattle.session.specs.declared.bound.Bound.{Bound as Held}
use Rattle.session.specs.declared.bound.Bound.TheVariants.{View, Iterator}
use Rattle.session.specs.declared.faults.ExecFault.{ExecFault}
use Rattle.session.specs.declared.following.End.{End}
use Rattle.session.specs.Environment.{Entries}
use Rattle.session.specs.Following.{node_of}
use Rattle.session.specs.Replying.{Refuses, Said}
use Rattle.vocabulary.specs.declared.refusals.Refusal.{Refusal}
use Rattle.vocabulary.specs.declared.refusals.Refusal.TheVariants.{Limit, NoMemory}
use Rattle.vocabulary.specs.Limits.{most_handles}

-- so many handles would pass their limit, or memory ran out
abbrev pub IsFull : Stored → ℕ → Refusal → Type 0
IsFull s handles why = ((why ≡ Limit) × (most_handles < s.handles + handles)) ⊎ (why ≡ NoMemory)

-- the temporary nodes last, and a name is bound
pub record KeptBound (s now : Stored) (names names' : Entries) (name : List ℕ) (it : Held) (handles : ℕ) : Type 0 where
  pub kept : now ≡ with_kept s handles
  pub room : s.handles + handles ≤ most_handles
  pub entered : names' ≡ insert_entry (pointwise nat_eq) names name it

-- nothing lasts and no name is bound
pub record KeptNothing (s now : Stored) (names names' : Entries) : Type 0 where
  pub dropped : now ≡ without_temporary s
  pub same : names' ≡ names

-- ---- what is bound at an end

-- its view
abbrev pub view_bound : Result End Refusal → Result Held Refusal
view_bound (Ok end) = Ok (View (node_of end))
view_bound (Err why) = Err why

-- an iterator over its view
abbrev pub IsSeatOver : Stored → Result End Refusal → Result Held Refusal → Type 0
IsSeatOver s (Ok end) (Ok (Iterator seat)) = Fits s seat × (iterator_in s seat ≡ iterator_over s.world (view_in s (node_of end)))
IsSeatOver s (Err why) (Err because) = because ≡ why
IsSeatOver s end other = ⊥

-- ---- what is kept

-- what stands at an end was kept under a name for so many handles, or is refused, or is not kept for this cause
abbrev pub Keeps : Result (Unit {0}) Refusal → Result Held Refusal → Stored → Stored → Entries → Entries → List ℕ → ℕ → Type 0
Keeps (Ok u) (Ok it) s now names names' name handles = KeptBound s now names names' name it handles
Keeps (Ok u) (Err refusal) s now names names' name handles = ⊥
Keeps (Err why) (Ok it) s now names names' name handles = KeptNothing s now names names' × IsFull s handles why
Keeps (Err why) (Err refusal) s now names names' name handles = KeptNothing s now names names' × (why ≡ refusal)

-- the nodes of what stands at an end last, or it is refused, or they do not last for this cause; where there is no room for a
-- name they do not
abbrev pub KeepsNodes : Result Held Refusal → Result Held Refusal → Bool → Stored → Stored → ℕ → Type 0
KeepsNodes (Ok b) (Ok it) is_full s now handles = (b ≡ it) × (now ≡ with_kept s handles) × (s.handles + handles ≤ most_handles) × (is_full ≡ false)
KeepsNodes (Ok b) (Err refusal) is_full s now handles = ⊥
KeepsNodes (Err why) (Ok it) is_full s now handles = (now ≡ without_temporary s) × IsFull s handles why
KeepsNodes (Err why) (Err refusal) is_full s now handles = (now ≡ without_temporary s) × (why ≡ refusal)

-- `ok` was said where it was kept, and its refusal where it was not
abbrev pub Answers : Result (Unit {0}) Refusal → Result (Unit {0}) ExecFault → Option (List ℕ) → Option (List ℕ) → ℕ → ℕ → Type 0
Answers (Ok u) result told told' faults faults' = Said result told told' faults faults' (codes "ok" ++ 10 ∷ [])
Answers (Err why) result told told' faults faults' = Refuses why result told told' faults faults'
