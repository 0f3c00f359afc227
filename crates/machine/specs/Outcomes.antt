-- What a line comes to: a reply, the state afterwards, and whether it may want memory.
use Rattle.std.specs.Prelude.{ℕ, ◌+◌, nat_lt, Bool, true, false, List, [], ◌∷◌, ◌++◌, Option, None, Some, codes, if◌then◌else◌}
use Rattle.vocabulary.specs.declared.lines.Fault.{Fault}
use Rattle.vocabulary.specs.declared.lines.Fault.TheVariants as fault
use Rattle.vocabulary.specs.declared.refusals.Refusal.{Refusal}
use Rattle.vocabulary.specs.declared.refusals.Refusal.TheVariants.{Limit}
use Rattle.vocabulary.specs.Limits.{most_handles}
use Rattle.vocabulary.specs.Refusals.{name_of}
use Rattle.machine.specs.State.{State}

-- a reply, where there is one, the state afterwards, and whether memory may run out in place of these
pub record Outcome : Type 0 where
  pub reply : Option (List ℕ)
  pub after : State
  pub memory : Bool

-- a reply that changes nothing
abbrev pub says : State → List ℕ → Outcome
says state text = record { reply = Some text; after = state; memory = false }

abbrev pub refused_by : State → Refusal → Outcome
refused_by state refusal = says state (name_of refusal)

-- a refusal before which memory may run out
abbrev pub refused_late : State → Refusal → Outcome
refused_late state refusal = record { reply = Some (name_of refusal); after = state; memory = true }

-- what is said of a fault
abbrev pub fault_text : Fault → List ℕ
fault_text fault.Name = codes "?name"
fault_text fault.Call = codes "?call"

abbrev pub faulted : State → Fault → Outcome
faulted state fault = says state (fault_text fault)

-- an outcome that takes so many handles; memory may run out before they are counted
abbrev pub within_handles : State → ℕ → Outcome → Outcome
within_handles state n outcome = if nat_lt most_handles (state.handles + n) then refused_late state Limit else outcome

-- a reply and a newline, or nothing
abbrev pub written : Option (List ℕ) → List ℕ
written None = []
written (Some text) = text ++ 10 ∷ []
