-- What the execution of a line leaves.
use Rattle.std.specs.Prelude.{◌≡◌, ℕ, ◌+◌, ◌≤◌, true, List, Option, Result, Ok, Err}
use Rattle.elem.specs.Outside.{Takes, TakesFront, Stays, Rose}
use Rattle.session.specs.declared.faults.ExecFault.{ExecFault}
use Rattle.session.specs.declared.faults.ExecFault.TheVariants.{WriteFault, NoMemory}
use Rattle.machine.specs.Outcomes.{Outcome, written}
use Rattle.machine.specs.RowCounts.{ChangesUpTo}
use Rattle.machine.specs.State.{State}

-- a line's outcome: the reply and the state, a front of the reply, or nothing at all where it may want memory
abbrev pub Does : {T : Type 0} → Result T ExecFault → State → State → Outcome → Option (List ℕ) → Option (List ℕ) → Type 0
Does (Ok x) before now outcome told told' = (now ≡ outcome.after) × Takes told told' (written outcome.reply)
Does (Err WriteFault) before now outcome told told' = TakesFront told told' (written outcome.reply)
Does (Err NoMemory) before now outcome told told' = (now ≡ before) × Stays told told' × (outcome.memory ≡ true)

-- A line was executed: its outcome came, no change number rose by more than one, and a fault has its cause.
pub record Executed {T : Type 0} (result : Result T ExecFault) (before now : State) (outcome : Outcome) (told told' : Option (List ℕ)) (faults faults' : ℕ) : Type 0 where
  pub does : Does result before now outcome told told'
  pub changes : (n : ℕ) → ChangesUpTo n before.bases → ChangesUpTo (n + 1) now.bases
  pub later : faults ≤ faults'
  pub cause : result ≡ Err WriteFault → Rose faults faults'
