-- What a run of a script leaves.
use Rattle.std.specs.Prelude.{◌≡◌, ℕ, ◌^◌, ◌<◌, ◌↔◌, List, [], ◌++◌, length, take, Option, Result, Ok, Err}
use Rattle.elem.specs.Outside.{Takes, TakesFront}
use Rattle.shelf.specs.Transcript.{transcript, whole_lines}
use Rattle.session.specs.declared.faults.ExecFault.{ExecFault}
use Rattle.session.specs.declared.faults.ExecFault.TheVariants as faults
use Rattle.shelf.specs.declared.status.Status.{Status}
use Rattle.shelf.specs.declared.status.Status.TheVariants.{Done, Usage, OpenFault, ReadFault, WriteFault, NoMemory, TooLong}

-- the greatest number of bytes of a script
abbrev pub most_bytes : ℕ
most_bytes = 2 ^ 40

-- A script of these bytes was run: `came` was taken of it, and `left` was not.
pub record Ran (bytes came left : List ℕ) (old new : Option (List ℕ)) (status : Status) : Type 0 where
  pub parts : bytes ≡ came ++ left
  -- the sink took the whole transcript of a script that was read to its end
  pub done : status ≡ Done → (left ≡ []) × Takes old new (transcript bytes)
  -- and else a front of the transcript of what was taken, as of a script that ends there
  pub front : TakesFront old new (transcript came)
  -- a front of the transcript of the whole script, before a write that failed
  pub write_fault : status ≡ WriteFault → TakesFront old new (transcript bytes)
  -- the replies of all whole lines that were read, before a read that failed
  pub read_fault : status ≡ ReadFault → Takes old new (transcript (whole_lines came))
  -- the replies of the first lines, each whole, before memory ran out
  pub no_memory : status ≡ NoMemory → (front rest : List ℕ) × (came ≡ front ++ rest) × Takes old new (transcript (whole_lines front))
  -- more came than a script may have, and the replies are those of the lines that are whole within it
  pub too_long : (status ≡ TooLong) ↔ (most_bytes < length came)
  pub within : status ≡ TooLong → Takes old new (transcript (whole_lines (take most_bytes came)))

-- the status of a fault in the execution of a line
abbrev pub fault_status : ExecFault → Status
fault_status faults.WriteFault = WriteFault
fault_status faults.NoMemory = NoMemory

-- the status of a run that ended so
abbrev pub status_of : Result (Unit {0}) Status → Status
status_of (Ok x) = Done
status_of (Err status) = status

-- the number with which the program ends
abbrev pub number_of : Status → ℕ
number_of Done = 0
number_of Usage = 2
number_of OpenFault = 3
number_of ReadFault = 4
number_of WriteFault = 5
number_of NoMemory = 6
number_of TooLong = 7
