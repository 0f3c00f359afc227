-- A reply on its way to the sink: what was sent, what is pending, and whether the sink failed.
use Rattle.std.specs.Prelude.{◌≡◌, ◌≢◌, ℕ, ◌≤◌, Bool, true, false, List, [], ◌∷◌, ◌++◌, Option, Result, Ok, Err}
use Rattle.elem.specs.Outside.{Takes, TakesFront, Stays, IsFront, Rose}
use Rattle.session.specs.declared.faults.ExecFault.{ExecFault}
use Rattle.session.specs.declared.faults.ExecFault.TheVariants.{WriteFault, NoMemory}
use Rattle.vocabulary.specs.declared.answers.Answer.{Answer}
use Rattle.vocabulary.specs.declared.refusals.Refusal.{Refusal}
use Rattle.vocabulary.specs.declared.refusals.Refusal.TheVariants as refusal
use Rattle.machine.specs.Texts.{answer_text}
use Rattle.vocabulary.specs.Refusals.{name_of}

pub record Pending : Type 0 where
  pub bytes : List ℕ
  pub failed : Bool

abbrev pub nothing_pending : Pending
nothing_pending = record { bytes = []; failed = false }

-- with a piece more, and with nothing left to send
abbrev pub with_piece : Pending → List ℕ → Pending
with_piece pending piece = record { bytes = pending.bytes ++ piece; failed = pending.failed }

abbrev pub flushed : Bool → Pending
flushed failed = record { bytes = []; failed = failed }

-- what was sent of a text: with what is pending now it is what was pending before and the text, and after a failure it is
-- a front of that
abbrev pub Sends : Bool → Bool → List ℕ → List ℕ → List ℕ → Type 0
Sends false false sent before after = before ≡ sent ++ after
Sends false true sent before after = IsFront sent before
Sends true true sent before after = sent ≡ []
Sends true false sent before after = ⊥

-- A text goes through what is pending to the sink, which told this and had so many faults before and after.
pub record Goes (told told' : Option (List ℕ)) (faults faults' : ℕ) (pending pending' : Pending) (text : List ℕ) : Type 0 where
  pub sent : List ℕ
  pub takes : Takes told told' sent
  pub sends : Sends pending.failed pending'.failed sent (pending.bytes ++ text) pending'.bytes
  pub later : faults ≤ faults'
  pub cause : pending.failed ≡ false → pending'.failed ≡ true → Rose faults faults'

-- the whole text, a front of it where the sink failed, and nothing where there was no memory
abbrev pub Wrote : {T : Type 0} → Result T ExecFault → Option (List ℕ) → Option (List ℕ) → List ℕ → Type 0
Wrote (Ok x) old new text = Takes old new text
Wrote (Err WriteFault) old new text = TakesFront old new text
Wrote (Err NoMemory) old new text = Stays old new

-- A reply was said: the text was written whole, or a front of it where the sink failed.
pub record Said {T : Type 0} (result : Result T ExecFault) (told told' : Option (List ℕ)) (faults faults' : ℕ) (text : List ℕ) : Type 0 where
  pub wrote : Wrote result told told' text
  pub memory : result ≢ Err NoMemory
  pub later : faults ≤ faults'
  pub cause : result ≡ Err WriteFault → Rose faults faults'

-- how a reply ended
abbrev pub sent_result : Bool → Result (Unit {0}) ExecFault
sent_result true = Err WriteFault
sent_result false = Ok tt

-- A refusal was said by its name; want of memory is answered, and nothing is said.
abbrev pub Refuses : {T : Type 0} → Refusal → Result T ExecFault → Option (List ℕ) → Option (List ℕ) → ℕ → ℕ → Type 0
Refuses refusal.NoMemory result told told' faults faults' = (result ≡ Err NoMemory) × (told' ≡ told) × (faults' ≡ faults)
Refuses why result told told' faults faults' = Said result told told' faults faults' (name_of why ++ 10 ∷ [])

-- An answer was said, or why there is none.
abbrev pub Tells : {T : Type 0} → Result Answer Refusal → Result T ExecFault → Option (List ℕ) → Option (List ℕ) → ℕ → ℕ → Type 0
Tells (Ok answer) result told told' faults faults' = Said result told told' faults faults' (answer_text answer ++ 10 ∷ [])
Tells (Err why) result told told' faults faults' = Refuses why result told told' faults faults'
