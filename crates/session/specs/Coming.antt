-- An outcome comes on a store.
use Rattle.std.specs.Prelude.{◌≡◌, ℕ, List, Option, Result}
use Rattle.base_store.specs.Stored.{Stored}
use Rattle.session.specs.declared.faults.ExecFault.{ExecFault}
use Rattle.session.specs.Executing.{Executed}
use Rattle.session.specs.Later.{AreLater}
use Rattle.machine.specs.Outcomes.{Outcome}
use Rattle.machine.specs.State.{Names, State}

-- a store's bases and handles beside names
abbrev pub seen_as : Stored → Names → State
seen_as store names = record { bases = store.world; names = names; handles = store.handles }

-- An outcome came on a store: its bases are what the outcome leaves, at a later time, and its nodes are those that it had.
pub record Came {T : Type 0} (result : Result T ExecFault) (before now : Stored) (outcome : State → Outcome) (told told' : Option (List ℕ)) (faults faults' : ℕ) : Type 0 where
  pub nodes : now.nodes ≡ before.nodes
  pub lasting : now.lasting ≡ before.lasting
  pub handles : now.handles ≡ before.handles
  pub later : AreLater before.world now.world
  pub executed : (names : Names) → Executed result (seen_as before names) (seen_as now names) (outcome (seen_as before names)) told told' faults faults'
