-- Bases and stores at a later time.
use Rattle.std.specs.Prelude.{◌≡◌, ℕ, ◌<◌, ◌≤◌, length}
use Rattle.base_store.specs.Courses.{spots_in}
use Rattle.base_store.specs.Stored.{Stored, view_in}
use Rattle.cursor_seat.specs.Later.{IsLater}
use Rattle.machine.specs.Bases.{World, base_at}
use Rattle.view_laws.specs.Spots.{TellAll}

-- no base has gone, and each is at a later time
pub record AreLater (before now : World) : Type 0 where
  pub more : length before ≤ length now
  pub each : (b : ℕ) → b < length before → IsLater (base_at before b) (base_at now b)

-- A store at a later time: its nodes are there with the views that they had, its bases are at a later time, and spots tell
-- the rows of each apart.
pub record StoreLater (before now : Stored) : Type 0 where
  pub there : length before.nodes ≤ length now.nodes
  pub views : (n : ℕ) → n < length before.nodes → view_in now n ≡ view_in before n
  pub bases : AreLater before.world now.world
  pub tell : TellAll now.world (spots_in now.world)
