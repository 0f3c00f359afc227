-- The seats behind names go on fitting while the store changes.
use Rattle.std.proofs.Common.{◌≡◌, ℕ, ◌<◌, ◌≤◌, Bool, true, false, cond, nat_eq, List, [], ◌∷◌, ◌++◌, length, refl, sym, ap, ◌∙◌, subst, arith, length-append}
use Rattle.std.specs.Cmp.Lexicographic.{pointwise}
use Rattle.indexmap.specs.IndexMap.{insert_entry}
use Rattle.base_store.specs.declared.store.Made.{Made}
use Rattle.base_store.specs.Courses.{spots_in}
use Rattle.base_store.specs.Nodes.{view_at}
use Rattle.base_store.specs.Stored.{Stored}
use Rattle.base_store.proofs.ViewLemmas.{view_at-append}
use Rattle.cursor_seat.specs.declared.seat.Seat.{Seat}
use Rattle.cursor_seat.specs.Later.{IsLaterFor}
use Rattle.cursor_seat.specs.Seats.{Fits}
use Rattle.cursor_seat.proofs.LaterLemmas.{still_fits}
use Rattle.session.specs.declared.bound.Bound.{Bound as Held}
use Rattle.session.specs.declared.bound.Bound.TheVariants as held
use Rattle.session.specs.Environment.{AreSeated, Entries, IsSeated}
use Rattle.session.specs.Later.{AreLater, StoreLater}
use Rattle.view_laws.specs.Spots.{TellAll}

-- a store to which nodes came at the end, if any, and whose bases are at a later time
pub store_grown : (before now : Stored) (more : List Made) → now.nodes ≡ before.nodes ++ more → AreLater before.world now.world → TellAll now.world (spots_in now.world) → StoreLater before now
store_grown before now more e bases tell = record {
  there = omega (arith, ap (λ (ns : List Made). length ns) e, length-append before.nodes more);
  views = λ n lt. ap (λ (ns : List Made). view_at ns n) e ∙ view_at-append before.nodes more n lt;
  bases = bases;
  tell = tell;
}

-- a store whose nodes are what they were
pub store_kept : (before now : Stored) → now.nodes ≡ before.nodes → AreLater before.world now.world → TellAll now.world (spots_in now.world) → StoreLater before now
store_kept before now e bases tell = record {
  there = omega (arith, ap (λ (ns : List Made). length ns) e);
  views = λ n lt. ap (λ (ns : List Made). view_at ns n) e;
  bases = bases;
  tell = tell;
}

-- ---- seats

later_for : (before now : Stored) (seat : Seat) → StoreLater before now → Fits before seat → IsLaterFor before now seat
later_for before now seat later fits =
    let there : seat.node < length before.nodes = fits.there.node in
    record {
      node = omega (arith, there, later.there);
      view = later.views seat.node there;
      more = later.bases.more;
      bases = later.bases.each;
      tell = later.tell;
    }

pub seat_stays : (before now : Stored) (it : Held) → StoreLater before now → IsSeated before it → IsSeated now it
seat_stays before now (held.View n) later fits = tt
seat_stays before now (held.Iterator seat) later fits = still_fits before now seat (later_for before now seat later fits) fits

pub seats_stay : (before now : Stored) (names : Entries) → StoreLater before now → AreSeated before names → AreSeated now names
seats_stay before now [] later fit = tt
seats_stay before now (e ∷ names) later fit = (seat_stays before now e.1 later fit.0, seats_stay before now names later fit.1)

-- with one more name, or another value for one
pub seats_with : (store : Stored) (names : Entries) (name : List ℕ) (it : Held) → AreSeated store names → IsSeated store it → AreSeated store (insert_entry (pointwise nat_eq) names name it)
seats_with store [] name it fit fits = (fits, tt)
seats_with store (e ∷ names) name it fit fits = by (pointwise nat_eq name e.0) (seats_with store names name it fit.1 fits)
  where
    by : (b : Bool) → AreSeated store (insert_entry (pointwise nat_eq) names name it) → AreSeated store (cond b ((e.0, it) ∷ names) (e ∷ insert_entry (pointwise nat_eq) names name it))
    by true rest = (fits, fit.1)
    by false rest = (fit.0, rest)
