-- Change numbers: no edit raises one by more than one.
use Rattle.std.proofs.Common.{ℕ, zero, suc, ◌+◌, ◌≤◌, Bool, true, false, cond, [], ◌∷◌, arith, ◌<◌, ◌^◌, ◌-◌}
use Rattle.std.specs.Prelude.{slice_set}
use Rattle.machine.specs.Edits.{Edit, edited}
use Rattle.machine.specs.RowCounts.{ChangesUpTo}
use Rattle.machine.specs.Bases.{Base, World, base_at}
use Rattle.view_steps.specs.KnownViews.{edited_at}

-- no base has been changed more often than the most
pub change_at : (most : ℕ) (world : World) (b : ℕ) → ChangesUpTo most world → (base_at world b).change ≤ most
change_at most [] b h = omega arith
change_at most (it ∷ world) zero h = h.0
change_at most (it ∷ world) (suc b) h = change_at most world b h.1

-- a bound that is one higher
pub up : (most : ℕ) (world : World) → ChangesUpTo most world → ChangesUpTo (most + 1) world
up most [] h = tt
up most (it ∷ world) h = let e : it.change ≤ most = h.0 in (omega arith, up most world h.1)

one_more : (b : Bool) → cond b 1 0 ≤ 1
one_more true = omega arith
one_more false = omega arith

-- one base of which the change rises by at most one
changed_base : (most : ℕ) (world : World) (b : ℕ) (it : Base) → ChangesUpTo most world → it.change ≤ most + 1 → ChangesUpTo (most + 1) (slice_set world b it)
changed_base most [] b it h le = tt
changed_base most (old ∷ world) zero it h le = (le, up most world h.1)
changed_base most (old ∷ world) (suc b) it h le = let e : old.change ≤ most = h.0 in (omega arith, changed_base most world b it h.1 le)

pub edited_base : (most : ℕ) (world : World) (b : ℕ) (edit : Edit) → ChangesUpTo most world → ChangesUpTo (most + 1) (edited_at world b edit)
edited_base most world b edit h =
    let le : (base_at world b).change ≤ most = change_at most world b h in
    changed_base most world b (edited (base_at world b) edit) h (omega (arith, one_more))

-- the change number of a base has room for one more
pub room : (world : World) (b : ℕ) → ChangesUpTo (2 ^ 63 - 1) world → (base_at world b).change < 2 ^ 63
room world b h = let e = change_at (2 ^ 63 - 1) world b h in omega (arith, e)
