-- Spots tell the rows at each leaf apart, and each is that of one row.
use Rattle.std.proofs.Common.{◌≡◌, ℕ, Bool, true, false, cond, List, [], ◌∷◌, refl, sym, ap, subst}
use Rattle.std.specs.Prelude.{Some}
use Rattle.vocabulary.specs.declared.items.Item.{Item}
use Rattle.vocabulary.specs.declared.items.Side.TheVariants.{First, Second}
use Rattle.vocabulary.specs.declared.kinds.Kind.TheVariants.{ArrayList}
use Rattle.machine.specs.Bases.{Base, World, base_at}
use Rattle.machine.specs.Leaves.{Leaf, leaf_at, stepped_all}
use Rattle.view_laws.specs.declared.places.RowSpot.{RowSpot}
use Rattle.view_laws.specs.Following.{IsFrom}
use Rattle.view_laws.specs.Spots.{TellAll, TellRows}
use Rattle.view_steps.specs.KnownViews.{has_none}
use Rattle.base_rows.specs.BaseSpots.{HasKeys, IsRowAt, numbered, spots_of}
use Rattle.base_store.specs.Courses.{spots_in}
use Rattle.view_steps.proofs.KnownLemmas.{none_there}
use Rattle.base_rows.proofs.SpotsTold.{spots_tell}

-- numbers tell rows apart, as in a list
numbers_tell : (rows : List Item) → TellRows (numbered 0 rows) rows
numbers_tell rows = spots_tell (record { kind = ArrayList; rows = rows; keys = []; change = 0; frozen = false }) none
  where
    none : HasKeys (record { kind = ArrayList; rows = rows; keys = []; change = 0; frozen = false })
    none First unique = absurd (cc)
    none Second unique = absurd (cc)

tell_at : (world : World) (l : Leaf) → HasKeys (base_at world l.number) → TellRows (spots_in world l) (leaf_at world l).rows
tell_at world l keys = by (has_none l.steps) refl
  where
    it : Base
    it = leaf_at world l

    by : (b : Bool) → has_none l.steps ≡ b → TellRows (cond b (spots_of it.kind it.rows) (numbered 0 it.rows)) it.rows
    by true none = spots_tell it (subst (λ (x : Base). HasKeys x) (sym (ap (λ steps. stepped_all steps (base_at world l.number)) (none_there l.steps none))) keys)
    by false steps = numbers_tell it.rows

pub tell_all : (world : World) → ((b : ℕ) → HasKeys (base_at world b)) → TellAll world (spots_in world)
tell_all world keys l = tell_at world l (keys l.number)

-- a spot of some rows has the number of one of them
pub numbers_at : (spots : List RowSpot) (s : RowSpot) → IsFrom spots (Some s) → (numbers : List ℕ) × IsRowAt spots s numbers
numbers_at spots s from = (from.0 ∷ [], record { number = from.0; only = refl; at = from.1 })
