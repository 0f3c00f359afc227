-- Where what stood at a place stands once the row at another spot of its base went.
use Rattle.std.specs.Prelude.{◌-◌, nat_lt, if◌then◌else◌}
use Rattle.view_laws.specs.declared.places.Place.{Place}
use Rattle.view_laws.specs.declared.places.RowSpot.{RowSpot}
use Rattle.view_laws.specs.declared.places.RowSpot.TheVariants.{Index}

-- in a list, what stood behind the row that went moves up
abbrev pub spot_after : RowSpot → RowSpot → RowSpot
spot_after (Index i) (Index j) = if nat_lt i j then Index (j - 1) else Index j
spot_after gone spot = spot

abbrev pub after_drop : RowSpot → Place → Place
after_drop gone p = record { leaf = p.leaf; spot = spot_after gone p.spot }
