-- Where the candidate stands that has an element in a part.
use Rattle.std.specs.Prelude.{◌≡◌, ℕ, Bool, true, Some, slice_get}
use Rattle.elem.specs.declared.elements.Elem.{Elem}
use Rattle.elem.specs.Elements.{same}
use Rattle.vocabulary.specs.declared.items.Item.{Item}
use Rattle.vocabulary.specs.declared.items.Side.{Side}
use Rattle.vocabulary.specs.Items.{part_of}
use Rattle.base_rows.specs.BaseSpots.{IsRowAt}
use Rattle.base_store.specs.Courses.{spots_at}
use Rattle.machine.specs.Bases.{World}
use Rattle.machine.specs.Candidates.{Candidate}
use Rattle.machine.specs.Views.{View, candidates}
use Rattle.view_laws.specs.declared.places.RowSpot.{RowSpot}
use Rattle.view_steps.specs.KnownViews.{number_under}

-- whether an item has an element in a part
abbrev pub has_part : Side → Elem → Item → Bool
has_part side x item = same x (part_of side item)

-- each candidate that has it stands for the one row at a spot of the base
abbrev pub IsFoundAt : World → View → Side → Elem → RowSpot → Type 0
IsFoundAt world v side x s = (i : ℕ) (c : Candidate) → slice_get (candidates world v) i ≡ Some c → has_part side x c.item ≡ true → IsRowAt (spots_at world (number_under v)) s c.rows
