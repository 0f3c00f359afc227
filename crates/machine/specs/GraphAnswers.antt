-- What calls on graphs answer, by the nodes and edges that are shown.
use Rattle.std.specs.Prelude.{ℕ, ◌+◌, Bool, true, false, List, length, filter, find, Option}
use Rattle.std.specs.Option.{option_map}
use Rattle.elem.specs.declared.elements.Elem.{Elem}
use Rattle.elem.specs.Elements.{same}
use Rattle.vocabulary.specs.declared.calls.OnElement.{OnElement}
use Rattle.vocabulary.specs.declared.calls.OnElement.TheVariants.{InDegree, OutDegree}
use Rattle.vocabulary.specs.declared.items.Item.{Item}
use Rattle.vocabulary.specs.declared.items.Item.TheVariants.{Pair, Edge}
use Rattle.machine.specs.Graphs.{joins, same_ends}
use Rattle.vocabulary.specs.Items.{value_of}

abbrev pub leaves : Elem → Item → Bool
leaves a (Edge x y v) = same a x
leaves a other = false

abbrev pub enters : Elem → Item → Bool
enters a (Edge x y v) = same a y
enters a other = false

-- how many edges leave a node, and enter it
abbrev pub out_of : Elem → List Item → ℕ
out_of a items = length (filter (leaves a) items)

abbrev pub into : Elem → List Item → ℕ
into a items = length (filter (enters a) items)

-- a loop counts at both its ends; where there are no directions each edge goes both ways
abbrev pub degree : Bool → OnElement → Elem → List Item → ℕ
degree true InDegree a items = into a items
degree true OutDegree a items = out_of a items
degree directed word a items = out_of a items + into a items

-- the value of the edge between two nodes
abbrev pub edge_value : Bool → Elem → Elem → List Item → Option Elem
edge_value directed a b items = option_map value_of (find (joins directed a b) items)

-- whether an item is these two ends
abbrev pub is_ends : Bool → Elem → Elem → Item → Bool
is_ends directed a b (Pair x y) = same_ends directed a b x y
is_ends directed a b other = false
