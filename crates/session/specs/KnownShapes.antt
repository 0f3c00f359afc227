-- The shapes of lists, sets, maps and bimaps, and of the known views of them; and what these show.
use Rattle.std.specs.Prelude.{◌≡◌, Bool, true, false, List}
use Rattle.std.specs.List.{AllByRecursion}
use Rattle.vocabulary.specs.declared.answers.Answer.{Answer}
use Rattle.vocabulary.specs.declared.answers.Answer.TheVariants as answer
use Rattle.vocabulary.specs.declared.items.Item.{Item}
use Rattle.vocabulary.specs.declared.items.Item.TheVariants.{One, Entry}
use Rattle.vocabulary.specs.declared.shapes.RowSort.TheVariants as rows
use Rattle.vocabulary.specs.declared.shapes.Shape.{Shape}
use Rattle.vocabulary.specs.declared.shapes.Shape.TheVariants as shape

abbrev pub is_known_shape : Shape → Bool
is_known_shape shape.List = true
is_known_shape (shape.Set sorted) = true
is_known_shape shape.Coll = true
is_known_shape (shape.Rows rows.Entry) = true
is_known_shape (shape.Map sorted) = true
is_known_shape shape.BiMap = true
is_known_shape other = false

-- an element, or a key and its value
abbrev pub is_known_item : Item → Bool
is_known_item (One x) = true
is_known_item (Entry k v) = true
is_known_item other = false

abbrev pub AreKnown : List Item → Type 0
AreKnown items = AllByRecursion (λ (item : Item). is_known_item item ≡ true) items

-- an answer in which no row stands
abbrev pub is_known_answer : Answer → Bool
is_known_answer (answer.Row row) = false
is_known_answer (answer.Values items) = false
is_known_answer (answer.Cells items) = false
is_known_answer other = true
