-- What is printed of views: a bag as the set of its counted elements, a multimap and a table as their groups.
use Rattle.std.specs.Prelude.{ℕ, List, ◌++◌, map, codes, take, drop, ◌*◌}
use Rattle.elem.specs.Spelling.{spelling}
use Rattle.vocabulary.specs.declared.items.Item.{Item}
use Rattle.vocabulary.specs.declared.items.Item.TheVariants.{Piece}
use Rattle.vocabulary.specs.declared.items.Side.TheVariants.{First}
use Rattle.vocabulary.specs.declared.shapes.RowSort.TheVariants as rows
use Rattle.vocabulary.specs.declared.shapes.Shape.{Shape}
use Rattle.vocabulary.specs.declared.shapes.Shape.TheVariants as shape
use Rattle.vocabulary.specs.declared.steps.GroupForm.{GroupForm}
use Rattle.vocabulary.specs.declared.steps.GroupForm.TheVariants.{Counts, Members}
use Rattle.vocabulary.specs.declared.steps.Step.TheVariants.{Group, Partition}
use Rattle.machine.specs.Bases.{World}
use Rattle.machine.specs.Groups.{group_view}
use Rattle.machine.specs.Texts.{graph_text, item_text, text_in, view_text, within_brackets}
use Rattle.machine.specs.Views.{View, over, shape_at, shown}
use Rattle.vocabulary.specs.Items.{key_of}

-- the text of a view whose items are no groups
abbrev pub plain_text : World → View → List ℕ
plain_text world v = view_text (shape_at world v) (shown world v)

-- a key with what stands in its group
abbrev pub group_text : World → View → Item → List ℕ
group_text world v item = spelling (key_of item) ++ codes "=" ++ plain_text world (group_view v (key_of item))

-- the text of a view whose items are groups
abbrev pub groups_text : World → View → List ℕ
groups_text world v = within_brackets (shape_at world v) (map (group_text world v) (shown world v))

-- ---- pieces

-- the items of a piece: run number i of n of those that the list shows
abbrev pub items_of_piece : ℕ → List Item → ℕ → List Item
items_of_piece n items i = take n (drop (i * n) items)

-- the text of a piece is that of a list
abbrev pub piece_text : World → View → Item → List ℕ
piece_text world (over (Partition n) v) (Piece i) = view_text shape.List (items_of_piece n (shown world v) i)
piece_text world v item = item_text item

abbrev pub pieces_text : World → View → List ℕ
pieces_text world v = within_brackets shape.Pieces (map (piece_text world v) (shown world v))

-- ---- views

-- what the text of a bag, a multimap and a table is the text of
abbrev pub grouped_by_key : GroupForm → View → View
grouped_by_key made v = over (Group First made) v

abbrev pub text_by : Shape → World → View → List ℕ
text_by (shape.Bag sorted) world v = plain_text world (grouped_by_key Counts v)
text_by (shape.Multimap of sorted) world v = groups_text world (grouped_by_key Members v)
text_by (shape.Table mirrored sorted) world v = groups_text world (grouped_by_key Members v)
text_by (shape.Groups of) world v = groups_text world v
text_by (shape.Rows rows.Group) world v = groups_text world v
text_by shape.Pieces world v = pieces_text world v
text_by (shape.Graph directed) world v = graph_text (shape.Graph directed) (shown world v)
text_by other world v = plain_text world v

-- the text of a view
abbrev pub text_of : World → View → List ℕ
text_of world v = text_by (shape_at world v) world v

-- ---- items, as an iterator gives them

abbrev pub text_of_item_by : Shape → World → View → Item → List ℕ
text_of_item_by (shape.Rows rows.Group) world v item = group_text world v item
text_of_item_by shape.Pieces world v item = piece_text world v item
text_of_item_by of world v item = text_in of item

-- the text of an item that a view shows
abbrev pub text_of_item : World → View → Item → List ℕ
text_of_item world v item = text_of_item_by (shape_at world v) world v item
