-- What is printed of items.
use Rattle.elem.specs.SpanTexts.{span_spelling}
use Rattle.vocabulary.specs.declared.answers.Answer.TheVariants as answer
use Rattle.std.specs.Prelude.{ℕ, Bool, true, false, nat_eq, if◌then◌else◌, List, [], ◌∷◌, ◌++◌, Option, None, Some, codes, decimal, map, filter}
use Rattle.elem.specs.declared.elements.Elem.{Elem}
use Rattle.elem.specs.Spelling.{spelling}
use Rattle.vocabulary.specs.declared.items.Item.{Item}
use Rattle.vocabulary.specs.declared.items.Item.TheVariants.{One, Entry, Counted, Cell, Group, Piece, Range, RangeEntry, Pair, Edge}
use Rattle.vocabulary.specs.declared.shapes.Shape.{Shape}
use Rattle.vocabulary.specs.declared.shapes.Shape.TheVariants as shape
use Rattle.vocabulary.specs.declared.answers.Answer.{Answer}
use Rattle.machine.specs.Graphs.{is_edge, is_node}
use Rattle.vocabulary.specs.Shapes.{is_directed}

-- the texts, parted by `, `
abbrev pub listed : List (List ℕ) → List ℕ
listed [] = []
listed (text ∷ []) = text
listed (text ∷ next ∷ texts) = text ++ codes ", " ++ listed (next ∷ texts)

-- how often an element stands there, where that is not once
abbrev pub times_text : ℕ → List ℕ
times_text n = if nat_eq n 1 then [] else codes " x " ++ decimal n

-- the two ends of an edge
abbrev pub pair_text : Bool → Elem → Elem → List ℕ
pair_text true a b = codes "<" ++ spelling a ++ codes " -> " ++ spelling b ++ codes ">"
pair_text false a b = codes "[" ++ spelling a ++ codes ", " ++ spelling b ++ codes "]"

-- an item; of a group its key and of a piece its number, for what stands in them is told by their view
abbrev pub item_text : Item → List ℕ
item_text (One x) = spelling x
item_text (Entry k v) = spelling k ++ codes "=" ++ spelling v
item_text (Counted x n) = spelling x ++ times_text n
item_text (Cell r c v) = codes "(" ++ spelling r ++ codes "," ++ spelling c ++ codes ")=" ++ spelling v
item_text (Group k) = spelling k
item_text (Piece i) = decimal i
item_text (Range s) = span_spelling s
item_text (RangeEntry s v) = span_spelling s ++ codes "=" ++ spelling v
item_text (Pair a b) = pair_text true a b
item_text (Edge a b v) = pair_text true a b ++ codes "=" ++ spelling v

-- an item of a view of a shape: of a pair it tells whether edges have directions
abbrev pub text_in : Shape → Item → List ℕ
text_in of (Pair a b) = pair_text (is_directed of) a b
text_in of (Edge a b v) = pair_text (is_directed of) a b ++ codes "=" ++ spelling v
text_in of item = item_text item

-- whether the items of a view stand in braces
abbrev pub has_braces : Shape → Bool
has_braces (shape.Map sorted) = true
has_braces shape.BiMap = true
has_braces (shape.Groups of) = true
has_braces (shape.Multimap of sorted) = true
has_braces (shape.Table mirrored sorted) = true
has_braces shape.RangeMap = true
has_braces other = false

-- the brackets around a view's items
abbrev pub opening : Shape → List ℕ
opening of = if has_braces of then codes "{" else codes "["

abbrev pub closing : Shape → List ℕ
closing of = if has_braces of then codes "}" else codes "]"

abbrev pub within_brackets : Shape → List (List ℕ) → List ℕ
within_brackets of texts = opening of ++ listed texts ++ closing of

-- the text of a view that shows these items, none of which is a group, a piece or an edge
abbrev pub view_text : Shape → List Item → List ℕ
view_text of items = within_brackets of (map (text_in of) items)

-- a graph's nodes, and then its edges with their values
abbrev pub graph_text : Shape → List Item → List ℕ
graph_text of items = codes "nodes: [" ++ listed (map item_text (filter is_node items)) ++ codes "], edges: {" ++ listed (map (text_in of) (filter is_edge items)) ++ codes "}"

-- an element, or `null`
abbrev pub optional_text : Option Elem → List ℕ
optional_text None = codes "null"
optional_text (Some x) = spelling x

-- a row, or `null`
abbrev pub row_text : Option Item → List ℕ
row_text None = codes "null"
row_text (Some row) = item_text row

abbrev pub truth_text : Bool → List ℕ
truth_text true = codes "true"
truth_text false = codes "false"

-- ---- answers

abbrev pub index_text : Option ℕ → List ℕ
index_text None = codes "-1"
index_text (Some i) = decimal i

-- an answer, as it is printed
abbrev pub answer_text : Answer → List ℕ
answer_text answer.Done = codes "ok"
answer_text (answer.Truth t) = truth_text t
answer_text (answer.Number n) = decimal n
answer_text (answer.Index i) = index_text i
answer_text (answer.Element x) = spelling x
answer_text (answer.Optional x) = optional_text x
answer_text (answer.Row row) = row_text row
answer_text (answer.Values items) = view_text shape.Coll items
answer_text (answer.Cells items) = view_text (shape.Map false) items
