-- Lines as trees.
use Rattle.std.specs.Prelude.{ℕ, List, [], ◌∷◌, length, map, slice_range}
use Rattle.script_text.specs.declared.lines.Slice.{Slice}
use Rattle.script_text.specs.declared.lines.Part.{Part}
use Rattle.script_text.specs.declared.lines.Line.{Line}
use Rattle.script_text.specs.declared.lines.Line.TheVariants as lines
use Rattle.script_text.specs.Names.{kind_text}

-- a word behind a dot, and its arguments
pub record Call (A : Type 0) : Type 0 where
  pub word : List ℕ
  pub args : List A

-- a name, and the calls behind it
pub record Expression (C : Type 0) : Type 0 where
  pub head : List ℕ
  pub calls : List C

-- a line with its calls
pub data Tree (C : Type 0) : Type 0 where
  Blank : Tree C
  New : List ℕ → List ℕ → Tree C
  Let : List ℕ → Expression C → Tree C
  It : List ℕ → Expression C → Tree C
  Eval : Expression C → Tree C
  Syntax : Tree C
  Long : Tree C

abbrev pub map_expression : {C D : Type 0} → (C → D) → Expression C → Expression D
map_expression f e = record { head = e.head; calls = map f e.calls }

-- the same line with another form of its calls
abbrev pub map_tree : {C D : Type 0} → (C → D) → Tree C → Tree D
map_tree f Blank = Blank
map_tree f (New name kind) = New name kind
map_tree f (Let name e) = Let name (map_expression f e)
map_tree f (It name e) = It name (map_expression f e)
map_tree f (Eval e) = Eval (map_expression f e)
map_tree f Syntax = Syntax
map_tree f Long = Long

-- the bytes at a place
abbrev pub piece : List ℕ → Slice → List ℕ
piece text s = slice_range text s.start s.end

-- the arguments as pieces of the line
abbrev pub in_pieces : List ℕ → Call Slice → Call (List ℕ)
in_pieces text c = record { word = c.word; args = map (piece text) c.args }

abbrev pub no_slice : Slice
no_slice = record { start = 0; end = 0 }

-- the first three, and empty places where there are fewer
abbrev pub first_three : List Slice → List Slice
first_three [] = no_slice ∷ no_slice ∷ no_slice ∷ []
first_three (a ∷ []) = a ∷ no_slice ∷ no_slice ∷ []
first_three (a ∷ b ∷ []) = a ∷ b ∷ no_slice ∷ []
first_three (a ∷ b ∷ c ∷ rest) = a ∷ b ∷ c ∷ []

-- a call as its word, the number of its arguments, and the places of the first three
abbrev pub part_of : Call Slice → Part
part_of c = record { word = c.word; count = length c.args; args = first_three c.args }

abbrev pub expr_view : List ℕ → List Part → Expression Part
expr_view head parts = record { head = head; calls = parts }

-- a line as a tree, where these parts stand beside it
abbrev pub line_view : Line → List Part → Tree Part
line_view lines.Blank parts = Blank
line_view (lines.New name kind) parts = New name (kind_text kind)
line_view (lines.Let name head) parts = Let name (expr_view head parts)
line_view (lines.It name head) parts = It name (expr_view head parts)
line_view (lines.Eval head) parts = Eval (expr_view head parts)
line_view lines.Syntax parts = Syntax
line_view lines.Long parts = Long
