-- A part beside its line, as a call with the texts of its arguments.
use Rattle.std.specs.Prelude.{ℕ, zero, suc, List, [], ◌∷◌, map}
use Rattle.script_text.specs.declared.lines.Part.{Part}
use Rattle.script_text.specs.Trees.{Call, piece}

-- so many texts, those that are there first, and empty ones behind them
abbrev pub so_many : ℕ → List (List ℕ) → List (List ℕ)
so_many zero texts = []
so_many (suc n) [] = [] ∷ so_many n []
so_many (suc n) (text ∷ texts) = text ∷ so_many n texts

-- a word with the texts at the places of its first three arguments; what stands behind these is left empty
abbrev pub part_in : List ℕ → Part → Call (List ℕ)
part_in line part = record { word = part.word; args = so_many part.count (map (piece line) part.args) }
