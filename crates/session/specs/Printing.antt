-- The text of a view's items, said one after another.
use Rattle.std.specs.Prelude.{ℕ, Bool, true, false, List, [], ◌∷◌, ◌++◌, codes}
use Rattle.machine.specs.Texts.{listed}

-- what stands before an item
abbrev pub separator : Bool → List ℕ
separator true = []
separator false = codes ", "

-- the texts that are left to list, where none was listed yet or some were
abbrev pub listed_after : Bool → List (List ℕ) → List ℕ
listed_after true texts = listed texts
listed_after false [] = []
listed_after false (text ∷ texts) = codes ", " ++ listed (text ∷ texts)
