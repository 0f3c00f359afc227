-- The files that stand in the fakes, and what is being read of them.
use Rattle.std.specs.Prelude.{ℕ, ◌<◌, List, [], get_or}
use Rattle.elem.specs.declared.memory.Source.{Source}
use Rattle.elem.specs.declared.memory.Source.TheVariants.{Nothing, Standard, File}
use Rattle.elem.specs.declared.memory.MemFile.{MemFile}

abbrev pub named : MemFile → List ℕ × List ℕ
named file = (file.name.items, file.bytes.items)

abbrev pub bytes_at : List (List ℕ × List ℕ) → ℕ → List ℕ
bytes_at files i = (get_or files i ([], [])).1

-- the bytes that are being read
abbrev pub source_bytes : List ℕ → List (List ℕ × List ℕ) → Source → List ℕ
source_bytes standard files Nothing = []
source_bytes standard files Standard = standard
source_bytes standard files (File i) = bytes_at files i

abbrev pub IsSource : ℕ → Source → Type 0
IsSource count Nothing = Unit {0}
IsSource count Standard = Unit {0}
IsSource count (File i) = i < count
