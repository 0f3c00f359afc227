-- Which script the words of a command line name, and its bytes.
use Rattle.std.specs.Prelude.{◌≡◌, ℕ, ◌<◌, ◌≤◌, List, [], ◌∷◌, length, Option, codes}
use Rattle.shelf.specs.declared.words.Source.{Source}
use Rattle.shelf.specs.declared.words.Source.TheVariants.{Standard, File}

-- a script comes from standard input, or from the file of a path
pub data Script : Type 0 where
  standard : Script
  file : List ℕ → Script

-- a path that a script may have
pub record IsPath (path : List ℕ) : Type 0 where
  pub some : 0 < length path
  pub short : length path ≤ 255

-- the words name this script: `run`, or `run PATH`
abbrev pub Names : List (List ℕ) → Script → Type 0
Names words standard = words ≡ codes "run" ∷ []
Names words (file path) = (words ≡ codes "run" ∷ path ∷ []) × IsPath path

-- the bytes of a script, by those of standard input and of each file, where they are told
abbrev pub bytes_of : Script → Option (List ℕ) → (List ℕ → Option (List ℕ)) → Option (List ℕ)
bytes_of standard input files = input
bytes_of (file path) input files = files path

-- the script of a source
abbrev pub script_of : Source → Script
script_of Standard = standard
script_of (File path) = file path.now
