-- Inputs and a sink in memory, as contracts see them.
use Rattle.std.specs.Prelude.{ℕ, ◌+◌, ◌-◌, ◌^◌, min, Bool, ◌||◌, List, [], ◌++◌, length, take, drop, Option, None, Some, nat_eq, nat_le}
use Rattle.std.specs.Option.{is_none, unwrap_or}
use Rattle.std.specs.List.{list_any}
use Rattle.std.specs.Map.{lookup}
use Rattle.std.specs.Cmp.Lexicographic.{pointwise}

-- what standard input and each file has, what `read` has still to give, what was counted, and which opens and reads
-- are to fail, counted from 1; no read gives more than most bytes
pub record Supply : Type 0 where
  pub standard : List ℕ
  pub files : List (List ℕ × List ℕ)
  pub left : List ℕ
  pub given : ℕ
  pub open_faults : ℕ
  pub read_faults : ℕ
  pub failed_path : Option (List ℕ)
  pub opens : ℕ
  pub reads : ℕ
  pub failing_opens : List ℕ
  pub failing_reads : List ℕ
  pub most : ℕ

-- the bytes of the first file of a name
abbrev pub bytes_named : List (List ℕ × List ℕ) → List ℕ → Option (List ℕ)
bytes_named files name = lookup (λ known. pointwise nat_eq known name) files

-- inputs that nobody used: no file, no failure listed, nothing that is being read
abbrev pub unused : List ℕ → Supply
unused standard = record {
  standard = standard;
  files = [];
  left = [];
  given = 0;
  open_faults = 0;
  read_faults = 0;
  failed_path = None;
  opens = 0;
  reads = 0;
  failing_opens = [];
  failing_reads = [];
  most = 2 ^ 64 - 1;
}

-- one more, up to the last value of a u64
abbrev pub risen : ℕ → ℕ
risen n = min (n + 1) (2 ^ 64 - 1)

abbrev pub is_listed : List ℕ → ℕ → Bool
is_listed ns n = list_any (λ k. nat_eq k n) ns

-- an open fails exactly where its path names no file or a failure is listed
abbrev pub open_fails : Supply → List ℕ → Bool
open_fails m path = is_none (bytes_named m.files path) || is_listed m.failing_opens (risen m.opens)

-- a read fails exactly where a failure is listed
abbrev pub read_fails : Supply → Bool
read_fails m = is_listed m.failing_reads (risen m.reads)

-- after an open: the bytes of the file are next
abbrev pub opened : Supply → List ℕ → Supply
opened m path = record m { opens = risen m.opens; left = unwrap_or (bytes_named m.files path) [] }

-- after a failed open: the same bytes are next
abbrev pub unopened : Supply → List ℕ → Supply
unopened m path = record m { opens = risen m.opens; open_faults = risen m.open_faults; failed_path = Some path }

-- how many bytes a read gives: what is left, as far as the room and the most of a read go
abbrev pub next_count : Supply → ℕ → ℕ
next_count m room = min (min room (length m.left)) m.most

-- after a read of n bytes
abbrev pub after_read : Supply → ℕ → Supply
after_read m n = record m { reads = risen m.reads; left = drop n m.left; given = min (m.given + n) (2 ^ 64 - 1) }

-- after a failed read
abbrev pub unread : Supply → Supply
unread m = record m { reads = risen m.reads; read_faults = risen m.read_faults }

-- what was taken, how much room there was at first, and how often a piece did not fit
pub record Filled : Type 0 where
  pub taken : List ℕ
  pub room : ℕ
  pub faults : ℕ

-- a piece fits where the room has a place for each of its bytes
abbrev pub fits : Filled → List ℕ → Bool
fits s piece = nat_le (length s.taken + length piece) s.room

-- after a piece that fits
abbrev pub filled : Filled → List ℕ → Filled
filled s piece = record s { taken = s.taken ++ piece }

-- after a piece that does not fit: the part that fits was taken
abbrev pub overfilled : Filled → List ℕ → Filled
overfilled s piece = record s { taken = s.taken ++ take (s.room - length s.taken) piece; faults = risen s.faults }
