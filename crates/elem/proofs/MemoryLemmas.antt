-- What the fakes find and give.
use Rattle.std.proofs.Common.{◌≡◌, ℕ, ◌+◌, ◌<◌, ◌≤◌, Bool, true, false, not, ◌||◌, List, [], ◌∷◌, ◌++◌, length, take, drop, map, cond, nat_eq, nat_lt, Option, Some, None, Result, Ok, Err, refl, sym, ◌∙◌, ap, arith, suc}
use Rattle.std.specs.List.{position, position_or_len}
use Rattle.std.specs.Option.{is_none}
use Rattle.std.specs.Result.{is_ok}
use Rattle.std.specs.Cmp.Lexicographic.{pointwise}
use Rattle.std.proofs.lemmas.List.{drop-drop, take_at, take-append-drop, length-take, append-nil}
use Rattle.std.proofs.lemmas.Bool.Decides.{nat_tests}
use Rattle.elem.specs.declared.memory.MemFile.{MemFile}
use Rattle.elem.specs.Memory.{bytes_named}
use Rattle.elem.specs.MemoryFiles.{named, bytes_at}

abbrev has_name : List ℕ → MemFile → Bool
has_name path file = pointwise nat_eq file.name.items path

abbrev place_of : List ℕ → List MemFile → ℕ
place_of path files = position_or_len (has_name path) files

at_first : (path : List ℕ) (files : List MemFile) → place_of path files < length files → bytes_named (map named files) path ≡ Some (bytes_at (map named files) (place_of path files))
at_first path [] lt = absurd (omega arith)
at_first path (file ∷ files) lt = by (has_name path file) lt (at_first path files)
  where
    by : (b : Bool) → cond (not b) (1 + place_of path files) 0 < suc (length files) → (place_of path files < length files → bytes_named (map named files) path ≡ Some (bytes_at (map named files) (place_of path files)))
        → cond b (Some file.bytes.items) (bytes_named (map named files) path) ≡ Some (bytes_at (named file ∷ map named files) (cond (not b) (1 + place_of path files) 0))
    by true lt more = refl
    by false lt more = let e : suc (place_of path files) ≡ 1 + place_of path files = omega arith in more (omega arith) ∙ ap (λ n. Some (bytes_at (named file ∷ map named files) n)) e

-- a file that was found is the first of its name
found_file : (path : List ℕ) (files : List MemFile) (i : ℕ) → Some i ≡ position (has_name path) files → bytes_named (map named files) path ≡ Some (bytes_at (map named files) i)
found_file path files i e = by (nat_lt (place_of path files) (length files)) refl e
  where
    by : (b : Bool) → nat_lt (place_of path files) (length files) ≡ b → Some i ≡ cond b (Some (place_of path files)) None → bytes_named (map named files) path ≡ Some (bytes_at (map named files) i)
    by true t e = let lt : place_of path files < length files = grind (arith, nat_tests) in
        let here : place_of path files ≡ i = cc in
        at_first path files lt ∙ ap (λ n. Some (bytes_at (map named files) n)) here
    by false t e = absurd (cc)

at_none : (path : List ℕ) (files : List MemFile) → length files ≤ place_of path files → bytes_named (map named files) path ≡ None
at_none path [] le = refl
at_none path (file ∷ files) le = by (has_name path file) le (at_none path files)
  where
    by : (b : Bool) → suc (length files) ≤ cond (not b) (1 + place_of path files) 0 → (length files ≤ place_of path files → bytes_named (map named files) path ≡ None) → cond b (Some file.bytes.items) (bytes_named (map named files) path) ≡ None
    by true le more = absurd (omega arith)
    by false le more = more (omega arith)

-- a file that was not found has no bytes
missing_file : (path : List ℕ) (files : List MemFile) → None ≡ position (has_name path) files → bytes_named (map named files) path ≡ None
missing_file path files e = by (nat_lt (place_of path files) (length files)) refl e
  where
    by : (b : Bool) → nat_lt (place_of path files) (length files) ≡ b → None ≡ cond b (Some (place_of path files)) None → bytes_named (map named files) path ≡ None
    by true t e = absurd (cc)
    by false t e = let le : length files ≤ place_of path files = grind (arith, nat_tests) in at_none path files le

abbrev found : Bool → List ℕ → List MemFile → Option ℕ
found listed path files = cond listed None (position (has_name path) files)

-- an open that gives a file is not listed, and its path names that file
pub opens_file : (listed : Bool) (path : List ℕ) (files : List MemFile) (i : ℕ) → Some i ≡ found listed path files → (listed ≡ false) × (bytes_named (map named files) path ≡ Some (bytes_at (map named files) i))
opens_file true path files i e = absurd (cc)
opens_file false path files i e = (refl, found_file path files i e)

-- an open that gives no file is listed, or its path names none
pub opens_none : (listed : Bool) (path : List ℕ) (files : List MemFile) → None ≡ found listed path files → true ≡ (is_none (bytes_named (map named files) path) || listed)
opens_none true path files e = elim (is_none (bytes_named (map named files) path)) as (λ b. true ≡ (b || true)) [ true ↦ refl | false ↦ refl ]
opens_none false path files e = let none : bytes_named (map named files) path ≡ None = missing_file path files e in ap (λ t. is_none t || false) (sym none)

-- a read takes the next bytes from what is left
pub given : (source room piece : List ℕ) (at n : ℕ) → piece ≡ take n (drop at source) → n ≤ length (drop at source) → drop at source ≡ take n (piece ++ drop n room) ++ drop (at + n) source
given source room piece at n is fits =
    let len : length piece ≡ n = ap length is ∙ length-take n (drop at source) ∙ omega arith in
    sym (take-append-drop n (drop at source)) ∙ ap (λ t. t ++ drop n (drop at source)) (sym is ∙ sym (take_at piece (drop n room) n len)) ∙ ap (λ d. take n (piece ++ drop n room) ++ d) (drop-drop n at source)

-- a piece that does not fit is taken as far as it fits
pub part_taken : {E : Type 0} (kept : Result (Unit {0}) E) (old new piece : List ℕ) (n : ℕ) → new ≡ cond (is_ok kept) (old ++ take n piece) old → (x : List ℕ) × ((y : List ℕ) × piece ≡ x ++ y) × Some new ≡ Some (old ++ x)
part_taken (Ok u) old new piece n e = (take n piece, (drop n piece, sym (take-append-drop n piece)), ap Some e)
part_taken (Err f) old new piece n e = ([], (piece, refl), ap Some (e ∙ sym (append-nil old)))
