-- A word's array gives the word back, and the word its array.
use Rattle.std.specs.Prelude.{◌≡◌, ℕ, ◌-◌, ◌+◌, ◌≤◌, min, List, length, take, replicate}
use Rattle.std.proofs.Common.{sym, ◌∙◌, ap, arith, length-append}
use Rattle.std.proofs.lemmas.List.{length-take, length-replicate}
use Rattle.elem.specs.Words.{IsPacked, packed}
use Rattle.elem.specs.declared.words.Word.TheInside.{Inside}

len_taken : (bytes : List ℕ) (len : ℕ) → IsPacked bytes len → length (take len bytes) ≡ len
len_taken bytes len h =
    let whole : length bytes ≡ length (take len bytes) + (24 - length (take len bytes)) =
    ap length h.rest ∙ length-append (take len bytes) (replicate (24 - length (take len bytes)) 0) ∙ ap (λ n. length (take len bytes) + n) (length-replicate (24 - length (take len bytes)) 0) in
    let cut : length (take len bytes) ≡ min len (length bytes) = length-take len bytes in
    let fits : len ≤ 24 = h.fits in
    omega arith

-- the fields that hold a word
abbrev pub inside_of : List ℕ → Inside
inside_of text = record { bytes = packed text; len = length text }

pub inside_of-view : (a : Inside) → IsPacked a.bytes a.len → inside_of (take a.len a.bytes) ≡ a
inside_of-view a h = λ i. record { bytes = sym h.rest i; len = len_taken a.bytes a.len h i }
