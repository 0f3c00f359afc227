-- The indexes of a list, one after another.
use Rattle.std.proofs.Common.{◌≡◌, ℕ, ◌+◌, ◌-◌, ◌<◌, ◌≤◌, Bool, true, false, List, length, refl, ap, sym, ◌∙◌, subst, arith}
use Rattle.std.specs.Prelude.{slice_get, Option, Some, None, option_map}
use Rattle.std.proofs.lemmas.Option.{same_Some, slice_get_past, slice_get_within}
use Rattle.vocabulary.specs.declared.items.Item.{Item}
use Rattle.view_laws.specs.declared.places.RowSpot.{RowSpot}
use Rattle.view_laws.specs.declared.places.RowSpot.TheVariants.{Index}
use Rattle.view_laws.specs.Following.{Follows, IsFrom}
use Rattle.view_laws.specs.Lanes.{turned_if}
use Rattle.base_rows.specs.BaseSpots.{numbered}
use Rattle.base_rows.proofs.SpotsTold.{length-numbered, number_at}
use Rattle.base_rows.proofs.TurnLemmas.{slice_get-reverse, reverse_past, reverse_at}

index_at : (rows : List Item) (i : ℕ) → i < length rows → slice_get (numbered 0 rows) i ≡ Some (Index i)
index_at rows i lt = number_at 0 rows i lt ∙ ap (λ k. Some (Index k)) (let e : 0 + i ≡ i = omega arith in e)

index_from_back : (rows : List Item) (i j : ℕ) → i < length rows → i + j + 1 ≡ length rows → slice_get (turned_if true (numbered 0 rows)) i ≡ Some (Index j)
index_from_back rows i j lt e =
    slice_get-reverse (numbered 0 rows) i (omega (arith, length-numbered 0 rows))
    ∙ ap (slice_get (numbered 0 rows)) (let f : length (numbered 0 rows) - 1 - i ≡ j = omega (arith, length-numbered 0 rows) in f)
    ∙ index_at rows j (omega arith)

past_indexes : (back : Bool) (rows : List Item) (i : ℕ) → length rows ≤ i → slice_get (turned_if back (numbered 0 rows)) i ≡ None
past_indexes true rows i le = reverse_past (numbered 0 rows) i (omega (arith, length-numbered 0 rows))
past_indexes false rows i le = slice_get_past (numbered 0 rows) i (omega (arith, length-numbered 0 rows))

-- the number of a spot
abbrev number_of : RowSpot → ℕ
number_of (Index i) = i
number_of other = 0

-- an index stands where it says
own_spot : (rows : List Item) (i n : ℕ) → slice_get (numbered 0 rows) i ≡ Some (Index n) → (n ≡ i) × (i < length rows)
own_spot rows i n is =
    let lt : i < length rows = omega (arith, slice_get_within (numbered 0 rows) i (Index n) is, length-numbered 0 rows) in
    let e : Index i ≡ Index n = same_Some (Index i) (Index n) (sym (index_at rows i lt) ∙ is) in
    (sym (ap number_of e), lt)

own_spot_back : (rows : List Item) (i n : ℕ) → slice_get (turned_if true (numbered 0 rows)) i ≡ Some (Index n) → (i + n + 1 ≡ length rows) × (n < length rows)
own_spot_back rows i n is =
    let at = reverse_at (numbered 0 rows) i (Index n) is in
    let own = own_spot rows at.0 n at.1 in
    (omega (arith, at.2, own.0, length-numbered 0 rows), omega (arith, own.0, own.1))

pub index_within : (rows : List Item) (back : Bool) (from : Option ℕ) (n : ℕ) → IsFrom (turned_if back (numbered 0 rows)) (option_map Index from) → from ≡ Some n → n < length rows
index_within rows back from n h f = by back (subst (λ o. IsFrom (turned_if back (numbered 0 rows)) (option_map Index o)) f h)
  where
    by : (back : Bool) → IsFrom (turned_if back (numbered 0 rows)) (Some (Index n)) → n < length rows
    by true at = (own_spot_back rows at.0 n at.1).1
    by false at = let own = own_spot rows at.0 n at.1 in omega (arith, own.0, own.1)

-- ---- the first, and what follows

pub first_from_back : (rows : List Item) (back : Bool) (n : ℕ) → back ≡ true → n + 1 ≡ length rows → slice_get (turned_if back (numbered 0 rows)) 0 ≡ Some (Index n)
first_from_back rows back n b e = rw b (index_from_back rows 0 n (omega arith) (omega arith))

pub first_from_front : (rows : List Item) (back : Bool) → back ≡ false → 0 < length rows → slice_get (turned_if back (numbered 0 rows)) 0 ≡ Some (Index 0)
first_from_front rows back b lt = rw b (index_at rows 0 lt)

pub no_first : (rows : List Item) (back : Bool) → length rows ≡ 0 → slice_get (turned_if back (numbered 0 rows)) 0 ≡ None
no_first rows back e = past_indexes back rows 0 (omega arith)

-- what follows an index in the line of a list's indexes
abbrev pub IndexFollows : List Item → Bool → Option ℕ → Option ℕ → Type 0
IndexFollows rows back from to = Follows (turned_if back (numbered 0 rows)) (option_map Index from) (option_map Index to)

pub follows_at_first : (rows : List Item) (back : Bool) (from to : Option ℕ) → from ≡ None → slice_get (turned_if back (numbered 0 rows)) 0 ≡ option_map Index to → IndexFollows rows back from to
follows_at_first rows back from to f h = rw f h

pub index_before : (rows : List Item) (back : Bool) (from : Option ℕ) (n : ℕ) → from ≡ Some n → back ≡ true → 0 < n → IndexFollows rows back from (Some (n - 1))
index_before rows back from n f b lt = rw (f, b) (λ i is.
    let own = own_spot_back rows i n is in
    index_from_back rows (i + 1) (n - 1) (omega (arith, own.0)) (omega (arith, own.0)))

pub no_index_before : (rows : List Item) (back : Bool) (from : Option ℕ) (n : ℕ) → from ≡ Some n → back ≡ true → n ≡ 0 → IndexFollows rows back from None
no_index_before rows back from n f b z = rw (f, b) (λ i is.
    let own = own_spot_back rows i n is in
    past_indexes true rows (i + 1) (omega (arith, own.0)))

pub index_after : (rows : List Item) (back : Bool) (from : Option ℕ) (n : ℕ) → from ≡ Some n → back ≡ false → n + 1 < length rows → IndexFollows rows back from (Some (n + 1))
index_after rows back from n f b lt = rw (f, b) (λ i is.
    let own = own_spot rows i n is in
    index_at rows (i + 1) (omega (arith, own.0)) ∙ ap (λ k. Some (Index k)) (let e : i + 1 ≡ n + 1 = omega (arith, own.0) in e))

pub no_index_after : (rows : List Item) (back : Bool) (from : Option ℕ) (n : ℕ) → from ≡ Some n → back ≡ false → length rows ≤ n + 1 → IndexFollows rows back from None
no_index_after rows back from n f b le = rw (f, b) (λ i is.
    let own = own_spot rows i n is in
    past_indexes false rows (i + 1) (omega (arith, own.0)))

-- what follows stands in the line, so there is such a row
stands_next : {X : Type 0} (xs : List X) (from : Option X) (x : X) → IsFrom xs from → Follows xs from (Some x) → IsFrom xs (Some x)
stands_next xs None x h f = (0, f)
stands_next xs (Some y) x h f = (h.0 + 1, f h.0 h.1)

pub next_within : (rows : List Item) (back : Bool) (from to : Option ℕ) (n : ℕ) → IsFrom (turned_if back (numbered 0 rows)) (option_map Index from) → IndexFollows rows back from to → to ≡ Some n → n < length rows
next_within rows back from to n h f is =
    index_within rows back (Some n) n (stands_next (turned_if back (numbered 0 rows)) (option_map Index from) (Index n) h (subst (λ o. IndexFollows rows back from o) is f)) refl
