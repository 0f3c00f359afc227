-- What a range has in common with rows and with other ranges, by their units.
use Rattle.std.proofs.Common.{◌≡◌, ℕ, ◌+◌, ◌<◌, ◌≤◌, Bool, true, false, cond, ◌&&◌, ◌||◌, nat_lt, List, [], ◌∷◌, Option, Some, None, refl, sym, ap, ◌∙◌, inl, inr, arith}
use Rattle.std.specs.Prelude.{nat_le, ◌↔◌, ⊤}
use Rattle.std.specs.Option.{option_map, unwrap_or}
use Rattle.std.proofs.lemmas.Bool.{cases_lt}
use Rattle.std.proofs.lemmas.Bool.Decides.{nat_tests}
use Rattle.elem.specs.declared.elements.Elem.{Elem}
use Rattle.elem.specs.declared.spans.Span.{Span}
use Rattle.elem.specs.PlaceLaws.{cut_before-places}
use Rattle.elem.specs.Places.{place}
use Rattle.range_base.specs.Rows.{Row, cover, in_units, IsSpaced, IsApart, IsDisjoint}
use Rattle.range_base.specs.Reads.{first_after, last_up_to}
use Rattle.range_base.specs.Spans.{row_of_span, row_of_entry}
use Rattle.build_base.specs.Units.{IsFree, IsLong, overlaps}

pub both_false : (a b : Bool) → a || b ≡ false → (a ≡ false) × (b ≡ false)
both_false true b h = cc
both_false false b h = (refl, h)

module _ {V : Type 0} where
  -- a row, where there is one, begins before hi and ends after lo
  abbrev pub near : ℕ → ℕ → Option (Row V) → Bool
  near lo hi None = false
  near lo hi (Some row) = nat_lt row.0 hi && nat_lt lo row.1.end

  -- where a row begins at a place or before it, the first one does
  up_to-from : (gap from c : ℕ) (rows : List (Row V)) (r : Row V) → IsSpaced gap from rows → last_up_to c rows ≡ Some r → from ≤ c
  up_to-from gap from c [] r s e = cc
  up_to-from gap from c (row ∷ rows) r s e = by (nat_le row.0 c) refl e
    where
      by : (b : Bool) → nat_le row.0 c ≡ b → cond b (Some (unwrap_or (last_up_to c rows) row)) None ≡ Some r → from ≤ c
      by true t e = let p = s.0 in grind (arith, nat_tests, t, p)
      by false t e = cc

  -- rows that begin late are free of what comes before
  free_before : (gap from lo hi : ℕ) (rows : List (Row V)) → IsSpaced gap from rows → hi ≤ from → IsFree lo hi rows
  free_before gap from lo hi [] s h u t = refl
  free_before gap from lo hi (row ∷ rows) s h u t =
      let p = s.0 in let q = s.1 in
      let rest = free_before gap (row.1.end + gap) lo hi rows s.2 (omega arith) u t in
      grind (arith, nat_tests, rest)

  -- where the two rows nearest to lo have nothing in common with a range, no row has
  free_by_two : (gap from lo hi : ℕ) (rows : List (Row V)) → IsSpaced gap from rows → near lo hi (last_up_to lo rows) ≡ false → near lo hi (first_after lo rows) ≡ false → IsFree lo hi rows
  free_by_two gap from lo hi [] s a b u t = refl
  free_by_two gap from lo hi (row ∷ rows) s a b u t = by (nat_lt lo row.0) refl b (last_up_to lo rows) refl (λ x y. free_by_two gap (row.1.end + gap) lo hi rows s.2 x y u t)
    where
      by : (c : Bool) → nat_lt lo row.0 ≡ c → near lo hi (cond c (Some row) (first_after lo rows)) ≡ false → (o : Option (Row V)) → last_up_to lo rows ≡ o
          → (near lo hi o ≡ false → near lo hi (first_after lo rows) ≡ false → cover rows u ≡ None) → cover (row ∷ rows) u ≡ None
      by true e b o w f =
          let q = s.1 in
          let late : hi ≤ row.0 = grind (arith, nat_tests, e, b, q) in
          let rest = free_before gap (row.1.end + gap) lo hi rows s.2 (omega arith) u t in
          grind (arith, nat_tests, rest, late)
      by false e b None w f =
          let le : nat_le row.0 lo ≡ true = grind (arith, nat_tests, e) in
          let here : near lo hi (Some row) ≡ false = sym (ap (λ c. near lo hi (cond c (Some (unwrap_or (last_up_to lo rows) row)) None)) le ∙ ap (λ o. near lo hi (Some (unwrap_or o row))) w) ∙ a in
          let rest = f refl b in
          grind (arith, nat_tests, rest, here)
      by false e b (Some r) w f =
          let le : nat_le row.0 lo ≡ true = grind (arith, nat_tests, e) in
          let here : near lo hi (Some r) ≡ false = sym (ap (λ c. near lo hi (cond c (Some (unwrap_or (last_up_to lo rows) row)) None)) le ∙ ap (λ o. near lo hi (Some (unwrap_or o row))) w) ∙ a in
          let rest = f here b in
          let ends = up_to-from gap (row.1.end + gap) lo rows r s.2 w in
          grind (arith, nat_tests, rest, ends)

  -- a row that is free of a range has nothing in common with it
  not_near : (lo hi : ℕ) → lo < hi → (row : Row V) → row.0 < row.1.end → ((u : ℕ) → in_units lo hi u ≡ true → in_units row.0 row.1.end u ≡ false) → near lo hi (Some row) ≡ false
  not_near lo hi h row n f = elim (cases_lt lo row.0) [
    | inl lt ↦ elim (cases_lt row.0 hi) [
      | inl less ↦ absurd (let t = f row.0 (let e : in_units lo hi row.0 ≡ true = grind (arith, nat_tests) in e) in grind (arith, nat_tests, t))
      | inr le ↦ grind (arith, nat_tests)
    ]
    | inr ge ↦ (let t = f lo (let e : in_units lo hi lo ≡ true = grind (arith, nat_tests) in e) in grind (arith, nat_tests, t))
  ]

  off : (a : Bool) (v : V) (o : Option V) → cond a (Some v) o ≡ None → (a ≡ false) × (o ≡ None)
  off true v o h = cc
  off false v o h = (refl, h)

  near-up_to : (gap from lo hi : ℕ) → lo < hi → (rows : List (Row V)) → IsSpaced gap from rows → IsFree lo hi rows → near lo hi (last_up_to lo rows) ≡ false
  near-up_to gap from lo hi h [] s f = refl
  near-up_to gap from lo hi h (row ∷ rows) s f = by (nat_le row.0 lo) (last_up_to lo rows) (near-up_to gap (row.1.end + gap) lo hi h rows s.2 (λ u t. (off (in_units row.0 row.1.end u) row.1.value (cover rows u) (f u t)).1))
    where
      by : (b : Bool) (o : Option (Row V)) → near lo hi o ≡ false → near lo hi (cond b (Some (unwrap_or o row)) None) ≡ false
      by true None e = not_near lo hi h row s.1 (λ u t. (off (in_units row.0 row.1.end u) row.1.value (cover rows u) (f u t)).0)
      by true (Some r) e = e
      by false o e = refl

  near-after : (gap from lo hi : ℕ) → lo < hi → (rows : List (Row V)) → IsSpaced gap from rows → IsFree lo hi rows → near lo hi (first_after lo rows) ≡ false
  near-after gap from lo hi h [] s f = refl
  near-after gap from lo hi h (row ∷ rows) s f = by (nat_lt lo row.0) (near-after gap (row.1.end + gap) lo hi h rows s.2 (λ u t. (off (in_units row.0 row.1.end u) row.1.value (cover rows u) (f u t)).1))
    where
      by : (b : Bool) → near lo hi (first_after lo rows) ≡ false → near lo hi (cond b (Some row) (first_after lo rows)) ≡ false
      by true e = not_near lo hi h row s.1 (λ u t. (off (in_units row.0 row.1.end u) row.1.value (cover rows u) (f u t)).0)
      by false e = e

  -- the two rows tell whether the rows are free of a range
  free_exactly : (gap from lo hi : ℕ) → lo < hi → (rows : List (Row V)) → IsSpaced gap from rows → (a b : Bool) → a ≡ near lo hi (last_up_to lo rows) → b ≡ near lo hi (first_after lo rows) → (r : Bool) → r ≡ a || b → (r ≡ false) ↔ IsFree lo hi rows
  free_exactly gap from lo hi h rows s a b ea eb r er = (to, back)
    where
      to : r ≡ false → IsFree lo hi rows
      to e = let two = both_false a b (sym er ∙ e) in free_by_two gap from lo hi rows s (sym ea ∙ two.0) (sym eb ∙ two.1)

      back : IsFree lo hi rows → r ≡ false
      back f = er ∙ rw (ea ∙ near-up_to gap from lo hi h rows s f, eb ∙ near-after gap from lo hi h rows s f) refl

near-span : (lo hi : ℕ) (o : Option Span) → overlaps lo hi o ≡ near lo hi (option_map row_of_span o)
near-span lo hi None = refl
near-span lo hi (Some s) = refl

near-entry : (lo hi : ℕ) (o : Option (Span × Elem)) → overlaps lo hi (option_map (λ (t : Span × Elem). t.0) o) ≡ near lo hi (option_map row_of_entry o)
near-entry lo hi None = refl
near-entry lo hi (Some t) = refl

pub in_order : (s : Span) → IsLong s → place s.lo < place s.hi
in_order s l = let test : nat_lt (place s.lo) (place s.hi) ≡ true = sym (cut_before-places s.lo s.hi l.whole.lo l.whole.hi l.lo l.hi) ∙ l.length in grind (arith, nat_tests, test)

module _ (s : Span) (long : IsLong s) (lo hi : ℕ) (el : lo ≡ place s.lo) (eh : hi ≡ place s.hi) (a b r : Bool) (er : r ≡ a || b) where
  pub free_of_set : (rows : List (Row ⊤)) → IsApart rows → (before after : Option Span) → option_map row_of_span before ≡ last_up_to (place s.lo) rows → option_map row_of_span after ≡ first_after (place s.lo) rows
      → a ≡ overlaps lo hi before → b ≡ overlaps lo hi after → (r ≡ false) ↔ IsFree (place s.lo) (place s.hi) rows
  free_of_set rows spaced before after eb ea ta tb = free_exactly 1 0 (place s.lo) (place s.hi) (in_order s long) rows spaced a b (by before (last_up_to (place s.lo) rows) a eb ta) (by after (first_after (place s.lo) rows) b ea tb) r er
    where
      by : (o : Option Span) (q : Option (Row ⊤)) (t : Bool) → option_map row_of_span o ≡ q → t ≡ overlaps lo hi o → t ≡ near (place s.lo) (place s.hi) q
      by o q t e f = f ∙ ap (λ (x : ℕ). overlaps x hi o) el ∙ ap (λ (x : ℕ). overlaps (place s.lo) x o) eh ∙ near-span (place s.lo) (place s.hi) o ∙ ap (near (place s.lo) (place s.hi)) e

  pub free_of_map : (rows : List (Row Elem)) → IsDisjoint rows → (before after : Option (Span × Elem)) → option_map row_of_entry before ≡ last_up_to (place s.lo) rows → option_map row_of_entry after ≡ first_after (place s.lo) rows
      → (sb sa : Option Span) → sb ≡ option_map (λ (t : Span × Elem). t.0) before → sa ≡ option_map (λ (t : Span × Elem). t.0) after → a ≡ overlaps lo hi sb → b ≡ overlaps lo hi sa → (r ≡ false) ↔ IsFree (place s.lo) (place s.hi) rows
  free_of_map rows spaced before after eb ea sb sa fb fa ta tb = free_exactly 0 0 (place s.lo) (place s.hi) (in_order s long) rows spaced a b (by before sb (last_up_to (place s.lo) rows) a eb fb ta) (by after sa (first_after (place s.lo) rows) b ea fa tb) r er
    where
      by : (o : Option (Span × Elem)) (os : Option Span) (q : Option (Row Elem)) (t : Bool) → option_map row_of_entry o ≡ q → os ≡ option_map (λ (t : Span × Elem). t.0) o → t ≡ overlaps lo hi os → t ≡ near (place s.lo) (place s.hi) q
      by o os q t e g f = f ∙ ap (λ (x : ℕ). overlaps x hi os) el ∙ ap (λ (x : ℕ). overlaps (place s.lo) x os) eh ∙ ap (overlaps (place s.lo) (place s.hi)) g ∙ near-entry (place s.lo) (place s.hi) o ∙ ap (near (place s.lo) (place s.hi)) e

pub either_first : (a b : Bool) → a ≡ true → a ≡ a || b
either_first true b h = refl
either_first false b h = cc

pub either_second : (a b : Bool) → a ≡ false → b ≡ a || b
either_second true b h = cc
either_second false b h = refl
