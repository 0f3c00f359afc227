-- Which rows are kept where one more comes behind them, and where they are turned round.
use Rattle.std.proofs.Common.{◌≡◌, ℕ, ◌+◌, ◌<◌, ◌≤◌, Bool, true, false, not, cond, ◌||◌, List, [], ◌∷◌, ◌++◌, length, reverse, take, get_or, nat_lt, append_assoc, refl, sym, ap, ◌∙◌, arith}
use Rattle.std.specs.List.{filter, list_any}
use Rattle.std.proofs.lemmas.Bool.Decides.{nat_tests}
use Rattle.std.proofs.lemmas.List.{reverse-append, take_more}
use Rattle.std.proofs.lemmas.List.Folds.{list_any-append, list_any_more}
use Rattle.build_base.specs.Kept.{firsts, lasts, has_twice, those_like}

module _ {R : Type 0} where
  pub filter-push : (p : R → Bool) (rows : List R) (r : R) → filter p (rows ++ r ∷ []) ≡ cond (p r) (filter p rows ++ r ∷ []) (filter p rows)
  filter-push p [] r = refl
  filter-push p (row ∷ rows) r = ap (λ l. cond (p row) (row ∷ l) l) (filter-push p rows r) ∙ by (p row) (p r)
    where
      by : (a b : Bool) → cond a (row ∷ cond b (filter p rows ++ r ∷ []) (filter p rows)) (cond b (filter p rows ++ r ∷ []) (filter p rows)) ≡ cond b (cond a (row ∷ filter p rows) (filter p rows) ++ r ∷ []) (cond a (row ∷ filter p rows) (filter p rows))
      by true true = refl
      by true false = refl
      by false true = refl
      by false false = refl

append-nil : {R : Type 0} (l : List R) → l ++ [] ≡ l
append-nil [] = refl
append-nil (x ∷ l) = ap (λ k. x ∷ k) (append-nil l)

module _ {R : Type 0} (alike : R → R → Bool) where
  pub firsts-push : (rows : List R) (r : R) → firsts alike (rows ++ r ∷ []) ≡ cond (list_any (λ x. alike x r) rows) (firsts alike rows) (firsts alike rows ++ r ∷ [])
  firsts-push [] r = refl
  firsts-push (row ∷ rows) r = ap (λ l. row ∷ filter (λ x. not (alike row x)) l) (firsts-push rows r) ∙ by (list_any (λ x. alike x r) rows) (alike row r) refl
    where
      kept : List R
      kept = firsts alike rows

      keeps : R → Bool
      keeps x = not (alike row x)

      by : (a b : Bool) → alike row r ≡ b → row ∷ filter keeps (cond a kept (kept ++ r ∷ [])) ≡ cond (b || a) (row ∷ filter keeps kept) ((row ∷ filter keeps kept) ++ r ∷ [])
      by true true e = refl
      by true false e = refl
      by false true e = ap (λ l. row ∷ l) (filter-push keeps kept r ∙ ap (λ t. cond (not t) (filter keeps kept ++ r ∷ []) (filter keeps kept)) e)
      by false false e = ap (λ l. row ∷ l) (filter-push keeps kept r ∙ ap (λ t. cond (not t) (filter keeps kept ++ r ∷ []) (filter keeps kept)) e)

  list_any-reverse : (p : R → Bool) (rows : List R) → list_any p (reverse rows) ≡ list_any p rows
  list_any-reverse p [] = refl
  list_any-reverse p (row ∷ rows) = ap (list_any p) (reverse-append (row ∷ []) rows) ∙ list_any-append p (reverse rows) (row ∷ []) ∙ ap (λ b. b || (p row || false)) (list_any-reverse p rows) ∙ by (p row) (list_any p rows)
    where
      by : (a b : Bool) → (b || (a || false)) ≡ (a || b)
      by true true = refl
      by true false = refl
      by false true = refl
      by false false = refl

  pub list_any-same : (p q : R → Bool) → ((x : R) → p x ≡ q x) → (rows : List R) → list_any p rows ≡ list_any q rows
  list_any-same p q e [] = refl
  list_any-same p q e (row ∷ rows) = ap (λ b. b || list_any p rows) (e row) ∙ ap (λ b. q row || b) (list_any-same p q e rows)

  pub lasts-reverse : ((a b : R) → alike a b ≡ alike b a) → (rows : List R) → lasts alike rows ≡ reverse (firsts alike (reverse rows))
  lasts-reverse symm [] = refl
  lasts-reverse symm (row ∷ rows) =
      sym (ap (λ l. reverse (firsts alike l)) (reverse-append (row ∷ []) rows) ∙ ap reverse (firsts-push (reverse rows) row)
      ∙ ap (λ b. reverse (cond b (firsts alike (reverse rows)) (firsts alike (reverse rows) ++ row ∷ []))) (list_any-reverse (λ x. alike x row) rows ∙ list_any-same (λ x. alike x row) (alike row) (λ x. symm x row) rows)
      ∙ by (sym (lasts-reverse symm rows)) (list_any (alike row) rows))
    where
      by : reverse (firsts alike (reverse rows)) ≡ lasts alike rows → (b : Bool) → reverse (cond b (firsts alike (reverse rows)) (firsts alike (reverse rows) ++ row ∷ [])) ≡ cond b (lasts alike rows) (row ∷ lasts alike rows)
      by back true = back
      by back false = reverse-append (firsts alike (reverse rows)) (row ∷ []) ∙ ap (λ l. row ∷ l) back

  -- a loop that keeps the first ones, at its row i
  pub firsts_more : (rows : List R) (i : ℕ) (r : R) → i < length rows → r ≡ get_or rows i r → (kept new : List R) (seen : Bool) → kept ≡ firsts alike (take i rows) → seen ≡ list_any (λ x. alike x r) (take i rows) → new ≡ cond seen kept (kept ++ r ∷ [])
      → new ≡ firsts alike (take (i + 1) rows)
  firsts_more rows i r h e kept new seen k s n =
      n ∙ ap (λ l. cond seen l (l ++ r ∷ [])) k ∙ ap (λ b. cond b (firsts alike (take i rows)) (firsts alike (take i rows) ++ r ∷ [])) s
      ∙ sym (ap (firsts alike) (take_more rows i r h ∙ ap (λ x. take i rows ++ x ∷ []) (sym e)) ∙ firsts-push (take i rows) r)

  pub any_more : (p : R → Bool) (rows : List R) (i : ℕ) (r : R) → i < length rows → r ≡ get_or rows i r → (had : Bool) → had ≡ list_any p (take i rows) → cond (p r) true had ≡ list_any p (take (i + 1) rows)
  any_more p rows i r h e had s = ap (cond (p r) true) s ∙ by (p r) (list_any p (take i rows)) ∙ sym (list_any_more p rows i r h ∙ ap (λ x. list_any p (take i rows) || p x) (sym e))
    where
      by : (a b : Bool) → cond a true b ≡ (b || a)
      by true true = refl
      by true false = refl
      by false true = refl
      by false false = refl

  -- nothing stands twice exactly where all rows are first ones
  length-filter-le : (p : R → Bool) (rows : List R) → length (filter p rows) ≤ length rows
  length-filter-le p [] = omega arith
  length-filter-le p (row ∷ rows) = by (p row) (length-filter-le p rows)
    where
      by : (b : Bool) → length (filter p rows) ≤ length rows → length (cond b (row ∷ filter p rows) (filter p rows)) ≤ length (row ∷ rows)
      by true h = omega arith
      by false h = omega arith

  length-firsts-le : (rows : List R) → length (firsts alike rows) ≤ length rows
  length-firsts-le [] = omega arith
  length-firsts-le (row ∷ rows) = let h = length-firsts-le rows in let f = length-filter-le (λ r. not (alike row r)) (firsts alike rows) in omega (arith, h, f)

  kept-filter : (test : R → Bool) (rows : List R) → list_any test rows ≡ false → filter (λ r. not (test r)) rows ≡ rows
  kept-filter test [] h = refl
  kept-filter test (row ∷ rows) h = by (test row) h (kept-filter test rows)
    where
      by : (b : Bool) → (b || list_any test rows) ≡ false → (list_any test rows ≡ false → filter (λ r. not (test r)) rows ≡ rows) → cond (not b) (row ∷ filter (λ r. not (test r)) rows) (filter (λ r. not (test r)) rows) ≡ row ∷ rows
      by true h f = cc
      by false h f = ap (λ l. row ∷ l) (f h)

  fewer-filter : (test : R → Bool) (rows : List R) → list_any test rows ≡ true → length (filter (λ r. not (test r)) rows) < length rows
  fewer-filter test [] h = cc
  fewer-filter test (row ∷ rows) h = by (test row) h (fewer-filter test rows) (length-filter-le (λ r. not (test r)) rows)
    where
      by : (b : Bool) → (b || list_any test rows) ≡ true → (list_any test rows ≡ true → length (filter (λ r. not (test r)) rows) < length rows) → length (filter (λ r. not (test r)) rows) ≤ length rows
          → length (cond (not b) (row ∷ filter (λ r. not (test r)) rows) (filter (λ r. not (test r)) rows)) < length (row ∷ rows)
      by true h f g = omega arith
      by false h f g = let less = f h in omega arith

  pub once : (rows : List R) → has_twice alike rows ≡ false → firsts alike rows ≡ rows
  once [] h = refl
  once (row ∷ rows) h = by (list_any (alike row) rows) refl h (once rows)
    where
      by : (b : Bool) → list_any (alike row) rows ≡ b → (b || has_twice alike rows) ≡ false → (has_twice alike rows ≡ false → firsts alike rows ≡ rows) → row ∷ filter (λ r. not (alike row r)) (firsts alike rows) ≡ row ∷ rows
      by true e h f = cc
      by false e h f = ap (λ l. row ∷ l) (ap (filter (λ r. not (alike row r))) (f h) ∙ kept-filter (alike row) rows e)

  pub twice : (rows : List R) → has_twice alike rows ≡ true → length (firsts alike rows) < length rows
  twice [] h = cc
  twice (row ∷ rows) h = by (has_twice alike rows) refl (list_any (alike row) rows) refl h (twice rows) (length-filter-le (λ r. not (alike row r)) (firsts alike rows))
    where
      by : (a : Bool) → has_twice alike rows ≡ a → (b : Bool) → list_any (alike row) rows ≡ b → (b || a) ≡ true → (has_twice alike rows ≡ true → length (firsts alike rows) < length rows) → length (filter (λ r. not (alike row r)) (firsts alike rows)) ≤ length (firsts alike rows)
          → length (row ∷ filter (λ r. not (alike row r)) (firsts alike rows)) < length (row ∷ rows)
      by true e b g h f l = let less = f e in omega arith
      by false e true g h f l =
          let all = once rows e in
          let less = fewer-filter (alike row) rows g in
          let some : length (filter (λ r. not (alike row r)) (firsts alike rows)) ≡ length (filter (λ r. not (alike row r)) rows) = ap (λ k. length (filter (λ r. not (alike row r)) k)) all in
          omega arith
      by false e false g h f l = cc

  pub has_twice-shorter : (rows : List R) → has_twice alike rows ≡ nat_lt (length (firsts alike rows)) (length rows)
  has_twice-shorter rows = by (has_twice alike rows) refl
    where
      by : (b : Bool) → has_twice alike rows ≡ b → b ≡ nat_lt (length (firsts alike rows)) (length rows)
      by true e = let less = twice rows e in grind (arith, nat_tests, less)
      by false e = let equal : length (firsts alike rows) ≡ length rows = ap length (once rows e) in grind (arith, nat_tests, equal)

  those_like-push : (heads : List R) (head : R) (rows : List R) → those_like alike (heads ++ head ∷ []) rows ≡ those_like alike heads rows ++ filter (alike head) rows
  those_like-push [] head rows = append-nil (filter (alike head) rows)
  those_like-push (h ∷ heads) head rows = ap (λ l. filter (alike h) rows ++ l) (those_like-push heads head rows) ∙ sym (append_assoc (filter (alike h) rows) (those_like alike heads rows) (filter (alike head) rows))

  pub those_more : (heads : List R) (i : ℕ) (r : R) → i < length heads → r ≡ get_or heads i r → (rows : List R) → those_like alike (take i heads) rows ++ filter (alike r) rows ≡ those_like alike (take (i + 1) heads) rows
  those_more heads i r h e rows = sym (ap (λ hs. those_like alike hs rows) (take_more heads i r h ∙ ap (λ x. take i heads ++ x ∷ []) (sym e)) ∙ those_like-push (take i heads) r rows)
