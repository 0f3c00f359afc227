-- Rows in groups, each behind the first that is like it.
use Rattle.std.proofs.Common.{◌≡◌, ℕ, suc, ◌<◌, Bool, true, false, not, cond, ◌||◌, List, [], ◌∷◌, ◌++◌, Option, Some, None, length, map, get_or, set, refl, sym, ap, subst, ◌∙◌, arith}
use Rattle.std.specs.Prelude.{is_none, IfSome}
use Rattle.std.specs.Option.{option_map}
use Rattle.std.specs.List.{filter, list_any}
use Rattle.std.proofs.lemmas.List.{map_push}
use Rattle.build_base.specs.Kept.{firsts, has_twice, groups_of, with_row, place_of}
use Rattle.build_base.proofs.KeptLemmas.{filter-push, firsts-push, list_any-same}

module _ {R : Type 0} where
  -- ---- what a filter leaves
  any-filter : (p q : R → Bool) → ((x : R) → p x ≡ true → q x ≡ true) → (rows : List R) → list_any p (filter q rows) ≡ list_any p rows
  any-filter p q h [] = refl
  any-filter p q h (row ∷ rows) = by (q row) (p row) refl refl (any-filter p q h rows)
    where
      by : (a b : Bool) → q row ≡ a → p row ≡ b → list_any p (filter q rows) ≡ list_any p rows → list_any p (cond a (row ∷ filter q rows) (filter q rows)) ≡ b || list_any p rows
      by true b x y e = rw (y, e) refl
      by false true x y e = absurd (let f = h row y in cc)
      by false false x y e = e

  none-filter : (p q : R → Bool) (rows : List R) → list_any p rows ≡ false → list_any p (filter q rows) ≡ false
  none-filter p q [] h = refl
  none-filter p q (row ∷ rows) h = by (p row) refl (q row) h (none-filter p q rows)
    where
      by : (a : Bool) → p row ≡ a → (b : Bool) → a || list_any p rows ≡ false → (list_any p rows ≡ false → list_any p (filter q rows) ≡ false) → list_any p (cond b (row ∷ filter q rows) (filter q rows)) ≡ false
      by true x b h f = cc
      by false x true h f = rw (x, f h) refl
      by false x false h f = f h

  none_kept : (p : R → Bool) (rows : List R) → list_any p (filter (λ r. not (p r)) rows) ≡ false
  none_kept p [] = refl
  none_kept p (row ∷ rows) = by (p row) refl (none_kept p rows)
    where
      by : (a : Bool) → p row ≡ a → list_any p (filter (λ r. not (p r)) rows) ≡ false → list_any p (cond (not a) (row ∷ filter (λ r. not (p r)) rows) (filter (λ r. not (p r)) rows)) ≡ false
      by true x e = e
      by false x e = rw (x, e) refl

  empty_filter : (p : R → Bool) (rows : List R) → list_any p rows ≡ false → filter p rows ≡ []
  empty_filter p [] h = refl
  empty_filter p (row ∷ rows) h = by (p row) h (empty_filter p rows)
    where
      by : (a : Bool) → a || list_any p rows ≡ false → (list_any p rows ≡ false → filter p rows ≡ []) → cond a (row ∷ filter p rows) (filter p rows) ≡ []
      by true h f = cc
      by false h f = f h

  -- ---- places
  pub place_of-none : (p : R → Bool) (rows : List R) → place_of p rows ≡ None → list_any p rows ≡ false
  place_of-none p [] h = refl
  place_of-none p (row ∷ rows) h = by (p row) (place_of p rows) h (place_of-none p rows)
    where
      by : (a : Bool) (o : Option ℕ) → cond a (Some 0) (option_map suc o) ≡ None → (o ≡ None → list_any p rows ≡ false) → a || list_any p rows ≡ false
      by true o h f = cc
      by false None h f = f refl
      by false (Some j) h f = cc

  pub place_of-some : (p : R → Bool) (rows : List R) (j : ℕ) → place_of p rows ≡ Some j → list_any p rows ≡ true
  place_of-some p [] j h = cc
  place_of-some p (row ∷ rows) j h = by (p row) (place_of p rows) h (place_of-some p rows)
    where
      by : (a : Bool) (o : Option ℕ) → cond a (Some 0) (option_map suc o) ≡ Some j → ((k : ℕ) → o ≡ Some k → list_any p rows ≡ true) → a || list_any p rows ≡ true
      by true o h f = refl
      by false None h f = cc
      by false (Some k) h f = f k refl

  pub place_of-within : (p : R → Bool) (rows : List R) → IfSome (place_of p rows) (λ j. j < length rows)
  place_of-within p [] = tt
  place_of-within p (row ∷ rows) = by (p row) (place_of p rows) (place_of-within p rows)
    where
      by : (a : Bool) (o : Option ℕ) → IfSome o (λ j. j < length rows) → IfSome (cond a (Some 0) (option_map suc o)) (λ j. j < length (row ∷ rows))
      by true o h = omega arith
      by false None h = tt
      by false (Some j) h = omega arith

  pub place_of-same : (p q : R → Bool) → ((x : R) → p x ≡ q x) → (rows : List R) → place_of p rows ≡ place_of q rows
  place_of-same p q e [] = refl
  place_of-same p q e (row ∷ rows) = ap (λ b. cond b (Some 0) (option_map suc (place_of p rows))) (e row) ∙ ap (λ o. cond (q row) (Some 0) (option_map suc o)) (place_of-same p q e rows)

  pub place_of-push : (p : R → Bool) (rows : List R) (r : R) → place_of p (rows ++ r ∷ []) ≡ cond (is_none (place_of p rows)) (cond (p r) (Some (length rows)) None) (place_of p rows)
  place_of-push p [] r = refl
  place_of-push p (row ∷ rows) r = ap (λ o. cond (p row) (Some 0) (option_map suc o)) (place_of-push p rows r) ∙ by (p row) (p r) (place_of p rows)
    where
      by : (a b : Bool) (o : Option ℕ) → cond a (Some 0) (option_map suc (cond (is_none o) (cond b (Some (length rows)) None) o)) ≡ cond (is_none (cond a (Some 0) (option_map suc o))) (cond b (Some (length (row ∷ rows))) None) (cond a (Some 0) (option_map suc o))
      by true b o = refl
      by false true None = refl
      by false false None = refl
      by false b (Some j) = refl

module _ {R : Type 0} (alike : R → R → Bool) where
  has_twice-filter : (q : R → Bool) (rows : List R) → has_twice alike rows ≡ false → has_twice alike (filter q rows) ≡ false
  has_twice-filter q [] h = refl
  has_twice-filter q (row ∷ rows) h = by (list_any (alike row) rows) refl (q row) h (has_twice-filter q rows)
    where
      by : (a : Bool) → list_any (alike row) rows ≡ a → (b : Bool) → a || has_twice alike rows ≡ false → (has_twice alike rows ≡ false → has_twice alike (filter q rows) ≡ false) → has_twice alike (cond b (row ∷ filter q rows) (filter q rows)) ≡ false
      by true x b h f = cc
      by false x true h f = rw (none-filter (alike row) q rows x, f h) refl
      by false x false h f = f h

  firsts_once : (rows : List R) → has_twice alike (firsts alike rows) ≡ false
  firsts_once [] = refl
  firsts_once (row ∷ rows) = rw (none_kept (alike row) (firsts alike rows), has_twice-filter (λ r. not (alike row r)) (firsts alike rows) (firsts_once rows)) refl

  -- what is like r is like each that r is like
  abbrev pub IsCongruent : Type 0
  IsCongruent = (a b c : R) → alike a b ≡ true → alike c b ≡ alike a c

  pub any-firsts : IsCongruent → ((a b : R) → alike a b ≡ alike b a) → (r : R) (rows : List R) → list_any (λ x. alike x r) (firsts alike rows) ≡ list_any (λ x. alike x r) rows
  any-firsts con symm r [] = refl
  any-firsts con symm r (row ∷ rows) = by (alike row r) refl (any-firsts con symm r rows)
    where
      by : (a : Bool) → alike row r ≡ a → list_any (λ x. alike x r) (firsts alike rows) ≡ list_any (λ x. alike x r) rows → a || list_any (λ x. alike x r) (filter (λ x. not (alike row x)) (firsts alike rows)) ≡ a || list_any (λ x. alike x r) rows
      by true e f = refl
      by false e f = any-filter (λ x. alike x r) (λ x. not (alike row x)) (λ x g. ap not (apart x g)) (firsts alike rows) ∙ f
        where
          apart : (x : R) → alike x r ≡ true → alike row x ≡ false
          apart x g = symm row x ∙ sym (con x r row g) ∙ e

  none_like : (rs : List R) (r : R) (heads : List R) → list_any (λ h. alike h r) heads ≡ false → map (λ h. filter (alike h) (rs ++ r ∷ [])) heads ≡ map (λ h. filter (alike h) rs) heads
  none_like rs r [] n = refl
  none_like rs r (h ∷ heads) n = by (alike h r) refl n (none_like rs r heads)
    where
      by : (a : Bool) → alike h r ≡ a → a || list_any (λ x. alike x r) heads ≡ false → (list_any (λ x. alike x r) heads ≡ false → map (λ x. filter (alike x) (rs ++ r ∷ [])) heads ≡ map (λ x. filter (alike x) rs) heads)
          → filter (alike h) (rs ++ r ∷ []) ∷ map (λ x. filter (alike x) (rs ++ r ∷ [])) heads ≡ filter (alike h) rs ∷ map (λ x. filter (alike x) rs) heads
      by true e n f = cc
      by false e n f = let same : filter (alike h) (rs ++ r ∷ []) ≡ filter (alike h) rs = filter-push (alike h) rs r ∙ ap (λ t. cond t (filter (alike h) rs ++ r ∷ []) (filter (alike h) rs)) e in λ i. same i ∷ f n i

  some_like : IsCongruent → (rs : List R) (r : R) (heads : List R) → has_twice alike heads ≡ false → (j : ℕ) → place_of (λ h. alike h r) heads ≡ Some j
      → map (λ h. filter (alike h) (rs ++ r ∷ [])) heads ≡ set (map (λ h. filter (alike h) rs) heads) j (get_or (map (λ h. filter (alike h) rs) heads) j [] ++ r ∷ [])
  some_like con rs r [] o j e = cc
  some_like con rs r (h ∷ heads) o j e = by (alike h r) refl (list_any (alike h) heads) refl o (place_of (λ x. alike x r) heads) e (some_like con rs r heads)
    where
      groups : List (List R)
      groups = map (λ x. filter (alike x) rs) heads

      more : filter (alike h) (rs ++ r ∷ []) ≡ cond (alike h r) (filter (alike h) rs ++ r ∷ []) (filter (alike h) rs)
      more = filter-push (alike h) rs r

      by : (a : Bool) → alike h r ≡ a → (b : Bool) → list_any (alike h) heads ≡ b → b || has_twice alike heads ≡ false → (p : Option ℕ) → cond a (Some 0) (option_map suc p) ≡ Some j
          → (has_twice alike heads ≡ false → (k : ℕ) → p ≡ Some k → map (λ x. filter (alike x) (rs ++ r ∷ [])) heads ≡ set groups k (get_or groups k [] ++ r ∷ []))
          → filter (alike h) (rs ++ r ∷ []) ∷ map (λ x. filter (alike x) (rs ++ r ∷ [])) heads ≡ set (filter (alike h) rs ∷ groups) j (get_or (filter (alike h) rs ∷ groups) j [] ++ r ∷ [])
      by a x true y o p e f = cc
      by true x false y o p e f = at_first (same_place e)
        where
          same_place : Some 0 ≡ Some j → 0 ≡ j
          same_place e = cc

          others : map (λ x. filter (alike x) (rs ++ r ∷ [])) heads ≡ groups
          others = none_like rs r heads (list_any-same alike (λ z. alike z r) (alike h) (λ z. con h r z x) heads ∙ y)

          here : filter (alike h) (rs ++ r ∷ []) ≡ filter (alike h) rs ++ r ∷ []
          here = more ∙ ap (λ t. cond t (filter (alike h) rs ++ r ∷ []) (filter (alike h) rs)) x

          at_first : 0 ≡ j → filter (alike h) (rs ++ r ∷ []) ∷ map (λ x. filter (alike x) (rs ++ r ∷ [])) heads ≡ set (filter (alike h) rs ∷ groups) j (get_or (filter (alike h) rs ∷ groups) j [] ++ r ∷ [])
          at_first q = subst (λ (k : ℕ). filter (alike h) (rs ++ r ∷ []) ∷ map (λ x. filter (alike x) (rs ++ r ∷ [])) heads ≡ set (filter (alike h) rs ∷ groups) k (get_or (filter (alike h) rs ∷ groups) k [] ++ r ∷ [])) q (λ i. here i ∷ others i)
      by false x false y o None e f = cc
      by false x false y o (Some k) e f = later (same_place e)
        where
          same_place : Some (suc k) ≡ Some j → suc k ≡ j
          same_place e = cc

          here : filter (alike h) (rs ++ r ∷ []) ≡ filter (alike h) rs
          here = more ∙ ap (λ t. cond t (filter (alike h) rs ++ r ∷ []) (filter (alike h) rs)) x

          later : suc k ≡ j → filter (alike h) (rs ++ r ∷ []) ∷ map (λ x. filter (alike x) (rs ++ r ∷ [])) heads ≡ set (filter (alike h) rs ∷ groups) j (get_or (filter (alike h) rs ∷ groups) j [] ++ r ∷ [])
          later q = subst (λ (k : ℕ). filter (alike h) (rs ++ r ∷ []) ∷ map (λ x. filter (alike x) (rs ++ r ∷ [])) heads ≡ set (filter (alike h) rs ∷ groups) k (get_or (filter (alike h) rs ∷ groups) k [] ++ r ∷ [])) q (λ i. here i ∷ f o k refl i)

  -- the groups after one more row
  pub groups_of-push : IsCongruent → ((a b : R) → alike a b ≡ alike b a) → ((a : R) → alike a a ≡ true) → (rs : List R) (r : R) → groups_of alike (rs ++ r ∷ []) ≡ with_row (place_of (λ h. alike h r) (firsts alike rs)) r (groups_of alike rs)
  groups_of-push con symm self rs r = ap (map (λ h. filter (alike h) (rs ++ r ∷ []))) (firsts-push alike rs r ∙ ap (λ b. cond b (firsts alike rs) (firsts alike rs ++ r ∷ [])) (sym (any-firsts con symm r rs)))
      ∙ by (place_of (λ h. alike h r) (firsts alike rs)) refl
    where
      heads : List R
      heads = firsts alike rs

      by : (o : Option ℕ) → place_of (λ h. alike h r) heads ≡ o → map (λ h. filter (alike h) (rs ++ r ∷ [])) (cond (list_any (λ x. alike x r) heads) heads (heads ++ r ∷ [])) ≡ with_row o r (map (λ h. filter (alike h) rs) heads)
      by None e =
          let none = place_of-none (λ x. alike x r) heads e in
          let empty = empty_filter (alike r) rs (list_any-same alike (alike r) (λ x. alike x r) (λ x. symm r x) rs ∙ sym (any-firsts con symm r rs) ∙ none) in
          let own : filter (alike r) (rs ++ r ∷ []) ≡ r ∷ [] = filter-push (alike r) rs r ∙ ap (λ t. cond t (filter (alike r) rs ++ r ∷ []) (filter (alike r) rs)) (self r) ∙ ap (λ l. l ++ r ∷ []) empty in
          ap (λ b. map (λ h. filter (alike h) (rs ++ r ∷ [])) (cond b heads (heads ++ r ∷ []))) none ∙ map_push (λ h. filter (alike h) (rs ++ r ∷ [])) heads r
          ∙ ap (λ l. l ++ filter (alike r) (rs ++ r ∷ []) ∷ []) (none_like rs r heads none) ∙ ap (λ g. map (λ h. filter (alike h) rs) heads ++ g ∷ []) own
      by (Some j) e =
          ap (λ b. map (λ h. filter (alike h) (rs ++ r ∷ [])) (cond b heads (heads ++ r ∷ []))) (place_of-some (λ x. alike x r) heads j e)
          ∙ some_like con rs r heads (firsts_once rs) j e
