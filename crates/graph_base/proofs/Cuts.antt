-- Lists cut where an element passes a test.
use Rattle.std.proofs.Common.{◌≡◌, ℕ, zero, suc, Bool, true, false, cond, not, List, [], ◌∷◌, ◌++◌, map, length, Some, refl, sym, ap, ◌∙◌, arith, slice_get}
use Rattle.std.specs.List.{filter, AllByRecursion}

-- element number i of those that pass stands at some cut
pub nth_cut : {X : Type 0} (test : X → Bool) (xs : List X) (i : ℕ) (x : X) → slice_get (filter test xs) i ≡ Some x → (us : List X) × (vs : List X) × (xs ≡ us ++ x ∷ vs) × (test x ≡ true)
nth_cut test [] i x e = absurd (cc)
nth_cut {X} test (y ∷ ys) i x e = by_case (test y) refl i (nth_cut test ys) e
  where
    later : ((us : List X) × (vs : List X) × (ys ≡ us ++ x ∷ vs) × (test x ≡ true)) → (us : List X) × (vs : List X) × (y ∷ ys ≡ us ++ x ∷ vs) × (test x ≡ true)
    later f = (y ∷ f.0, f.1, ap (λ l. y ∷ l) f.2, f.3)

    by_case : (b : Bool) → test y ≡ b → (j : ℕ) → ((n : ℕ) (z : X) → slice_get (filter test ys) n ≡ Some z → (us : List X) × (vs : List X) × (ys ≡ us ++ z ∷ vs) × (test z ≡ true)) → slice_get (cond b (y ∷ filter test ys) (filter test ys)) j ≡ Some x
        → (us : List X) × (vs : List X) × (y ∷ ys ≡ us ++ x ∷ vs) × (test x ≡ true)
    by_case true t zero rest f =
        let equal : y ≡ x = cc in
        ([], ys, ap (λ z. z ∷ ys) equal, ap test (sym equal) ∙ t)
    by_case true t (suc j) rest f = later (rest j x f)
    by_case false t j rest f = later (rest j x f)

pub filter-map : {X Y : Type 0} (test : Y → Bool) (f : X → Y) (xs : List X) → filter test (map f xs) ≡ map f (filter (λ x. test (f x)) xs)
filter-map test f [] = refl
filter-map {X} {Y} test f (x ∷ xs) = by_case (test (f x)) (filter-map test f xs)
  where
    by_case : (b : Bool) → filter test (map f xs) ≡ map f (filter (λ x. test (f x)) xs) → cond b (f x ∷ filter test (map f xs)) (filter test (map f xs)) ≡ map f (cond b (x ∷ filter (λ x. test (f x)) xs) (filter (λ x. test (f x)) xs))
    by_case true e = ap (λ l. f x ∷ l) e
    by_case false e = e

-- where nothing passes, all fail
pub none_pass : {X : Type 0} (test : X → Bool) (xs : List X) → filter test xs ≡ [] → filter (λ x. not (test x)) xs ≡ xs
none_pass test [] e = refl
none_pass test (x ∷ xs) e = by_case (test x) (none_pass test xs) e
  where
    by_case : (b : Bool) → (filter test xs ≡ [] → filter (λ x. not (test x)) xs ≡ xs) → cond b (x ∷ filter test xs) (filter test xs) ≡ [] → cond (not b) (x ∷ filter (λ x. not (test x)) xs) (filter (λ x. not (test x)) xs) ≡ x ∷ xs
    by_case true rest f = absurd (cc)
    by_case false rest f = ap (λ l. x ∷ l) (rest f)

pub nothing : {X : Type 0} (xs : List X) → length xs ≡ 0 → xs ≡ []
nothing [] e = refl
nothing (x ∷ xs) e = absurd (omega arith)

module _ {X : Type 0} (P : X → Type 0) where
  pub all_join : (us vs : List X) → AllByRecursion P us → AllByRecursion P vs → AllByRecursion P (us ++ vs)
  all_join [] vs g h = h
  all_join (u ∷ us) vs g h = (g.0, all_join us vs g.1 h)

  pub all_left : (us vs : List X) → AllByRecursion P (us ++ vs) → AllByRecursion P us
  all_left [] vs h = tt
  all_left (u ∷ us) vs h = (h.0, all_left us vs h.1)

  pub all_right : (us vs : List X) → AllByRecursion P (us ++ vs) → AllByRecursion P vs
  all_right [] vs h = h
  all_right (u ∷ us) vs h = all_right us vs h.1

  pub all_without : (us : List X) (x : X) (vs : List X) → AllByRecursion P (us ++ x ∷ vs) → AllByRecursion P (us ++ vs)
  all_without us x vs h = all_join us vs (all_left us (x ∷ vs) h) (all_right us (x ∷ vs) h).1

  pub all_with : (us : List X) (x : X) (vs : List X) → P x → AllByRecursion P (us ++ vs) → AllByRecursion P (us ++ x ∷ vs)
  all_with us x vs p h = all_join us (x ∷ vs) (all_left us vs h) (p, all_right us vs h)

  pub all_map : (Q : X → Type 0) → ((x : X) → P x → Q x) → (xs : List X) → AllByRecursion P xs → AllByRecursion Q xs
  all_map Q f [] h = tt
  all_map Q f (x ∷ xs) h = (f x h.0, all_map Q f xs h.1)
