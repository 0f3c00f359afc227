-- Lists: parts that pass tests, and whether some pass.
use Rattle.std.proofs.Common.{◌≡◌, ℕ, zero, suc, Bool, true, false, cond, ◌&&◌, ◌||◌, List, [], ◌∷◌, ◌++◌, map, reverse, refl, ap, sym, ◌∙◌, subst}
use Rattle.std.specs.Prelude.{drop, filter, flat_map, slice_get, take, Some}
use Rattle.std.specs.List.{list_any, AllByRecursion}
use Rattle.std.proofs.lemmas.List.{reverse-append, append-nil}
use Rattle.std.proofs.lemmas.List.Elements.{filter-append}
use Rattle.std.proofs.lemmas.Option.{same_Some}

-- ---- truth values

pub and-true : (a : Bool) → a && true ≡ a
and-true true = refl
and-true false = refl

pub and-false : (a : Bool) → a && false ≡ false
and-false true = refl
and-false false = refl

pub and-assoc : (a b c : Bool) → (a && b && c) ≡ (a && (b && c))
and-assoc true b c = refl
and-assoc false b c = refl

pub both_true : (a b : Bool) → a && b ≡ true → (a ≡ true) × (b ≡ true)
both_true true true h = (refl, refl)
both_true true false h = cc
both_true false b h = cc

pub neither_true : (a b : Bool) → a || b ≡ false → (a ≡ false) × (b ≡ false)
neither_true true b h = cc
neither_true false b h = (refl, h)

-- the first of two tests, which the second implies, may be left out
pub and-implied : (a b : Bool) → (b ≡ true → a ≡ true) → a && b ≡ b
and-implied a true h = ap (λ c. c && true) (h refl)
and-implied a false h = and-false a

-- ---- parts

pub filter-all : {X : Type 0} (xs : List X) → filter (λ _. true) xs ≡ xs
filter-all [] = refl
filter-all (x ∷ xs) = ap (λ ys. x ∷ ys) (filter-all xs)

pub filter-filter : {X : Type 0} (p q : X → Bool) (xs : List X) → filter p (filter q xs) ≡ filter (λ x. q x && p x) xs
filter-filter p q [] = refl
filter-filter p q (x ∷ xs) =
    elim (q x) as (λ b. filter p (cond b (x ∷ filter q xs) (filter q xs)) ≡ cond (b && p x) (x ∷ filter (λ x. q x && p x) xs) (filter (λ x. q x && p x) xs)) [
      | true ↦ elim (p x) as (λ b. cond b (x ∷ filter p (filter q xs)) (filter p (filter q xs)) ≡ cond b (x ∷ filter (λ x. q x && p x) xs) (filter (λ x. q x && p x) xs)) [
        | true ↦ ap (λ ys. x ∷ ys) (filter-filter p q xs)
        | false ↦ filter-filter p q xs
      ]
      | false ↦ filter-filter p q xs
    ]

pub filter-map : {X Y : Type 0} (p : Y → Bool) (f : X → Y) (xs : List X) → filter p (map f xs) ≡ map f (filter (λ x. p (f x)) xs)
filter-map p f [] = refl
filter-map p f (x ∷ xs) =
    elim (p (f x)) as (λ b. cond b (f x ∷ filter p (map f xs)) (filter p (map f xs)) ≡ map f (cond b (x ∷ filter (λ x. p (f x)) xs) (filter (λ x. p (f x)) xs))) [
      | true ↦ ap (λ ys. f x ∷ ys) (filter-map p f xs)
      | false ↦ filter-map p f xs
    ]

pub filter-reverse : {X : Type 0} (p : X → Bool) (xs : List X) → filter p (reverse xs) ≡ reverse (filter p xs)
filter-reverse p [] = refl
filter-reverse p (x ∷ xs) =
    rw (reverse-append (x ∷ []) xs, filter-append p (reverse xs) (x ∷ []), filter-reverse p xs)
    (elim (p x) as (λ b. reverse (filter p xs) ++ cond b (x ∷ []) [] ≡ reverse (cond b (x ∷ filter p xs) (filter p xs))) [
      | true ↦ sym (reverse-append (x ∷ []) (filter p xs))
      | false ↦ append-nil (reverse (filter p xs))
    ])

-- ---- whether some pass

pub any-map : {X Y : Type 0} (p : Y → Bool) (f : X → Y) (xs : List X) → list_any p (map f xs) ≡ list_any (λ x. p (f x)) xs
any-map p f [] = refl
any-map p f (x ∷ xs) = ap (λ b. p (f x) || b) (any-map p f xs)

pub any-filter : {X : Type 0} (p q : X → Bool) (xs : List X) → list_any p (filter q xs) ≡ list_any (λ x. p x && q x) xs
any-filter p q [] = refl
any-filter p q (x ∷ xs) =
    elim (q x) as (λ b. list_any p (cond b (x ∷ filter q xs) (filter q xs)) ≡ (p x && b) || list_any (λ x. p x && q x) xs) [
      | true ↦ (λ i. sym (and-true (p x)) i || any-filter p q xs i)
      | false ↦ any-filter p q xs ∙ ap (λ b. b || list_any (λ x. p x && q x) xs) (sym (and-false (p x)))
    ]

pub any-append : {X : Type 0} (p : X → Bool) (xs ys : List X) → list_any p (xs ++ ys) ≡ (list_any p xs || list_any p ys)
any-append p [] ys = refl
any-append p (x ∷ xs) ys = by (p x) (any-append p xs ys)
  where
    by : (t : Bool) → list_any p (xs ++ ys) ≡ (list_any p xs || list_any p ys) → (t || list_any p (xs ++ ys)) ≡ ((t || list_any p xs) || list_any p ys)
    by true h = refl
    by false h = h

pub any-same : {X : Type 0} (p q : X → Bool) (xs : List X) → ((x : X) → p x ≡ q x) → list_any p xs ≡ list_any q xs
any-same p q xs same = ap (λ (f : _ → Bool). list_any f xs) (λ i x. same x i)

-- a test in front that tells the same of all
pub any-and : {X : Type 0} (b : Bool) (p q : X → Bool) (xs : List X) → ((x : X) → q x ≡ (b && p x)) → list_any q xs ≡ (b && list_any p xs)
any-and b p q [] h = sym (and-false b)
any-and {X} b p q (x ∷ xs) h = (λ i. h x i || any-and b p q xs h i) ∙ by b (p x) (list_any p xs)
  where
    by : (b s t : Bool) → ((b && s) || (b && t)) ≡ (b && (s || t))
    by true s t = refl
    by false s t = refl

-- ---- what holds of each

pub all-as : {X : Type 0} (P Q : X → Type 0) → ((x : X) → P x → Q x) → (xs : List X) → AllByRecursion P xs → AllByRecursion Q xs
all-as P Q h [] a = tt
all-as P Q h (x ∷ xs) a = (h x a.0, all-as P Q h xs a.1)

pub all-filter : {X : Type 0} (P : X → Type 0) (p : X → Bool) (xs : List X) → AllByRecursion P xs → AllByRecursion P (filter p xs)
all-filter P p [] a = tt
all-filter P p (x ∷ xs) a = by (p x) (all-filter P p xs a.1)
  where
    by : (t : Bool) → AllByRecursion P (filter p xs) → AllByRecursion P (cond t (x ∷ filter p xs) (filter p xs))
    by true rest = (a.0, rest)
    by false rest = rest

pub all-passing : {X : Type 0} (p : X → Bool) (xs : List X) → AllByRecursion (λ x. p x ≡ true) (filter p xs)
all-passing p [] = tt
all-passing p (x ∷ xs) = by (p x) refl (all-passing p xs)
  where
    by : (t : Bool) → p x ≡ t → AllByRecursion (λ x. p x ≡ true) (filter p xs) → AllByRecursion (λ x. p x ≡ true) (cond t (x ∷ filter p xs) (filter p xs))
    by true e rest = (e, rest)
    by false e rest = rest

pub all-append : {X : Type 0} (P : X → Type 0) (xs ys : List X) → AllByRecursion P xs → AllByRecursion P ys → AllByRecursion P (xs ++ ys)
all-append P [] ys a b = b
all-append P (x ∷ xs) ys a b = (a.0, all-append P xs ys a.1 b)

pub all-reverse : {X : Type 0} (P : X → Type 0) (xs : List X) → AllByRecursion P xs → AllByRecursion P (reverse xs)
all-reverse P [] a = tt
all-reverse P (x ∷ xs) a = subst (AllByRecursion P) (sym (reverse-append (x ∷ []) xs)) (all-append P (reverse xs) (x ∷ []) (all-reverse P xs a.1) (a.0, tt))

pub all-flat_map : {K X : Type 0} (P : X → Type 0) (f : K → List X) (ks : List K) → ((k : K) → AllByRecursion P (f k)) → AllByRecursion P (flat_map f ks)
all-flat_map P f [] h = tt
all-flat_map P f (k ∷ ks) h = all-append P (f k) (flat_map f ks) (h k) (all-flat_map P f ks h)

pub all-take : {X : Type 0} (P : X → Type 0) (n : ℕ) (xs : List X) → AllByRecursion P xs → AllByRecursion P (take n xs)
all-take P zero xs a = tt
all-take P (suc n) [] a = tt
all-take P (suc n) (x ∷ xs) a = (a.0, all-take P n xs a.1)

pub all-drop : {X : Type 0} (P : X → Type 0) (n : ℕ) (xs : List X) → AllByRecursion P xs → AllByRecursion P (drop n xs)
all-drop P zero xs a = a
all-drop P (suc n) [] a = tt
all-drop P (suc n) (x ∷ xs) a = all-drop P n xs a.1

pub all-map : {X Y : Type 0} (P : X → Type 0) (Q : Y → Type 0) (f : X → Y) → ((x : X) → P x → Q (f x)) → (xs : List X) → AllByRecursion P xs → AllByRecursion Q (map f xs)
all-map P Q f h [] a = tt
all-map P Q f h (x ∷ xs) a = (h x a.0, all-map P Q f h xs a.1)

pub all-at : {X : Type 0} (P : X → Type 0) (xs : List X) (i : ℕ) (x : X) → AllByRecursion P xs → slice_get xs i ≡ Some x → P x
all-at P [] i x a is = absurd (cc)
all-at P (y ∷ xs) zero x a is = subst P (same_Some y x is) a.0
all-at P (y ∷ xs) (suc i) x a is = all-at P xs i x a.1 is
