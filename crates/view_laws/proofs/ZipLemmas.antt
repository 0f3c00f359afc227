-- Two lists whose elements stand in a relation, one by one.
use Rattle.std.proofs.Common.{◌≡◌, ℕ, zero, suc, Bool, true, false, cond, List, [], ◌∷◌, ◌++◌, length, map, reverse, refl, ap, sym}
use Rattle.std.specs.Prelude.{drop, filter, flat_map, slice_get, take, Some}
use Rattle.std.proofs.lemmas.List.{reverse-append}
use Rattle.std.proofs.lemmas.Option.{same_Some}

abbrev pub Zipped : {X Y : Type 0} → (X → Y → Type 0) → List X → List Y → Type 0
Zipped R [] [] = Unit {0}
Zipped R [] (y ∷ ys) = ⊥
Zipped R (x ∷ xs) [] = ⊥
Zipped R (x ∷ xs) (y ∷ ys) = R x y × Zipped R xs ys

pub zipped-map : {X Y Z : Type 0} (R : X → Y → Type 0) (S : X → Z → Type 0) (g : Y → Z) → ((x : X) (y : Y) → R x y → S x (g y)) → (xs : List X) (ys : List Y) → Zipped R xs ys → Zipped S xs (map g ys)
zipped-map R S g h [] [] z = tt
zipped-map R S g h [] (y ∷ ys) z = absurd z
zipped-map R S g h (x ∷ xs) [] z = absurd z
zipped-map R S g h (x ∷ xs) (y ∷ ys) z = (h x y z.0, zipped-map R S g h xs ys z.1)

pub zipped-as : {X Y : Type 0} (R S : X → Y → Type 0) → ((x : X) (y : Y) → R x y → S x y) → (xs : List X) (ys : List Y) → Zipped R xs ys → Zipped S xs ys
zipped-as R S h [] [] z = tt
zipped-as R S h [] (y ∷ ys) z = absurd z
zipped-as R S h (x ∷ xs) [] z = absurd z
zipped-as R S h (x ∷ xs) (y ∷ ys) z = (h x y z.0, zipped-as R S h xs ys z.1)

pub zipped-append : {X Y : Type 0} (R : X → Y → Type 0) (xs us : List X) (ys vs : List Y) → Zipped R xs ys → Zipped R us vs → Zipped R (xs ++ us) (ys ++ vs)
zipped-append R [] us [] vs z w = w
zipped-append R [] us (y ∷ ys) vs z w = absurd z
zipped-append R (x ∷ xs) us [] vs z w = absurd z
zipped-append R (x ∷ xs) us (y ∷ ys) vs z w = (z.0, zipped-append R xs us ys vs z.1 w)

pub zipped-filter : {X Y : Type 0} (R : X → Y → Type 0) (p : X → Bool) (q : Y → Bool) → ((x : X) (y : Y) → R x y → p x ≡ q y) → (xs : List X) (ys : List Y) → Zipped R xs ys → Zipped R (filter p xs) (filter q ys)
zipped-filter R p q h [] [] z = tt
zipped-filter R p q h [] (y ∷ ys) z = absurd z
zipped-filter R p q h (x ∷ xs) [] z = absurd z
zipped-filter R p q h (x ∷ xs) (y ∷ ys) z = by (p x) (q y) (h x y z.0) (zipped-filter R p q h xs ys z.1)
  where
    by : (s t : Bool) → s ≡ t → Zipped R (filter p xs) (filter q ys) → Zipped R (cond s (x ∷ filter p xs) (filter p xs)) (cond t (y ∷ filter q ys) (filter q ys))
    by true true e rest = (z.0, rest)
    by false false e rest = rest
    by true false e rest = absurd (cc)
    by false true e rest = absurd (cc)

pub zipped-reverse : {X Y : Type 0} (R : X → Y → Type 0) (xs : List X) (ys : List Y) → Zipped R xs ys → Zipped R (reverse xs) (reverse ys)
zipped-reverse R [] [] z = tt
zipped-reverse R [] (y ∷ ys) z = absurd z
zipped-reverse R (x ∷ xs) [] z = absurd z
zipped-reverse R (x ∷ xs) (y ∷ ys) z =
    rw (reverse-append (x ∷ []) xs, reverse-append (y ∷ []) ys) (zipped-append R (reverse xs) (x ∷ []) (reverse ys) (y ∷ []) (zipped-reverse R xs ys z.1) (z.0, tt))

pub zipped-take : {X Y : Type 0} (R : X → Y → Type 0) (n : ℕ) (xs : List X) (ys : List Y) → Zipped R xs ys → Zipped R (take n xs) (take n ys)
zipped-take R zero xs ys z = tt
zipped-take R (suc n) [] [] z = tt
zipped-take R (suc n) [] (y ∷ ys) z = absurd z
zipped-take R (suc n) (x ∷ xs) [] z = absurd z
zipped-take R (suc n) (x ∷ xs) (y ∷ ys) z = (z.0, zipped-take R n xs ys z.1)

pub zipped-drop : {X Y : Type 0} (R : X → Y → Type 0) (n : ℕ) (xs : List X) (ys : List Y) → Zipped R xs ys → Zipped R (drop n xs) (drop n ys)
zipped-drop R zero xs ys z = z
zipped-drop R (suc n) [] [] z = tt
zipped-drop R (suc n) [] (y ∷ ys) z = absurd z
zipped-drop R (suc n) (x ∷ xs) [] z = absurd z
zipped-drop R (suc n) (x ∷ xs) (y ∷ ys) z = zipped-drop R n xs ys z.1

-- lists made of each of some keys
pub zipped-flat_map : {K X Y : Type 0} (R : X → Y → Type 0) (f : K → List X) (g : K → List Y) → ((k : K) → Zipped R (f k) (g k)) → (ks : List K) → Zipped R (flat_map f ks) (flat_map g ks)
zipped-flat_map R f g h [] = tt
zipped-flat_map R f g h (k ∷ ks) = zipped-append R (f k) (flat_map f ks) (g k) (flat_map g ks) (h k) (zipped-flat_map R f g h ks)

pub zipped-at : {X Y : Type 0} (R : X → Y → Type 0) (xs : List X) (ys : List Y) → Zipped R xs ys → (i : ℕ) (x : X) (y : Y) → slice_get xs i ≡ Some x → slice_get ys i ≡ Some y → R x y
zipped-at R [] [] z i x y p q = absurd (cc)
zipped-at R [] (b ∷ ys) z i x y p q = absurd z
zipped-at R (a ∷ xs) [] z i x y p q = absurd z
zipped-at R (a ∷ xs) (b ∷ ys) z zero x y p q = rw (sym (same_Some a x p), sym (same_Some b y q)) z.0
zipped-at R (a ∷ xs) (b ∷ ys) z (suc i) x y p q = zipped-at R xs ys z.1 i x y p q

pub zipped-length : {X Y : Type 0} (R : X → Y → Type 0) (xs : List X) (ys : List Y) → Zipped R xs ys → length xs ≡ length ys
zipped-length R [] [] z = refl
zipped-length R [] (y ∷ ys) z = absurd z
zipped-length R (x ∷ xs) [] z = absurd z
zipped-length R (x ∷ xs) (y ∷ ys) z = ap suc (zipped-length R xs ys z.1)
