-- A row that comes to the groups of its fellows.
use Rattle.std.proofs.Common.{◌≡◌, ℕ, ◌+◌, ◌<◌, ◌≤◌, Bool, true, false, cond, ◌&&◌, List, [], ◌∷◌, ◌++◌, Option, Some, None, length, map, take, get_or, set, refl, sym, ap, ◌∙◌}
use Rattle.std.specs.Prelude.{is_none, IfSome}
use Rattle.std.specs.List.{filter, flat_map, list_any}
use Rattle.std.proofs.lemmas.List.{take_more, take_all, length-map, map-set, get_or-map}
use Rattle.elem.specs.declared.elements.Elem.{Elem}
use Rattle.elem.specs.Elements.{same}
use Rattle.elem.specs.ElementLaws.{same-Decides}
use Rattle.build_base.specs.declared.row.Row.{Row}
use Rattle.build_base.specs.declared.part.Part.TheVariants.{First}
use Rattle.build_base.specs.Rows.{alike, first_of}
use Rattle.build_base.specs.Kept.{firsts, those_like, groups_of, with_row, place_of}
use Rattle.build_base.proofs.RowLemmas.{alike-symm}
use Rattle.build_base.proofs.KeptLemmas.{firsts-push}
use Rattle.build_base.proofs.GroupLemmas.{any-firsts, groups_of-push, place_of-none, place_of-some, place_of-push, place_of-same, place_of-within}

once_and : (b : Bool) → b && b ≡ b
once_and true = refl
once_and false = refl

alike-first : (a b : Row) → alike First a b ≡ same (first_of a) (first_of b)
alike-first a b = once_and (same (first_of a) (first_of b))

congruent : (a b c : Row) → alike First a b ≡ true → alike First c b ≡ alike First a c
congruent a b c h = ap (λ (x : Elem). same (first_of c) x && same (first_of c) x) (sym ((same-Decides (first_of a) (first_of b)).0 (sym (alike-first a b) ∙ h))) ∙ alike-symm First c a

itself : (a : Row) → alike First a a ≡ true
itself a = alike-first a a ∙ (same-Decides (first_of a) (first_of a)).1 refl

abbrev heads_of : List Row → List Row
heads_of rows = firsts (alike First) rows

any-heads : (rs : List Row) (r : Row) → list_any (λ x. alike First x r) rs ≡ list_any (λ x. alike First x r) (heads_of rs)
any-heads rs r = sym (any-firsts (alike First) congruent (alike-symm First) r rs)

place-heads : (rs : List Row) (r : Row) → place_of (λ h. alike First h r) (heads_of rs) ≡ place_of (λ h. same (first_of h) (first_of r)) (heads_of rs)
place-heads rs r = place_of-same (λ h. alike First h r) (λ h. same (first_of h) (first_of r)) (λ h. alike-first h r) (heads_of rs)

pub groups_more : (rows : List Row) (i : ℕ) (r : Row) → i < length rows → r ≡ get_or rows i r → (o : Option ℕ) → o ≡ place_of (λ h. same (first_of h) (first_of r)) (heads_of (take i rows)) → (old new : List (List Row))
    → old ≡ groups_of (alike First) (take i rows) → new ≡ with_row o r old → new ≡ groups_of (alike First) (take (i + 1) rows)
groups_more rows i r h e o p old new g n =
    n ∙ ap (λ x. with_row x r old) (p ∙ sym (place-heads (take i rows) r)) ∙ ap (with_row (place_of (λ h. alike First h r) (heads_of (take i rows))) r) g
    ∙ sym (ap (groups_of (alike First)) (take_more rows i r h ∙ ap (λ x. take i rows ++ x ∷ []) (sym e)) ∙ groups_of-push (alike First) congruent (alike-symm First) itself (take i rows) r)

places_push : (rs : List Row) (r : Row) (q : Elem) (w o : Option ℕ) → w ≡ place_of (λ h. same (first_of h) (first_of r)) (heads_of rs) → o ≡ place_of (λ h. same (first_of h) q) (heads_of rs) → (same (first_of r) q ≡ true → w ≡ o)
    → cond (is_none w && same (first_of r) q) (Some (length (heads_of rs))) o ≡ place_of (λ h. same (first_of h) q) (heads_of (rs ++ r ∷ []))
places_push rs r q w o ew eo h = by w o (place-heads rs r ∙ sym ew) eo h ∙ sym (ap (place_of (λ h. same (first_of h) q)) (firsts-push (alike First) rs r ∙ ap (λ b. cond b (heads_of rs) (heads_of rs ++ r ∷ [])) (any-heads rs r)))
  where
    last : Option ℕ → Bool → Option ℕ
    last o b = cond (is_none o) (cond b (Some (length (heads_of rs))) None) o

    by : (w o : Option ℕ) → place_of (λ h. alike First h r) (heads_of rs) ≡ w → o ≡ place_of (λ h. same (first_of h) q) (heads_of rs) → (same (first_of r) q ≡ true → w ≡ o)
        → cond (is_none w && same (first_of r) q) (Some (length (heads_of rs))) o ≡ place_of (λ h. same (first_of h) q) (cond (list_any (λ x. alike First x r) (heads_of rs)) (heads_of rs) (heads_of rs ++ r ∷ []))
    by (Some j) o ew eo h = eo ∙ sym (ap (λ b. place_of (λ h. same (first_of h) q) (cond b (heads_of rs) (heads_of rs ++ r ∷ []))) (place_of-some (λ x. alike First x r) (heads_of rs) j ew))
    by None o ew eo h =
        at (same (first_of r) q) o h
        ∙ sym (ap (λ b. place_of (λ h. same (first_of h) q) (cond b (heads_of rs) (heads_of rs ++ r ∷ []))) (place_of-none (λ x. alike First x r) (heads_of rs) ew)
        ∙ place_of-push (λ h. same (first_of h) q) (heads_of rs) r ∙ ap (λ p. cond (is_none p) (cond (same (first_of r) q) (Some (length (heads_of rs))) None) p) (sym eo))
      where
        at : (t : Bool) (o : Option ℕ) → (t ≡ true → None ≡ o) → cond t (Some (length (heads_of rs))) o ≡ cond (is_none o) (cond t (Some (length (heads_of rs))) None) o
        at true None h = refl
        at true (Some j) h = absurd (let e = h refl in cc)
        at false None h = refl
        at false (Some j) h = refl

pub places_more : (rows : List Row) (i : ℕ) (r : Row) → i < length rows → r ≡ get_or rows i r → (old : Elem → Option ℕ) → ((q : Elem) → old q ≡ place_of (λ h. same (first_of h) q) (heads_of (take i rows))) → (n : ℕ) → n ≡ length (heads_of (take i rows))
    → (q : Elem) → cond (is_none (old (first_of r)) && same (first_of r) q) (Some n) (old q) ≡ place_of (λ h. same (first_of h) q) (heads_of (take (i + 1) rows))
places_more rows i r h e old p n en q =
    ap (λ m. cond (is_none (old (first_of r)) && same (first_of r) q) (Some m) (old q)) en
    ∙ places_push (take i rows) r q (old (first_of r)) (old q) (p (first_of r)) (p q) (λ t. ap old ((same-Decides (first_of r) q).0 t))
    ∙ sym (ap (λ rs. place_of (λ h. same (first_of h) q) (heads_of rs)) (take_more rows i r h ∙ ap (λ x. take i rows ++ x ∷ []) (sym e)))

pub length-groups : {A : Type 0} (f : A → List Row) (xs : List A) (rs : List Row) → map f xs ≡ groups_of (alike First) rs → length xs ≡ length (heads_of rs)
length-groups f xs rs e = sym (length-map xs f) ∙ ap length e ∙ length-map (heads_of rs) (λ head. filter (alike First head) rs)

joined : {A : Type 0} (f : A → List Row) (xs : List A) → flat_map f xs ≡ flat_map (λ (x : List Row). x) (map f xs)
joined f [] = refl
joined f (x ∷ xs) = ap (λ l. f x ++ l) (joined f xs)

those_like-joined : (heads rows : List Row) → those_like (alike First) heads rows ≡ flat_map (λ (x : List Row). x) (map (λ head. filter (alike First head) rows) heads)
those_like-joined [] rows = refl
those_like-joined (h ∷ heads) rows = ap (λ l. filter (alike First h) rows ++ l) (those_like-joined heads rows)

all_groups : {A : Type 0} (f : A → List Row) (xs : List A) (rows : List Row) → map f xs ≡ groups_of (alike First) rows → flat_map f xs ≡ those_like (alike First) (heads_of rows) rows
all_groups f xs rows e = joined f xs ∙ ap (flat_map (λ (x : List Row). x)) e ∙ sym (those_like-joined (heads_of rows) rows)

pub place_within : (rows : List Row) (n : ℕ) (q : Elem) (o : Option ℕ) → o ≡ place_of (λ h. same (first_of h) q) (heads_of rows) → n ≡ length (heads_of rows) → IfSome o (λ j. j < n)
place_within rows n q o e f = rw (e, f) (place_of-within (λ h. same (first_of h) q) (heads_of rows))

pub row_put : {A : Type 0} (f : A → List Row) (xs : List A) (j : ℕ) (d a : A) (row : Row) (o : Option ℕ) → j < length xs → o ≡ Some j → f a ≡ f (get_or xs j d) ++ row ∷ [] → map f (set xs j a) ≡ with_row o row (map f xs)
row_put f xs j d a row o h e g =
    map-set f xs j a ∙ ap (set (map f xs) j) (g ∙ ap (λ l. l ++ row ∷ []) (sym (get_or-map f xs j d [] h))) ∙ ap (λ p. with_row p row (map f xs)) (sym e)

-- the rows of all groups, where the walk over them has ended
pub all_rows : {A : Type 0} (xs given : List A) (f : A → List Row) (i : ℕ) (found rows : List Row) → found ≡ flat_map f (take i given) → length given ≤ i → given ≡ xs → map f xs ≡ groups_of (alike First) rows → found ≡ those_like (alike First) (heads_of rows) rows
all_rows xs given f i found rows e h g m = e ∙ ap (flat_map f) (take_all i given h ∙ g) ∙ all_groups f xs rows m
