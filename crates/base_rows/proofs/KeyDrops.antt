-- What goes from a set or a map by its key, and by keys one after another.
use Rattle.std.proofs.Common.{◌≡◌, ℕ, suc, Bool, true, false, cond, ◌&&◌, ◌||◌, not, List, [], ◌∷◌, ◌++◌, take, drop, refl, sym, ap, ◌∙◌, subst}
use Rattle.std.specs.Prelude.{filter, is_some, Some, None}
use Rattle.std.specs.List.{IsDistinct, AllByRecursion, list_any}
use Rattle.std.specs.Map.{keys_of}
use Rattle.std.proofs.lemmas.List.{map-append, take-append-drop}
use Rattle.std.proofs.lemmas.List.Folds.{list_any-append}
use Rattle.std.proofs.lemmas.Option.{same_Some}
use Rattle.elem.specs.declared.elements.Elem.{Elem}
use Rattle.elem.specs.Elements.{same}
use Rattle.elem.specs.ElementLaws.{same-Decides}
use Rattle.elem.specs.Keyed.{value_at, without, HasDistinctKeys, IsPresent}
use Rattle.base_rows.proofs.DropLemmas.{one_more, present}
use Rattle.vocabulary.specs.declared.items.Item.{Item}
use Rattle.view_laws.proofs.ListLemmas.{filter-filter}

module _ {V : Type 0} (k : Elem) (test : Elem × V → Bool) where
  -- the rows without that of k, where it passes
  abbrev pub but_key : List (Elem × V) → List (Elem × V)
  but_key rows = filter (λ row. not (same k row.0 && test row)) rows

  other_keys : (rows : List (Elem × V)) → AllByRecursion (λ y. same k y ≡ false) (keys_of rows) → but_key rows ≡ rows
  other_keys [] h = refl
  other_keys (row ∷ rows) h = rw h.0 (ap (λ (rest : List (Elem × V)). row ∷ rest) (other_keys rows h.1))

  pub no_key : (rows : List (Elem × V)) → value_at rows k ≡ None → but_key rows ≡ rows
  no_key [] h = refl
  no_key (row ∷ rows) h = by (same k row.0) h (no_key rows)
    where
      by : (s : Bool) → cond s (Some row.1) (value_at rows k) ≡ None → (value_at rows k ≡ None → but_key rows ≡ rows) → cond (not (s && test row)) (row ∷ but_key rows) (but_key rows) ≡ row ∷ rows
      by true e ih = absurd (cc)
      by false e ih = ap (λ (rest : List (Elem × V)). row ∷ rest) (ih e)

  pub of_value : (rows : List (Elem × V)) (v : V) → HasDistinctKeys rows → value_at rows k ≡ Some v → but_key rows ≡ cond (test (k, v)) (without rows k) rows
  unfolding IsDistinct
  of_value [] v d h = absurd (cc)
  of_value (row ∷ rows) v d h = by (same k row.0) refl h (of_value rows v d.1)
    where
      turn : (b c : Bool) (rest : List (Elem × V)) → b ≡ c → rest ≡ rows → cond (not (true && c)) (row ∷ rest) rest ≡ cond b rows (row ∷ rows)
      turn true true rest e r = r
      turn false false rest e r = ap (λ (xs : List (Elem × V)). row ∷ xs) r
      turn true false rest e r = absurd (cc)
      turn false true rest e r = absurd (cc)

      skip : (c : Bool) (rest : List (Elem × V)) → rest ≡ cond c (without rows k) rows → row ∷ rest ≡ cond c (row ∷ without rows k) (row ∷ rows)
      skip true rest r = ap (λ (xs : List (Elem × V)). row ∷ xs) r
      skip false rest r = ap (λ (xs : List (Elem × V)). row ∷ xs) r

      by : (s : Bool) → same k row.0 ≡ s → cond s (Some row.1) (value_at rows k) ≡ Some v → (value_at rows k ≡ Some v → but_key rows ≡ cond (test (k, v)) (without rows k) rows)
          → cond (not (s && test row)) (row ∷ but_key rows) (but_key rows) ≡ cond (test (k, v)) (cond s rows (row ∷ without rows k)) (row ∷ rows)
      by true e f ih =
          let key : k ≡ row.0 = (same-Decides k row.0).0 e in
          let value : v ≡ row.1 = sym (same_Some row.1 v f) in
          let here : test (k, v) ≡ test row = λ i. test (key i, value i) in
          let rest = other_keys rows (subst (λ (x : Elem). AllByRecursion (λ y. same x y ≡ false) (keys_of rows)) (sym key) d.0) in
          turn (test (k, v)) (test row) (but_key rows) here rest
      by false e f ih = skip (test (k, v)) (but_key rows) (ih f)

-- ---- several, one after another

module _ {X : Type 0} (test : X → Bool) where
  -- those that do not pass both tests
  abbrev pub but : (X → Bool) → List X → List X
  but p xs = filter (λ x. not (p x && test x)) xs

  both_gone : (p q t : Bool) → (not (p && t) && not (q && t)) ≡ not ((p || q) && t)
  both_gone true q true = refl
  both_gone true true false = refl
  both_gone true false false = refl
  both_gone false q t = refl

  pub gone_more : (p q r : X → Bool) (old now new : List X) → ((x : X) → r x ≡ (p x || q x)) → now ≡ but p old → new ≡ but q now → new ≡ but r old
  gone_more p q r old now new is e f =
      f ∙ ap (but q) e ∙ filter-filter (λ x. not (q x && test x)) (λ x. not (p x && test x)) old
      ∙ ap (λ (s : X → Bool). filter s old) (λ i x. (both_gone (p x) (q x) (test x) ∙ ap (λ b. not (b && test x)) (sym (is x))) i)

  pub all_gone : (p : X → Bool) (old now : List X) → ((x : X) → test x ≡ true → p x ≡ true) → now ≡ but p old → now ≡ filter (λ x. not (test x)) old
  all_gone p old now covers e = e ∙ ap (λ (s : X → Bool). filter s old) (λ i x. ap not (by (test x) (covers x)) i)
    where
      by : {x : X} (t : Bool) → (t ≡ true → p x ≡ true) → (p x && t) ≡ t
      by {x} true h = ap (λ b. b && true) (h refl)
      by {x} false h = no (p x)
        where
          no : (b : Bool) → (b && false) ≡ false
          no true = refl
          no false = refl

pub none_stay : {X : Type 0} (test : X → Bool) (xs : List X) → ((x : X) → test x ≡ true) → [] ≡ filter (λ x. not (test x)) xs
none_stay test [] all = refl
none_stay test (x ∷ xs) all = rw (all x) (none_stay test xs all)

-- ---- keys, one after another

or-false : (b : Bool) → (b || false) ≡ b
or-false true = refl
or-false false = refl

-- one key more
pub any_more : {U : Type 0} (test : Elem → Bool) (old : List (Elem × U)) (i j : ℕ) (row : Elem × U) (rest : List (Elem × U)) → j ≡ suc i → drop i old ≡ row ∷ rest
    → list_any test (keys_of (take j old)) ≡ (list_any test (keys_of (take i old)) || test row.0)
any_more {U} test old i j row rest j_is at =
    ap (λ n. list_any test (keys_of (take n old))) j_is
    ∙ ap (λ (rows : List (Elem × U)). list_any test (keys_of rows)) (one_more i old row rest at).0
    ∙ ap (list_any test) (map-append (λ (r : Elem × U). r.0) (take i old) (row ∷ []))
    ∙ list_any-append test (keys_of (take i old)) (row.0 ∷ [])
    ∙ ap (λ b. list_any test (keys_of (take i old)) || b) (or-false (test row.0))

-- a row in its place is there, and the key behind it is that of the next
pub cut_here : {U : Type 0} (old : List (Elem × U)) (i : ℕ) (row : Elem × U) (rest : List (Elem × U)) → drop i old ≡ row ∷ rest → old ≡ take i old ++ row ∷ rest
cut_here {U} old i row rest at = sym (take-append-drop i old) ∙ ap (λ (rows : List (Elem × U)). take i old ++ rows) at

pub here_there : {U : Type 0} (old : List (Elem × U)) (i : ℕ) (k : Elem) (u : U) (rest : List (Elem × U)) → drop i old ≡ (k, u) ∷ rest → IsPresent old k
here_there {U} old i k u rest at = subst (λ (rows : List (Elem × U)). IsPresent rows k) (sym (cut_here old i (k, u) rest at)) (present (take i old) k u rest)

-- what is a key of rows is among their keys
pub among_keys : {U : Type 0} (rows : List (Elem × U)) (x : Elem) → is_some (value_at rows x) ≡ true → list_any (λ k. same k x) (keys_of rows) ≡ true
among_keys [] x h = absurd (cc)
among_keys (row ∷ rows) x h = by (same x row.0) refl h (among_keys rows x)
  where
    last : (c b : Bool) → b ≡ true → (c || b) ≡ true
    last true b e = refl
    last false b e = e

    by : (s : Bool) → same x row.0 ≡ s → is_some (cond s (Some row.1) (value_at rows x)) ≡ true → (is_some (value_at rows x) ≡ true → list_any (λ k. same k x) (keys_of rows) ≡ true)
        → (same row.0 x || list_any (λ k. same k x) (keys_of rows)) ≡ true
    by true e f ih = ap (λ b. b || list_any (λ k. same k x) (keys_of rows)) ((same-Decides row.0 x).1 (sym ((same-Decides x row.0).0 e)))
    by false e f ih = last (same row.0 x) (list_any (λ k. same k x) (keys_of rows)) (ih f)

-- each row that passes has one of the keys
pub keys_cover : {V U : Type 0} (row_of : Elem → V → Item) (passes : Item → Bool) (keys all : List (Elem × U)) → all ≡ keys
    → ((k : Elem) (v : V) → passes (row_of k v) ≡ true → is_some (value_at keys k) ≡ true) → (row : Elem × V) → passes (row_of row.0 row.1) ≡ true → list_any (λ k. same k row.0) (keys_of all) ≡ true
keys_cover {V} {U} row_of passes keys all e covers row h =
    ap (λ (rows : List (Elem × U)). list_any (λ k. same k row.0) (keys_of rows)) e ∙ among_keys keys row.0 (covers row.0 row.1 h)
