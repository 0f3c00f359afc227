-- Rows at places, found by their keys.
use Rattle.std.proofs.Common.{◌≡◌, ◌≢◌, ℕ, ◌+◌, Bool, true, false, cond, List, [], ◌∷◌, ◌++◌, Option, Some, None, refl, sym, ap, ◌∙◌, subst, arith, length-append}
use Rattle.std.specs.Option.{option_map}
use Rattle.std.specs.List.{cons_option, IsDistinct, AllByRecursion}
use Rattle.std.specs.Map.{lookup, keys_of}
use Rattle.std.proofs.lemmas.Map.{NonePasses, lookup-none, none_passes_from_lookup}
use Rattle.std.proofs.lemmas.List.Elements.{filter_map-append}
use Rattle.elem.specs.declared.elements.Elem.{Elem}
use Rattle.elem.specs.Elements.{same}
use Rattle.elem.specs.ElementLaws.{same-Decides, same_equiv}
use Rattle.linked_base.specs.Thread.{Avoids}
use Rattle.linked_base.specs.Places.{rows_of, keyed, IsIndexed}
use Rattle.linked_base.proofs.PlacesLemmas.{some_of, There, rows-append, rows-cons, rows_at, rows_beside}

-- the row of a key
module _ {V : Type 0} (at : ℕ → Option (Elem × V)) where
  abbrev pub keyed_at : (p : ℕ) → Option (Elem × ℕ)
  keyed_at p = option_map (λ r. (r.0, p)) (at p)

  pub keyed-append : (us vs : List ℕ) → keyed at (us ++ vs) ≡ keyed at us ++ keyed at vs
  keyed-append us vs = filter_map-append (λ p. option_map (λ r. (r.0, p)) (at p)) us vs

  pub keyed-cons : (p : ℕ) (ps : List ℕ) (r : Elem × V) → at p ≡ Some r → keyed at (p ∷ ps) ≡ (r.0, p) ∷ keyed at ps
  keyed-cons p ps r h = ap (λ x. cons_option (option_map (λ r. (r.0, p)) x) (keyed at ps)) h

  pub keyed_keys : (ps : List ℕ) → There at ps → keys_of (keyed at ps) ≡ keys_of (rows_of at ps)
  keyed_keys [] h = refl
  keyed_keys (p ∷ ps) h =
      let r = some_of (at p) h.0 in
      ap keys_of (keyed-cons p ps r.0 r.1) ∙ ap (λ l. r.0.0 ∷ l) (keyed_keys ps h.1) ∙ sym (ap keys_of (rows-cons at p ps r.0 r.1))

  module _ (test : Elem → Bool) where
    pub none_keyed : (ps : List ℕ) → There at ps → NonePasses test (keyed at ps) → NonePasses test (rows_of at ps)
    none_keyed [] h n = tt
    none_keyed (p ∷ ps) h n =
        let r = some_of (at p) h.0 in
        let m = subst (NonePasses test) (keyed-cons p ps r.0 r.1) n in
        subst (NonePasses test) (sym (rows-cons at p ps r.0 r.1)) (m.0, none_keyed ps h.1 m.1)

    pub none_rows : (ps : List ℕ) → There at ps → NonePasses test (rows_of at ps) → NonePasses test (keyed at ps)
    none_rows [] h n = tt
    none_rows (p ∷ ps) h n =
        let r = some_of (at p) h.0 in
        let m = subst (NonePasses test) (rows-cons at p ps r.0 r.1) n in
        subst (NonePasses test) (sym (keyed-cons p ps r.0 r.1)) (m.0, none_rows ps h.1 m.1)

    -- a key that the index lacks has no row, and the other way round
    pub absent_row : (ps : List ℕ) → There at ps → lookup test (keyed at ps) ≡ None → lookup test (rows_of at ps) ≡ None
    absent_row ps h e = lookup-none test (rows_of at ps) (none_keyed ps h (none_passes_from_lookup test (keyed at ps) e))

    pub absent_place : (ps : List ℕ) → There at ps → lookup test (rows_of at ps) ≡ None → lookup test (keyed at ps) ≡ None
    absent_place ps h e = lookup-none test (keyed at ps) (none_rows ps h (none_passes_from_lookup test (rows_of at ps) e))

    -- the list is cut at p, where the first row is that passes
    pub record IsCut (ps : List ℕ) (p : ℕ) (us vs : List ℕ) (r : Elem × V) : Type 0 where
      pub places : ps ≡ us ++ p ∷ vs
      pub here : at p ≡ Some r
      pub passes : test r.0 ≡ true
      pub before : NonePasses test (rows_of at us)

    pub cut_found : (ps : List ℕ) (p : ℕ) → There at ps → lookup test (keyed at ps) ≡ Some p → (us : List ℕ) × (vs : List ℕ) × (r : Elem × V) × IsCut ps p us vs r
    cut_found [] p h e = absurd (cc)
    cut_found (q ∷ ps) p h e =
        let r = some_of (at q) h.0 in
        split r.0 r.1 (cut_found ps p h.1) (test r.0.0) refl (sym (ap (lookup test) (keyed-cons q ps r.0 r.1)) ∙ e)
      where
        split : (r : Elem × V) → at q ≡ Some r → (lookup test (keyed at ps) ≡ Some p → (us : List ℕ) × (vs : List ℕ) × (s : Elem × V) × IsCut ps p us vs s) → (b : Bool) → test r.0 ≡ b → cond (test r.0) (Some q) (lookup test (keyed at ps)) ≡ Some p
            → (us : List ℕ) × (vs : List ℕ) × (s : Elem × V) × IsCut (q ∷ ps) p us vs s
        split r here later true t f =
            let g = sym (ap (λ b. cond b (Some q) (lookup test (keyed at ps))) t) ∙ f in
            let equal : q ≡ p = cc in
            ([], ps, r, record { places = ap (λ x. x ∷ ps) equal; here = ap at (sym equal) ∙ here; passes = t; before = tt })
        split r here later false t f =
            let rest = later (sym (ap (λ b. cond b (Some q) (lookup test (keyed at ps))) t) ∙ f) in
            let c = rest.3 in
            (q ∷ rest.0, rest.1, rest.2, record { places = ap (λ l. q ∷ l) c.places; here = c.here; passes = c.passes; before = subst (NonePasses test) (sym (rows-cons at q rest.0 r here)) (t, c.before) })

    pub cut_rows : (ps : List ℕ) (p : ℕ) (us vs : List ℕ) (r : Elem × V) → IsCut ps p us vs r → rows_of at ps ≡ rows_of at us ++ r ∷ rows_of at vs
    cut_rows ps p us vs r c = ap (rows_of at) c.places ∙ rows_at at us p vs r c.here

-- tests of keys in parts of a list
module _ {K X : Type 0} (test : K → Bool) where
  pub none_left : (us vs : List (K × X)) → NonePasses test (us ++ vs) → NonePasses test us
  none_left [] vs h = tt
  none_left (u ∷ us) vs h = (h.0, none_left us vs h.1)

  pub none_right : (us vs : List (K × X)) → NonePasses test (us ++ vs) → NonePasses test vs
  none_right [] vs h = h
  none_right (u ∷ us) vs h = none_right us vs h.1

module _ {V : Type 0} where
  -- the look-up of any key where a new key was put in the middle
  pub lookup_with : (us : List (Elem × V)) (k : Elem) (w : V) (vs : List (Elem × V)) → NonePasses (same k) (us ++ vs) → (q : Elem) → lookup (same q) (us ++ (k, w) ∷ vs) ≡ cond (same k q) (Some w) (lookup (same q) (us ++ vs))
  lookup_with [] k w vs h q = ap (λ b. cond b (Some w) (lookup (same q) vs)) (same_equiv.symm q k)
  lookup_with (u ∷ us) k w vs h q = step (same q u.0) refl (lookup_with us k w vs h.1 q)
    where
      step : (b : Bool) → same q u.0 ≡ b → lookup (same q) (us ++ (k, w) ∷ vs) ≡ cond (same k q) (Some w) (lookup (same q) (us ++ vs))
          → cond (same q u.0) (Some u.1) (lookup (same q) (us ++ (k, w) ∷ vs)) ≡ cond (same k q) (Some w) (cond (same q u.0) (Some u.1) (lookup (same q) (us ++ vs)))
      step true e ih =
          let apart : same k q ≡ false = ap (same k) ((same-Decides q u.0).0 e) ∙ h.0 in
          ap (λ b. cond b (Some u.1) (lookup (same q) (us ++ (k, w) ∷ vs))) e ∙ sym (ap (λ b. cond b (Some w) (cond (same q u.0) (Some u.1) (lookup (same q) (us ++ vs)))) apart ∙ ap (λ b. cond b (Some u.1) (lookup (same q) (us ++ vs))) e)
      step false e ih =
          ap (λ b. cond b (Some u.1) (lookup (same q) (us ++ (k, w) ∷ vs))) e ∙ ih ∙ sym (ap (λ b. cond (same k q) (Some w) (cond b (Some u.1) (lookup (same q) (us ++ vs)))) e)

  -- distinct keys without, and with, one in the middle
  none_keys : (test : Elem → Bool) (es : List (Elem × V)) → NonePasses test es → AllByRecursion (λ y. test y ≡ false) (keys_of es)
  none_keys test [] h = tt
  none_keys test (e ∷ es) h = (h.0, none_keys test es h.1)

  keys_none : (test : Elem → Bool) (es : List (Elem × V)) → AllByRecursion (λ y. test y ≡ false) (keys_of es) → NonePasses test es
  keys_none test [] h = tt
  keys_none test (e ∷ es) h = (h.0, keys_none test es h.1)

  none_join : (test : Elem → Bool) (us vs : List (Elem × V)) → NonePasses test us → NonePasses test vs → NonePasses test (us ++ vs)
  none_join test [] vs g h = h
  none_join test (u ∷ us) vs g h = (g.0, none_join test us vs g.1 h)

  pub distinct_without : (us : List (Elem × V)) (r : Elem × V) (vs : List (Elem × V)) → IsDistinct same (keys_of (us ++ r ∷ vs)) → IsDistinct same (keys_of (us ++ vs)) × NonePasses (same r.0) (us ++ vs)
  unfolding IsDistinct
  distinct_without [] r vs d = (d.1, keys_none (same r.0) vs d.0)
  distinct_without (u ∷ us) r vs d =
      let first = keys_none (same u.0) (us ++ r ∷ vs) d.0 in
      let later = none_right (same u.0) us (r ∷ vs) first in
      let rest = distinct_without us r vs d.1 in
      ((none_keys (same u.0) (us ++ vs) (none_join (same u.0) us vs (none_left (same u.0) us (r ∷ vs) first) later.1), rest.0), (same_equiv.symm r.0 u.0 ∙ later.0, rest.1))

  pub distinct_with : (us : List (Elem × V)) (r : Elem × V) (vs : List (Elem × V)) → NonePasses (same r.0) (us ++ vs) → IsDistinct same (keys_of (us ++ vs)) → IsDistinct same (keys_of (us ++ r ∷ vs))
  unfolding IsDistinct
  distinct_with [] r vs n d = (none_keys (same r.0) vs n, d)
  distinct_with (u ∷ us) r vs n d =
      let first = keys_none (same u.0) (us ++ vs) d.0 in
      (none_keys (same u.0) (us ++ r ∷ vs) (none_join (same u.0) us (r ∷ vs) (none_left (same u.0) us vs first) (same_equiv.symm u.0 r.0 ∙ n.0, none_right (same u.0) us vs first)), distinct_with us r vs n.1 d.1)

-- an index kept: a row taken out, and one put in
module _ {V : Type 0} (at new : ℕ → Option (Elem × V)) (find found : Elem → Option ℕ) (len more : ℕ) (us : List ℕ) (p : ℕ) (vs : List ℕ) (others : (q : ℕ) → q ≢ p → new q ≡ at q) (apart : Avoids (Some p) (us ++ vs)) where
  same_rows : rows_of new (us ++ vs) ≡ rows_of at (us ++ vs)
  same_rows = rows_beside at new p (us ++ vs) others apart

  same_keyed : keyed new (us ++ vs) ≡ keyed at (us ++ vs)
  same_keyed = rows_beside (keyed_at at) (keyed_at new) p (us ++ vs) (λ q h. ap (option_map (λ r. (r.0, q))) (others q h)) apart

  pub indexed_without : (r : Elem × V) (k : Elem) → There at (us ++ p ∷ vs) → at p ≡ Some r → same k r.0 ≡ true → ((q : Elem) → found q ≡ cond (same k q) None (find q)) → more + 1 ≡ len
      → IsIndexed at find len (us ++ p ∷ vs) → IsIndexed new found more (us ++ vs)
  indexed_without r k all here passes updates fewer h =
      let rows : rows_of at (us ++ p ∷ vs) ≡ rows_of at us ++ r ∷ rows_of at vs = rows_at at us p vs r here in
      let keys : keyed at (us ++ p ∷ vs) ≡ keyed at us ++ (r.0, p) ∷ keyed at vs = keyed-append at us (p ∷ vs) ∙ ap (λ l. keyed at us ++ l) (keyed-cons at p vs r here) in
      let d = distinct_without (rows_of at us) r (rows_of at vs) (subst (λ l. IsDistinct same (keys_of l)) rows h.distinct) in
      let dk : IsDistinct same (keys_of (keyed at us ++ (r.0, p) ∷ keyed at vs)) = subst (λ l. IsDistinct same (keys_of l)) keys (subst (IsDistinct same) (sym (keyed_keys at (us ++ p ∷ vs) all)) h.distinct) in
      let nk = (distinct_without (keyed at us) (r.0, p) (keyed at vs) dk).1 in
      let equal : k ≡ r.0 = (same-Decides k r.0).0 passes in
      record {
        exact = λ q.
            updates q ∙ ap (cond (same k q) None) (h.exact q ∙ ap (lookup (same q)) keys) ∙ ap (λ x. cond (same x q) None (lookup (same q) (keyed at us ++ (r.0, p) ∷ keyed at vs))) equal
            ∙ taken (keyed at us) (r.0, p) (keyed at vs) nk q ∙ ap (lookup (same q)) (sym (same_keyed ∙ keyed-append at us vs));
        count = let total = h.count in omega (arith, length-append us (p ∷ vs), length-append us vs);
        distinct = subst (λ l. IsDistinct same (keys_of l)) (sym (same_rows ∙ rows-append at us vs)) d.0;
      }
    where
      step : (xs : List (Elem × ℕ)) (e : Elem × ℕ) (ys : List (Elem × ℕ)) → NonePasses (same e.0) (xs ++ ys) → (q : Elem) (b : Bool) → same e.0 q ≡ b → cond b None (cond b (Some e.1) (lookup (same q) (xs ++ ys))) ≡ lookup (same q) (xs ++ ys)
      step xs e ys n q true t = sym (lookup-none (same q) (xs ++ ys) (subst (λ x. NonePasses (same x) (xs ++ ys)) ((same-Decides e.0 q).0 t) n))
      step xs e ys n q false t = refl

      taken : (xs : List (Elem × ℕ)) (e : Elem × ℕ) (ys : List (Elem × ℕ)) → NonePasses (same e.0) (xs ++ ys) → (q : Elem) → cond (same e.0 q) None (lookup (same q) (xs ++ e ∷ ys)) ≡ lookup (same q) (xs ++ ys)
      taken xs e ys n q = ap (cond (same e.0 q) None) (lookup_with xs e.0 e.1 ys n q) ∙ step xs e ys n q (same e.0 q) refl

  pub indexed_with : (k : Elem) (v : V) → There at (us ++ vs) → new p ≡ Some (k, v) → lookup (same k) (rows_of at (us ++ vs)) ≡ None → ((q : Elem) → found q ≡ cond (same k q) (Some p) (find q)) → more ≡ len + 1
      → IsIndexed at find len (us ++ vs) → IsIndexed new found more (us ++ p ∷ vs)
  indexed_with k v all here absent updates longer h =
      let rows : rows_of new (us ++ p ∷ vs) ≡ rows_of new us ++ (k, v) ∷ rows_of new vs = rows_at new us p vs (k, v) here in
      let keys : keyed new (us ++ p ∷ vs) ≡ keyed new us ++ (k, p) ∷ keyed new vs = keyed-append new us (p ∷ vs) ∙ ap (λ l. keyed new us ++ l) (keyed-cons new p vs (k, v) here) in
      let nr = none_passes_from_lookup (same k) (rows_of at (us ++ vs)) absent in
      let nk = none_rows at (same k) (us ++ vs) all nr in
      let two : keyed at (us ++ vs) ≡ keyed new us ++ keyed new vs = sym same_keyed ∙ keyed-append new us vs in
      let twice : rows_of at (us ++ vs) ≡ rows_of new us ++ rows_of new vs = sym same_rows ∙ rows-append new us vs in
      record {
        exact = λ q.
            updates q ∙ ap (cond (same k q) (Some p)) (h.exact q ∙ ap (lookup (same q)) two)
            ∙ sym (ap (lookup (same q)) keys ∙ lookup_with (keyed new us) k p (keyed new vs) (subst (NonePasses (same k)) two nk) q);
        count = let total = h.count in omega (arith, length-append us (p ∷ vs), length-append us vs);
        distinct =
            subst (λ l. IsDistinct same (keys_of l)) (sym rows)
            (distinct_with (rows_of new us) (k, v) (rows_of new vs) (subst (NonePasses (same k)) twice nr) (subst (λ l. IsDistinct same (keys_of l)) twice h.distinct));
      }
