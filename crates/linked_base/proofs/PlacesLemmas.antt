-- The rows at places: of lists joined and cut, and where some places' rows change.
use Rattle.std.proofs.Common.{◌≡◌, ◌≢◌, ℕ, suc, List, [], ◌∷◌, ◌++◌, length, Option, Some, None, refl, sym, ap, ◌∙◌}
use Rattle.std.specs.Prelude.{IsSome}
use Rattle.std.specs.List.{cons_option}
use Rattle.std.proofs.lemmas.List.Elements.{filter_map-append}
use Rattle.linked_base.specs.Thread.{Avoids}
use Rattle.linked_base.specs.Places.{rows_of}

pub some_of : {R : Type 0} (x : Option R) → IsSome x → (r : R) × (x ≡ Some r)
some_of None s = absurd (cc)
some_of (Some r) s = (r, refl)

-- each place has something
abbrev pub There : {R : Type 0} → (ℕ → Option R) → List ℕ → Type 0
There at [] = Unit {0}
There at (p ∷ ps) = IsSome (at p) × There at ps

module _ {R : Type 0} (at : ℕ → Option R) where
  pub there_left : (us vs : List ℕ) → There at (us ++ vs) → There at us
  there_left [] vs h = tt
  there_left (p ∷ us) vs h = (h.0, there_left us vs h.1)

  pub there_right : (us vs : List ℕ) → There at (us ++ vs) → There at vs
  there_right [] vs h = h
  there_right (p ∷ us) vs h = there_right us vs h.1

  pub there_join : (us vs : List ℕ) → There at us → There at vs → There at (us ++ vs)
  there_join [] vs g h = h
  there_join (p ∷ us) vs g h = (g.0, there_join us vs g.1 h)

  pub there_both : (us : List ℕ) (p : ℕ) (vs : List ℕ) → There at (us ++ p ∷ vs) → There at (us ++ vs)
  there_both us p vs h = there_join us vs (there_left us (p ∷ vs) h) (there_right us (p ∷ vs) h).1

  pub rows-append : (us vs : List ℕ) → rows_of at (us ++ vs) ≡ rows_of at us ++ rows_of at vs
  rows-append us vs = filter_map-append at us vs

  pub rows-cons : (p : ℕ) (ps : List ℕ) (r : R) → at p ≡ Some r → rows_of at (p ∷ ps) ≡ r ∷ rows_of at ps
  rows-cons p ps r h = ap (λ x. cons_option x (rows_of at ps)) h

  pub length-rows : (ps : List ℕ) → There at ps → length (rows_of at ps) ≡ length ps
  length-rows [] h = refl
  length-rows (p ∷ ps) h =
      let r = some_of (at p) h.0 in
      ap length (rows-cons p ps r.0 r.1) ∙ ap suc (length-rows ps h.1)

  pub rows_at : (us : List ℕ) (p : ℕ) (vs : List ℕ) (r : R) → at p ≡ Some r → rows_of at (us ++ p ∷ vs) ≡ rows_of at us ++ r ∷ rows_of at vs
  rows_at us p vs r h = rows-append us (p ∷ vs) ∙ ap (λ l. rows_of at us ++ l) (rows-cons p vs r h)

-- rows that are the same at each place of the list
pub rows_kept : {R : Type 0} (at new : ℕ → Option R) (ps : List ℕ) → ((p : ℕ) → new p ≡ at p) → rows_of new ps ≡ rows_of at ps
rows_kept at new ps h = ap (λ f. rows_of f ps) (λ i p. h p i)

-- rows that are the same at each place of the list, and may differ at one that is not in it
pub rows_beside : {R : Type 0} (at new : ℕ → Option R) (q : ℕ) (ps : List ℕ) → ((p : ℕ) → p ≢ q → new p ≡ at p) → Avoids (Some q) ps → rows_of new ps ≡ rows_of at ps
rows_beside at new q [] h a = refl
rows_beside at new q (p ∷ ps) h a = λ i. cons_option (h p (λ e. a.0 (ap Some (sym e))) i) (rows_beside at new q ps h a.1 i)
