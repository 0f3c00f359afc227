-- The first cell of each row, read along the places: those that no place before has the row of.
use Rattle.std.proofs.Common.{◌≡◌, ℕ, Bool, true, false, cond, not, List, [], ◌∷◌, ◌++◌, Option, Some, None, refl, sym, ap, ◌∙◌, subst, append_assoc}
use Rattle.std.specs.Option.{option_map}
use Rattle.std.specs.List.{filter}
use Rattle.std.proofs.lemmas.List.Elements.{filter-append}
use Rattle.std.proofs.lemmas.Map.{NonePasses}
use Rattle.elem.specs.declared.elements.Elem.{Elem}
use Rattle.elem.specs.Elements.{same}
use Rattle.elem.specs.ElementLaws.{same_equiv}
use Rattle.elem.specs.Rows.{first_key, last_key_or, key_after, key_before}
use Rattle.elem.proofs.RowsLemmas.{key_after_at, key_before_at}
use Rattle.linked_base.specs.Group.{has, of_key}
use Rattle.linked_base.specs.Places.{rows_of}
use Rattle.linked_base.proofs.HeadLemmas.{is_empty, is_unseen, filter_both, filter_all, unseen_more}
use Rattle.linked_base.proofs.PlacesLemmas.{There, some_of, there_left, rows-append, rows-cons}
use Rattle.table_base.specs.Cells.{Cell, first_of_rows}

-- the test tells of each place whether no place before it has its key
abbrev pub TellsHeads : (key : ℕ → Option Elem) (head : ℕ → Bool) (ps : List ℕ) → Type 0
TellsHeads key head ps = (us : List ℕ) (p : ℕ) (vs : List ℕ) (k : Elem) → ps ≡ us ++ p ∷ vs → key p ≡ Some k → head p ≡ is_unseen key us k

module _ (core : ℕ → Option Cell) (key : ℕ → Option Elem) (keys : (p : ℕ) → key p ≡ option_map (λ (x : Cell). x.0) (core p)) where
  own_key : (p : ℕ) (c : Cell) → core p ≡ Some c → key p ≡ Some c.0
  own_key p c e = keys p ∙ ap (option_map (λ (x : Cell). x.0)) e

  module _ (head : ℕ → Bool) (ps : List ℕ) (heads : TellsHeads key head ps) where
    -- heads of a back part are the first cells there of rows that are not in the front part
    heads_back : (us vs : List ℕ) → ps ≡ us ++ vs → There core vs → rows_of core (filter head vs) ≡ filter (λ (c : Cell). is_unseen key us c.0) (first_of_rows (rows_of core vs))
    heads_back us [] e t = refl
    heads_back us (p ∷ vs) e t =
        let c = some_of (core p) t.0 in
        let k : Elem = c.0.0 in
        let here : key p ≡ Some k = own_key p c.0 c.1 in
        let rest = heads_back (us ++ p ∷ []) vs (e ∙ sym (append_assoc us (p ∷ []) vs)) t.1 in
        let firsts = first_of_rows (rows_of core vs) in
        let both = filter_both (λ (d : Cell). is_unseen key us d.0) (λ (d : Cell). not (same k d.0)) (λ (d : Cell). is_unseen key (us ++ p ∷ []) d.0) (λ d. unseen_more key us p k d.0 here) firsts in
        step c.0 c.1 (is_unseen key us k) (heads us p vs k e here) refl (rest ∙ both) ∙ sym (ap (λ rs. filter (λ (d : Cell). is_unseen key us d.0) (first_of_rows rs)) (rows-cons core p vs c.0 c.1))
      where
        step : (c : Cell) → core p ≡ Some c → (b : Bool) → head p ≡ b → is_unseen key us c.0 ≡ b → rows_of core (filter head vs) ≡ filter (λ (d : Cell). is_unseen key us d.0) (filter (λ (d : Cell). not (same c.0 d.0)) (first_of_rows (rows_of core vs)))
            → rows_of core (cond (head p) (p ∷ filter head vs) (filter head vs)) ≡ filter (λ (d : Cell). is_unseen key us d.0) (first_of_rows (c ∷ rows_of core vs))
        step c e true i j r =
            let more = filter (λ (d : Cell). is_unseen key us d.0) (filter (λ (d : Cell). not (same c.0 d.0)) (first_of_rows (rows_of core vs))) in
            ap (λ b. rows_of core (cond b (p ∷ filter head vs) (filter head vs))) i ∙ rows-cons core p (filter head vs) c e ∙ ap (λ l. c ∷ l) r ∙ sym (ap (λ b. cond b (c ∷ more) more) j)
        step c e false i j r =
            let more = filter (λ (d : Cell). is_unseen key us d.0) (filter (λ (d : Cell). not (same c.0 d.0)) (first_of_rows (rows_of core vs))) in
            ap (λ b. rows_of core (cond b (p ∷ filter head vs) (filter head vs))) i ∙ r ∙ sym (ap (λ b. cond b (c ∷ more) more) j)

    heads_are : There core ps → rows_of core (filter head ps) ≡ first_of_rows (rows_of core ps)
    heads_are t = heads_back [] ps refl t ∙ filter_all (λ (c : Cell). is_unseen key [] c.0) (λ c. refl) (first_of_rows (rows_of core ps))

    -- the neighbours of a row, where the list is cut at its first place
    module _ (us : List ℕ) (p : ℕ) (vs : List ℕ) (cut : ps ≡ us ++ p ∷ vs) (t : There core (us ++ p ∷ vs)) (all : There core ps) (c : Cell) (here : core p ≡ Some c) (first : of_key key c.0 us ≡ []) where
      is_first : head p ≡ true
      is_first = heads us p vs c.0 cut (own_key p c here) ∙ ap is_empty first

      firsts_cut : first_of_rows (rows_of core ps) ≡ rows_of core (filter head us) ++ c ∷ rows_of core (filter head vs)
      firsts_cut =
          sym (heads_are all) ∙ ap (λ l. rows_of core (filter head l)) cut
          ∙ ap (rows_of core) (filter-append head us (p ∷ vs) ∙ ap (λ b. filter head us ++ cond b (p ∷ filter head vs) (filter head vs)) is_first)
          ∙ rows-append core (filter head us) (p ∷ filter head vs) ∙ ap (λ l. rows_of core (filter head us) ++ l) (rows-cons core p (filter head vs) c here)

      none_in : (xs : List ℕ) → There core xs → of_key key c.0 xs ≡ [] → NonePasses (same c.0) (rows_of core (filter head xs))
      none_in [] h e = tt
      none_in (x ∷ xs) h e =
          let d = some_of (core x) h.0 in
          by_key d.0 d.1 (same c.0 d.0.0) refl (none_in xs h.1) (sym (ap (λ o. cond (has c.0 o) (x ∷ of_key key c.0 xs) (of_key key c.0 xs)) (own_key x d.0 d.1)) ∙ e)
        where
          by_head : (d : Cell) → core x ≡ Some d → same c.0 d.0 ≡ false → NonePasses (same c.0) (rows_of core (filter head xs)) → (b : Bool) → NonePasses (same c.0) (rows_of core (cond b (x ∷ filter head xs) (filter head xs)))
          by_head d e f r true = subst (NonePasses (same c.0)) (sym (rows-cons core x (filter head xs) d e)) (f, r)
          by_head d e f r false = r

          by_key : (d : Cell) → core x ≡ Some d → (b : Bool) → same c.0 d.0 ≡ b → (of_key key c.0 xs ≡ [] → NonePasses (same c.0) (rows_of core (filter head xs))) → cond (same c.0 d.0) (x ∷ of_key key c.0 xs) (of_key key c.0 xs) ≡ []
              → NonePasses (same c.0) (rows_of core (filter head (x ∷ xs)))
          by_key d e true f rest g = let whole = sym (ap (λ b. cond b (x ∷ of_key key c.0 xs) (of_key key c.0 xs)) f) ∙ g in absurd (cc)
          by_key d e false f rest g = by_head d e f (rest (sym (ap (λ b. cond b (x ∷ of_key key c.0 xs) (of_key key c.0 xs)) f) ∙ g)) (head x)

      front_none : NonePasses (same c.0) (rows_of core (filter head us))
      front_none = none_in us (there_left core us (p ∷ vs) t) first

      pub after_first : first_key (rows_of core (filter head vs)) ≡ key_after (same c.0) (first_of_rows (rows_of core ps))
      after_first = sym (ap (key_after (same c.0)) firsts_cut ∙ key_after_at (same c.0) (rows_of core (filter head us)) c (rows_of core (filter head vs)) front_none (same_equiv.refl c.0))

      pub before_first : last_key_or None (rows_of core (filter head us)) ≡ key_before (same c.0) (first_of_rows (rows_of core ps))
      before_first = sym (ap (key_before (same c.0)) firsts_cut ∙ key_before_at (same c.0) None (rows_of core (filter head us)) c (rows_of core (filter head vs)) front_none (same_equiv.refl c.0))
