-- Rows that are grouped by key: fewer of them, and others in the place of a key's.
use Rattle.std.proofs.Common.{◌≡◌, ◌⊎◌, inl, inr, ℕ, zero, suc, ◌≤◌, Bool, true, false, cond, not, List, [], ◌∷◌, ◌++◌, length, insert, Option, Some, None, refl, sym, ap, ◌∙◌, subst, arith, slice_get, append-nil, append_assoc}
use Rattle.std.specs.Prelude.{is_some, nat_eq}
use Rattle.std.specs.List.{filter}
use Rattle.std.specs.Map.{remove_entry}
use Rattle.std.proofs.lemmas.List.Elements.{filter-append}
use Rattle.elem.specs.declared.elements.Elem.{Elem}
use Rattle.elem.specs.Elements.{same}
use Rattle.elem.specs.ElementLaws.{same-Decides, same_equiv}
use Rattle.elem.specs.Rows.{first_key}
use Rattle.mm_base.specs.PairRows.{Row, HasDistinctIds, pairs_of_key, without_key, without_id, put_before}
use Rattle.mm_base.specs.KeyedRows.{has_key}
use Rattle.mm_base.specs.GroupedRows.{begins_with, IsGrouped, in_place_of, IsSplit}
use Rattle.mm_base.proofs.KeyedRowsLemmas.{others_without}
use Rattle.mm_base.proofs.ExchangingLemmas.{AllOfKey, all_filter, none_other, none_of_key, put_cut}

-- the key of the first row
pub has_cons : (r : Row) (rows : List Row) (k : Elem) → has_key (r ∷ rows) k ≡ cond (same k r.1.0) true (has_key rows k)
has_cons r rows k = elim (same k r.1.0) as (λ b. is_some (first_key (cond b (r ∷ pairs_of_key k rows) (pairs_of_key k rows))) ≡ cond b true (has_key rows k)) [ true ↦ refl | false ↦ refl ]

pub tail_false : (k : Elem) (r : Row) (rows : List Row) → has_key (r ∷ rows) k ≡ false → (same k r.1.0 ≡ false) × (has_key rows k ≡ false)
tail_false k r rows e = by_case (same k r.1.0) refl (sym (has_cons r rows k) ∙ e)
  where
    by_case : (b : Bool) → same k r.1.0 ≡ b → cond (same k r.1.0) true (has_key rows k) ≡ false → (same k r.1.0 ≡ false) × (has_key rows k ≡ false)
    by_case true t f = let both = sym (ap (λ c. cond c true (has_key rows k)) t) ∙ f in absurd (cc)
    by_case false t f = (t, sym (ap (λ c. cond c true (has_key rows k)) t) ∙ f)

pub begins_has : (k : Elem) (rows : List Row) → begins_with k rows ≡ true → has_key rows k ≡ true
begins_has k [] e = absurd (cc)
begins_has k (r ∷ rows) e = has_cons r rows k ∙ ap (λ b. cond b true (has_key rows k)) e

pub not_begins : (k : Elem) (rows : List Row) → has_key rows k ≡ false → begins_with k rows ≡ false
not_begins k rows e = by_case (begins_with k rows) refl
  where
    by_case : (b : Bool) → begins_with k rows ≡ b → b ≡ false
    by_case true t = let both = sym (begins_has k rows t) ∙ e in absurd (cc)
    by_case false t = refl

pub no_rows_of : (k : Elem) (rows : List Row) → has_key rows k ≡ false → pairs_of_key k rows ≡ []
no_rows_of k rows e = by_rows (pairs_of_key k rows) e
  where
    by_rows : (rs : List Row) → is_some (first_key rs) ≡ false → rs ≡ []
    by_rows [] f = refl
    by_rows (r ∷ rs) f = absurd (cc)

pub not_there : (k : Elem) (rows : List Row) → pairs_of_key k rows ≡ [] → has_key rows k ≡ false
not_there k rows e = ap (λ rs. is_some (first_key rs)) e

-- the new rows are the old without some
abbrev pub IsPart : List Row → List Row → Type 0
IsPart [] new = new ≡ []
IsPart (row ∷ rows) new = IsPart rows new ⊎ ((rest : List Row) × (new ≡ row ∷ rest) × IsPart rows rest)

pub part_same : (rows : List Row) → IsPart rows rows
part_same [] = refl
part_same (r ∷ rows) = inr (rows, refl, part_same rows)

pub part_none : (rows : List Row) → IsPart rows []
part_none [] = refl
part_none (r ∷ rows) = inl (part_none rows)

pub part_left : (us vs : List Row) → IsPart (us ++ vs) us
part_left [] vs = part_none vs
part_left (u ∷ us) vs = inr (us, refl, part_left us vs)

pub part_filter : (t : Row → Bool) (rows : List Row) → IsPart rows (filter t rows)
part_filter t [] = refl
part_filter t (r ∷ rows) = by_case (t r) (part_filter t rows)
  where
    by_case : (b : Bool) → IsPart rows (filter t rows) → IsPart (r ∷ rows) (cond b (r ∷ filter t rows) (filter t rows))
    by_case true h = inr (filter t rows, refl, h)
    by_case false h = inl h

pub part_remove : (p : ℕ) (rows : List Row) → IsPart rows (remove_entry (nat_eq p) rows)
part_remove p [] = refl
part_remove p (r ∷ rows) = by_case (nat_eq p r.0) (part_remove p rows)
  where
    by_case : (b : Bool) → IsPart rows (remove_entry (nat_eq p) rows) → IsPart (r ∷ rows) (cond b rows (r ∷ remove_entry (nat_eq p) rows))
    by_case true h = inl (part_same rows)
    by_case false h = inr (remove_entry (nat_eq p) rows, refl, h)

pub part_without : (o : Option ℕ) (rows : List Row) → IsPart rows (without_id o rows)
part_without None rows = part_same rows
part_without (Some p) rows = part_remove p rows

part_has : (k : Elem) (old new : List Row) → IsPart old new → has_key old k ≡ false → has_key new k ≡ false
part_has k [] new p e = ap (λ rs. has_key rs k) p
part_has k (r ∷ rows) new (inl p) e = part_has k rows new p (tail_false k r rows e).1
part_has k (r ∷ rows) new (inr x) e =
    let f = tail_false k r rows e in
    ap (λ rs. has_key rs k) x.1 ∙ has_cons r x.0 k ∙ ap (λ b. cond b true (has_key x.0 k)) f.0 ∙ part_has k rows x.0 x.2 f.1

-- a key that has rows in the front alone, or none
abbrev pub GoesOn : Elem → List Row → Type 0
GoesOn k rows = has_key rows k ≡ begins_with k rows

pub goes_past : (k : Elem) (s : Row) (ss : List Row) → IsGrouped (s ∷ ss) → GoesOn k (s ∷ ss) → GoesOn k ss
goes_past k s ss g h = here (same k s.1.0) refl
  where
    here : (b : Bool) → same k s.1.0 ≡ b → GoesOn k ss
    here true t = subst (λ x. GoesOn x ss) (sym ((same-Decides k s.1.0).0 t)) g.0
    here false f = let none = (tail_false k s ss (h ∙ f)).1 in none ∙ sym (not_begins k ss none)

goes_on : (k : Elem) (old new : List Row) → IsGrouped old → GoesOn k old → IsPart old new → GoesOn k new
goes_on k [] new g h p = subst (GoesOn k) (sym p) refl
goes_on k (s ∷ ss) new g h (inl p) = goes_on k ss new g.1 (goes_past k s ss g h) p
goes_on k (s ∷ ss) new g h (inr x) = subst (GoesOn k) (sym x.1) (has_cons s x.0 k ∙ here (same k s.1.0) refl)
  where
    here : (b : Bool) → same k s.1.0 ≡ b → cond (same k s.1.0) true (has_key x.0 k) ≡ same k s.1.0
    here true t = ap (λ c. cond c true (has_key x.0 k)) t ∙ sym t
    here false f = ap (λ c. cond c true (has_key x.0 k)) f ∙ part_has k ss x.0 x.2 (tail_false k s ss (h ∙ f)).1 ∙ sym f

pub grouped_part : (old new : List Row) → IsGrouped old → IsPart old new → IsGrouped new
grouped_part [] new g p = subst IsGrouped (sym p) tt
grouped_part (s ∷ ss) new g (inl p) = grouped_part ss new g.1 p
grouped_part (s ∷ ss) new g (inr x) = subst IsGrouped (sym x.1) (goes_on s.1.0 ss x.0 g.1 g.0 x.2, grouped_part ss x.0 g.1 x.2)

-- rows of a key, and then none
pub grouped_front : (k : Elem) (new rows : List Row) → AllOfKey k new → IsGrouped rows → has_key rows k ≡ false → IsGrouped (new ++ rows)
grouped_front k [] rows a g e = g
grouped_front k (n ∷ new) rows a g e = (subst (λ x. GoesOn x (new ++ rows)) ((same-Decides k n.1.0).0 a.0) (begins new a.1), grouped_front k new rows a.1 g e)
  where
    begins : (xs : List Row) → AllOfKey k xs → GoesOn k (xs ++ rows)
    begins [] b = e ∙ sym (not_begins k rows e)
    begins (x ∷ xs) b = has_cons x (xs ++ rows) k ∙ ap (λ c. cond c true (has_key (xs ++ rows) k)) b.0 ∙ sym b.0

has_append : (x : Elem) (us vs : List Row) → pairs_of_key x us ≡ [] → has_key (us ++ vs) x ≡ has_key vs x
has_append x us vs e = ap (λ rs. is_some (first_key rs)) (filter-append (λ (r : Row). same x r.1.0) us vs ∙ ap (λ l. l ++ pairs_of_key x vs) e)

-- others in the place of a key's rows
module _ (k : Elem) (new : List Row) (all : AllOfKey k new) where
  has_in_place : (x : Elem) → same k x ≡ false → (rows : List Row) → has_key (in_place_of k new rows) x ≡ has_key rows x
  has_in_place x f [] = not_there x new (none_other k x f new all)
  has_in_place x f (r ∷ rows) = by_case (same k r.1.0) refl (has_in_place x f rows)
    where
      by_case : (b : Bool) → same k r.1.0 ≡ b → has_key (in_place_of k new rows) x ≡ has_key rows x → has_key (cond b (new ++ without_key k rows) (r ∷ in_place_of k new rows)) x ≡ has_key (r ∷ rows) x
      by_case true t rest =
          let differs : same x r.1.0 ≡ false = ap (same x) (sym ((same-Decides k r.1.0).0 t)) ∙ same_equiv.symm x k ∙ f in
          has_append x new (without_key k rows) (none_other k x f new all) ∙ others_without k rows x f ∙ sym (has_cons r rows x ∙ ap (λ b. cond b true (has_key rows x)) differs)
      by_case false t rest = has_cons r (in_place_of k new rows) x ∙ ap (cond (same x r.1.0) true) rest ∙ sym (has_cons r rows x)

  begins_in_place : (x : Elem) → same k x ≡ false → (rows : List Row) → begins_with x rows ≡ true → begins_with x (in_place_of k new rows) ≡ true
  begins_in_place x f [] e = absurd (cc)
  begins_in_place x f (r ∷ rows) e =
      let differs : same k r.1.0 ≡ false = ap (same k) (sym ((same-Decides x r.1.0).0 e)) ∙ f in
      ap (λ b. begins_with x (cond b (new ++ without_key k rows) (r ∷ in_place_of k new rows))) differs ∙ e

  pub grouped_in_place : (rows : List Row) → IsGrouped rows → IsGrouped (in_place_of k new rows)
  grouped_in_place [] g = subst IsGrouped (append-nil new) (grouped_front k new [] all tt refl)
  grouped_in_place (r ∷ rows) g = by_case (same k r.1.0) refl (grouped_in_place rows g.1)
    where
      goes : same k r.1.0 ≡ false → (b : Bool) → begins_with r.1.0 rows ≡ b → GoesOn r.1.0 (in_place_of k new rows)
      goes f true t = has_in_place r.1.0 f rows ∙ g.0 ∙ t ∙ sym (begins_in_place r.1.0 f rows t)
      goes f false t = let none = has_in_place r.1.0 f rows ∙ g.0 ∙ t in none ∙ sym (not_begins r.1.0 (in_place_of k new rows) none)

      by_case : (b : Bool) → same k r.1.0 ≡ b → IsGrouped (in_place_of k new rows) → IsGrouped (cond b (new ++ without_key k rows) (r ∷ in_place_of k new rows))
      by_case true t rest = grouped_front k new (without_key k rows) all (grouped_part rows (without_key k rows) g.1 (part_filter (λ (s : Row). not (same k s.1.0)) rows)) (not_there k (without_key k rows) (none_of_key k rows))
      by_case false f rest = (goes f (begins_with r.1.0 rows) refl, rest)

-- last, where the key has none
pub in_place_last : (k : Elem) (new rows : List Row) → pairs_of_key k rows ≡ [] → in_place_of k new rows ≡ rows ++ new
in_place_last k new [] e = refl
in_place_last k new (r ∷ rows) e = by_case (same k r.1.0) (in_place_last k new rows) e
  where
    by_case : (b : Bool) → (pairs_of_key k rows ≡ [] → in_place_of k new rows ≡ rows ++ new) → cond b (r ∷ pairs_of_key k rows) (pairs_of_key k rows) ≡ [] → cond b (new ++ without_key k rows) (r ∷ in_place_of k new rows) ≡ r ∷ (rows ++ new)
    by_case true rest f = absurd (cc)
    by_case false rest f = ap (λ l. r ∷ l) (rest f)

pub grouped_last : (k : Elem) (rows : List Row) → IsGrouped rows → IsGrouped (without_key k rows ++ pairs_of_key k rows)
grouped_last k rows g =
    let less = grouped_part rows (without_key k rows) g (part_filter (λ (s : Row). not (same k s.1.0)) rows) in
    subst IsGrouped (in_place_last k (pairs_of_key k rows) (without_key k rows) (none_of_key k rows)) (grouped_in_place k (pairs_of_key k rows) (all_filter k rows) (without_key k rows) less)

-- rows that begin with a key have its rows in front
together : (k : Elem) (rows : List Row) → IsGrouped rows → GoesOn k rows → rows ≡ pairs_of_key k rows ++ without_key k rows
together k [] g h = refl
together k (s ∷ ss) g h = by_case (same k s.1.0) refl (together k ss g.1)
  where
    by_case : (b : Bool) → same k s.1.0 ≡ b → (GoesOn k ss → ss ≡ pairs_of_key k ss ++ without_key k ss) → s ∷ ss ≡ cond b (s ∷ pairs_of_key k ss) (pairs_of_key k ss) ++ cond (not b) (s ∷ without_key k ss) (without_key k ss)
    by_case true t rest = ap (λ l. s ∷ l) (rest (goes_past k s ss g h))
    by_case false f rest =
        let none = (tail_false k s ss (h ∙ f)).1 in
        let empty = no_rows_of k ss none in
        ap (λ l. s ∷ l) (rest (none ∙ sym (not_begins k ss none))) ∙ ap (λ l. s ∷ (l ++ without_key k ss)) empty ∙ sym (ap (λ l. l ++ s ∷ without_key k ss) empty)

-- the rows before and after a key's
pub split : (k : Elem) (rows : List Row) → IsGrouped rows → (us : List Row) × (vs : List Row) × IsSplit k rows us vs
split k [] g = ([], [], record { cut = refl; none_front = refl; none_back = refl; in_place = λ new. sym (append-nil new); absent = λ e. refl })
split k (r ∷ rows) g = by_case (same k r.1.0) refl (split k rows g.1)
  where
    by_case : (b : Bool) → same k r.1.0 ≡ b → ((us : List Row) × (vs : List Row) × IsSplit k rows us vs) → (us : List Row) × (vs : List Row) × IsSplit k (r ∷ rows) us vs
    by_case true t d =
        let own : k ≡ r.1.0 = (same-Decides k r.1.0).0 t in
        let pairs : pairs_of_key k (r ∷ rows) ≡ r ∷ pairs_of_key k rows = ap (λ b. cond b (r ∷ pairs_of_key k rows) (pairs_of_key k rows)) t in (
          [],
          without_key k rows,
          record {
            cut = ap (λ l. r ∷ l) (together k rows g.1 (subst (λ x. GoesOn x rows) (sym own) g.0)) ∙ sym (ap (λ l. l ++ without_key k rows) pairs);
            none_front = refl;
            none_back = none_of_key k rows;
            in_place = λ new. ap (λ b. cond b (new ++ without_key k rows) (r ∷ in_place_of k new rows)) t;
            absent = λ e. let both = sym pairs ∙ e in absurd (cc);
          },
        )
    by_case false f d =
        let h = d.2 in
        let pairs : pairs_of_key k (r ∷ rows) ≡ pairs_of_key k rows = ap (λ b. cond b (r ∷ pairs_of_key k rows) (pairs_of_key k rows)) f in (
          r ∷ d.0,
          d.1,
          record {
            cut = ap (λ l. r ∷ l) h.cut ∙ sym (ap (λ l. r ∷ (d.0 ++ (l ++ d.1))) pairs);
            none_front = ap (λ b. cond b (r ∷ pairs_of_key k d.0) (pairs_of_key k d.0)) f ∙ h.none_front;
            none_back = h.none_back;
            in_place = λ new. ap (λ b. cond b (new ++ without_key k rows) (r ∷ in_place_of k new rows)) f ∙ ap (λ l. r ∷ l) (h.in_place new);
            absent = λ e. h.absent (sym pairs ∙ e);
          },
        )

-- a row put into a key's group
pub put_in_group : (k : Elem) (rows us vs front back : List Row) (next : Option ℕ) (r : Row) → IsSplit k rows us vs → pairs_of_key k rows ≡ front ++ back → next ≡ first_key (back ++ vs) → HasDistinctIds rows → put_before next r rows ≡ in_place_of k (front ++ r ∷ back) rows
put_in_group k rows us vs front back next r h e f d =
    let whole : rows ≡ (us ++ front) ++ (back ++ vs) = h.cut ∙ ap (λ l. us ++ (l ++ vs)) e ∙ ap (λ l. us ++ l) (append_assoc front back vs) ∙ sym (append_assoc us front (back ++ vs)) in
    ap (put_before next r) whole ∙ put_cut next (us ++ front) r (back ++ vs) f (subst HasDistinctIds whole d) ∙ append_assoc us front (r ∷ (back ++ vs)) ∙ sym (h.in_place (front ++ r ∷ back) ∙ ap (λ l. us ++ l) (append_assoc front (r ∷ back) vs))

pub insert_last : (xs : List Row) (r : Row) → insert xs (length xs) r ≡ xs ++ r ∷ []
insert_last [] r = refl
insert_last (x ∷ xs) r = ap (λ l. x ∷ l) (insert_last xs r)

-- a list cut at its element number i
pub nth_insert : (xs : List Row) (i : ℕ) (x : Row) → slice_get xs i ≡ Some x → (front : List Row) × (back : List Row) × (xs ≡ front ++ x ∷ back) × ((r : Row) → insert xs i r ≡ front ++ r ∷ x ∷ back)
nth_insert [] i x e = absurd (cc)
nth_insert (y ∷ xs) zero x e = let equal : y ≡ x = cc in ([], xs, ap (λ z. z ∷ xs) equal, λ r. ap (λ z. r ∷ z ∷ xs) equal)
nth_insert (y ∷ xs) (suc i) x e = let s = nth_insert xs i x e in (y ∷ s.0, s.1, ap (λ l. y ∷ l) s.2, λ r. ap (λ l. y ∷ l) (s.3 r))

pub all_insert : (k : Elem) (xs : List Row) (i : ℕ) (r : Row) → i ≤ length xs → AllOfKey k xs → same k r.1.0 ≡ true → AllOfKey k (insert xs i r)
all_insert k xs zero r l a e = (e, a)
all_insert k [] (suc i) r l a e = absurd (omega arith)
all_insert k (x ∷ xs) (suc i) r l a e = (a.0, all_insert k xs i r (omega arith) a.1 e)
