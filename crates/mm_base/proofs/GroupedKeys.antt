-- The order of the keys of grouped rows: the neighbours of a key are those of its rows.
use Rattle.std.proofs.Common.{◌≡◌, ℕ, ◌<◌, Bool, true, false, cond, not, List, [], ◌∷◌, ◌++◌, length, Option, Some, None, refl, sym, ap, ◌∙◌, subst, arith, append-nil, append_assoc}
use Rattle.std.specs.Prelude.{nat_eq}
use Rattle.std.specs.Option.{option_map}
use Rattle.std.specs.List.{filter}
use Rattle.std.proofs.lemmas.Map.{NonePasses}
use Rattle.std.proofs.lemmas.Bool.Decides.{Decides-eqb}
use Rattle.std.proofs.lemmas.List.Elements.{filter-append}
use Rattle.elem.specs.declared.elements.Elem.{Elem}
use Rattle.elem.specs.Elements.{same}
use Rattle.elem.specs.ElementLaws.{same-Decides, same_equiv}
use Rattle.elem.specs.Rows.{first_key, last_key, last_key_or, key_after, key_before}
use Rattle.elem.proofs.RowsLemmas.{lookup_at, key_after_at, key_before_at}
use Rattle.mm_base.specs.PairRows.{Row, HasDistinctIds, pair_at, pairs_of_key, first_pairs, count_of}
use Rattle.mm_base.specs.KeyedRows.{has_key}
use Rattle.mm_base.specs.GroupedRows.{IsGrouped, IsSplit}
use Rattle.mm_base.proofs.PairRowsLemmas.{none_before}
use Rattle.mm_base.proofs.ExchangingLemmas.{AllOfKey, all_filter}
use Rattle.mm_base.proofs.GroupedLemmas.{tail_false, not_there, GoesOn, goes_past, part_left, grouped_part}

-- the first pairs without those of a key
abbrev pub others : Elem → List (Elem × Elem) → List (Elem × Elem)
others k pairs = filter (λ (pair : Elem × Elem). not (same k pair.0)) pairs

others_twice : (k : Elem) (pairs : List (Elem × Elem)) → others k (others k pairs) ≡ others k pairs
others_twice k [] = refl
others_twice k (c ∷ pairs) = by_case (same k c.0) refl (others_twice k pairs)
  where
    by_case : (b : Bool) → same k c.0 ≡ b → others k (others k pairs) ≡ others k pairs → others k (cond (not b) (c ∷ others k pairs) (others k pairs)) ≡ cond (not b) (c ∷ others k pairs) (others k pairs)
    by_case true t rest = rest
    by_case false f rest = ap (λ b. cond (not b) (c ∷ others k (others k pairs)) (others k (others k pairs))) f ∙ ap (λ l. c ∷ l) rest

swapped : (k x : Elem) (pairs : List (Elem × Elem)) → others k (others x pairs) ≡ others x (others k pairs)
swapped k x [] = refl
swapped k x (c ∷ pairs) = by_case (same k c.0) refl (same x c.0) refl (swapped k x pairs)
  where
    by_case : (a : Bool) → same k c.0 ≡ a → (b : Bool) → same x c.0 ≡ b → others k (others x pairs) ≡ others x (others k pairs)
        → others k (cond (not b) (c ∷ others x pairs) (others x pairs)) ≡ others x (cond (not a) (c ∷ others k pairs) (others k pairs))
    by_case true t true s rest = rest
    by_case true t false s rest = ap (λ b. cond (not b) (c ∷ others k (others x pairs)) (others k (others x pairs))) t ∙ rest
    by_case false t true s rest = rest ∙ sym (ap (λ b. cond (not b) (c ∷ others x (others k pairs)) (others x (others k pairs))) s)
    by_case false t false s rest =
        ap (λ b. cond (not b) (c ∷ others k (others x pairs)) (others k (others x pairs))) t ∙ ap (λ l. c ∷ l) rest
        ∙ sym (ap (λ b. cond (not b) (c ∷ others x (others k pairs)) (others x (others k pairs))) s)

-- a key without rows has no pair
pub kept : (k : Elem) (rows : List Row) → has_key rows k ≡ false → others k (first_pairs rows) ≡ first_pairs rows
kept k [] e = refl
kept k (r ∷ rows) e =
    let f = tail_false k r rows e in
    ap (λ b. cond (not b) (r.1 ∷ others k (others r.1.0 (first_pairs rows))) (others k (others r.1.0 (first_pairs rows)))) f.0
    ∙ ap (λ l. r.1 ∷ l) (swapped k r.1.0 (first_pairs rows) ∙ ap (others r.1.0) (kept k rows f.1))

skipped : (k : Elem) (rows vs : List Row) → AllOfKey k rows → has_key vs k ≡ false → others k (first_pairs (rows ++ vs)) ≡ first_pairs vs
skipped k [] vs a e = kept k vs e
skipped k (r ∷ rows) vs a e =
    let own : k ≡ r.1.0 = (same-Decides k r.1.0).0 a.0 in
    ap (λ b. cond (not b) (r.1 ∷ others k (others r.1.0 (first_pairs (rows ++ vs)))) (others k (others r.1.0 (first_pairs (rows ++ vs))))) a.0
    ∙ ap (λ x. others k (others x (first_pairs (rows ++ vs)))) (sym own) ∙ others_twice k (first_pairs (rows ++ vs)) ∙ skipped k rows vs a.1 e

has_suffix : (x : Elem) (us vs : List Row) → has_key (us ++ vs) x ≡ false → has_key vs x ≡ false
has_suffix x [] vs e = e
has_suffix x (u ∷ us) vs e = has_suffix x us vs (tail_false x u (us ++ vs) e).1

-- a key does not come again behind another
no_return : (x : Elem) (us : List Row) (g : Row) (rest : List Row) → IsGrouped (us ++ g ∷ rest) → GoesOn x (us ++ g ∷ rest) → same x g.1.0 ≡ false → has_key rest x ≡ false
no_return x [] g rest h o f = (tail_false x g rest (o ∙ f)).1
no_return x (w ∷ us) g rest h o f = no_return x us g rest h.1 (goes_past x w (us ++ g ∷ rest) h o) f

-- the first pairs, cut at a key's rows
firsts_cut : (us : List Row) (g : Row) (more vs : List Row) → IsGrouped (us ++ g ∷ (more ++ vs)) → AllOfKey g.1.0 more → has_key vs g.1.0 ≡ false → has_key us g.1.0 ≡ false → first_pairs (us ++ g ∷ (more ++ vs)) ≡ first_pairs us ++ g.1 ∷ first_pairs vs
firsts_cut [] g more vs h a e f = ap (λ l. g.1 ∷ l) (skipped g.1.0 more vs a e)
firsts_cut (u ∷ us) g more vs h a e f =
    let d = tail_false g.1.0 u us f in
    let differs : same u.1.0 g.1.0 ≡ false = same_equiv.symm u.1.0 g.1.0 ∙ d.0 in
    let none = has_suffix u.1.0 more vs (no_return u.1.0 us g (more ++ vs) h.1 h.0 differs) in
    ap (λ l. u.1 ∷ others u.1.0 l) (firsts_cut us g more vs h.1 a e d.1)
    ∙ ap (λ l. u.1 ∷ l) (filter-append (λ (pair : Elem × Elem). not (same u.1.0 pair.0)) (first_pairs us) (g.1 ∷ first_pairs vs) ∙ ap (λ b. others u.1.0 (first_pairs us) ++ cond (not b) (g.1 ∷ others u.1.0 (first_pairs vs)) (others u.1.0 (first_pairs vs))) differs
    ∙ ap (λ l. others u.1.0 (first_pairs us) ++ g.1 ∷ l) (kept u.1.0 vs none))

none_filter : (k : Elem) (t : Elem × Elem → Bool) (pairs : List (Elem × Elem)) → NonePasses (same k) pairs → NonePasses (same k) (filter t pairs)
none_filter k t [] n = tt
none_filter k t (c ∷ pairs) n = by_case (t c) (none_filter k t pairs n.1)
  where
    by_case : (b : Bool) → NonePasses (same k) (filter t pairs) → NonePasses (same k) (cond b (c ∷ filter t pairs) (filter t pairs))
    by_case true r = (n.0, r)
    by_case false r = r

none_first : (k : Elem) (rows : List Row) → has_key rows k ≡ false → NonePasses (same k) (first_pairs rows)
none_first k [] e = tt
none_first k (r ∷ rows) e =
    let f = tail_false k r rows e in
    (f.0, none_filter k (λ (pair : Elem × Elem). not (same r.1.0 pair.0)) (first_pairs rows) (none_first k rows f.1))

-- the key of the last row, or `start` where there is none
abbrev pub last_row_key : Option Elem → List Row → Option Elem
last_row_key start [] = start
last_row_key start (row ∷ rows) = last_row_key (Some row.1.0) rows

tail_kept : (u : Row) (rows : List Row) → GoesOn u.1.0 rows → last_key_or (Some u.1.0) (others u.1.0 (first_pairs rows)) ≡ last_key_or (Some u.1.0) (first_pairs rows)
tail_kept u [] h = refl
tail_kept u (s ∷ ss) h = by_case (same u.1.0 s.1.0) refl
  where
    by_case : (b : Bool) → same u.1.0 s.1.0 ≡ b → last_key_or (Some u.1.0) (others u.1.0 (first_pairs (s ∷ ss))) ≡ last_key_or (Some u.1.0) (first_pairs (s ∷ ss))
    by_case true t =
        let own : u.1.0 ≡ s.1.0 = (same-Decides u.1.0 s.1.0).0 t in
        ap (λ b. last_key_or (Some u.1.0) (cond (not b) (s.1 ∷ others u.1.0 (others s.1.0 (first_pairs ss))) (others u.1.0 (others s.1.0 (first_pairs ss))))) t
        ∙ (λ i. last_key_or (Some (own i)) (others (own i) (others s.1.0 (first_pairs ss)))) ∙ ap (last_key_or (Some s.1.0)) (others_twice s.1.0 (first_pairs ss))
    by_case false f = ap (last_key_or (Some u.1.0)) (kept u.1.0 (s ∷ ss) (h ∙ f))

pub last_first : (start : Option Elem) (rows : List Row) → IsGrouped rows → last_key_or start (first_pairs rows) ≡ last_row_key start rows
last_first start [] g = refl
last_first start (u ∷ rows) g = tail_kept u rows g.0 ∙ last_first (Some u.1.0) rows g.1

-- keys read by ids
abbrev pub key_at_id : Option ℕ → List Row → Option Elem
key_at_id o rows = option_map (λ (pair : Elem × Elem). pair.0) (pair_at o rows)

pub first_by_id : (us vs : List Row) → HasDistinctIds (us ++ vs) → key_at_id (first_key vs) (us ++ vs) ≡ first_key (first_pairs vs)
first_by_id us [] d = refl
first_by_id us (v ∷ vs) d = ap (option_map (λ (pair : Elem × Elem). pair.0)) (lookup_at (nat_eq v.0) us v vs (none_before us v vs d) ((Decides-eqb v.0 v.0).1 refl))

split_end : (row : Row) (rows : List Row) → (xs : List Row) × (r : Row) × (row ∷ rows ≡ xs ++ r ∷ [])
split_end row [] = ([], row, refl)
split_end row (next ∷ rows) = let s = split_end next rows in (row ∷ s.0, s.1, ap (λ l. row ∷ l) s.2)

last_id : (o : Option ℕ) (xs : List Row) (r : Row) → last_key_or o (xs ++ r ∷ []) ≡ Some r.0
last_id o [] r = refl
last_id o (x ∷ xs) r = last_id (Some x.0) xs r

last_row_at : (o : Option Elem) (xs : List Row) (r : Row) → last_row_key o (xs ++ r ∷ []) ≡ Some r.1.0
last_row_at o [] r = refl
last_row_at o (x ∷ xs) r = last_row_at (Some x.1.0) xs r

pub last_by_id : (us vs : List Row) → HasDistinctIds (us ++ vs) → key_at_id (last_key us) (us ++ vs) ≡ last_row_key None us
last_by_id [] vs d = refl
last_by_id (u ∷ us) vs d =
    let s = split_end u us in
    let r = s.1 in
    let whole : (u ∷ us) ++ vs ≡ s.0 ++ r ∷ vs = ap (λ l. l ++ vs) s.2 ∙ append_assoc s.0 (r ∷ []) vs in
    let found = lookup_at (nat_eq r.0) s.0 r vs (none_before s.0 r vs (subst HasDistinctIds whole d)) ((Decides-eqb r.0 r.0).1 refl) in
    ap (λ o. key_at_id o ((u ∷ us) ++ vs)) (ap last_key s.2 ∙ last_id None s.0 r) ∙ ap (λ rs. key_at_id (Some r.0) rs) whole ∙ ap (option_map (λ (pair : Elem × Elem). pair.0)) found ∙ sym (ap (last_row_key None) s.2 ∙ last_row_at None s.0 r)

-- the last key of grouped rows
pub last_key_by_id : (rows : List Row) → IsGrouped rows → HasDistinctIds rows → key_at_id (last_key rows) rows ≡ last_key (first_pairs rows)
last_key_by_id rows g d =
    let nil = append-nil rows in
    sym (ap (key_at_id (last_key rows)) nil) ∙ last_by_id rows [] (subst HasDistinctIds (sym nil) d) ∙ sym (last_first None rows g)

-- the neighbours of a key that has rows
module _ (k : Elem) (rows us vs : List Row) (s : IsSplit k rows us vs) (g : IsGrouped rows) (d : HasDistinctIds rows) where
  first_row : (pairs : List Row) → pairs_of_key k rows ≡ pairs → 0 < length pairs → (r : Row) × (more : List Row) × (pairs_of_key k rows ≡ r ∷ more)
  first_row [] e l = absurd (omega arith)
  first_row (r ∷ more) e l = (r, more, e)

  module _ (some : 0 < count_of k rows) where
    its_row : (r : Row) × (more : List Row) × (pairs_of_key k rows ≡ r ∷ more)
    its_row = first_row (pairs_of_key k rows) refl some

    all_its : AllOfKey k (its_row.0 ∷ its_row.1)
    all_its = subst (AllOfKey k) its_row.2 (all_filter k rows)

    own : k ≡ its_row.0.1.0
    own = (same-Decides k its_row.0.1.0).0 all_its.0

    whole_at : rows ≡ us ++ its_row.0 ∷ (its_row.1 ++ vs)
    whole_at = s.cut ∙ ap (λ l. us ++ (l ++ vs)) its_row.2

    firsts : first_pairs rows ≡ first_pairs us ++ its_row.0.1 ∷ first_pairs vs
    firsts =
        ap first_pairs whole_at
        ∙ firsts_cut us its_row.0 its_row.1 vs (subst IsGrouped whole_at g) (subst (λ x. AllOfKey x its_row.1) own all_its.1) (subst (λ x. has_key vs x ≡ false) own (not_there k vs s.none_back)) (subst (λ x. has_key us x ≡ false) own (not_there k us s.none_front))

    no_front : NonePasses (same k) (first_pairs us)
    no_front = none_first k us (not_there k us s.none_front)

    whole_back : rows ≡ (us ++ pairs_of_key k rows) ++ vs
    whole_back = s.cut ∙ sym (append_assoc us (pairs_of_key k rows) vs)

    pub after_by_id : (next : Option ℕ) → next ≡ first_key vs → key_at_id next rows ≡ key_after (same k) (first_pairs rows)
    after_by_id next e =
        (λ i. key_at_id (e i) (whole_back i)) ∙ first_by_id (us ++ pairs_of_key k rows) vs (subst HasDistinctIds whole_back d)
        ∙ sym (ap (key_after (same k)) firsts ∙ key_after_at (same k) (first_pairs us) its_row.0.1 (first_pairs vs) no_front all_its.0)

    pub before_by_id : (previous : Option ℕ) → previous ≡ last_key us → key_at_id previous rows ≡ key_before (same k) (first_pairs rows)
    before_by_id previous e =
        let front = grouped_part (us ++ (pairs_of_key k rows ++ vs)) us (subst IsGrouped s.cut g) (part_left us (pairs_of_key k rows ++ vs)) in
        (λ i. key_at_id (e i) (s.cut i)) ∙ last_by_id us (pairs_of_key k rows ++ vs) (subst HasDistinctIds s.cut d) ∙ sym (last_first None us front)
        ∙ sym (ap (key_before (same k)) firsts ∙ key_before_at (same k) None (first_pairs us) its_row.0.1 (first_pairs vs) no_front all_its.0)

    -- the row before the first of the key
    pub before_first : (p : ℕ) → first_key (pairs_of_key k rows) ≡ Some p → key_before (nat_eq p) rows ≡ last_key us
    before_first p e =
        let id : its_row.0.0 ≡ p = let both = sym (ap first_key its_row.2) ∙ e in cc in
        let n = none_before us its_row.0 (its_row.1 ++ vs) (subst HasDistinctIds whole_at d) in
        ap (key_before (nat_eq p)) whole_at ∙ ap (λ x. key_before (nat_eq x) (us ++ its_row.0 ∷ (its_row.1 ++ vs))) (sym id) ∙ key_before_at (nat_eq its_row.0.0) None us its_row.0 (its_row.1 ++ vs) n ((Decides-eqb its_row.0.0 its_row.0.0).1 refl)

  -- the row after the last of the key
  pub after_last : (p : ℕ) → last_key (pairs_of_key k rows) ≡ Some p → key_after (nat_eq p) rows ≡ first_key vs
  after_last p e = by_rows (pairs_of_key k rows) refl e
    where
      by_rows : (rs : List Row) → pairs_of_key k rows ≡ rs → last_key rs ≡ Some p → key_after (nat_eq p) rows ≡ first_key vs
      by_rows [] f h = absurd (cc)
      by_rows (r ∷ rs) f h =
          let t = split_end r rs in
          let l = t.1 in
          let id : l.0 ≡ p = let both = sym (ap last_key t.2 ∙ last_id None t.0 l) ∙ h in cc in
          let whole : rows ≡ (us ++ t.0) ++ l ∷ vs = s.cut ∙ ap (λ x. us ++ (x ++ vs)) (f ∙ t.2) ∙ ap (λ x. us ++ x) (append_assoc t.0 (l ∷ []) vs) ∙ sym (append_assoc us t.0 (l ∷ vs)) in
          let n = none_before (us ++ t.0) l vs (subst HasDistinctIds whole d) in
          ap (key_after (nat_eq p)) whole ∙ ap (λ x. key_after (nat_eq x) ((us ++ t.0) ++ l ∷ vs)) (sym id) ∙ key_after_at (nat_eq l.0) (us ++ t.0) l vs n ((Decides-eqb l.0 l.0).1 refl)

pub no_last_row : (rows : List Row) → last_key rows ≡ None → rows ≡ []
no_last_row [] e = refl
no_last_row (r ∷ rows) e = let s = split_end r rows in let both = sym (ap last_key s.2 ∙ last_id None s.0 s.1) ∙ e in absurd (cc)
