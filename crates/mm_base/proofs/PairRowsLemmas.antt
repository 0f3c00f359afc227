-- Rows of pairs, read by id and by key.
use Rattle.std.proofs.Common.{◌≡◌, ℕ, zero, suc, ◌+◌, ◌<◌, ◌≤◌, Bool, true, false, cond, not, List, [], ◌∷◌, ◌++◌, length, Option, Some, None, refl, sym, ap, ◌∙◌, subst, arith, slice_get, length-append, drop, add-one}
use Rattle.std.specs.Prelude.{IsSome, nat_eq}
use Rattle.std.specs.Option.{option_map}
use Rattle.std.specs.List.{filter, IsDistinct, AllByRecursion}
use Rattle.std.specs.Map.{lookup, remove_entry, keys_of}
use Rattle.std.proofs.lemmas.Map.{NonePasses}
use Rattle.std.proofs.lemmas.Bool.Decides.{Decides-eqb}
use Rattle.std.proofs.lemmas.List.Elements.{filter-append}
use Rattle.elem.specs.declared.elements.Elem.{Elem}
use Rattle.elem.specs.Elements.{same}
use Rattle.elem.specs.ElementLaws.{same-Decides}
use Rattle.elem.specs.Rows.{first_key}
use Rattle.elem.proofs.RowsLemmas.{lookup_at, remove_at}
use Rattle.linked_base.specs.Thread.{head_or}
use Rattle.mm_base.specs.PairRows.{Row, HasDistinctIds, pair_of, pairs_of_key, without_key, count_of, id_of, rows_from, rows_of_pair}

-- a row's own id finds a row
own_id : (q : ℕ) → nat_eq q q ≡ true
own_id q = (Decides-eqb q q).1 refl

pub later : (q : ℕ) (row : Row) (o : Option (Elem × Elem)) → IsSome o → IsSome (cond (nat_eq q row.0) (Some row.1) o)
later q row o s = by_case (nat_eq q row.0)
  where
    by_case : (b : Bool) → IsSome (cond b (Some row.1) o)
    by_case true = refl
    by_case false = s

pub first_live : (rows : List Row) (q : ℕ) → first_key rows ≡ Some q → IsSome (lookup (nat_eq q) rows)
first_live [] q e = absurd (cc)
first_live (row ∷ rows) q e =
    let equal : row.0 ≡ q = cc in
    subst (λ b. IsSome (cond b (Some row.1) (lookup (nat_eq q) rows))) (sym (ap (nat_eq q) equal ∙ own_id q)) refl

-- a row that passes a test is a row
pub live_filter : (test : Row → Bool) (rows : List Row) (q : ℕ) → IsSome (lookup (nat_eq q) (filter test rows)) → IsSome (lookup (nat_eq q) rows)
live_filter test [] q s = s
live_filter test (row ∷ rows) q s = by_case (test row) (live_filter test rows q) s
  where
    by_test : (b : Bool) → (IsSome (lookup (nat_eq q) (filter test rows)) → IsSome (lookup (nat_eq q) rows)) → IsSome (cond b (Some row.1) (lookup (nat_eq q) (filter test rows))) → IsSome (cond b (Some row.1) (lookup (nat_eq q) rows))
    by_test true rest t = refl
    by_test false rest t = rest t

    by_case : (b : Bool) → (IsSome (lookup (nat_eq q) (filter test rows)) → IsSome (lookup (nat_eq q) rows)) → IsSome (lookup (nat_eq q) (cond b (row ∷ filter test rows) (filter test rows))) → IsSome (lookup (nat_eq q) (row ∷ rows))
    by_case true rest t = by_test (nat_eq q row.0) rest t
    by_case false rest t = later q row (lookup (nat_eq q) rows) (rest t)

pub from_live : (o : Option ℕ) (rows : List Row) (q : ℕ) → IsSome (lookup (nat_eq q) (rows_from o rows)) → IsSome (lookup (nat_eq q) rows)
from_live None rows q s = absurd (cc)
from_live (Some p) [] q s = s
from_live (Some p) (row ∷ rows) q s = by_case (nat_eq p row.0) (from_live (Some p) rows q) s
  where
    by_case : (b : Bool) → (IsSome (lookup (nat_eq q) (rows_from (Some p) rows)) → IsSome (lookup (nat_eq q) rows)) → IsSome (lookup (nat_eq q) (cond b (row ∷ rows) (rows_from (Some p) rows))) → IsSome (lookup (nat_eq q) (row ∷ rows))
    by_case true rest t = t
    by_case false rest t = later q row (lookup (nat_eq q) rows) (rest t)

nth_live : (rows : List Row) (i : ℕ) (r : Row) → slice_get rows i ≡ Some r → IsSome (lookup (nat_eq r.0) rows)
nth_live [] i r e = absurd (cc)
nth_live (row ∷ rows) zero r e =
    let equal : row ≡ r = cc in
    subst (λ b. IsSome (cond b (Some row.1) (lookup (nat_eq r.0) rows))) (sym (ap (λ (x : Row). nat_eq r.0 x.0) equal ∙ own_id r.0)) refl
nth_live (row ∷ rows) (suc i) r e = later r.0 row (lookup (nat_eq r.0) rows) (nth_live rows i r e)

-- a key's row number i stands at some cut of the rows
pub nth_cut : (k : Elem) (rows : List Row) (i : ℕ) (r : Row) → slice_get (pairs_of_key k rows) i ≡ Some r → (us : List Row) × (vs : List Row) × (rows ≡ us ++ r ∷ vs) × (same k r.1.0 ≡ true)
nth_cut k [] i r e = absurd (cc)
nth_cut k (row ∷ rows) i r e = by_case (same k row.1.0) refl i (nth_cut k rows) e
  where
    put_front : ((us : List Row) × (vs : List Row) × (rows ≡ us ++ r ∷ vs) × (same k r.1.0 ≡ true)) → (us : List Row) × (vs : List Row) × (row ∷ rows ≡ us ++ r ∷ vs) × (same k r.1.0 ≡ true)
    put_front f = (row ∷ f.0, f.1, ap (λ l. row ∷ l) f.2, f.3)

    by_case : (b : Bool) → same k row.1.0 ≡ b → (j : ℕ) → ((n : ℕ) (s : Row) → slice_get (pairs_of_key k rows) n ≡ Some s → (us : List Row) × (vs : List Row) × (rows ≡ us ++ s ∷ vs) × (same k s.1.0 ≡ true))
        → slice_get (cond b (row ∷ pairs_of_key k rows) (pairs_of_key k rows)) j ≡ Some r → (us : List Row) × (vs : List Row) × (row ∷ rows ≡ us ++ r ∷ vs) × (same k r.1.0 ≡ true)
    by_case true t zero rest f =
        let equal : row ≡ r = cc in
        ([], rows, ap (λ x. x ∷ rows) equal, ap (λ (x : Row). same k x.1.0) (sym equal) ∙ t)
    by_case true t (suc j) rest f = put_front (rest j r f)
    by_case false t j rest f = put_front (rest j r f)

-- no row before one of distinct ids has its id
pub none_before : (us : List Row) (r : Row) (vs : List Row) → HasDistinctIds (us ++ r ∷ vs) → NonePasses (nat_eq r.0) us
unfolding IsDistinct
none_before [] r vs d = tt
none_before (u ∷ us) r vs d = (turned u.0 r.0 (at_cut us d.0), none_before us r vs d.1)
  where
    turned : (p q : ℕ) → nat_eq p q ≡ false → nat_eq q p ≡ false
    turned p q e = by_case (nat_eq q p) refl
      where
        by_case : (b : Bool) → nat_eq q p ≡ b → b ≡ false
        by_case true t = let equal : q ≡ p = (Decides-eqb q p).0 t in sym (own_id p) ∙ ap (nat_eq p) (sym equal) ∙ e
        by_case false t = refl

    at_cut : (us : List Row) → AllByRecursion (λ y. nat_eq u.0 y ≡ false) (keys_of (us ++ r ∷ vs)) → nat_eq u.0 r.0 ≡ false
    at_cut [] h = h.0
    at_cut (x ∷ us) h = at_cut us h.1

-- a key's row number i, by its id
module _ (k : Elem) (rows : List Row) (i q : ℕ) (e : id_of k i rows ≡ Some q) where
  pub its_row : (r : Row) × (slice_get (pairs_of_key k rows) i ≡ Some r) × (r.0 ≡ q)
  its_row = by_case (slice_get (pairs_of_key k rows) i) refl (e)
    where
      by_case : (o : Option Row) → slice_get (pairs_of_key k rows) i ≡ o → option_map (λ (r : Row). r.0) o ≡ Some q → (r : Row) × (slice_get (pairs_of_key k rows) i ≡ Some r) × (r.0 ≡ q)
      by_case None f g = absurd (cc)
      by_case (Some r) f g = (r, f, cc)

  pub nth_is_live : IsSome (lookup (nat_eq q) rows)
  nth_is_live = subst (λ x. IsSome (lookup (nat_eq x) rows)) its_row.2 (live_filter (λ (r : Row). same k r.1.0) rows its_row.0.0 (nth_live (pairs_of_key k rows) i its_row.0 its_row.1))

  pub its_cut : (us : List Row) × (vs : List Row) × (rows ≡ us ++ its_row.0 ∷ vs) × (same k its_row.0.1.0 ≡ true)
  its_cut = nth_cut k rows i its_row.0 its_row.1

  its_key : its_row.0.1.0 ≡ k
  its_key = sym ((same-Decides k its_row.0.1.0).0 its_cut.3)

  module _ (d : HasDistinctIds rows) where
    pub its_front : NonePasses (nat_eq q) its_cut.0
    its_front = subst (λ x. NonePasses (nat_eq x) its_cut.0) its_row.2 (none_before its_cut.0 its_row.0 its_cut.1 (subst HasDistinctIds its_cut.2 d))

    pub passes : nat_eq q its_row.0.0 ≡ true
    passes = ap (nat_eq q) its_row.2 ∙ own_id q

    pub nth_pair : pair_of rows q ≡ Some (k, its_row.0.1.1)
    nth_pair = ap (lookup (nat_eq q)) its_cut.2 ∙ lookup_at (nat_eq q) its_cut.0 its_row.0 its_cut.1 its_front passes ∙ ap (λ x. Some (x, its_row.0.1.1)) its_key

    pub nth_from : first_key (pairs_of_key k (rows_from (Some q) rows)) ≡ Some q
    nth_from = ap (λ rs. first_key (pairs_of_key k rs)) (ap (rows_from (Some q)) its_cut.2 ∙ from_cut its_cut.0 its_front) ∙ ap (λ b. first_key (cond b (its_row.0 ∷ pairs_of_key k its_cut.1) (pairs_of_key k its_cut.1))) its_cut.3 ∙ ap Some its_row.2
      where
        from_cut : (us : List Row) → NonePasses (nat_eq q) us → rows_from (Some q) (us ++ its_row.0 ∷ its_cut.1) ≡ its_row.0 ∷ its_cut.1
        from_cut [] n = ap (λ b. cond b (its_row.0 ∷ its_cut.1) (rows_from (Some q) its_cut.1)) passes
        from_cut (u ∷ us) n = ap (λ b. cond b (u ∷ (us ++ its_row.0 ∷ its_cut.1)) (rows_from (Some q) (us ++ its_row.0 ∷ its_cut.1))) n.0 ∙ from_cut us n.1

    removed : remove_entry (nat_eq q) rows ≡ its_cut.0 ++ its_cut.1
    removed = ap (remove_entry (nat_eq q)) its_cut.2 ∙ remove_at (nat_eq q) its_cut.0 its_row.0 its_cut.1 its_front passes

    -- the rows of other keys stay when it goes
    pub others_stay : without_key k (remove_entry (nat_eq q) rows) ≡ without_key k rows
    others_stay =
        let test : Row → Bool = λ (r : Row). not (same k r.1.0) in
        ap (without_key k) removed ∙ filter-append test its_cut.0 its_cut.1 ∙ ap (λ b. filter test its_cut.0 ++ cond (not b) (its_row.0 ∷ filter test its_cut.1) (filter test its_cut.1)) (sym its_cut.3) ∙ sym (ap (without_key k) its_cut.2 ∙ filter-append test its_cut.0 (its_row.0 ∷ its_cut.1))

    pub one_fewer : count_of k (remove_entry (nat_eq q) rows) + 1 ≡ count_of k rows
    one_fewer =
        let test : Row → Bool = λ (r : Row). same k r.1.0 in
        let fewer = ap length (ap (pairs_of_key k) removed ∙ filter-append test its_cut.0 its_cut.1) ∙ length-append (filter test its_cut.0) (filter test its_cut.1) in
        let whole = ap length (ap (pairs_of_key k) its_cut.2 ∙ filter-append test its_cut.0 (its_row.0 ∷ its_cut.1) ∙ ap (λ b. filter test its_cut.0 ++ cond b (its_row.0 ∷ filter test its_cut.1) (filter test its_cut.1)) its_cut.3)
        ∙ length-append (filter test its_cut.0) (its_row.0 ∷ filter test its_cut.1) in
        omega arith

-- where a pair before a key's row number i goes
pub nth_spot : (k : Elem) (rows : List Row) (i : ℕ) (o : Option ℕ) → id_of k i rows ≡ o → HasDistinctIds rows → o ≡ first_key (pairs_of_key k (rows_from o rows))
nth_spot k rows i None e d = refl
nth_spot k rows i (Some q) e d = sym (nth_from k rows i q e d)

-- the first row of a key and a value is a row
pub pair_is_live : (k v : Elem) (rows : List Row) (q : ℕ) → first_key (rows_of_pair k v rows) ≡ Some q → IsSome (lookup (nat_eq q) rows)
pair_is_live k v rows q e = live_filter (λ (r : Row). same k r.1.0) rows q (live_filter (λ (r : Row). same v r.1.1) (pairs_of_key k rows) q (first_live (rows_of_pair k v rows) q e))

-- a key that has a row number i, and one that has no rows
pub nth_some : {R : Type 0} (rows : List R) (i : ℕ) → i < length rows → IsSome (slice_get rows i)
nth_some [] i l = absurd (omega arith)
nth_some (r ∷ rows) zero l = refl
nth_some (r ∷ rows) (suc i) l = nth_some rows i (omega arith)

pub id_some : (k : Elem) (rows : List Row) (i : ℕ) → i < count_of k rows → IsSome (id_of k i rows)
id_some k rows i l = by_case (slice_get (pairs_of_key k rows) i) (nth_some (pairs_of_key k rows) i l)
  where
    by_case : (o : Option Row) → IsSome o → IsSome (option_map (λ (r : Row). r.0) o)
    by_case None s = s
    by_case (Some r) s = refl

pub no_id : (k : Elem) (rows : List Row) → id_of k 0 rows ≡ None → count_of k rows ≡ 0
no_id k rows e = by_case (pairs_of_key k rows) e
  where
    by_case : (rs : List Row) → option_map (λ (r : Row). r.0) (slice_get rs 0) ≡ None → length rs ≡ 0
    by_case [] f = refl
    by_case (r ∷ rs) f = absurd (cc)

pub first_id_of : (k : Elem) (rows : List Row) → id_of k 0 rows ≡ first_key (pairs_of_key k rows)
first_id_of k rows = by_case (pairs_of_key k rows)
  where
    by_case : (rs : List Row) → option_map (λ (r : Row). r.0) (slice_get rs 0) ≡ first_key rs
    by_case [] = refl
    by_case (r ∷ rs) = refl

pub none_left : (k : Elem) (rows : List Row) → count_of k rows ≡ 0 → without_key k rows ≡ rows
none_left k [] e = refl
none_left k (row ∷ rows) e = by_case (same k row.1.0) (none_left k rows) e
  where
    by_case : (b : Bool) → (count_of k rows ≡ 0 → without_key k rows ≡ rows) → length (cond b (row ∷ pairs_of_key k rows) (pairs_of_key k rows)) ≡ 0 → cond (not b) (row ∷ without_key k rows) (without_key k rows) ≡ row ∷ rows
    by_case true rest f = absurd (omega arith)
    by_case false rest f = ap (λ l. row ∷ l) (rest f)

-- a place found by a test, along a list of places
module _ (test : ℕ → Bool) where
  drop_at : (ps : List ℕ) (i p : ℕ) → slice_get ps i ≡ Some p → drop i ps ≡ p ∷ drop (suc i) ps
  drop_at [] i p e = absurd (cc)
  drop_at (q ∷ ps) zero p e = let equal : q ≡ p = cc in ap (λ x. x ∷ ps) equal
  drop_at (q ∷ ps) (suc i) p e = drop_at ps i p e

  pub find_next : (ps : List ℕ) (i p : ℕ) → slice_get ps i ≡ Some p → test p ≡ false → filter test (drop i ps) ≡ filter test (drop (i + 1) ps)
  find_next ps i p e f = ap (filter test) (drop_at ps i p e) ∙ ap (λ b. cond b (p ∷ filter test (drop (suc i) ps)) (filter test (drop (suc i) ps))) f ∙ ap (λ j. filter test (drop j ps)) (sym (add-one i))

  pub find_here : (ps : List ℕ) (i p : ℕ) → slice_get ps i ≡ Some p → test p ≡ true → head_or None (filter test (drop i ps)) ≡ Some p
  find_here ps i p e t = ap (λ l. head_or None (filter test l)) (drop_at ps i p e) ∙ ap (λ b. head_or None (cond b (p ∷ filter test (drop (suc i) ps)) (filter test (drop (suc i) ps)))) t

  pub find_end : (ps : List ℕ) (i : ℕ) → length ps ≤ i → filter test (drop i ps) ≡ []
  find_end [] zero l = refl
  find_end [] (suc i) l = refl
  find_end (p ∷ ps) zero l = absurd (omega arith)
  find_end (p ∷ ps) (suc i) l = find_end ps i (omega arith)
