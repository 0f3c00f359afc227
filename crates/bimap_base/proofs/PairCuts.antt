-- Pairs cut at one of them: what each word on pairs is there.
use Rattle.std.proofs.Common.{◌≡◌, Bool, true, false, cond, not, List, [], ◌∷◌, ◌++◌, Some, refl, sym, ap, ◌∙◌, subst}
use Rattle.std.specs.Prelude.{◌||◌}
use Rattle.std.specs.Map.{lookup, remove_entry, set_value}
use Rattle.std.proofs.lemmas.List.{map-append}
use Rattle.std.proofs.lemmas.List.Elements.{filter-append}
use Rattle.std.proofs.lemmas.Map.{NonePasses}
use Rattle.elem.specs.declared.elements.Elem.{Elem}
use Rattle.elem.specs.Elements.{same}
use Rattle.elem.specs.ElementLaws.{same-Decides, same_equiv}
use Rattle.elem.specs.Keyed.{value_at, without, with_value, HasDistinctKeys}
use Rattle.elem.specs.Rows.{set_row}
use Rattle.elem.proofs.RowsLemmas.{lookup_at, remove_at, set_value_at, set_row_at}
use Rattle.linked_base.proofs.KeyedLemmas.{none_left, none_right, distinct_without}
use Rattle.bimap_base.specs.Pairs.{turned, key_of, HasDistinctValues, stays, freed, with_pair}

abbrev pub Pair : Type 0
Pair = Elem × Elem

-- pairs turned round
pub turned-append : (us vs : List Pair) → turned (us ++ vs) ≡ turned us ++ turned vs
turned-append us vs = map-append (λ (r : Pair). (r.1, r.0)) us vs

pub turned_twice : (rows : List Pair) → turned (turned rows) ≡ rows
turned_twice [] = refl
turned_twice (r ∷ rows) = ap (λ l. r ∷ l) (turned_twice rows)

-- tests of joined lists
pub none_join : (test : Elem → Bool) (us vs : List Pair) → NonePasses test us → NonePasses test vs → NonePasses test (us ++ vs)
none_join test [] vs g h = h
none_join test (u ∷ us) vs g h = (g.0, none_join test us vs g.1 h)

-- what a look-up finds stands at a cut
found_cut : (test : Elem → Bool) (rows : List Pair) (v : Elem) → lookup test rows ≡ Some v → (us : List Pair) × (r : Pair) × (vs : List Pair) × (rows ≡ us ++ r ∷ vs) × (test r.0 ≡ true) × (r.1 ≡ v)
found_cut test [] v e = absurd (cc)
found_cut test (x ∷ rows) v e = by_case (test x.0) refl (found_cut test rows v) e
  where
    by_case : (b : Bool) → test x.0 ≡ b → (lookup test rows ≡ Some v → (us : List Pair) × (r : Pair) × (vs : List Pair) × (rows ≡ us ++ r ∷ vs) × (test r.0 ≡ true) × (r.1 ≡ v)) → cond b (Some x.1) (lookup test rows) ≡ Some v
        → (us : List Pair) × (r : Pair) × (vs : List Pair) × (x ∷ rows ≡ us ++ r ∷ vs) × (test r.0 ≡ true) × (r.1 ≡ v)
    by_case true t rest f = ([], x, rows, refl, t, cc)
    by_case false t rest f = let r = rest f in (x ∷ r.0, r.1, r.2, ap (λ l. x ∷ l) r.3, r.4, r.5)

-- the pairs are cut at one, whose key and value no other has
pub record IsPairCut (rows : List Pair) (k v : Elem) (us vs : List Pair) : Type 0 where
  pub cut : rows ≡ us ++ (k, v) ∷ vs
  pub no_key : NonePasses (same k) (us ++ vs)
  pub no_value : NonePasses (same v) (turned (us ++ vs))

pub cut_turned : (rows : List Pair) (k v : Elem) (us vs : List Pair) → IsPairCut rows k v us vs → IsPairCut (turned rows) v k (turned us) (turned vs)
cut_turned rows k v us vs c = record {
  cut = ap turned c.cut ∙ turned-append us ((k, v) ∷ vs);
  no_key = subst (NonePasses (same v)) (turned-append us vs) c.no_value;
  no_value = subst (NonePasses (same k)) (sym (ap turned (sym (turned-append us vs)) ∙ turned_twice (us ++ vs))) c.no_key;
}

pub key_cut : (rows : List Pair) (k v : Elem) → HasDistinctKeys rows → HasDistinctValues rows → value_at rows k ≡ Some v → (us : List Pair) × (vs : List Pair) × IsPairCut rows k v us vs
key_cut rows k v keys values e =
    let f = found_cut (same k) rows v e in
    let us = f.0 in
    let vs = f.2 in
    let equal : f.1 ≡ (k, v) = λ i. (sym ((same-Decides k f.1.0).0 f.4) i, f.5 i) in
    let cut : rows ≡ us ++ (k, v) ∷ vs = f.3 ∙ ap (λ x. us ++ x ∷ vs) equal in
    let both : turned rows ≡ turned us ++ (v, k) ∷ turned vs = ap turned cut ∙ turned-append us ((k, v) ∷ vs) in (
      us,
      vs,
      record {
        cut = cut;
        no_key = (distinct_without us (k, v) vs (subst HasDistinctKeys cut keys)).1;
        no_value = subst (NonePasses (same v)) (sym (turned-append us vs)) (distinct_without (turned us) (v, k) (turned vs) (subst HasDistinctKeys both values)).1;
      },
    )

pub value_cut : (rows : List Pair) (k v : Elem) → HasDistinctKeys rows → HasDistinctValues rows → key_of rows v ≡ Some k → (us : List Pair) × (vs : List Pair) × IsPairCut rows k v us vs
value_cut rows k v keys values e =
    let f = key_cut (turned rows) v k values (subst HasDistinctKeys (sym (turned_twice rows)) keys) e in
    (turned f.0, turned f.1, subst (λ rs. IsPairCut rs k v (turned f.0) (turned f.1)) (turned_twice rows) (cut_turned (turned rows) v k f.0 f.1 f.2))

-- words that read no cut
pub freed_whole : (k v : Elem) (rows : List Pair) → NonePasses (same v) (turned rows) → freed rows k v ≡ rows
freed_whole k v [] n = refl
freed_whole k v (r ∷ rows) n = ap (λ b. cond (not b || same k r.0) (r ∷ freed rows k v) (freed rows k v)) n.0 ∙ ap (λ l. r ∷ l) (freed_whole k v rows n.1)

pub with_pair_last : (k v : Elem) (rows : List Pair) → NonePasses (same k) rows → with_pair rows k v ≡ rows ++ (k, v) ∷ []
with_pair_last k v [] n = refl
with_pair_last k v (r ∷ rows) n = ap (λ b. cond b ((k, v) ∷ rows) (r ∷ with_pair rows k v)) n.0 ∙ ap (λ l. r ∷ l) (with_pair_last k v rows n.1)

with_pair_at : (k v w : Elem) (us vs : List Pair) → NonePasses (same k) us → with_pair (us ++ (k, w) ∷ vs) k v ≡ us ++ (k, v) ∷ vs
with_pair_at k v w [] vs n = ap (λ b. cond b ((k, v) ∷ vs) ((k, w) ∷ with_pair vs k v)) (same_equiv.refl k)
with_pair_at k v w (u ∷ us) vs n = ap (λ b. cond b ((k, v) ∷ (us ++ (k, w) ∷ vs)) (u ∷ with_pair (us ++ (k, w) ∷ vs) k v)) n.0 ∙ ap (λ l. u ∷ l) (with_pair_at k v w us vs n.1)

pub removed_last : (x k v : Elem) (rows : List Pair) → same x k ≡ false → without (rows ++ (k, v) ∷ []) x ≡ without rows x ++ (k, v) ∷ []
removed_last x k v [] d = ap (λ b. cond b [] ((k, v) ∷ [])) d
removed_last x k v (r ∷ rows) d = by_case (same x r.0) (removed_last x k v rows d)
  where
    by_case : (b : Bool) → without (rows ++ (k, v) ∷ []) x ≡ without rows x ++ (k, v) ∷ [] → cond b (rows ++ (k, v) ∷ []) (r ∷ without (rows ++ (k, v) ∷ []) x) ≡ cond b rows (r ∷ without rows x) ++ (k, v) ∷ []
    by_case true e = refl
    by_case false e = ap (λ l. r ∷ l) e

-- words at a cut
module _ {rows : List Pair} {k v : Elem} {us vs : List Pair} (c : IsPairCut rows k v us vs) where
  pub before : NonePasses (same k) us
  before = none_left (same k) us vs c.no_key

  pub cut_value : value_at rows k ≡ Some v
  cut_value = ap (lookup (same k)) c.cut ∙ lookup_at (same k) us (k, v) vs before (same_equiv.refl k)

  pub cut_without : without rows k ≡ us ++ vs
  cut_without = ap (remove_entry (same k)) c.cut ∙ remove_at (same k) us (k, v) vs before (same_equiv.refl k)

  pub cut_valued : (w : Elem) → with_value rows k w ≡ us ++ (k, w) ∷ vs
  cut_valued w = ap (λ rs. set_value (same k) rs w) c.cut ∙ set_value_at (same k) us (k, v) vs w before (same_equiv.refl k)

  -- with another value of the key
  pub revalued_value : (w : Elem) → value_at (with_value rows k w) k ≡ Some w
  revalued_value w = ap (lookup (same k)) (cut_valued w) ∙ lookup_at (same k) us (k, w) vs before (same_equiv.refl k)

  pub revalued_without : (w : Elem) → without (with_value rows k w) k ≡ us ++ vs
  revalued_without w = ap (remove_entry (same k)) (cut_valued w) ∙ remove_at (same k) us (k, w) vs before (same_equiv.refl k)

  pub cut_row : (r : Pair) → set_row (same k) rows r ≡ us ++ r ∷ vs
  cut_row r = ap (λ rs. set_row (same k) rs r) c.cut ∙ set_row_at (same k) us (k, v) vs r before (same_equiv.refl k)

  pub cut_paired : (w : Elem) → with_pair rows k w ≡ us ++ (k, w) ∷ vs
  cut_paired w = ap (λ rs. with_pair rs k w) c.cut ∙ with_pair_at k w v us vs before

  -- another key gets the value
  pub cut_freed : (x : Elem) → same x k ≡ false → freed rows x v ≡ us ++ vs
  cut_freed x d =
      let no_values = subst (NonePasses (same v)) (turned-append us vs) c.no_value in
      ap (λ rs. freed rs x v) c.cut ∙ filter-append (stays x v) us ((k, v) ∷ vs)
      ∙ ap (λ b. freed us x v ++ cond (not b || same x k) ((k, v) ∷ freed vs x v) (freed vs x v)) (same_equiv.refl v)
      ∙ ap (λ b. freed us x v ++ cond b ((k, v) ∷ freed vs x v) (freed vs x v)) d
      ∙ (λ i. freed_whole x v us (none_left (same v) (turned us) (turned vs) no_values) i ++ freed_whole x v vs (none_right (same v) (turned us) (turned vs) no_values) i)
