-- What the key that has a value tells of a put: nothing to do, bound to another, or free.
use Rattle.std.proofs.Common.{◌≡◌, ◌≢◌, Bool, true, false, cond, not, List, ◌∷◌, ◌++◌, Option, Some, None, refl, sym, ap, ◌∙◌, subst}
use Rattle.std.specs.Prelude.{is_some, ◌||◌}
use Rattle.std.specs.Option.{option_eq}
use Rattle.std.proofs.lemmas.List.Elements.{filter-append}
use Rattle.std.proofs.lemmas.Map.{NonePasses, none_passes_from_lookup}
use Rattle.elem.specs.declared.elements.Elem.{Elem}
use Rattle.elem.specs.Elements.{same}
use Rattle.elem.specs.ElementLaws.{same-Decides, same_equiv}
use Rattle.elem.specs.Keyed.{value_at, without, HasDistinctKeys}
use Rattle.linked_base.proofs.KeyedLemmas.{none_left, none_right}
use Rattle.linked_base.proofs.LinkedMapSteps.{remove_none}
use Rattle.bimap_base.specs.Pairs.{turned, key_of, IsBound, stays, freed, with_pair}
use Rattle.bimap_base.specs.PairRows.{IsTurned, without_some}
use Rattle.bimap_base.proofs.PairCuts.{Pair, turned-append, turned_twice, IsPairCut, cut_turned, key_cut, value_cut, cut_value, cut_without, cut_paired, freed_whole}
use Rattle.bimap_base.proofs.TurnedLemmas.{less_one, turned_without}

-- the option that a comparison names
pub names : (o : Option Elem) (k : Elem) → option_eq same o (Some k) ≡ true → o ≡ Some k
names None k t = absurd (cc)
names (Some x) k t = ap Some ((same-Decides x k).0 t)

pub differs : (o : Option Elem) (k : Elem) → option_eq same o (Some k) ≡ false → o ≢ Some k
differs None k t e = cc
differs (Some x) k t e =
    let equal : x ≡ k = cc in
    let both = sym ((same-Decides x k).1 equal) ∙ t in cc

some_is : (o : Option Elem) → is_some o ≡ true → (x : Elem) × (o ≡ Some x)
some_is None t = absurd (cc)
some_is (Some x) t = (x, refl)

pub none_is : (o : Option Elem) → is_some o ≡ false → o ≡ None
none_is None t = refl
none_is (Some x) t = absurd (cc)

-- pairs turned round are found by their keys
pub turned_round : (rows : List Pair) → HasDistinctKeys rows → IsTurned (turned rows) (value_at rows)
turned_round rows keys = record {
  exact = λ v. ap (λ rs. value_at rs v) (sym (turned_twice rows));
  distinct = subst HasDistinctKeys (sym (turned_twice rows)) keys;
}

freed_own : (k v : Elem) (us vs : List Pair) → freed us k v ≡ us → freed vs k v ≡ vs → freed (us ++ (k, v) ∷ vs) k v ≡ us ++ (k, v) ∷ vs
freed_own k v us vs e f =
    filter-append (stays k v) us ((k, v) ∷ vs) ∙ ap (λ b. freed us k v ++ cond b ((k, v) ∷ freed vs k v) (freed vs k v)) (ap (λ b. not (same v v) || b) (same_equiv.refl k) ∙ always (not (same v v))) ∙ (λ i. e i ++ (k, v) ∷ f i)
  where
    always : (b : Bool) → (b || true) ≡ true
    always true = refl
    always false = refl

module _ {rows : List Pair} {find : Elem → Option Elem} (keys : HasDistinctKeys rows) (h : IsTurned rows find) {now : List Pair} (shown : rows ≡ now) (k v : Elem) (o : Option Elem) (is : o ≡ find v) where
  holder_of : (x : Elem) → o ≡ Some x → key_of rows v ≡ Some x
  holder_of x e = sym (h.exact v) ∙ sym is ∙ e

  -- the pair is there
  module _ (t : option_eq same o (Some k) ≡ true) where
    own_cut : (us : List Pair) × (vs : List Pair) × IsPairCut rows k v us vs
    own_cut = value_cut rows k v keys h.distinct (holder_of k (names o k t))

    pub there : Some v ≡ value_at now k
    there = sym (cut_value own_cut.2) ∙ ap (λ rs. value_at rs k) shown

    same_with : with_pair rows k v ≡ rows
    same_with = cut_paired own_cut.2 v ∙ sym own_cut.2.cut

    pub stays_with : now ≡ with_pair now k v
    stays_with = subst (λ rs. rs ≡ with_pair rs k v) shown (sym same_with)

    same_freed : freed rows k v ≡ rows
    same_freed =
        let us = own_cut.0 in
        let vs = own_cut.1 in
        let whole = freed_parts us vs own_cut.2 in
        ap (λ rs. freed rs k v) own_cut.2.cut ∙ freed_own k v us vs whole.0 whole.1 ∙ sym own_cut.2.cut
      where
        freed_parts : (us vs : List Pair) → IsPairCut rows k v us vs → (freed us k v ≡ us) × (freed vs k v ≡ vs)
        freed_parts us vs c =
            let no_values = subst (NonePasses (same v)) (turned-append us vs) c.no_value in
            (freed_whole k v us (none_left (same v) (turned us) (turned vs) no_values), freed_whole k v vs (none_right (same v) (turned us) (turned vs) no_values))

    pub stays_forced : now ≡ with_pair (freed now k v) k v
    stays_forced = subst (λ rs. rs ≡ with_pair (freed rs k v) k v) shown (sym (ap (λ rs. with_pair rs k v) same_freed ∙ same_with))

    pub not_bound : IsBound now k v → ⊥
    not_bound b =
        let equal : Some b.0 ≡ Some k = sym b.1 ∙ ap (λ rs. key_of rs v) (sym shown) ∙ holder_of k (names o k t) in
        b.2 (cc)

  -- the pair is not there
  module _ (t : option_eq same o (Some k) ≡ false) where
    pub not_own : value_at rows k ≢ Some v
    not_own e =
        let c = key_cut rows k v keys h.distinct e in
        differs o k t (is ∙ h.exact v ∙ cut_value (cut_turned rows k v c.0 c.1 c.2))

    pub other : value_at now k ≢ Some v
    other = subst (λ rs. value_at rs k ≢ Some v) shown not_own

    pub bound : is_some o ≡ true → IsBound now k v
    bound s =
        let x = some_is o s in
        (x.0, ap (λ rs. key_of rs v) (sym shown) ∙ holder_of x.0 x.1, λ equal. differs o k t (x.1 ∙ ap Some equal))

  pub unbound : is_some o ≡ false → IsBound now k v → ⊥
  unbound s b = let both = sym (none_is o s) ∙ is ∙ h.exact v ∙ ap (λ rs. key_of rs v) shown ∙ b.1 in cc

  pub all_free : is_some o ≡ false → freed rows k v ≡ rows
  all_free s = freed_whole k v rows (none_passes_from_lookup (same v) (turned rows) (sym (h.exact v) ∙ sym is ∙ none_is o s))

-- a pair removed from the side of its value
module _ {rows : List Pair} {find : Elem → Option Elem} (keys : HasDistinctKeys rows) (h : IsTurned rows find) (v : Elem) where
  pub removed_value : turned (without_some (find v) rows) ≡ without (turned rows) v
  removed_value = by_holder (find v) refl
    where
      by_holder : (o : Option Elem) → find v ≡ o → turned (without_some o rows) ≡ without (turned rows) v
      by_holder None e = sym (remove_none (same v) (turned rows) (sym (h.exact v) ∙ e))
      by_holder (Some x) e =
          let c = value_cut rows x v keys h.distinct (sym (h.exact v) ∙ e) in
          ap turned (cut_without c.2) ∙ turned-append c.0 c.1 ∙ sym (cut_without (cut_turned rows x v c.0 c.1 c.2))

-- a pair removed from the side of its key
module _ {rows : List Pair} {find : Elem → Option Elem} (keys : HasDistinctKeys rows) (h : IsTurned rows find) (k : Elem) where
  pub removed_key : (v : Elem) → value_at rows k ≡ Some v → IsTurned (without rows k) (less_one find v)
  removed_key v e = let c = key_cut rows k v keys h.distinct e in subst (λ rs. IsTurned rs (less_one find v)) (sym (cut_without c.2)) (turned_without c.2 h)

  pub removed_none : value_at rows k ≡ None → without rows k ≡ rows
  removed_none e = remove_none (same k) rows e
