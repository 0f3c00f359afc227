-- The index of keys by values, where a pair goes and where one comes.
use Rattle.std.proofs.Common.{◌≡◌, ◌≢◌, Bool, true, false, cond, List, [], ◌∷◌, ◌++◌, Option, Some, None, refl, sym, ap, ◌∙◌, subst, append-nil}
use Rattle.std.specs.Map.{lookup}
use Rattle.std.proofs.lemmas.Map.{NonePasses, lookup-none, none_passes_from_lookup}
use Rattle.elem.specs.declared.elements.Elem.{Elem}
use Rattle.elem.specs.Elements.{same}
use Rattle.elem.specs.ElementLaws.{same-Decides, same_equiv}
use Rattle.elem.specs.Keyed.{value_at, HasDistinctKeys}
use Rattle.linked_base.proofs.KeyedLemmas.{lookup_with, distinct_without, distinct_with}
use Rattle.bimap_base.specs.Pairs.{turned, freed, with_pair}
use Rattle.bimap_base.specs.PairRows.{IsTurned, without_some, in_place_of}
use Rattle.bimap_base.proofs.PairCuts.{Pair, turned-append, IsPairCut, cut_turned, value_cut, cut_value, cut_without, cut_row, cut_paired, cut_freed, freed_whole, with_pair_last}

-- an index without a value, and with one more
abbrev pub less_one : (Elem → Option Elem) → Elem → Elem → Option Elem
less_one find v q = cond (same v q) None (find q)

abbrev pub one_more : (Elem → Option Elem) → Elem → Elem → Elem → Option Elem
one_more find v k q = cond (same v q) (Some k) (find q)

pub less_none : (find : Elem → Option Elem) (v : Elem) → less_one find v v ≡ None
less_none find v = ap (λ b. cond b None (find v)) (same_equiv.refl v)

pub turned_same : (rows : List Pair) (find same_find : Elem → Option Elem) → ((q : Elem) → same_find q ≡ find q) → IsTurned rows find → IsTurned rows same_find
turned_same rows find same_find e h = record { exact = λ q. e q ∙ h.exact q; distinct = h.distinct }

-- a pair goes
pub turned_without : {rows : List Pair} {find : Elem → Option Elem} {k v : Elem} {us vs : List Pair} → IsPairCut rows k v us vs → IsTurned rows find → IsTurned (us ++ vs) (less_one find v)
turned_without {rows} {find} {k} {v} {us} {vs} c h =
    let both : turned rows ≡ turned us ++ (v, k) ∷ turned vs = ap turned c.cut ∙ turned-append us ((k, v) ∷ vs) in
    let none = subst (NonePasses (same v)) (turned-append us vs) c.no_value in
    record {
      exact = λ q.
          ap (cond (same v q) None) (h.exact q ∙ ap (lookup (same q)) both ∙ lookup_with (turned us) v k (turned vs) none q) ∙ by_case none q (same v q) refl ∙ ap (lookup (same q)) (sym (turned-append us vs));
      distinct = subst HasDistinctKeys (sym (turned-append us vs)) (distinct_without (turned us) (v, k) (turned vs) (subst HasDistinctKeys both h.distinct)).0;
    }
  where
    by_case : NonePasses (same v) (turned us ++ turned vs) → (q : Elem) (b : Bool) → same v q ≡ b → cond b None (cond b (Some k) (lookup (same q) (turned us ++ turned vs))) ≡ lookup (same q) (turned us ++ turned vs)
    by_case none q true t = sym (lookup-none (same q) (turned us ++ turned vs) (subst (λ x. NonePasses (same x) (turned us ++ turned vs)) ((same-Decides v q).0 t) none))
    by_case none q false t = refl

-- a pair comes
pub turned_with : {find : Elem → Option Elem} (k v : Elem) (us vs : List Pair) → find v ≡ None → IsTurned (us ++ vs) find → IsTurned (us ++ (k, v) ∷ vs) (one_more find v k)
turned_with {find} k v us vs e h =
    let none = subst (NonePasses (same v)) (turned-append us vs) (none_passes_from_lookup (same v) (turned (us ++ vs)) (sym (h.exact v) ∙ e)) in
    record {
      exact = λ q.
          ap (cond (same v q) (Some k)) (h.exact q ∙ ap (lookup (same q)) (turned-append us vs)) ∙ sym (lookup_with (turned us) v k (turned vs) none q)
          ∙ ap (lookup (same q)) (sym (turned-append us ((k, v) ∷ vs)));
      distinct = subst HasDistinctKeys (sym (turned-append us ((k, v) ∷ vs))) (distinct_with (turned us) (v, k) (turned vs) none (subst HasDistinctKeys (turned-append us vs) h.distinct));
    }

-- a pair comes in the place of another
pub turned_over : {rows : List Pair} {find : Elem → Option Elem} {k v : Elem} {us vs : List Pair} → IsPairCut rows k v us vs → IsTurned rows find → (to w : Elem) → less_one find v w ≡ None → IsTurned (us ++ (to, w) ∷ vs) (one_more (less_one find v) w to)
turned_over {rows} {find} {k} {v} {us} {vs} c h to w e = turned_with to w us vs e (turned_without c h)

-- the key that has a value
module _ {rows : List Pair} {find : Elem → Option Elem} (keys : HasDistinctKeys rows) (h : IsTurned rows find) (v : Elem) where
  -- the pair of the value goes, where there is one
  pub gone_turned : IsTurned (without_some (find v) rows) (less_one find v)
  gone_turned = by_holder (find v) refl
    where
      by_value : find v ≡ None → (q : Elem) (b : Bool) → same v q ≡ b → cond b None (find q) ≡ find q
      by_value e q true t = sym (ap find (sym ((same-Decides v q).0 t)) ∙ e)
      by_value e q false t = refl

      by_holder : (o : Option Elem) → find v ≡ o → IsTurned (without_some o rows) (less_one find v)
      by_holder None e = turned_same rows find (less_one find v) (λ q. by_value e q (same v q) refl) h
      by_holder (Some x) e =
          let c = value_cut rows x v keys h.distinct (sym (h.exact v) ∙ e) in
          subst (λ rs. IsTurned rs (less_one find v)) (sym (cut_without c.2)) (turned_without c.2 h)

  module _ (k : Elem) (new : value_at rows k ≢ Some v) where
    -- the key that has the value is another
    pub holder_apart : (x : Elem) → find v ≡ Some x → same x k ≡ false
    holder_apart x e = by_case (same x k) refl
      where
        by_case : (b : Bool) → same x k ≡ b → b ≡ false
        by_case true t =
            let c = value_cut rows x v keys h.distinct (sym (h.exact v) ∙ e) in
            absurd (new (ap (value_at rows) (sym ((same-Decides x k).0 t)) ∙ cut_value c.2))
        by_case false t = refl

    pub gone_freed : without_some (find v) rows ≡ freed rows k v
    gone_freed = by_holder (find v) refl
      where
        by_holder : (o : Option Elem) → find v ≡ o → without_some o rows ≡ freed rows k v
        by_holder None e = sym (freed_whole k v rows (none_passes_from_lookup (same v) (turned rows) (sym (h.exact v) ∙ e)))
        by_holder (Some x) e =
            let c = value_cut rows x v keys h.distinct (sym (h.exact v) ∙ e) in
            cut_without c.2 ∙ sym (cut_freed c.2 k (same_equiv.symm k x ∙ holder_apart x e))

  -- a pair of a new key comes in the place of that with the value, or last
  module _ (k : Elem) where
    pub placed_turned : IsTurned (in_place_of rows (find v) (k, v)) (one_more find v k)
    placed_turned = by_holder (find v) refl
      where
        twice : (q : Elem) (b : Bool) → cond b (Some k) (find q) ≡ cond b (Some k) (cond b None (find q))
        twice q true = refl
        twice q false = refl

        by_holder : (o : Option Elem) → find v ≡ o → IsTurned (in_place_of rows o (k, v)) (one_more find v k)
        by_holder None e = turned_with k v rows [] e (subst (λ rs. IsTurned rs find) (sym (append-nil rows)) h)
        by_holder (Some x) e =
            let c = value_cut rows x v keys h.distinct (sym (h.exact v) ∙ e) in
            turned_same (in_place_of rows (Some x) (k, v)) (one_more (less_one find v) v k) (one_more find v k) (λ q. twice q (same v q))
            (subst (λ rs. IsTurned rs (one_more (less_one find v) v k)) (sym (cut_row c.2 (k, v))) (turned_over c.2 h k v (less_none find v)))

    pub placed_rows : turned (in_place_of rows (find v) (k, v)) ≡ with_pair (turned rows) v k
    placed_rows = by_holder (find v) refl
      where
        by_holder : (o : Option Elem) → find v ≡ o → turned (in_place_of rows o (k, v)) ≡ with_pair (turned rows) v k
        by_holder None e = turned-append rows ((k, v) ∷ []) ∙ sym (with_pair_last v k (turned rows) (none_passes_from_lookup (same v) (turned rows) (sym (h.exact v) ∙ e)))
        by_holder (Some x) e =
            let c = value_cut rows x v keys h.distinct (sym (h.exact v) ∙ e) in
            ap turned (cut_row c.2 (k, v)) ∙ turned-append c.0 ((k, v) ∷ c.1) ∙ sym (cut_paired (cut_turned rows x v c.0 c.1 c.2) k)
