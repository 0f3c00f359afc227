-- Halves put last and taken out.
use Rattle.std.proofs.Common.{◌≡◌, ℕ, true, false, cond, List, [], ◌∷◌, ◌++◌, refl, sym, ap, ◌∙◌, subst, append-nil}
use Rattle.std.specs.Prelude.{IsSome, nat_eq}
use Rattle.std.specs.Map.{remove_entry}
use Rattle.std.proofs.lemmas.Map.{NonePasses, none_passes_from_lookup}
use Rattle.std.proofs.lemmas.Bool.Decides.{Decides-eqb}
use Rattle.elem.specs.declared.elements.Elem.{Elem}
use Rattle.elem.specs.Elements.{same}
use Rattle.elem.proofs.RowsLemmas.{lookup_at, remove_at}
use Rattle.mm_base.specs.PairRows.{Row, HasDistinctIds, IsNew, IsLive}
use Rattle.mm_base.proofs.PairRowsLemmas.{none_before}
use Rattle.graph_base.specs.EdgeRows.{halves_between}

own : (q : ℕ) → nat_eq q q ≡ true
own q = (Decides-eqb q q).1 refl

-- a row put last is there, and goes again
module _ (rows : List Row) (r : Row) (new : IsNew rows r.0) where
  none : NonePasses (nat_eq r.0) rows
  none = none_passes_from_lookup (nat_eq r.0) rows new

  pub put_live : (later : List Row) → later ≡ rows ++ r ∷ [] → IsLive later r.0
  put_live later e = subst (λ rs. IsLive rs r.0) (sym e) (subst IsSome (sym (lookup_at (nat_eq r.0) rows r [] none (own r.0))) refl)

  pub put_back : (later : List Row) → later ≡ rows ++ r ∷ [] → remove_entry (nat_eq r.0) later ≡ rows
  put_back later e = ap (remove_entry (nat_eq r.0)) e ∙ remove_at (nat_eq r.0) rows r [] none (own r.0) ∙ append-nil rows

-- a row of distinct ids, at a cut
module _ (us : List Row) (r : Row) (vs : List Row) (rows : List Row) (e : rows ≡ us ++ r ∷ vs) (d : HasDistinctIds rows) where
  before : NonePasses (nat_eq r.0) us
  before = none_before us r vs (subst HasDistinctIds e d)

  pub cut_live : IsLive rows r.0
  cut_live = subst (λ rs. IsLive rs r.0) (sym e) (subst IsSome (sym (lookup_at (nat_eq r.0) us r vs before (own r.0))) refl)

  pub cut_without : remove_entry (nat_eq r.0) rows ≡ us ++ vs
  cut_without = ap (remove_entry (nat_eq r.0)) e ∙ remove_at (nat_eq r.0) us r vs before (own r.0)

-- the halves of an edge, at a cut
module _ (n a b : Elem) (p q : ℕ) (us vs rows : List Row) (e : rows ≡ us ++ (halves_between n a b p q ++ vs)) (d : HasDistinctIds rows) where
  pub first_live : IsLive rows p
  first_live = cut_live us (p, (a, n)) (cond (same a b) [] ((q, (b, n)) ∷ []) ++ vs) rows e d

  module _ (rest : List Row) (less : rest ≡ remove_entry (nat_eq p) rows) where
    without_first : rest ≡ us ++ (cond (same a b) [] ((q, (b, n)) ∷ []) ++ vs)
    without_first = less ∙ cut_without us (p, (a, n)) (cond (same a b) [] ((q, (b, n)) ∷ []) ++ vs) rows e d

    pub without_loop : same a b ≡ true → rest ≡ us ++ vs
    without_loop t = without_first ∙ ap (λ s. us ++ (cond s [] ((q, (b, n)) ∷ []) ++ vs)) t

    module _ (t : same a b ≡ false) (later : HasDistinctIds rest) where
      second_at : rest ≡ us ++ (q, (b, n)) ∷ vs
      second_at = without_first ∙ ap (λ s. us ++ (cond s [] ((q, (b, n)) ∷ []) ++ vs)) t

      pub second_live : IsLive rest q
      second_live = cut_live us (q, (b, n)) vs rest second_at later

      pub without_both : remove_entry (nat_eq q) rest ≡ us ++ vs
      without_both = cut_without us (q, (b, n)) vs rest second_at later
