-- What goes from sorted rows in a window, from its first row to its last.
use Rattle.std.proofs.Common.{◌≡◌, ℕ, zero, suc, ◌<◌, ◌⊎◌, inl, inr, Bool, true, false, ◌&&◌, ◌||◌, not, List, [], ◌∷◌, length, refl, sym, ap, ◌∙◌, subst, arith}
use Rattle.std.specs.Prelude.{filter, slice_get, Option, Some, None}
use Rattle.std.proofs.lemmas.Option.{same_Some}
use Rattle.elem.specs.declared.cuts.Cut.{Cut}
use Rattle.elem.specs.declared.cuts.Cut.TheVariants.{Below, Above}
use Rattle.elem.specs.declared.elements.Elem.{Elem}
use Rattle.elem.specs.Cuts.{cut_upto, lies_between}
use Rattle.elem.specs.Elements.{same}
use Rattle.elem.specs.ElementLaws.{same-Decides}
use Rattle.elem.specs.Orders.{IsStrictOrder}
use Rattle.elem.specs.Rows.{first_key}
use Rattle.plain_base.specs.Sorted.{ComesFirst, IsInOrder, rows_above, rows_between}
use Rattle.view_laws.proofs.ListLemmas.{filter-all, filter-filter, both_true}
use Rattle.base_rows.proofs.ListLemmas.{filter-same, fewer}
use Rattle.base_rows.proofs.MemberLemmas.{StandsIn, passes_filter, in_kept}
use Rattle.base_rows.proofs.KeyDrops.{but_key}
use Rattle.base_rows.proofs.WindowLines.{behind, rows_behind, in_order-filter}

-- what stays, where the row of the first key goes if it passes
stays : (b s a t : Bool) → (b ≡ true → (s ≡ true) ⊎ (a ≡ true)) → (s ≡ true → b ≡ true) → (s ≡ true → a ≡ false) → ((b || not t) && not (s && t)) ≡ (b && a || not t)
stays true true true t near inside apart = let e = apart refl in absurd (cc)
stays true true false true near inside apart = refl
stays true true false false near inside apart = refl
stays true false true t near inside apart = refl
stays true false false t near inside apart = elim (near refl) [ inl e ↦ absurd (cc) | inr e ↦ absurd (cc) ]
stays false true a t near inside apart = let e = inside refl in absurd (cc)
stays false false a true near inside apart = refl
stays false false a false near inside apart = refl

window_only : (b t : Bool) → ((b || not t) && b) ≡ b
window_only true t = refl
window_only false true = refl
window_only false false = refl

-- the rows of which those outside a window have gone, where they pass
abbrev pub gone_outside : {V : Type 0} → (Elem → Elem → Bool) → (Elem × V → Bool) → Cut → Cut → List (Elem × V) → List (Elem × V)
gone_outside before test lo hi rows = filter (λ row. lies_between before lo hi row.0 || not (test row)) rows

module _ {V : Type 0} {before : Elem → Elem → Bool} (o : IsStrictOrder before) where
  comes_at : (a : Elem) (rows : List (Elem × V)) (i : ℕ) (row : Elem × V) → ComesFirst before a rows → slice_get rows i ≡ Some row → before a row.0 ≡ true
  comes_at a [] i row f at = absurd (cc)
  comes_at a (r ∷ rs) zero row f at = ap (λ (x : Elem × V). before a x.0) (sym (same_Some r row at)) ∙ f.0
  comes_at a (r ∷ rs) (suc i) row f at = comes_at a rs i row f.1 at

  -- a row of a part is the first one, or comes after it
  first_or_behind : (part : List (Elem × V)) (k : Elem) (row : Elem × V) → IsInOrder before part → Some k ≡ first_key part → StandsIn part row → (same k row.0 ≡ true) ⊎ (before k row.0 ≡ true)
  first_or_behind [] k row s first at = absurd (cc)
  first_or_behind (r ∷ rs) k row s first (zero, at) =
      inl ((same-Decides k row.0).1 (same_Some k r.0 first ∙ ap (λ (x : Elem × V). x.0) (same_Some r row at)))
  first_or_behind (r ∷ rs) k row s first (suc i, at) =
      inr (ap (λ (x : Elem). before x row.0) (same_Some k r.0 first) ∙ comes_at r.0 rs i row s.0 at)

  first_stands : (part : List (Elem × V)) (k : Elem) → Some k ≡ first_key part → (v : V) × (slice_get part 0 ≡ Some (k, v))
  first_stands [] k first = absurd (cc)
  first_stands (r ∷ rs) k first = (r.1, λ i. Some (sym (same_Some k r.0 first) i, r.1))

  none_left : (part : List (Elem × V)) → None ≡ first_key part → (row : Elem × V) → StandsIn part row → ⊥
  none_left [] none row at = cc
  none_left (r ∷ rs) none row at = cc

  -- the first row of a window lies in it
  pub first_inside : (lo hi : Cut) (k : Elem) (rows : List (Elem × V)) → Some k ≡ first_key (rows_between before lo hi rows) → lies_between before lo hi k ≡ true
  first_inside lo hi k rows first =
      let there = first_stands (rows_between before lo hi rows) k first in
      passes_filter (λ (row : Elem × V). lies_between before lo hi row.0) rows (k, there.0) 0 there.1

  -- a window that begins behind its first key does not end before it starts
  pub rest_after : (lo hi : Cut) (k : Elem) (rows : List (Elem × V)) → Some k ≡ first_key (rows_between before lo hi rows) → cut_upto before (Above k) hi ≡ true
  rest_after lo hi k rows first = (both_true (cut_upto before lo (Below k)) (cut_upto before (Above k) hi) (first_inside lo hi k rows first)).1

  module _ (test : Elem × V → Bool) where
    in_window : (lo hi : Cut) (rows : List (Elem × V)) → rows_between before lo hi (gone_outside before test lo hi rows) ≡ rows_between before lo hi rows
    in_window lo hi rows =
        filter-filter (λ (row : Elem × V). lies_between before lo hi row.0) (λ (row : Elem × V). lies_between before lo hi row.0 || not (test row)) rows
        ∙ ap (λ (p : Elem × V → Bool). filter p rows) (λ i row. window_only (lies_between before lo hi row.0) (test row) i)

    pub first_there : (lo hi : Cut) (old now : List (Elem × V)) (first : Option Elem) → now ≡ gone_outside before test lo hi old → first ≡ first_key (rows_between before lo hi now) → first ≡ first_key (rows_between before lo hi old)
    first_there lo hi old now first e f = f ∙ ap (λ (rows : List (Elem × V)). first_key (rows_between before lo hi rows)) e ∙ ap first_key (in_window lo hi old)

    -- at the start none has gone
    pub none_gone : (lo hi : Cut) (rows : List (Elem × V)) → ((row : Elem × V) → test row ≡ true → lies_between before lo hi row.0 ≡ true) → rows ≡ gone_outside before test lo hi rows
    none_gone lo hi rows covers =
        sym (ap (λ (p : Elem × V → Bool). filter p rows) (λ i row. by (lies_between before lo hi row.0) (test row) (covers row) i) ∙ filter-all rows)
      where
        by : (b t : Bool) → (t ≡ true → b ≡ true) → (b || not t) ≡ true
        by true t h = refl
        by false true h = h refl
        by false false h = refl

    -- then the first row of the window goes, if it passes
    pub first_gone : (lo hi : Cut) (k : Elem) (old now new : List (Elem × V)) → IsInOrder before old → now ≡ gone_outside before test lo hi old → Some k ≡ first_key (rows_between before lo hi now) → new ≡ but_key k test now
        → new ≡ gone_outside before test (Above k) hi old
    first_gone lo hi k old now new s e first f =
        let part : List (Elem × V) = rows_between before lo hi old in
        let head : Some k ≡ first_key part = first_there lo hi old now (Some k) e first in
        let inside : lies_between before lo hi k ≡ true = first_inside lo hi k old head in
        let low : cut_upto before lo (Below k) ≡ true = (both_true (cut_upto before lo (Below k)) (cut_upto before (Above k) hi) inside).0 in
        f ∙ ap (but_key k test) e
        ∙ filter-filter (λ (row : Elem × V). not (same k row.0 && test row)) (λ (row : Elem × V). lies_between before lo hi row.0 || not (test row)) old
        ∙ filter-same (λ (row : Elem × V). (lies_between before lo hi row.0 || not (test row)) && not (same k row.0 && test row)) (λ (row : Elem × V). lies_between before (Above k) hi row.0 || not (test row)) old
        (λ i row at.
        stays (lies_between before lo hi row.0) (same k row.0) (before k row.0) (test row)
        (λ b. first_or_behind part k row (in_order-filter before (λ (r : Elem × V). lies_between before lo hi r.0) old s) head (in_kept (λ (r : Elem × V). lies_between before lo hi r.0) old row i at b))
        (λ h. subst (λ (x : Elem). lies_between before lo hi x ≡ true) ((same-Decides k row.0).0 h) inside)
        (λ h. subst (λ (x : Elem). before k x ≡ false) ((same-Decides k row.0).0 h) (o.irreflexive k))
        ∙ ap (λ b. b || not (test row)) (behind o lo hi k row.0 low))

    -- the rest of the window has fewer rows
    pub fewer_in_rest : (lo hi : Cut) (k : Elem) (old now : List (Elem × V)) → now ≡ gone_outside before test lo hi old → Some k ≡ first_key (rows_between before lo hi now) → length (rows_between before (Above k) hi old) < length (rows_between before lo hi old)
    fewer_in_rest lo hi k old now e first =
        let head : Some k ≡ first_key (rows_between before lo hi old) = first_there lo hi old now (Some k) e first in
        let low : cut_upto before lo (Below k) ≡ true = (both_true (cut_upto before lo (Below k)) (cut_upto before (Above k) hi) (first_inside lo hi k old head)).0 in
        subst (λ (rows : List (Elem × V)). length rows < length (rows_between before lo hi old)) (rows_behind o lo hi k old low) (above (rows_between before lo hi old) head)
      where
        above : (part : List (Elem × V)) → Some k ≡ first_key part → length (rows_above before k part) < length part
        above [] h = absurd (cc)
        above (r ∷ rs) h =
            let itself : before k r.0 ≡ false = ap (before k) (sym (same_Some k r.0 h)) ∙ o.irreflexive k in
            let shorter = fewer (λ (row : Elem × V). before k row.0) rs in
            rw itself (omega (arith, shorter))

    -- and at the end all have gone
    pub all_gone_in : (lo hi : Cut) (old now : List (Elem × V)) → now ≡ gone_outside before test lo hi old → None ≡ first_key (rows_between before lo hi now) → now ≡ filter (λ row. not (test row)) old
    all_gone_in lo hi old now e none =
        let empty : None ≡ first_key (rows_between before lo hi old) = first_there lo hi old now None e none in
        e ∙ filter-same (λ (row : Elem × V). lies_between before lo hi row.0 || not (test row)) (λ (row : Elem × V). not (test row)) old
        (λ i row at. by (lies_between before lo hi row.0) (not (test row))
        (λ b. none_left (rows_between before lo hi old) empty row (in_kept (λ (r : Elem × V). lies_between before lo hi r.0) old row i at b)))
      where
        by : (b n : Bool) → (b ≡ true → ⊥) → (b || n) ≡ n
        by true n h = absurd (h refl)
        by false n h = refl
