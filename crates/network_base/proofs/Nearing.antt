-- Walks through the edges at a node to the first behind another edge.
use Rattle.std.proofs.Common.{◌≡◌, ◌<◌, ◌≤◌, ◌+◌, ℕ, zero, suc, Bool, true, false, cond, List, [], ◌∷◌, ◌++◌, length, drop, Option, Some, None, refl, sym, ap, ◌∙◌, subst, arith, slice_get, append_assoc, add-one}
use Rattle.std.specs.Prelude.{MatchBool}
use Rattle.std.specs.List.{filter, AllByRecursion}
use Rattle.std.proofs.lemmas.List.Elements.{filter-append}
use Rattle.elem.specs.declared.elements.Elem.{Elem}
use Rattle.graph_base.specs.Edges.{Edge, is_at, incident}
use Rattle.network_base.specs.Beside.{IsNextAt, IsUpTo, IsNearing}
use Rattle.network_base.proofs.Merging.{behind}
use Rattle.network_base.proofs.Passing.{some_before}

-- the edges before one, and a rest behind it
record IsCut (edges : List Edge) (k : ℕ) (e : Edge) (rest : List Edge) : Type 0 where
  pub before : List Edge
  pub whole : edges ≡ before ++ e ∷ rest
  pub count : length before ≡ k

cut_behind : (edges : List Edge) (k : ℕ) (e : Edge) → slice_get edges k ≡ Some e → IsCut edges k e (drop (suc k) edges)
cut_behind [] k e h = absurd (cc)
cut_behind (y ∷ edges) zero e h = let equal : y ≡ e = cc in record { before = []; whole = ap (λ z. z ∷ edges) equal; count = refl }
cut_behind (y ∷ edges) (suc k) e h =
    let c = cut_behind edges k e h in
    record { before = y ∷ c.before; whole = ap (λ l. y ∷ l) c.whole; count = ap suc c.count }

cut_at : (edges : List Edge) (k : ℕ) (e : Edge) → slice_get edges k ≡ Some e → IsCut edges k e (drop (k + 1) edges)
cut_at edges k e h = subst (λ n. IsCut edges k e (drop n edges)) (sym (add-one k)) (cut_behind edges k e h)

later_all : (y : Edge) (edges : List Edge) (n : ℕ) (es : List Edge) → AllByRecursion (λ e. (j : ℕ) × (slice_get edges j ≡ Some e) × (j < n)) es → AllByRecursion (λ e. (j : ℕ) × (slice_get (y ∷ edges) j ≡ Some e) × (j < suc n)) es
later_all y edges n [] h = tt
later_all y edges n (e ∷ es) h = let c = h.0 in let less = c.2 in ((suc c.0, c.1, omega (arith, less)), later_all y edges n es h.1)

-- what passes in a front has a number below its length
front_all : (test : Edge → Bool) (us vs : List Edge) → AllByRecursion (λ e. (j : ℕ) × (slice_get (us ++ vs) j ≡ Some e) × (j < length us)) (filter test us)
front_all test [] vs = tt
front_all test (u ∷ us) vs = by_case (test u) (later_all u (us ++ vs) (length us) (filter test us) (front_all test us vs))
  where
    by_case : (b : Bool) → AllByRecursion (λ e. (j : ℕ) × (slice_get (u ∷ (us ++ vs)) j ≡ Some e) × (j < suc (length us))) (filter test us) → AllByRecursion (λ e. (j : ℕ) × (slice_get (u ∷ (us ++ vs)) j ≡ Some e) × (j < suc (length us))) (cond b (u ∷ filter test us) (filter test us))
    by_case true h = ((0, refl, omega arith), h)
    by_case false h = h

early_all : (edges whole : List Edge) (n k : ℕ) → whole ≡ edges → n ≡ k → (es : List Edge) → AllByRecursion (λ e. (j : ℕ) × (slice_get whole j ≡ Some e) × (j < n)) es → AllByRecursion (IsUpTo edges k) es
early_all edges whole n k w m [] h = tt
early_all edges whole n k w m (e ∷ es) h = let c = h.0 in let less = c.2 in ((c.0, ap (λ l. slice_get l c.0) (sym w) ∙ c.1, omega (arith, m, less)), early_all edges whole n k w m es h.1)

behind_drop : (edges : List Edge) (n m : ℕ) (e : Edge) → slice_get (drop n edges) m ≡ Some e → slice_get edges (n + m) ≡ Some e
behind_drop edges zero m e h = let here : 0 + m ≡ m = omega arith in ap (slice_get edges) here ∙ h
behind_drop [] (suc n) m e h = absurd (cc)
behind_drop (y ∷ edges) (suc n) m e h = let more : suc n + m ≡ suc (n + m) = omega arith in ap (slice_get (y ∷ edges)) more ∙ behind_drop edges n m e h

module _ (edges : List Edge) (k : ℕ) (end : Elem) where
  module _ (start : Edge) (is : slice_get edges k ≡ Some start) where
    module _ (c : IsCut edges k start (drop (k + 1) edges)) where
      parts : (t : Bool) → is_at end start ≡ t → incident end edges ≡ incident end c.before ++ cond t (start ∷ incident end (drop (k + 1) edges)) (incident end (drop (k + 1) edges))
      parts t h = ap (incident end) c.whole ∙ filter-append (is_at end) c.before (start ∷ drop (k + 1) edges) ∙ ap (λ b. incident end c.before ++ cond b (start ∷ incident end (drop (k + 1) edges)) (incident end (drop (k + 1) edges))) h

      place_cut : is_at end start ≡ true → slice_get (incident end edges) (length (incident end c.before) + 0) ≡ Some start
      place_cut t = ap (λ l. slice_get l (length (incident end c.before) + 0)) (parts true t) ∙ behind (incident end c.before) (start ∷ incident end (drop (k + 1) edges)) 0

      -- where the edge is at the node, the walk begins behind it, and else at the first edge at the node
      begin_cut : (first at : Option Edge) → first ≡ slice_get (incident end edges) 0
          → MatchBool (is_at end start) ((m : ℕ) → slice_get (incident end edges) m ≡ Some start → at ≡ slice_get (incident end edges) (m + 1)) (at ≡ first)
          → IsNearing edges k end at
      begin_cut first at f h = by_case (is_at end start) refl h
        where
          by_case : (t : Bool) → is_at end start ≡ t → MatchBool t ((m : ℕ) → slice_get (incident end edges) m ≡ Some start → at ≡ slice_get (incident end edges) (m + 1)) (at ≡ first) → IsNearing edges k end at
          by_case true t g =
              let further : length (incident end c.before) + 0 + 1 ≡ length (incident end c.before) + 1 = omega arith in
              record {
                gone = incident end c.before ++ start ∷ [];
                between = [];
                cut = parts true t ∙ sym (append_assoc (incident end c.before) (start ∷ []) (incident end (drop (k + 1) edges)));
                early = tt;
                here = g (length (incident end c.before) + 0) (place_cut t) ∙ ap (slice_get (incident end edges)) further ∙ ap (λ l. slice_get l (length (incident end c.before) + 1)) (parts true t) ∙ behind (incident end c.before) (start ∷ incident end (drop (k + 1) edges)) 1;
              }
          by_case false t g = record {
            gone = [];
            between = incident end c.before;
            cut = parts false t;
            early = early_all edges (c.before ++ start ∷ drop (k + 1) edges) (length c.before) k (sym c.whole) c.count (incident end c.before) (front_all (is_at end) c.before (start ∷ drop (k + 1) edges));
            here = g ∙ f ∙ ap (λ l. slice_get l 0) (parts false t);
          }

    pub begin_place : is_at end start ≡ true → (m : ℕ) × (slice_get (incident end edges) m ≡ Some start)
    begin_place t = let c = cut_at edges k start is in (length (incident end c.before) + 0, place_cut c t)

    pub begin_nearing : (first at : Option Edge) → first ≡ slice_get (incident end edges) 0
        → MatchBool (is_at end start) ((m : ℕ) → slice_get (incident end edges) m ≡ Some start → at ≡ slice_get (incident end edges) (m + 1)) (at ≡ first)
        → IsNearing edges k end at
    begin_nearing first at f h = begin_cut (cut_at edges k start is) first at f h

  module _ (at : Option Edge) (n : IsNearing edges k end at) where
    -- where there is no more edge, the walk is there
    pub over_behind : at ≡ None → IsNextAt edges (k + 1) end at
    over_behind h = by_case n.between n.here
      where
        by_case : (es : List Edge) → at ≡ slice_get (es ++ incident end (drop (k + 1) edges)) 0 → IsNextAt edges (k + 1) end at
        by_case [] e = e
        by_case (y ∷ es) e = absurd (cc)

    module _ (e : Edge) (h : at ≡ Some e) where
      pub nearing_place : (m : ℕ) × (slice_get (incident end edges) m ≡ Some e)
      nearing_place = (length n.gone + 0, ap (λ l. slice_get l (length n.gone + 0)) n.cut ∙ behind n.gone (n.between ++ incident end (drop (k + 1) edges)) 0 ∙ sym n.here ∙ h)

      pub nearing_number : (j : ℕ) × (slice_get edges j ≡ Some e)
      nearing_number = some_before (is_at end) edges nearing_place.0 e nearing_place.1

      -- an edge that comes later is the first behind
      pub later_behind : ((j : ℕ) → slice_get edges j ≡ Some e → k < j) → IsNextAt edges (k + 1) end at
      later_behind later = by_case n.between n.early n.here
        where
          by_case : (es : List Edge) → AllByRecursion (IsUpTo edges k) es → at ≡ slice_get (es ++ incident end (drop (k + 1) edges)) 0 → IsNextAt edges (k + 1) end at
          by_case [] all g = g
          by_case (y ∷ es) all g =
              let equal : y ≡ e = cc in
              let early = all.0 in
              let up = early.2 in
              let down = later early.0 (early.1 ∙ ap Some equal) in
              absurd (omega (arith, up, down))

      -- from an edge that does not come later the walk goes on
      pub nearer_on : (start : Edge) → slice_get edges k ≡ Some start → ((j : ℕ) → slice_get edges j ≡ Some e → j ≤ k) → (next : Option Edge) → ((m : ℕ) → slice_get (incident end edges) m ≡ Some e → next ≡ slice_get (incident end edges) (m + 1)) → IsNearing edges k end next
      unfolding nearing_place
      nearer_on start is earlier next to = by_case n.between n.cut n.early n.here
        where
          by_case : (es : List Edge) → incident end edges ≡ n.gone ++ (es ++ incident end (drop (k + 1) edges)) → AllByRecursion (IsUpTo edges k) es → at ≡ slice_get (es ++ incident end (drop (k + 1) edges)) 0 → IsNearing edges k end next
          by_case [] cut all g =
              let c = some_before (is_at end) (drop (k + 1) edges) 0 e (sym g ∙ h) in
              let up = earlier (k + 1 + c.0) (behind_drop edges (k + 1) c.0 e c.1) in
              absurd (omega (arith, up))
          by_case (y ∷ es) cut all g =
              let further : length n.gone + 0 + 1 ≡ length n.gone + 1 = omega arith in
              record {
                gone = n.gone ++ y ∷ [];
                between = es;
                cut = cut ∙ sym (append_assoc n.gone (y ∷ []) (es ++ incident end (drop (k + 1) edges)));
                early = all.1;
                here = to nearing_place.0 nearing_place.1 ∙ ap (slice_get (incident end edges)) further ∙ ap (λ l. slice_get l (length n.gone + 1)) cut ∙ behind n.gone (y ∷ (es ++ incident end (drop (k + 1) edges))) 1;
              }

-- what a test of two places tells
pub told_before : (t : Bool) (i j : ℕ) → t ≡ true → MatchBool t (i < j) (j ≤ i) → i < j
told_before true i j e h = h
told_before false i j e h = absurd (cc)

pub told_behind : (t : Bool) (i j : ℕ) → t ≡ false → MatchBool t (i < j) (j ≤ i) → j ≤ i
told_behind true i j e h = absurd (cc)
told_behind false i j e h = h
