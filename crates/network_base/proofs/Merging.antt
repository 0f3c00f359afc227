-- Two walks through the edges at two nodes, merged in the order of the edges.
use Rattle.std.proofs.Common.{◌≡◌, ◌<◌, ◌≤◌, ◌+◌, ℕ, suc, Bool, true, false, cond, List, [], ◌∷◌, ◌++◌, length, Option, Some, None, refl, sym, ap, ◌∙◌, subst, arith, slice_get, nat_lt, add-one, append_assoc, length-append}
use Rattle.std.specs.Prelude.{MatchBool, ◌||◌}
use Rattle.std.specs.List.{filter}
use Rattle.std.proofs.lemmas.List.Elements.{filter-append}
use Rattle.elem.specs.declared.elements.Elem.{Elem}
use Rattle.graph_base.specs.Edges.{Edge, is_at, incident}
use Rattle.graph_base.proofs.Cuts.{nothing}
use Rattle.network_base.specs.Beside.{IsEarlier}
use Rattle.network_base.proofs.Passing.{filter_within, some_before}
use Rattle.network_base.proofs.Rising.{test_true, test_false}

-- what a test of two edges tells
module _ (edges : List Edge) (first second : Option Edge) (e f : Edge) (a : first ≡ Some e) (b : second ≡ Some f) where
  of_both : (found : Option Edge) → ((i j : ℕ) → slice_get edges i ≡ Some e → slice_get edges j ≡ Some f → (i < j → found ≡ Some e) × (j ≤ i → found ≡ Some f)) → IsEarlier edges first second found
  of_both found h = subst (λ o. IsEarlier edges o second found) (sym a) (subst (λ o. IsEarlier edges (Some e) o found) (sym b) h)

  pub told_first : (t : Bool) → t ≡ true → ((i j : ℕ) → slice_get edges i ≡ Some e → slice_get edges j ≡ Some f → MatchBool t (i < j) (j ≤ i)) → IsEarlier edges first second (Some e)
  told_first true t h = of_both (Some e) (λ i j u v. let less = h i j u v in (λ l. refl, λ l. absurd (omega arith)))
  told_first false t h = absurd (cc)

  pub told_second : (t : Bool) → t ≡ false → ((i j : ℕ) → slice_get edges i ≡ Some e → slice_get edges j ≡ Some f → MatchBool t (i < j) (j ≤ i)) → IsEarlier edges first second (Some f)
  told_second true t h = absurd (cc)
  told_second false t h = of_both (Some f) (λ i j u v. let more = h i j u v in (λ l. absurd (omega arith), λ l. refl))

-- the first that passes, at a cut
head_cut : {X : Type 0} (test : X → Bool) (xs : List X) (x : X) → slice_get (filter test xs) 0 ≡ Some x → (us : List X) × (vs : List X) × (xs ≡ us ++ x ∷ vs) × (filter test us ≡ []) × (test x ≡ true)
head_cut test [] x e = absurd (cc)
head_cut {X} test (y ∷ xs) x e = by_case (test y) refl e (head_cut test xs x)
  where
    by_case : (b : Bool) → test y ≡ b → slice_get (cond b (y ∷ filter test xs) (filter test xs)) 0 ≡ Some x → (slice_get (filter test xs) 0 ≡ Some x → (us : List X) × (vs : List X) × (xs ≡ us ++ x ∷ vs) × (filter test us ≡ []) × (test x ≡ true))
        → (us : List X) × (vs : List X) × (y ∷ xs ≡ us ++ x ∷ vs) × (filter test us ≡ []) × (test x ≡ true)
    by_case true t f rest = let equal : y ≡ x = cc in ([], xs, ap (λ z. z ∷ xs) equal, refl, ap test (sym equal) ∙ t)
    by_case false t f rest =
        let c = rest f in
        (y ∷ c.0, c.1, ap (λ l. y ∷ l) c.2, ap (λ b. cond b (y ∷ filter test c.0) (filter test c.0)) t ∙ c.3, c.4)

pub behind : {X : Type 0} (us vs : List X) (k : ℕ) → slice_get (us ++ vs) (length us + k) ≡ slice_get vs k
behind [] vs k = ap (slice_get vs) (omega arith)
behind (u ∷ us) vs k = let more : suc (length us) + k ≡ suc (length us + k) = omega arith in ap (slice_get (u ∷ (us ++ vs))) more ∙ behind us vs k

no_head : {X : Type 0} (xs : List X) → slice_get xs 0 ≡ None → xs ≡ []
no_head [] e = refl
no_head (x ∷ xs) e = absurd (cc)

module _ (p q : Elem) where
  -- an edge at one of the two nodes
  abbrev pub either : Edge → Bool
  either e = is_at p e || is_at q e

  pub at_first : (e : Edge) → is_at p e ≡ true → either e ≡ true
  at_first e t = ap (λ b. b || is_at q e) t

  pub at_second : (e : Edge) → is_at q e ≡ true → either e ≡ true
  at_second e t = by_case (is_at p e) (is_at q e) t
    where
      by_case : (s b : Bool) → b ≡ true → (s || b) ≡ true
      by_case true b h = refl
      by_case false b h = h

  firsts : (vs : List Edge) (e f : Edge) → slice_get (incident p vs) 0 ≡ Some e → slice_get (incident q vs) 0 ≡ Some f
      → (i : ℕ) × (j : ℕ) × (slice_get vs i ≡ Some e) × (slice_get vs j ≡ Some f) × (i < j → slice_get (filter either vs) 0 ≡ Some e) × (j ≤ i → slice_get (filter either vs) 0 ≡ Some f)
  firsts [] e f g h = absurd (cc)
  firsts (y ∷ vs) e f g h = by_case (is_at p y) (is_at q y) g h (firsts vs e f)
    where
      by_case : (s t : Bool) → slice_get (cond s (y ∷ incident p vs) (incident p vs)) 0 ≡ Some e → slice_get (cond t (y ∷ incident q vs) (incident q vs)) 0 ≡ Some f
          → (slice_get (incident p vs) 0 ≡ Some e → slice_get (incident q vs) 0 ≡ Some f → (i : ℕ) × (j : ℕ) × (slice_get vs i ≡ Some e) × (slice_get vs j ≡ Some f) × (i < j → slice_get (filter either vs) 0 ≡ Some e) × (j ≤ i → slice_get (filter either vs) 0 ≡ Some f))
          → (i : ℕ) × (j : ℕ) × (slice_get (y ∷ vs) i ≡ Some e) × (slice_get (y ∷ vs) j ≡ Some f) × (i < j → slice_get (cond (s || t) (y ∷ filter either vs) (filter either vs)) 0 ≡ Some e) × (j ≤ i → slice_get (cond (s || t) (y ∷ filter either vs) (filter either vs)) 0 ≡ Some f)
      by_case true true a b rest = (0, 0, a, b, λ l. absurd (omega arith), λ l. b)
      by_case true false a b rest = let c = some_before (is_at q) vs 0 f b in (0, suc c.0, a, c.1, λ l. a, λ l. absurd (omega arith))
      by_case false true a b rest = let c = some_before (is_at p) vs 0 e a in (suc c.0, 0, c.1, b, λ l. absurd (omega arith), λ l. b)
      by_case false false a b rest = let c = rest a b in (suc c.0, suc c.1, c.2, c.3, λ l. c.4 (omega arith), λ l. c.5 (omega arith))

  only_first : (vs : List Edge) (o : Option Edge) → slice_get (incident p vs) 0 ≡ o → slice_get (incident q vs) 0 ≡ None → slice_get (filter either vs) 0 ≡ o
  only_first [] o g h = g
  only_first (y ∷ vs) o g h = by_case (is_at p y) (is_at q y) g h (only_first vs o)
    where
      by_case : (s t : Bool) → slice_get (cond s (y ∷ incident p vs) (incident p vs)) 0 ≡ o → slice_get (cond t (y ∷ incident q vs) (incident q vs)) 0 ≡ None → (slice_get (incident p vs) 0 ≡ o → slice_get (incident q vs) 0 ≡ None → slice_get (filter either vs) 0 ≡ o) → slice_get (cond (s || t) (y ∷ filter either vs) (filter either vs)) 0 ≡ o
      by_case s true a b rest = absurd (cc)
      by_case true false a b rest = a
      by_case false false a b rest = rest a b

  only_second : (vs : List Edge) (o : Option Edge) → slice_get (incident p vs) 0 ≡ None → slice_get (incident q vs) 0 ≡ o → slice_get (filter either vs) 0 ≡ o
  only_second [] o g h = h
  only_second (y ∷ vs) o g h = by_case (is_at p y) (is_at q y) g h (only_second vs o)
    where
      by_case : (s t : Bool) → slice_get (cond s (y ∷ incident p vs) (incident p vs)) 0 ≡ None → slice_get (cond t (y ∷ incident q vs) (incident q vs)) 0 ≡ o → (slice_get (incident p vs) 0 ≡ None → slice_get (incident q vs) 0 ≡ o → slice_get (filter either vs) 0 ≡ o) → slice_get (cond (s || t) (y ∷ filter either vs) (filter either vs)) 0 ≡ o
      by_case true t a b rest = absurd (cc)
      by_case false true a b rest = b
      by_case false false a b rest = rest a b

  module _ (edges : List Edge) (test : Edge → Bool) (target : Option Edge) where
    -- the two walks stand at the first edges of the rest
    pub record IsMerging (taken : ℕ) (first second : Option Edge) (left : ℕ) : Type 0 where
      pub passed : List Edge
      pub remaining : List Edge
      pub cut : edges ≡ passed ++ remaining
      pub first_is : first ≡ slice_get (incident p remaining) 0
      pub second_is : second ≡ slice_get (incident q remaining) 0
      pub fewer : length remaining + taken ≤ length edges
      pub rest : slice_get (filter test remaining) left ≡ target

    module _ (narrow : (e : Edge) → test e ≡ true → either e ≡ true) (taken : ℕ) (first second : Option Edge) (left : ℕ) (m : IsMerging taken first second left) where
      place_of : (end : Elem) (o : Option Edge) → o ≡ slice_get (incident end m.remaining) 0 → (e : Edge) → o ≡ Some e → (i : ℕ) × (slice_get edges i ≡ Some e)
      place_of end o h e f =
          let c = some_before (is_at end) m.remaining 0 e (sym h ∙ f) in
          (length m.passed + c.0, ap (λ l. slice_get l (length m.passed + c.0)) m.cut ∙ behind m.passed m.remaining c.0 ∙ c.1)

      pub first_place : (e : Edge) → first ≡ Some e → (i : ℕ) × (slice_get edges i ≡ Some e)
      first_place e f = place_of p first m.first_is e f

      pub second_place : (e : Edge) → second ≡ Some e → (i : ℕ) × (slice_get edges i ≡ Some e)
      second_place e f = place_of q second m.second_is e f

      -- the earlier of the two is the first of the rest
      pub earlier_is : (found : Option Edge) → IsEarlier edges first second found → found ≡ slice_get (filter either m.remaining) 0
      earlier_is found h = by_case first second refl refl h
        where
          both : (e f : Edge) → first ≡ Some e → second ≡ Some f → ((i j : ℕ) → slice_get edges i ≡ Some e → slice_get edges j ≡ Some f → (i < j → found ≡ Some e) × (j ≤ i → found ≡ Some f)) → found ≡ slice_get (filter either m.remaining) 0
          both e f a b k =
              let c = firsts m.remaining e f (sym m.first_is ∙ a) (sym m.second_is ∙ b) in
              let at = λ (n : ℕ). ap (λ l. slice_get l (length m.passed + n)) m.cut ∙ behind m.passed m.remaining n in
              let told = k (length m.passed + c.0) (length m.passed + c.1) (at c.0 ∙ c.2) (at c.1 ∙ c.3) in
              by_order c.0 c.1 (λ l. told.0 (omega arith) ∙ sym (c.4 l)) (λ l. told.1 (omega arith) ∙ sym (c.5 l))
            where
              by_order : (i j : ℕ) → (i < j → found ≡ slice_get (filter either m.remaining) 0) → (j ≤ i → found ≡ slice_get (filter either m.remaining) 0) → found ≡ slice_get (filter either m.remaining) 0
              by_order i j u v = by_test (nat_lt i j) refl
                where
                  by_test : (b : Bool) → nat_lt i j ≡ b → found ≡ slice_get (filter either m.remaining) 0
                  by_test true t = u (test_true i j t)
                  by_test false t = v (test_false i j t)

          by_case : (o r : Option Edge) → first ≡ o → second ≡ r → IsEarlier edges o r found → found ≡ slice_get (filter either m.remaining) 0
          by_case None r a b k = k ∙ sym (only_second m.remaining r (sym m.first_is ∙ a) (sym m.second_is ∙ b))
          by_case (Some e) None a b k = k ∙ sym (only_first m.remaining (Some e) (sym m.first_is ∙ a) (sym m.second_is ∙ b))
          by_case (Some e) (Some f) a b k = both e f a b k

      none_pass : filter either m.remaining ≡ [] → filter test m.remaining ≡ []
      none_pass e = sym (filter_within test either narrow m.remaining) ∙ ap (filter test) e

      pub merge_over : None ≡ slice_get (filter either m.remaining) 0 → None ≡ target
      merge_over e = sym (ap (λ l. slice_get l left) (none_pass (no_head (filter either m.remaining) (sym e)))) ∙ m.rest

      pub merge_end : length edges ≤ taken → None ≡ target
      merge_end h =
          let few = m.fewer in
          let none = nothing m.remaining (omega arith) in
          sym (ap (λ l. slice_get (filter test l) left) none) ∙ m.rest

      -- the walks go on behind the first of the rest
      module _ (e : Edge) (h : Some e ≡ slice_get (filter either m.remaining) 0) where
        here : (us : List Edge) × (vs : List Edge) × (m.remaining ≡ us ++ e ∷ vs) × (filter either us ≡ []) × (either e ≡ true)
        here = head_cut either m.remaining e (sym h)

        pub passes_either : either e ≡ true
        passes_either = here.4

        at_cut : (part : Edge → Bool) → ((x : Edge) → part x ≡ true → either x ≡ true) → filter part m.remaining ≡ cond (part e) (e ∷ filter part here.1) (filter part here.1)
        at_cut part within =
            ap (filter part) here.2 ∙ filter-append part here.0 (e ∷ here.1)
            ∙ ap (λ l. l ++ cond (part e) (e ∷ filter part here.1) (filter part here.1)) (sym (filter_within part either within here.0) ∙ ap (filter part) here.3)

        -- the place of the edge at one of the nodes
        module _ (end : Elem) (within : (x : Edge) → is_at end x ≡ true → either x ≡ true) where
          whole : (t : Bool) → is_at end e ≡ t → incident end edges ≡ incident end m.passed ++ cond t (e ∷ incident end here.1) (incident end here.1)
          whole t k = ap (incident end) m.cut ∙ filter-append (is_at end) m.passed m.remaining ∙ ap (λ l. incident end m.passed ++ l) (at_cut (is_at end) within ∙ ap (λ b. cond b (e ∷ incident end here.1) (incident end here.1)) k)

          place_is : is_at end e ≡ true → slice_get (incident end edges) (length (incident end m.passed) + 0) ≡ Some e
          place_is t = ap (λ l. slice_get l (length (incident end m.passed) + 0)) (whole true t) ∙ behind (incident end m.passed) (e ∷ incident end here.1) 0

          pub place_at : is_at end e ≡ true → (k : ℕ) × (slice_get (incident end edges) k ≡ Some e)
          place_at t = (length (incident end m.passed) + 0, place_is t)

          advanced : (at next : Option Edge) → at ≡ slice_get (incident end m.remaining) 0 → MatchBool (is_at end e) ((k : ℕ) → slice_get (incident end edges) k ≡ Some e → next ≡ slice_get (incident end edges) (k + 1)) (next ≡ at) → next ≡ slice_get (incident end here.1) 0
          advanced at next a k = by_case (is_at end e) refl k
            where
              by_case : (t : Bool) → is_at end e ≡ t → MatchBool t ((k : ℕ) → slice_get (incident end edges) k ≡ Some e → next ≡ slice_get (incident end edges) (k + 1)) (next ≡ at) → next ≡ slice_get (incident end here.1) 0
              by_case true t n =
                  let further : length (incident end m.passed) + 0 + 1 ≡ length (incident end m.passed) + 1 = omega arith in
                  n (length (incident end m.passed) + 0) (place_is t) ∙ ap (slice_get (incident end edges)) further ∙ ap (λ l. slice_get l (length (incident end m.passed) + 1)) (whole true t) ∙ behind (incident end m.passed) (e ∷ incident end here.1) 1
              by_case false t n = n ∙ a ∙ ap (λ l. slice_get l 0) (at_cut (is_at end) within ∙ ap (λ b. cond b (e ∷ incident end here.1) (incident end here.1)) t)

        split : (t : Bool) → test e ≡ t → slice_get (cond t (e ∷ filter test here.1) (filter test here.1)) left ≡ target
        split t k = sym (ap (λ l. slice_get l left) (at_cut test narrow ∙ ap (λ b. cond b (e ∷ filter test here.1) (filter test here.1)) k)) ∙ m.rest

        pub merge_found : test e ≡ true → left ≡ 0 → Some e ≡ target
        merge_found t z = ap (λ n. slice_get (e ∷ filter test here.1) n) (sym z) ∙ split true t

        module _ (next_first next_second : Option Edge) (to_first : MatchBool (is_at p e) ((k : ℕ) → slice_get (incident p edges) k ≡ Some e → next_first ≡ slice_get (incident p edges) (k + 1)) (next_first ≡ first))
            (to_second : MatchBool (is_at q e) ((k : ℕ) → slice_get (incident q edges) k ≡ Some e → next_second ≡ slice_get (incident q edges) (k + 1)) (next_second ≡ second)) where
          onward : (now : ℕ) → slice_get (filter test here.1) now ≡ target → IsMerging (taken + 1) next_first next_second now
          onward now r = record {
            passed = m.passed ++ (here.0 ++ e ∷ []);
            remaining = here.1;
            cut = m.cut ∙ ap (λ l. m.passed ++ l) (here.2 ∙ sym (append_assoc here.0 (e ∷ []) here.1)) ∙ sym (append_assoc m.passed (here.0 ++ e ∷ []) here.1);
            first_is = advanced p at_first first next_first m.first_is to_first;
            second_is = advanced q at_second second next_second m.second_is to_second;
            fewer =
                let few = m.fewer in
                let longer = ap length here.2 ∙ length-append here.0 (e ∷ here.1) in
                omega arith;
            rest = r;
          }

          pub merge_counted : test e ≡ true → (fewer : ℕ) → fewer + 1 ≡ left → IsMerging (taken + 1) next_first next_second fewer
          merge_counted t fewer k = onward fewer (ap (λ n. slice_get (e ∷ filter test here.1) n) (sym (add-one fewer) ∙ k) ∙ split true t)

          pub merge_passed : test e ≡ false → IsMerging (taken + 1) next_first next_second left
          merge_passed t = onward left (split false t)
