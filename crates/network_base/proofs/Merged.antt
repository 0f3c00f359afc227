-- The edges beside an edge, as two walks merge them.
use Rattle.std.proofs.Common.{◌≡◌, ◌≤◌, ◌+◌, ℕ, true, false, cond, not, List, [], ◌∷◌, length, take, drop, Option, Some, None, refl, sym, ap, ◌∙◌, arith, slice_get, length-append}
use Rattle.std.specs.Prelude.{MatchBool, ◌&&◌}
use Rattle.std.specs.List.{filter}
use Rattle.std.proofs.lemmas.List.{take-append-drop}
use Rattle.elem.specs.declared.elements.Elem.{Elem}
use Rattle.elem.specs.Elements.{same}
use Rattle.graph_base.specs.Edges.{Edge, is_at, incident}
use Rattle.graph_base.proofs.EndsLemmas.{and_parts}
use Rattle.network_base.specs.Networks.{ends_of}
use Rattle.network_base.specs.Shown.{shares_end}
use Rattle.network_base.specs.Beside.{IsEarlier, IsNextAt, is_beside}
use Rattle.network_base.proofs.Merging.{IsMerging, either, at_first, at_second, first_place, second_place, earlier_is, merge_over, merge_end, merge_found, merge_counted, merge_passed, passes_either, place_at}

-- nothing is beside an edge that is not there
pub none_beside : (edges all : List Edge) (x : Elem) → ends_of x all ≡ None → filter (is_beside all x) edges ≡ []
none_beside [] all x e = refl
none_beside (y ∷ edges) all x e = ap (λ o. cond (shares_end o y && not (same x y.2)) (y ∷ filter (is_beside all x) edges) (filter (is_beside all x) edges)) e ∙ none_beside edges all x e

module _ (edges : List Edge) (x p q : Elem) (is : ends_of x edges ≡ Some (p, q)) where
  beside_is : (y : Edge) → is_beside edges x y ≡ (either p q y && not (same x y.2))
  beside_is y = ap (λ o. shares_end o y && not (same x y.2)) is

  narrow : (y : Edge) → is_beside edges x y ≡ true → either p q y ≡ true
  narrow y t = (and_parts (either p q y) (not (same x y.2)) (sym (beside_is y) ∙ t)).0

  module _ (target : Option Edge) where
    abbrev pub IsMerged : ℕ → Option Edge → Option Edge → ℕ → Type 0
    IsMerged taken first second left = IsMerging p q edges (is_beside edges x) target taken first second left

    module _ (taken : ℕ) (first second : Option Edge) (left : ℕ) (m : IsMerged taken first second left) where
      pub merged_end : length edges ≤ taken → None ≡ target
      merged_end h = merge_end p q edges (is_beside edges x) target narrow taken first second left m h

      pub merged_first : (e : Edge) → first ≡ Some e → (i : ℕ) × (slice_get edges i ≡ Some e)
      merged_first e h = first_place p q edges (is_beside edges x) target narrow taken first second left m e h

      pub merged_second : (e : Edge) → second ≡ Some e → (i : ℕ) × (slice_get edges i ≡ Some e)
      merged_second e h = second_place p q edges (is_beside edges x) target narrow taken first second left m e h

      module _ (found : Option Edge) (earlier : IsEarlier edges first second found) where
        found_is : found ≡ slice_get (filter (either p q) m.remaining) 0
        found_is = earlier_is p q edges (is_beside edges x) target narrow taken first second left m found earlier

        pub merged_over : found ≡ None → None ≡ target
        merged_over h = merge_over p q edges (is_beside edges x) target narrow taken first second left m (sym h ∙ found_is)

        module _ (e : Edge) (h : found ≡ Some e) where
          some_is : Some e ≡ slice_get (filter (either p q) m.remaining) 0
          some_is = sym h ∙ found_is

          at_either : either p q e ≡ true
          at_either = passes_either p q edges (is_beside edges x) target narrow taken first second left m e some_is

          shown : same x e.2 ≡ false → is_beside edges x e ≡ true
          shown f = beside_is e ∙ (λ i. at_either i && not (f i))

          hidden : same x e.2 ≡ true → is_beside edges x e ≡ false
          hidden f = beside_is e ∙ (λ i. at_either i && not (f i))

          pub merged_found : same x e.2 ≡ false → left ≡ 0 → Some e ≡ target
          merged_found f z = merge_found p q edges (is_beside edges x) target narrow taken first second left m e some_is (shown f) z

          pub merged_place_first : is_at p e ≡ true → (k : ℕ) × (slice_get (incident p edges) k ≡ Some e)
          merged_place_first t = place_at p q edges (is_beside edges x) target narrow taken first second left m e some_is p (at_first p q) t

          pub merged_place_second : is_at q e ≡ true → (k : ℕ) × (slice_get (incident q edges) k ≡ Some e)
          merged_place_second t = place_at p q edges (is_beside edges x) target narrow taken first second left m e some_is q (at_second p q) t

          module _ (next_first next_second : Option Edge) (to_first : MatchBool (is_at p e) ((k : ℕ) → slice_get (incident p edges) k ≡ Some e → next_first ≡ slice_get (incident p edges) (k + 1)) (next_first ≡ first))
              (to_second : MatchBool (is_at q e) ((k : ℕ) → slice_get (incident q edges) k ≡ Some e → next_second ≡ slice_get (incident q edges) (k + 1)) (next_second ≡ second)) where
            pub merged_counted : same x e.2 ≡ false → (fewer : ℕ) → fewer + 1 ≡ left → IsMerged (taken + 1) next_first next_second fewer
            merged_counted f fewer k = merge_counted p q edges (is_beside edges x) target narrow taken first second left m e some_is next_first next_second to_first to_second (shown f) fewer k

            pub merged_passed : same x e.2 ≡ true → IsMerged (taken + 1) next_first next_second left
            merged_passed f = merge_passed p q edges (is_beside edges x) target narrow taken first second left m e some_is next_first next_second to_first to_second (hidden f)

  -- before the first step the walks stand at their first edges
  pub merged_begin : (k : ℕ) (first second : Option Edge) (i : ℕ) → IsNextAt edges k p first → IsNextAt edges k q second → IsMerged (slice_get (filter (is_beside edges x) (drop k edges)) i) 0 first second i
  merged_begin k first second i f s = record {
    passed = take k edges;
    remaining = drop k edges;
    cut = sym (take-append-drop k edges);
    first_is = f;
    second_is = s;
    fewer =
        let longer = ap length (sym (take-append-drop k edges)) ∙ length-append (take k edges) (drop k edges) in
        omega arith;
    rest = refl;
  }
