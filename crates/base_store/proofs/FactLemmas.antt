-- What is constant of a view stays while rows come and go, and each node keeps the facts of its view.
use Rattle.std.proofs.Common.{◌≡◌, ℕ, ◌<◌, true, List, [], ◌∷◌, ◌++◌, length, set, take, drop, refl, ap, sym, ◌∙◌, inl, inr, arith, length-append}
use Rattle.std.specs.Prelude.{slice_get, Some}
use Rattle.std.proofs.lemmas.Bool.{cases_eq, cases_lt}
use Rattle.std.proofs.lemmas.List.{get_or_push, get_or-set_other, length-take, take-append-drop}
use Rattle.std.proofs.lemmas.Option.{slice_get-get_or, slice_get_within}
use Rattle.vocabulary.specs.declared.shapes.Shape.{Shape}
use Rattle.vocabulary.specs.declared.kinds.Kind.TheVariants.{LinkedHashMap}
use Rattle.vocabulary.specs.Kinds.{shape_of_kind}
use Rattle.vocabulary.specs.StepShapes.{apply}
use Rattle.machine.specs.Bases.{Base, World, base_at, empty_base}
use Rattle.machine.specs.Leaves.{leaf_at}
use Rattle.machine.specs.Views.{View, base, both, over, base_under, shape_at, shape_after, flags_at}
use Rattle.view_steps.specs.KnownViews.{is_known_view, number_under}
use Rattle.view_steps.proofs.KnownLemmas.{known_base, known_over}
use Rattle.view_steps.proofs.WorldLemmas.{written_at}
use Rattle.base_store.specs.declared.store.Made.{Made}
use Rattle.base_store.specs.declared.store.facts.Facts.{Facts}
use Rattle.base_store.specs.Facts.{AreFactsOf, facts_at}
use Rattle.base_store.specs.Nodes.{view_at}
use Rattle.base_store.proofs.NodeLemmas.{in_front}
use Rattle.base_store.proofs.ViewLemmas.{view_at-append, view_at-take}

-- what is the same of the base under a known view is the same of its leaf
pub leaf_stays : {X : Type 0} (f : Base → X) (world world' : World) (v : View) → is_known_view v ≡ true → f (base_at world' (number_under v)) ≡ f (base_at world (number_under v)) → f (leaf_at world' (base_under v)) ≡ f (leaf_at world (base_under v))
leaf_stays f world world' v known same = ap f (known_base world' v known) ∙ same ∙ sym (ap f (known_base world v known))

shape_stays : (world world' : World) (v : View) → is_known_view v ≡ true → (leaf_at world' (base_under v)).kind ≡ (leaf_at world (base_under v)).kind → shape_at world' v ≡ shape_at world v
shape_stays world world' (base l) known same = ap shape_of_kind same
shape_stays world world' (over step v) known same = ap (λ (s : Shape). shape_after s (apply s step)) (shape_stays world world' v (known_over step v known).1 same)
shape_stays world world' (both word v u) known same = absurd (cc)

flags_stay : (world world' : World) (v : View) → is_known_view v ≡ true → (leaf_at world' (base_under v)).kind ≡ (leaf_at world (base_under v)).kind → (leaf_at world' (base_under v)).frozen ≡ (leaf_at world (base_under v)).frozen → flags_at world' v ≡ flags_at world v
flags_stay world world' (base l) known same still = rw still refl
flags_stay world world' (over step v) known same still =
    let below = (known_over step v known).1 in
    rw (shape_stays world world' v below same, flags_stay world world' v below same still) refl
flags_stay world world' (both word v u) known same still = absurd (cc)

-- the facts of a view depend on the kind of its base and on its frozen mark alone
pub facts_stay : (world world' : World) (v : View) → is_known_view v ≡ true → (base_at world' (number_under v)).kind ≡ (base_at world (number_under v)).kind → (base_at world' (number_under v)).frozen ≡ (base_at world (number_under v)).frozen → facts_at world' v ≡ facts_at world v
facts_stay world world' v known same still =
    let kind = leaf_stays (λ (it : Base). it.kind) world world' v known same in
    let mark = leaf_stays (λ (it : Base). it.frozen) world world' v known still in
    rw (shape_stays world world' v known kind, flags_stay world world' v known kind mark) refl

-- what stands in the front of a list stands in the list
pub front_at : {X : Type 0} (xs : List X) (k n : ℕ) (x : X) → slice_get (take k xs) n ≡ Some x → slice_get xs n ≡ Some x
front_at {X} xs k n x is =
    let lt : n < length (take k xs) = slice_get_within (take k xs) n x is in
    ap (λ (ys : List X). slice_get ys n) (sym (take-append-drop k xs)) ∙ in_front (take k xs) (drop k xs) n x lt ∙ sym (slice_get-get_or (take k xs) n x lt) ∙ is

at_front : {X : Type 0} (xs : List X) (k n : ℕ) (x : X) → n < length (take k xs) → slice_get xs n ≡ Some x → slice_get (take k xs) n ≡ Some x
at_front {X} xs k n x lt is =
    slice_get-get_or (take k xs) n x lt ∙ sym (in_front (take k xs) (drop k xs) n x lt) ∙ ap (λ (ys : List X). slice_get ys n) (take-append-drop k xs) ∙ is

-- the facts of the nodes at the front
pub facts_front : (world : World) (nodes : List Made) (facts : List Facts) (k : ℕ) → AreFactsOf world nodes facts → AreFactsOf world (take k nodes) (take k facts)
facts_front world nodes facts k h = record {
  as_many = omega (arith, h.as_many, length-take k nodes, length-take k facts);
  each = λ n lt.
      at_front facts k n (facts_at world (view_at (take k nodes) n)) (omega (arith, lt, h.as_many, length-take k nodes, length-take k facts))
      (h.each n (omega (arith, lt, length-take k nodes)) ∙ ap (λ (v : View). Some (facts_at world v)) (sym (view_at-take nodes k n lt)));
}

-- the facts of the nodes and of one more
pub facts_push : (world : World) (nodes : List Made) (facts : List Facts) (node : Made) (fact : Facts) → AreFactsOf world nodes facts → fact ≡ facts_at world (view_at (nodes ++ node ∷ []) (length nodes)) → AreFactsOf world (nodes ++ node ∷ []) (facts ++ fact ∷ [])
facts_push world nodes facts node fact h is = record {
  as_many = omega (arith, h.as_many, length-append nodes (node ∷ []), length-append facts (fact ∷ []));
  each = λ n lt. at_each n lt;
}
  where
    at_each : (n : ℕ) → n < length (nodes ++ node ∷ []) → slice_get (facts ++ fact ∷ []) n ≡ Some (facts_at world (view_at (nodes ++ node ∷ []) n))
    at_each n lt =
        elim (cases_lt n (length nodes)) [
          | inl less ↦
              let within : n < length facts = omega (arith, less, h.as_many) in
              in_front facts (fact ∷ []) n fact within ∙ sym (slice_get-get_or facts n fact within) ∙ h.each n less ∙ ap (λ (v : View). Some (facts_at world v)) (sym (view_at-append nodes (node ∷ []) n less))
          | inr le ↦
              let here : n ≡ length nodes = omega (arith, lt, le, length-append nodes (node ∷ [])) in
              let there : slice_get (facts ++ fact ∷ []) n ≡ Some fact = slice_get-get_or (facts ++ fact ∷ []) n fact (omega (arith, here, h.as_many, length-append facts (fact ∷ []))) ∙ ap Some (get_or_push facts fact fact n (omega (arith, here, h.as_many))) in
              there ∙ ap Some is ∙ ap (λ (k : ℕ). Some (facts_at world (view_at (nodes ++ node ∷ []) k))) (sym here)
        ]

-- the facts of the nodes in a world whose bases have the kinds and the marks that they had
pub facts_world : (world world' : World) (nodes : List Made) (facts : List Facts) → ((n : ℕ) → n < length nodes → is_known_view (view_at nodes n) ≡ true) → ((n : ℕ) → n < length nodes → number_under (view_at nodes n) < length world) → ((b : ℕ) → b < length world → (base_at world' b).kind ≡ (base_at world b).kind)
    → ((b : ℕ) → b < length world → (base_at world' b).frozen ≡ (base_at world b).frozen) → AreFactsOf world nodes facts → AreFactsOf world' nodes facts
facts_world world world' nodes facts known under same still h = record {
  as_many = h.as_many;
  each = λ n lt. let b : ℕ = number_under (view_at nodes n) in h.each n lt ∙ ap Some (sym (facts_stay world world' (view_at nodes n) (known n lt) (same b (under n lt)) (still b (under n lt))));
}

-- a base that changed has the mark that it had
pub written_mark : (world : World) (b : ℕ) (it : Base) → b < length world → it.frozen ≡ (base_at world b).frozen → (k : ℕ) → (base_at (set world b it) k).frozen ≡ (base_at world k).frozen
written_mark world b it lt same k =
    elim (cases_eq k b) [
      | inl here ↦ ap (λ (x : Base). x.frozen) (ap (base_at (set world b it)) here ∙ written_at world b it lt) ∙ same ∙ ap (λ (n : ℕ). (base_at world n).frozen) (sym here)
      | inr other ↦ ap (λ (x : Base). x.frozen) (get_or-set_other world b k it (empty_base LinkedHashMap) other)
    ]
