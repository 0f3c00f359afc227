-- What a store's lists have at their places, and what a node that is added stands on.
use Rattle.std.proofs.Common.{◌≡◌, ℕ, ◌+◌, ◌-◌, ◌<◌, ◌≤◌, List, [], ◌∷◌, ◌++◌, length, get_or, refl, ap, ◌∙◌, subst, arith, length-append, zero, suc}
use Rattle.std.specs.Prelude.{slice_get, Some}
use Rattle.std.proofs.lemmas.Option.{same_Some, slice_get-get_or}
use Rattle.std.proofs.lemmas.List.{get_or-append_right, get_or_append_left, get_or_push}
use Rattle.machine.specs.Leaves.{stored}
use Rattle.machine.specs.Views.{base, over}
use Rattle.vocabulary.specs.declared.steps.Step.{Step}
use Rattle.base_store.specs.Nodes.{IsBelow, view_at}
use Rattle.base_store.proofs.ViewLemmas.{view_at-node, view_at-append}
use Rattle.base_store.specs.Stored.{Stored, view_in}
use Rattle.base_store.specs.declared.store.Made.{Made}
use Rattle.base_store.specs.declared.store.Made.TheVariants as made

-- an element behind the first list
pub behind : {X : Type 0} (xs ys : List X) (n : ℕ) (d : X) → length xs ≤ n → n < length (xs ++ ys) → slice_get (xs ++ ys) n ≡ Some (get_or ys (n - length xs) d)
behind xs ys n d low high = slice_get-get_or (xs ++ ys) n d high ∙ ap Some (get_or-append_right xs ys (length xs) n d refl low)

-- an element of the first list
pub in_front : {X : Type 0} (xs ys : List X) (n : ℕ) (d : X) → n < length xs → slice_get (xs ++ ys) n ≡ Some (get_or xs n d)
in_front xs ys n d lt = slice_get-get_or (xs ++ ys) n d (omega (arith, length-append xs ys)) ∙ ap Some (get_or_append_left xs ys d n lt)

-- what stands in a list with one more element stands in the list, or is that element
pub at_push : {X : Type 0} (xs : List X) (y x : X) (n : ℕ) → slice_get (xs ++ y ∷ []) n ≡ Some x → (n < length xs → slice_get xs n ≡ Some x) × (length xs ≤ n → (y ≡ x) × (n ≡ length xs))
at_push [] y x zero is = (λ lt. absurd (omega arith), λ le. (same_Some y x is, refl))
at_push [] y x (suc n) is = cc
at_push (w ∷ ws) y x zero is = (λ lt. is, λ le. absurd (omega arith))
at_push (w ∷ ws) y x (suc n) is =
    let rest = at_push ws y x n is in (
      λ lt. rest.0 (omega arith),
      λ le. let p = rest.1 (omega arith) in (p.0, ap suc p.1),
    )

pub below_more : (bases more n : ℕ) (node : Made) → bases ≤ more → IsBelow bases n node → IsBelow more n node
below_more bases more n (made.Base b) le h = let lt : b < bases = h in omega arith
below_more bases more n (made.Over step parent) le h = h

-- a node that is a base, and one that is a step, as views
pub base_node : (s : Stored) (n b : ℕ) (node : Made) → node ≡ made.Base b → slice_get s.nodes n ≡ Some node → IsBelow (length s.world) n node → (view_in s n ≡ base (stored b)) × (b < length s.world)
base_node s n b node e is below =
    let below' : IsBelow (length s.world) n (made.Base b) = subst (λ (m : Made). IsBelow (length s.world) n m) e below in
    (view_at-node s.nodes n (length s.world) (made.Base b) (is ∙ ap Some e) below', below')

pub step_node : (s : Stored) (n parent : ℕ) (step : Step) (node : Made) → node ≡ made.Over step parent → slice_get s.nodes n ≡ Some node → IsBelow (length s.world) n node → (view_in s n ≡ over step (view_in s parent)) × (parent < n)
step_node s n parent step node e is below =
    let below' : IsBelow (length s.world) n (made.Over step parent) = subst (λ (m : Made). IsBelow (length s.world) n m) e below in
    (view_at-node s.nodes n (length s.world) (made.Over step parent) (is ∙ ap Some e) below', below')

-- the node that was added last
added_node : (nodes : List Made) (node : Made) → slice_get (nodes ++ node ∷ []) (length nodes) ≡ Some node
added_node nodes node =
    let within : length nodes < length (nodes ++ node ∷ []) = omega (arith, length-append nodes (node ∷ [])) in
    slice_get-get_or (nodes ++ node ∷ []) (length nodes) node within ∙ ap Some (get_or_push nodes node node (length nodes) refl)

-- a base, and a step, added to the nodes
pub added_base : (nodes : List Made) (b : ℕ) → view_at (nodes ++ made.Base b ∷ []) (length nodes) ≡ base (stored b)
added_base nodes b = view_at-node (nodes ++ made.Base b ∷ []) (length nodes) (b + 1) (made.Base b) (added_node nodes (made.Base b)) (omega arith)

pub added_step : (nodes : List Made) (step : Step) (parent bases : ℕ) → parent < length nodes → view_at (nodes ++ made.Over step parent ∷ []) (length nodes) ≡ over step (view_at nodes parent)
added_step nodes step parent bases lt =
    view_at-node (nodes ++ made.Over step parent ∷ []) (length nodes) bases (made.Over step parent) (added_node nodes (made.Over step parent)) lt ∙ ap (over step) (view_at-append nodes (made.Over step parent ∷ []) parent lt)
