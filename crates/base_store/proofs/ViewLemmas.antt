-- What is made of a node is made of what its parent gave, and nodes that come later do not change it.
use Rattle.std.proofs.Common.{◌≡◌, ℕ, ◌+◌, ◌<◌, List, [], ◌∷◌, ◌++◌, length, get_or, take, drop, refl, ap, sym, ◌∙◌, arith, length-append, zero, suc, zero-add, add-zero}
use Rattle.std.specs.Prelude.{slice_get, fold, Some}
use Rattle.std.proofs.lemmas.Option.{same_Some}
use Rattle.std.proofs.lemmas.List.{get_or_append_left, get_or_push, take-append-drop}
use Rattle.std.proofs.lemmas.Grind.{fold-append}
use Rattle.machine.specs.Leaves.{stored}
use Rattle.machine.specs.Views.{base, over}
use Rattle.base_store.specs.Nodes.{made_of, view_of, view_at, IsBelow}
use Rattle.base_store.specs.declared.store.Made.{Made}
use Rattle.base_store.specs.declared.store.Made.TheVariants.{Base, Over}

-- where what was made of the nodes below n is the same, so is what is made of n
abbrev AsksBelow : {X : Type 0} → ((ℕ → X) → Made → X) → Type 0
AsksBelow {X} make = (at at' : ℕ → X) (n bases : ℕ) (node : Made) → IsBelow bases n node → ((p : ℕ) → p < n → at p ≡ at' p) → make at node ≡ make at' node

abbrev with_next : {X : Type 0} → X → ((ℕ → X) → Made → X) → List X → Made → List X
with_next none make made node = made ++ make (λ p. get_or made p none) node ∷ []

-- what was made stays as it is
kept : {X : Type 0} (none : X) (make : (ℕ → X) → Made → X) (made : List X) (nodes : List Made) (p : ℕ) → p < length made → get_or (fold (with_next none make) made nodes) p none ≡ get_or made p none
kept none make made [] p lt = refl
kept {X} none make made (node ∷ nodes) p lt =
    let x : X = make (λ p. get_or made p none) node in
    let longer : p < length (made ++ x ∷ []) = omega (arith, length-append made (x ∷ [])) in
    kept none make (made ++ x ∷ []) nodes p longer ∙ get_or_append_left made (x ∷ []) none p lt

at_node : {X : Type 0} (none : X) (make : (ℕ → X) → Made → X) (asks : AsksBelow make) (made : List X) (nodes : List Made) (i n bases : ℕ) (node : Made)
    → slice_get nodes i ≡ Some node → length made + i ≡ n → IsBelow bases n node
    → get_or (fold (with_next none make) made nodes) n none ≡ make (λ p. get_or (fold (with_next none make) made nodes) p none) node
at_node none make asks made [] i n bases node is e below = cc
at_node {X} none make asks made (x ∷ xs) zero n bases node is e below =
    let all : List X = fold (with_next none make) made (x ∷ xs) in
    let v : X = make (λ p. get_or made p none) x in
    let here : length made ≡ n = omega arith in
    let same_node : x ≡ node = same_Some x node is in
    let within : n < length (made ++ v ∷ []) = omega (arith, length-append made (v ∷ [])) in
    let old : (p : ℕ) → p < n → get_or made p none ≡ get_or all p none = λ p lt. let lt' : p < length made = omega arith in sym (kept none make made (x ∷ xs) p lt') in
    let there : get_or all n none ≡ v = kept none make (made ++ v ∷ []) xs n within ∙ get_or_push made v none n here in
    let v_is : v ≡ make (λ p. get_or made p none) node = cc in
    there ∙ v_is ∙ asks (λ p. get_or made p none) (λ p. get_or all p none) n bases node below old
at_node {X} none make asks made (x ∷ xs) (suc i) n bases node is e below =
    let v : X = make (λ p. get_or made p none) x in
    at_node none make asks (made ++ v ∷ []) xs i n bases node is (omega (arith, length-append made (v ∷ []))) below

length-made : {X : Type 0} (none : X) (make : (ℕ → X) → Made → X) (made : List X) (nodes : List Made) → length (fold (with_next none make) made nodes) ≡ length made + length nodes
length-made none make made [] = sym (add-zero (length made))
length-made {X} none make made (x ∷ xs) =
    let v : X = make (λ p. get_or made p none) x in
    omega (arith, length-made none make (made ++ v ∷ []) xs, length-append made (v ∷ []))

-- later nodes change nothing
made-append : {X : Type 0} (none : X) (make : (ℕ → X) → Made → X) (nodes more : List Made) (n : ℕ) → n < length nodes → get_or (made_of none make (nodes ++ more)) n none ≡ get_or (made_of none make nodes) n none
made-append none make nodes more n lt =
    let within : n < length (fold (with_next none make) [] nodes) = omega (arith, length-made none make [] nodes) in
    rw (fold-append (with_next none make) [] nodes more) (kept none make (fold (with_next none make) [] nodes) more n within)

view_asks : AsksBelow view_of
view_asks at at' n bases (Base b) below same = refl
view_asks at at' n bases (Over step parent) below same = let e : at parent ≡ at' parent = same parent below in ap (over step) e

-- a node's view, by the view of its parent
pub view_at-node : (nodes : List Made) (n bases : ℕ) (node : Made) → slice_get nodes n ≡ Some node → IsBelow bases n node → view_at nodes n ≡ view_of (view_at nodes) node
unfolding view_at
view_at-node nodes n bases node is below = at_node (base (stored 0)) view_of view_asks [] nodes n n bases node is (zero-add n) below

pub view_at-append : (nodes more : List Made) (n : ℕ) → n < length nodes → view_at (nodes ++ more) n ≡ view_at nodes n
unfolding view_at
view_at-append nodes more n lt = made-append (base (stored 0)) view_of nodes more n lt

-- the nodes at the front have their views without those behind
pub view_at-take : (nodes : List Made) (k n : ℕ) → n < length (take k nodes) → view_at (take k nodes) n ≡ view_at nodes n
view_at-take nodes k n lt = sym (view_at-append (take k nodes) (drop k nodes) n lt) ∙ ap (λ ns. view_at ns n) (take-append-drop k nodes)
