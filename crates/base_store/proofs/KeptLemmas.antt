-- Steps that are kept by a table of parts: what they are stays while the table grows, and where it is put behind another.
use Rattle.std.proofs.Common.{◌≡◌, ℕ, ◌+◌, ◌-◌, ◌<◌, ◌≤◌, List, [], ◌∷◌, ◌++◌, length, take, drop, refl, ap, sym, ◌∙◌, subst, get_or, arith, length-append, zero, suc}
use Rattle.std.specs.Prelude.{map, slice_get, Some}
use Rattle.std.proofs.lemmas.List.{append-nil, append_assoc, drop-append-le, length-drop, length-map, map-append, take-append-le}
use Rattle.std.proofs.lemmas.Option.{same_Some, slice_get-get_or, slice_get_within}
use Rattle.std.proofs.Math.Seq.{drop-append-add}
use Rattle.fn_lang.specs.declared.parts.Part.{Part}
use Rattle.fn_lang.specs.Flat.{IsFunc, IsPairPred, IsPred}
use Rattle.fn_lang.specs.PartTrees.{func_of, pair_of, pred_of}
use Rattle.base_store.specs.declared.store.Made.TheVariants as made
use Rattle.base_store.specs.declared.store.facts.Facts.{Facts}
use Rattle.base_store.specs.declared.store.kept.Kept.{Kept}
use Rattle.base_store.specs.declared.store.kept.KeptMade.{KeptMade}
use Rattle.base_store.specs.declared.store.kept.KeptMade.TheVariants as node
use Rattle.base_store.specs.declared.store.kept.KeptStep.{KeptStep}
use Rattle.base_store.specs.declared.store.kept.KeptStep.TheVariants as kept
use Rattle.base_store.specs.declared.store.kept.Run.{Run}
use Rattle.base_store.specs.KeptSteps.{AllStand, AreTabled, MadeStands, StandsAs, StandsIn, facts_in, listed, made_by, made_in, run_in, step_in}
use Rattle.base_store.specs.NodeLists.{all_kept}
use Rattle.vocabulary.specs.declared.steps.Step.TheVariants as step

-- each run of the one table is a run of the other, with the same parts
abbrev SameRuns : ℕ → List Part → ℕ → List Part → Type 0
SameRuns from ps from' ps' = (r : Run) → from ≤ r.start → r.start + r.len ≤ from + length ps → (from' ≤ r.start) × (r.start + r.len ≤ from' + length ps') × (run_in from' ps' r ≡ run_in from ps r)

stands_as : (is_tree : List Part → Type 0) (from from' : ℕ) (ps ps' : List Part) → SameRuns from ps from' ps' → (r : Run) → StandsAs is_tree from ps r → StandsAs is_tree from' ps' r × (run_in from' ps' r ≡ run_in from ps r)
stands_as is_tree from from' ps ps' same r h =
    let it = same r h.behind h.within in
    (record { behind = it.0; within = it.1; few = h.few; tree = subst is_tree (sym it.2) h.tree }, it.2)

step_moved : (from from' : ℕ) (ps ps' : List Part) → SameRuns from ps from' ps' → (it : KeptStep) → StandsIn from ps it → StandsIn from' ps' it × (step_in from' ps' it ≡ step_in from ps it)
step_moved from from' ps ps' same (kept.Plain word) h = (tt, refl)
step_moved from from' ps ps' same (kept.Filter word r) h = let it = stands_as IsPred from from' ps ps' same r h in (it.0, ap (λ (qs : List Part). step.Filter word (pred_of qs)) it.1)
step_moved from from' ps ps' same (kept.FilterPairs r) h = let it = stands_as IsPairPred from from' ps ps' same r h in (it.0, ap (λ (qs : List Part). step.FilterPairs (pair_of qs)) it.1)
step_moved from from' ps ps' same (kept.Change word r) h = let it = stands_as IsFunc from from' ps ps' same r h in (it.0, ap (λ (qs : List Part). step.Change word (func_of qs)) it.1)
step_moved from from' ps ps' same (kept.Within order window) h = (tt, refl)

made_moved : (from from' : ℕ) (ps ps' : List Part) → SameRuns from ps from' ps' → (it : KeptMade) → MadeStands from ps it → MadeStands from' ps' it × (made_by from' ps' it ≡ made_by from ps it)
made_moved from from' ps ps' same (node.Base b) h = (tt, refl)
made_moved from from' ps ps' same (node.Over it parent) h = let moved = step_moved from from' ps ps' same it h in (moved.0, ap (λ s. made.Over s parent) moved.1)

all_moved : (from from' : ℕ) (ps ps' : List Part) → SameRuns from ps from' ps' → (nodes : List Kept) → AllStand from ps nodes → AllStand from' ps' nodes × (map (made_in from' ps') nodes ≡ map (made_in from ps) nodes)
all_moved from from' ps ps' same [] h = (tt, refl)
all_moved from from' ps ps' same (it ∷ nodes) h =
    let first = made_moved from from' ps ps' same it.made h.0 in
    let rest = all_moved from from' ps ps' same nodes h.1 in
    ((first.0, rest.0), rw (first.1, rest.1) refl)

-- a table with more parts behind
grown : (from : ℕ) (ps more : List Part) → SameRuns from ps from (ps ++ more)
grown from ps more r behind within =
    let k : ℕ = r.start - from in
    let low : k ≤ length ps = omega (arith, behind, within) in
    let fits : r.len ≤ length (drop k ps) = omega (arith, behind, within, length-drop k ps) in
    (behind, omega (arith, within, length-append ps more), ap (take r.len) (drop-append-le k ps more low) ∙ take-append-le r.len (drop k ps) more fits)

-- a table behind another
joined : (ps qs : List Part) → SameRuns (length ps) qs 0 (ps ++ qs)
joined ps qs r behind within =
    let k : ℕ = r.start - length ps in
    let at : r.start - 0 ≡ length ps + k = omega (arith, behind) in
    (omega arith, omega (arith, within, length-append ps qs), ap (λ (n : ℕ). take r.len (drop n (ps ++ qs))) at ∙ ap (take r.len) (drop-append-add ps qs k))

pub stand_append : (from : ℕ) (ps : List Part) (xs ys : List Kept) → AllStand from ps xs → AllStand from ps ys → AllStand from ps (xs ++ ys)
stand_append from ps [] ys hx hy = hy
stand_append from ps (x ∷ xs) ys hx hy = (hx.0, stand_append from ps xs ys hx.1 hy)

-- the run of a node that is read
pub stand_at : (from : ℕ) (ps : List Part) (nodes : List Kept) (n : ℕ) (it : Kept) → AllStand from ps nodes → slice_get nodes n ≡ Some it → MadeStands from ps it.made
stand_at from ps [] n it h is = absurd (omega (arith, slice_get_within [] n it is))
stand_at from ps (x ∷ xs) zero it h is = subst (λ (y : Kept). MadeStands from ps y.made) (same_Some x it is) h.0
stand_at from ps (x ∷ xs) (suc n) it h is = stand_at from ps xs n it h.1 is

pub node_stands : (from : ℕ) (ps : List Part) (nodes : List Kept) (n : ℕ) (it : Kept) → n < length nodes → it ≡ get_or nodes n it → AllStand from ps nodes → MadeStands from ps it.made
node_stands from ps nodes n it lt is h = stand_at from ps nodes n it h (slice_get-get_or nodes n it lt ∙ ap Some (sym is))

-- what is made of a node that is read
at_map : {X Y : Type 0} (f : X → Y) (xs : List X) (n : ℕ) (x : X) → slice_get xs n ≡ Some x → slice_get (map f xs) n ≡ Some (f x)
at_map f [] n x is = absurd (omega (arith, slice_get_within [] n x is))
at_map f (first ∷ xs) zero x is = ap (λ y. Some (f y)) (same_Some first x is)
at_map f (first ∷ xs) (suc n) x is = at_map f xs n x is

pub read_map : {X Y : Type 0} (f : X → Y) (xs : List X) (n : ℕ) (x : X) → n < length xs → x ≡ get_or xs n x → slice_get (map f xs) n ≡ Some (f x)
read_map f xs n x lt is = at_map f xs n x (slice_get-get_or xs n x lt ∙ ap Some (sym is))

-- the tables with another temporary node
pub tabled_push : (ps qs more : List Part) (lasting temporary : List Kept) (it : Kept) → AreTabled ps qs lasting temporary → length more ≤ 64 → MadeStands (length ps) (qs ++ more) it.made → AreTabled ps (qs ++ more) lasting (temporary ++ it ∷ [])
tabled_push ps qs more lasting temporary it h few stands = record {
  lasting_stand = h.lasting_stand;
  temporary_stand = stand_append (length ps) (qs ++ more) temporary (it ∷ []) (all_moved (length ps) (length ps) qs (qs ++ more) (grown (length ps) qs more) temporary h.temporary_stand).0 (stands, tt);
  few = omega (arith, h.few, few, length-append qs more, length-append temporary (it ∷ []));
}

pub made_push : (ps qs more : List Part) (lasting temporary : List Kept) (it : Kept) → AreTabled ps qs lasting temporary
    → map (made_in 0 ps) lasting ++ map (made_in (length ps) (qs ++ more)) (temporary ++ it ∷ []) ≡ (map (made_in 0 ps) lasting ++ map (made_in (length ps) qs) temporary) ++ made_in (length ps) (qs ++ more) it ∷ []
made_push ps qs more lasting temporary it h =
    let same = (all_moved (length ps) (length ps) qs (qs ++ more) (grown (length ps) qs more) temporary h.temporary_stand).1 in
    rw (map-append (made_in (length ps) (qs ++ more)) temporary (it ∷ []), same, append_assoc (map (made_in 0 ps) lasting) (map (made_in (length ps) qs) temporary) (made_in (length ps) (qs ++ more) it ∷ [])) refl

-- the tables in which all nodes last
pub tabled_kept : (ps qs : List Part) (lasting temporary : List Kept) → AreTabled ps qs lasting temporary → AreTabled (ps ++ qs) [] (lasting ++ temporary) []
tabled_kept ps qs lasting temporary h = record {
  lasting_stand = stand_append 0 (ps ++ qs) lasting temporary (all_moved 0 0 ps (ps ++ qs) (grown 0 ps qs) lasting h.lasting_stand).0 (all_moved (length ps) 0 qs (ps ++ qs) (joined ps qs) temporary h.temporary_stand).0;
  temporary_stand = tt;
  few = omega arith;
}

pub made_kept : (ps qs : List Part) (lasting temporary : List Kept) → AreTabled ps qs lasting temporary
    → map (made_in 0 (ps ++ qs)) (lasting ++ temporary) ++ [] ≡ map (made_in 0 ps) lasting ++ map (made_in (length ps) qs) temporary
made_kept ps qs lasting temporary h =
    let here = (all_moved 0 0 ps (ps ++ qs) (grown 0 ps qs) lasting h.lasting_stand).1 in
    let there = (all_moved (length ps) 0 qs (ps ++ qs) (joined ps qs) temporary h.temporary_stand).1 in
    append-nil (map (made_in 0 (ps ++ qs)) (lasting ++ temporary)) ∙ map-append (made_in 0 (ps ++ qs)) lasting temporary ∙ rw (here, there) refl

pub facts_kept : (lasting temporary : List Kept) → map facts_in (lasting ++ temporary) ++ [] ≡ map facts_in lasting ++ map facts_in temporary
facts_kept lasting temporary = append-nil (map facts_in (lasting ++ temporary)) ∙ map-append facts_in lasting temporary

pub as_many : {X Y : Type 0} (f g : X → Y) (xs ys : List X) → length (map f xs ++ map g ys) ≡ length (xs ++ ys)
as_many f g xs ys = omega (arith, length-append (map f xs) (map g ys), length-append xs ys, length-map xs f, length-map ys g)

-- the tables without the temporary nodes, and with a base
pub tabled_base : (ps qs : List Part) (lasting temporary : List Kept) (b : ℕ) (facts : Facts) → AreTabled ps qs lasting temporary → AreTabled ps [] (lasting ++ record { made = node.Base b; facts = facts } ∷ []) []
tabled_base ps qs lasting temporary b facts h = record {
  lasting_stand = stand_append 0 ps lasting (record { made = node.Base b; facts = facts } ∷ []) h.lasting_stand (tt, tt);
  temporary_stand = tt;
  few = omega arith;
}

-- what all nodes are, once they last
pub all_last : (ps ps' qs qs' : List Part) (lasting lasting' temporary temporary' : List Kept) → AreTabled ps qs lasting temporary → ps' ≡ ps ++ qs → lasting' ≡ lasting ++ temporary → qs' ≡ [] → temporary' ≡ [] → listed ps' qs' lasting' temporary' ≡ all_kept (listed ps qs lasting temporary)
all_last ps ps' qs qs' lasting lasting' temporary temporary' h is_ps is_lasting is_qs is_temporary =
    rw (is_ps, is_lasting, is_qs, is_temporary, made_kept ps qs lasting temporary h, facts_kept lasting temporary, as_many (made_in 0 ps) (made_in (length ps) qs) lasting temporary) refl
