-- The lines of two views together, and whole lines.
use Rattle.std.proofs.Common.{◌≡◌, ℕ, Bool, false, cond, not, List, [], ◌∷◌, ◌++◌, map, refl, ap, sym, ◌∙◌, subst}
use Rattle.std.specs.Prelude.{filter, Option, Some}
use Rattle.std.proofs.lemmas.List.Elements.{filter-append}
use Rattle.elem.specs.declared.elements.Elem.{Elem}
use Rattle.vocabulary.specs.declared.step_table.JoinFamily.TheVariants.{Hidden, Joined}
use Rattle.vocabulary.specs.declared.steps.JoinStep.{JoinStep}
use Rattle.vocabulary.specs.Joins.{join_family, stays}
use Rattle.machine.specs.Bases.{World}
use Rattle.machine.specs.Candidates.{Candidate}
use Rattle.machine.specs.Joins.{shows}
use Rattle.machine.specs.Views.{View, both, candidates, root, weight}
use Rattle.view_laws.specs.declared.lanes.Lane.{Lane}
use Rattle.view_laws.specs.declared.lanes.Pick.TheVariants.{Each}
use Rattle.view_laws.specs.declared.places.Found.{Found}
use Rattle.view_laws.specs.declared.places.Place.{Place}
use Rattle.view_laws.specs.JoinPlaces.{places_both, shown_both, split}
use Rattle.view_laws.specs.Lanes.{all, line, line_of, picked, takes, turned_if}
use Rattle.view_laws.specs.Narrowing.{is_run}
use Rattle.view_laws.specs.Places.{found_in, passes_at, shifted}
use Rattle.view_laws.specs.Spots.{Spots, TellAll}
use Rattle.view_laws.specs.ViewPlaces.{places, show}
use Rattle.view_laws.proofs.JoinLemmas.{AllUnder, in_first, in_second, leaves}
use Rattle.view_laws.proofs.JoinStands.{first_at, second_at}
use Rattle.view_laws.proofs.LineLemmas.{found_hidden, hidden_line}
use Rattle.view_laws.proofs.ListLemmas.{filter-map}
use Rattle.view_laws.proofs.SpotLemmas.{Stands}
use Rattle.view_laws.proofs.ViewStands.{view_labels, view_stands}
use Rattle.view_laws.proofs.ZipLemmas.{Zipped}

pub line-hidden : (world : World) (spots : Spots) (word : JoinStep) (v u : View) (lane : Lane) (back : Bool) → join_family word ≡ Hidden → is_run lane.pick ≡ false → line world spots (both word v u) lane back ≡ line world spots v lane back
line-hidden world spots word v u lane back is h =
    subst
    (λ family.
    line_of lane (root world v).keys back (shown_both family word (weight v) (candidates world v) (candidates world u) (show world spots v) (show world spots u)) (places_both family word (weight v) (candidates world v) (candidates world u) (places world spots v) (places world spots u))
    ≡ line world spots v lane back)
    (sym is) (hidden_line (λ item. stays word (shows (candidates world u) item)) lane (root world v).keys back (show world spots v) (places world spots v) h)

-- ---- the second behind the first

near : (n : ℕ) (test : Option Found → Bool) (at bt : Place → Option Found) (ps : List Place) → AllUnder n ps → filter (λ p. test (split n at bt p)) ps ≡ filter (λ p. test (at p)) ps
near n test at bt [] g = refl
near n test at bt (p ∷ ps) g = (λ i. cond (test (in_first n at bt p g.0 i)) (p ∷ near n test at bt ps g.1 i) (near n test at bt ps g.1 i))

far : (n : ℕ) (test : Option Found → Bool) (at bt : Place → Option Found) (qs : List Place) → filter (λ p. test (split n at bt p)) (map (shifted n) qs) ≡ map (shifted n) (filter (λ q. test (bt q)) qs)
far n test at bt qs = filter-map (λ p. test (split n at bt p)) (shifted n) qs ∙ (λ i. map (shifted n) (filter (λ q. test (in_second n at bt q i)) qs))

taken_joined : (word : JoinStep) (n : ℕ) (lane : Lane) (cs ds : List Candidate) (at bt : Place → Option Found) (ps qs : List Place) → AllUnder n ps
    → filter (λ p. passes_at (takes lane) (shown_both Joined word n cs ds at bt p)) (ps ++ map (shifted n) qs) ≡ filter (λ p. passes_at (takes lane) (at p)) ps ++ map (shifted n) (filter (λ q. passes_at (takes lane) (bt q)) qs)
taken_joined word n lane cs ds at bt ps qs g =
    filter-append (λ p. passes_at (takes lane) (shown_both Joined word n cs ds at bt p)) ps (map (shifted n) qs)
    ∙ (λ i. near n (passes_at (takes lane)) (first_at word ds at) (second_at cs bt) ps g i ++ far n (passes_at (takes lane)) (first_at word ds at) (second_at cs bt) qs i)
    ∙ (λ i. filter (λ p. found_hidden (λ item. stays word (shows ds item)) (takes lane) (at p) i) ps ++ map (shifted n) (filter (λ q. found_hidden (λ item. not (shows cs item)) (takes lane) (bt q) i) qs))

line_both : (word : JoinStep) (n : ℕ) (lane : Lane) (ks ls : List Elem) (back : Bool) (cs ds : List Candidate) (at bt : Place → Option Found) (ps qs : List Place) → AllUnder n ps → lane.pick ≡ Each
    → line_of lane ks back (shown_both Joined word n cs ds at bt) (ps ++ map (shifted n) qs) ≡ turned_if back (line_of lane ks false at ps ++ map (shifted n) (line_of lane ls false bt qs))
line_both word n lane ks ls back cs ds at bt ps qs g e =
    ap (λ pick. turned_if back (filter (λ p. passes_at (takes lane) (shown_both Joined word n cs ds at bt p)) (picked pick ks (shown_both Joined word n cs ds at bt) (ps ++ map (shifted n) qs)))) e
    ∙ ap (turned_if back) (taken_joined word n lane cs ds at bt ps qs g)
    ∙ ap (λ pick. turned_if back (filter (λ p. passes_at (takes lane) (at p)) (picked pick ks at ps) ++ map (shifted n) (filter (λ q. passes_at (takes lane) (bt q)) (picked pick ls bt qs)))) (sym e)

pub line-joined : (world : World) (spots : Spots) (word : JoinStep) (v u : View) (lane : Lane) (back : Bool) → join_family word ≡ Joined → lane.pick ≡ Each
    → line world spots (both word v u) lane back ≡ turned_if back (line world spots v lane false ++ map (shifted (weight v)) (line world spots u lane false))
line-joined world spots word v u lane back is e =
    subst
    (λ family.
    line_of lane (root world v).keys back (shown_both family word (weight v) (candidates world v) (candidates world u) (show world spots v) (show world spots u)) (places_both family word (weight v) (candidates world v) (candidates world u) (places world spots v) (places world spots u))
    ≡ turned_if back (line world spots v lane false ++ map (shifted (weight v)) (line world spots u lane false)))
    (sym is)
    (line_both word (weight v) lane (root world v).keys (root world u).keys back (candidates world v) (candidates world u) (show world spots v) (show world spots u) (places world spots v) (places world spots u) (leaves world spots v) e)

-- ---- whole lines

all_taken : (at : Place → Option Found) (ps : List Place) (cs : List Candidate) → Zipped (Stands at) ps cs → filter (λ p. passes_at (takes all) (at p)) ps ≡ ps
all_taken at [] [] z = refl
all_taken at [] (c ∷ cs) z = absurd z
all_taken at (p ∷ ps) [] z = absurd z
all_taken at (p ∷ ps) (c ∷ cs) z = (λ i. cond (passes_at (takes all) (z.0 i)) (p ∷ all_taken at ps cs z.1 i) (all_taken at ps cs z.1 i))

pub whole-line : (world : World) (spots : Spots) (v : View) → TellAll world spots → line world spots v all false ≡ places world spots v
whole-line world spots v tell = all_taken (show world spots v) (places world spots v) (candidates world v) (view_stands world spots tell v)

pub found-in-lane : (world : World) (spots : Spots) (v : View) (lane : Lane) → TellAll world spots → lane.pick ≡ Each
    → map (show world spots v) (line world spots v lane false) ≡ map Some (filter (λ (d : Found). takes lane d.item) (map found_in (candidates world v)))
found-in-lane world spots v lane tell e =
    ap (λ pick. map (show world spots v) (filter (λ p. passes_at (takes lane) (show world spots v p)) (picked pick (root world v).keys (show world spots v) (places world spots v)))) e
    ∙ sym (filter-map (passes_at (takes lane)) (show world spots v) (places world spots v))
    ∙ ap (filter (passes_at (takes lane))) (view_labels world spots v tell)
    ∙ filter-map (passes_at (takes lane)) Some (map found_in (candidates world v))
