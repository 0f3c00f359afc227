-- The candidates of a view stand in its places, one in each, and the view has there what the candidate shows.
use Rattle.std.proofs.Common.{◌≡◌, List, [], ◌∷◌, length, map, refl}
use Rattle.std.specs.Prelude.{Option, Some}
use Rattle.vocabulary.specs.Joins.{join_family}
use Rattle.vocabulary.specs.Steps.{family_of}
use Rattle.machine.specs.Bases.{World}
use Rattle.machine.specs.Candidates.{Candidate}
use Rattle.machine.specs.Leaves.{leaf_at}
use Rattle.machine.specs.Views.{View, base, both, over, candidates, order_over, weight}
use Rattle.view_laws.specs.declared.places.Found.{Found}
use Rattle.view_laws.specs.declared.places.Place.{Place}
use Rattle.view_laws.specs.Places.{found_in}
use Rattle.view_laws.specs.Spots.{Spots, TellAll}
use Rattle.view_laws.specs.ViewPlaces.{places, show}
use Rattle.view_laws.proofs.JoinLemmas.{leaves, some_base}
use Rattle.view_laws.proofs.JoinStands.{both_stand}
use Rattle.view_laws.proofs.SpotLemmas.{Stands, base_stands}
use Rattle.view_laws.proofs.StandLemmas.{step_stands}
use Rattle.view_laws.proofs.ZipLemmas.{Zipped, zipped-length}

pub view_stands : (world : World) (spots : Spots) → TellAll world spots → (v : View) → Zipped (Stands (show world spots v)) (places world spots v) (candidates world v)
view_stands world spots tell (base l) = base_stands (spots l) (leaf_at world l).rows (tell l)
view_stands world spots tell (over step v) =
    step_stands (family_of step) step (order_over world v step) (show world spots v) (places world spots v) (candidates world v) (view_stands world spots tell v)
view_stands world spots tell (both word v u) =
    both_stand (join_family word) word (weight v) (show world spots v) (show world spots u) (places world spots v) (places world spots u) (candidates world v) (candidates world u) (some_base v) (leaves world spots v)
    (view_stands world spots tell v) (view_stands world spots tell u)

labelled : (at : Place → Option Found) (ps : List Place) (cs : List Candidate) → Zipped (Stands at) ps cs → map at ps ≡ map Some (map found_in cs)
labelled at [] [] z = refl
labelled at [] (c ∷ cs) z = absurd z
labelled at (p ∷ ps) [] z = absurd z
labelled at (p ∷ ps) (c ∷ cs) z = λ i. z.0 i ∷ labelled at ps cs z.1 i

pub view_labels : (world : World) (spots : Spots) (v : View) → TellAll world spots → map (show world spots v) (places world spots v) ≡ map Some (map found_in (candidates world v))
view_labels world spots v tell = labelled (show world spots v) (places world spots v) (candidates world v) (view_stands world spots tell v)

pub as_many : (world : World) (spots : Spots) (v : View) → TellAll world spots → length (places world spots v) ≡ length (candidates world v)
as_many world spots v tell = zipped-length (Stands (show world spots v)) (places world spots v) (candidates world v) (view_stands world spots tell v)
