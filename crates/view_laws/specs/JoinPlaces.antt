-- Places of a step over two views, by families.
use Rattle.std.specs.Prelude.{zero, suc, ℕ, ◌+◌, not, nat_eq, nat_lt, if◌then◌else◌, List, [], ◌∷◌, ◌++◌, map, flat_map, Option, None, Some, option_map}
use Rattle.elem.specs.declared.elements.Elem.{Elem}
use Rattle.vocabulary.specs.declared.items.Item.TheVariants.{One}
use Rattle.vocabulary.specs.declared.items.Side.TheVariants.{First}
use Rattle.vocabulary.specs.declared.step_table.JoinFamily.{JoinFamily}
use Rattle.vocabulary.specs.declared.step_table.JoinFamily.TheVariants.{Hidden, Joined, Counted}
use Rattle.vocabulary.specs.declared.steps.JoinStep.{JoinStep}
use Rattle.vocabulary.specs.Joins.{count_in, has_second, size_in, stays}
use Rattle.machine.specs.Candidates.{Candidate, keys_in}
use Rattle.machine.specs.Joins.{count_of, shows, size_of}
use Rattle.machine.specs.KeyOrders.{ByFirst}
use Rattle.view_laws.specs.declared.places.Found.{Found}
use Rattle.view_laws.specs.declared.places.Place.{Place}
use Rattle.view_laws.specs.declared.places.RowSpot.{RowSpot}
use Rattle.view_laws.specs.declared.places.RowSpot.TheVariants.{Nth}
use Rattle.view_laws.specs.Places.{found_if, shifted, unshifted}

-- what stands at a place of the first view, or of the second
abbrev pub split : ℕ → (Place → Option Found) → (Place → Option Found) → Place → Option Found
split n at bt p = if nat_lt p.leaf n then at p else bt (unshifted n p)

-- ---- elements of bags, each of which stands at its number

-- how many candidates an element of the first has in both, and how many of them are seen
abbrev pub first_size : JoinStep → List Candidate → List Candidate → Elem → ℕ
first_size word cs ds x = size_in word (size_of x cs) (size_of x ds)

abbrev pub first_seen : JoinStep → List Candidate → List Candidate → Elem → ℕ
first_seen word cs ds x = if nat_eq (count_of x cs) 0 then 0 else count_in word (count_of x cs) (count_of x ds)

-- of an element of the second, those that the first shows nothing of are seen
abbrev pub second_seen : List Candidate → List Candidate → Elem → ℕ
second_seen cs ds x = if nat_eq (count_of x cs) 0 then count_of x ds else 0

-- one of so many candidates of an element, the first of which are seen
abbrev pub occurrence_at : (Elem → ℕ) → (Elem → ℕ) → RowSpot → Option Found
occurrence_at size seen (Nth x j) = if nat_lt j (size x) then Some (record { item = One x; seen = nat_lt j (seen x) }) else None
occurrence_at size seen other = None

-- so many places of an element, the first of which has the number j
abbrev pub occurrences : ℕ → Elem → ℕ → ℕ → List Place
occurrences leaf x j zero = []
occurrences leaf x j (suc more) = record { leaf = leaf; spot = Nth x j } ∷ occurrences leaf x (j + 1) more

abbrev pub occurrences_of : ℕ → (Elem → ℕ) → List Elem → List Place
occurrences_of leaf size xs = flat_map (λ x. occurrences leaf x 0 (size x)) xs

-- ---- by families, where the first view stands over n bases

-- what is at a place of two views, by the candidates of each and what it has there
abbrev pub shown_both : JoinFamily → JoinStep → ℕ → List Candidate → List Candidate → (Place → Option Found) → (Place → Option Found) → Place → Option Found
shown_both Hidden word n cs ds at bt p = option_map (found_if (λ item. stays word (shows ds item))) (at p)
shown_both Joined word n cs ds at bt p = split n (λ q. option_map (found_if (λ item. stays word (shows ds item))) (at q)) (λ q. option_map (found_if (λ item. not (shows cs item))) (bt q)) p
shown_both Counted word n cs ds at bt p =
    split n (λ q. occurrence_at (first_size word cs ds) (first_seen word cs ds) q.spot) (λ q. occurrence_at (λ x. size_of x ds) (second_seen cs ds) q.spot) p

abbrev pub places_both : JoinFamily → JoinStep → ℕ → List Candidate → List Candidate → List Place → List Place → List Place
places_both Hidden word n cs ds ps qs = ps
places_both Joined word n cs ds ps qs = ps ++ map (shifted n) qs
places_both Counted word n cs ds ps qs =
    occurrences_of 0 (first_size word cs ds) (keys_in First ByFirst cs)
    ++ (if has_second word then map (shifted n) (occurrences_of 0 (λ x. size_of x ds) (keys_in First ByFirst ds)) else [])
