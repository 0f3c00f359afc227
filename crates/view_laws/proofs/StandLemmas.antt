-- What a step makes of candidates that stand in places stands in the places of the step, family by family.
use Rattle.std.proofs.Common.{◌≡◌, ℕ, zero, suc, ◌+◌, Bool, true, cond, List, [], ◌∷◌, length, map, reverse, refl, ap, sym, ◌∙◌, subst, arith}
use Rattle.std.specs.Prelude.{filter, flat_map, nat_lt, Option, Some, None, option_map}
use Rattle.std.specs.List.{AllByRecursion}
use Rattle.std.proofs.lemmas.Bool.Decides.{nat_tests}
use Rattle.elem.specs.declared.elements.Elem.{Elem}
use Rattle.elem.specs.Elements.{same}
use Rattle.elem.specs.ElementLaws.{same-Decides}
use Rattle.vocabulary.specs.declared.items.Item.{Item}
use Rattle.vocabulary.specs.declared.items.Item.TheVariants.{Piece}
use Rattle.vocabulary.specs.declared.items.Side.{Side}
use Rattle.vocabulary.specs.declared.items.Side.TheVariants.{First}
use Rattle.vocabulary.specs.declared.step_table.Family.{Family}
use Rattle.vocabulary.specs.declared.step_table.Family.TheVariants.{Same, Changed, Turned, Keyed, Hidden, Cut, Grouped, Run, Pieces}
use Rattle.vocabulary.specs.declared.steps.Step.{Step}
use Rattle.vocabulary.specs.declared.sublists.Sublist.{Sublist}
use Rattle.vocabulary.specs.Items.{part_of}
use Rattle.vocabulary.specs.Steps.{group_item, item_of, length_of_pieces, passes, run_in, side_of}
use Rattle.machine.specs.Candidates.{Candidate, changed, cut, group, grouped, hidden, in_family, in_key_order, is_seen, keys_in, members, of_key, piece_count, pieces_from, run_of, seen_if, with_item}
use Rattle.machine.specs.KeyOrders.{AsTheyCome, ByFirst, Kept, KeyOrder, Sorted, arranged, each_once}
use Rattle.view_laws.specs.declared.places.Found.{Found}
use Rattle.view_laws.specs.declared.places.Place.{Place}
use Rattle.view_laws.specs.Places.{first_only, found_changed, found_group, found_if, found_in, has_part_at, heads, is_seen_at, keys_at, part_at, passes_at, piece_at, places_by_key, places_of_pieces, places_of_run, places_over, shown_over}
use Rattle.view_laws.proofs.KeyLemmas.{AllAmong, arranged_there, has_members}
use Rattle.view_laws.proofs.ListLemmas.{all-passing}
use Rattle.view_laws.proofs.SpotLemmas.{Stands}
use Rattle.view_laws.proofs.ZipLemmas.{Zipped, zipped-append, zipped-as, zipped-drop, zipped-filter, zipped-flat_map, zipped-length, zipped-map, zipped-reverse, zipped-take}

through : (g : Found → Found) (at : Place → Option Found) (p : Place) (c d : Candidate) → found_in d ≡ g (found_in c) → Stands at p c → Stands (λ q. option_map g (at q)) p d
through g at p c d same s = ap (option_map g) s ∙ ap Some (sym same)

as_they_are : (at : Place → Option Found) (ps : List Place) (cs : List Candidate) → Zipped (Stands at) ps cs → Zipped (Stands (λ p. option_map (λ d. d) (at p))) ps cs
as_they_are at ps cs z = zipped-as _ _ (λ p c s. through (λ d. d) at p c c refl s) ps cs z

changed_stand : (f : Item → Item) (at : Place → Option Found) (ps : List Place) (cs : List Candidate) → Zipped (Stands at) ps cs → Zipped (Stands (λ p. option_map (found_changed f) (at p))) ps (changed f cs)
changed_stand f at ps cs z = zipped-map _ _ (with_item f) (λ p c s. through (found_changed f) at p c (with_item f c) refl s) ps cs z

pub hidden_stand : (p : Item → Bool) (at : Place → Option Found) (ps : List Place) (cs : List Candidate) → Zipped (Stands at) ps cs → Zipped (Stands (λ q. option_map (found_if p) (at q))) ps (hidden p cs)
hidden_stand p at ps cs z = zipped-map _ _ (seen_if p) (λ q c s. through (found_if p) at q c (seen_if p c) refl s) ps cs z

cut_stand : (p : Item → Bool) (at : Place → Option Found) (ps : List Place) (cs : List Candidate) → Zipped (Stands at) ps cs → Zipped (Stands at) (filter (λ q. passes_at p (at q)) ps) (cut p cs)
cut_stand p at ps cs z = zipped-filter (Stands at) (λ q. passes_at p (at q)) (λ (c : Candidate). p c.item) (λ q c s. ap (passes_at p) s) ps cs z

-- ---- keys

parts_same : (side : Side) (at : Place → Option Found) (ps : List Place) (cs : List Candidate) → Zipped (Stands at) ps cs → map (λ p. part_at side (at p)) ps ≡ map (λ (c : Candidate). part_of side c.item) cs
parts_same side at [] [] z = refl
parts_same side at [] (c ∷ cs) z = absurd z
parts_same side at (p ∷ ps) [] z = absurd z
parts_same side at (p ∷ ps) (c ∷ cs) z = λ i. part_at side (z.0 i) ∷ parts_same side at ps cs z.1 i

-- the keys of places are those of the candidates that stand there
keys_same : (side : Side) (order : KeyOrder) (at : Place → Option Found) (ps : List Place) (cs : List Candidate) → Zipped (Stands at) ps cs → keys_at side order at ps ≡ keys_in side order cs
keys_same side order at ps cs z = ap (λ ks. arranged order (each_once ks)) (parts_same side at ps cs z)

key_stands : (side : Side) (at : Place → Option Found) (k : Elem) (ps : List Place) (cs : List Candidate) → Zipped (Stands at) ps cs → Zipped (Stands at) (filter (has_part_at side at k) ps) (of_key side k cs)
key_stands side at k ps cs z = cut_stand (λ item. same k (part_of side item)) at ps cs z

keyed_stand : (order : KeyOrder) (at : Place → Option Found) (ps : List Place) (cs : List Candidate) → Zipped (Stands at) ps cs
    → Zipped (Stands at) (flat_map (λ k. filter (has_part_at First at k) ps) (keys_at First order at ps)) (flat_map (λ k. of_key First k cs) (keys_in First order cs))
keyed_stand order at ps cs z =
    subst (λ ks. Zipped (Stands at) (flat_map (λ k. filter (has_part_at First at k) ps) ks) (flat_map (λ k. of_key First k cs) (keys_in First order cs))) (sym (keys_same First order at ps cs z))
    (zipped-flat_map (Stands at) _ _ (λ k. key_stands First at k ps cs z) (keys_in First order cs))

by_key_stand : (order : KeyOrder) (at : Place → Option Found) (ps : List Place) (cs : List Candidate) → Zipped (Stands at) ps cs → Zipped (Stands at) (places_by_key order at ps) (in_key_order order cs)
by_key_stand AsTheyCome at ps cs z = z
by_key_stand ByFirst at ps cs z = keyed_stand ByFirst at ps cs z
by_key_stand (Kept ks) at ps cs z = keyed_stand (Kept ks) at ps cs z
by_key_stand (Sorted order) at ps cs z = keyed_stand (Sorted order) at ps cs z

-- ---- groups

-- the group of a key stands where the first of its candidates stands
group_stands : (side : Side) (make : Elem → ℕ → Item) (whole : List Candidate) (at : Place → Option Found) (k : Elem) (ps : List Place) (cs : List Candidate) → (cs ≡ [] → ⊥)
    → AllByRecursion (λ (c : Candidate). same k (part_of side c.item) ≡ true) cs → Zipped (Stands at) ps cs
    → Zipped (Stands (λ p. option_map (found_group side make whole) (at p))) (first_only ps) (group side make whole k ∷ [])
group_stands side make whole at k [] [] some all z = absurd (some refl)
group_stands side make whole at k [] (c ∷ cs) some all z = absurd z
group_stands side make whole at k (p ∷ ps) [] some all z = absurd z
group_stands side make whole at k (p ∷ ps) (c ∷ cs) some all z = (
  ap (option_map (found_group side make whole)) z.0
      ∙ ap (λ l. Some (record { item = make l (length (members side l whole)); seen = nat_lt 0 (length (members side l whole)) })) (sym ((same-Decides k (part_of side c.item)).0 all.0)),
  tt,
)

groups_stand : (side : Side) (make : Elem → ℕ → Item) (at : Place → Option Found) (ps : List Place) (cs : List Candidate) → Zipped (Stands at) ps cs
    → (ks : List Elem) → AllAmong (map (λ (c : Candidate). part_of side c.item) cs) ks
    → Zipped (Stands (λ p. option_map (found_group side make cs) (at p))) (flat_map (λ k. first_only (filter (has_part_at side at k) ps)) ks) (map (group side make cs) ks)
groups_stand side make at ps cs z [] there = tt
groups_stand side make at ps cs z (k ∷ ks) there =
    zipped-append _ (first_only (filter (has_part_at side at k) ps)) (flat_map (λ l. first_only (filter (has_part_at side at l) ps)) ks) (group side make cs k ∷ []) (map (group side make cs) ks)
    (group_stands side make cs at k (filter (has_part_at side at k) ps) (of_key side k cs) (has_members side k cs there.0)
    (all-passing (λ (c : Candidate). same k (part_of side c.item)) cs) (key_stands side at k ps cs z))
    (groups_stand side make at ps cs z ks there.1)

grouped_stand : (side : Side) (make : Elem → ℕ → Item) (order : KeyOrder) (at : Place → Option Found) (ps : List Place) (cs : List Candidate) → Zipped (Stands at) ps cs
    → Zipped (Stands (λ p. option_map (found_group side make cs) (at p))) (heads side order at ps) (grouped side make order cs)
grouped_stand side make order at ps cs z =
    subst (λ ks. Zipped (Stands (λ p. option_map (found_group side make cs) (at p))) (flat_map (λ k. first_only (filter (has_part_at side at k) ps)) ks) (grouped side make order cs)) (sym (keys_same side order at ps cs z))
    (groups_stand side make at ps cs z (keys_in side order cs) (arranged_there order (map (λ (c : Candidate). part_of side c.item) cs)))

-- ---- runs

seen_stand : (at : Place → Option Found) (ps : List Place) (cs : List Candidate) → Zipped (Stands at) ps cs → Zipped (Stands at) (filter (λ p. is_seen_at (at p)) ps) (filter is_seen cs)
seen_stand at ps cs z = zipped-filter (Stands at) (λ p. is_seen_at (at p)) is_seen (λ p c s. ap is_seen_at s) ps cs z

run_stands : (s : Sublist) (at : Place → Option Found) (ps : List Place) (cs : List Candidate) → Zipped (Stands at) ps cs → Zipped (Stands at) (places_of_run s at ps) (run_of s cs)
run_stands s at ps cs z = zipped-take (Stands at) s.len _ _ (zipped-drop (Stands at) s.start _ _ (seen_stand at ps cs z))

below : (i n m : ℕ) → i + suc m ≡ n → nat_lt i n ≡ true
below i n m e = grind (arith, nat_tests)

pieces_stand : (count i n : ℕ) → i + n ≡ count → Zipped (Stands (λ p. piece_at count p.spot)) (places_of_pieces i n) (pieces_from i n)
pieces_stand count i zero e = tt
pieces_stand count i (suc n) e = (ap (λ b. cond b (Some (record { item = Piece i; seen = true })) None) (below i count n e), pieces_stand count (i + 1) n (omega arith))

-- ---- each family

pub step_stands : (family : Family) (step : Step) (order : KeyOrder) (at : Place → Option Found) (ps : List Place) (cs : List Candidate) → Zipped (Stands at) ps cs
    → Zipped (Stands (shown_over family step cs at)) (places_over family step order at ps) (in_family family step order cs)
step_stands Same step order at ps cs z = as_they_are at ps cs z
step_stands Changed step order at ps cs z = changed_stand (item_of step) at ps cs z
step_stands Turned step order at ps cs z = as_they_are at (reverse ps) (reverse cs) (zipped-reverse (Stands at) ps cs z)
step_stands Keyed step order at ps cs z = changed_stand (item_of step) at (places_by_key order at ps) (in_key_order order cs) (by_key_stand order at ps cs z)
step_stands Hidden step order at ps cs z = hidden_stand (passes step) at ps cs z
step_stands Cut step order at ps cs z = changed_stand (item_of step) at (filter (λ p. passes_at (passes step) (at p)) ps) (cut (passes step) cs) (cut_stand (passes step) at ps cs z)
step_stands Grouped step order at ps cs z = grouped_stand (side_of step) (group_item step) order at ps cs z
step_stands Run step order at ps cs z = as_they_are at (places_of_run (run_in step) at ps) (run_of (run_in step) cs) (run_stands (run_in step) at ps cs z)
step_stands Pieces step order at ps cs z =
    subst (λ n. Zipped (Stands (shown_over Pieces step cs at)) (places_of_pieces 0 (piece_count (length_of_pieces step) n)) (in_family Pieces step order cs)) (sym (zipped-length (Stands at) _ _ (seen_stand at ps cs z)))
    (pieces_stand (piece_count (length_of_pieces step) (length (filter is_seen cs))) 0 (piece_count (length_of_pieces step) (length (filter is_seen cs))) (omega arith))
