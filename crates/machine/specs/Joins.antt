-- Steps with another view: what each makes of the candidates of both.
use Rattle.std.specs.Prelude.{ℕ, ◌-◌, Bool, true, false, not, ◌&&◌, nat_eq, if◌then◌else◌, List, [], ◌++◌, map, length, flat_map, replicate}
use Rattle.std.specs.List.{list_any}
use Rattle.elem.specs.declared.elements.Elem.{Elem}
use Rattle.vocabulary.specs.declared.items.Item.{Item}
use Rattle.vocabulary.specs.declared.items.Item.TheVariants.{One}
use Rattle.vocabulary.specs.declared.items.Side.TheVariants.{First}
use Rattle.vocabulary.specs.declared.step_table.JoinFamily.{JoinFamily}
use Rattle.vocabulary.specs.declared.step_table.JoinFamily.TheVariants.{Hidden, Joined, Counted}
use Rattle.vocabulary.specs.declared.steps.JoinStep.{JoinStep}
use Rattle.machine.specs.Candidates.{Candidate, hidden, keys_in, members, of_key}
use Rattle.machine.specs.KeyOrders.{ByFirst}
use Rattle.vocabulary.specs.Items.{same_item}
use Rattle.vocabulary.specs.Joins.{count_in, has_second, join_family, size_in, stays}

-- whether some candidates show an item
abbrev pub shows : List Candidate → Item → Bool
shows cs item = list_any (λ (c : Candidate). c.seen && same_item item c.item) cs

-- the first, of which is hidden what does not stay
abbrev pub kept_of_first : JoinStep → List Candidate → List Candidate → List Candidate
kept_of_first word cs ds = hidden (λ item. stays word (shows ds item)) cs

abbrev pub without_rows_of : Candidate → Candidate
without_rows_of c = record { rows = []; item = c.item; seen = c.seen }

-- that, and then the second, of which is hidden what the first shows
abbrev pub joined : JoinStep → List Candidate → List Candidate → List Candidate
joined word cs ds = map without_rows_of (kept_of_first word cs ds ++ hidden (λ item. not (shows cs item)) ds)

-- ---- bags

-- so many candidates of an element, the first of which are seen
abbrev pub block : Elem → ℕ → ℕ → List Candidate
block x size seen = replicate seen (record { rows = []; item = One x; seen = true }) ++ replicate (size - seen) (record { rows = []; item = One x; seen = false })

abbrev pub size_of : Elem → List Candidate → ℕ
size_of x cs = length (of_key First x cs)

abbrev pub count_of : Elem → List Candidate → ℕ
count_of x cs = length (members First x cs)

-- the candidates of an element of the first: none is seen where the first shows none
abbrev pub first_block : JoinStep → List Candidate → List Candidate → Elem → List Candidate
first_block word cs ds x =
    let c = count_of x cs in
    block x (size_in word (size_of x cs) (size_of x ds)) (if nat_eq c 0 then 0 else count_in word c (count_of x ds))

-- those of an element of the second: they are seen where the first shows none
abbrev pub second_block : List Candidate → List Candidate → Elem → List Candidate
second_block cs ds x = block x (size_of x ds) (if nat_eq (count_of x cs) 0 then count_of x ds else 0)

abbrev pub counted : JoinStep → List Candidate → List Candidate → List Candidate
counted word cs ds =
    let second = if has_second word then flat_map (second_block cs ds) (keys_in First ByFirst ds) else [] in
    flat_map (first_block word cs ds) (keys_in First ByFirst cs) ++ second

-- ---- the candidates of a step over two views, by the step's family
abbrev pub in_join_family : JoinFamily → JoinStep → List Candidate → List Candidate → List Candidate
in_join_family Hidden word cs ds = kept_of_first word cs ds
in_join_family Joined word cs ds = joined word cs ds
in_join_family Counted word cs ds = counted word cs ds

abbrev pub in_join : JoinStep → List Candidate → List Candidate → List Candidate
in_join word cs ds = in_join_family (join_family word) word cs ds
