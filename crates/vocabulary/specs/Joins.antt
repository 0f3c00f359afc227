-- Steps with another view, by columns: the family of each, what stays seen of the first, and the counts of bags.
use Rattle.std.specs.Prelude.{ℕ, ◌+◌, ◌-◌, min, max, Bool, true, false, not}
use Rattle.vocabulary.specs.declared.step_table.JoinFamily.{JoinFamily}
use Rattle.vocabulary.specs.declared.step_table.JoinFamily.TheVariants.{Hidden, Joined, Counted}
use Rattle.vocabulary.specs.declared.steps.JoinStep.{JoinStep}
use Rattle.vocabulary.specs.declared.steps.JoinStep.TheVariants.{Union, Intersection, Difference, SymmetricDifference, BagUnion, BagSum, BagIntersection, BagDifference}
use Rattle.vocabulary.specs.Limits.{most_count}

-- the family of a step
abbrev pub join_family : JoinStep → JoinFamily
join_family Union = Joined
join_family Intersection = Hidden
join_family Difference = Hidden
join_family SymmetricDifference = Joined
join_family BagUnion = Counted
join_family BagSum = Counted
join_family BagIntersection = Counted
join_family BagDifference = Counted

-- whether an item of the first stays seen, which the second shows or not
abbrev pub stays : JoinStep → Bool → Bool
stays Intersection shown = shown
stays Difference shown = not shown
stays SymmetricDifference shown = not shown
stays word shown = true

-- how many candidates an element has that has so many in the first and in the second
abbrev pub size_in : JoinStep → ℕ → ℕ → ℕ
size_in BagUnion k l = max k l
size_in BagSum k l = k + l
size_in word k l = k

-- how many of them are seen, where some are in the first and so many in the second
abbrev pub count_in : JoinStep → ℕ → ℕ → ℕ
count_in BagUnion c d = max c d
count_in BagSum c d = min (c + d) most_count
count_in BagIntersection c d = min c d
count_in BagDifference c d = c - d
count_in word c d = c

-- whether the elements of the second come, too
abbrev pub has_second : JoinStep → Bool
has_second BagUnion = true
has_second BagSum = true
has_second word = false
