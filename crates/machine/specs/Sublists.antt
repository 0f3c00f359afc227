-- Sublists: when one is stale, and what a write through a view leaves of those on its path.
use Rattle.std.specs.Prelude.{ℕ, ◌+◌, ◌-◌, Bool, not, nat_eq, if◌then◌else◌, List, [], ◌∷◌, ◌++◌, length}
use Rattle.std.specs.List.{list_any}
use Rattle.vocabulary.specs.declared.steps.Step.{Step}
use Rattle.vocabulary.specs.declared.steps.Step.TheVariants.{Sub, Piece}
use Rattle.vocabulary.specs.declared.sublists.Sublist.{Sublist}
use Rattle.machine.specs.Bases.{Base}
use Rattle.machine.specs.Views.{View, base, both, over}

abbrev pub is_stale : Base → Sublist → Bool
is_stale it s = not (nat_eq s.seen it.change)

-- a sublist after a write through it: longer or shorter by the rows that came or went, and it has seen the change
abbrev pub after_write : Base → Base → Sublist → Sublist
after_write before after s = record { start = s.start; len = s.len + length after.rows - length before.rows; seen = after.change }

-- ---- the sublists on the path of a view, by their numbers

abbrev pub own_number : Step → List ℕ
own_number (Sub n s) = n ∷ []
own_number (Piece n s) = n ∷ []
own_number step = []

abbrev pub sublists_on : View → List ℕ
sublists_on (base l) = []
sublists_on (over step v) = own_number step ++ sublists_on v
sublists_on (both word v u) = []

-- ---- after a write through them, in all views in which they stand

abbrev pub is_number_in : List ℕ → ℕ → Bool
is_number_in numbers n = list_any (λ m. nat_eq m n) numbers

abbrev pub refreshed_sublist : List ℕ → Base → Base → ℕ → Sublist → Sublist
refreshed_sublist numbers before after n s = if is_number_in numbers n then after_write before after s else s

abbrev pub refreshed_step : List ℕ → Base → Base → Step → Step
refreshed_step numbers before after (Sub n s) = Sub n (refreshed_sublist numbers before after n s)
refreshed_step numbers before after (Piece n s) = Piece n (refreshed_sublist numbers before after n s)
refreshed_step numbers before after step = step

-- a view after a write that left this of the base under those sublists
abbrev pub refreshed : List ℕ → Base → Base → View → View
refreshed numbers before after (base l) = base l
refreshed numbers before after (over step v) = over (refreshed_step numbers before after step) (refreshed numbers before after v)
refreshed numbers before after (both word v u) = both word (refreshed numbers before after v) (refreshed numbers before after u)
