-- How one name's value is told from another: a view, or an iterator by its parts.
use Rattle.std.specs.Prelude.{◌⊎◌, ◌≡◌, ℕ, Bool, List, refl}
use Rattle.std.specs.Coded.{Coded, code_by, coded⊎, coded_ℕ, coded_bool, coded_list, coded×}
use Rattle.std.proofs.Common.{inl, inr}
use Rattle.machine.specs.State.{Bound, to_iterator, to_view}
use Rattle.machine.specs.ViewCode.{view_code}
use Rattle.machine.specs.Views.{View}

abbrev pub Parts : Type 0
Parts = View ⊎ (View × (List ℕ × (ℕ × Bool)))

abbrev pub parts_of : Bound → Parts
parts_of (to_view v) = inl v
parts_of (to_iterator it) = inr (it.view, (it.seen, (it.passed, it.given)))

abbrev pub of_parts : Parts → Bound
of_parts (inl v) = to_view v
of_parts (inr it) = to_iterator (record { view = it.0; seen = it.1.0; passed = it.1.1.0; given = it.1.1.1 })

pub parts_whole : (it : Bound) → of_parts (parts_of it) ≡ it
parts_whole (to_view v) = refl
parts_whole (to_iterator it) = refl

abbrev pub bound_code : Coded Bound
bound_code = code_by Parts (coded⊎ view_code (coded× view_code (coded× (coded_list coded_ℕ) (coded× coded_ℕ coded_bool)))) parts_of of_parts parts_whole
