-- From place to place of a view by the spots along its course.
use Rattle.std.proofs.Common.{◌≡◌, true, List, map, ap, sym, ◌∙◌, subst}
use Rattle.std.specs.Prelude.{Option, None, Some, option_map}
use Rattle.base_store.specs.declared.store.courses.Course.{Course}
use Rattle.base_store.specs.Courses.{IsCourse, spots_in}
use Rattle.machine.specs.Bases.{World}
use Rattle.machine.specs.Views.{View}
use Rattle.std.proofs.Common.{false}
use Rattle.view_laws.specs.declared.places.Place.{Place}
use Rattle.view_laws.specs.declared.places.RowSpot.{RowSpot}
use Rattle.view_laws.specs.Following.{Follows, IsFrom}
use Rattle.view_laws.specs.ItemForms.{IsFormed}
use Rattle.view_laws.specs.Lanes.{all}
use Rattle.view_laws.specs.RowForm.{is_by_row}
use Rattle.view_laws.specs.Spots.{TellAll}
use Rattle.view_laws.specs.ViewPlaces.{place_of, places}
use Rattle.view_steps.specs.KnownViews.{is_known_view}
use Rattle.read_chain.proofs.CourseLemmas.{place_follows, spot_from, spots_along, whole_course}
use Rattle.read_chain.proofs.UnderLemmas.{on_one_base}

-- a course of the whole view
pub record IsWhole (world : World) (v : View) (course : Course) : Type 0 where
  pub formed : IsFormed world v
  pub by_row : is_by_row world v ≡ true
  pub tell : TellAll world (spots_in world)
  pub is : IsCourse world v all false course

back_to : (world : World) (v : View) (course : Course) (last : Option Place) (from : Option RowSpot) → IsWhole world v course → IsFrom (places world (spots_in world) v) last → from ≡ option_map (λ (p : Place). p.spot) last → option_map place_of from ≡ last
back_to world v course None from whole at is = ap (option_map place_of) is
back_to world v course (Some p) from whole at is = ap (option_map place_of) is ∙ ap Some (on_one_base world v p whole.by_row whole.tell at)

pub spots_from : (world : World) (v : View) (course : Course) (last : Option Place) (from : Option RowSpot) → is_known_view v ≡ true → IsWhole world v course → IsFrom (places world (spots_in world) v) last → from ≡ option_map (λ (p : Place). p.spot) last
    → IsFrom (spots_along world course) from
spots_from world v course last from known whole at is =
    let walk : map place_of (spots_along world course) ≡ places world (spots_in world) v = whole_course world v false course known whole.formed whole.tell whole.is in
    spot_from (spots_along world course) from
    (subst (λ (ps : List Place). IsFrom ps (option_map place_of from)) (sym walk) (subst (λ (o : Option Place). IsFrom (places world (spots_in world) v) o) (sym (back_to world v course last from whole at is)) at))

pub places_follow : (world : World) (v : View) (course : Course) (last : Option Place) (from to : Option RowSpot) → is_known_view v ≡ true → IsWhole world v course → IsFrom (places world (spots_in world) v) last → from ≡ option_map (λ (p : Place). p.spot) last
    → Follows (spots_along world course) from to → Follows (places world (spots_in world) v) last (option_map place_of to)
places_follow world v course last from to known whole at is next =
    let walk : map place_of (spots_along world course) ≡ places world (spots_in world) v = whole_course world v false course known whole.formed whole.tell whole.is in
    subst (λ (o : Option Place). Follows (places world (spots_in world) v) o (option_map place_of to)) (back_to world v course last from whole at is)
    (subst (λ (ps : List Place). Follows ps (option_map place_of from) (option_map place_of to)) walk (place_follows (spots_along world course) from to next))
