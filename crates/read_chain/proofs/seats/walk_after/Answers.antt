use Rattle.std.proofs.Common.{◌≡◌, subst, sym, Some}
use Rattle.base_store.specs.Courses.{spots_in}
use Rattle.base_store.specs.Stored.{view_in}
use Rattle.view_laws.specs.declared.places.Place.{Place}
use Rattle.view_laws.specs.Following.{Follows, IsFrom}
use Rattle.view_laws.specs.ViewPlaces.{place_of, places}
use Rattle.read_chain.proofs.UnderLemmas.{on_one_base}
use Rattle.read_chain.proofs.seats.walk_after.Goals as goal

pub place_behind-requires-clause-from : goal.place_behind-requires-clause-from
place_behind-requires-clause-from g c =
    let s = c.args.store.now in
    let v = view_in s c.args.n in
    let is : place_of c.args.at.now.spot ≡ c.args.at.now = on_one_base s.world v c.args.at.now c.is_lawful.ensures.by_row c.is_lawful.ensures.tell c.requires.place in
    subst (λ (p : Place). IsFrom (places s.world (spots_in s.world) v) (Some p)) (sym is) c.requires.place

pub returns-clause-next : goal.returns-clause-next
returns-clause-next g c =
    let s = c.args.store.now in
    let v = view_in s c.args.n in
    let is : place_of c.args.at.now.spot ≡ c.args.at.now = on_one_base s.world v c.args.at.now c.is_lawful.ensures.by_row c.is_lawful.ensures.tell c.requires.place in
    subst (λ (p : Place). Follows (places s.world (spots_in s.world) v) (Some p) c.place_behind.result) is c.place_behind.ensures.next
