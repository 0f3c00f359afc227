use Rattle.std.proofs.Common.{◌≤◌, arith}
use Rattle.elem.specs.Places.{place}
use Rattle.elem.specs.PlaceLaws.{places_in_order}
use Rattle.elem.proofs.spans.Span.places.Goals as goal

pub returns-clause-in_order : goal.returns-clause-in_order
returns-clause-in_order c =
    let order : place c.args.self.now.lo ≤ place c.args.self.now.hi = places_in_order _ _ c.requires.lo c.requires.hi c.place.ensures.cut c.place-2.ensures.cut c.requires.in_order in
    omega arith
