use Rattle.std.proofs.Common.{◌≤◌, arith}
use Rattle.elem.specs.Places.{place}
use Rattle.elem.specs.PlaceLaws.{cuts_in_order, not_end, not_start}
use Rattle.elem.proofs.spans.Span.at.Goals as goal

pub returns-clause-whole : goal.returns-clause-whole
returns-clause-whole c =
    let order : place c.at.result ≤ place c.at-2.result = omega arith in
    record {
      lo = c.at.ensures.whole;
      hi = c.at-2.ensures.whole;
      in_order = cuts_in_order _ _ c.at.ensures.whole c.at-2.ensures.whole c.at.ensures.cut c.at-2.ensures.cut order;
    }

pub returns-clause-span : goal.returns-clause-span
returns-clause-span c =
    λ less.
    let order : place c.at.result ≤ place c.at-2.result = omega arith in
    record {
      lo = not_end c.at.result c.args.lo c.args.hi c.at.ensures.value less c.requires.hi;
      hi = not_start c.at-2.result c.args.lo c.args.hi c.at-2.ensures.value less;
      in_order = cuts_in_order _ _ c.at.ensures.whole c.at-2.ensures.whole c.at.ensures.cut c.at-2.ensures.cut order;
    }
