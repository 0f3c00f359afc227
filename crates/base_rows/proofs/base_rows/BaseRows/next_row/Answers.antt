use Rattle.std.proofs.Common.{subst, sym, arith}
use Rattle.std.specs.Prelude.{option_map}
use Rattle.base_rows.specs.BaseRows.{base_line, kind_of}
use Rattle.view_laws.specs.declared.lanes.Lane.{Lane}
use Rattle.view_laws.specs.Following.{Follows}
use Rattle.base_rows.proofs.PairLemmas.{no_value, of_bimap, value_lane}
use Rattle.base_rows.proofs.base_rows.BaseRows.next_row.Goals as goal

pub next_by_first-requires : goal.next_by_first-requires
next_by_first-requires g c = record { serves = c.requires.serves; values = c.in-Any.is; from = c.requires.from }

pub next_of_value-requires : goal.next_of_value-requires
next_of_value-requires g c = record { bimap = of_bimap (kind_of c.args.self.now) c.args.lane.now c.requires.serves c.in-Is.v c.in-Is.is }

pub returns-in-Is-clause-next : goal.returns-in-Is-clause-next
returns-in-Is-clause-next g c =
    subst (λ (lane : Lane). Follows (base_line c.args.self.now lane c.args.back) c.args.from.now (option_map (λ found. found.spot) c.next_of_value.result))
    (sym (value_lane (kind_of c.args.self.now) c.args.lane.now c.requires.serves c.in-Is.v c.in-Is.is)) (c.next_of_value.ensures.next c.args.back)

pub returns-in_default : goal.returns-in_default
returns-in_default g c = record {
  next = no_value c.args.self.now c.args.lane.now c.args.back c.args.from.now c.requires.serves.values c.in_default.not-Any c.in_default.not-Is;
  row = tt;
  step = omega arith;
}
