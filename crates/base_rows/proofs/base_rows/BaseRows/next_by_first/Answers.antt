use Rattle.std.proofs.Common.{◌≡◌, Some, subst, sym, arith}
use Rattle.std.specs.Prelude.{IfSome, option_map}
use Rattle.base_rows.specs.declared.base_rows.BaseRows.{BaseRows}
use Rattle.base_rows.specs.BaseRows.{base_line, base_spots, rows_of}
use Rattle.view_laws.specs.Following.{Follows}
use Rattle.view_laws.specs.Spots as spots
use Rattle.vocabulary.specs.Items.{key_of}
use Rattle.base_rows.proofs.KeyedRows.{keyed_but_list}
use Rattle.base_rows.proofs.ListLines.{from_list, follows_in_list, list_serves}
use Rattle.base_rows.proofs.SpotLines.{from_in_line, follows_in_line, row_of_found, spot_of_found}
use Rattle.base_rows.proofs.base_rows.BaseRows.next_by_first.Goals as goal

pub next_item-requires : goal.next_item-requires
next_item-requires g c =
    rw (c.index_at.ensures) (from_list c.args.self.now c.in-ArrayList.rows c.args.lane.now c.args.back c.args.from.now c.in-ArrayList.is c.in-Any.is c.requires.values c.requires.from)

pub returns-in-Any-clause-next : goal.returns-in-Any-clause-next
returns-in-Any-clause-next g c =
    follows_in_list c.args.self.now c.in-ArrayList.rows c.args.lane.now c.args.back c.args.from.now c.in-ArrayList.is c.in-Any.is c.requires.values c.requires.from (option_map (λ found. found.spot) c.next_item.result)
    (rw (c.index_at.ensures) at c.next_item.ensures.next)

pub returns-in-Any-clause-row : goal.returns-in-Any-clause-row
returns-in-Any-clause-row g c = subst (λ (r : BaseRows). IfSome c.next_item.result (λ found. spots.row_at (base_spots r) (rows_of r) found.spot ≡ Some found.row)) (sym c.in-ArrayList.is) c.next_item.ensures.row

pub returns-in_default-first : goal.returns-in_default-first
returns-in_default-first g c = record {
  next = list_serves c.args.self.now c.in-ArrayList.rows c.args.lane.now c.args.back c.args.from.now c.in-ArrayList.is c.requires.serves.keys c.in_default-first.not-Any;
  row = tt;
  step = omega arith;
}

pub next_keyed-requires : goal.next_keyed-requires
next_keyed-requires g c =
    let keyed = keyed_but_list c.args.self.now c.in_default.not-ArrayList in
    record {
      keyed = keyed;
      serves = c.requires.serves.keys;
      from = rw (c.key_at.ensures) (from_in_line c.args.self.now c.args.lane.now c.args.back c.args.from.now keyed c.requires.values c.requires.from);
    }

pub returns-in_default : goal.returns-in_default
returns-in_default g c =
    let keyed = keyed_but_list c.args.self.now c.in_default.not-ArrayList in
    record {
      next = subst (Follows (base_line c.args.self.now c.args.lane.now c.args.back) c.args.from.now) (spot_of_found c.next_keyed.result c.next_keyed.ensures.spot)
          (follows_in_line c.args.self.now c.args.lane.now c.args.back c.args.from.now (option_map (λ found. key_of found.row) c.next_keyed.result) keyed c.requires.values c.requires.from (rw (c.key_at.ensures) at c.next_keyed.ensures.next));
      row = row_of_found c.args.self.now c.next_keyed.result keyed c.next_keyed.ensures.spot c.next_keyed.ensures.row;
      step = c.next_keyed.ensures.step;
    }
