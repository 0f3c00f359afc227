use Rattle.std.proofs.Common.{◌+◌, ◌<◌, inl, take, length, refl, sym, ap, ◌∙◌, arith}
use Rattle.std.proofs.lemmas.List.{length-take-le, length-map}
use Rattle.base_rows.specs.BaseRows.{items}
use Rattle.base_rows.specs.Journals.{index_in}
use Rattle.base_rows.proofs.JournalLemmas.{fold_next, fold_end}
use Rattle.base_rows.proofs.ListRowLemmas.{index_within, still_spot, counted_rows, placed_counted, list_back, fits_at}
use Rattle.base_rows.proofs.PutLemmas.{ok_holds, err_holds, list_made, one_by_one}
use Rattle.vocabulary.specs.declared.items.Item.{Item}
use Rattle.vocabulary.specs.declared.items.Item.TheVariants.{One}
use Rattle.vocabulary.specs.declared.kinds.Kind.TheVariants.{ArrayList}
use Rattle.machine.specs.Placing.{placed_at}
use Rattle.machine.specs.Edits.{coming, placed_all}
use Rattle.base_rows.proofs.base_rows.placing.listed.place_items.Goals as goal

pub returns-then-added-room-clause-cause : goal.returns-then-added-room-clause-cause
returns-then-added-room-clause-cause g c =
    inl (refl, (let n : length c.args.rows.now + c.args.room < length (placed_all ArrayList (items c.args.rows.now) (coming c.args.spot c.args.added.now)) = omega (arith, placed_counted c.args.spot c.args.rows.now c.args.added.now c.requires.spot c.requires.free) in n))

pub place_item-requires : goal.place_item-requires
place_item-requires g c =
    let more = counted_rows c.args.spot c.args.rows.now c.loop-row.rows (take c.loop-row.row-index c.args.added.now) c.requires.spot c.requires.free c.loop-row.invariant in
    still_spot (length c.args.rows.now) (length c.loop-row.rows) c.args.spot (omega (arith, more)) c.requires.spot

pub overflow_sub-behind : goal.overflow_sub-behind
overflow_sub-behind g c = omega (arith, index_within c.args.spot (length c.args.rows.now) c.requires.spot, c.index_of-from.ensures ∙ ap (index_in c.args.spot) c.len.ensures)

pub overflow_sub-to : goal.overflow_sub-to
overflow_sub-to g c =
    let as_it_was = err_holds c.place_item.result (sym c.is_err.ensures.value ∙ c.if-is_err.true) c.place_item.ensures.err in
    let more = counted_rows c.args.spot c.args.rows.now c.loop-row.rows (take c.loop-row.row-index c.args.added.now) c.requires.spot c.requires.free c.loop-row.invariant in
    omega (arith, more, ap length as_it_was, length-map c.loop-row.rows One, length-map c.place_item.new.rows One, c.len-then-is_err.ensures, c.len-2.ensures)

pub remove_run-requires-clause-ordered : goal.remove_run-requires-clause-ordered
remove_run-requires-clause-ordered g c =
    let as_it_was = err_holds c.place_item.result (sym c.is_err.ensures.value ∙ c.if-is_err.true) c.place_item.ensures.err in
    let more = counted_rows c.args.spot c.args.rows.now c.loop-row.rows (take c.loop-row.row-index c.args.added.now) c.requires.spot c.requires.free c.loop-row.invariant in
    let within = index_within c.args.spot (length c.args.rows.now) c.requires.spot in
    omega (arith, more, ap length as_it_was, length-map c.loop-row.rows One, length-map c.place_item.new.rows One, c.len-then-is_err.ensures, c.len-2.ensures, within, c.index_of-from.ensures ∙ ap (index_in c.args.spot) c.len.ensures)

pub returns-then-is_err-clause-err : goal.returns-then-is_err-clause-err
returns-then-is_err-clause-err g c =
    let as_it_was = err_holds c.place_item.result (sym c.is_err.ensures.value ∙ c.if-is_err.true) c.place_item.ensures.err in
    let come = take c.loop-row.row-index c.args.added.now in
    let more = counted_rows c.args.spot c.args.rows.now c.loop-row.rows come c.requires.spot c.requires.free c.loop-row.invariant in
    let within = index_within c.args.spot (length c.args.rows.now) c.requires.spot in
    let from_is = c.index_of-from.ensures ∙ ap (index_in c.args.spot) c.len.ensures in
    list_back c.args.spot c.args.rows.now c.place_item.new.rows c.remove_run.new.rows come c.index_of-from.result _ c.requires.spot c.requires.free (as_it_was ∙ c.loop-row.invariant) from_is
    (omega (arith, more, ap length as_it_was, length-map c.loop-row.rows One, length-map c.place_item.new.rows One, c.len-then-is_err.ensures, c.len-2.ensures, within, from_is)) c.remove_run.ensures

pub loop-row-preserved : goal.loop-row-preserved
loop-row-preserved g c =
    let fits = fits_at c.args.added.now c.loop-row.row-index c.row-item.result c.requires.fits c.loop-row-test.true c.row-item.is in
    let item = ap One c.key_of.ensures ∙ list_made c.row-item.result fits in
    let placed = ok_holds c.place_item.result (sym c.is_err.ensures.value ∙ c.if-is_err.false) c.place_item.ensures.ok ∙ ap (λ (row : Item). placed_at ArrayList c.args.spot (items c.loop-row.rows) row) item in
    let so_far = c.loop-row.invariant ∙ one_by_one ArrayList c.args.spot (items c.args.rows.now) (take c.loop-row.row-index c.args.added.now) in
    fold_next (placed_at ArrayList c.args.spot) (items c.args.rows.now) (items c.loop-row.rows) (items c.place_item.new.rows) c.args.added.now c.loop-row.row-index c.row-item.result so_far c.loop-row-test.true c.row-item.is placed
    ∙ sym (one_by_one ArrayList c.args.spot (items c.args.rows.now) (take (c.loop-row.row-index + 1) c.args.added.now))

pub returns-clause-ok : goal.returns-clause-ok
returns-clause-ok g c =
    let so_far = c.loop-row.invariant ∙ one_by_one ArrayList c.args.spot (items c.args.rows.now) (take c.loop-row.row-index c.args.added.now) in
    fold_end (placed_at ArrayList c.args.spot) (items c.args.rows.now) (items c.loop-row.rows) c.args.added.now c.loop-row.row-index so_far c.loop-row-test.false
    ∙ sym (one_by_one ArrayList c.args.spot (items c.args.rows.now) c.args.added.now)

pub returns-clause-few : goal.returns-clause-few
returns-clause-few g c =
    let more = counted_rows c.args.spot c.args.rows.now c.loop-row.rows (take c.loop-row.row-index c.args.added.now) c.requires.spot c.requires.free c.loop-row.invariant in
    omega (arith, more, length-take-le c.loop-row.row-index c.args.added.now (omega arith), c.if-added-room.false)
