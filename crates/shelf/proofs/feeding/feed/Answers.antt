use Rattle.std.proofs.Common.{◌^◌, ◌-◌, ◌+◌, length, sym, arith}
use Rattle.std.proofs.lemmas.Result.{on_err_weaker}
use Rattle.shelf.proofs.Pieces.{changes_within, ends_piece, goes_on, stops_front, stops_whole, weaker}
use Rattle.shelf.proofs.Runs.{ok_part}
use Rattle.shelf.proofs.feeding.feed.Goals as goal

pub take_line-done-requires-clause-changes : goal.take_line-done-requires-clause-changes
take_line-done-requires-clause-changes g c =
    weaker (2 ^ 61 + length c.args.piece.now) (2 ^ 63 - 1) _ (omega (arith, c.requires.piece))
    (changes_within c.args.session.now c.loop-text.session c.args.line.now c.loop-text.line c.args.piece.now c.loop-text.rest.now _ _ c.loop-text.invariant.feeding (2 ^ 61) c.requires.changes)

pub returns-then-is_err-clause-err : goal.returns-then-is_err-clause-err
returns-then-is_err-clause-err g c =
    on_err_weaker c.take_line-done.result
    (stops_front c.args.session.now c.loop-text.session c.args.line.now c.loop-text.line c.args.piece.now c.loop-text.rest.now _ _ c.loop-text.invariant.feeding c.in-Some.text.now c.in-Some.more.now _ c.in-Some.ensures.found.0)
    c.take_line-done.ensures.err

pub returns-then-is_err-clause-memory : goal.returns-then-is_err-clause-memory
returns-then-is_err-clause-memory g c = λ e.
    stops_whole c.args.session.now c.loop-text.session c.args.line.now c.loop-text.line c.args.piece.now c.loop-text.rest.now _ _ c.loop-text.invariant.feeding c.in-Some.text.now c.in-Some.more.now _ c.in-Some.ensures.found.0
    (c.take_line-done.ensures.memory e)

pub loop-text-preserved : goal.loop-text-preserved
loop-text-preserved g c =
    let done = ok_part c.take_line-done.result (sym c.if-is_err.ensures.value) c.take_line-done.ensures.ok in
    record {
      feeding = goes_on c.args.session.now c.loop-text.session c.args.line.now c.loop-text.line c.args.piece.now c.loop-text.rest.now _ _ c.loop-text.invariant.feeding
          c.take_line-done.new.session c.take_line-done.new.line c.in-Some.text.now c.in-Some.more.now _ c.in-Some.ensures.found.0 done c.take_line-done.ensures.changes;
      later = omega (arith, c.take_line-done.ensures.later, c.loop-text.invariant.later);
    }

pub returns-clause-ok : goal.returns-clause-ok
returns-clause-ok g c =
    ends_piece c.args.session.now c.loop-text.session c.args.line.now c.loop-text.line c.args.piece.now c.loop-text.rest.now _ _ c.loop-text.invariant.feeding
    c.extend.new.self c.extend.ensures.short c.in_default.ensures.last c.extend.ensures.kept

pub returns-clause-changes : goal.returns-clause-changes
returns-clause-changes g c = changes_within c.args.session.now c.loop-text.session c.args.line.now c.loop-text.line c.args.piece.now c.loop-text.rest.now _ _ c.loop-text.invariant.feeding
