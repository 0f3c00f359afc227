use Rattle.std.proofs.Common.{◌∙◌}
use Rattle.shelf.proofs.Pieces.{line_fed, line_front, from_piece, from_buffer, nothing_whole, no_memory_stays}
use Rattle.shelf.proofs.feeding.take_line.Goals as goal

pub returns-then-is_empty-clause-ok : goal.returns-then-is_empty-clause-ok
returns-then-is_empty-clause-ok g c =
    let none = c.is_empty.ensures.0 c.if-is_empty.true in
    line_fed c.exec.result c.args.session.now c.exec.new.self c.args.line.now c.args.text.now c.args.text.now c.args.line.now _ _ (from_piece c.args.line.now c.args.text.now none c.requires.one) none c.exec.ensures.ok c.exec.ensures.reply

pub returns-then-is_empty-clause-err : goal.returns-then-is_empty-clause-err
returns-then-is_empty-clause-err g c =
    let none = c.is_empty.ensures.0 c.if-is_empty.true in
    line_front c.exec.result c.args.session.now c.args.line.now c.args.text.now c.args.text.now _ _ (from_piece c.args.line.now c.args.text.now none c.requires.one) c.exec.ensures.reply

pub returns-then-is_empty-clause-memory : goal.returns-then-is_empty-clause-memory
returns-then-is_empty-clause-memory g c = λ e. nothing_whole c.args.session.now c.args.line.now _ _ _ (no_memory_stays c.exec.result _ _ _ e c.exec.ensures.reply)

pub returns-clause-ok : goal.returns-clause-ok
returns-clause-ok g c =
    let line = from_buffer c.args.line.now c.args.text.now c.bytes.result.now c.extend.ensures.short c.requires.one (c.bytes.ensures ∙ c.extend.ensures.kept) in
    line_fed c.exec-done.result c.args.session.now c.exec-done.new.self c.args.line.now c.args.text.now c.bytes.result.now c.clear.new.self _ _ line c.clear.ensures c.exec-done.ensures.ok c.exec-done.ensures.reply

pub returns-clause-err : goal.returns-clause-err
returns-clause-err g c =
    let line = from_buffer c.args.line.now c.args.text.now c.bytes.result.now c.extend.ensures.short c.requires.one (c.bytes.ensures ∙ c.extend.ensures.kept) in
    line_front c.exec-done.result c.args.session.now c.args.line.now c.args.text.now c.bytes.result.now _ _ line c.exec-done.ensures.reply

pub returns-clause-memory : goal.returns-clause-memory
returns-clause-memory g c = λ e. nothing_whole c.args.session.now c.args.line.now _ _ _ (no_memory_stays c.exec-done.result _ _ _ e c.exec-done.ensures.reply)
