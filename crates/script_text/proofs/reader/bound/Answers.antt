use Rattle.elem.specs.Lexing.{lexed_from}
use Rattle.script_text.proofs.ReaderLaws.{no_name, no_equals, no_head}
use Rattle.script_text.proofs.reader.bound.Goals as goal

pub returns-in_err-name : goal.returns-in_err-name
returns-in_err-name c = rw c.from_residual.ensures (no_name (lexed_from c.args.line.now c.args.at) c.in_err-name.ensures.word)

pub returns-in_err-equals_end : goal.returns-in_err-equals_end
returns-in_err-equals_end c =
    rw c.from_residual-in_err-equals_end.ensures (no_equals c.in_ok-name.ensures.word.0 (lexed_from c.args.line.now c.args.at) (lexed_from c.args.line.now c.in_ok-name.name_end) c.in_ok-name.ensures.word.2 c.in_err-equals_end.ensures.equals)

pub returns-in_err-head : goal.returns-in_err-head
returns-in_err-head c =
    rw c.from_residual-in_err-head.ensures (no_head c.in_ok-name.ensures.word.0 c.in_ok-equals_end.ensures.equals.0 (lexed_from c.args.line.now c.args.at) (lexed_from c.args.line.now c.in_ok-name.name_end) (lexed_from c.args.line.now c.in_ok-equals_end.equals_end) c.in_ok-name.ensures.word.2 c.in_ok-equals_end.ensures.equals.2 c.in_err-head.ensures.word)
