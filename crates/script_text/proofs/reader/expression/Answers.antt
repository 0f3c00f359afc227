use Rattle.std.proofs.Common.{sym}
use Rattle.elem.specs.Lexing.{lexed_from}
use Rattle.script_text.proofs.ReaderLaws.{expression_read}
use Rattle.script_text.proofs.reader.expression.Goals as goal

pub returns : goal.returns
returns c = expression_read c.read_parts.result (lexed_from c.args.line.now c.args.at) c.args.head c.read_parts.new.parts.items (sym c.if-not-is_name.ensures) c.read_parts.ensures
