use Rattle.script_text.proofs.LineLaws.{line_iff}
use Rattle.script_text.proofs.reader.read_line.Goals as goal

pub returns-clause-grammar : goal.returns-clause-grammar
returns-clause-grammar c = line_iff c.args.line.now
