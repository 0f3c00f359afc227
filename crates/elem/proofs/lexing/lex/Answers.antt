use Rattle.elem.proofs.LexingLaws.{lexed_iff}
use Rattle.elem.proofs.lexing.lex.Goals as goal

pub returns-in-Nothing-clause-tokens : goal.returns-in-Nothing-clause-tokens
returns-in-Nothing-clause-tokens g c = lexed_iff c.args.text.now

pub returns-in-Fault-clause-tokens : goal.returns-in-Fault-clause-tokens
returns-in-Fault-clause-tokens g c = lexed_iff c.args.text.now

pub returns-then-is_full-clause-tokens : goal.returns-then-is_full-clause-tokens
returns-then-is_full-clause-tokens g c = lexed_iff c.args.text.now
