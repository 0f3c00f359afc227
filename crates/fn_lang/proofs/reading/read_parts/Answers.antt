use Rattle.std.proofs.Common.{arith}
use Rattle.fn_lang.proofs.FlatLaws.{reading_found, reading_sort}
use Rattle.fn_lang.proofs.reading.read_parts.Goals as goal

pub returns-clause-exact : goal.returns-clause-exact
returns-clause-exact c = reading_found c.args.sort c.args.text.now c.in-Some.parts.items c.in-Some.ensures.0 c.if-is_padded.ensures c.in-Some.ensures.1 (rw c.in-Some.parts-is at c.in-Some.ensures.2) (omega (arith, c.in-Some.ensures.3, c.in-Some.count-is, c.if-count-gt-MOST_PARTS.false))

pub returns-clause-tree : goal.returns-clause-tree
returns-clause-tree c = reading_sort c.args.sort c.args.text.now c.in-Some.parts.items c.in-Some.ensures.0 c.in-Some.ensures.1 (rw c.in-Some.parts-is at c.in-Some.ensures.2) (omega (arith, c.in-Some.ensures.3, c.in-Some.count-is, c.if-count-gt-MOST_PARTS.false))
