use Rattle.std.proofs.Common.{arith}
use Rattle.base_rows.proofs.IndexLines.{no_first, first_from_back, first_from_front}
use Rattle.base_rows.proofs.base_rows.reading.indexes.first_index.Goals as goal

pub returns-then-len-eq0 : goal.returns-then-len-eq0
returns-then-len-eq0 c rows e = no_first rows c.args.back (omega arith)

pub returns-then-back : goal.returns-then-back
returns-then-back c rows e = first_from_back rows c.args.back _ c.if-back.true (omega arith)

pub returns-else-back : goal.returns-else-back
returns-else-back c rows e = first_from_front rows c.args.back c.if-back.false (omega arith)
