use Rattle.elem.proofs.MemoryLemmas.{part_taken}
use Rattle.elem.proofs.memory.MemSinkSink.put.Goals as goal

pub returns-clause-text : goal.returns-clause-text
returns-clause-text c = rw (← c.self.view_is) (part_taken c.extend_from_slice-kept.result c.self.inside.bytes.items c.extend_from_slice-kept.new.self.items c.args.piece.now c.min-count.result c.extend_from_slice-kept.ensures.items)
