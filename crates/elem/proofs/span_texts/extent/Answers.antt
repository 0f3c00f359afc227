use Rattle.std.proofs.Common.{arith}
use Rattle.elem.proofs.SpanLaws.{place_is}
use Rattle.elem.proofs.span_texts.extent.Goals as goal

pub returns-in-len2-up : goal.returns-in-len2-up
returns-in-len2-up c = place_is c.args.tokens.now c.first-item.result c.last-item.result (omega arith) c.first-item.is c.last-item.is
