use Rattle.std.proofs.Common.{◌≡◌, drop}
use Rattle.script_text.specs.Lines.{is_comment}
use Rattle.script_text.proofs.reader.is_comment.Given as goal

abbrev pub invariant-loop-byte : goal.invariant-loop-byte
invariant-loop-byte l = is_comment l.line ≡ is_comment (drop l.byte-index l.line)
