use Rattle.std.proofs.Common.{◌≡◌, [], ◌∙◌, ap}
use Rattle.session.specs.Replying.{Pending}
use Rattle.session.proofs.ReplyLemmas.{goes_more, goes_sent}
use Rattle.session.proofs.replies.Reply.write.Goals as goal

pub returns-then-not-keep : goal.returns-then-not-keep
returns-then-not-keep g c =
    let inside : Pending = record { bytes = c.self.inside.bytes.items; failed = c.self.inside.failed } in
    let held : inside ≡ c.flush.new.self = c.self.view_is ∙ c.if-not-keep.ensures.full in
    let empty : inside.bytes ≡ [] = ap (λ (p : Pending). p.bytes) held ∙ c.flush.ensures.flushed in
    let first = rw c.if-keep.ensures.full at c.flush.ensures.goes in
    goes_more {x = []} (rw held first) (goes_sent inside c.send-self-inside.result c.args.piece.now empty c.send-self-inside.ensures)
