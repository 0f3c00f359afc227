use Rattle.std.proofs.Common.{◌∙◌}
use Rattle.build_base.specs.Rows.{alike, key_of, same_key}
use Rattle.build_base.proofs.KeptLemmas.{firsts_more, any_more}
use Rattle.build_base.proofs.firsts.firsts.Goals as goal

pub loop-row-preserved : goal.loop-row-preserved
loop-row-preserved c =
    let rows = c.args.rows.now in
    let i = c.loop-row.row-index in
    let r = c.row-item.result in
    let part = c.args.part.now in (
      firsts_more (alike part) rows i r c.loop-row-test.true c.row-item.is c.loop-row.kept.items c.keep_new.new.kept.items _ c.loop-row.invariant.0 (c.loop-row.invariant.1 (key_of part r)) c.in_ok-keep_new.ensures.kept,
      λ q. c.in_ok-keep_new.ensures.seen q ∙ any_more (alike part) (λ x. same_key (key_of part x) q) rows i r c.loop-row-test.true c.row-item.is _ (c.loop-row.invariant.1 q),
    )
