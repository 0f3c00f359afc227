use Rattle.std.proofs.Common.{◌∙◌}
use Rattle.graph_base.proofs.HalvesLemmas.{put_live, put_back}
use Rattle.graph_base.proofs.halves.add_halves.Goals as goal

pub remove_id-requires : goal.remove_id-requires
remove_id-requires c = put_live c.args.halves.now (c.in_ok-first.first, (c.args.from.now, c.args.number.now)) c.in_ok-first.ensures.fresh c.add_second.new.halves (c.in-Err.ensures.err ∙ c.in_ok-first.ensures.ok)

pub returns-in-Err-clause-err : goal.returns-in-Err-clause-err
returns-in-Err-clause-err c =
    c.remove_id.ensures ∙ put_back c.args.halves.now (c.in_ok-first.first, (c.args.from.now, c.args.number.now)) c.in_ok-first.ensures.fresh c.add_second.new.halves (c.in-Err.ensures.err ∙ c.in_ok-first.ensures.ok)
