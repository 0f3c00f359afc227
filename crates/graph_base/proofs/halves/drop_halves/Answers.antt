use Rattle.std.proofs.Common.{sym, ◌∙◌}
use Rattle.graph_base.proofs.HalvesLemmas.{first_live, without_loop, second_live, without_both}
use Rattle.graph_base.proofs.halves.drop_halves.Goals as goal

pub remove_id-requires : goal.remove_id-requires
remove_id-requires c = first_live c.args.number.now c.args.from.now c.args.to.now c.args.first c.args.second c.requires.0 c.requires.1 c.args.halves.now c.requires.2 c.len-len.ensures.distinct

pub remove_id-requires-then-not-same : goal.remove_id-requires-then-not-same
remove_id-requires-then-not-same c =
    second_live c.args.number.now c.args.from.now c.args.to.now c.args.first c.args.second c.requires.0 c.requires.1 c.args.halves.now c.requires.2 c.len-len.ensures.distinct c.remove_id.new.self c.remove_id.ensures (sym c.if-not-same.ensures.test)
    c.len-len-then-not-same.ensures.distinct

pub returns-then-not-same : goal.returns-then-not-same
returns-then-not-same c us vs e =
    c.remove_id-then-not-same.ensures
    ∙ without_both c.args.number.now c.args.from.now c.args.to.now c.args.first c.args.second us vs c.args.halves.now e c.len-len.ensures.distinct c.remove_id.new.self c.remove_id.ensures (sym c.if-not-same.ensures.test)
    c.len-len-then-not-same.ensures.distinct

pub returns-else-not-same : goal.returns-else-not-same
returns-else-not-same c us vs e = without_loop c.args.number.now c.args.from.now c.args.to.now c.args.first c.args.second us vs c.args.halves.now e c.len-len.ensures.distinct c.remove_id.new.self c.remove_id.ensures (sym c.if-not-same.ensures.test)
