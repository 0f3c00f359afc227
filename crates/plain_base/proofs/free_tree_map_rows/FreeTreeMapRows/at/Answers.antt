use Rattle.std.proofs.Common.{sym, ◌∙◌, arith}
use Rattle.std.specs.Map.{keys_of}
use Rattle.plain_base.proofs.SortedCuts.{nth_present, after_nth, none_later}
use Rattle.plain_base.proofs.free_tree_map_rows.FreeTreeMapRows.at.Goals as goal

pub after-place-requires : goal.after-place-requires
after-place-requires g c = nth_present g.met.C.Compare.strict c.args.self.now c.loop-step._step c.in-Some.k (sym c.loop-step.invariant ∙ c.in-Some.is)

pub returns-in-None : goal.returns-in-None
returns-in-None g c = sym (none_later (keys_of c.args.self.now) c.loop-step._step c.args.i (omega arith) (sym c.loop-step.invariant ∙ c.in-None.is))

pub loop-step-preserved : goal.loop-step-preserved
loop-step-preserved g c = c.after-place.ensures ∙ after_nth g.met.C.Compare.strict c.args.self.now c.loop-step._step c.in-Some.k c.len-len.ensures.order (sym c.loop-step.invariant ∙ c.in-Some.is)
