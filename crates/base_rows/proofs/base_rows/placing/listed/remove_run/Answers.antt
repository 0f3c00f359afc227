use Rattle.std.proofs.Common.{◌-◌, List, ap, ◌∙◌, arith}
use Rattle.std.specs.List.{remove}
use Rattle.elem.specs.declared.elements.Elem.{Elem}
use Rattle.base_rows.proofs.ListRowLemmas.{run_more}
use Rattle.base_rows.proofs.base_rows.placing.listed.remove_run.Goals as goal

pub loop-end-preserved : goal.loop-end-preserved
loop-end-preserved g c = record {
  above = omega arith;
  below = omega arith;
  left = c.remove_at.ensures.items ∙ ap (λ (rows : List Elem). remove rows (c.loop-end.end - 1)) c.loop-end.invariant.left ∙ run_more c.args.rows.now (c.loop-end.end - 1) c.loop-end.end c.args.to (omega arith) (omega arith);
}
