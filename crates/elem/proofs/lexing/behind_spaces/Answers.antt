use Rattle.std.proofs.Common.{arith, ◌∙◌}
use Rattle.elem.proofs.LexingLaws.{from_space}
use Rattle.elem.proofs.lexing.behind_spaces.Goals as goal

pub loop-start-preserved : goal.loop-start-preserved
loop-start-preserved c = record {
  same = from_space c.args.text.now c.loop-start.start c.loop-start-test.true c.if-text-start-ne32.false ∙ c.loop-start.invariant.same;
  behind = omega arith;
  within = omega arith;
}
