use Rattle.std.proofs.Common.{arith}
use Rattle.script_text.proofs.LoopLaws.{IsNext, read_none, read_to, read_part, read_argument, read_end, read_open}
use Rattle.script_text.proofs.parts.read_parts.Goals as goal

pub returns-in_err-next : goal.returns-in_err-next
returns-in_err-next c =
    let next : IsNext c.args.line.now c.loop-token.at c.in-Next.token = record { is = c.in-Next.ensures.ahead; later = omega (arith, c.in-Next.ensures.place.0, c.in-Next.ensures.place.1); within = c.in-Next.ensures.place.2 } in
    rw c.from_residual.ensures (read_none c.args.line.now c.args.from c.loop-token.parts.items c.loop-token.stage c.loop-token.place c.loop-token.at c.in-Next.token c.loop-token.invariant next c.in_err-next.ensures)

pub loop-token-preserved-in-To : goal.loop-token-preserved-in-To
loop-token-preserved-in-To c =
    let next : IsNext c.args.line.now c.loop-token.at c.in-Next.token = record { is = c.in-Next.ensures.ahead; later = omega (arith, c.in-Next.ensures.place.0, c.in-Next.ensures.place.1); within = c.in-Next.ensures.place.2 } in
    rw c.grown-more.ensures (read_to c.args.line.now c.args.from c.loop-token.parts.items c.loop-token.stage c.loop-token.place c.loop-token.at c.in-Next.token c.in-To.next c.loop-token.invariant next (rw c.in-To.is at c.in_ok-next.ensures))

pub loop-token-preserved-in-Part : goal.loop-token-preserved-in-Part
loop-token-preserved-in-Part c =
    let next : IsNext c.args.line.now c.loop-token.at c.in-Next.token = record { is = c.in-Next.ensures.ahead; later = omega (arith, c.in-Next.ensures.place.0, c.in-Next.ensures.place.1); within = c.in-Next.ensures.place.2 } in
    rw (c.grown-more.ensures, c.push.ensures.items, c.without_arguments.ensures) (read_part c.args.line.now c.args.from c.loop-token.parts.items c.loop-token.stage c.loop-token.place c.loop-token.at c.in-Next.token c.in-Part.word c.loop-token.invariant next (rw c.in-Part.is at c.in_ok-next.ensures))

pub loop-token-preserved : goal.loop-token-preserved
loop-token-preserved c =
    let next : IsNext c.args.line.now c.loop-token.at c.in-Next.token = record { is = c.in-Next.ensures.ahead; later = omega (arith, c.in-Next.ensures.place.0, c.in-Next.ensures.place.1); within = c.in-Next.ensures.place.2 } in
    rw c.grown-more.ensures (read_argument c.args.line.now c.args.from c.loop-token.parts.items c.add_argument.new.parts.items c.loop-token.stage c.loop-token.place c.loop-token.at c.in-Next.token c.in-Argument.next c.loop-token.invariant next (rw c.in-Argument.is at c.in_ok-next.ensures) c.add_argument.ensures.parts c.add_argument.ensures.len c.add_argument.ensures.count)

pub returns-then-may_end : goal.returns-then-may_end
returns-then-may_end c =
    (c.loop-token.invariant.calls, read_end c.args.line.now c.args.from c.loop-token.parts.items c.loop-token.stage c.loop-token.place c.loop-token.at c.loop-token.invariant c.in-Nothing.ensures.ahead c.if-may_end.ensures, c.loop-token.invariant.shown)

pub returns-else-may_end : goal.returns-else-may_end
returns-else-may_end c = read_open c.args.line.now c.args.from c.loop-token.parts.items c.loop-token.stage c.loop-token.place c.loop-token.at c.loop-token.invariant c.in-Nothing.ensures.ahead c.if-may_end.ensures
