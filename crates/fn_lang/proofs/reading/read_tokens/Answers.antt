use Rattle.std.proofs.Common.{◌≡◌, false, sym, ap, ◌∙◌, arith, List, [], ◌∷◌, ◌++◌}
use Rattle.fn_lang.specs.declared.steps.Want.{Want}
use Rattle.fn_lang.specs.declared.steps.Want.TheVariants as wants
use Rattle.std.specs.Prelude.{◌&&◌}
use Rattle.fn_lang.specs.Reading.{is_open}
use Rattle.fn_lang.proofs.StackLaws.{IsNext, closed_bare, read_init, next_open, next_step, none_left, no_step, read_end, read_wanting, not_open, none_popped, empty_by, some_by}
use Rattle.fn_lang.proofs.reading.read_tokens.Goals.{else-bare-via-then-bare+else-is_open, else-bare-via-else-bare}
use Rattle.fn_lang.proofs.reading.read_tokens.Goals as goal

pub loop-token-init : goal.loop-token-init
loop-token-init c = read_init c.args.text.now c.args.sort c.new-parts.result.items c.push.new.self.items c.new-parts.ensures (c.push.ensures.items ∙ ap (λ (l : List Want). l ++ wants.Tree c.args.sort ∷ []) c.new-stack.ensures)

pub returns-in_err-want : goal.returns-in_err-want
returns-in_err-want c =
    let next : IsNext c.args.text.now c.loop-token.at c.in-Next.token = record { is = c.in-Next.ensures.ahead; later = omega (arith, c.in-Next.ensures.place.0, c.in-Next.ensures.place.1); within = c.in-Next.ensures.place.2 } in
    let other : (c.loop-token.bare && is_open c.in-Next.token.token) ≡ false = elim c.else-bare.branch [ else-bare-via-then-bare+else-is_open w ↦ not_open c.loop-token.bare _ (sym w.is_open.ensures ∙ w.if-is_open.false) | else-bare-via-else-bare w ↦ closed_bare c.loop-token.bare (is_open c.in-Next.token.token) w.if-bare.false ] in
    rw c.from_residual.ensures (none_left c.args.text.now c.args.sort c.loop-token.parts.items c.loop-token.count c.loop-token.stack.items c.loop-token.bare c.loop-token.at c.in-Next.token c.loop-token.invariant next other (none_popped c.loop-token.stack.items c.in_err-want.ensures.variant.1))

pub returns-in_err-step : goal.returns-in_err-step
returns-in_err-step c =
    let next : IsNext c.args.text.now c.loop-token.at c.in-Next.token = record { is = c.in-Next.ensures.ahead; later = omega (arith, c.in-Next.ensures.place.0, c.in-Next.ensures.place.1); within = c.in-Next.ensures.place.2 } in
    let other : (c.loop-token.bare && is_open c.in-Next.token.token) ≡ false = elim c.else-bare.branch [ else-bare-via-then-bare+else-is_open w ↦ not_open c.loop-token.bare _ (sym w.is_open.ensures ∙ w.if-is_open.false) | else-bare-via-else-bare w ↦ closed_bare c.loop-token.bare (is_open c.in-Next.token.token) w.if-bare.false ] in
    rw c.from_residual-in_err-step.ensures (no_step c.args.text.now c.args.sort c.loop-token.parts.items c.loop-token.count c.loop-token.stack.items c.pop.new.self.items c.loop-token.bare c.loop-token.at c.in-Next.token c.in_ok-want.want c.loop-token.invariant next other c.in_ok-want.ensures.items c.in_err-step.ensures)

pub loop-token-preserved-then-is_open : goal.loop-token-preserved-then-is_open
loop-token-preserved-then-is_open c =
    let next : IsNext c.args.text.now c.loop-token.at c.in-Next.token = record { is = c.in-Next.ensures.ahead; later = omega (arith, c.in-Next.ensures.place.0, c.in-Next.ensures.place.1); within = c.in-Next.ensures.place.2 } in
    next_open c.args.text.now c.args.sort c.loop-token.parts.items c.loop-token.count c.loop-token.stack.items c.push-then-is_open.new.self.items c.loop-token.at c.in-Next.token (rw c.if-bare.true at c.loop-token.invariant) next (sym c.if-is_open.ensures) c.push-then-is_open.ensures.items

pub loop-token-preserved : goal.loop-token-preserved
loop-token-preserved c =
    let next : IsNext c.args.text.now c.loop-token.at c.in-Next.token = record { is = c.in-Next.ensures.ahead; later = omega (arith, c.in-Next.ensures.place.0, c.in-Next.ensures.place.1); within = c.in-Next.ensures.place.2 } in
    let other : (c.loop-token.bare && is_open c.in-Next.token.token) ≡ false = elim c.else-bare.branch [ else-bare-via-then-bare+else-is_open w ↦ not_open c.loop-token.bare _ (sym w.is_open.ensures ∙ w.if-is_open.false) | else-bare-via-else-bare w ↦ closed_bare c.loop-token.bare (is_open c.in-Next.token.token) w.if-bare.false ] in
    rw c.keep-count.ensures.count (next_step c.args.text.now c.args.sort c.loop-token.parts.items c.keep-count.new.items.items c.loop-token.count c.loop-token.stack.items c.pop.new.self.items c.put_wants.new.stack.items c.loop-token.bare c.loop-token.at c.in-Next.token c.in_ok-want.want c.in_ok-step.step c.loop-token.invariant next other c.in_ok-want.ensures.items c.in_ok-step.ensures c.put_wants.ensures c.keep-count.ensures.items)

pub returns-then-is_empty : goal.returns-then-is_empty
returns-then-is_empty c = (c.loop-token.invariant.found, read_end c.args.text.now c.args.sort c.loop-token.parts.items c.loop-token.count c.loop-token.stack.items c.loop-token.bare c.loop-token.at c.loop-token.invariant c.in-Nothing.ensures.ahead (empty_by c.loop-token.stack.items c.if-is_empty.ensures), c.loop-token.invariant.kept, c.loop-token.invariant.count_is)

pub returns-else-is_empty : goal.returns-else-is_empty
returns-else-is_empty c = read_wanting c.args.text.now c.args.sort c.loop-token.parts.items c.loop-token.count c.loop-token.stack.items c.loop-token.bare c.loop-token.at c.loop-token.invariant c.in-Nothing.ensures.ahead (some_by c.loop-token.stack.items c.if-is_empty.ensures)
