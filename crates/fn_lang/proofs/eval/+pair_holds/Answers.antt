use Rattle.std.proofs.Common.{◌≡◌}
use Rattle.std.specs.Prelude.{◌&&◌, ◌||◌}
use Rattle.fn_lang.proofs.TreeLaws.{parts_are, none_are, pair_none, pair_key, pair_value, pair_and, pair_or, pair_not, pair_other, and_true, and_false, or_true, or_false}
use Rattle.fn_lang.proofs.eval.+pair_holds.Goals.{then-left, else-left, then-left-2, else-left-2}
use Rattle.fn_lang.proofs.eval.+pair_holds.Goals as goal

pub returns-in_default-clause-value : goal.returns-in_default-clause-value
returns-in_default-clause-value t c = rw (none_are c.args.parts.now c.in_default.ensures.first) (pair_none c.args.k c.args.v _ _)

pub returns-in-Key-clause-value : goal.returns-in-Key-clause-value
returns-in-Key-clause-value t c =
    rw (parts_are c.args.parts.now c.in-Some.first c.in-Some.rest.now c.in-Some.ensures.first, c.in-Key.is) (pair_key c.args.k c.args.v _ _ _ c.holds.ensures.value)

pub returns-in-Value-clause-value : goal.returns-in-Value-clause-value
returns-in-Value-clause-value t c =
    rw (parts_are c.args.parts.now c.in-Some.first c.in-Some.rest.now c.in-Some.ensures.first, c.in-Value.is) (pair_value c.args.k c.args.v _ _ _ c.holds-in-Value.ensures.value)

pub returns-after-left-clause-value : goal.returns-after-left-clause-value
returns-after-left-clause-value t c =
    let both : c.if-left.result ≡ (c.pair_holds-left.result.0 && c.pair_holds-right.result.0) = elim c.if-left.branch [ then-left w ↦ and_true _ _ _ w.if-left.true w.result-is | else-left w ↦ and_false _ _ _ w.if-left.false w.result-is ] in
    rw (parts_are c.args.parts.now c.in-Some.first c.in-Some.rest.now c.in-Some.ensures.first, c.in-And.is, both) (pair_and c.args.k c.args.v _ _ _ _ _ c.pair_holds-left.ensures.value c.pair_holds-right.ensures.value)

pub returns-after-left-2-clause-value : goal.returns-after-left-2-clause-value
returns-after-left-2-clause-value t c =
    let both : c.if-left-2.result ≡ (c.pair_holds-left-in-Or.result.0 || c.pair_holds-right-in-Or.result.0) = elim c.if-left-2.branch [ then-left-2 w ↦ or_true _ _ _ w.if-left-2.true w.result-is | else-left-2 w ↦ or_false _ _ _ w.if-left-2.false w.result-is ] in
    rw (parts_are c.args.parts.now c.in-Some.first c.in-Some.rest.now c.in-Some.ensures.first, c.in-Or.is, both) (pair_or c.args.k c.args.v _ _ _ _ _ c.pair_holds-left-in-Or.ensures.value c.pair_holds-right-in-Or.ensures.value)

pub returns-in-Not-clause-value : goal.returns-in-Not-clause-value
returns-in-Not-clause-value t c =
    rw (parts_are c.args.parts.now c.in-Some.first c.in-Some.rest.now c.in-Some.ensures.first, c.in-Not.is) (pair_not c.args.k c.args.v _ _ _ c.pair_holds-inner.ensures.value)

pub returns-in_default-first-clause-value : goal.returns-in_default-first-clause-value
returns-in_default-first-clause-value t c =
    rw (parts_are c.args.parts.now c.in-Some.first c.in-Some.rest.now c.in-Some.ensures.first) (pair_other c.args.k c.args.v c.in-Some.first c.in-Some.rest.now c.in-Some.rest.now _ c.in_default-first.not-Key c.in_default-first.not-Value c.in_default-first.not-And c.in_default-first.not-Or c.in_default-first.not-Not)
