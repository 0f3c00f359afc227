use Rattle.std.proofs.Common.{nat_lt, length, sym, ap, ◌∙◌}
use Rattle.build_base.specs.Rows.{alike}
use Rattle.build_base.proofs.KeptLemmas.{has_twice-shorter, once}
use Rattle.build_base.proofs.firsts.once.Goals as goal

pub returns-then-twice-clause-refused : goal.returns-then-twice-clause-refused
returns-then-twice-clause-refused c = λ e.
    has_twice-shorter (alike c.args.part.now) c.args.rows.now ∙ ap (λ l. nat_lt (length l) (length c.args.rows.now)) (sym c.in_ok-kept.ensures.kept) ∙ sym c.is_shorter-twice.ensures ∙ c.if-twice.true

pub returns-clause-rows : goal.returns-clause-rows
returns-clause-rows c =
    c.in_ok-kept.ensures.kept
    ∙ once (alike c.args.part.now) c.args.rows.now (has_twice-shorter (alike c.args.part.now) c.args.rows.now ∙ ap (λ l. nat_lt (length l) (length c.args.rows.now)) (sym c.in_ok-kept.ensures.kept) ∙ sym c.is_shorter-twice.ensures ∙ c.if-twice.false)

pub returns-clause-allowed : goal.returns-clause-allowed
returns-clause-allowed c =
    has_twice-shorter (alike c.args.part.now) c.args.rows.now ∙ ap (λ l. nat_lt (length l) (length c.args.rows.now)) (sym c.in_ok-kept.ensures.kept) ∙ sym c.is_shorter-twice.ensures ∙ c.if-twice.false
