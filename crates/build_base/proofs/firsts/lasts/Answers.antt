use Rattle.std.proofs.Common.{sym, ap, ◌∙◌, reverse}
use Rattle.build_base.specs.Rows.{alike}
use Rattle.build_base.specs.Kept.{firsts}
use Rattle.build_base.proofs.KeptLemmas.{lasts-reverse}
use Rattle.build_base.proofs.RowLemmas.{alike-symm}
use Rattle.build_base.proofs.firsts.lasts.Goals as goal

pub returns-clause-kept : goal.returns-clause-kept
returns-clause-kept c = c.reverse.ensures.items ∙ ap reverse (c.in_ok-kept.ensures.kept ∙ ap (firsts (alike c.args.part.now)) (c.deref.ensures.value ∙ c.in_ok-turned.ensures.rows)) ∙ sym (lasts-reverse (alike c.args.part.now) (alike-symm c.args.part.now) c.args.rows.now)
