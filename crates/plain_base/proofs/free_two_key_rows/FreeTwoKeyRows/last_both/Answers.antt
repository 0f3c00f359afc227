use Rattle.std.proofs.Common.{sym, ap, ◌∙◌}
use Rattle.plain_base.specs.Groups.{last_pair_of}
use Rattle.plain_base.proofs.BothBack.{last_both}
use Rattle.plain_base.proofs.free_two_key_rows.FreeTwoKeyRows.last_both.Goals as goal

pub returns : goal.returns
returns g c = c.last_pair_of.ensures ∙ ap (λ o. last_pair_of o c.args.self.now) c.last.ensures ∙ sym (last_both c.args.self.now)
