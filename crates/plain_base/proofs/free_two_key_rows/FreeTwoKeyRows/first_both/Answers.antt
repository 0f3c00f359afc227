use Rattle.std.proofs.Common.{sym, ap, ◌∙◌}
use Rattle.plain_base.specs.Groups.{first_pair_of}
use Rattle.plain_base.proofs.BothOrder.{first_both}
use Rattle.plain_base.proofs.free_two_key_rows.FreeTwoKeyRows.first_both.Goals as goal

pub returns : goal.returns
returns g c = c.first_pair_of.ensures ∙ ap (λ o. first_pair_of o c.args.self.now) c.first.ensures ∙ sym (first_both c.args.self.now)
