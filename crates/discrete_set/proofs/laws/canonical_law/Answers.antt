use Rattle.discrete_set.proofs.CanonicalLaws.{same_members, same_canonical}
use Rattle.discrete_set.proofs.laws.canonical_law.Goals as goal

pub returns : goal.returns
returns c = (same_members c.args.rows.now c.args.others.now, same_canonical c.args.rows.now c.args.others.now)
