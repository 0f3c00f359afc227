use Rattle.std.proofs.Common.{rules}
use Rattle.std.proofs.lemmas.Int.{wraps}
use Rattle.fn_lang.proofs.leaves.product.Goals as goal

pub returns : goal.returns
returns c = search (rules, wraps)
