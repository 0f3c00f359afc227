use Rattle.std.proofs.Common.{subst}
use Rattle.elem.specs.Keyed.{HasDistinctKeys}
use Rattle.bag_base.proofs.OccurrenceLemmas.{count-occurrences}
use Rattle.bag_base.proofs.bag.Bag.distinct.Goals as goal

pub returns-clause-occurrences : goal.returns-clause-occurrences
returns-clause-occurrences g c = λ x. count-occurrences x c.args.self.now (subst HasDistinctKeys c.self.view_is c.len.ensures.distinct)
