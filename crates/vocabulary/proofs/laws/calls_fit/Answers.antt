use Rattle.vocabulary.proofs.WordLemmas as lemma
use Rattle.vocabulary.proofs.laws.calls_fit.Goals as goal

pub returns : goal.returns
returns c = lemma.calls_fit
