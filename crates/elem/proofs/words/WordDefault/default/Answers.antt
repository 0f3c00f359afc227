use Rattle.std.proofs.Common.{refl, arith}
use Rattle.elem.specs.Words.{is_word, starts_word}
use Rattle.elem.proofs.words.WordDefault.default.Goals as goal

pub invariant_of-result : goal.invariant_of-result
unfolding is_word starts_word
invariant_of-result c = record { fits = omega arith; word = refl; rest = refl }
