use Rattle.std.proofs.Common.{◌≡◌, length}
use Rattle.vocabulary.specs.Words.{in_tables}
use Rattle.vocabulary.proofs.words.in_tables.Given as goal

abbrev pub invariant-loop-tables : goal.invariant-loop-tables
invariant-loop-tables l = in_tables l.word l.count l.tables ≡ in_tables l.word l.count l.initial.tables

abbrev pub decreases-loop-tables : goal.decreases-loop-tables
decreases-loop-tables l = length l.tables
