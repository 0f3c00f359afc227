use Rattle.vocabulary.specs.Words.{rows_of}
use Rattle.vocabulary.proofs.words.in_table.Goals as goal

pub returns-in-Bags : goal.returns-in-Bags
unfolding rows_of
returns-in-Bags c = rw c.in-Bags.is c.chosen-in-Bags.ensures

pub returns-in-Maps : goal.returns-in-Maps
unfolding rows_of
returns-in-Maps c = rw c.in-Maps.is c.chosen-in-Maps.ensures

pub returns-in-Multimaps : goal.returns-in-Multimaps
unfolding rows_of
returns-in-Multimaps c = rw c.in-Multimaps.is c.chosen-in-Multimaps.ensures

pub returns-in-Tables : goal.returns-in-Tables
unfolding rows_of
returns-in-Tables c = rw c.in-Tables.is c.chosen-in-Tables.ensures
