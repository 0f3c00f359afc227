use Rattle.vocabulary.specs.Items.{key_of, second_of}
use Rattle.cell_rows.specs.CellRows.{cells_of}
use Rattle.cell_rows.proofs.PutLemmas.{no_row_there}
use Rattle.cell_rows.proofs.cell_rows.CellRows.place.Goals as goal

pub returns-in-Err-clause-memory : goal.returns-in-Err-clause-memory
returns-in-Err-clause-memory g c =
    no_row_there (cells_of c.args.self.now) (key_of c.args.row.now) (second_of c.args.row.now) (λ there. (let f = c.in-Err.ensures.in_place there in cc))
