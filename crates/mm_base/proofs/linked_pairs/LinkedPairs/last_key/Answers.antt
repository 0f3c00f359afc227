use Rattle.std.proofs.Common.{sym, ap, ◌∙◌}
use Rattle.elem.specs.Rows.{last_key}
use Rattle.mm_base.specs.KeyedRows.{KeyedRows, as_rows}
use Rattle.mm_base.proofs.KeyedRowsLemmas.{entries_are}
use Rattle.mm_base.proofs.linked_pairs.LinkedPairs.last_key.Goals as goal

pub returns-clause-key : goal.returns-clause-key
returns-clause-key g c = c.last.ensures ∙ ap (last_key) (sym (entries_are c.self.inside.keys)) ∙ ap (λ (x : KeyedRows). last_key (as_rows x.keys)) c.self.view_is
