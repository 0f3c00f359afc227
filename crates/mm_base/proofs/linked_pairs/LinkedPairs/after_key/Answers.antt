use Rattle.std.proofs.Common.{◌<◌, sym, ap, ◌∙◌, subst}
use Rattle.elem.specs.Elements.{same}
use Rattle.elem.specs.Rows.{key_after}
use Rattle.mm_base.specs.PairRows.{count_of}
use Rattle.mm_base.specs.KeyedRows.{KeyedRows, as_rows}
use Rattle.mm_base.proofs.KeyedRowsLemmas.{entries_are, key_present}
use Rattle.mm_base.proofs.linked_pairs.LinkedPairs.after_key.Goals as goal

pub after-requires : goal.after-requires
after-requires g c = key_present c.self.inside.pairs c.self.inside.keys c.args.k c.self.invariant.linked (subst (λ (x : KeyedRows). 0 < count_of c.args.k x.rows) (sym c.self.view_is) c.requires)

pub returns-clause-key : goal.returns-clause-key
returns-clause-key g c = c.after.ensures ∙ ap (key_after (same c.args.k)) (sym (entries_are c.self.inside.keys)) ∙ ap (λ (x : KeyedRows). key_after (same c.args.k) (as_rows x.keys)) c.self.view_is
