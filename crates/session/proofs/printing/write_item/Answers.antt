use Rattle.std.proofs.Common.{sym, ◌∙◌, ap, append_assoc}
use Rattle.std.specs.Prelude.{codes}
use Rattle.elem.specs.Spelling.{spelling}
use Rattle.machine.specs.Texts.{item_text}
use Rattle.session.proofs.ReplyLemmas.{goes_more, goes_text}
use Rattle.session.proofs.printing.write_item.Goals as goal

pub returns-in-Entry : goal.returns-in-Entry
returns-in-Entry g c = goes_text (sym (ap item_text c.in-Entry.is ∙ append_assoc (spelling c.in-Entry.k) (codes "=") (spelling c.in-Entry.v)))
    (goes_more (rw (c.as_slice-in-Entry.ensures.value ∙ c.write_elem-in-Entry.ensures) at c.write-in-Entry.ensures)
    (goes_more c.write-in-Entry-2.ensures (rw (c.as_slice-in-Entry-2.ensures.value ∙ c.write_elem-in-Entry-2.ensures) at c.write-in-Entry-3.ensures)))
