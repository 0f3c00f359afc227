use Rattle.std.proofs.Common.{Bool, subst, sym}
use Rattle.std.specs.Prelude.{filter}
use Rattle.std.specs.Map.{keys_of}
use Rattle.elem.specs.declared.elements.Elem.{Elem}
use Rattle.view_laws.specs.Following.{Follows, IsFrom}
use Rattle.view_laws.specs.Lanes.{turned_if}
use Rattle.base_rows.specs.KeyLines.{key_in}
use Rattle.base_rows.proofs.KeyLemmas.{window_test, follows_nothing}
use Rattle.base_rows.proofs.base_rows.reading.keys.sorted_row.Goals as goal

pub next_in_window-requires-clause-from : goal.next_in_window-requires-clause-from
next_in_window-requires-clause-from g c =
    subst (λ (p : Elem → Bool). IsFrom (turned_if c.args.back (filter p (keys_of c.args.rows.now))) c.args.from)
    (window_test g.C.Compare.before c.args.ask.now _ c.in-Within.window c.requires.ask c.in-Within.is) c.requires.from

pub returns-in-Within-clause-next : goal.returns-in-Within-clause-next
returns-in-Within-clause-next g c =
    subst (λ (p : Elem → Bool). Follows (turned_if c.args.back (filter p (keys_of c.args.rows.now))) c.args.from (key_in c.next_in_window.result))
    (sym (window_test g.C.Compare.before c.args.ask.now _ c.in-Within.window c.requires.ask c.in-Within.is)) c.next_in_window.ensures.next

pub returns-in-Nothing-clause-next : goal.returns-in-Nothing-clause-next
returns-in-Nothing-clause-next g c = follows_nothing (keys_of c.args.rows.now) c.args.ask.now c.args.back c.args.from c.in-Nothing.is
