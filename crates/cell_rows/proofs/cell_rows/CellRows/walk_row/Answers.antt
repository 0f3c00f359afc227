use Rattle.std.proofs.Common.{Bool, subst, sym, ap}
use Rattle.std.specs.Prelude.{filter}
use Rattle.std.specs.Map.{keys_of}
use Rattle.elem.specs.declared.elements.Elem.{Elem}
use Rattle.vocabulary.specs.declared.items.Side.TheVariants.{First}
use Rattle.view_laws.specs.Following.{Follows, IsFrom}
use Rattle.view_laws.specs.Lanes.{turned_if}
use Rattle.cell_rows.specs.declared.cell_rows.CellRows.{CellRows}
use Rattle.cell_rows.specs.CellRows.{cells_of, kind_of}
use Rattle.cell_rows.specs.Threads.{along, key_in, key_line, IsOneOf}
use Rattle.cell_rows.proofs.KeyLemmas.{follows_nothing}
use Rattle.cell_rows.proofs.Walks.{no_window, served_window}
use Rattle.cell_rows.proofs.cell_rows.CellRows.walk_row.Goals as goal

pub returns-in-Linked : goal.returns-in-Linked
returns-in-Linked g c = no_window c.args.self.now c.args.r.now c.args.ask.now _ _ (ap kind_of c.in-Linked.is) c.in-Within.is c.requires.serves

pub next_in_window-requires : goal.next_in_window-requires
next_in_window-requires g c =
    let served = served_window c.args.self.now c.args.r.now c.args.ask.now _ c.in-Within.window (ap kind_of c.in-Sorted.is) c.in-Within.is c.requires.serves in
    record {
      window = served.upto;
      from =
          subst (λ (p : Elem → Bool). IsFrom (turned_if c.args.back (filter p (keys_of (along First c.args.r.now c.in-Sorted.table)))) c.args.from) served.test
          (subst (λ (self : CellRows). IsFrom (key_line c.args.ask.now c.args.back (keys_of (along First c.args.r.now (cells_of self)))) c.args.from) c.in-Sorted.is c.requires.from);
    }

pub returns-in-Sorted : goal.returns-in-Sorted
returns-in-Sorted g c =
    let served = served_window c.args.self.now c.args.r.now c.args.ask.now _ c.in-Within.window (ap kind_of c.in-Sorted.is) c.in-Within.is c.requires.serves in
    record {
      next =
          subst (λ (self : CellRows). Follows (key_line c.args.ask.now c.args.back (keys_of (along First c.args.r.now (cells_of self)))) c.args.from (key_in c.next_in_window.result)) (sym c.in-Sorted.is)
          (subst (λ (p : Elem → Bool). Follows (turned_if c.args.back (filter p (keys_of (along First c.args.r.now c.in-Sorted.table)))) c.args.from (key_in c.next_in_window.result)) (sym served.test) c.next_in_window.ensures.next);
      cell = subst (λ (self : CellRows). IsOneOf (along First c.args.r.now (cells_of self)) c.next_in_window.result) (sym c.in-Sorted.is) c.next_in_window.ensures.cell;
      step = c.next_in_window.ensures.step;
    }

pub returns-in-Nothing-clause-next : goal.returns-in-Nothing-clause-next
returns-in-Nothing-clause-next g c = follows_nothing (keys_of (along First c.args.r.now (cells_of c.args.self.now))) c.args.ask.now c.args.back c.args.from c.in-Nothing.is
