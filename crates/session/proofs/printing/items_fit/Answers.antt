use Rattle.std.proofs.Common.{◌≡◌, true, subst, ℕ}
use Rattle.base_rows.specs.BaseRows.{AreRowsOf}
use Rattle.base_store.specs.Stored.{view_in}
use Rattle.machine.specs.Bases.{base_at}
use Rattle.vocabulary.specs.Known.{is_known_kind}
use Rattle.session.proofs.KnownLemmas.{shown_known}
use Rattle.session.proofs.printing.items_fit.Goals as goal

pub returns : goal.returns
returns c =
    let s = c.args.store.now in
    shown_known s.world (view_in s c.args.n) c.base_of.ensures.known
    (subst (λ (b : ℕ). is_known_kind (base_at s.world b).kind ≡ true) c.base_of.ensures.base c.base_of.ensures.kind)
    c.base_of.ensures.made
    (subst (λ (b : ℕ). AreRowsOf (base_at s.world b).kind (base_at s.world b).rows) c.base_of.ensures.base c.rows_fit.ensures)
