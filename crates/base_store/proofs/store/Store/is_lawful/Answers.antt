use Rattle.std.proofs.Common.{◌≡◌, ℕ, true, subst}
use Rattle.vocabulary.specs.Known.{is_known_kind}
use Rattle.machine.specs.Bases.{base_at}
use Rattle.base_rows.specs.BaseRows.{AreRowsOf}
use Rattle.base_store.specs.Stored.{view_in}
use Rattle.base_store.proofs.FormLemmas.{formed_over}
use Rattle.view_steps.proofs.KnownLemmas.{known_by_row}
use Rattle.base_store.proofs.SpotLemmas.{tell_all}
use Rattle.base_store.proofs.store.Store.is_lawful.Goals as goal

pub returns-clause-formed : goal.returns-clause-formed
returns-clause-formed c =
    let s = c.args.self.now in
    let kind = subst (λ (b : ℕ). is_known_kind (base_at s.world b).kind ≡ true) c.base_of.ensures.base c.base_of.ensures.kind in
    let fit = subst (λ (b : ℕ). AreRowsOf (base_at s.world b).kind (base_at s.world b).rows) c.base_of.ensures.base c.rows_fit.ensures in
    formed_over s.world (view_in s c.args.n) c.base_of.ensures.known kind c.base_of.ensures.made fit

pub returns-clause-by_row : goal.returns-clause-by_row
returns-clause-by_row c = let s = c.args.self.now in known_by_row s.world (view_in s c.args.n) c.base_of.ensures.known

pub returns-clause-tell : goal.returns-clause-tell
returns-clause-tell c = rw (← c.self.view_is) (tell_all c.self.inside.slots.items c.self.invariant.built.keys)
