use Rattle.std.proofs.Common.{◌≡◌, true, ◌∙◌, ap, subst, ℕ}
use Rattle.base_store.specs.Stored.{view_in}
use Rattle.machine.specs.Bases.{base_at}
use Rattle.vocabulary.specs.Known.{is_known_kind}
use Rattle.session.specs.KnownShapes.{is_known_shape}
use Rattle.view_steps.proofs.KnownLemmas.{is_read}
use Rattle.session.proofs.KnownLemmas.{shape_known}
use Rattle.session.proofs.printing.known_shape.Goals as goal

pub returns-clause-known : goal.returns-clause-known
returns-clause-known c =
    let s = c.args.store.now in
    ap is_known_shape c.shape.ensures
    ∙ shape_known s.world (view_in s c.args.n) c.base_of-base.ensures.known (subst (λ (b : ℕ). is_known_kind (base_at s.world b).kind ≡ true) c.base_of-base.ensures.base c.base_of-base.ensures.kind)

pub returns-clause-read : goal.returns-clause-read
returns-clause-read c = is_read c.args.store.now.world (view_in c.args.store.now c.args.n) c.base_of-base.ensures.known
