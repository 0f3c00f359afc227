use Rattle.std.proofs.Common.{◌≡◌, ℕ, false, Err, ap, sym, subst}
use Rattle.base_store.specs.Stored.{view_in}
use Rattle.machine.specs.Bases.{base_at}
use Rattle.view_steps.specs.KnownViews.{number_under}
use Rattle.vocabulary.specs.Kinds.{shape_of_kind}
use Rattle.vocabulary.specs.Shapes.{is_bimap}
use Rattle.base_rows.specs.BaseRows.{IsRowOf}
use Rattle.vocabulary.specs.declared.refusals.Refusal.{Refusal}
use Rattle.vocabulary.specs.declared.refusals.Refusal.TheVariants.{NoMemory}
use Rattle.write_chain.proofs.AddLemmas.{add_placed, add_stopped, add_wants}
use Rattle.write_chain.proofs.KnownCalls.{stands}
use Rattle.write_chain.proofs.ShapeLemmas.{lifted_fits}
use Rattle.write_chain.proofs.adding.add_one.Goals as goal
use Rattle.view_steps.proofs.ChangeLemmas.{room}

pub place_row-requires-clause-change : goal.place_row-requires-clause-change
place_row-requires-clause-change g c = room _ _ c.requires.change

pub place_row-requires-clause-fits : goal.place_row-requires-clause-fits
place_row-requires-clause-fits g c =
    let s = c.args.store.now in
    let v = view_in s c.args.n in
    let b = c.base_of-b in
    subst (λ (n : ℕ). IsRowOf (base_at s.world n).kind c.in-Some.row) (sym b.ensures.base)
    (lifted_fits v (shape_of_kind (base_at s.world (number_under v)).kind) c.args.item.now c.in-Some.row b.ensures.known c.in-Some.ensures c.requires.fits)

pub returns-in-Ok-clause-came : goal.returns-in-Ok-clause-came
returns-in-Ok-clause-came g c =
    let s = c.args.store.now in
    let b = c.base_of-b in
    add_placed s c.place_row.new.self (view_in s c.args.n) c.args.item.now c.in-Some.row c.args.spot c.args.answer b.result b.ensures.base c.in-Some.ensures c.in-Ok.ensures.taken c.in-Ok.ensures.ok c.in-Ok.ensures.few

pub returns-in-Err-clause-came : goal.returns-in-Err-clause-came
returns-in-Err-clause-came g c =
    let s = c.args.store.now in
    let b = c.base_of-b in
    add_stopped s c.place_row.new.self (view_in s c.args.n) c.args.item.now c.in-Some.row c.args.spot c.args.answer b.result c.in-Err.why b.ensures.base c.in-Some.ensures c.in-Err.ensures.err c.in-Err.ensures.cause

pub returns-in-Err-clause-memory : goal.returns-in-Err-clause-memory
returns-in-Err-clause-memory g c = λ e other.
    let s = c.args.store.now in
    let v = view_in s c.args.n in
    let b = c.base_of-b in
    let none : c.in-Err.why ≡ NoMemory = cc in
    add_wants s.world v c.args.item.now c.in-Some.row c.args.spot c.args.answer b.result (stands s.world v b.result b.ensures.base b.ensures.known b.ensures.kind b.ensures.made) other c.in-Some.ensures b.ensures.base
    (c.in-Err.ensures.memory (ap (λ (why : Refusal). Err why) none) (subst (λ (n : ℕ). is_bimap (shape_of_kind (base_at s.world n).kind) ≡ false) (sym b.ensures.base) other))
