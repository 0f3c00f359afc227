use Rattle.std.proofs.Common.{◌≡◌, ◌<◌, ℕ, sym, ◌∙◌, true, refl, arith}
use Rattle.std.specs.Prelude.{nat_lt, None}
use Rattle.std.proofs.lemmas.Bool.Decides.{nat_tests}
use Rattle.base_store.specs.Stored.{view_in}
use Rattle.vocabulary.specs.declared.steps.Step.{Step}
use Rattle.machine.specs.KeptSteps.{order_at, window_at}
use Rattle.machine.specs.Making.{step_refusal}
use Rattle.vocabulary.specs.Limits.{longest_path}
use Rattle.machine.specs.Bases.{World}
use Rattle.machine.specs.Views.{View, path}
use Rattle.vocabulary.specs.Windows.{takes_argument}
use Rattle.view_steps.proofs.MadeLemmas.{kept_made}
use Rattle.read_chain.proofs.making.make_view.Goals as goal

less : (m n : ℕ) → m < n → nat_lt m n ≡ true
less m n h = grind (arith, nat_tests)

not_refused : (world : World) (v : View) (it : Step) → takes_argument (order_at world v) (window_at v) it ≡ true → path v < longest_path → step_refusal world v it ≡ None
not_refused world v it fits short = rw (fits, less (path v) longest_path short) refl

pub new_view-requires-clause-kept : goal.new_view-requires-clause-kept
new_view-requires-clause-kept c =
    let s = c.args.store.now in
    let v = view_in s c.args.parent in
    let it = c.args.step in
    let fits : takes_argument (order_at s.world v) (window_at v) it ≡ true = rw (← c.order_of-order.ensures, ← c.window_of-window.ensures) (sym c.takes_argument.ensures ∙ c.if-not-takes_argument.false) in
    let short : path v < longest_path = omega arith in
    rw (c.kept_on.ensures, c.order_of-order.ensures, c.window_of-window.ensures) (kept_made s.world v it c.requires.known c.base_of-base.ensures.made c.requires.given (not_refused s.world v it fits short)).0.kept
