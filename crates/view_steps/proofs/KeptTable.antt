-- The table of steps, read by how they are kept: a window in the order of the base, inside that of the view.
use Rattle.std.proofs.Common.{◌≡◌, Bool, true, false, cond, refl, sym, ◌∙◌, subst}
use Rattle.std.specs.Prelude.{Some, None}
use Rattle.vocabulary.specs.declared.orders.Order.{Order}
use Rattle.vocabulary.specs.declared.refusals.Refusal.{Refusal}
use Rattle.vocabulary.specs.declared.refusals.Refusal.TheVariants.{IllegalArgument}
use Rattle.vocabulary.specs.declared.steps.Step.{Step}
use Rattle.vocabulary.specs.declared.steps.Step.TheVariants as step
use Rattle.vocabulary.specs.Orders.{upto}
use Rattle.vocabulary.specs.StepShapes.{apply}
use Rattle.vocabulary.specs.Steps.{steps_in}
use Rattle.vocabulary.specs.Windows.{resulting, takes_range}
use Rattle.machine.specs.Bases.{World}
use Rattle.machine.specs.KeptSteps.{kept, order_at, window_at}
use Rattle.machine.specs.MadeViews.{IsKept}
use Rattle.machine.specs.Making.{argument_refusal}
use Rattle.machine.specs.Views.{View, over, shape_at}
use Rattle.view_steps.proofs.WindowLemmas.{inside-encloses, resulting-inside}

-- a window whose ends are in order
abbrev pub IsInOrder : World → View → Type 0
IsInOrder world v = upto (order_at world v) (window_at v).lo (window_at v).hi ≡ true

pub let_through : (b : Bool) (why : Refusal) → cond b None (Some why) ≡ None → b ≡ true
let_through true why h = refl
let_through false why h = cc

pub kept_window : (world : World) (v : View) (it : Step) → IsKept world v it → IsInOrder world v → IsInOrder world (over it v)
kept_window world v (step.Within order w) rule below = subst (λ (o : Order). upto o w.lo w.hi ≡ true) rule.0 rule.1
kept_window world v _ rule below = below

pub kept_given : (world : World) (v : View) (it : Step) → apply (shape_at world v) (kept world v it) ≡ apply (shape_at world v) it
kept_given world v (step.Within order range) = refl
kept_given world v _ = refl

pub kept_rule : (world : World) (v : View) (it : Step) → IsInOrder world v → argument_refusal world v it ≡ None → IsKept world v (kept world v it)
kept_rule world v (step.Within order range) below fits =
    let window = resulting-inside (order_at world v) (window_at v) range below (let_through (takes_range (order_at world v) (window_at v) range) IllegalArgument fits) in
    (refl, window.in_order, inside-encloses (order_at world v) (window_at v) (resulting (window_at v) range) window)
kept_rule world v _ below fits = tt

pub kept_length : (world : World) (v : View) (it : Step) → steps_in (kept world v it) ≡ steps_in it
kept_length world v (step.Within order range) = refl
kept_length world v _ = refl

-- the rule stays while the order does
pub rule_stays : (before after : World) (v : View) (it : Step) → order_at after v ≡ order_at before v → IsKept before v it → IsKept after v it
rule_stays before after v (step.Within order w) e rule = (rule.0 ∙ sym e, rule.1, rule.2)
rule_stays before after v _ e rule = tt
