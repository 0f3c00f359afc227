-- Views as they are made: their windows are in order, and they stay while the kinds of bases do.
use Rattle.std.proofs.lemmas.Bool.Decides.{nat_tests}
use Rattle.std.proofs.Common.{arith, ◌≡◌, ℕ, ◌<◌, true, refl, ap, sym, subst}
use Rattle.std.specs.Prelude.{nat_lt, Option, Some, None, IsSome}
use Rattle.vocabulary.specs.declared.shapes.Shape.{Shape}
use Rattle.vocabulary.specs.declared.steps.Step.{Step}
use Rattle.vocabulary.specs.Kinds.{shape_of_kind, order_of_kind}
use Rattle.vocabulary.specs.StepShapes.{apply}
use Rattle.machine.specs.KeptSteps.{order_at, kept}
use Rattle.machine.specs.Making.{argument_refusal, path_refusal, step_refusal}
use Rattle.machine.specs.Reading.{first_refusal}
use Rattle.vocabulary.specs.Limits.{longest_path}
use Rattle.machine.specs.MadeViews.{IsMade, IsStepOn}
use Rattle.machine.specs.Bases.{World}
use Rattle.machine.specs.Leaves.{leaf_at}
use Rattle.view_steps.specs.KnownViews.{is_known, is_known_view}
use Rattle.machine.specs.Views.{View, base, both, over, shape_at, shape_after, base_under, path}
use Rattle.vocabulary.specs.declared.refusals.Refusal.{Refusal}
use Rattle.vocabulary.specs.declared.refusals.Refusal.TheVariants.{Limit}
use Rattle.view_steps.proofs.KeptTable.{IsInOrder, kept_given, kept_length, kept_rule, kept_window, let_through, rule_stays}
use Rattle.view_steps.proofs.KnownLemmas.{known_over}
use Rattle.view_steps.proofs.PathTable.{one_step}

-- ---- steps that are not refused

pub window_in_order : (world : World) (v : View) → IsMade world v → IsInOrder world v
window_in_order world (base l) made = refl
window_in_order world (over it v) made = kept_window world v it made.0.kept (window_in_order world v made.1)
window_in_order world (both word v u) made = refl

not_refused : (a b : Option Refusal) → first_refusal a b ≡ None → (a ≡ None) × (b ≡ None)
not_refused None b h = (refl, h)
not_refused (Some why) b h = cc

step_on : (world : World) (v : View) (it : Step) → is_known it ≡ true → IsMade world v → IsSome (apply (shape_at world v) it) → argument_refusal world v it ≡ None → path v < longest_path → IsStepOn world v (kept world v it)
step_on world v it known made given fits short =
    record {
      given = subst IsSome (sym (kept_given world v it)) given;
      kept = kept_rule world v it (window_in_order world v made) fits;
      short = omega (arith, short, kept_length world v it, one_step it known);
    }

less : (m n : ℕ) → nat_lt m n ≡ true → m < n
less m n h = grind (arith, nat_tests)

pub kept_made : (world : World) (v : View) (it : Step) → is_known it ≡ true → IsMade world v → IsSome (apply (shape_at world v) it) → step_refusal world v it ≡ None → IsMade world (over (kept world v it) v)
kept_made world v it known made given h =
    let parts = not_refused (argument_refusal world v it) (path_refusal v) h in
    let short : path v < longest_path = less (path v) longest_path (let_through (nat_lt (path v) longest_path) Limit parts.1) in
    (step_on world v it known made given parts.0 short, made)

-- ---- views while the kinds of bases stay

shape_stays : (before after : World) (v : View) → is_known_view v ≡ true → (leaf_at after (base_under v)).kind ≡ (leaf_at before (base_under v)).kind → shape_at after v ≡ shape_at before v
shape_stays before after (base l) known e = ap shape_of_kind e
shape_stays before after (over it v) known e = ap (λ of. shape_after of (apply of it)) (shape_stays before after v (known_over it v known).1 e)
shape_stays before after (both word v u) known e = absurd (cc)

made_stays : (before after : World) (v : View) → is_known_view v ≡ true → (leaf_at after (base_under v)).kind ≡ (leaf_at before (base_under v)).kind → IsMade before v → IsMade after v
made_stays before after (base l) known e made = tt
made_stays before after (over it v) known e made =
    let below : is_known_view v ≡ true = (known_over it v known).1 in (
      record {
        given = subst (λ (of : Shape). IsSome (apply of it)) (sym (shape_stays before after v below e)) made.0.given;
        kept = rule_stays before after v it (ap order_of_kind e) made.0.kept;
        short = made.0.short;
      },
      made_stays before after v below e made.1,
    )
made_stays before after (both word v u) known e made = absurd (cc)

pub view_stays : (before after : World) (v : View) → is_known_view v ≡ true → (leaf_at after (base_under v)).kind ≡ (leaf_at before (base_under v)).kind → IsMade before v
    → IsMade after v × (shape_at after v ≡ shape_at before v) × (order_at after v ≡ order_at before v)
view_stays before after v known e made = (made_stays before after v known e made, shape_stays before after v known e, ap order_of_kind e)
