-- An expression that was followed to its end, and what was done there.
use Rattle.std.proofs.Common.{◌≡◌, ℕ, List, [], ◌∷◌, ◌++◌, length, take, Option, None, Some, Result, Ok, Err, refl, sym, ◌∙◌, ap, subst}
use Rattle.std.specs.Result.{IsOk}
use Rattle.base_store.specs.Stored.{Stored, view_in, without_temporary}
use Rattle.session.specs.declared.faults.ExecFault.{ExecFault}
use Rattle.session.specs.declared.following.End.{End}
use Rattle.session.specs.Coming.{Came, seen_as}
use Rattle.session.specs.Executing.{Executed}
use Rattle.session.specs.Later.{AreLater}
use Rattle.session.specs.Following.{end_in}
use Rattle.session.specs.Targets.{Target, concluded, leads, reach, shape_of, stops}
use Rattle.session.specs.Replying.{Said}
use Rattle.session.proofs.CallLemmas.{came_said}
use Rattle.vocabulary.specs.declared.refusals.Refusal.{Refusal}
use Rattle.vocabulary.specs.Refusals.{name_of}
use Rattle.vocabulary.specs.declared.lines.Fault.{Fault}
use Rattle.vocabulary.specs.declared.shapes.Shape.{Shape}
use Rattle.machine.specs.Bases.{World}
use Rattle.machine.specs.Calling.{unless_refused}
use Rattle.machine.specs.Meanings.{shows}
use Rattle.machine.specs.Outcomes.{fault_text, says}
use Rattle.machine.specs.Reading.{reading_refusal}
use Rattle.machine.specs.State.{Names, State}
use Rattle.machine.specs.Typing.{Typing}
use Rattle.machine.specs.Views.{View}
use Rattle.machine.specs.ViewTexts.{text_of}

pub take_whole : {X : Type 0} (xs : List X) → take (length xs) xs ≡ xs
take_whole [] = refl
take_whole (x ∷ xs) = ap (λ ys. x ∷ ys) (take_whole xs)

-- the fault of words is what they lead to
pub fault_reached : (world : World) (number : ℕ) (view : View) (t : Result Typing Fault) (fault : Fault) → Err fault ≡ shape_of t → reach world number view t ≡ Err fault
fault_reached world number view (Ok t) fault e = cc
fault_reached world number view (Err why) fault e = let same : fault ≡ why = cc in ap (λ (x : Fault). Err x) (sym same)

pub no_fault : (t : Result Typing Fault) (of : Shape) → Ok of ≡ shape_of t → IsOk t
no_fault (Ok t) of e = refl
no_fault (Err why) of e = cc

module _ {r : Result (Unit {0}) ExecFault} {t u : Option (List ℕ)} {f g : ℕ} where
  pub came_fault : (s : Stored) (led : Result Target Fault) (fault : Fault) → led ≡ Err fault → Said r t u f g (fault_text fault ++ 10 ∷ []) → Came r s s (λ state. concluded state led) t u f g
  came_fault s led fault e said = came_said s s (λ state. concluded state led) (fault_text fault) refl (λ names. ap (concluded (seen_as s names)) (sym e)) said

  pub came_shown : (s : Stored) (n : ℕ) → reading_refusal s.world (view_in s n) ≡ None → Said r t u f g (text_of s.world (view_in s n) ++ 10 ∷ []) → Came r s s (λ state. concluded state (Ok (leads (view_in s n) shows))) t u f g
  came_shown s n read said =
      came_said s s (λ state. concluded state (Ok (leads (view_in s n) shows))) (text_of s.world (view_in s n)) refl
      (λ names. ap (λ (o : Option Refusal). unless_refused (seen_as s names) o (says (seen_as s names) (text_of s.world (view_in s n)))) (sym read)) said

  pub came_refused : (s : Stored) (refusal : Refusal) → Said r t u f g (name_of refusal ++ 10 ∷ []) → Came r s s (λ state. concluded state (Ok (stops refusal))) t u f g
  came_refused s refusal said = came_said s s (λ state. concluded state (Ok (stops refusal))) (name_of refusal) refl (λ names. refl) said

  pub came_to : (s now : Stored) (it other : Target) → it ≡ other → Came r s now (λ state. concluded state (Ok it)) t u f g → Came r s now (λ state. concluded state (Ok other)) t u f g
  came_to s now it other e h = subst (λ (x : Target). Came r s now (λ state. concluded state (Ok x)) t u f g) e h

  -- what was done at the end, seen from the beginning
  pub came_back : (s led done now : Stored) (target : Result Target Fault) (end : Result End Refusal) → length s.nodes ≡ s.lasting → led.world ≡ s.world → without_temporary led ≡ without_temporary s
      → target ≡ Ok (end_in led end) → Came r led done (λ state. concluded state (Ok (end_in led end))) t u f g → now ≡ without_temporary done → Came r s now (λ state. concluded state target) t u f g
  came_back s led done now target end still world front reached h dropped = record {
    nodes = ap (λ (x : Stored). x.nodes) dropped ∙ ap (λ (n : ℕ). take n done.nodes) h.lasting ∙ ap (take led.lasting) h.nodes ∙ ap (λ (x : Stored). x.nodes) front ∙ ap (λ (n : ℕ). take n s.nodes) (sym still) ∙ take_whole s.nodes;
    lasting = ap (λ (x : Stored). x.lasting) dropped ∙ h.lasting ∙ ap (λ (x : Stored). x.lasting) front;
    handles = ap (λ (x : Stored). x.handles) dropped ∙ h.handles ∙ ap (λ (x : Stored). x.handles) front;
    later = subst (λ (w : World). AreLater w now.world) world (subst (AreLater led.world) (sym (ap (λ (x : Stored). x.world) dropped)) h.later);
    executed = λ names.
        subst (λ (after : State). Executed r (seen_as s names) after (concluded (seen_as s names) target) t u f g) (sym (after names))
        (subst (λ (it : Result Target Fault). Executed r (seen_as s names) (seen_as done names) (concluded (seen_as s names) it) t u f g) (sym reached)
        (subst (λ (before : State). Executed r before (seen_as done names) (concluded before (Ok (end_in led end))) t u f g) (before names) (h.executed names)));
  }
    where
      before : (names : Names) → seen_as led names ≡ seen_as s names
      before names = λ i. record { bases = world i; names = names; handles = (ap (λ (x : Stored). x.handles) front) i }

      after : (names : Names) → seen_as now names ≡ seen_as done names
      after names = ap (λ (x : Stored). seen_as x names) dropped
