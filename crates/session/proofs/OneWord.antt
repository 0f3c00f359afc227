-- A word that stands alone: what it leads to is told by itself.
use Rattle.std.proofs.Common.{◌≡◌, ℕ, ◌<◌, ◌≤◌, true, List, [], ◌∷◌, length, get_or, Option, Result, Ok, Err, sym, ◌∙◌, ap, subst, arith}
use Rattle.base_store.specs.Stored.{Stored, view_in}
use Rattle.script_text.specs.declared.lines.Part.{Part as Placed}
use Rattle.script_text.specs.Parts.{part_in}
use Rattle.session.specs.declared.faults.ExecFault.{ExecFault}
use Rattle.session.specs.declared.typing.Typed.{Typed}
use Rattle.session.specs.Coming.{Came}
use Rattle.session.specs.Environment.{Entries, named}
use Rattle.session.specs.Following.{meaning_in, meant_in, parts_in, target_in}
use Rattle.session.specs.Targets.{Target, concluded, leads}
use Rattle.session.proofs.FollowLemmas.{on_end, on_fault}
use Rattle.vocabulary.specs.declared.lines.Fault.{Fault}
use Rattle.vocabulary.specs.declared.lines.Purpose.TheVariants.{Reply}
use Rattle.vocabulary.specs.declared.shapes.Shape.{Shape}
use Rattle.machine.specs.Calling.{ended}
use Rattle.machine.specs.Languages.{known}
use Rattle.machine.specs.Meanings.{Ending, ends, typed_word}
use Rattle.machine.specs.Parts.{text_at}
use Rattle.machine.specs.Views.{View, shape_at}

pub one_part : (line : List ℕ) (ps : List Placed) (part : Placed) → 1 ≤ length ps → length ps < 2 → part ≡ get_or ps 0 part → parts_in line ps ≡ part_in line part ∷ []
one_part line [] part le lt e = absurd (omega arith)
one_part line (p ∷ []) part le lt e = ap (λ (x : Placed). part_in line x ∷ []) (sym e)
one_part line (p ∷ q ∷ ps) part le lt e = absurd (omega arith)

-- a word that was typed on the view of a node
module _ (names : Entries) (s : Stored) (node : ℕ) (line : List ℕ) (parts : List Placed) (part : Placed) (on : Shape) (r : Result Typed Fault) (lone : parts_in line parts ≡ part_in line part ∷ []) (shape : on ≡ shape_at s.world (view_in s node)) (meant : meant_in s (text_at (part_in line part).args 0) r ≡ typed_word known s.world (named s.nodes names) Reply true on (part_in line part)) where
  word_is : (it : Result Typed Fault) → r ≡ it → typed_word known s.world (named s.nodes names) Reply true (shape_at s.world (view_in s node)) (part_in line part) ≡ meant_in s (text_at (part_in line part).args 0) it
  word_is it e = ap (λ (of : Shape). typed_word known s.world (named s.nodes names) Reply true of (part_in line part)) (sym shape) ∙ sym meant ∙ ap (meant_in s (text_at (part_in line part).args 0)) e

  pub call_led : (it : Typed) (ending : Ending) → r ≡ Ok it → meaning_in s (text_at (part_in line part).args 0) it ≡ Ok (ends ending) → target_in s s.handles names Reply node (parts_in line parts) ≡ Ok (leads (view_in s node) ending)
  call_led it ending e is = ap (target_in s s.handles names Reply node) lone ∙ on_end names Reply s s.handles node (part_in line part) [] ending (word_is (Ok it) e ∙ is)

  pub fault_led : (fault : Fault) → r ≡ Err fault → target_in s s.handles names Reply node (parts_in line parts) ≡ Err fault
  fault_led fault e = ap (target_in s s.handles names Reply node) lone ∙ on_fault names Reply s s.handles node (part_in line part) [] fault (word_is (Err fault) e)

-- what came of the call there
pub came_ended : {r : Result (Unit {0}) ExecFault} {t u : Option (List ℕ)} {f g : ℕ} (s now : Stored) (v : View) (ending : Ending) (led : Result Target Fault) → led ≡ Ok (leads v ending) → Came r s now (λ state. ended state ending v) t u f g
    → Came r s now (λ state. concluded state led) t u f g
came_ended {r} {t} {u} {f} {g} s now v ending led is h = subst (λ (x : Result Target Fault). Came r s now (λ state. concluded state x) t u f g) (sym is) h
