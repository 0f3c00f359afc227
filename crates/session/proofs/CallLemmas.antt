-- What a call says and what it leaves of the store, as the outcome of a line.
use Rattle.std.proofs.Common.{◌≡◌, ◌≢◌, ℕ, ◌+◌, ◌≤◌, Bool, true, false, List, [], ◌∷◌, ◌++◌, Option, None, Some, Result, Ok, Err, refl, sym, ◌∙◌, ap, subst, arith}
use Rattle.base_store.specs.Stored.{Stored, with_world}
use Rattle.elem.specs.Outside.{Stays}
use Rattle.vocabulary.specs.declared.answers.Answer.{Answer}
use Rattle.vocabulary.specs.declared.refusals.Refusal.{Refusal}
use Rattle.vocabulary.specs.declared.refusals.Refusal.TheVariants as refusal
use Rattle.machine.specs.Answering.{Answered}
use Rattle.machine.specs.Texts.{answer_text}
use Rattle.machine.specs.RowCounts.{ChangesUpTo}
use Rattle.vocabulary.specs.Refusals.{name_of}
use Rattle.machine.specs.Bases.{Base, World}
use Rattle.machine.specs.Calling.{replied}
use Rattle.machine.specs.Outcomes.{Outcome, says}
use Rattle.machine.specs.State.{Bound, Names, State, in_names, over_views, to_iterator, to_view, written_through}
use Rattle.machine.specs.Sublists.{refreshed, refreshed_step}
use Rattle.machine.specs.Views.{View, base, both, over, root}
use Rattle.vocabulary.specs.declared.steps.Step.{Step}
use Rattle.vocabulary.specs.declared.steps.Step.TheVariants.{Sub, Piece}
use Rattle.view_steps.specs.KnownViews.{is_known_view}
use Rattle.view_steps.proofs.KnownLemmas.{no_sublists}
use Rattle.write_chain.specs.Calls.{Came as Answers}
use Rattle.session.specs.declared.faults.ExecFault.{ExecFault}
use Rattle.session.specs.declared.faults.ExecFault.TheVariants.{WriteFault, NoMemory}
use Rattle.session.specs.Coming.{Came, seen_as}
use Rattle.session.specs.Executing.{Does, Executed}
use Rattle.session.specs.Later.{AreLater}
use Rattle.session.specs.Replying.{Refuses, Said, Tells, Wrote}
use Rattle.session.proofs.LaterLemmas.{same_bases}

-- ---- a write through a known view, which has no sublists on its path

same_step : (before after : Base) (it : Step) → refreshed_step [] before after it ≡ it
same_step before after (Sub n s) = refl
same_step before after (Piece n s) = refl
same_step before after _ = refl

same_view : (before after : Base) (v : View) → refreshed [] before after v ≡ v
same_view before after (base l) = refl
same_view before after (over it v) = λ i. over (same_step before after it i) (same_view before after v i)
same_view before after (both word v u) = λ i. both word (same_view before after v i) (same_view before after u i)

same_bound : (before after : Base) (it : Bound) → over_views (refreshed [] before after) it ≡ it
same_bound before after (to_view v) = ap to_view (same_view before after v)
same_bound before after (to_iterator it) = λ i. to_iterator (record { view = same_view before after it.view i; seen = it.seen; passed = it.passed; given = it.given })

same_names : (before after : Base) (names : Names) → in_names (refreshed [] before after) names ≡ names
same_names before after [] = refl
same_names before after (e ∷ names) = λ i. (e.0, same_bound before after e.1 i) ∷ same_names before after names i

-- the state with other bases
abbrev pub with_bases : State → World → State
with_bases state world = record { bases = world; names = state.names; handles = state.handles }

pub written_known : (state : State) (v : View) (world : World) → is_known_view v ≡ true → with_bases state world ≡ written_through state v world
written_known state v world h =
    ap (λ (names : Names). record { bases = world; names = names; handles = state.handles })
    (sym (ap (λ (numbers : List ℕ). in_names (refreshed numbers (root state.bases v) (root world v)) state.names) (no_sublists v h) ∙ same_names (root state.bases v) (root world v) state.names))

-- the answer is the reply, or the name of the refusal
abbrev pub told_of : State → Bool → Answered → Outcome
told_of state memory (Ok done) = record { reply = Some (answer_text done.0); after = with_bases state done.1; memory = memory }
told_of state memory (Err why) = record { reply = Some (name_of why); after = state; memory = memory }

-- as a known view replies
pub replied_known : (state : State) (v : View) (memory : Bool) (done : Answered) → is_known_view v ≡ true → told_of state memory done ≡ replied state v memory done
replied_known state v memory (Ok done) h = ap (λ (after : State). record { reply = Some (answer_text done.0); after = after; memory = memory }) (written_known state v done.1 h)
replied_known state v memory (Err why) h = refl

-- ---- replies

-- change numbers that are up to n are up to n + 1
pub calm_on : (n : ℕ) (world : World) → ChangesUpTo n world → ChangesUpTo (n + 1) world
calm_on n [] h = tt
calm_on n (it ∷ world) h = let first : it.change ≤ n = h.0 in (omega arith, calm_on n world h.1)

-- what was told is still told
pub stays : (t : Option (List ℕ)) → Stays t t
stays None = tt
stays (Some told) = refl

-- what a line does whose reply was said
pub does_said : (r : Result (Unit {0}) ExecFault) (t u : Option (List ℕ)) (before now after : State) (text : List ℕ) (memory : Bool) → r ≢ Err NoMemory → now ≡ after → Wrote r t u (text ++ 10 ∷ []) → Does r before now (record { reply = Some text; after = after; memory = memory }) t u
does_said (Ok x) t u before now after text m memory e w = (e, w)
does_said (Err WriteFault) t u before now after text m memory e w = w
does_said (Err NoMemory) t u before now after text m memory e w = absurd (memory refl)

-- no change number rises by more than one
abbrev pub IsCalm : World → World → Type 0
IsCalm before now = (n : ℕ) → ChangesUpTo n before → ChangesUpTo (n + 1) now

module _ {r : Result (Unit {0}) ExecFault} {t u : Option (List ℕ)} {f g : ℕ} where
  -- a reply, and other bases
  pub came_with : (s now : Stored) (world : World) (outcome : State → Outcome) (text : List ℕ) (memory : Bool) → now ≡ with_world s world → IsCalm s.world now.world → AreLater s.world now.world
      → ((names : Names) → (let o : Outcome = record { reply = Some text; after = with_bases (seen_as s names) world; memory = memory } in o) ≡ outcome (seen_as s names)) → Said r t u f g (text ++ 10 ∷ []) → Came r s now outcome t u f g
  came_with s now world outcome text memory e calm later is said = record {
    nodes = ap (λ (x : Stored). x.nodes) e;
    lasting = ap (λ (x : Stored). x.lasting) e;
    handles = ap (λ (x : Stored). x.handles) e;
    later = later;
    executed = λ names. subst (λ (o : Outcome). Executed r (seen_as s names) (seen_as now names) o t u f g) (is names) (record {
      does = does_said r t u (seen_as s names) (seen_as now names) (with_bases (seen_as s names) world) text memory said.memory (ap (λ (x : Stored). seen_as x names) e) said.wrote;
      changes = calm;
      later = said.later;
      cause = said.cause;
    });
  }

  -- a reply that changes nothing, and before which memory may run out or may not
  pub came_unchanged : (s now : Stored) (outcome : State → Outcome) (text : List ℕ) (memory : Bool) → now ≡ s → ((names : Names) → (let o : Outcome = record { reply = Some text; after = seen_as s names; memory = memory } in o) ≡ outcome (seen_as s names)) → Said r t u f g (text ++ 10 ∷ []) → Came r s now outcome t u f g
  came_unchanged s now outcome text memory e is said = came_with s now s.world outcome text memory e (λ n h. subst (λ (x : Stored). ChangesUpTo (n + 1) x.world) (sym e) (calm_on n s.world h)) (same_bases s.world now.world (ap (λ (x : Stored). x.world) e)) is said

  pub came_said : (s now : Stored) (outcome : State → Outcome) (text : List ℕ) → now ≡ s → ((names : Names) → says (seen_as s names) text ≡ outcome (seen_as s names)) → Said r t u f g (text ++ 10 ∷ []) → Came r s now outcome t u f g
  came_said s now outcome text e is said = came_unchanged s now outcome text false e is said

-- want of memory leaves all as it was
pub came_no_memory : (s now : Stored) (outcome : State → Outcome) (t : Option (List ℕ)) (f : ℕ) → now ≡ s → ((names : Names) → (outcome (seen_as s names)).memory ≡ true) → Came {T = Unit {0}} (Err NoMemory) s now outcome t t f f
came_no_memory s now outcome t f e wants = record {
  nodes = ap (λ (x : Stored). x.nodes) e;
  lasting = ap (λ (x : Stored). x.lasting) e;
  handles = ap (λ (x : Stored). x.handles) e;
  later = same_bases s.world now.world (ap (λ (x : Stored). x.world) e);
  executed = λ names. record {
    does = (ap (λ (x : Stored). seen_as x names) e, stays t, wants names);
    changes = λ n h. subst (λ (x : Stored). ChangesUpTo (n + 1) x.world) (sym e) (calm_on n s.world h);
    later = omega arith;
    cause = λ q. cc;
  };
}

-- the same, as a refusal
pub came_silent : {r : Result (Unit {0}) ExecFault} {t u : Option (List ℕ)} {f g : ℕ} (s now : Stored) (outcome : State → Outcome) → now ≡ s → ((names : Names) → (outcome (seen_as s names)).memory ≡ true) → Refuses refusal.NoMemory r t u f g → Came r s now outcome t u f g
came_silent {r} {t} {u} {f} {g} s now outcome e wants said =
    subst (λ (x : Result (Unit {0}) ExecFault). Came x s now outcome t u f g) (sym said.0)
    (subst (λ (x : Option (List ℕ)). Came {T = Unit {0}} (Err NoMemory) s now outcome t x f g) (sym said.1) (subst (λ (x : ℕ). Came {T = Unit {0}} (Err NoMemory) s now outcome t t f x) (sym said.2) (came_no_memory s now outcome t f e wants)))

-- a reply to a call tells whether memory may have run out in its place
told-memory : (state : State) (memory : Bool) (done : Answered) → (told_of state memory done).memory ≡ memory
told-memory state memory (Ok done) = refl
told-memory state memory (Err why) = refl

module _ {r : Result (Unit {0}) ExecFault} {t u : Option (List ℕ)} {f g : ℕ} where
  came_refused : (why : Refusal) (s now : Stored) (outcome : State → Outcome) (memory : Bool) (done : Answered) → Answers (Err why) s now done → ((names : Names) → told_of (seen_as s names) memory done ≡ outcome (seen_as s names))
      → (why ≡ refusal.NoMemory → memory ≡ true) → Refuses why r t u f g → Came r s now outcome t u f g
  came_refused refusal.NoMemory s now outcome memory done answers is wants said = came_silent s now outcome answers.0 (λ names. sym (ap (λ (o : Outcome). o.memory) (is names)) ∙ told-memory (seen_as s names) memory done ∙ wants refl) said
  came_refused why s now outcome memory done answers is wants said =
      came_unchanged s now outcome (name_of why) memory answers.0 (λ names. ap (told_of (seen_as s names) memory) (sym answers.1) ∙ is names) said

  -- what was said of what a call answered
  pub came_told : (answer : Result Answer Refusal) (s now : Stored) (outcome : State → Outcome) (memory : Bool) (done : Answered) → Answers answer s now done → IsCalm s.world now.world → AreLater s.world now.world → ((names : Names) → told_of (seen_as s names) memory done ≡ outcome (seen_as s names))
      → (answer ≡ Err refusal.NoMemory → memory ≡ true) → Tells answer r t u f g → Came r s now outcome t u f g
  came_told (Ok answer) s now outcome memory (Ok done) answers calm later is wants said =
      came_with s now done.1 outcome (answer_text answer) memory answers.1 calm later (λ names. ap (λ (a : Answer). let o : Outcome = record { reply = Some (answer_text a); after = with_bases (seen_as s names) done.1; memory = memory } in o) answers.0 ∙ is names) said
  came_told (Ok answer) s now outcome memory (Err why) answers calm later is wants said = absurd answers
  came_told (Err why) s now outcome memory done answers calm later is wants said = came_refused why s now outcome memory done answers is (λ e. wants (ap (λ (w : Refusal). Err w) e)) said
