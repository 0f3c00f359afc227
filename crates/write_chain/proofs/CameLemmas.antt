-- When what a call gave and left is what was defined.
use Rattle.std.proofs.Common.{◌≡◌, ◌⊎◌, inl, inr, ℕ, ◌<◌, ◌≤◌, Bool, true, false, cond, refl, sym, ap, ◌∙◌, subst, arith, nat_lt}
use Rattle.std.specs.Prelude.{Ok, Err, Some}
use Rattle.std.proofs.lemmas.Bool.Decides.{nat_tests}
use Rattle.base_store.specs.RowFaults.{IsRowFault}
use Rattle.base_store.specs.Stored.{Stored, with_world}
use Rattle.vocabulary.specs.declared.answers.Answer.{Answer}
use Rattle.vocabulary.specs.declared.refusals.Refusal.{Refusal}
use Rattle.vocabulary.specs.declared.refusals.Refusal.TheVariants.{IllegalArgument, Limit, NoMemory}
use Rattle.machine.specs.Answering.{Answered, within_rows}
use Rattle.machine.specs.RowCounts.{rows_in}
use Rattle.vocabulary.specs.Limits.{most_rows}
use Rattle.machine.specs.Bases.{World, base_at}
use Rattle.machine.specs.Edits.{Edit, takes_edit}
use Rattle.machine.specs.Views.{View}
use Rattle.view_steps.specs.KnownViews.{edited_at, number_under}
use Rattle.write_chain.specs.Calls.{Came, left}

abbrev over_limit : Answer → World → Bool → Answered
over_limit answer world b = cond b (Err Limit) (Ok (answer, world))

too_many : (answer : Answer) (world : World) → most_rows < rows_in world → within_rows answer world ≡ Err Limit
too_many answer world h = let e : nat_lt most_rows (rows_in world) ≡ true = grind (arith, nat_tests) in ap (over_limit answer world) e

pub few_enough : (answer : Answer) (world : World) → rows_in world ≤ most_rows → within_rows answer world ≡ Ok (answer, world)
few_enough answer world h = let e : nat_lt most_rows (rows_in world) ≡ false = grind (arith, nat_tests) in ap (over_limit answer world) e

-- what was left is a store with these bases, which have no more rows than there may be
pub came_ok : (s now : Stored) (answer : Answer) (world : World) → now ≡ with_world s world → rows_in now.world ≤ most_rows → Came (Ok answer) s now (within_rows answer world)
came_ok s now answer world e few =
    let fits : rows_in world ≤ most_rows = subst (λ (w : Stored). rows_in w.world ≤ most_rows) e few in
    subst (Came (Ok answer) s now) (sym (few_enough answer world fits)) (refl, e)

-- ---- an edit of the base under a view

-- that its base takes, and that it does not
pub left_taken : (world : World) (v : View) (answer : Answer) (edit : Edit) → takes_edit (base_at world (number_under v)) edit ≡ true → left world v answer (Some edit) ≡ within_rows answer (edited_at world (number_under v) edit)
left_taken world v answer edit taken = ap (λ b. cond b (within_rows answer (edited_at world (number_under v) edit)) (Err IllegalArgument)) taken

left_refused : (world : World) (v : View) (answer : Answer) (edit : Edit) → takes_edit (base_at world (number_under v)) edit ≡ false → left world v answer (Some edit) ≡ Err IllegalArgument
left_refused world v answer edit refused = ap (λ b. cond b (within_rows answer (edited_at world (number_under v) edit)) (Err IllegalArgument)) refused

-- it was carried out, on the base of a number
pub came_placed : (s now : Stored) (v : View) (answer : Answer) (b : ℕ) (edit done : Edit) → b ≡ number_under v → done ≡ edit → takes_edit (base_at s.world b) done ≡ true → now ≡ with_world s (edited_at s.world b done) → rows_in now.world ≤ most_rows
    → Came (Ok answer) s now (left s.world v answer (Some edit))
came_placed s now v answer b edit done base same taken e few =
    subst (Came (Ok answer) s now) (sym (left_taken s.world v answer edit (sym (λ i. takes_edit (base_at s.world (base i)) (same i)) ∙ taken)))
    (came_ok s now answer (edited_at s.world (number_under v) edit) (e ∙ (λ i. with_world s (edited_at s.world (base i) (same i)))) few)

stopped : (s now : Stored) (v : View) (answer : Answer) (edit : Edit) (why : Refusal) → now ≡ s → IsRowFault s.world (number_under v) edit why → Came (Err why) s now (left s.world v answer (Some edit))
stopped s now v answer edit IllegalArgument e fault = (e, left_refused s.world v answer edit fault)
stopped s now v answer edit Limit e fault = (e, left_taken s.world v answer edit fault.0 ∙ too_many answer (edited_at s.world (number_under v) edit) fault.1)
stopped s now v answer edit NoMemory e fault = (e, tt)
stopped s now v answer edit _ e fault = absurd fault

-- or it was not, for a cause that the base tells
pub came_stopped : (s now : Stored) (v : View) (answer : Answer) (b : ℕ) (edit done : Edit) (why : Refusal) → b ≡ number_under v → done ≡ edit → now ≡ s → IsRowFault s.world b done why → Came (Err why) s now (left s.world v answer (Some edit))
came_stopped s now v answer b edit done why base same e fault = stopped s now v answer edit why e (subst (λ (at : ℕ × Edit). IsRowFault s.world at.0 at.1 why) (λ i. (base i, same i)) fault)

-- ---- rows that a base takes

-- nothing changed for want of room or of memory
pub came_err : (s now : Stored) (why : Refusal) (answer : Answer) (world : World) → now ≡ s → ((why ≡ Limit) × (most_rows < rows_in world)) ⊎ (why ≡ NoMemory) → Came (Err why) s now (within_rows answer world)
came_err s now why answer world e cause =
    elim cause [
      | inl full ↦ subst (λ w. Came (Err w) s now (within_rows answer world)) (sym full.0) (e, too_many answer world full.1)
      | inr none ↦ subst (λ w. Came (Err w) s now (within_rows answer world)) (sym none) (e, tt)
    ]
