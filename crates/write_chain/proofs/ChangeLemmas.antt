-- Change numbers: what a call leaves of them.
use Rattle.std.proofs.Common.{ℕ, ◌+◌, Bool, true, false, cond, Option, Some, None, sym, subst, nat_lt}
use Rattle.std.specs.Prelude.{Result, Ok, Err}
use Rattle.base_store.specs.Stored.{Stored}
use Rattle.vocabulary.specs.declared.answers.Answer.{Answer}
use Rattle.vocabulary.specs.declared.refusals.Refusal.{Refusal}
use Rattle.vocabulary.specs.declared.refusals.Refusal.TheVariants.{IllegalArgument, Limit}
use Rattle.machine.specs.Answering.{unless_refused}
use Rattle.machine.specs.Edits.{Edit, takes_edit}
use Rattle.view_steps.specs.KnownViews.{edited_at, number_under}
use Rattle.machine.specs.RowCounts.{ChangesUpTo, rows_in}
use Rattle.vocabulary.specs.Limits.{most_rows}
use Rattle.machine.specs.Bases.{World, base_at}
use Rattle.machine.specs.Views.{View}
use Rattle.write_chain.specs.Calls.{Came, left}
use Rattle.view_steps.proofs.ChangeLemmas.{up, edited_base}

limited : (most : ℕ) (before now : Stored) (answer a : Answer) (world : World) (taken many : Bool) → ChangesUpTo (most + 1) world → Came (Ok answer) before now (cond taken (cond many (Err Limit) (Ok (a, world))) (Err IllegalArgument)) → ChangesUpTo (most + 1) now.world
limited most before now answer a world true true h came = absurd came
limited most before now answer a world true false h came = subst (λ (s : Stored). ChangesUpTo (most + 1) s.world) (sym came.1) h
limited most before now answer a world false many h came = absurd came

carried : (most : ℕ) (before now : Stored) (v : View) (answer a : Answer) (edit : Option Edit) → ChangesUpTo most before.world → Came (Ok answer) before now (left before.world v a edit) → ChangesUpTo (most + 1) now.world
carried most before now v answer a None h came = subst (λ (s : Stored). ChangesUpTo (most + 1) s.world) (sym came.1) (up most before.world h)
carried most before now v answer a (Some edit) h came =
    let w : World = edited_at before.world (number_under v) edit in
    limited most before now answer a w (takes_edit (base_at before.world (number_under v)) edit) (nat_lt most_rows (rows_in w)) (edited_base most before.world (number_under v) edit h) came

-- no change number rises by more than one in a call
pub came_changes : (result : Result Answer Refusal) (before now : Stored) (why : Option Refusal) (v : View) (a : Answer) (edit : Option Edit) → Came result before now (unless_refused why (left before.world v a edit))
    → (most : ℕ) → ChangesUpTo most before.world → ChangesUpTo (most + 1) now.world
came_changes (Ok answer) before now None v a edit came = λ most h. carried most before now v answer a edit h came
came_changes (Ok answer) before now (Some why) v a edit came = absurd came
came_changes (Err err) before now why v a edit came = λ most h. subst (λ (s : Stored). ChangesUpTo (most + 1) s.world) (sym came.0) (up most before.world h)
