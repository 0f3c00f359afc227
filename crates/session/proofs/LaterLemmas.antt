-- Bases at a later time: after an edit of one of them, and after a call.
use Rattle.std.proofs.Common.{◌≡◌, ℕ, ◌+◌, ◌<◌, ◌≤◌, Bool, true, false, cond, [], ◌∷◌, ◌++◌, length, set, Option, None, Some, Result, Ok, Err, IfSome, nat_lt, refl, sym, ap, subst, inl, inr, arith, length-append, length-set}
use Rattle.std.specs.List.{AllByRecursion}
use Rattle.std.proofs.lemmas.Bool.{cases_eq}
use Rattle.std.proofs.lemmas.List.{get_or-set_other}
use Rattle.base_store.specs.Stored.{Stored, with_world}
use Rattle.cursor_seat.specs.Later.{IsLater, IsSpotFor}
use Rattle.cursor_seat.proofs.EditLemmas.{edit_leaves}
use Rattle.machine.specs.Answering.{unless_refused}
use Rattle.machine.specs.Bases.{Base, World, base_at, empty_base}
use Rattle.machine.specs.Edits.{Edit, edited, takes_edit}
use Rattle.machine.specs.RowCounts.{rows_in}
use Rattle.machine.specs.Views.{View}
use Rattle.session.specs.Later.{AreLater}
use Rattle.view_steps.specs.KnownViews.{edited_at, number_under}
use Rattle.view_steps.proofs.WorldLemmas.{more_at, written_at}
use Rattle.vocabulary.specs.declared.answers.Answer.{Answer}
use Rattle.vocabulary.specs.declared.kinds.Kind.TheVariants.{LinkedHashMap}
use Rattle.vocabulary.specs.declared.refusals.Refusal.{Refusal}
use Rattle.vocabulary.specs.declared.refusals.Refusal.TheVariants.{IllegalArgument, Limit}
use Rattle.vocabulary.specs.Known.{is_known_kind}
use Rattle.vocabulary.specs.Limits.{most_rows}
use Rattle.write_chain.specs.Calls.{Came, left}

-- ---- bases

base_itself : (it : Base) → IsLater it it
base_itself it = record { kind = refl; change = omega arith; still = λ same. record { many = refl; keys = λ keyed. refl } }

pub bases_themselves : (world : World) → AreLater world world
bases_themselves world = record { more = omega arith; each = λ b lt. base_itself (base_at world b) }

-- the same bases in other words
pub same_bases : (world other : World) → other ≡ world → AreLater world other
same_bases world other e = subst (AreLater world) (sym e) (bases_themselves world)

-- one base more
pub one_more : (world : World) (it : Base) → AreLater world (world ++ it ∷ [])
one_more world it = record {
  more = omega (arith, length-append world (it ∷ []));
  each = λ b lt. subst (IsLater (base_at world b)) (sym (more_at world it b lt)) (base_itself (base_at world b));
}

-- one base changed
base_written : (world : World) (b : ℕ) (it : Base) → b < length world → IsLater (base_at world b) it → AreLater world (set world b it)
base_written world b it lt later = record {
  more = omega (arith, length-set world b it);
  each = λ k less.
      elim (cases_eq k b) [
        | inl same ↦ subst (λ (n : ℕ). IsLater (base_at world n) (base_at (set world b it) n)) (sym same) (subst (IsLater (base_at world b)) (sym (written_at world b it lt)) later)
        | inr other ↦ subst (IsLater (base_at world k)) (sym (get_or-set_other world b k it (empty_base LinkedHashMap) other)) (base_itself (base_at world k))
      ];
}

-- an edit whose rows come to spots that are for the kind of its base
abbrev pub SpotsFit : World → ℕ → Edit → Type 0
SpotsFit world b edit = AllByRecursion (IsSpotFor (base_at world b).kind) edit.added

pub edited_later : (world : World) (b : ℕ) (edit : Edit) → b < length world → is_known_kind (base_at world b).kind ≡ true → SpotsFit world b edit → AreLater world (edited_at world b edit)
edited_later world b edit lt kind spots = base_written world b (edited (base_at world b) edit) lt (edit_leaves (base_at world b) edit kind spots).0

-- ---- what a call leaves

limited : (before now : Stored) (answer a : Answer) (world : World) (taken many : Bool) → AreLater before.world world → Came (Ok answer) before now (cond taken (cond many (Err Limit) (Ok (a, world))) (Err IllegalArgument)) → AreLater before.world now.world
limited before now answer a world true true h came = absurd came
limited before now answer a world true false h came = subst (λ (s : Stored). AreLater before.world s.world) (sym came.1) h
limited before now answer a world false many h came = absurd came

carried : (before now : Stored) (v : View) (answer a : Answer) (edit : Option Edit) → number_under v < length before.world → is_known_kind (base_at before.world (number_under v)).kind ≡ true → IfSome edit (SpotsFit before.world (number_under v))
    → Came (Ok answer) before now (left before.world v a edit) → AreLater before.world now.world
carried before now v answer a None lt kind spots came = same_bases before.world now.world (ap (λ (s : Stored). s.world) came.1)
carried before now v answer a (Some edit) lt kind spots came =
    let w : World = edited_at before.world (number_under v) edit in
    limited before now answer a w (takes_edit (base_at before.world (number_under v)) edit) (nat_lt most_rows (rows_in w)) (edited_later before.world (number_under v) edit lt kind spots) came

-- each base is at a later time once a call came
pub came_later : (result : Result Answer Refusal) (before now : Stored) (why : Option Refusal) (v : View) (a : Answer) (edit : Option Edit) → number_under v < length before.world → is_known_kind (base_at before.world (number_under v)).kind ≡ true → IfSome edit (SpotsFit before.world (number_under v))
    → Came result before now (unless_refused why (left before.world v a edit)) → AreLater before.world now.world
came_later (Ok answer) before now None v a edit lt kind spots came = carried before now v answer a edit lt kind spots came
came_later (Ok answer) before now (Some why) v a edit lt kind spots came = absurd came
came_later (Err err) before now why v a edit lt kind spots came = same_bases before.world now.world (ap (λ (s : Stored). s.world) came.0)
