-- What came of rows that were placed.
use Rattle.std.proofs.Common.{◌≡◌, ◌⊎◌, ℕ, ◌<◌, ◌≤◌, Bool, true, false, cond, ◌&&◌, ◌||◌, List, [], ◌∷◌, ◌++◌, Option, Some, None, refl, sym, ap, ◌∙◌, subst, arith}
use Rattle.std.specs.Prelude.{Ok, Err, is_some}
use Rattle.std.specs.List.{list_all}
use Rattle.std.specs.Option.{option_to_list}
use Rattle.std.proofs.lemmas.Bool.Decides.{nat_tests}
use Rattle.base_store.specs.RowFaults.{IsRowFault}
use Rattle.base_store.specs.Stored.{Stored, with_world}
use Rattle.vocabulary.specs.declared.answers.Answer.{Answer}
use Rattle.vocabulary.specs.declared.edits.Spot.{Spot}
use Rattle.vocabulary.specs.declared.items.Item.{Item}
use Rattle.vocabulary.specs.declared.refusals.Refusal.{Refusal}
use Rattle.vocabulary.specs.declared.refusals.Refusal.TheVariants.{IllegalArgument, Limit, NoMemory}
use Rattle.vocabulary.specs.Kinds.{shape_of_kind}
use Rattle.vocabulary.specs.Limits.{most_rows}
use Rattle.vocabulary.specs.Shapes.{is_bimap}
use Rattle.machine.specs.Answering.{unless_refused, within_rows}
use Rattle.machine.specs.Bases.{World, base_at}
use Rattle.machine.specs.CallEdits.{forcing, forcing_at, rows_for}
use Rattle.machine.specs.CallRefusals.{lift_refusal}
use Rattle.machine.specs.Edits.{Edit, adding, takes_edit}
use Rattle.machine.specs.Memory.{adds_rows}
use Rattle.machine.specs.RowCounts.{rows_in}
use Rattle.machine.specs.Spots.{own_spot}
use Rattle.machine.specs.Views.{View, lift}
use Rattle.view_steps.specs.KnownViews.{edited_at, number_under}
use Rattle.view_steps.specs.Limits.{Grows}
use Rattle.view_steps.proofs.CallLemmas.{takes_edits}
use Rattle.view_steps.proofs.LiftLemmas.{rows_same}
use Rattle.view_steps.proofs.UniqueParts.{never_swapped}
use Rattle.write_chain.specs.Calls.{Came, added, forced, left}
use Rattle.write_chain.proofs.CameLemmas.{came_err, came_ok, came_placed, came_stopped, few_enough, left_taken}
use Rattle.write_chain.proofs.KnownCalls.{Stands}

-- ---- one item

-- it passes, and means one row
one_passed : (world : World) (v : View) (item row : Item) (edit : List Item → Edit) (answer : Answer) → Some row ≡ lift v item
    → unless_refused (lift_refusal v (item ∷ [])) (left world v answer (Some (edit (rows_for v (item ∷ []))))) ≡ left world v answer (Some (edit (row ∷ [])))
one_passed world v item row edit answer e = ap (λ (o : Option Item). unless_refused (cond (is_some o && true) None (Some IllegalArgument)) (left world v answer (Some (edit (option_to_list o ++ []))))) (sym e)

-- or it does not pass
pub one_refused : (world : World) (v : View) (item : Item) (edit : List Item → Edit) (answer : Answer) → None ≡ lift v item
    → unless_refused (lift_refusal v (item ∷ [])) (left world v answer (Some (edit (rows_for v (item ∷ []))))) ≡ Err IllegalArgument
one_refused world v item edit answer e = ap (λ (o : Option Item). unless_refused (cond (is_some o && true) None (Some IllegalArgument)) (left world v answer (Some (edit (option_to_list o ++ []))))) (sym e)

pub add_placed : (s now : Stored) (v : View) (item row : Item) (spot : Spot) (answer : Answer) (b : ℕ) → b ≡ number_under v → Some row ≡ lift v item → takes_edit (base_at s.world b) (adding spot (row ∷ [])) ≡ true
    → now ≡ with_world s (edited_at s.world b (adding spot (row ∷ []))) → rows_in now.world ≤ most_rows → Came (Ok answer) s now (added s.world v (item ∷ []) spot answer)
add_placed s now v item row spot answer b base lifted taken e few =
    subst (Came (Ok answer) s now) (sym (one_passed s.world v item row (adding spot) answer lifted)) (came_placed s now v answer b (adding spot (row ∷ [])) (adding spot (row ∷ [])) base refl taken e few)

pub add_stopped : (s now : Stored) (v : View) (item row : Item) (spot : Spot) (answer : Answer) (b : ℕ) (why : Refusal) → b ≡ number_under v → Some row ≡ lift v item → now ≡ s → IsRowFault s.world b (adding spot (row ∷ [])) why
    → Came (Err why) s now (added s.world v (item ∷ []) spot answer)
add_stopped s now v item row spot answer b why base lifted e fault =
    subst (Came (Err why) s now) (sym (one_passed s.world v item row (adding spot) answer lifted)) (came_stopped s now v answer b (adding spot (row ∷ [])) (adding spot (row ∷ [])) why base refl e fault)

-- ---- one pair that is forced into a bimap

forced_there : (world : World) (v : View) (spot : Spot) (row : Item) (b : ℕ) → b ≡ number_under v → spot ≡ own_spot v → forcing_at spot (base_at world b).rows (row ∷ []) ≡ forcing world v (row ∷ [])
forced_there world v spot row b base own = λ i. forcing_at (own i) (base_at world (base i)).rows (row ∷ [])

pub force_placed : (s now : Stored) (v : View) (item row : Item) (spot : Spot) (answer : Answer) (b : ℕ) → b ≡ number_under v → spot ≡ own_spot v → Some row ≡ lift v item → takes_edit (base_at s.world b) (forcing_at spot (base_at s.world b).rows (row ∷ [])) ≡ true
    → now ≡ with_world s (edited_at s.world b (forcing_at spot (base_at s.world b).rows (row ∷ []))) → rows_in now.world ≤ most_rows → Came (Ok answer) s now (forced s.world v (item ∷ []) answer)
force_placed s now v item row spot answer b base own lifted taken e few =
    subst (Came (Ok answer) s now) (sym (one_passed s.world v item row (forcing s.world v) answer lifted))
    (came_placed s now v answer b (forcing s.world v (row ∷ [])) (forcing_at spot (base_at s.world b).rows (row ∷ [])) base (forced_there s.world v spot row b base own) taken e few)

pub force_stopped : (s now : Stored) (v : View) (item row : Item) (spot : Spot) (answer : Answer) (b : ℕ) (why : Refusal) → b ≡ number_under v → spot ≡ own_spot v → Some row ≡ lift v item → now ≡ s
    → IsRowFault s.world b (forcing_at spot (base_at s.world b).rows (row ∷ [])) why → Came (Err why) s now (forced s.world v (item ∷ []) answer)
force_stopped s now v item row spot answer b why base own lifted e fault =
    subst (Came (Err why) s now) (sym (one_passed s.world v item row (forcing s.world v) answer lifted))
    (came_stopped s now v answer b (forcing s.world v (row ∷ [])) (forcing_at spot (base_at s.world b).rows (row ∷ [])) why base (forced_there s.world v spot row b base own) e fault)

-- ---- items that come to a base other than a bimap

taken : (world : World) (v : View) (edit : Edit) → Stands world v → is_bimap (shape_of_kind (base_at world (number_under v)).kind) ≡ false → takes_edit (base_at world (number_under v)) edit ≡ true
taken world v edit it other = takes_edits (base_at world (number_under v)) it.kind other edit

many_passed : (world : World) (v : View) (items : List Item) (spot : Spot) (answer : Answer) (test : Bool) → Stands world v → is_bimap (shape_of_kind (base_at world (number_under v)).kind) ≡ false → test ≡ list_all (λ item. is_some (lift v item)) items → test ≡ true
    → added world v items spot answer ≡ within_rows answer (edited_at world (number_under v) (adding spot items))
many_passed world v items spot answer test it other is h =
    let all : list_all (λ item. is_some (lift v item)) items ≡ true = sym is ∙ h in
    ap (λ b. unless_refused (cond b None (Some IllegalArgument)) (left world v answer (Some (adding spot (rows_for v items))))) all
    ∙ left_taken world v answer (adding spot (rows_for v items)) (taken world v (adding spot (rows_for v items)) it other)
    ∙ ap (λ rows. within_rows answer (edited_at world (number_under v) (adding spot rows))) (rows_same v it.known (never_swapped world v it.known it.kind it.made other) items all)

pub many_placed : (s now : Stored) (v : View) (items : List Item) (spot : Spot) (answer : Answer) (test : Bool) (b : ℕ) → Stands s.world v → is_bimap (shape_of_kind (base_at s.world (number_under v)).kind) ≡ false → test ≡ list_all (λ item. is_some (lift v item)) items → test ≡ true → b ≡ number_under v
    → now ≡ with_world s (edited_at s.world b (adding spot items)) → rows_in now.world ≤ most_rows → Came (Ok answer) s now (added s.world v items spot answer)
many_placed s now v items spot answer test b it other is h base e few =
    let w : World = edited_at s.world (number_under v) (adding spot items) in
    subst (Came (Ok answer) s now) (sym (many_passed s.world v items spot answer test it other is h))
    (came_ok s now answer w (e ∙ ap (λ b. with_world s (edited_at s.world b (adding spot items))) base) few)

pub many_stopped : (s now : Stored) (v : View) (items : List Item) (spot : Spot) (answer : Answer) (test : Bool) (b : ℕ) (why : Refusal) → Stands s.world v → is_bimap (shape_of_kind (base_at s.world (number_under v)).kind) ≡ false → test ≡ list_all (λ item. is_some (lift v item)) items → test ≡ true → b ≡ number_under v
    → now ≡ s → ((why ≡ Limit) × (most_rows < rows_in (edited_at s.world b (adding spot items)))) ⊎ (why ≡ NoMemory) → Came (Err why) s now (added s.world v items spot answer)
many_stopped s now v items spot answer test b why it other is h base e cause =
    subst (Came (Err why) s now) (sym (many_passed s.world v items spot answer test it other is h))
    (came_err s now why answer (edited_at s.world (number_under v) (adding spot items)) e
    (subst (λ (b : ℕ). ((why ≡ Limit) × (most_rows < rows_in (edited_at s.world b (adding spot items)))) ⊎ (why ≡ NoMemory)) base cause))

-- ---- where memory is wanted

-- where the rows grow, the call adds some
grown : (answer : Answer) (before after : World) → Grows before after → adds_rows before (Ok (answer, after)) ≡ true
grown answer before after g = let more : rows_in before < rows_in after = g.0 in grind (arith, nat_tests)

pub add_wants : (world : World) (v : View) (item row : Item) (spot : Spot) (answer : Answer) (b : ℕ) → Stands world v → is_bimap (shape_of_kind (base_at world (number_under v)).kind) ≡ false → Some row ≡ lift v item → b ≡ number_under v → Grows world (edited_at world b (adding spot (row ∷ [])))
    → adds_rows world (added world v (item ∷ []) spot answer) ≡ true
add_wants world v item row spot answer b it other lifted base grows =
    let edit : Edit = adding spot (row ∷ []) in
    let g : Grows world (edited_at world (number_under v) edit) = subst (λ (b : ℕ). Grows world (edited_at world b edit)) base grows in
    ap (adds_rows world) (one_passed world v item row (adding spot) answer lifted ∙ left_taken world v answer edit (taken world v edit it other) ∙ few_enough answer (edited_at world (number_under v) edit) g.1)
    ∙ grown answer world (edited_at world (number_under v) edit) g

-- a call that adds rows may want memory, and one on a bimap that turns a pair into another may without
pub more_wanted : (adds gathers : Bool) → adds ≡ true → adds || gathers ≡ true
more_wanted adds gathers h = ap (λ b. b || gathers) h

pub wanted_unless : (adds gathers : Bool) → (gathers ≡ false → adds ≡ true) → adds || gathers ≡ true
wanted_unless true true h = refl
wanted_unless false true h = refl
wanted_unless adds false h = more_wanted adds false (h refl)

pub bimap_wants : (adds gathers : Bool) → gathers ≡ true → adds || gathers ≡ true
bimap_wants true gathers h = refl
bimap_wants false gathers h = h
