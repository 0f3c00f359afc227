-- The names of an environment: what a look-up finds, and what a new base and its name leave.
use Rattle.std.proofs.Common.{◌≡◌, ℕ, ◌+◌, ◌-◌, ◌<◌, ◌≤◌, Bool, true, false, List, [], ◌∷◌, ◌++◌, length, take, Option, Some, Result, Ok, Err, OnOk, cond, nat_eq, nat_lt, refl, sym, ◌∙◌, ap, subst, arith, length-append}
use Rattle.std.specs.Prelude.{codes}
use Rattle.std.specs.Cmp.Lexicographic.{pointwise}
use Rattle.std.specs.Map.{lookup}
use Rattle.std.specs.Option.{option_map}
use Rattle.std.specs.Result.{is_err, IsOk}
use Rattle.indexmap.specs.IndexMap.{insert_entry}
use Rattle.std.proofs.lemmas.Bool.Decides.{nat_tests}
use Rattle.vocabulary.specs.declared.kinds.Kind.{Kind}
use Rattle.vocabulary.specs.declared.refusals.Refusal.TheVariants.{Limit}
use Rattle.machine.specs.RowCounts.{ChangesUpTo}
use Rattle.machine.specs.Bases.{World, empty_base}
use Rattle.machine.specs.Views.{View, base}
use Rattle.machine.specs.Leaves.{stored}
use Rattle.machine.specs.Naming.{new_of}
use Rattle.machine.specs.Outcomes.{Outcome, refused_late, says, within_handles}
use Rattle.machine.specs.State.{Names, State, bound, to_view, named as bound_to}
use Rattle.base_store.specs.declared.store.Made.{Made}
use Rattle.base_store.specs.declared.store.Made.TheVariants as made
use Rattle.vocabulary.specs.Limits.{most_handles}
use Rattle.base_store.specs.Courses.{spots_in}
use Rattle.base_store.specs.Stored.{Stored, with_base}
use Rattle.base_store.proofs.NodeLemmas.{added_base}
use Rattle.session.specs.declared.faults.ExecFault.{ExecFault}
use Rattle.session.specs.Coming.{seen_as}
use Rattle.session.specs.declared.bound.Bound.{Bound as Held}
use Rattle.session.specs.declared.bound.Bound.TheVariants as held
use Rattle.session.specs.Environment.{AreSeated, Entries, IsSeated, IsSettled, NamesWithin, bound_at, named, node_under}
use Rattle.session.specs.Executing.{Executed}
use Rattle.session.specs.Later.{AreLater}
use Rattle.session.specs.Replying.{Said}
use Rattle.session.proofs.CallLemmas.{calm_on, does_said}
use Rattle.session.proofs.EvalLemmas.{take_whole}
use Rattle.session.proofs.FollowLemmas.{named_more, within_wider}
use Rattle.session.proofs.LaterLemmas.{one_more}
use Rattle.session.proofs.SeatLemmas.{seats_stay, seats_with, store_grown}
use Rattle.view_laws.specs.Spots.{TellAll}

abbrev pub same_text : List ℕ → List ℕ → Bool
same_text = pointwise nat_eq

-- ---- a look-up

pub named_bound : (nodes : List Made) (names : Entries) (name : List ℕ) → bound_to (named nodes names) name ≡ option_map (bound_at nodes) (lookup (same_text name) names)
named_bound nodes [] name = refl
named_bound nodes (e ∷ names) name = by (same_text name e.0) (named_bound nodes names name)
  where
    by : (b : Bool) → bound_to (named nodes names) name ≡ option_map (bound_at nodes) (lookup (same_text name) names)
        → cond b (Some (bound_at nodes e.1)) (bound_to (named nodes names) name) ≡ option_map (bound_at nodes) (cond b (Some e.1) (lookup (same_text name) names))
    by true rest = refl
    by false rest = rest

pub found_within : (k : ℕ) (names : Entries) (name : List ℕ) (it : Held) → NamesWithin k names → lookup (same_text name) names ≡ Some it → node_under it < k
found_within k [] name it h e = cc
found_within k (x ∷ names) name it h e = by (same_text name x.0) e (found_within k names name it h.1)
  where
    by : (b : Bool) → cond b (Some x.1) (lookup (same_text name) names) ≡ Some it → (lookup (same_text name) names ≡ Some it → node_under it < k) → node_under it < k
    by true f rest = let here : x.1 ≡ it = cc in subst (λ (m : Held). node_under m < k) here h.0
    by false f rest = rest f

-- what was found is seated
pub found_seated : (store : Stored) (names : Entries) (name : List ℕ) (it : Held) → AreSeated store names → lookup (same_text name) names ≡ Some it → IsSeated store it
found_seated store [] name it h e = cc
found_seated store (x ∷ names) name it h e = by (same_text name x.0) e (found_seated store names name it h.1)
  where
    by : (b : Bool) → cond b (Some x.1) (lookup (same_text name) names) ≡ Some it → (lookup (same_text name) names ≡ Some it → IsSeated store it) → IsSeated store it
    by true f rest = let here : x.1 ≡ it = cc in subst (IsSeated store) here h.0
    by false f rest = rest f

-- ---- handles

-- an outcome for which there are handles comes as it is, and another is refused
pub within_room : (state : State) (n : ℕ) (o : Outcome) → state.handles + n ≤ most_handles → within_handles state n o ≡ o
within_room state n o le = let test : nat_lt most_handles (state.handles + n) ≡ false = grind (arith, nat_tests) in ap (λ (b : Bool). cond b (refused_late state Limit) o) test

pub without_room : (state : State) (n : ℕ) (o : Outcome) → most_handles < state.handles + n → within_handles state n o ≡ refused_late state Limit
without_room state n o lt = let test : nat_lt most_handles (state.handles + n) ≡ true = grind (arith, nat_tests) in ap (λ (b : Bool). cond b (refused_late state Limit) o) test

-- and memory may run out before either
pub handles-memory : (state : State) (n : ℕ) (o : Outcome) → o.memory ≡ true → (within_handles state n o).memory ≡ true
handles-memory state n o wants = by (nat_lt most_handles (state.handles + n))
  where
    by : (b : Bool) → (cond b (refused_late state Limit) o).memory ≡ true
    by true = refl
    by false = wants

-- ---- a new name

pub bound_named : (nodes : List Made) (names : Entries) (name : List ℕ) (it : Held) → named nodes (insert_entry same_text names name it) ≡ bound (named nodes names) name (bound_at nodes it)
bound_named nodes [] name it = refl
bound_named nodes (e ∷ names) name it = by (same_text name e.0) (bound_named nodes names name it)
  where
    by : (b : Bool) → named nodes (insert_entry same_text names name it) ≡ bound (named nodes names) name (bound_at nodes it)
        → named nodes (cond b ((e.0, it) ∷ names) (e ∷ insert_entry same_text names name it)) ≡ cond b ((e.0, bound_at nodes it) ∷ named nodes names) ((e.0, bound_at nodes e.1) ∷ bound (named nodes names) name (bound_at nodes it))
    by true rest = refl
    by false rest = ap (λ (ns : Names). (e.0, bound_at nodes e.1) ∷ ns) rest

pub within_more : (names : Entries) (name : List ℕ) (it : Held) (n m : ℕ) → NamesWithin n names → n ≤ m → node_under it < m → NamesWithin m (insert_entry same_text names name it)
within_more [] name it n m h le lt = (lt, tt)
within_more (e ∷ names) name it n m h le lt = by (same_text name e.0) (within_more names name it n m h.1 le lt)
  where
    first : node_under e.1 < m
    first = let old : node_under e.1 < n = h.0 in omega (arith, old, le)

    by : (b : Bool) → NamesWithin m (insert_entry same_text names name it) → NamesWithin m (cond b ((e.0, it) ∷ names) (e ∷ insert_entry same_text names name it))
    by true rest = (lt, within_wider names n m le h.1)
    by false rest = (first, rest)

pub ok_part : {T E P : Type 0} (r : Result T E) → is_err r ≡ false → OnOk r P → P
ok_part (Ok x) e h = h
ok_part (Err x) e h = cc

pub ok_at : {T E P : Type 0} (r : Result T E) → IsOk r → OnOk r P → P
ok_at (Ok x) e h = h
ok_at (Err x) e h = cc

-- a base was made and named
pub record Added (s now : Stored) (names names' : Entries) (name : List ℕ) (kind : Kind) : Type 0 where
  pub settled : IsSettled s names
  pub grown : now ≡ with_base s kind
  pub room : s.handles < most_handles
  pub entered : names' ≡ insert_entry same_text names name (held.View s.lasting)
  pub tell : TellAll now.world (spots_in now.world)

module _ (s now : Stored) (names names' : Entries) (name : List ℕ) (kind : Kind) (h : Added s now names names' name kind) where
  nodes_now : now.nodes ≡ s.nodes ++ made.Base (length s.world) ∷ []
  nodes_now = ap (λ (x : Stored). x.nodes) h.grown ∙ ap (λ (ns : List Made). ns ++ made.Base (length s.world) ∷ []) (ap (λ (n : ℕ). take n s.nodes) (sym h.settled.still) ∙ take_whole s.nodes)

  lasting_now : now.lasting ≡ s.lasting + 1
  lasting_now = ap (λ (x : Stored). x.lasting) h.grown

  worlds : now.world ≡ s.world ++ empty_base kind ∷ []
  worlds = ap (λ (x : Stored). x.world) h.grown

  pub settled_more : IsSettled now names'
  settled_more = record {
    still = ap (λ (ns : List Made). length ns) nodes_now ∙ length-append s.nodes (made.Base (length s.world) ∷ []) ∙ ap (λ (n : ℕ). n + 1) h.settled.still ∙ sym lasting_now;
    named_within = subst (λ (ns : Entries). NamesWithin now.lasting ns) (sym h.entered) (within_more names name (held.View s.lasting) s.lasting now.lasting h.settled.named_within (omega (arith, lasting_now)) (omega (arith, lasting_now)));
    seated = subst (AreSeated now) (sym h.entered) (seats_with now names name (held.View s.lasting) (seats_stay s now names (store_grown s now (made.Base (length s.world) ∷ []) nodes_now (subst (AreLater s.world) (sym worlds) (one_more s.world (empty_base kind))) h.tell) h.settled.seated) tt);
  }

  abbrev all : World
  all = s.world ++ empty_base kind ∷ []

  -- the number of the last base
  last : length s.world ≡ length all - 1
  last = omega (arith, length-append s.world (empty_base kind ∷ []))

  names_now : named now.nodes names' ≡ bound (named s.nodes names) name (to_view (base (stored (length all - 1))))
  names_now =
      ap (λ (ns : Entries). named now.nodes ns) h.entered ∙ bound_named now.nodes names name (held.View s.lasting)
      ∙ ap (λ (ns : List Made). bound (named ns names) name (bound_at ns (held.View s.lasting))) nodes_now
      ∙ ap (λ (known : Names). bound known name (bound_at (s.nodes ++ made.Base (length s.world) ∷ []) (held.View s.lasting))) (named_more s.nodes (made.Base (length s.world) ∷ []) names (subst (λ (n : ℕ). NamesWithin n names) (sym h.settled.still) h.settled.named_within))
      ∙ ap (λ (n : ℕ). bound (named s.nodes names) name (bound_at (s.nodes ++ made.Base (length s.world) ∷ []) (held.View n))) (sym h.settled.still)
      ∙ ap (λ (v : View). bound (named s.nodes names) name (to_view v)) (added_base s.nodes (length s.world))
      ∙ ap (λ (n : ℕ). bound (named s.nodes names) name (to_view (base (stored n)))) last

  -- the outcome of a line that makes a base
  abbrev pub state_before : State
  state_before = seen_as s (named s.nodes names)

  abbrev pub state_after : State
  state_after = record { bases = all; names = bound (named s.nodes names) name (to_view (base (stored (length all - 1)))); handles = s.handles + 1 }

  now_is : seen_as now (named now.nodes names') ≡ state_after
  now_is = λ i. record { bases = worlds i; names = names_now i; handles = (ap (λ (x : Stored). x.handles) h.grown) i }

  -- the line is not refused
  roomy : within_handles state_before 1 (record { reply = Some (codes "ok"); after = state_after; memory = true }) ≡ (let o : Outcome = record { reply = Some (codes "ok"); after = state_after; memory = true } in o)
  roomy = within_room state_before 1 (record { reply = Some (codes "ok"); after = state_after; memory = true }) (omega (arith, h.room))

  calm_more : (n : ℕ) (world : World) → ChangesUpTo n world → ChangesUpTo (n + 1) (world ++ empty_base kind ∷ [])
  calm_more n [] c = (omega arith, tt)
  calm_more n (it ∷ world) c = let first : it.change ≤ n = c.0 in (omega (arith, first), calm_more n world c.1)

  pub executed_new : (r : Result (Unit {0}) ExecFault) (t u : Option (List ℕ)) (f g : ℕ) → Said r t u f g (codes "ok" ++ 10 ∷ []) → Executed r state_before (seen_as now (named now.nodes names')) (new_of state_before name (Some kind)) t u f g
  executed_new r t u f g said = subst (λ (o : Outcome). Executed r state_before (seen_as now (named now.nodes names')) o t u f g) (sym roomy) (record {
    does = does_said r t u state_before (seen_as now (named now.nodes names')) state_after (codes "ok") true said.memory now_is said.wrote;
    changes = λ n c. subst (λ (w : World). ChangesUpTo (n + 1) w) (sym worlds) (calm_more n s.world c);
    later = said.later;
    cause = said.cause;
  })

-- a reply that changes nothing, and before which memory may run out or may not
pub executed_unchanged : (r : Result (Unit {0}) ExecFault) (state : State) (t u : Option (List ℕ)) (f g : ℕ) (text : List ℕ) (memory : Bool) → Said r t u f g (text ++ 10 ∷ []) → Executed r state state (record { reply = Some text; after = state; memory = memory }) t u f g
executed_unchanged r state t u f g text memory said = record { does = does_said r t u state state state text memory said.memory refl said.wrote; changes = λ n c. calm_on n state.bases c; later = said.later; cause = said.cause }

pub executed_said : (r : Result (Unit {0}) ExecFault) (state : State) (t u : Option (List ℕ)) (f g : ℕ) (text : List ℕ) → Said r t u f g (text ++ 10 ∷ []) → Executed r state state (says state text) t u f g
executed_said r state t u f g text said = executed_unchanged r state t u f g text false said
