-- A line that gives a name to a view or an iterator: what is kept, and the outcome.
use Rattle.std.proofs.Common.{◌≡◌, ◌≢◌, ℕ, ◌+◌, ◌<◌, ◌≤◌, max, Bool, true, false, List, [], ◌∷◌, ◌++◌, length, take, drop, Option, None, Some, Result, Ok, Err, IfOk, inl, inr, refl, sym, ◌∙◌, ap, subst, zero, suc, arith}
use Rattle.std.specs.Prelude.{codes}
use Rattle.std.specs.Map.{lookup}
use Rattle.std.specs.Option.{option_map}
use Rattle.std.proofs.lemmas.List.{take-append-drop}
use Rattle.vocabulary.specs.declared.refusals.Refusal.{Refusal}
use Rattle.vocabulary.specs.declared.refusals.Refusal.TheVariants as refusal
use Rattle.vocabulary.specs.Refusals.{name_of}
use Rattle.machine.specs.RowCounts.{ChangesUpTo}
use Rattle.machine.specs.Bases.{World}
use Rattle.machine.specs.Views.{View, shape_at}
use Rattle.base_store.specs.declared.store.Made.{Made}
use Rattle.base_store.specs.Stored.{Stored, view_in, without_temporary}
use Rattle.session.specs.declared.faults.ExecFault.{ExecFault}
use Rattle.session.specs.declared.following.End.{End}
use Rattle.session.specs.declared.following.End.TheVariants as end
use Rattle.indexmap.specs.IndexMap.{insert_entry}
use Rattle.session.specs.Binding.{Answers, IsFull, IsSeatOver, KeepsNodes, KeptBound, KeptNothing, Keeps, view_bound}
use Rattle.session.specs.Coming.{seen_as}
use Rattle.session.specs.declared.bound.Bound.{Bound as Held}
use Rattle.session.specs.declared.bound.Bound.TheVariants as held
use Rattle.session.specs.Environment.{AreSeated, Entries, IsSeated, IsSettled, NamesWithin, bound_at, named, node_under}
use Rattle.session.specs.Executing.{Executed}
use Rattle.session.specs.Following.{IsEnd, end_in, node_of, target_in}
use Rattle.session.specs.KnownShapes.{is_known_shape}
use Rattle.session.specs.Later.{StoreLater}
use Rattle.session.specs.Targets.{it_concluded, iterator_fault, let_concluded, shape_of}
use Rattle.session.specs.Replying.{Refuses, Said}
use Rattle.machine.specs.Languages.{known}
use Rattle.machine.specs.Calling.{unless_refused}
use Rattle.machine.specs.Iterators.{Iterator, iterator_over}
use Rattle.machine.specs.Naming.{binding, it_made, it_of, let_of}
use Rattle.machine.specs.Outcomes.{Outcome, refused_by, refused_late}
use Rattle.machine.specs.Parts.{Part}
use Rattle.machine.specs.Reading.{reading_refusal}
use Rattle.machine.specs.State.{Bound, Names, State, bound, named as bound_to, to_iterator}
use Rattle.machine.specs.Typing.{typed_words}
use Rattle.vocabulary.specs.declared.lines.Fault.{Fault}
use Rattle.vocabulary.specs.declared.lines.Purpose.TheVariants as purpose
use Rattle.session.proofs.EvalLemmas.{take_whole}
use Rattle.session.proofs.FollowLemmas.{named_more}
use Rattle.session.proofs.NameLemmas.{bound_named, executed_unchanged, handles-memory, named_bound, same_text, within_more, within_room, without_room}
use Rattle.session.proofs.CallLemmas.{calm_on, does_said}
use Rattle.session.proofs.LaterLemmas.{same_bases}
use Rattle.session.proofs.LineLemmas.{it_leads, let_leads}
use Rattle.session.proofs.ReplyLemmas.{said_refusal}
use Rattle.session.proofs.SeatLemmas.{seat_stays, seats_stay, seats_with, store_grown, store_kept}
use Rattle.session.proofs.SessionLemmas.{executed_silent}
use Rattle.cursor_seat.specs.declared.seat.Seat.{Seat}
use Rattle.cursor_seat.specs.Seats.{Fits, iterator_in}
use Rattle.base_store.specs.Courses.{spots_in}
use Rattle.view_laws.specs.Spots.{TellAll}
use Rattle.view_steps.proofs.KnownLemmas.{is_read}

take_short : {X : Type 0} (n : ℕ) (xs : List X) → length (take n xs) ≤ length xs
take_short zero xs = omega arith
take_short (suc n) [] = omega arith
take_short (suc n) (x ∷ xs) = omega (arith, take_short n xs)

-- a store between lines is the same without its temporary nodes: it has none
pub whole_store : (s : Stored) → length s.nodes ≡ s.lasting → without_temporary s ≡ s
whole_store s still = λ i. record { world = s.world; nodes = (ap (λ (n : ℕ). take n s.nodes) (sym still) ∙ take_whole s.nodes) i; lasting = s.lasting; handles = s.handles }

-- A store between lines with its names, and the same when words were followed from a node of it, with what is to be bound
-- there.
pub record Led (s led : Stored) (names : Entries) (it : Result Held Refusal) : Type 0 where
  pub settled : IsSettled s names
  pub world : led.world ≡ s.world
  pub front : without_temporary led ≡ without_temporary s
  pub stands : IfOk it (λ (b : Held). node_under b < length led.nodes)
  pub seated : IfOk it (IsSeated led)
  pub said : it ≢ Err refusal.NoMemory

module _ (s led : Stored) (names : Entries) (it : Result Held Refusal) (h : Led s led names it) where
  nodes_front : take led.lasting led.nodes ≡ s.nodes
  nodes_front = ap (λ (x : Stored). x.nodes) h.front ∙ ap (λ (n : ℕ). take n s.nodes) (sym h.settled.still) ∙ take_whole s.nodes

  nodes_more : led.nodes ≡ s.nodes ++ drop led.lasting led.nodes
  nodes_more = sym (take-append-drop led.lasting led.nodes) ∙ ap (λ (ns : List Made). ns ++ drop led.lasting led.nodes) nodes_front

  lasts : s.lasting ≤ length led.nodes
  lasts = omega (arith, h.settled.still, ap (λ (ns : List Made). length ns) nodes_front, take_short led.lasting led.nodes)

  handles_same : led.handles ≡ s.handles
  handles_same = ap (λ (x : Stored). x.handles) h.front

  -- what is refused leaves the store as it was
  pub as_before : (now : Stored) → now ≡ without_temporary led → now ≡ s
  as_before now dropped = dropped ∙ h.front ∙ whole_store s h.settled.still

  -- the names stand for what they stood for
  names_same : named led.nodes names ≡ named s.nodes names
  names_same =
      ap (λ (ns : List Made). named ns names) nodes_more
      ∙ named_more s.nodes (drop led.lasting led.nodes) names (subst (λ (n : ℕ). NamesWithin n names) (sym h.settled.still) h.settled.named_within)

-- what is bound at an end that is there
pub led_view : (s led : Stored) (names : Entries) (e : Result End Refusal) → IsSettled s names → led.world ≡ s.world → without_temporary led ≡ without_temporary s → IsEnd led e → Led s led names (view_bound e)
led_view s led names (Ok (end.View n)) settled world front ends = record { settled = settled; world = world; front = front; stands = ends; seated = tt; said = λ q. cc }
led_view s led names (Ok (end.Call n call)) settled world front ends = record { settled = settled; world = world; front = front; stands = ends.0; seated = tt; said = λ q. cc }
led_view s led names (Ok (end.With n word other)) settled world front ends = record { settled = settled; world = world; front = front; stands = ends.0; seated = tt; said = λ q. cc }
led_view s led names (Err why) settled world front ends = record { settled = settled; world = world; front = front; stands = tt; seated = tt; said = λ q. ends (let e : why ≡ refusal.NoMemory = cc in e) }

pub led_seat : (s led : Stored) (names : Entries) (e : Result End Refusal) (it : Result Held Refusal) → IsSettled s names → led.world ≡ s.world → without_temporary led ≡ without_temporary s → IsEnd led e → IsSeatOver led e it → Led s led names it
led_seat s led names (Ok e) (Ok (held.Iterator seat)) settled world front ends over = record { settled = settled; world = world; front = front; stands = over.0.there.node; seated = over.0; said = λ q. cc }
led_seat s led names (Ok e) (Ok (held.View n)) settled world front ends over = absurd over
led_seat s led names (Ok e) (Err why) settled world front ends over = absurd over
led_seat s led names (Err why) (Ok (held.Iterator seat)) settled world front ends over = absurd over
led_seat s led names (Err why) (Ok (held.View n)) settled world front ends over = absurd over
led_seat s led names (Err why) (Err because) settled world front ends over = record { settled = settled; world = world; front = front; stands = tt; seated = tt; said = λ q. ends (let e : because ≡ refusal.NoMemory = cc in sym over ∙ e) }

-- what was kept of the nodes and entered among the names
pub kept_ok : (s now : Stored) (names names' : Entries) (name : List ℕ) (handles : ℕ) (b : Held) (it : Result Held Refusal) (is_full : Bool) → KeepsNodes (Ok b) it is_full s now handles → names' ≡ insert_entry same_text names name b → Keeps (Ok tt) it s now names names' name handles
kept_ok s now names names' name handles b (Ok x) is_full k e = record { kept = k.1; room = k.2; entered = e ∙ ap (insert_entry same_text names name) k.0 }
kept_ok s now names names' name handles b (Err why) is_full k e = absurd k

pub kept_err : (s now : Stored) (names names' : Entries) (name : List ℕ) (handles : ℕ) (why : Refusal) (it : Result Held Refusal) (is_full : Bool) → KeepsNodes (Err why) it is_full s now handles → names' ≡ names → Keeps (Err why) it s now names names' name handles
kept_err s now names names' name handles why (Ok x) is_full k e = (record { dropped = k.0; same = e }, k.1)
kept_err s now names names' name handles why (Err because) is_full k e = (record { dropped = k.0; same = e }, k.1)

-- there was room for a name
pub had_room : (s now : Stored) (handles : ℕ) (b : Held) (it : Result Held Refusal) (is_full : Bool) → KeepsNodes (Ok b) it is_full s now handles → is_full ≡ false
had_room s now handles b (Ok x) is_full k = k.3
had_room s now handles b (Err why) is_full k = absurd k

-- a node that was there is there
pub head_kept : (s led now : Stored) (names : Entries) (handles head : ℕ) (b : Held) (it : Result Held Refusal) (is_full : Bool) → Led s led names it → head < length s.nodes → KeepsNodes (Ok b) it is_full led now handles → head < length now.nodes
head_kept s led now names handles head b (Ok x) is_full h lt k = omega (arith, lt, h.settled.still, lasts s led names (Ok x) h, ap (λ (x : Stored). length x.nodes) k.1)
head_kept s led now names handles head b (Err why) is_full h lt k = absurd k

module _ (s led now : Stored) (names names' : Entries) (name : List ℕ) (handles : ℕ) where
  pub settled_kept : (r : Result (Unit {0}) Refusal) (it : Result Held Refusal) → Led s led names it → TellAll now.world (spots_in now.world) → Keeps r it led now names names' name handles → IsSettled now names'
  settled_kept (Ok u) (Ok b) h tell k = record {
    still = ap (λ (x : Stored). length x.nodes) k.kept ∙ sym (ap (λ (x : Stored). x.lasting) k.kept);
    named_within = subst (λ (ns : Entries). NamesWithin now.lasting ns) (sym k.entered) (within_more names name b s.lasting now.lasting h.settled.named_within (omega (arith, lasting_now, lasts s led names (Ok b) h)) (let l : node_under b < length led.nodes = h.stands in omega (arith, lasting_now, l)));
    seated = subst (AreSeated now) (sym k.entered) (seats_with now names name b (seats_stay s now names later h.settled.seated) (seat_stays led now b same h.seated));
  }
    where
      lasting_now : now.lasting ≡ length led.nodes
      lasting_now = ap (λ (x : Stored). x.lasting) k.kept

      nodes_now : now.nodes ≡ led.nodes
      nodes_now = ap (λ (x : Stored). x.nodes) k.kept

      world_now : now.world ≡ led.world
      world_now = ap (λ (x : Stored). x.world) k.kept

      same : StoreLater led now
      same = store_kept led now nodes_now (same_bases led.world now.world world_now) tell

      later : StoreLater s now
      later = store_grown s now (drop led.lasting led.nodes) (nodes_now ∙ nodes_more s led names (Ok b) h) (same_bases s.world now.world (world_now ∙ h.world)) tell
  settled_kept (Ok u) (Err why) h tell k = absurd k
  settled_kept (Err why) (Ok b) h tell k = subst (λ (x : Stored). IsSettled x names') (sym (as_before s led names (Ok b) h now k.0.dropped)) (subst (λ (ns : Entries). IsSettled s ns) (sym k.0.same) h.settled)
  settled_kept (Err why) (Err because) h tell k = subst (λ (x : Stored). IsSettled x names') (sym (as_before s led names (Err because) h now k.0.dropped)) (subst (λ (ns : Entries). IsSettled s ns) (sym k.0.same) h.settled)

  pub settled_unkept : (why : Refusal) (it : Result Held Refusal) → Led s led names it → Keeps (Err why) it led now names names' name handles → IsSettled now names'
  settled_unkept why (Ok b) h k = subst (λ (x : Stored). IsSettled x names') (sym (as_before s led names (Ok b) h now k.0.dropped)) (subst (λ (ns : Entries). IsSettled s ns) (sym k.0.same) h.settled)
  settled_unkept why (Err because) h k = subst (λ (x : Stored). IsSettled x names') (sym (as_before s led names (Err because) h now k.0.dropped)) (subst (λ (ns : Entries). IsSettled s ns) (sym k.0.same) h.settled)

  abbrev state_before : State
  state_before = seen_as s (named s.nodes names)

  abbrev state_now : State
  state_now = seen_as now (named now.nodes names')

  -- the outcome where this is bound
  abbrev bound_to_it : Held → Outcome
  bound_to_it b = binding state_before s.world name (bound_at led.nodes b) handles

  abbrev kept_outcome : Result Held Refusal → Outcome
  kept_outcome (Ok b) = bound_to_it b
  kept_outcome (Err why) = refused_by state_before why

  head_bound : (headname : List ℕ) (head : ℕ) → lookup (same_text headname) names ≡ Some (held.View head) → Some (bound_at s.nodes (held.View head)) ≡ bound_to state_before.names headname
  head_bound headname head found = sym (named_bound s.nodes names headname ∙ ap (option_map (bound_at s.nodes)) found)

  module _ (parts : List Part) where
    let_kept : (e : Result End Refusal) → handles ≡ max 1 (length parts) → let_concluded state_before name (length parts) (Ok (end_in led e)) ≡ kept_outcome (view_bound e)
    let_kept (Ok (end.View n)) count = ap (binding state_before s.world name (bound_at led.nodes (held.View n))) (sym count)
    let_kept (Ok (end.Call n call)) count = ap (binding state_before s.world name (bound_at led.nodes (held.View n))) (sym count)
    let_kept (Ok (end.With n word other)) count = ap (binding state_before s.world name (bound_at led.nodes (held.View n))) (sym count)
    let_kept (Err why) count = refl

    -- ---- an iterator

    it_there : (e : End) → it_concluded state_before name (length parts) (Ok (end_in led (Ok e))) ≡ it_made state_before name (length parts) (view_in led (node_of e))
    it_there (end.View n) = refl
    it_there (end.Call n call) = refl
    it_there (end.With n word other) = refl

    -- the view is read, and the seat is the iterator over it
    it_seated : (v : View) (seat : Seat) → led.world ≡ s.world → Fits led seat → iterator_in led seat ≡ iterator_over led.world v → handles ≡ length parts + 1 → it_made state_before name (length parts) v ≡ bound_to_it (held.Iterator seat)
    it_seated v seat world fits is count =
        ap (λ (o : Option Refusal). unless_refused state_before o (binding state_before s.world name (to_iterator (iterator_over s.world v)) (length parts + 1))) read
        ∙ (λ i. binding state_before s.world name (to_iterator (over i)) (sym count i))
      where
        view : view_in led seat.node ≡ v
        view = ap (λ (it : Iterator). it.view) is

        read : reading_refusal s.world v ≡ None
        read = ap (reading_refusal s.world) (sym view) ∙ is_read s.world (view_in led seat.node) fits.there.known

        over : iterator_over s.world v ≡ iterator_in led seat
        over = ap (λ (w : World). iterator_over w v) (sym world) ∙ sym is

    it_kept : (e : Result End Refusal) (it : Result Held Refusal) → led.world ≡ s.world → IsSeatOver led e it → handles ≡ length parts + 1 → it_concluded state_before name (length parts) (Ok (end_in led e)) ≡ kept_outcome it
    it_kept (Ok e) (Ok (held.Iterator seat)) world over count = it_there e ∙ it_seated (view_in led (node_of e)) seat world over.0 over.1 count
    it_kept (Ok e) (Ok (held.View n)) world over count = absurd over
    it_kept (Ok e) (Err why) world over count = absurd over
    it_kept (Err why) (Ok (held.Iterator seat)) world over count = absurd over
    it_kept (Err why) (Ok (held.View n)) world over count = absurd over
    it_kept (Err why) (Err because) world over count = ap (refused_by state_before) (sym over)

  module _ {q : Result (Unit {0}) ExecFault} {t u : Option (List ℕ)} {f g : ℕ} where
    -- the name is bound
    executed_bound : (b : Held) → Led s led names (Ok b) → KeptBound led now names names' name b handles → Said q t u f g (codes "ok" ++ 10 ∷ []) → Executed q state_before state_now (bound_to_it b) t u f g
    executed_bound b h k said =
        subst (λ (o : Outcome). Executed q state_before state_now o t u f g) (sym (within_room state_before handles (record { reply = Some (codes "ok"); after = state_after; memory = true }) (omega (arith, k.room, handles_same s led names (Ok b) h)))) (record {
          does = does_said q t u state_before state_now state_after (codes "ok") true said.memory now_is said.wrote;
          changes = λ n c. calm_on n now.world (subst (λ (w : World). ChangesUpTo n w) (sym world_now) c);
          later = said.later;
          cause = said.cause;
        })
      where
        state_after : State
        state_after = record { bases = s.world; names = bound (named s.nodes names) name (bound_at led.nodes b); handles = s.handles + handles }

        world_now : now.world ≡ s.world
        world_now = ap (λ (x : Stored). x.world) k.kept ∙ h.world

        names_now : named now.nodes names' ≡ bound (named s.nodes names) name (bound_at led.nodes b)
        names_now =
            ap (λ (ns : List Made). named ns names') (ap (λ (x : Stored). x.nodes) k.kept) ∙ ap (λ (ns : Entries). named led.nodes ns) k.entered ∙ bound_named led.nodes names name b
            ∙ ap (λ (ns : Names). bound ns name (bound_at led.nodes b)) (names_same s led names (Ok b) h)

        now_is : state_now ≡ state_after
        now_is = λ i. record { bases = world_now i; names = names_now i; handles = (ap (λ (x : Stored). x.handles) k.kept ∙ ap (λ (n : ℕ). n + handles) (handles_same s led names (Ok b) h)) i }

    -- the line is refused
    executed_refused : (outcome : Outcome) (why : Refusal) (memory : Bool) → now ≡ s → names' ≡ names → why ≢ refusal.NoMemory → (let o : Outcome = record { reply = Some (name_of why); after = state_before; memory = memory } in o) ≡ outcome → Refuses why q t u f g → Executed q state_before state_now outcome t u f g
    executed_refused outcome why wants same unnamed memory is said =
        subst (λ (o : Outcome). Executed q state_before state_now o t u f g) is
        (subst (λ (x : State). Executed q state_before x (record { reply = Some (name_of why); after = state_before; memory = wants }) t u f g) (sym now_is) (executed_unchanged q state_before t u f g (name_of why) wants (said_refusal why memory said)))
      where
        now_is : state_now ≡ state_before
        now_is = ap (λ (x : Stored). seen_as x (named x.nodes names')) same ∙ ap (λ (ns : Entries). seen_as s (named s.nodes ns)) unnamed

    executed_unkept : (b : Held) (why : Refusal) → Led s led names (Ok b) → KeptNothing led now names names' → IsFull led handles why → Refuses why q t u f g → Executed q state_before state_now (bound_to_it b) t u f g
    executed_unkept b why h k (inl full) said =
        executed_refused (bound_to_it b) why true (as_before s led names (Ok b) h now k.dropped) k.same (λ m. absurd (let no : refusal.Limit ≡ refusal.NoMemory = sym full.0 ∙ m in cc))
        (ap (refused_late state_before) full.0 ∙ sym (without_room state_before handles _ (omega (arith, full.1, handles_same s led names (Ok b) h)))) said
    executed_unkept b why h k (inr memory) said =
        executed_silent s now names names' (bound_to_it b) (as_before s led names (Ok b) h now k.dropped) k.same (handles-memory state_before handles _ refl) (subst (λ (x : Refusal). Refuses x q t u f g) memory said)

    -- the outcome, by what was kept and what was said
    executed_kept : (r : Result (Unit {0}) Refusal) (it : Result Held Refusal) → Led s led names it → Keeps r it led now names names' name handles → Answers r q t u f g → Executed q state_before state_now (kept_outcome it) t u f g
    executed_kept (Ok v) (Ok b) h k said = executed_bound b h k said
    executed_kept (Ok v) (Err why) h k said = absurd k
    executed_kept (Err why) (Ok b) h k said = executed_unkept b why h k.0 k.1 said
    executed_kept (Err why) (Err because) h k said =
        executed_refused (refused_by state_before because) why false (as_before s led names (Err because) h now k.0.dropped) k.0.same (λ m. h.said (ap (λ (w : Refusal). Err w) (sym k.1 ∙ m))) (ap (refused_by state_before) k.1) said

    module _ (headname : List ℕ) (head : ℕ) (parts : List Part) (found : lookup (same_text headname) names ≡ Some (held.View head)) (shape : is_known_shape (shape_at s.world (view_in s head)) ≡ true) where
      pub executed_let : (r : Result (Unit {0}) Refusal) (e : Result End Refusal) → handles ≡ max 1 (length parts) → Led s led names (view_bound e)
          → target_in s s.handles names purpose.Name head parts ≡ Ok (end_in led e) → Keeps r (view_bound e) led now names names' name handles → Answers r q t u f g
          → Executed q state_before state_now (let_of known state_before name (bound_to state_before.names headname) parts) t u f g
      executed_let r e count h reached k said = subst (λ (o : Outcome). Executed q state_before state_now o t u f g) outcome (executed_kept r (view_bound e) h k said)
        where
          outcome : kept_outcome (view_bound e) ≡ let_of known state_before name (bound_to state_before.names headname) parts
          outcome =
              sym (let_kept parts e count) ∙ ap (let_concluded state_before name (length parts)) (sym reached) ∙ let_leads state_before name (view_in s head) parts shape
              ∙ ap (λ (o : Option Bound). let_of known state_before name o parts) (head_bound headname head found)

      pub executed_it : (r : Result (Unit {0}) Refusal) (e : Result End Refusal) (it : Result Held Refusal) → handles ≡ length parts + 1 → Led s led names it → IsSeatOver led e it
          → (let none : Option Fault = None in none) ≡ iterator_fault (shape_of (typed_words known s.world (named s.nodes names) purpose.Iterator (shape_at s.world (view_in s head)) parts))
          → target_in s s.handles names purpose.Iterator head parts ≡ Ok (end_in led e) → Keeps r it led now names names' name handles → Answers r q t u f g
          → Executed q state_before state_now (it_of known state_before name (bound_to state_before.names headname) parts) t u f g
      executed_it r e it count h over fine reached k said = subst (λ (o : Outcome). Executed q state_before state_now o t u f g) outcome (executed_kept r it h k said)
        where
          outcome : kept_outcome it ≡ it_of known state_before name (bound_to state_before.names headname) parts
          outcome =
              sym (it_kept parts e it h.world over count) ∙ ap (it_concluded state_before name (length parts)) (sym reached) ∙ it_leads state_before name (view_in s head) parts shape fine
              ∙ ap (λ (o : Option Bound). it_of known state_before name o parts) (head_bound headname head found)
