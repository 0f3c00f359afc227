-- What a word of an iterator says and leaves of the store, as the outcome of its line.
use Rattle.std.proofs.Common.{◌≡◌, ◌≢◌, ℕ, ◌+◌, ◌≤◌, Bool, true, false, cond, nat_eq, zero, suc, List, [], ◌∷◌, ◌++◌, length, drop, filter, map, Option, None, Some, Result, Ok, Err, IfSome, refl, sym, ◌∙◌, ap, subst, arith}
use Rattle.std.specs.Cmp.Lexicographic.{pointwise}
use Rattle.std.specs.Prelude.{codes}
use Rattle.std.proofs.lemmas.Bool.Decides.{nat_tests}
use Rattle.script_text.specs.declared.lines.Part.{Part as Placed}
use Rattle.script_text.specs.Parts.{part_in}
use Rattle.script_text.specs.Trees.{piece}
use Rattle.script_text.proofs.PartTexts.{length-so_many}
use Rattle.session.specs.Following.{parts_in}
use Rattle.base_store.specs.Stored.{Stored, view_in, with_world}
use Rattle.cursor_seat.specs.declared.seat.Seat.{Seat}
use Rattle.cursor_seat.specs.Seats.{Fits, NextCame, RemoveCame, iterator_in, seat_view}
use Rattle.machine.specs.Answering as answering
use Rattle.machine.specs.Bases.{World}
use Rattle.machine.specs.Candidates.{Candidate, is_seen, item_in}
use Rattle.machine.specs.Edits.{removing}
use Rattle.machine.specs.Iterating.{given, gone, iterated, iterator_word, told, word_of}
use Rattle.machine.specs.Iterators.{Iterator, ahead, first_seen, has_next, is_passed_by, next_of, passed_on, passed_refusal, remove_refusal, removed, rows_given, world_without}
use Rattle.machine.specs.Outcomes.{Outcome, faulted, refused_by, says}
use Rattle.machine.specs.Reading.{first_refusal}
use Rattle.machine.specs.RowCounts.{ChangesUpTo}
use Rattle.machine.specs.State.{Bound, Names, State, bound, named as bound_to, to_iterator, written_through}
use Rattle.machine.specs.Texts.{item_text, text_in, truth_text}
use Rattle.machine.specs.Views.{View, candidates, flags_at, shape_at, shown}
use Rattle.machine.specs.ViewTexts.{text_of_item, text_of_item_by}
use Rattle.session.specs.declared.faults.ExecFault.{ExecFault}
use Rattle.session.specs.Coming.{seen_as}
use Rattle.session.specs.Executing.{Executed}
use Rattle.session.specs.Iterating.{Turned}
use Rattle.session.specs.KnownShapes.{AreKnown, is_known_item, is_known_shape}
use Rattle.session.specs.Later.{AreLater}
use Rattle.session.specs.Replying.{Refuses, Said}
use Rattle.session.proofs.CallLemmas.{calm_on, does_said, with_bases, written_known}
use Rattle.session.proofs.KnownLemmas.{item_plain}
use Rattle.session.proofs.LaterLemmas.{bases_themselves, edited_later}
use Rattle.session.proofs.NameLemmas.{executed_unchanged}
use Rattle.session.proofs.ReplyLemmas.{said_refusal}
use Rattle.view_steps.specs.KnownViews.{number_under}
use Rattle.view_steps.proofs.ChangeLemmas.{edited_base}
use Rattle.vocabulary.specs.declared.items.Item.{Item}
use Rattle.vocabulary.specs.declared.lines.OnIterator.{OnIterator}
use Rattle.vocabulary.specs.declared.lines.OnIterator.TheVariants.{HasNext, Next, Remove}
use Rattle.vocabulary.specs.declared.refusals.Refusal.{Refusal}
use Rattle.vocabulary.specs.declared.refusals.Refusal.TheVariants as refusal
use Rattle.vocabulary.specs.declared.shapes.RowSort.TheVariants as rows
use Rattle.vocabulary.specs.declared.shapes.Shape.{Shape}
use Rattle.vocabulary.specs.declared.shapes.Shape.TheVariants as shape
use Rattle.vocabulary.specs.Refusals.{name_of}

-- ---- a name that is bound again to what it stood for

bound_again : (names : Names) (name : List ℕ) (it : Bound) → bound_to names name ≡ Some it → bound names name it ≡ names
bound_again [] name it e = cc
bound_again (x ∷ names) name it e = by (pointwise nat_eq name x.0) e (bound_again names name it)
  where
    by : (b : Bool) → cond b (Some x.1) (bound_to names name) ≡ Some it → (bound_to names name ≡ Some it → bound names name it ≡ names) → cond b ((x.0, it) ∷ names) (x ∷ bound names name it) ≡ x ∷ names
    by true e rest = let same : it ≡ x.1 = cc in ap (λ (b : Bound). (x.0, b) ∷ names) same
    by false e rest = ap (λ (ns : Names). x ∷ ns) (rest e)

-- ---- replies

module _ {r : Result (Unit {0}) ExecFault} {t u : Option (List ℕ)} {f g : ℕ} where
  -- the iterator moved, and a reply was said
  pub moved : (s : Stored) (seat back : Seat) (word : Option OnIterator) (text : List ℕ) → ((names : Names) (name : List ℕ) → bound_to names name ≡ Some (to_iterator (iterator_in s seat))
      → (let o : Outcome = record { reply = Some text; after = seen_as s (bound names name (to_iterator (iterator_in s back))); memory = false } in o) ≡ iterated (seen_as s names) name (iterator_in s seat) word)
      → Said r t u f g (text ++ 10 ∷ []) → Turned r s s seat back word t u f g
  moved s seat back word text is said = record {
    nodes = refl;
    lasting = refl;
    handles = refl;
    later = bases_themselves s.world;
    executed = λ names name e. subst (λ (o : Outcome). Executed r (seen_as s names) (seen_as s (bound names name (to_iterator (iterator_in s back)))) o t u f g) (is names name e) (record {
      does = does_said r t u (seen_as s names) (seen_as s (bound names name (to_iterator (iterator_in s back)))) (seen_as s (bound names name (to_iterator (iterator_in s back)))) text false said.memory refl said.wrote;
      changes = λ n c. calm_on n s.world c;
      later = said.later;
      cause = said.cause;
    });
  }

  -- it stays where it is
  pub stayed : (s : Stored) (seat : Seat) (word : Option OnIterator) (text : List ℕ) → ((names : Names) (name : List ℕ) → says (seen_as s names) text ≡ iterated (seen_as s names) name (iterator_in s seat) word) → Said r t u f g (text ++ 10 ∷ []) → Turned r s s seat seat word t u f g
  stayed s seat word text is said =
      moved s seat seat word text (λ names name e. again names name e ∙ is names name) said
    where
      again : (names : Names) (name : List ℕ) → bound_to names name ≡ Some (to_iterator (iterator_in s seat)) → (let o : Outcome = record { reply = Some text; after = seen_as s (bound names name (to_iterator (iterator_in s seat))); memory = false } in o) ≡ says (seen_as s names) text
      again names name e = ap (λ (ns : Names). let o : Outcome = record { reply = Some text; after = seen_as s ns; memory = false } in o) (bound_again names name (to_iterator (iterator_in s seat)) e)

-- ---- refusals

-- why something is refused that is not refused for itself
refused_for : {X : Type 0} (o : Option Refusal) (x : X) (why : Refusal) → answering.unless_refused o (Ok x) ≡ Err why → o ≡ Some why
refused_for None x why e = cc
refused_for (Some because) x why e = let same : because ≡ why = cc in ap (λ (w : Refusal). Some w) same

stale_said : (b : Bool) (why : Refusal) → cond b (Some refusal.ConcurrentModification) None ≡ Some why → why ≢ refusal.NoMemory
stale_said true why e = λ m. (let a : refusal.ConcurrentModification ≡ why = cc in let no : refusal.ConcurrentModification ≡ refusal.NoMemory = a ∙ m in cc)
stale_said false why e = cc

-- none of them is want of memory
has_next_said : (world : World) (it : Iterator) (why : Refusal) → has_next world it ≡ Err why → why ≢ refusal.NoMemory
has_next_said world it why e = stale_said (is_passed_by world it) why (refused_for (passed_refusal world it) _ why e)

next_said : (world : World) (it : Iterator) (why : Refusal) → next_of world it ≡ Err why → why ≢ refusal.NoMemory
next_said world it why e = by (is_passed_by world it) (ahead world it) e
  where
    by : (b : Bool) (o : Option (ℕ × Item)) → answering.unless_refused (cond b (Some refusal.ConcurrentModification) None) (passed_on it o) ≡ Err why → why ≢ refusal.NoMemory
    by true o e = λ m. (let a : refusal.ConcurrentModification ≡ why = cc in let no : refusal.ConcurrentModification ≡ refusal.NoMemory = a ∙ m in cc)
    by false None e = λ m. (let a : refusal.NoSuchElement ≡ why = cc in let no : refusal.NoSuchElement ≡ refusal.NoMemory = a ∙ m in cc)
    by false (Some found) e = cc

remove_said : (world : World) (it : Iterator) (why : Refusal) → removed world it ≡ Err why → why ≢ refusal.NoMemory
remove_said world it why e = by (flags_at world it.view).iterate it.given (is_passed_by world it) (refused_for (remove_refusal world it) _ why e)
  where
    by : (a b c : Bool) → first_refusal (cond a None (Some refusal.UnsupportedOperation)) (first_refusal (cond b None (Some refusal.IllegalState)) (cond c (Some refusal.ConcurrentModification) None)) ≡ Some why → why ≢ refusal.NoMemory
    by false b c e = λ m. (let x : refusal.UnsupportedOperation ≡ why = cc in let no : refusal.UnsupportedOperation ≡ refusal.NoMemory = x ∙ m in cc)
    by true false c e = λ m. (let x : refusal.IllegalState ≡ why = cc in let no : refusal.IllegalState ≡ refusal.NoMemory = x ∙ m in cc)
    by true true c e = stale_said c why e

-- ---- items

item_of_shape : (of : Shape) (world : World) (v : View) (item : Item) → is_known_shape of ≡ true → text_of_item_by of world v item ≡ text_in of item
item_of_shape shape.List world v item h = refl
item_of_shape (shape.Set sorted) world v item h = refl
item_of_shape shape.Coll world v item h = refl
item_of_shape (shape.Rows rows.Entry) world v item h = refl
item_of_shape (shape.Map sorted) world v item h = refl
item_of_shape shape.BiMap world v item h = refl
item_of_shape _ world v item h = absurd (cc)

-- the text of an item that a known view shows
item_said : (world : World) (v : View) (item : Item) → is_known_shape (shape_at world v) ≡ true → is_known_item item ≡ true → item_text item ≡ text_of_item world v item
item_said world v item shape known = sym (item_of_shape (shape_at world v) world v item shape ∙ item_plain (shape_at world v) item known)

abbrev FoundKnown : Option (ℕ × Item) → Type 0
FoundKnown o = IfSome o (λ (found : ℕ × Item). is_known_item found.1 ≡ true)

-- what is found among known items is one
found_known : (n : ℕ) (cs : List Candidate) → AreKnown (map item_in (filter is_seen cs)) → FoundKnown (first_seen n cs)
found_known n [] h = tt
found_known n (c ∷ cs) h = by c.seen h (found_known (n + 1) cs)
  where
    by : (b : Bool) → AreKnown (map item_in (cond b (c ∷ filter is_seen cs) (filter is_seen cs))) → (AreKnown (map item_in (filter is_seen cs)) → FoundKnown (first_seen (n + 1) cs)) → FoundKnown (cond b (Some (n, c.item)) (first_seen (n + 1) cs))
    by true h rest = h.0
    by false h rest = rest h

left_known : (k : ℕ) (cs : List Candidate) → AreKnown (map item_in (filter is_seen cs)) → AreKnown (map item_in (filter is_seen (drop k cs)))
left_known zero cs h = h
left_known (suc k) [] h = h
left_known (suc k) (c ∷ cs) h = left_known k cs (by c.seen h)
  where
    by : (b : Bool) → AreKnown (map item_in (cond b (c ∷ filter is_seen cs) (filter is_seen cs))) → AreKnown (map item_in (filter is_seen cs))
    by true h = h.1
    by false h = h

abbrev item_got : Item → Result (Item × Iterator) Refusal → Item
item_got other (Ok found) = found.0
item_got other (Err why) = other

abbrev world_got : World → Result (Iterator × World) Refusal → World
world_got other (Ok done) = done.1
world_got other (Err why) = other

-- an item that an iterator gives is one that its view shows
pub given_known : (world : World) (it : Iterator) (item : Item) (after : Iterator) → AreKnown (shown world it.view) → next_of world it ≡ Ok (item, after) → is_known_item item ≡ true
given_known world it item after h e = by (is_passed_by world it) (ahead world it) (found_known it.passed (drop it.passed (candidates world it.view)) (left_known it.passed (candidates world it.view) h)) e
  where
    by : (b : Bool) (o : Option (ℕ × Item)) → FoundKnown o → answering.unless_refused (cond b (Some refusal.ConcurrentModification) None) (passed_on it o) ≡ Ok (item, after) → is_known_item item ≡ true
    by true o k e = cc
    by false None k e = cc
    by false (Some found) k e = ap is_known_item (sym (ap (item_got item) e)) ∙ k

-- the bases without what was given
gone_world : (s : Stored) (seat : Seat) (after : Iterator) (world : World) → removed s.world (iterator_in s seat) ≡ Ok (after, world) → world ≡ world_without s.world (iterator_in s seat)
gone_world s seat after world e = by (remove_refusal s.world (iterator_in s seat)) _ e
  where
    by : (o : Option Refusal) (x : Iterator) → answering.unless_refused {X = Iterator × World} o (Ok (x, world_without s.world (iterator_in s seat))) ≡ Ok (after, world) → world ≡ world_without s.world (iterator_in s seat)
    by None x e = sym (ap (world_got world) e)
    by (Some why) x e = cc

-- words that are none: more or fewer than one, or one with arguments
pub no_word : (line : List ℕ) (ps : List Placed) (part : Placed) → parts_in line ps ≡ part_in line part ∷ [] → (part.count ≡ 0 → ⊥) → None ≡ iterator_word (parts_in line ps)
no_word line ps part lone some = sym (ap iterator_word lone ∙ ap (λ (b : Bool). cond b (word_of part.word) None) (ap (λ (n : ℕ). nat_eq n 0) (length-so_many part.count (map (piece line) part.args)) ∙ none))
  where
    none : nat_eq part.count 0 ≡ false
    none = grind (arith, nat_tests)

-- ---- the words

module _ {r : Result (Unit {0}) ExecFault} {t u : Option (List ℕ)} {f g : ℕ} where
  pub turned_fault : (s : Stored) (seat : Seat) → Said r t u f g (codes "?call" ++ 10 ∷ []) → Turned r s s seat seat None t u f g
  turned_fault s seat said = stayed s seat None (codes "?call") (λ names name. refl) said

  pub turned_truth : (s : Stored) (seat : Seat) (truth : Bool) → Ok truth ≡ has_next s.world (iterator_in s seat) → Said r t u f g (truth_text truth ++ 10 ∷ []) → Turned r s s seat seat (Some HasNext) t u f g
  turned_truth s seat truth e said = stayed s seat (Some HasNext) (truth_text truth) (λ names name. ap (told (seen_as s names)) e) said

  pub turned_untold : (s : Stored) (seat : Seat) (why : Refusal) → Err why ≡ has_next s.world (iterator_in s seat) → Refuses why r t u f g → Turned r s s seat seat (Some HasNext) t u f g
  turned_untold s seat why e said = stayed s seat (Some HasNext) (name_of why) (λ names name. ap (told (seen_as s names)) e) (said_refusal why (has_next_said s.world (iterator_in s seat) why (sym e)) said)

  pub turned_next : (s : Stored) (seat back : Seat) (item : Item) → next_of s.world (iterator_in s seat) ≡ Ok (item, iterator_in s back) → is_known_shape (shape_at s.world (seat_view s seat)) ≡ true → is_known_item item ≡ true → Said r t u f g (item_text item ++ 10 ∷ [])
      → Turned r s s seat back (Some Next) t u f g
  turned_next s seat back item e shape known said =
      moved s seat back (Some Next) (item_text item)
      (λ names name here. ap (λ (text : List ℕ). let o : Outcome = record { reply = Some text; after = seen_as s (bound names name (to_iterator (iterator_in s back))); memory = false } in o) (item_said s.world (seat_view s seat) item shape known)
      ∙ ap (given (seen_as s names) name (iterator_in s seat)) (sym e)) said

  pub turned_no_next : (s : Stored) (seat back : Seat) (why : Refusal) → next_of s.world (iterator_in s seat) ≡ Err why → back ≡ seat → Refuses why r t u f g → Turned r s s seat back (Some Next) t u f g
  turned_no_next s seat back why e same said =
      subst (λ (x : Seat). Turned r s s seat x (Some Next) t u f g) (sym same)
      (stayed s seat (Some Next) (name_of why) (λ names name. ap (given (seen_as s names) name (iterator_in s seat)) (sym e)) (said_refusal why (next_said s.world (iterator_in s seat) why e) said))

  -- ---- remove

  pub turned_gone : (s now : Stored) (seat back : Seat) → Fits s seat → removed s.world (iterator_in s seat) ≡ Ok (iterator_in now back, now.world) → now ≡ with_world s now.world → Said r t u f g (codes "ok" ++ 10 ∷ []) → Turned r s now seat back (Some Remove) t u f g
  turned_gone s now seat back fits e only said = record {
    nodes = ap (λ (x : Stored). x.nodes) only;
    lasting = ap (λ (x : Stored). x.lasting) only;
    handles = ap (λ (x : Stored). x.handles) only;
    later = subst (AreLater s.world) (sym world_now) (edited_later s.world (number_under (seat_view s seat)) (removing (rows_given s.world (iterator_in s seat))) fits.there.within fits.there.kind tt);
    executed = λ names name here. subst (λ (o : Outcome). Executed r (seen_as s names) (after names name) o t u f g) (outcome names name) (record {
      does = does_said r t u (seen_as s names) (after names name) (after_gone names name) (codes "ok") false said.memory (seen names name) said.wrote;
      changes = λ n c. subst (λ (w : World). ChangesUpTo (n + 1) w) (sym world_now) (edited_base n s.world (number_under (seat_view s seat)) (removing (rows_given s.world (iterator_in s seat))) c);
      later = said.later;
      cause = said.cause;
    });
  }
    where
      world_now : now.world ≡ world_without s.world (iterator_in s seat)
      world_now = gone_world s seat (iterator_in now back) now.world e

      after : Names → List ℕ → State
      after names name = seen_as now (bound names name (to_iterator (iterator_in now back)))

      after_gone : Names → List ℕ → State
      after_gone names name = record { bases = now.world; names = bound names name (to_iterator (iterator_in now back)); handles = s.handles }

      seen : (names : Names) (name : List ℕ) → after names name ≡ after_gone names name
      seen names name = ap (λ (h : ℕ). record { bases = now.world; names = bound names name (to_iterator (iterator_in now back)); handles = h }) (ap (λ (x : Stored). x.handles) only)

      rebound : List ℕ → State → Outcome
      rebound name state = record { reply = Some (codes "ok"); after = record { bases = state.bases; names = bound state.names name (to_iterator (iterator_in now back)); handles = state.handles }; memory = false }

      outcome : (names : Names) (name : List ℕ) → (let o : Outcome = record { reply = Some (codes "ok"); after = after_gone names name; memory = false } in o) ≡ iterated (seen_as s names) name (iterator_in s seat) (Some Remove)
      outcome names name = ap (rebound name) (written_known (seen_as s names) (seat_view s seat) now.world fits.there.known) ∙ ap (gone (seen_as s names) name (iterator_in s seat)) (sym e)

  pub turned_kept : (s now : Stored) (seat back : Seat) (why : Refusal) → removed s.world (iterator_in s seat) ≡ Err why → now ≡ s → back ≡ seat → Refuses why r t u f g → Turned r s now seat back (Some Remove) t u f g
  turned_kept s now seat back why e same still said =
      subst (λ (x : Stored). Turned r s x seat back (Some Remove) t u f g) (sym same) (subst (λ (x : Seat). Turned r s s seat x (Some Remove) t u f g) (sym still)
      (stayed s seat (Some Remove) (name_of why) (λ names name. ap (gone (seen_as s names) name (iterator_in s seat)) (sym e)) (said_refusal why (remove_said s.world (iterator_in s seat) why e) said)))
