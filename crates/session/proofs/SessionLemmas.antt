-- The outcomes of lines, as the plain machine has them.
use Rattle.std.proofs.Common.{◌≡◌, ◌⊎◌, ◌≤◌, ℕ, Bool, true, false, cond, nat_lt, List, [], ◌∷◌, ◌++◌, length, inl, inr, map, Option, None, Some, Result, Ok, Err, OnOk, OnErr, ◌<◌, refl, sym, ◌∙◌, ap, subst, arith}
use Rattle.std.specs.Prelude.{codes}
use Rattle.std.specs.Map.{lookup}
use Rattle.std.specs.Option.{option_map}
use Rattle.std.proofs.lemmas.Bool.Decides.{nat_tests}
use Rattle.vocabulary.specs.Kinds.{kind_named}
use Rattle.machine.specs.Views.{shape_at}
use Rattle.base_store.specs.declared.store.Made.{Made}
use Rattle.base_store.specs.Stored.{Stored, view_in}
use Rattle.script_text.specs.declared.kinds.KindName.{KindName}
use Rattle.script_text.specs.declared.lines.Line.TheVariants as form
use Rattle.script_text.specs.declared.lines.Part.{Part as Placed}
use Rattle.script_text.specs.declared.lines.Slice.{Slice}
use Rattle.script_text.specs.Lines.{placed_line}
use Rattle.script_text.specs.Names.{kind_text}
use Rattle.script_text.specs.Trees.{Call, Expression, Tree, expr_view, in_pieces, line_view, map_expression, map_tree, part_of}
use Rattle.script_text.specs.Trees as tree
use Rattle.session.specs.declared.faults.ExecFault.{ExecFault}
use Rattle.session.specs.declared.faults.ExecFault.TheVariants.{NoMemory}
use Rattle.session.specs.Coming.{Came, seen_as}
use Rattle.cursor_seat.specs.declared.seat.Seat.{Seat}
use Rattle.session.specs.declared.bound.Bound.{Bound as Held}
use Rattle.session.specs.declared.bound.Bound.TheVariants as held
use Rattle.session.specs.Environment.{Entries, IsSettled, NamesWithin, bound_at, iterator_at, named}
use Rattle.session.specs.Iterating.{Turned}
use Rattle.session.specs.Later.{AreLater}
use Rattle.indexmap.specs.IndexMap.{insert_entry}
use Rattle.base_store.specs.Courses.{spots_in}
use Rattle.cursor_seat.specs.Seats.{Fits}
use Rattle.view_laws.specs.Spots.{TellAll}
use Rattle.vocabulary.specs.declared.lines.OnIterator.{OnIterator}
use Rattle.session.proofs.SeatLemmas.{seats_stay, seats_with, store_kept}
use Rattle.session.specs.Executing.{Executed}
use Rattle.session.specs.Following.{parts_in, target_in}
use Rattle.session.specs.KnownShapes.{is_known_shape}
use Rattle.session.specs.Replying.{Refuses, Said}
use Rattle.session.specs.Targets.{concluded, iterator_fault, let_concluded, shape_of}
use Rattle.machine.specs.Languages.{known, only_if}
use Rattle.machine.specs.Lines.{eval_of, step_of}
use Rattle.machine.specs.Naming.{it_of, let_of, new_of}
use Rattle.machine.specs.Outcomes.{Outcome, fault_text, refused_late, says}
use Rattle.machine.specs.Parts.{Part}
use Rattle.machine.specs.Iterating.{iterated, iterator_word}
use Rattle.machine.specs.Iterators.{Iterator}
use Rattle.machine.specs.State.{Bound, Names, State, bound, named as bound_to, to_iterator}
use Rattle.machine.specs.Typing.{typed_words}
use Rattle.vocabulary.specs.declared.lines.Fault.{Fault}
use Rattle.vocabulary.specs.declared.lines.Purpose.TheVariants as purpose
use Rattle.vocabulary.specs.Known.{is_known_kind}
use Rattle.vocabulary.specs.Limits.{most_handles}
use Rattle.vocabulary.specs.declared.kinds.Kind.{Kind}
use Rattle.vocabulary.specs.declared.refusals.Refusal.{Refusal}
use Rattle.vocabulary.specs.Refusals.{name_of}
use Rattle.vocabulary.specs.declared.refusals.Refusal.TheVariants as refusal
use Rattle.machine.specs.RowCounts.{ChangesUpTo}
use Rattle.session.proofs.NameLemmas.{bound_named, within_more, executed_said, executed_unchanged, handles-memory, named_bound, same_text, without_room}
use Rattle.session.proofs.CallLemmas.{calm_on, stays}
use Rattle.session.proofs.LineLemmas.{eval_leads, it_fault, let_leads}
use Rattle.session.proofs.ReplyLemmas.{takes_none}
use Rattle.session.proofs.TextLemmas.{eval_alike, it_alike, let_alike}

-- ---- the forms of a line, each as the tree that was read with the places of its arguments

module _ (state : State) (line : List ℕ) where
  abbrev stepped : Tree (Call Slice) → Outcome
  stepped t = step_of known state (map_tree (in_pieces line) t)

  pub on_blank : (parts : List Placed) (t : Tree (Call Slice)) → line_view form.Blank parts ≡ map_tree part_of t → (let o : Outcome = record { reply = None; after = state; memory = false } in o) ≡ stepped t
  on_blank parts tree.Blank e = refl
  on_blank parts tree.Long e = cc
  on_blank parts tree.Syntax e = cc
  on_blank parts (tree.New name kind) e = cc
  on_blank parts (tree.Let name x) e = cc
  on_blank parts (tree.It name x) e = cc
  on_blank parts (tree.Eval x) e = cc

  pub on_long : (parts : List Placed) (t : Tree (Call Slice)) → line_view form.Long parts ≡ map_tree part_of t → says state (codes "?long") ≡ stepped t
  on_long parts tree.Blank e = cc
  on_long parts tree.Long e = refl
  on_long parts tree.Syntax e = cc
  on_long parts (tree.New name kind) e = cc
  on_long parts (tree.Let name x) e = cc
  on_long parts (tree.It name x) e = cc
  on_long parts (tree.Eval x) e = cc

  pub on_syntax : (parts : List Placed) (t : Tree (Call Slice)) → line_view form.Syntax parts ≡ map_tree part_of t → says state (codes "?syntax") ≡ stepped t
  on_syntax parts tree.Blank e = cc
  on_syntax parts tree.Long e = cc
  on_syntax parts tree.Syntax e = refl
  on_syntax parts (tree.New name kind) e = cc
  on_syntax parts (tree.Let name x) e = cc
  on_syntax parts (tree.It name x) e = cc
  on_syntax parts (tree.Eval x) e = cc

  pub on_it : (name head : List ℕ) (parts : List Placed) (t : Tree (Call Slice)) → line_view (form.It name head) parts ≡ map_tree part_of t → it_of known state name (bound_to state.names head) (parts_in line parts) ≡ stepped t
  on_it name head parts tree.Blank e = cc
  on_it name head parts tree.Long e = cc
  on_it name head parts tree.Syntax e = cc
  on_it name head parts (tree.New n k) e = cc
  on_it name head parts (tree.Let n x) e = cc
  on_it name head parts (tree.It n x) e =
      let names : name ≡ n = cc in
      let same : expr_view head parts ≡ map_expression part_of x = cc in
      let heads : head ≡ x.head = ap (λ (y : Expression Placed). y.head) same in
      let calls : parts ≡ map part_of x.calls = ap (λ (y : Expression Placed). y.calls) same in
      ap (λ (m : List ℕ). it_of known state m (bound_to state.names head) (parts_in line parts)) names ∙ ap (λ (h : List ℕ). it_of known state n (bound_to state.names h) (parts_in line parts)) heads
      ∙ ap (λ (ps : List Placed). it_of known state n (bound_to state.names x.head) (parts_in line ps)) calls ∙ it_alike state n line (bound_to state.names x.head) x.calls
  on_it name head parts (tree.Eval x) e = cc

  pub on_new : (name : List ℕ) (kind : KindName) (parts : List Placed) (t : Tree (Call Slice)) → line_view (form.New name kind) parts ≡ map_tree part_of t → new_of state name (only_if is_known_kind (kind_named (kind_text kind))) ≡ stepped t
  on_new name kind parts tree.Blank e = cc
  on_new name kind parts tree.Long e = cc
  on_new name kind parts tree.Syntax e = cc
  on_new name kind parts (tree.New n k) e =
      let names : name ≡ n = cc in
      let kinds : kind_text kind ≡ k = cc in
      ap (λ (x : List ℕ). new_of state x (only_if is_known_kind (kind_named (kind_text kind)))) names ∙ ap (λ (x : List ℕ). new_of state n (only_if is_known_kind (kind_named x))) kinds
  on_new name kind parts (tree.Let n x) e = cc
  on_new name kind parts (tree.It n x) e = cc
  on_new name kind parts (tree.Eval x) e = cc

  pub on_let : (name head : List ℕ) (parts : List Placed) (t : Tree (Call Slice)) → line_view (form.Let name head) parts ≡ map_tree part_of t → let_of known state name (bound_to state.names head) (parts_in line parts) ≡ stepped t
  on_let name head parts tree.Blank e = cc
  on_let name head parts tree.Long e = cc
  on_let name head parts tree.Syntax e = cc
  on_let name head parts (tree.New n k) e = cc
  on_let name head parts (tree.Let n x) e =
      let names : name ≡ n = cc in
      let same : expr_view head parts ≡ map_expression part_of x = cc in
      let heads : head ≡ x.head = ap (λ (y : Expression Placed). y.head) same in
      let calls : parts ≡ map part_of x.calls = ap (λ (y : Expression Placed). y.calls) same in
      ap (λ (m : List ℕ). let_of known state m (bound_to state.names head) (parts_in line parts)) names ∙ ap (λ (h : List ℕ). let_of known state n (bound_to state.names h) (parts_in line parts)) heads
      ∙ ap (λ (ps : List Placed). let_of known state n (bound_to state.names x.head) (parts_in line ps)) calls ∙ let_alike state n line (bound_to state.names x.head) x.calls
  on_let name head parts (tree.It n x) e = cc
  on_let name head parts (tree.Eval x) e = cc

  pub on_eval : (head : List ℕ) (parts : List Placed) (t : Tree (Call Slice)) → line_view (form.Eval head) parts ≡ map_tree part_of t → eval_of known state head (bound_to state.names head) (parts_in line parts) ≡ stepped t
  on_eval head parts tree.Blank e = cc
  on_eval head parts tree.Long e = cc
  on_eval head parts tree.Syntax e = cc
  on_eval head parts (tree.New n k) e = cc
  on_eval head parts (tree.Let n x) e = cc
  on_eval head parts (tree.It n x) e = cc
  on_eval head parts (tree.Eval x) e =
      let same : expr_view head parts ≡ map_expression part_of x = cc in
      let heads : head ≡ x.head = ap (λ (y : Expression Placed). y.head) same in
      let calls : parts ≡ map part_of x.calls = ap (λ (y : Expression Placed). y.calls) same in
      ap (λ (h : List ℕ). eval_of known state h (bound_to state.names h) (parts_in line parts)) heads
      ∙ ap (λ (ps : List Placed). eval_of known state x.head (bound_to state.names x.head) (parts_in line ps)) calls ∙ eval_alike state x.head line (bound_to state.names x.head) x.calls

-- ---- how long a line is

long_when : (b : Bool) (rest : Tree (Call Slice)) → b ≡ true → map_tree part_of (cond b tree.Long rest) ≡ tree.Long
long_when b rest e = ap (λ (x : Bool). map_tree part_of (cond x tree.Long rest)) e

-- a line that is not too long has at most 1,024 bytes
short_line : (line : List ℕ) (t : Tree Placed) → (t ≡ tree.Long → ⊥) → t ≡ map_tree part_of (placed_line line) → length line ≤ 1024
unfolding placed_line
short_line line t short e = by (nat_lt 1024 (length line)) refl
  where
    by : (b : Bool) → nat_lt 1024 (length line) ≡ b → length line ≤ 1024
    by true is = absurd (short (e ∙ long_when _ _ is))
    by false is = grind (arith, nat_tests)

pub short_let : (name head line : List ℕ) (parts : List Placed) → line_view (form.Let name head) parts ≡ map_tree part_of (placed_line line) → length line ≤ 1024
short_let name head line parts e = short_line line (tree.Let name (expr_view head parts)) (λ q. cc) e

pub short_it : (name head line : List ℕ) (parts : List Placed) → line_view (form.It name head) parts ≡ map_tree part_of (placed_line line) → length line ≤ 1024
short_it name head line parts e = short_line line (tree.It name (expr_view head parts)) (λ q. cc) e

pub short_eval : (head line : List ℕ) (parts : List Placed) → line_view (form.Eval head) parts ≡ map_tree part_of (placed_line line) → length line ≤ 1024
short_eval head line parts e = short_line line (tree.Eval (expr_view head parts)) (λ q. cc) e

-- ---- executions

module _ {r : Result (Unit {0}) ExecFault} {t u : Option (List ℕ)} {f g : ℕ} where
  -- the same outcome in other words, from the same state in other words
  pub executed_from : (before before' now : State) (outcome : State → Outcome) (wanted : Outcome) → before ≡ before' → outcome before' ≡ wanted → Executed r before now (outcome before) t u f g → Executed r before' now wanted t u f g
  executed_from before before' now outcome wanted e is h = subst (λ (o : Outcome). Executed r before' now o t u f g) is (subst (λ (x : State). Executed r x now (outcome x) t u f g) e h)

pub executed_blank : (state now : State) (t : Option (List ℕ)) (f : ℕ) → now ≡ state → Executed {T = Unit {0}} (Ok tt) state now (record { reply = None; after = state; memory = false }) t t f f
executed_blank state now t f e = record { does = (e, takes_none t); changes = λ n c. calm_on n now.bases (subst (λ (x : State). ChangesUpTo n x.bases) (sym e) c); later = omega arith; cause = λ q. cc }

pub executed_no_memory : (state now : State) (outcome : Outcome) (t : Option (List ℕ)) (f : ℕ) → now ≡ state → outcome.memory ≡ true → Executed {T = Unit {0}} (Err NoMemory) state now outcome t t f f
executed_no_memory state now outcome t f e wants = record { does = (e, stays t, wants); changes = λ n c. calm_on n now.bases (subst (λ (x : State). ChangesUpTo n x.bases) (sym e) c); later = omega arith; cause = λ q. cc }

-- what a store and names are seen as where they are as before
pub seen_same : (s now : Stored) (names names' : Entries) → now ≡ s → names' ≡ names → seen_as now (named now.nodes names') ≡ seen_as s (named s.nodes names)
seen_same s now names names' e is = ap (λ (x : Stored). seen_as x (named x.nodes names')) e ∙ ap (λ (ns : Entries). seen_as s (named s.nodes ns)) is

-- want of memory, as a refusal
pub executed_silent : {q : Result (Unit {0}) ExecFault} {t u : Option (List ℕ)} {f g : ℕ} (s now : Stored) (names names' : Entries) (outcome : Outcome) → now ≡ s → names' ≡ names → outcome.memory ≡ true → Refuses refusal.NoMemory q t u f g
    → Executed q (seen_as s (named s.nodes names)) (seen_as now (named now.nodes names')) outcome t u f g
executed_silent {q} {t} {u} {f} {g} s now names names' outcome same unnamed wants said =
    subst (λ (x : Result (Unit {0}) ExecFault). Executed x before after outcome t u f g) (sym said.0)
    (subst (λ (x : Option (List ℕ)). Executed {T = Unit {0}} (Err NoMemory) before after outcome t x f g) (sym said.1)
    (subst (λ (x : ℕ). Executed {T = Unit {0}} (Err NoMemory) before after outcome t t f x) (sym said.2) (executed_no_memory before after outcome t f (seen_same s now names names' same unnamed) wants)))
  where
    before : State
    before = seen_as s (named s.nodes names)

    after : State
    after = seen_as now (named now.nodes names')

-- ---- an expression behind a name

pub name_unknown : (nodes : List Made) (names : Entries) (name : List ℕ) → lookup (same_text name) names ≡ None → bound_to (named nodes names) name ≡ None
name_unknown nodes names name e = named_bound nodes names name ∙ ap (option_map (bound_at nodes)) e

pub executed_eval : {r : Result (Unit {0}) ExecFault} {t u : Option (List ℕ)} {f g : ℕ} (s now : Stored) (names : Entries) (name : List ℕ) (head : ℕ) (parts : List Part) → lookup (same_text name) names ≡ Some (held.View head)
    → is_known_shape (shape_at s.world (view_in s head)) ≡ true → Came r s now (λ state. concluded state (target_in s s.handles names purpose.Reply head parts)) t u f g
    → Executed r (seen_as s (named s.nodes names)) (seen_as now (named now.nodes names)) (eval_of known (seen_as s (named s.nodes names)) name (bound_to (named s.nodes names) name) parts) t u f g
executed_eval {r} {t} {u} {f} {g} s now names name head parts found shape h =
    subst (λ (o : Outcome). Executed r before (seen_as now (named now.nodes names)) o t u f g) outcome
    (subst (λ (ns : List Made). Executed r before (seen_as now (named ns names)) (concluded before (target_in s s.handles names purpose.Reply head parts)) t u f g) (sym h.nodes) (h.executed (named s.nodes names)))
  where
    before : State
    before = seen_as s (named s.nodes names)

    outcome : concluded before (target_in s s.handles names purpose.Reply head parts) ≡ eval_of known before name (bound_to (named s.nodes names) name) parts
    outcome = eval_leads before (view_in s head) parts shape ∙ ap (λ (o : Option Bound). eval_of known before name o parts) (sym (named_bound s.nodes names name ∙ ap (option_map (bound_at s.nodes)) found))

-- words with a fault behind a name
pub executed_fault : {q : Result (Unit {0}) ExecFault} {t u : Option (List ℕ)} {f g : ℕ} (s : Stored) (names : Entries) (name headname : List ℕ) (head : ℕ) (parts : List Part) (fault : Fault) → lookup (same_text headname) names ≡ Some (held.View head)
    → is_known_shape (shape_at s.world (view_in s head)) ≡ true → target_in s s.handles names purpose.Name head parts ≡ Err fault → Said q t u f g (fault_text fault ++ 10 ∷ [])
    → Executed q (seen_as s (named s.nodes names)) (seen_as s (named s.nodes names)) (let_of known (seen_as s (named s.nodes names)) name (bound_to (named s.nodes names) headname) parts) t u f g
executed_fault {q} {t} {u} {f} {g} s names name headname head parts fault found shape faulty said =
    subst (λ (o : Outcome). Executed q before before o t u f g) outcome (executed_said q before t u f g (fault_text fault) said)
  where
    before : State
    before = seen_as s (named s.nodes names)

    outcome : says before (fault_text fault) ≡ let_of known before name (bound_to (named s.nodes names) headname) parts
    outcome =
        sym (ap (let_concluded before name (length parts)) faulty) ∙ let_leads before name (view_in s head) parts shape
        ∙ ap (λ (o : Option Bound). let_of known before name o parts) (sym (named_bound s.nodes names headname ∙ ap (option_map (bound_at s.nodes)) found))

-- and words to which no iterator is given
pub executed_no_iterator : {q : Result (Unit {0}) ExecFault} {t u : Option (List ℕ)} {f g : ℕ} (s : Stored) (names : Entries) (name headname : List ℕ) (head : ℕ) (parts : List Part) (why : Fault) → lookup (same_text headname) names ≡ Some (held.View head)
    → Some why ≡ iterator_fault (shape_of (typed_words known s.world (named s.nodes names) purpose.Iterator (shape_at s.world (view_in s head)) parts)) → Said q t u f g (fault_text why ++ 10 ∷ [])
    → Executed q (seen_as s (named s.nodes names)) (seen_as s (named s.nodes names)) (it_of known (seen_as s (named s.nodes names)) name (bound_to (named s.nodes names) headname) parts) t u f g
executed_no_iterator {q} {t} {u} {f} {g} s names name headname head parts why found faulty said =
    subst (λ (o : Outcome). Executed q before before o t u f g) outcome (executed_said q before t u f g (fault_text why) said)
  where
    before : State
    before = seen_as s (named s.nodes names)

    outcome : says before (fault_text why) ≡ it_of known before name (bound_to (named s.nodes names) headname) parts
    outcome =
        it_fault before name (view_in s head) parts why faulty
        ∙ ap (λ (o : Option Bound). it_of known before name o parts) (sym (named_bound s.nodes names headname ∙ ap (option_map (bound_at s.nodes)) found))

-- what a name stands for that is an iterator's
pub name_iterates : (nodes : List Made) (names : Entries) (name : List ℕ) (seat : Seat) → lookup (same_text name) names ≡ Some (held.Iterator seat) → bound_to (named nodes names) name ≡ Some (to_iterator (iterator_at nodes seat))
name_iterates nodes names name seat e = named_bound nodes names name ∙ ap (option_map (bound_at nodes)) e

-- a new base for which there is no handle, or no memory
pub executed_full : {q : Result (Unit {0}) ExecFault} {t u : Option (List ℕ)} {f g : ℕ} (s now : Stored) (names names' : Entries) (name : List ℕ) (kind : Kind) (why : Refusal) → now ≡ s → names' ≡ names
    → ((why ≡ refusal.Limit) × (s.handles ≡ most_handles)) ⊎ (why ≡ refusal.NoMemory) → Refuses why q t u f g
    → Executed q (seen_as s (named s.nodes names)) (seen_as now (named now.nodes names')) (new_of (seen_as s (named s.nodes names)) name (Some kind)) t u f g
executed_full {q} {t} {u} {f} {g} s now names names' name kind why same unnamed (inr memory) said =
    executed_silent s now names names' _ same unnamed (handles-memory (seen_as s (named s.nodes names)) 1 _ refl) (subst (λ (x : Refusal). Refuses x q t u f g) memory said)
executed_full {q} {t} {u} {f} {g} s now names names' name kind why same unnamed (inl full) said =
    subst (λ (o : Outcome). Executed q before (seen_as now (named now.nodes names')) o t u f g) (sym (without_room before 1 _ (omega (arith, full.1))))
    (subst (λ (x : State). Executed q before x (refused_late before refusal.Limit) t u f g) (sym (seen_same s now names names' same unnamed)) (executed_unchanged q before t u f g (name_of refusal.Limit) true told))
  where
    before : State
    before = seen_as s (named s.nodes names)

    told : Said q t u f g (name_of refusal.Limit ++ 10 ∷ [])
    told = subst (λ (x : Refusal). Refuses x q t u f g) full.0 said

-- ---- iterators behind names

-- what comes of a name that stands for no view
pub no_view : (nodes : List Made) (names : Entries) (name : List ℕ) (it : Held) → lookup (same_text name) names ≡ Some it → ((n : ℕ) → it ≡ held.View n → ⊥) → (P : Option Bound → Outcome) (o : Outcome) → ((i : Iterator) → o ≡ P (Some (to_iterator i))) → o ≡ P (bound_to (named nodes names) name)
no_view nodes names name (held.View n) e never P o h = absurd (never n refl)
no_view nodes names name (held.Iterator seat) e never P o h = h (iterator_at nodes seat) ∙ ap P (sym (name_iterates nodes names name seat e))

-- what was entered where nothing else can come
pub entered : {T E P X : Type 0} (r : Result T E) (x : Option X) (it : X) → OnOk r P → OnErr r (x ≡ None) → x ≡ Some it → P
entered (Ok v) x it p none e = p
entered (Err why) x it p none e = cc

-- the names fit a store at a later time whose nodes are what they were
pub settled_came : (s now : Stored) (names : Entries) → IsSettled s names → now.nodes ≡ s.nodes → now.lasting ≡ s.lasting → AreLater s.world now.world → TellAll now.world (spots_in now.world) → IsSettled now names
settled_came s now names h nodes lasting later tell = record {
  still = ap (λ (ns : List Made). length ns) nodes ∙ h.still ∙ sym lasting;
  named_within = subst (λ (n : ℕ). NamesWithin n names) (sym lasting) h.named_within;
  seated = seats_stay s now names (store_kept s now nodes later tell) h.seated;
}

-- and so do they with one of them bound again to its iterator
pub settled_turned : (s now : Stored) (names names' : Entries) (name : List ℕ) (moved : Seat) → IsSettled s names → now.nodes ≡ s.nodes → now.lasting ≡ s.lasting → AreLater s.world now.world → Fits now moved → names' ≡ insert_entry same_text names name (held.Iterator moved) → IsSettled now names'
settled_turned s now names names' name moved h nodes lasting later fits is =
    let same : IsSettled now names = settled_came s now names h nodes lasting later fits.there.tell in
    let there : moved.node < length now.nodes = fits.there.node in
    subst (IsSettled now) (sym is) (record {
      still = same.still;
      named_within = within_more names name (held.Iterator moved) now.lasting now.lasting same.named_within (omega arith) (omega (arith, there, same.still));
      seated = seats_with now names name (held.Iterator moved) same.seated fits;
    })

pub executed_turned : {r : Result (Unit {0}) ExecFault} {t u : Option (List ℕ)} {f g : ℕ} (s now : Stored) (names names' : Entries) (name : List ℕ) (seat moved : Seat) (word : Option OnIterator) (parts : List Part) → lookup (same_text name) names ≡ Some (held.Iterator seat)
    → names' ≡ insert_entry same_text names name (held.Iterator moved) → word ≡ iterator_word parts → Turned r s now seat moved word t u f g
    → Executed r (seen_as s (named s.nodes names)) (seen_as now (named now.nodes names')) (eval_of known (seen_as s (named s.nodes names)) name (bound_to (named s.nodes names) name) parts) t u f g
executed_turned {r} {t} {u} {f} {g} s now names names' name seat moved word parts found is asks h =
    subst (λ (o : Outcome). Executed r before (seen_as now (named now.nodes names')) o t u f g) outcome
    (subst (λ (ns : Names). Executed r before (seen_as now ns) (iterated before name (iterator_at s.nodes seat) word) t u f g) (sym names_now) (h.executed (named s.nodes names) name (name_iterates s.nodes names name seat found)))
  where
    before : State
    before = seen_as s (named s.nodes names)

    names_now : named now.nodes names' ≡ bound (named s.nodes names) name (bound_at now.nodes (held.Iterator moved))
    names_now =
        ap (named now.nodes) is ∙ bound_named now.nodes names name (held.Iterator moved)
        ∙ ap (λ (nodes : List Made). bound (named nodes names) name (bound_at now.nodes (held.Iterator moved))) h.nodes

    outcome : iterated before name (iterator_at s.nodes seat) word ≡ eval_of known before name (bound_to (named s.nodes names) name) parts
    outcome = ap (iterated before name (iterator_at s.nodes seat)) asks ∙ ap (λ (o : Option Bound). eval_of known before name o parts) (sym (name_iterates s.nodes names name seat found))
