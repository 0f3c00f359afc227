-- How often a line asks the bases.
use Rattle.std.proofs.Common.{◌≡◌, ℕ, ◌+◌, ◌≤◌, Bool, true, false, cond, ◌&&◌, ◌||◌, List, map, Option, None, Some, Result, refl, sym, ◌∙◌, ap, subst, arith}
use Rattle.std.specs.Map.{lookup}
use Rattle.std.specs.Option.{option_map}
use Rattle.base_store.specs.Stored.{Stored}
use Rattle.machine.specs.Bases.{World}
use Rattle.machine.specs.Parts.{Part}
use Rattle.machine.specs.State.{Bound, State, named as bound_to, to_iterator, to_view}
use Rattle.machine.specs.Typing.{Typing}
use Rattle.machine.specs.Views.{View, shape_at}
use Rattle.read_chain.specs.ListLookUps.{is_asked_at_once}
use Rattle.read_chain.specs.Reads.{is_looked_up}
use Rattle.script_text.specs.declared.lines.Line.TheVariants as form
use Rattle.script_text.specs.declared.lines.Part.{Part as Placed}
use Rattle.script_text.specs.declared.lines.Slice.{Slice}
use Rattle.script_text.specs.Trees.{Expression, Tree, expr_view, in_pieces, line_view, map_expression, map_tree, part_of, Call as Word}
use Rattle.script_text.specs.Trees as tree
use Rattle.session.specs.Bounds.{AsksAtMost, most_for, most_for_words, most_in, most_of_call, most_of_iterator}
use Rattle.session.specs.Coming.{seen_as}
use Rattle.session.specs.declared.bound.Bound.TheVariants as held
use Rattle.session.specs.Environment.{Entries, bound_at, iterator_at, named}
use Rattle.cursor_seat.specs.declared.seat.Seat.{Seat}
use Rattle.machine.specs.Iterating.{iterator_word}
use Rattle.vocabulary.specs.declared.lines.OnIterator.{OnIterator}
use Rattle.session.specs.Following.{parts_in, target_in}
use Rattle.session.specs.Targets.{reach}
use Rattle.session.proofs.NameLemmas.{named_bound, same_text}
use Rattle.session.proofs.TextLemmas.{iterator_alike, words_alike as typed_alike}
use Rattle.vocabulary.specs.declared.calls.Call.{Call}
use Rattle.vocabulary.specs.declared.lines.Fault.{Fault}
use Rattle.vocabulary.specs.declared.lines.Purpose.TheVariants as purpose
use Rattle.vocabulary.specs.Shapes.{is_keyed}
use Rattle.write_chain.specs.Calls.{is_forced, is_removed_at_once, is_single}

-- what asks nothing keeps any bound
pub asks_nothing : (most : Option ℕ) (n : ℕ) → AsksAtMost most n n
asks_nothing None n = tt
asks_nothing (Some most) n = omega arith

-- the bound of another line that has the same
pub same_bound : (most other : Option ℕ) (before after : ℕ) → most ≡ other → AsksAtMost most before after → AsksAtMost other before after
same_bound most other before after e h = subst (λ (m : Option ℕ). AsksAtMost m before after) e h

either : (a b : Bool) (P : Type 0) → (a ≡ true → P) → (b ≡ true → P) → a || b ≡ true → P
either true b P f g h = f refl
either false b P f g h = g h

first_of : (a b : Bool) → a && b ≡ true → a ≡ true
first_of true b h = refl
first_of false b h = h

second_of : (a b : Bool) → a && b ≡ true → b ≡ true
second_of true b h = h
second_of false b h = absurd (cc)

-- a bound that holds where a test passes, and else the next
if_at_most : (t : Bool) (most : ℕ) (rest : Option ℕ) (before after : ℕ) → (t ≡ true → after ≤ before + most) → AsksAtMost rest before after → AsksAtMost (cond t (Some most) rest) before after
if_at_most true most rest before after here there = here refl
if_at_most false most rest before after here there = there

-- the bounds of a call, by what it is
pub call_bound : (world : World) (v : View) (call : Call) (before after : ℕ) → (is_looked_up (shape_at world v) call ≡ true → after ≤ before + 1) → (is_asked_at_once world v call ≡ true → after ≤ before + 1)
    → (is_removed_at_once world v call ≡ true → after ≤ before + 2) → (is_single call ≡ true → is_keyed (shape_at world v) ≡ true → after ≤ before + 3) → (is_forced call ≡ true → after ≤ before + 4)
    → AsksAtMost (most_of_call world v call) before after
call_bound world v call before after looked asked removed single forced =
    let looks = is_looked_up (shape_at world v) call in
    let at_once = is_asked_at_once world v call in
    let one = is_single call in
    let keyed = is_keyed (shape_at world v) in
    if_at_most (looks || at_once) 1 _ before after (either looks at_once (after ≤ before + 1) looked asked)
    (if_at_most (is_removed_at_once world v call) 2 _ before after removed
    (if_at_most (one && keyed) 3 _ before after (λ h. single (first_of one keyed h) (second_of one keyed h)) (if_at_most (is_forced call) 4 None before after forced tt)))

-- ---- the words behind a name

pub words_bound : (s : Stored) (names : Entries) (name : List ℕ) (head : ℕ) (parts : List Part) → lookup (same_text name) names ≡ Some (held.View head)
    → most_for s.world (target_in s s.handles names purpose.Reply head parts) ≡ most_for_words (seen_as s (named s.nodes names)) (bound_to (named s.nodes names) name) parts
words_bound s names name head parts found =
    ap (λ (o : Option Bound). most_for_words (seen_as s (named s.nodes names)) o parts) (sym (named_bound s.nodes names name ∙ ap (option_map (bound_at s.nodes)) found))

-- a word of an iterator
pub turn_bound : (s : Stored) (names : Entries) (name : List ℕ) (seat : Seat) (word : Option OnIterator) (parts : List Part) → lookup (same_text name) names ≡ Some (held.Iterator seat) → word ≡ iterator_word parts
    → most_of_iterator s.world (iterator_at s.nodes seat) word ≡ most_for_words (seen_as s (named s.nodes names)) (bound_to (named s.nodes names) name) parts
turn_bound s names name seat word parts found asks =
    ap (most_of_iterator s.world (iterator_at s.nodes seat)) asks
    ∙ ap (λ (o : Option Bound). most_for_words (seen_as s (named s.nodes names)) o parts) (sym (named_bound s.nodes names name ∙ ap (option_map (bound_at s.nodes)) found))

-- ---- a line

words_alike : (state : State) (line : List ℕ) (head : Option Bound) (cs : List (Word Slice)) → most_for_words state head (parts_in line (map part_of cs)) ≡ most_for_words state head (map (in_pieces line) cs)
words_alike state line None cs = refl
words_alike state line (Some (to_iterator it)) cs = ap (most_of_iterator state.bases it) (iterator_alike line cs)
words_alike state line (Some (to_view v)) cs = ap (λ (t : Result Typing Fault). most_for state.bases (reach state.bases state.handles v t)) (typed_alike line state.bases state.names purpose.Reply (shape_at state.bases v) cs)

-- the bound of a line is that of the words behind its name
pub line_bound : (state : State) (line head : List ℕ) (parts : List Placed) (t : Tree (Word Slice)) → line_view (form.Eval head) parts ≡ map_tree part_of t
    → most_for_words state (bound_to state.names head) (parts_in line parts) ≡ most_in state (map_tree (in_pieces line) t)
line_bound state line head parts tree.Blank e = cc
line_bound state line head parts tree.Long e = cc
line_bound state line head parts tree.Syntax e = cc
line_bound state line head parts (tree.New n k) e = cc
line_bound state line head parts (tree.Let n x) e = cc
line_bound state line head parts (tree.It n x) e = cc
line_bound state line head parts (tree.Eval x) e =
    let same : expr_view head parts ≡ map_expression part_of x = cc in
    let heads : head ≡ x.head = ap (λ (y : Expression Placed). y.head) same in
    let calls : parts ≡ map part_of x.calls = ap (λ (y : Expression Placed). y.calls) same in
    ap (λ (h : List ℕ). most_for_words state (bound_to state.names h) (parts_in line parts)) heads
    ∙ ap (λ (ps : List Placed). most_for_words state (bound_to state.names x.head) (parts_in line ps)) calls
    ∙ words_alike state line (bound_to state.names x.head) x.calls
