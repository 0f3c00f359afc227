-- A store stays sound while nodes come and go, another base comes, and the rows of a base change.
use Rattle.std.proofs.Common.{◌≡◌, ℕ, ◌+◌, ◌-◌, ◌<◌, ◌≤◌, true, ◌&&◌, List, [], ◌∷◌, ◌++◌, length, get_or, set, take, refl, ap, sym, ◌∙◌, subst, inl, inr, arith, zero, suc, length-append}
use Rattle.std.specs.Prelude.{slice_get, Some}
use Rattle.std.proofs.lemmas.Bool.{cases_lt}
use Rattle.std.proofs.lemmas.List.{length-set, length-take}
use Rattle.std.proofs.lemmas.Option.{slice_get-get_or, slice_get_within}
use Rattle.vocabulary.specs.declared.kinds.Kind.{Kind}
use Rattle.vocabulary.specs.declared.steps.Step.{Step}
use Rattle.machine.specs.Edits.{Edit, edited}
use Rattle.view_steps.specs.KnownViews.{edited_at, is_known, is_known_view, number_under}
use Rattle.machine.specs.MadeViews.{IsMade, IsStepOn}
use Rattle.vocabulary.specs.Limits.{most_rows}
use Rattle.base_rows.specs.BaseSpots.{HasKeys}
use Rattle.machine.specs.Bases.{Base, World, base_at, empty_base}
use Rattle.machine.specs.Leaves.{stored}
use Rattle.machine.specs.Views.{View, base, over, path}
use Rattle.vocabulary.specs.Known.{is_known_kind}
use Rattle.view_steps.proofs.KnownLemmas.{known_over, one_step}
use Rattle.view_steps.proofs.WorldLemmas.{more_at, written_at, written_kind}
use Rattle.view_steps.proofs.CountLemmas.{rows_in-at, rows_in-more, rows_in-written}
use Rattle.view_steps.proofs.MadeLemmas.{view_stays}
use Rattle.base_store.proofs.KeyedWorlds.{empty_keys, more_keys, no_base, written_keys}
use Rattle.base_store.specs.declared.store.Made.{Made}
use Rattle.base_store.specs.declared.store.Made.TheVariants as made
use Rattle.base_store.specs.declared.store.facts.Facts.{Facts}
use Rattle.base_store.specs.Facts.{AreFactsOf, facts_at}
use Rattle.base_store.specs.Limits.{most_handles}
use Rattle.base_store.specs.Nodes.{IsBelow, view_at}
use Rattle.base_store.specs.Stored.{Stored, IsBuilt, IsSound, view_in, with_base, with_kept, with_node, with_world, without_temporary}
use Rattle.base_store.proofs.FactLemmas.{facts_front, facts_push, facts_world, front_at, leaf_stays, written_mark}
use Rattle.base_store.proofs.NodeLemmas.{at_push, below_more, base_node, step_node, added_base, added_step}
use Rattle.base_store.proofs.ViewLemmas.{view_at-append, view_at-take}

-- ---- the base under a node

under_at : (s : Stored) (k n : ℕ) (node : Made) → ((m : ℕ) → m < n → m < length s.nodes → number_under (view_in s m) < length s.world)
    → slice_get s.nodes n ≡ Some node → IsBelow (length s.world) n node → n < length s.nodes → number_under (view_in s n) < length s.world
under_at s k n (made.Base b) before is below lt =
    let parts = base_node s n b (made.Base b) refl is below in
    subst (λ (v : View). number_under v < length s.world) (sym parts.0) parts.1
under_at s k n (made.Over step parent) before is below lt =
    let parts = step_node s n parent step (made.Over step parent) refl is below in
    subst (λ (v : View). number_under v < length s.world) (sym parts.0) (before parent parts.1 (omega (arith, parts.1)))

under_within : (s : Stored) (k n : ℕ) → IsBuilt s → n < k → n < length s.nodes → number_under (view_in s n) < length s.world
under_within s zero n h low lt = absurd (omega arith)
under_within s (suc k) n h low lt =
    let node : Made = get_or s.nodes n (made.Base 0) in
    let is : slice_get s.nodes n ≡ Some node = slice_get-get_or s.nodes n (made.Base 0) lt in
    under_at s k n node (λ m less within. under_within s k m h (omega arith) within) is (h.below n node is) lt

-- the base under a node is one of the store's
pub base_within : (s : Stored) (n : ℕ) → IsBuilt s → n < length s.nodes → number_under (view_in s n) < length s.world
base_within s n h lt = under_within s (n + 1) n h (omega arith) lt

-- no more steps lead to a node than there are nodes before it
path_at : (s : Stored) (n : ℕ) (node : Made) → is_known_view (view_in s n) ≡ true → ((m : ℕ) → m < n → path (view_in s m) ≤ m) → slice_get s.nodes n ≡ Some node → IsBelow (length s.world) n node → path (view_in s n) ≤ n
path_at s n (made.Base b) known before is below =
    let parts = base_node s n b (made.Base b) refl is below in
    omega (arith, ap path parts.0)
path_at s n (made.Over step parent) known before is below =
    let parts = step_node s n parent step (made.Over step parent) refl is below in
    let one = one_step step (known_over step (view_in s parent) (ap is_known_view (sym parts.0) ∙ known)).0 in
    omega (arith, ap path parts.0, one, parts.1, before parent parts.1)

path_within : (s : Stored) (k n : ℕ) → IsBuilt s → n < k → n < length s.nodes → path (view_in s n) ≤ n
path_within s zero n h low lt = absurd (omega arith)
path_within s (suc k) n h low lt =
    let node : Made = get_or s.nodes n (made.Base 0) in
    let is : slice_get s.nodes n ≡ Some node = slice_get-get_or s.nodes n (made.Base 0) lt in
    path_at s n node (h.known n lt) (λ m less. path_within s k m h (omega arith) (omega arith)) is (h.below n node is)

pub path_below : (s : Stored) (n : ℕ) → IsBuilt s → n < length s.nodes → path (view_in s n) ≤ n
path_below s n h lt = path_within s (n + 1) n h (omega arith) lt

-- ---- nodes

-- the store without the temporary nodes
pub built_front : (s : Stored) → IsBuilt s → IsBuilt (without_temporary s)
built_front s h = record {
  below = λ n node is. h.below n node (front_at s.nodes s.lasting n node is);
  lasting = omega (arith, h.lasting, length-take s.lasting s.nodes);
  made = λ n lt. subst (λ (v : View). IsMade s.world v) (sym (view_at-take s.nodes s.lasting n lt)) (h.made n (omega (arith, lt, length-take s.lasting s.nodes)));
  known = λ n lt. ap is_known_view (view_at-take s.nodes s.lasting n lt) ∙ h.known n (omega (arith, lt, length-take s.lasting s.nodes));
  kinds = h.kinds;
  keys = h.keys;
}

-- what holds of each view holds where another node comes of whose view it holds
each_push : (P : View → Type 0) (nodes : List Made) (node : Made) → ((n : ℕ) → n < length nodes → P (view_at nodes n)) → P (view_at (nodes ++ node ∷ []) (length nodes)) → (n : ℕ) → n < length (nodes ++ node ∷ []) → P (view_at (nodes ++ node ∷ []) n)
each_push P nodes node each this n lt =
    elim (cases_lt n (length nodes)) [
      | inl less ↦ subst P (sym (view_at-append nodes (node ∷ []) n less)) (each n less)
      | inr le ↦
          let here : n ≡ length nodes = omega (arith, length-append nodes (node ∷ [])) in
          subst (λ (k : ℕ). P (view_at (nodes ++ node ∷ []) k)) (sym here) this
    ]

-- the store with another node, which stands on what stands before it, and whose view is known and made
pub built_node : (s : Stored) (node : Made) → IsBuilt s → IsBelow (length s.world) (length s.nodes) node → IsMade s.world (view_at (s.nodes ++ node ∷ []) (length s.nodes)) → is_known_view (view_at (s.nodes ++ node ∷ []) (length s.nodes)) ≡ true
    → IsBuilt (record { world = s.world; nodes = s.nodes ++ node ∷ []; lasting = s.lasting; handles = s.handles })
built_node s node h below made known = record {
  below = λ n other is. by n other is;
  lasting = omega (arith, length-append s.nodes (node ∷ []), h.lasting);
  made = each_push (λ (v : View). IsMade s.world v) s.nodes node h.made made;
  known = each_push (λ (v : View). is_known_view v ≡ true) s.nodes node h.known known;
  kinds = h.kinds;
  keys = h.keys;
}
  where
    by : (n : ℕ) (other : Made) → slice_get (s.nodes ++ node ∷ []) n ≡ Some other → IsBelow (length s.world) n other
    by n other is =
        let at = at_push s.nodes node other n is in
        elim (cases_lt n (length s.nodes)) [
          | inl lt ↦ h.below n other (at.0 lt)
          | inr le ↦ subst (λ (k : ℕ). IsBelow (length s.world) k other) (sym (at.1 le).1) (subst (λ (m : Made). IsBelow (length s.world) (length s.nodes) m) (at.1 le).0 below)
        ]

-- the store with another view
pub built_view : (s : Stored) (parent : ℕ) (step : Step) → is_known step ≡ true → IsBuilt s → parent < length s.nodes → IsStepOn s.world (view_in s parent) step
    → IsBuilt (record { world = s.world; nodes = s.nodes ++ made.Over step parent ∷ []; lasting = s.lasting; handles = s.handles })
built_view s parent step known h lt on =
    let is = added_step s.nodes step parent (length s.world) lt in
    built_node s (made.Over step parent) h lt (subst (λ (v : View). IsMade s.world v) (sym is) (on, h.made parent lt))
    (ap is_known_view is ∙ (λ i. known i && h.known parent lt i))

-- ---- bases that come and change

-- the store with another base
pub built_world : (s : Stored) (world : World) → IsBuilt s → length s.world ≤ length world → ((b : ℕ) → b < length s.world → (base_at world b).kind ≡ (base_at s.world b).kind) → ((b : ℕ) → is_known_kind (base_at world b).kind ≡ true) → ((b : ℕ) → HasKeys (base_at world b))
    → IsBuilt (with_world s world)
built_world s world h more same kinds keys = record {
  below = λ n node is. below_more (length s.world) (length world) n node more (h.below n node is);
  lasting = h.lasting;
  made = λ n lt.
      let v : View = view_in s n in
      let known = h.known n lt in
      (view_stays s.world world v known (leaf_stays (λ (it : Base). it.kind) s.world world v known (same (number_under v) (base_within s n h lt))) (h.made n lt)).0;
  known = h.known;
  kinds = kinds;
  keys = keys;
}

-- a world with one more base of a known kind
more_kinds : (world : World) (it : Base) → ((b : ℕ) → is_known_kind (base_at world b).kind ≡ true) → is_known_kind it.kind ≡ true → (b : ℕ) → is_known_kind (base_at (world ++ it ∷ []) b).kind ≡ true
more_kinds [] it all this zero = this
more_kinds [] it all this (suc b) = refl
more_kinds (first ∷ world) it all this zero = all zero
more_kinds (first ∷ world) it all this (suc b) = more_kinds world it (λ k. all (suc k)) this b

-- the store with another base, without rows, and its node
pub built_base : (s : Stored) (kind : Kind) → is_known_kind kind ≡ true → IsBuilt s → IsBuilt (with_base s kind)
built_base s kind known h = record {
  below = with_node.below;
  lasting = omega (arith, h.lasting, length-take s.lasting s.nodes, length-append (take s.lasting s.nodes) (made.Base (length s.world) ∷ []));
  made = with_node.made;
  known = with_node.known;
  kinds = with_node.kinds;
  keys = with_node.keys;
}
  where
    it : Base
    it = empty_base kind

    grown : length (s.world ++ it ∷ []) ≡ length s.world + 1
    grown = length-append s.world (it ∷ [])

    longer : IsBuilt (with_world (without_temporary s) (s.world ++ it ∷ []))
    longer = built_world (without_temporary s) (s.world ++ it ∷ []) (built_front s h) (omega (arith, grown)) (λ b lt. ap (λ (x : Base). x.kind) (more_at s.world it b lt)) (more_kinds s.world it h.kinds known) (more_keys s.world it h.keys (empty_keys kind))

    with_node : IsBuilt (record { world = s.world ++ it ∷ []; nodes = take s.lasting s.nodes ++ made.Base (length s.world) ∷ []; lasting = s.lasting; handles = s.handles })
    with_node = built_node (with_world (without_temporary s) (s.world ++ it ∷ [])) (made.Base (length s.world)) longer (omega (arith, grown)) (subst (λ (v : View). IsMade (s.world ++ it ∷ []) v) (sym (added_base (take s.lasting s.nodes) (length s.world))) tt)
        (ap is_known_view (added_base (take s.lasting s.nodes) (length s.world)))

-- ---- a sound store

-- a store without bases
pub sound_empty : IsSound (record { world = []; nodes = []; lasting = 0; handles = 0 }) [] 0
sound_empty = record {
  built = record {
    below = λ n node is. absurd (omega (arith, slice_get_within [] n node is));
    lasting = omega arith;
    made = λ n lt. absurd (omega arith);
    known = λ n lt. absurd (omega arith);
    kinds = λ b. refl;
    keys = no_base;
  };
  kept = record { as_many = refl; each = λ n lt. absurd (omega arith) };
  counted = refl;
  few = omega arith;
  handles = omega arith;
}

-- the store in which the rows of a base changed, and were counted anew
pub sound_written : {facts : List Facts} (s : Stored) (rows rows' b : ℕ) (it : Base) → IsSound s facts rows → b < length s.world → it.kind ≡ (base_at s.world b).kind → it.frozen ≡ (base_at s.world b).frozen → HasKeys it → rows' + length (base_at s.world b).rows ≡ rows + length it.rows → rows' ≤ most_rows
    → IsSound (with_world s (set s.world b it)) facts rows'
sound_written {facts} s rows rows' b it h lt same still keys counts few = record {
  built = built_world s (set s.world b it) h.built (omega (arith, length-set s.world b it)) (λ k within. written_kind s.world b it lt same k) (λ k. ap is_known_kind (written_kind s.world b it lt same k) ∙ h.built.kinds k) (written_keys s.world b it lt h.built.keys keys);
  kept = facts_world s.world (set s.world b it) s.nodes facts h.built.known (λ n within. base_within s n h.built within) (λ k within. written_kind s.world b it lt same k) (λ k within. written_mark s.world b it lt still k) h.kept;
  counted = omega (arith, counts, h.counted, rows_in-written s.world b it lt (h.built.kinds b) (ap is_known_kind same ∙ h.built.kinds b));
  few = few;
  handles = h.handles;
}

-- the store after an edit of a base whose rows were counted before and after
pub sound_edited : {facts : List Facts} (s : Stored) (rows b before after : ℕ) (edit : Edit) → IsSound s facts rows → b < length s.world → HasKeys (edited (base_at s.world b) edit) → before ≡ length (base_at s.world b).rows → after ≡ length (base_at (edited_at s.world b edit) b).rows
    → rows + length (edited (base_at s.world b) edit).rows ≤ most_rows + length (base_at s.world b).rows → (before ≤ rows) × IsSound (with_world s (edited_at s.world b edit)) facts (rows - before + after)
sound_edited {facts} s rows b before after edit h lt keys was is room =
    let it : Base = edited (base_at s.world b) edit in
    let now : after ≡ length it.rows = is ∙ ap (λ (x : Base). length x.rows) (written_at s.world b it lt) in
    let within : before ≤ rows = omega (arith, was, rows_in-at s.world b lt (h.built.kinds b), h.counted) in
    (within, sound_written s rows (rows - before + after) b it h lt refl refl keys (omega (arith, was, now, within)) (omega (arith, was, now, within, room)))

-- the store with another base, without rows, and its node, and without the temporary nodes
pub sound_more : (s : Stored) (facts : List Facts) (kind : Kind) (rows : ℕ) → is_known_kind kind ≡ true → IsSound s facts rows → s.handles < most_handles
    → IsSound (with_base s kind) (take s.lasting facts ++ facts_at (s.world ++ empty_base kind ∷ []) (base (stored (length s.world))) ∷ []) rows
sound_more s facts kind rows known h room = record {
  built = built_base s kind known h.built;
  kept = facts_push (s.world ++ empty_base kind ∷ []) (take s.lasting s.nodes) (take s.lasting facts) (made.Base (length s.world)) _ longer (ap (facts_at (s.world ++ empty_base kind ∷ [])) (sym (added_base (take s.lasting s.nodes) (length s.world))));
  counted = omega (arith, rows_in-more s.world (empty_base kind) known, h.counted);
  few = h.few;
  handles = omega (arith, room);
}
  where
    longer : AreFactsOf (s.world ++ empty_base kind ∷ []) (take s.lasting s.nodes) (take s.lasting facts)
    longer = facts_world s.world (s.world ++ empty_base kind ∷ []) (take s.lasting s.nodes) (take s.lasting facts) (built_front s h.built).known (λ n lt. base_within (without_temporary s) n (built_front s h.built) lt) (λ b lt. ap (λ (x : Base). x.kind) (more_at s.world (empty_base kind) b lt))
        (λ b lt. ap (λ (x : Base). x.frozen) (more_at s.world (empty_base kind) b lt)) (facts_front s.world s.nodes facts s.lasting h.kept)

-- the store without the temporary nodes, and with them made lasting
pub sound_front : (s : Stored) (facts : List Facts) (rows : ℕ) → IsSound s facts rows → IsSound (without_temporary s) (take s.lasting facts) rows
sound_front s facts rows h = record { built = built_front s h.built; kept = facts_front s.world s.nodes facts s.lasting h.kept; counted = h.counted; few = h.few; handles = h.handles }

pub sound_kept : (s : Stored) (facts : List Facts) (handles rows : ℕ) → IsSound s facts rows → s.handles + handles ≤ most_handles → IsSound (with_kept s handles) facts rows
sound_kept s facts handles rows h room = record {
  built = record { below = h.built.below; lasting = omega arith; made = h.built.made; known = h.built.known; kinds = h.built.kinds; keys = h.built.keys };
  kept = h.kept;
  counted = h.counted;
  few = h.few;
  handles = room;
}

-- the store with another view
pub sound_view : (s : Stored) (facts : List Facts) (rows parent : ℕ) (step : Step) (fact : Facts) → is_known step ≡ true → IsSound s facts rows → parent < length s.nodes → IsStepOn s.world (view_in s parent) step → fact ≡ facts_at s.world (over step (view_in s parent))
    → IsSound (with_node s (made.Over step parent)) (facts ++ fact ∷ []) rows
sound_view s facts rows parent step fact known h lt on is = record {
  built = built_view s parent step known h.built lt on;
  kept = facts_push s.world s.nodes facts (made.Over step parent) fact h.kept (is ∙ ap (facts_at s.world) (sym (added_step s.nodes step parent (length s.world) lt)));
  counted = h.counted;
  few = h.few;
  handles = h.handles;
}
