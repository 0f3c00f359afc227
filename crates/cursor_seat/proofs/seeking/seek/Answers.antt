use Rattle.std.proofs.Common.{◌≡◌, ap, sym, ◌∙◌, subst, arith, length, refl}
use Rattle.std.specs.Prelude.{None, Some}
use Rattle.base_store.specs.Stored.{view_in}
use Rattle.cursor_seat.specs.Seats.{places_in}
use Rattle.machine.specs.Iterators.{first_seen}
use Rattle.machine.specs.Views.{candidates}
use Rattle.cursor_seat.proofs.PassLemmas.{Comes, comes_at, few_passed, fewer_left, first_is, first_later, last_from, last_more, none_at, one_hidden, place_next, stands_more}
use Rattle.machine.specs.Bases.{base_at}
use Rattle.cursor_seat.proofs.seeking.seek.Goals as goal

pub pass-requires-clause-last : goal.pass-requires-clause-last
pass-requires-clause-last g c = last_from (places_in c.args.store.now c.args.n) c.loop-place.passed c.loop-place.before c.loop-place.invariant.last

pub overflow_add-passed : goal.overflow_add-passed
overflow_add-passed g c =
    let s = c.args.store.now in
    let v = view_in s c.args.n in
    let here = place_next (places_in s c.args.n) c.loop-place.passed c.loop-place.before (Some c.in-Some.field-0.place) c.loop-place.invariant.last c.in-Some.ensures.next in
    let few = few_passed s.world v c.loop-place.passed c.in-Some.field-0.place c.is_there.ensures.known c.is_there.ensures.tell here in
    let rows : c.len-rows.result ≡ length (base_at s.world c.base_of.result).rows = c.len-rows.ensures.len in
    let base = ap (λ b. length (base_at s.world b).rows) c.base_of.ensures.base in
    omega (arith, few, rows, base, c.len-rows.ensures.few)

pub returns-in-Some-item-clause-some : goal.returns-in-Some-item-clause-some
returns-in-Some-item-clause-some g c =
    let s = c.args.store.now in
    let v = view_in s c.args.n in
    let cs = candidates s.world v in
    let i = c.loop-place.passed in
    let here = place_next (places_in s c.args.n) i c.loop-place.before (Some c.in-Some.field-0.place) c.loop-place.invariant.last c.in-Some.ensures.next in
    let comes = comes_at s.world v i c.in-Some.field-0.place c.in-Some.field-0.item c.is_there.ensures.tell here c.in-Some.ensures.item in
    record {
      index = i;
      passed = refl;
      given = refl;
      stands = stands_more (places_in s c.args.n) i c.loop-place.before c.in-Some.field-0.place c.loop-place.invariant.last here;
      first = sym c.loop-place.invariant.first ∙ first_is cs i c.in-Some-item.item (subst (Comes cs i) c.in-Some-item.is comes);
    }

pub returns-clause-none : goal.returns-clause-none
returns-clause-none g c =
    let s = c.args.store.now in
    let v = view_in s c.args.n in
    let i = c.loop-place.passed in
    let here = place_next (places_in s c.args.n) i c.loop-place.before None c.loop-place.invariant.last c.in_default.ensures.next in
    sym c.loop-place.invariant.first ∙ ap (first_seen i) (none_at s.world v i c.is_there.ensures.tell here)

pub loop-place-preserved : goal.loop-place-preserved
loop-place-preserved g c =
    let s = c.args.store.now in
    let v = view_in s c.args.n in
    let cs = candidates s.world v in
    let i = c.loop-place.passed in
    let here = place_next (places_in s c.args.n) i c.loop-place.before (Some c.in-Some.field-0.place) c.loop-place.invariant.last c.in-Some.ensures.next in
    let comes = comes_at s.world v i c.in-Some.field-0.place c.in-Some.field-0.item c.is_there.ensures.tell here c.in-Some.ensures.item in
    let hidden = subst (Comes cs i) c.in-None.is comes in
    record {
      last = last_more (places_in s c.args.n) i c.in-Some.field-0.place here;
      first = sym (first_later cs i hidden) ∙ c.loop-place.invariant.first;
      steps = omega (arith, c.loop-place.invariant.steps, one_hidden cs i hidden, c.pass.ensures.steps);
    }

pub loop-place-smaller : goal.loop-place-smaller
loop-place-smaller g c =
    let s = c.args.store.now in
    let v = view_in s c.args.n in
    let i = c.loop-place.passed in
    let here = place_next (places_in s c.args.n) i c.loop-place.before (Some c.in-Some.field-0.place) c.loop-place.invariant.last c.in-Some.ensures.next in
    fewer_left (candidates s.world v) i c.in-Some.field-0.item (comes_at s.world v i c.in-Some.field-0.place c.in-Some.field-0.item c.is_there.ensures.tell here c.in-Some.ensures.item)
