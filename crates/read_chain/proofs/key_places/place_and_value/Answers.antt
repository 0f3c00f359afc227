use Rattle.std.proofs.Common.{Bool, cond, map, sym, ap, ◌∙◌, true, false, Some, None}
use Rattle.std.specs.Option.{option_map}
use Rattle.base_store.specs.Stored.{view_in}
use Rattle.machine.specs.Shown.{has_key}
use Rattle.vocabulary.specs.Items.{value_of}
use Rattle.view_laws.specs.Places.{found_in}
use Rattle.machine.specs.Views.{candidates}
use Rattle.view_steps.proofs.HitLemmas.{no_key_hit, key_missed}
use Rattle.read_chain.proofs.KeyPlaceLemmas.{key_hit, seen_hit, value_found}
use Rattle.read_chain.proofs.key_places.place_and_value.Goals as goal

pub returns-then-there : goal.returns-then-there
returns-then-there g c =
    let s = c.args.store.now in
    let v = view_in s c.args.n in
    let k = c.args.k.now in
    let cs = candidates s.world v in
    let d = c.in-Some.there.found in
    let one = c.in-Some.ensures.found in
    record {
      none = tt;
      some = rw (c.at_spot.ensures) (key_hit s.world v (has_key k) k c.in-Some.there.spot d c.in-Some.ensures.spot (λ item h. h) one (seen_hit k (map found_in cs) d true one c.if-there.true));
      value = ap Some c.value_of.ensures ∙ sym (value_found k cs (Some d) one ∙ ap (λ (b : Bool). option_map value_of (cond b (Some d.item) None)) c.if-there.true);
      step = c.in-Some.ensures.step;
    }

pub returns-else-there : goal.returns-else-there
returns-else-there g c =
    let s = c.args.store.now in
    let v = view_in s c.args.n in
    let k = c.args.k.now in
    let cs = candidates s.world v in
    let d = c.in-Some.there.found in
    let one = c.in-Some.ensures.found in
    record {
      none = key_missed (has_key k) k d cs (λ item h. h) one (seen_hit k (map found_in cs) d false one c.if-there.false);
      some = tt;
      value = sym (value_found k cs (Some d) one ∙ ap (λ (b : Bool). option_map value_of (cond b (Some d.item) None)) c.if-there.false);
      step = c.in-Some.ensures.step;
    }

pub returns-in-None : goal.returns-in-None
returns-in-None g c =
    let s = c.args.store.now in
    let v = view_in s c.args.n in
    let k = c.args.k.now in
    let cs = candidates s.world v in
    record {
      none = no_key_hit (has_key k) k cs (λ item h. h) c.in-None.ensures.found;
      some = tt;
      value = sym (value_found k cs None c.in-None.ensures.found);
      step = c.in-None.ensures.step;
    }
