use Rattle.std.proofs.Common.{sym, subst}
use Rattle.std.specs.Prelude.{IsSome, nat_eq}
use Rattle.std.specs.Map.{lookup}
use Rattle.std.specs.HashMap as hash
use Rattle.linked_base.proofs.PlacesLemmas.{some_of}
use Rattle.mm_base.specs.PairRows.{pair_of}
use Rattle.mm_base.specs.KeyedRows.{KeyedRows}
use Rattle.mm_base.specs.KeyValues.{same_pair}
use Rattle.mm_base.specs.LinkedPairs.{AreLinkedPairs}
use Rattle.mm_base.proofs.MovingLemmas.{moved_linked}
use Rattle.mm_base.proofs.FoundPairs.{found_moved}
use Rattle.mm_base.proofs.linked_pairs.LinkedPairs.to_end.Goals as goal

pub invariant_of-self : goal.invariant_of-self
invariant_of-self g c =
    let m = c.self.inside in
    let p = c.place_of.result in
    let live = subst (λ (x : KeyedRows). IsSome (lookup (nat_eq c.args.p) x.rows)) (sym c.self.view_is) c.requires in
    let same_place = subst (λ q. IsSome (lookup (nat_eq q) m.pairs)) (sym c.place_of.ensures) live in
    let pair = some_of (pair_of m.pairs p) same_place in
    let find = hash.get same_pair m.places in
    subst (λ rows. AreLinkedPairs rows m.keys find) (sym c.to_end.ensures)
    (record { linked = moved_linked p m.pairs m.keys same_place c.self.invariant.linked; found = found_moved p m.pairs pair.0 pair.1 c.self.invariant.linked.pairs find c.self.invariant.found })
