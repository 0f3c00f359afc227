-- Where a row is hit, an item that passes is shown.
use Rattle.std.proofs.Common.{◌≡◌, Bool, true, [], ◌∷◌, refl, sym, ap, ◌∙◌}
use Rattle.std.specs.Prelude.{Option, Some, None, find, is_some}
use Rattle.std.specs.List.{list_any}
use Rattle.read_chain.specs.Reads.{StandsAt}
use Rattle.vocabulary.specs.declared.items.Item.{Item}
use Rattle.view_laws.specs.declared.places.Place.{Place}
use Rattle.machine.specs.CallEdits.{first_hit, is_hit, rows_of_first}
use Rattle.machine.specs.Bases.{World}
use Rattle.machine.specs.Views.{View, candidates, shown}
use Rattle.machine.specs.Candidates.{Candidate}
use Rattle.view_steps.proofs.HitLemmas.{hit_shown}

-- ---- hits and what is shown

-- where a row is hit, one is
pub one_shown : (world : World) (v : View) (p : Item → Bool) (at : Place) → StandsAt world v at (first_hit p (candidates world v)) → true ≡ list_any p (shown world v)
one_shown world v p at stands =
    by (find (is_hit p) (candidates world v)) refl ∙ sym (hit_shown p (candidates world v)) where
      by : (o : Option Candidate) → find (is_hit p) (candidates world v) ≡ o → true ≡ is_some (find (is_hit p) (candidates world v))
      by (Some c) e = sym (ap is_some e)
      by None e = absurd (let f : [] ≡ stands.row.number ∷ [] = sym (ap rows_of_first e) ∙ stands.row.only in cc)
