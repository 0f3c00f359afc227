-- The line of a list is that of its indexes.
use Rattle.std.proofs.Common.{◌≡◌, ℕ, ◌+◌, Bool, true, false, cond, ◌&&◌, List, [], ◌∷◌, refl, ap, sym, ◌∙◌, subst}
use Rattle.std.specs.Prelude.{Option, Some, None, option_map, option_and_then}
use Rattle.elem.specs.declared.elements.Elem.{Elem}
use Rattle.base_rows.specs.declared.base_rows.BaseRows.{BaseRows}
use Rattle.base_rows.specs.declared.base_rows.BaseRows.TheVariants as types
use Rattle.base_rows.specs.BaseRows.{base_line, kind_of, items}
use Rattle.base_rows.specs.BaseSpots.{numbered}
use Rattle.base_rows.specs.KeyLines.{index_at}
use Rattle.view_laws.specs.declared.lanes.Lane.{Lane}
use Rattle.view_laws.specs.declared.lanes.PartAsk.{PartAsk}
use Rattle.view_laws.specs.declared.lanes.PartAsk.TheVariants.{Any, Is, Within, Nothing}
use Rattle.view_laws.specs.declared.places.RowSpot.{RowSpot}
use Rattle.view_laws.specs.declared.places.RowSpot.TheVariants.{Index}
use Rattle.view_laws.specs.Following.{Follows, IsFrom}
use Rattle.view_laws.specs.Lanes.{meets, takes, turned_if}
use Rattle.view_laws.specs.RowPlaces.{spots_taken}
use Rattle.view_laws.specs.Serving.{ServesPart}
use Rattle.vocabulary.specs.declared.items.Item.{Item}
use Rattle.vocabulary.specs.declared.items.Side.TheVariants.{First}
use Rattle.vocabulary.specs.Items.{key_of, second_of}
use Rattle.base_rows.proofs.KeyedRows.{index_in_list}
use Rattle.base_rows.proofs.MemberLemmas.{in_turned}
use Rattle.base_rows.proofs.TurnLemmas.{nothing_there}

all_taken : (test : Item → Bool) (n : ℕ) (rows : List Item) → ((row : Item) → test row ≡ true) → spots_taken test (numbered n rows) rows ≡ numbered n rows
all_taken test n [] all = refl
all_taken test n (row ∷ rows) all =
    ap (λ b. cond b (Index n ∷ spots_taken test (numbered (n + 1) rows) rows) (spots_taken test (numbered (n + 1) rows) rows)) (all row) ∙ ap (λ spots. Index n ∷ spots) (all_taken test (n + 1) rows all)

none_taken : (test : Item → Bool) (n : ℕ) (rows : List Item) → ((row : Item) → test row ≡ false) → spots_taken test (numbered n rows) rows ≡ []
none_taken test n [] none = refl
none_taken test n (row ∷ rows) none =
    ap (λ b. cond b (Index n ∷ spots_taken test (numbered (n + 1) rows) rows) (spots_taken test (numbered (n + 1) rows) rows)) (none row) ∙ none_taken test (n + 1) rows none

takes_all : (lane : Lane) (row : Item) → lane.first ≡ Any → lane.second ≡ Any → takes lane row ≡ true
takes_all lane row first second = λ i. meets (first i) (key_of row) && meets (second i) (second_of row)

takes_none : (lane : Lane) (row : Item) → lane.first ≡ Nothing → takes lane row ≡ false
takes_none lane row first = ap (λ ask. meets ask (key_of row) && meets lane.second (second_of row)) first

pub list_line : (r : BaseRows) (rows : List Elem) (lane : Lane) (back : Bool) → r ≡ types.ArrayList rows → lane.first ≡ Any → lane.second ≡ Any → base_line r lane back ≡ turned_if back (numbered 0 (items rows))
list_line r rows lane back e first second = ap (λ x. base_line x lane back) e ∙ ap (turned_if back) (all_taken (takes lane) 0 (items rows) (λ row. takes_all lane row first second))

pub no_line : (r : BaseRows) (rows : List Elem) (lane : Lane) (back : Bool) → r ≡ types.ArrayList rows → lane.first ≡ Nothing → base_line r lane back ≡ turned_if back []
no_line r rows lane back e first = ap (λ x. base_line x lane back) e ∙ ap (turned_if back) (none_taken (takes lane) 0 (items rows) (λ row. takes_none lane row first))

-- a spot of a list is an index
from_index : (rows : List Item) (back : Bool) (from : Option RowSpot) → IsFrom (turned_if back (numbered 0 rows)) from → from ≡ option_map Index (option_and_then index_at from)
from_index rows back None h = refl
from_index rows back (Some s) h =
    let at = index_in_list rows s (in_turned back (numbered 0 rows) s h.0 h.1) in
    ap Some at.1 ∙ ap (λ t. option_map Index (index_at t)) (sym at.1)

module _ (r : BaseRows) (rows : List Elem) (lane : Lane) (back : Bool) (from : Option RowSpot) (e : r ≡ types.ArrayList rows) (first : lane.first ≡ Any) (second : lane.second ≡ Any) (at : IsFrom (base_line r lane back) from) where
  in_list : IsFrom (turned_if back (numbered 0 (items rows))) from
  in_list = subst (λ spots. IsFrom spots from) (list_line r rows lane back e first second) at

  from_is : from ≡ option_map Index (option_and_then index_at from)
  from_is = from_index (items rows) back from in_list

  pub from_list : IsFrom (turned_if back (numbered 0 (items rows))) (option_map Index (option_and_then index_at from))
  from_list = subst (IsFrom (turned_if back (numbered 0 (items rows)))) from_is in_list

  pub follows_in_list : (to : Option RowSpot) → Follows (turned_if back (numbered 0 (items rows))) (option_map Index (option_and_then index_at from)) to → Follows (base_line r lane back) from to
  follows_in_list to n =
      subst (λ spots. Follows spots from to) (sym (list_line r rows lane back e first second)) (subst (λ f. Follows (turned_if back (numbered 0 (items rows))) f to) (sym from_is) n)

nothing_follows : (back : Bool) (from : Option RowSpot) → Follows (turned_if back []) from None
nothing_follows back None = nothing_there back 0
nothing_follows back (Some s) = λ i is. nothing_there back (i + 1)

-- a list serves a lane of all its rows, and one of none
pub list_serves : (r : BaseRows) (rows : List Elem) (lane : Lane) (back : Bool) (from : Option RowSpot) → r ≡ types.ArrayList rows → ServesPart (kind_of r) First lane.first → (lane.first ≡ Any → ⊥) → Follows (base_line r lane back) from None
list_serves r rows lane back from e serves other = by lane.first refl (subst (λ x. ServesPart (kind_of x) First lane.first) e serves)
  where
    by : (ask : PartAsk) → lane.first ≡ ask → ServesPart (kind_of (types.ArrayList rows)) First ask → Follows (base_line r lane back) from None
    by Any is s = absurd (other is)
    by (Is k) is s = cc
    by (Within order w) is s = let never = s.0 in cc
    by Nothing is s = subst (λ spots. Follows spots from None) (sym (no_line r rows lane back e is)) (nothing_follows back from)
