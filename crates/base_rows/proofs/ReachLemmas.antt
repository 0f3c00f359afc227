-- What a lane of a base, and some keys, say of the rows at which a removal looks.
use Rattle.std.proofs.Common.{◌≡◌, Bool, true, ap, sym, ◌∙◌, subst}
use Rattle.elem.specs.declared.elements.Elem.{Elem}
use Rattle.base_rows.specs.declared.base_rows.BaseRows.{BaseRows}
use Rattle.base_rows.specs.BaseRows.{kind_of}
use Rattle.base_rows.specs.KeyLines.{HasWindowIn}
use Rattle.vocabulary.specs.declared.items.Item.{Item}
use Rattle.vocabulary.specs.declared.kinds.Kind.{Kind}
use Rattle.vocabulary.specs.declared.items.Side.TheVariants.{First}
use Rattle.vocabulary.specs.Items.{key_of, second_of}
use Rattle.vocabulary.specs.Kinds.{order_of_kind, shape_of_kind}
use Rattle.vocabulary.specs.Orders.{before, upto}
use Rattle.view_laws.specs.declared.lanes.Lane.{Lane}
use Rattle.view_laws.specs.declared.lanes.PartAsk.{PartAsk}
use Rattle.view_laws.specs.declared.lanes.PartAsk.TheVariants.{Any, Is, Within, Nothing}
use Rattle.view_laws.specs.ItemForms.{has_form}
use Rattle.view_laws.specs.Lanes.{meets, takes}
use Rattle.view_laws.specs.Serving.{ServesPart}
use Rattle.view_laws.proofs.ListLemmas.{both_true}

-- what a base serves has windows in the order of its kind
window_of : (kind : Kind) (ask : PartAsk) → ServesPart kind First ask → HasWindowIn (before (order_of_kind kind)) ask
window_of kind Any s = tt
window_of kind (Is k) s = tt
window_of kind (Within order w) s = (ap before s.1, subst (λ o. upto o w.lo w.hi ≡ true) s.1 s.2)
window_of kind Nothing s = tt

-- so a base of a type has them in the order of its kind
pub window_in : (self r : BaseRows) (ask : PartAsk) → self ≡ r → ServesPart (kind_of self) First ask → HasWindowIn (before (order_of_kind (kind_of r))) ask
window_in self r ask e s = window_of (kind_of r) ask (subst (λ x. ServesPart (kind_of x) First ask) e s)

module _ {V : Type 0} (row_of : Elem → V → Item) (kept : (k : Elem) (v : V) → key_of (row_of k v) ≡ k) (self r : BaseRows) (e : self ≡ r) (form : (k : Elem) (v : V) → has_form (shape_of_kind (kind_of r)) (row_of k v) ≡ true) (passes : Item → Bool) where
  own_form : (k : Elem) (v : V) → has_form (shape_of_kind (kind_of self)) (row_of k v) ≡ true
  own_form k v = ap (λ x. has_form (shape_of_kind (kind_of x)) (row_of k v)) e ∙ form k v

  -- the keys of rows that a lane takes are as it asks
  pub keys_along : (lane : Lane) → ((row : Item) → has_form (shape_of_kind (kind_of self)) row ≡ true → passes row ≡ true → takes lane row ≡ true) → (k : Elem) (v : V) → passes (row_of k v) ≡ true → meets lane.first k ≡ true
  keys_along lane reach k v h =
      ap (meets lane.first) (sym (kept k v)) ∙ (both_true (meets lane.first (key_of (row_of k v))) (meets lane.second (second_of (row_of k v))) (reach (row_of k v) (own_form k v) h)).0

  -- what holds of the keys of rows holds of the keys
  pub keys_at : (P : Elem → Bool) → ((row : Item) → has_form (shape_of_kind (kind_of self)) row ≡ true → passes row ≡ true → P (key_of row) ≡ true) → (k : Elem) (v : V) → passes (row_of k v) ≡ true → P k ≡ true
  keys_at P reach k v h = ap P (sym (kept k v)) ∙ reach (row_of k v) (own_form k v) h
