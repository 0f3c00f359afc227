-- What is shown that has an element in a part which no two items share: one item at most.
use Rattle.std.proofs.Common.{◌≡◌, Bool, true, false, cond, ◌&&◌, ◌||◌, List, [], ◌∷◌, map, refl, ap, sym, ◌∙◌}
use Rattle.std.specs.Prelude.{filter, is_some, Option, Some, None}
use Rattle.std.specs.List.{AllByRecursion, list_any}
use Rattle.std.specs.Option.{option_to_list}
use Rattle.elem.specs.declared.elements.Elem.{Elem}
use Rattle.machine.specs.Bases.{World}
use Rattle.machine.specs.Candidates.{Candidate, is_seen, item_in}
use Rattle.machine.specs.Shown.{has_value}
use Rattle.machine.specs.Views.{View, candidates, shape_at, shown}
use Rattle.read_chain.specs.LookUps.{has_part}
use Rattle.read_chain.specs.Walks.{is_seen_there, item_there, seen_items}
use Rattle.vocabulary.specs.declared.items.Item.{Item}
use Rattle.vocabulary.specs.declared.items.Item.TheVariants.{Entry}
use Rattle.vocabulary.specs.declared.items.Side.TheVariants.{Second}
use Rattle.vocabulary.specs.declared.shapes.Shape.{Shape}
use Rattle.vocabulary.specs.declared.shapes.Shape.TheVariants as shape
use Rattle.vocabulary.specs.Shapes.{is_bimap}
use Rattle.view_laws.specs.declared.places.Found.{Found}
use Rattle.view_laws.specs.ItemForms.{IsFormed, has_form}
use Rattle.view_laws.proofs.FormLemmas.{items_fit}
use Rattle.view_laws.proofs.ListLemmas.{all-filter, all-map, filter-filter, filter-map}
use Rattle.view_steps.proofs.KeyLemmas.{any_found, find_one}

-- ---- what is shown of a look-up

and-turned : (a b : Bool) → (a && b) ≡ (b && a)
and-turned true true = refl
and-turned true false = refl
and-turned false true = refl
and-turned false false = refl

pub passing_seen : (p : Item → Bool) (ds : List Found) → filter p (seen_items ds) ≡ seen_items (filter (λ (d : Found). p d.item) ds)
passing_seen p ds =
    filter-map p item_there (filter is_seen_there ds)
    ∙ ap (map item_there) (filter-filter (λ (d : Found). p d.item) is_seen_there ds
    ∙ ap (λ (q : Found → Bool). filter q ds) (λ i d. and-turned d.seen (p d.item) i)
    ∙ sym (filter-filter is_seen_there (λ (d : Found). p d.item) ds))

-- the item of what is seen
abbrev pub seen_item : Option Found → Option Item
seen_item None = None
seen_item (Some d) = cond d.seen (Some d.item) None

one_seen : (o : Option Found) → seen_items (option_to_list o) ≡ option_to_list (seen_item o)
one_seen None = refl
one_seen (Some d) = by d.seen
  where
    by : (t : Bool) → map item_there (cond t (d ∷ []) []) ≡ option_to_list (cond t (Some d.item) None)
    by true = refl
    by false = refl

pub shown_of_one : (p : Item → Bool) (ds : List Found) (o : Option Found) → filter (λ (d : Found). p d.item) ds ≡ option_to_list o → filter p (seen_items ds) ≡ option_to_list (seen_item o)
shown_of_one p ds o h = passing_seen p ds ∙ ap seen_items h ∙ one_seen o

-- ---- the values of a bimap

-- the value of a pair is its second part
value_part : (of : Shape) (x : Elem) (item : Item) → is_bimap of ≡ true → has_form of item ≡ true → has_value x item ≡ has_part Second x item
value_part shape.BiMap x (Entry k w) bimap form = refl
value_part shape.BiMap x _ bimap form = absurd (cc)
value_part _ x item bimap form = absurd (cc)

any_as : {X : Type 0} (p q : X → Bool) (xs : List X) → AllByRecursion (λ x. p x ≡ q x) xs → list_any p xs ≡ list_any q xs
any_as p q [] same = refl
any_as p q (x ∷ xs) same = λ i. same.0 i || any_as p q xs same.1 i

-- so what was found by it tells whether a value is shown
pub value_told : (world : World) (v : View) (x : Elem) (o : Option Item) → IsFormed world v → is_bimap (shape_at world v) ≡ true → filter (has_part Second x) (shown world v) ≡ option_to_list o → list_any (has_value x) (shown world v) ≡ is_some o
value_told world v x o formed bimap one =
    let Formed : Candidate → Type 0 = λ c. has_form (shape_at world v) c.item ≡ true in
    any_as (has_value x) (has_part Second x) (shown world v)
    (all-map Formed (λ item. has_value x item ≡ has_part Second x item) item_in (λ c form. value_part (shape_at world v) x c.item bimap form) (filter is_seen (candidates world v)) (all-filter Formed is_seen (candidates world v) (items_fit world v formed)))
    ∙ any_found (has_part Second x) (shown world v)
    ∙ ap is_some (find_one (has_part Second x) (shown world v) o one)
