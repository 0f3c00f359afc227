-- A lane that comes down to the base of its view gives a course there.
use Rattle.std.proofs.Common.{◌≡◌, ℕ, Bool, true, false, refl, ap, sym, ◌∙◌, subst}
use Rattle.std.specs.Prelude.{Some, None, Option}
use Rattle.std.proofs.lemmas.Option.{same_Some}
use Rattle.vocabulary.specs.Known.{is_known_kind}
use Rattle.machine.specs.Bases.{Base, World, base_at}
use Rattle.machine.specs.Leaves.{leaf_at}
use Rattle.machine.specs.Views.{View, base_under}
use Rattle.view_laws.specs.declared.lanes.Lane.{Lane}
use Rattle.view_laws.specs.LanesDown.{lane_down}
use Rattle.view_laws.specs.Serving.{Serves}
use Rattle.view_steps.specs.KnownLanes.{ComesDown}
use Rattle.view_steps.specs.KnownViews.{is_known_view, number_under}
use Rattle.base_store.specs.Courses.{IsCourse}
use Rattle.view_steps.proofs.KnownLemmas.{known_base}

-- the leaf under a known view is of a known kind where its base is
pub known_leaf : (world : World) (v : View) (b : ℕ) → is_known_view v ≡ true → b ≡ number_under v → is_known_kind (base_at world b).kind ≡ true → is_known_kind (leaf_at world (base_under v)).kind ≡ true
known_leaf world v b known under kind = ap (λ (it : Base). is_known_kind it.kind) (known_base world v known ∙ ap (base_at world) (sym under)) ∙ kind

same_pair : (o : Option (Lane × Bool)) (x y : Lane × Bool) → o ≡ Some x → o ≡ Some y → x ≡ y
same_pair o x y a b = same_Some x y (sym a ∙ b)

-- a lane that is known to come down comes down to the lane that was told
pub is_course : (world : World) (v : View) (lane below : Lane) (back from_back found : Bool) (b : ℕ) → is_known_view v ≡ true → b ≡ number_under v → ComesDown world v lane back
    → (found ≡ true → lane_down world v lane back ≡ Some (below, from_back)) → (found ≡ false → lane_down world v lane back ≡ None) → IsCourse world v lane back (record { base = b; lane = below; back = from_back })
is_course world v lane below back from_back true b known under h some none =
    let is = some refl in
    let same : h.below ≡ below = ap (λ (p : Lane × Bool). p.0) (same_pair (lane_down world v lane back) (h.below, h.from_back) (below, from_back) h.down is) in
    record {
      base = under;
      down = is;
      served = subst (λ (it : Base). Serves it.kind below) (known_base world v known ∙ ap (base_at world) (sym under)) (subst (λ (l : Lane). Serves (leaf_at world (base_under v)).kind l) same h.served);
    }
is_course world v lane below back from_back false b known under h some none = let is = sym (none refl) ∙ h.down in absurd (cc)
