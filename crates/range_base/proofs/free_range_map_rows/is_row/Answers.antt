use Rattle.std.proofs.Common.{◌≡◌, ℕ, Bool, true, Option, Some, sym, ◌∙◌}
use Rattle.elem.specs.declared.elements.Elem.{Elem}
use Rattle.elem.specs.Elements.{same}
use Rattle.elem.specs.ElementLaws.{same-Decides}
use Rattle.range_base.specs.declared.part.Part.{Part}
use Rattle.range_base.specs.Rows.{part}
use Rattle.range_base.proofs.free_range_map_rows.is_row.Goals as goal

same_value : (p : Part Elem) (hi : ℕ) (v : Elem) → Some p ≡ Some (part hi v) → p.value ≡ v
same_value p hi v e = cc

row_test : (b : Bool) (p : Part Elem) (hi : ℕ) (v : Elem) (o : Option (Part Elem)) → b ≡ same p.value v → o ≡ Some p → p.end ≡ hi
    → (b ≡ true → o ≡ Some (part hi v)) × (o ≡ Some (part hi v) → b ≡ true)
row_test b p hi v o eb e f = (
  λ t. let value = (same-Decides p.value v).0 (sym eb ∙ t) in e ∙ (λ i. Some (part (f i) (value i))),
  λ g. eb ∙ (same-Decides p.value v).1 (same_value p hi v (sym e ∙ g)),
)

pub returns-then-part-hi : goal.returns-then-part-hi
returns-then-part-hi c = row_test c.same.result c.in-Some.part.now c.args.hi c.args.value.now _ c.same.ensures.test (sym c.in-Some.ensures.value) c.if-part-hi.true
