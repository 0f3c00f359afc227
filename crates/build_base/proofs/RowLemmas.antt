-- Rows by their elements.
use Rattle.std.proofs.Common.{◌≡◌, ap, ◌∙◌, ◌&&◌}
use Rattle.elem.specs.Elements.{same}
use Rattle.elem.specs.ElementLaws.{same_equiv}
use Rattle.build_base.specs.declared.row.Row.{Row}
use Rattle.build_base.specs.declared.part.Part.{Part}
use Rattle.build_base.specs.Rows.{alike, key_of}

pub alike-symm : (part : Part) (a b : Row) → alike part a b ≡ alike part b a
alike-symm part a b = ap (λ t. t && same (key_of part a).1 (key_of part b).1) (same_equiv.symm (key_of part a).0 (key_of part b).0) ∙ ap (λ t. same (key_of part b).0 (key_of part a).0 && t) (same_equiv.symm (key_of part a).1 (key_of part b).1)
