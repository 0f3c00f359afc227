-- The spelling of an element is read as that element.
use Rattle.std.proofs.Common.{◌≡◌, ℕ, List, Option, Some, refl, ap, ◌∙◌}
use Rattle.elem.specs.declared.elements.Elem.{Elem}
use Rattle.elem.specs.declared.elements.Elem.TheVariants.{Int, Text}
use Rattle.elem.specs.Elements.{IsElem}
use Rattle.elem.specs.Spelling.{spelling, elem_of}
use Rattle.elem.proofs.NumberText.{number_no_word, number_again}

pub elem_again : (e : Elem) → IsElem e → elem_of (spelling e) ≡ Some e
elem_again (Int n) h = rw (number_no_word n h, number_again n h) refl
elem_again (Text w) h = rw h refl

pub only_elem : (text : List ℕ) (r : Option Elem) → r ≡ elem_of text → (e : Elem) → IsElem e → text ≡ spelling e → r ≡ Some e
only_elem text r is e h spelled = is ∙ ap elem_of spelled ∙ elem_again e h
