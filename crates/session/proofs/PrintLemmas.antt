-- The texts of a view's items, listed one after another.
use Rattle.std.proofs.Common.{◌≡◌, ℕ, Option, Bool, true, false, List, [], ◌∷◌, ◌++◌, map, sym, ◌∙◌, ap, append_assoc}
use Rattle.std.proofs.lemmas.List.{append-nil}
use Rattle.std.specs.Prelude.{codes}
use Rattle.base_store.specs.Stored.{Stored}
use Rattle.read_chain.specs.declared.walks.Walk.{Walk}
use Rattle.read_chain.specs.Walks.{IsWalk, to_come}
use Rattle.vocabulary.specs.declared.items.Item.{Item}
use Rattle.vocabulary.specs.declared.shapes.Shape.{Shape}
use Rattle.machine.specs.Texts.{listed, item_text, opening, closing, text_in, view_text}
use Rattle.session.specs.KnownShapes.{AreKnown}
use Rattle.session.specs.Printing.{listed_after, separator}
use Rattle.session.specs.Replying.{Goes, Pending}
use Rattle.session.proofs.KnownLemmas.{items_plain}

-- the next text, behind what parts it from the one before
listed_next : (is_first : Bool) (text : List ℕ) (texts : List (List ℕ)) → listed_after is_first (text ∷ texts) ≡ separator is_first ++ (text ++ listed_after false texts)
listed_next true text [] = sym (append-nil text)
listed_next true text (next ∷ texts) = append_assoc text (codes ", ") (listed (next ∷ texts))
listed_next false text [] = ap (λ ts. codes ", " ++ ts) (sym (append-nil text))
listed_next false text (next ∷ texts) = ap (λ ts. codes ", " ++ ts) (append_assoc text (codes ", ") (listed (next ∷ texts)))

-- Between two items: what was written so far, and what is left, are the whole text.
pub record Printed (told told' : Option (List ℕ)) (faults faults' : ℕ) (pending pending' : Pending) (s : Stored) (w : Walk) (is_first : Bool) (text : List ℕ) : Type 0 where
  pub walk : IsWalk s w
  pub known : AreKnown (to_come s w)
  pub said : List ℕ
  pub goes : Goes told told' faults faults' pending pending' said
  pub whole : said ++ listed_after is_first (map item_text (to_come s w)) ≡ text

-- one item more
pub item_said : (is_first : Bool) (said text : List ℕ) (item : Item) (items rest : List Item) → items ≡ item ∷ rest → said ++ listed_after is_first (map item_text items) ≡ text
    → (said ++ (separator is_first ++ item_text item)) ++ listed_after false (map item_text rest) ≡ text
item_said is_first said text item items rest e whole =
    append_assoc said (separator is_first ++ item_text item) (listed_after false (map item_text rest))
    ∙ ap (λ ts. said ++ ts) (append_assoc (separator is_first) (item_text item) (listed_after false (map item_text rest)) ∙ sym (listed_next is_first (item_text item) (map item_text rest)) ∙ ap (λ (is : List Item). listed_after is_first (map item_text is)) (sym e))
    ∙ whole

-- no item more
pub all_said : (is_first : Bool) (said text : List ℕ) (items : List Item) → items ≡ [] → said ++ listed_after is_first (map item_text items) ≡ text → said ≡ text
all_said true said text items e whole = sym (append-nil said) ∙ ap (λ (is : List Item). said ++ listed (map item_text is)) (sym e) ∙ whole
all_said false said text items e whole = sym (append-nil said) ∙ ap (λ (is : List Item). said ++ listed_after false (map item_text is)) (sym e) ∙ whole

-- a view's text and its newline, in the parts in which they are said
parts_of_text : (of : Shape) (texts : List (List ℕ)) → opening of ++ (listed texts ++ (closing of ++ 10 ∷ [])) ≡ (opening of ++ listed texts ++ closing of) ++ 10 ∷ []
parts_of_text of texts = sym (append_assoc (opening of ++ listed texts) (closing of) (10 ∷ []) ∙ append_assoc (opening of) (listed texts) (closing of ++ 10 ∷ []))

pub text_in_parts : (of : Shape) (items : List Item) → AreKnown items → opening of ++ (listed (map item_text items) ++ (closing of ++ 10 ∷ [])) ≡ view_text of items ++ 10 ∷ []
text_in_parts of items known =
    ap (λ (texts : List (List ℕ)). opening of ++ (listed texts ++ (closing of ++ 10 ∷ []))) (sym (items_plain of items known)) ∙ parts_of_text of (map (text_in of) items)
