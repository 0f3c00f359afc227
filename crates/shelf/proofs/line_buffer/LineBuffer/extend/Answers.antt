use Rattle.std.proofs.Common.{◌≡◌, ℕ, ◌+◌, ◌≤◌, min, List, [], ◌∷◌, ◌++◌, length, take, suc, sym, ◌∙◌, ap, arith, inl, inr, ◌<◌}
use Rattle.std.proofs.lemmas.Bool.Decides.{leb_tells}
use Rattle.std.proofs.lemmas.List.{length-take, take_all}
use Rattle.session.proofs.NameLemmas.{ok_at}
use Rattle.shelf.proofs.line_buffer.LineBuffer.extend.Goals as goal

-- a front that is longer than the text is the text
take_min : (room : ℕ) (text : List ℕ) → take (min (length text) room) text ≡ take room text
take_min room text = elim (leb_tells (length text) room) as (λ _. take (min (length text) room) text ≡ take room text) [
  | inl p ↦ let short : length text ≤ room = p.1 in let all : min (length text) room ≡ length text = omega arith in
      ap (λ n. take n text) all ∙ take_all (length text) text (omega arith) ∙ sym (take_all room text short)
  | inr q ↦ let long : room < length text = q.1 in let most : min (length text) room ≡ room = omega arith in ap (λ n. take n text) most
]

-- the front of two lists behind the first of them
behind : (room : ℕ) (old text : List ℕ) → take (room + length old) (old ++ text) ≡ old ++ take room text
behind room [] text = let none : room + 0 ≡ room = omega arith in ap (λ n. take n text) none
behind room (x ∷ old) text = let one : room + length (x ∷ old) ≡ suc (room + length old) = omega arith in ap (λ n. take n (x ∷ (old ++ text))) one ∙ ap (λ ys. x ∷ ys) (behind room old text)

pub returns-clause-kept : goal.returns-clause-kept
returns-clause-kept c =
    let old = c.self.inside.bytes.items in
    let text = c.args.text.now in
    let room : c.remaining_capacity.result + length old ≡ 1025 = c.remaining_capacity.ensures in
    let cut = length-take c.min-count.result text in
    let fits : length old + length (take c.min-count.result text) ≤ 1025 = omega (arith, cut, c.min-count.ensures, room) in
    let new = ok_at c.try_extend_from_slice.result (c.try_extend_from_slice.ensures.variant.1 fits) c.try_extend_from_slice.ensures.ok in
    rw (← c.self.view_is) (new ∙ ap (λ n. old ++ take n text) c.min-count.ensures ∙ ap (λ ts. old ++ ts) (take_min c.remaining_capacity.result text) ∙ sym (ap (λ n. take n (old ++ text)) (sym room) ∙ behind c.remaining_capacity.result old text))
