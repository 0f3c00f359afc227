-- What a text gives as a range: when it is none, and when its ends are out of order.
use Rattle.std.proofs.Common.{◌≡◌, ◌≢◌, ◌⊎◌, ◌↔◌, inl, inr, ℕ, Bool, true, false, cond, List, Option, Some, None, Result, Ok, Err, refl, sym, ap, subst, ◌∙◌}
use Rattle.std.specs.Prelude.{IfOk, not}
use Rattle.elem.specs.declared.elements.Elem.{Elem}
use Rattle.elem.specs.declared.cuts.Cut.{Cut}
use Rattle.elem.specs.declared.cuts.Cut.TheVariants.{Start, Below, Above, End}
use Rattle.elem.specs.declared.spans.Span.{Span}
use Rattle.elem.specs.declared.span_texts.SpanFault.{SpanFault}
use Rattle.elem.specs.declared.span_texts.SpanFault.TheVariants.{NotGrammar, Invalid}
use Rattle.elem.specs.Elements.{same}
use Rattle.elem.specs.ElementLaws.{same-Decides}
use Rattle.elem.specs.Orders.{natural_before}
use Rattle.elem.specs.OrderLaws.{natural_before_strict}
use Rattle.elem.specs.Spans.{upto, IsSpan}
use Rattle.elem.specs.SpanTexts.{IsInvalid, IsSpanText, span_text, checked}
use Rattle.elem.proofs.SpanLaws.{text_found, text_again}

-- ---- ends out of order

abbrev some_elem : Elem → Option Elem
some_elem v = Some v

elem_is : (v w : Elem) → some_elem v ≡ some_elem w → v ≡ w
elem_is v w h = cc

not_false : (b : Bool) → not b ≡ false → b ≡ true
not_false true h = refl
not_false false h = absurd cc

false_not : (b : Bool) → b ≡ true → not b ≡ false
false_not true h = refl
false_not false h = absurd cc

not_not : (b : Bool) → not (not b) ≡ false → b ≡ false
not_not true h = absurd cc
not_not false h = refl

by_test : {A : Type 0} (b : Bool) → (b ≡ true → A) → (b ≡ false → A) → A
by_test true f g = f refl
by_test false f g = g refl

is_same : (v w : Elem) → same v w ≡ false → v ≢ w
is_same v w h e = let t : same v w ≡ true = (same-Decides v w).1 e in absurd cc

-- of two elements that are not in order, one comes before the other or they are the same
not_before : (v w : Elem) → natural_before v w ≡ false → (natural_before w v ≡ true) ⊎ (v ≡ w)
not_before v w h =
    by_test (same v w) (λ e. inr ((same-Decides v w).0 e))
    (λ e. inl (not_false (natural_before w v) (sym (natural_before_strict.exactly_one v w (is_same v w e)) ∙ h)))

abbrev span : Cut → Cut → Span
span lo hi = record { lo = lo; hi = hi }

invalid_from : (lo hi : Cut) → lo ≢ End → hi ≢ Start → upto lo hi ≡ false → IsInvalid (span lo hi)
invalid_from lo Start a b h = absurd (b refl)
invalid_from End hi a b h = absurd (a refl)
invalid_from Start (Below w) a b h = absurd cc
invalid_from Start (Above w) a b h = absurd cc
invalid_from Start End a b h = absurd cc
invalid_from (Below v) End a b h = absurd cc
invalid_from (Above v) End a b h = absurd cc
invalid_from (Below v) (Below w) a b h = (v, w, refl, refl, inl (not_false (natural_before w v) h))
invalid_from (Below v) (Above w) a b h = (v, w, refl, refl, inl (not_false (natural_before w v) h))
invalid_from (Above v) (Above w) a b h = (v, w, refl, refl, inl (not_false (natural_before w v) h))
invalid_from (Above v) (Below w) a b h = (v, w, refl, refl, elim (not_before v w (not_not (natural_before v w) h)) [ inl lt ↦ inl lt | inr e ↦ inr (e, refl, ap Below (sym e)) ])

after_not_before : (v w : Elem) → natural_before w v ≡ true → natural_before v w ≡ false
after_not_before v w h =
    by_test (same v w) (λ e. let k : v ≡ w = (same-Decides v w).0 e in let g : natural_before v v ≡ true = subst (λ (x : Elem). natural_before x v ≡ true) (sym k) h in let f = natural_before_strict.irreflexive v in absurd cc)
    (λ e. natural_before_strict.exactly_one v w (is_same v w e) ∙ false_not (natural_before w v) h)

abbrev OutOfOrder : Cut → Cut → Elem → Elem → Type 0
OutOfOrder lo hi v w = (natural_before w v ≡ true) ⊎ ((v ≡ w) × (lo ≡ Above v) × (hi ≡ Below v))

pair_invalid : (lo hi : Cut) (v w : Elem) → OutOfOrder lo hi v w → lo ≢ Above v → natural_before w v ≡ true
pair_invalid lo hi v w o other = elim o [ inl lt ↦ lt | inr e ↦ absurd (other e.1) ]

same_not_before : (v : Elem) → natural_before v v ≡ false
same_not_before v = natural_before_strict.irreflexive v

open_pair : (v w : Elem) → OutOfOrder (Above v) (Below w) v w → natural_before v w ≡ false
open_pair v w o = elim o [ inl lt ↦ after_not_before v w lt | inr e ↦ rw (← e.0) (same_not_before v) ]

closed_pair : (v w : Elem) → OutOfOrder (Above v) (Above w) v w → natural_before w v ≡ true
closed_pair v w o = elim o [ inl lt ↦ lt | inr e ↦ let k = e.2 in absurd cc ]

renamed : (lo hi : Cut) (v w x y : Elem) → v ≡ x → w ≡ y → OutOfOrder lo hi v w → OutOfOrder lo hi x y
renamed lo hi v w x y e f o = rw (← e, ← f) o

invalid_to : (lo hi : Cut) → IsInvalid (span lo hi) → upto lo hi ≡ false
invalid_to Start hi i = let e = i.2 in absurd cc
invalid_to End hi i = let e = i.2 in absurd cc
invalid_to (Below v) Start i = let e = i.3 in absurd cc
invalid_to (Above v) Start i = let e = i.3 in absurd cc
invalid_to (Below v) End i = let e = i.3 in absurd cc
invalid_to (Above v) End i = let e = i.3 in absurd cc
invalid_to (Below v) (Below w) i = false_not _ (pair_invalid (Below v) (Below w) v w (renamed (Below v) (Below w) i.0 i.1 v w (elem_is _ _ (sym i.2)) (elem_is _ _ (sym i.3)) i.4) (λ e. absurd cc))
invalid_to (Below v) (Above w) i = false_not _ (pair_invalid (Below v) (Above w) v w (renamed (Below v) (Above w) i.0 i.1 v w (elem_is _ _ (sym i.2)) (elem_is _ _ (sym i.3)) i.4) (λ e. absurd cc))
invalid_to (Above v) (Above w) i = false_not _ (closed_pair v w (renamed (Above v) (Above w) i.0 i.1 v w (elem_is _ _ (sym i.2)) (elem_is _ _ (sym i.3)) i.4))
invalid_to (Above v) (Below w) i = let h = open_pair v w (renamed (Above v) (Below w) i.0 i.1 v w (elem_is _ _ (sym i.2)) (elem_is _ _ (sym i.3)) i.4) in rw h refl

-- ---- the clauses of read_span

abbrev Answer : Type 0
Answer = Result Span SpanFault

abbrev no_grammar : Answer
no_grammar = Err NotGrammar

abbrev out_of_order : Answer
out_of_order = Err Invalid

ok_in_order : (s : Span) (P : Span → Type 0) (b : Bool) → upto s.lo s.hi ≡ b → (upto s.lo s.hi ≡ true → P s) → IfOk (cond b (Ok s) out_of_order) P
ok_in_order s P true e h = h e
ok_in_order s P false e h = tt

found_at : (text : List ℕ) (o : Option Span) → span_text text ≡ o → IfOk (checked o) (λ s. IsSpanText text s × IsSpan s)
found_at text None e = tt
found_at text (Some s) e =
    let t = text_found text s e in
    ok_in_order s (λ s. IsSpanText text s × IsSpan s) (upto s.lo s.hi) refl (λ order. (t, record { lo = t.ends.0; hi = t.ends.1; in_order = order }))

pub span_found : (text : List ℕ) (r : Answer) → r ≡ checked (span_text text) → IfOk r (λ s. IsSpanText text s × IsSpan s)
span_found text r e = rw e (found_at text (span_text text) refl)

pub span_only : (text : List ℕ) (r : Answer) → r ≡ checked (span_text text) → (s : Span) → IsSpanText text s → r ≡ checked (Some s)
span_only text r e s t = e ∙ ap checked (text_again text s t)

in_grammar : (s : Span) (b : Bool) → cond b (Ok s) out_of_order ≡ no_grammar → ⊥
in_grammar s true h = cc
in_grammar s false h = cc

none_at : (text : List ℕ) (o : Option Span) → span_text text ≡ o → ((s : Span) → IsSpanText text s → ⊥) → checked o ≡ no_grammar
none_at text None e h = refl
none_at text (Some s) e h = absurd (h s (text_found text s e))

pub span_none : (text : List ℕ) (r : Answer) → r ≡ checked (span_text text) → (r ≡ no_grammar) ↔ ((s : Span) → IsSpanText text s → ⊥)
span_none text r e = (λ h s t. in_grammar s (upto s.lo s.hi) (sym (span_only text r e s t) ∙ h), λ h. e ∙ none_at text (span_text text) refl h)

refused : (s : Span) (b : Bool) → cond b (Ok s) out_of_order ≡ out_of_order → b ≡ false
refused s true h = absurd cc
refused s false h = refl

invalid_at : (text : List ℕ) (o : Option Span) → span_text text ≡ o → checked o ≡ out_of_order → (s : Span) × IsSpanText text s × IsInvalid s
invalid_at text None e h = absurd cc
invalid_at text (Some s) e h =
    let t = text_found text s e in
    (s, t, invalid_from s.lo s.hi t.ends.0 t.ends.1 (refused s (upto s.lo s.hi) h))

pub span_invalid : (text : List ℕ) (r : Answer) → r ≡ checked (span_text text) → (r ≡ out_of_order) ↔ ((s : Span) × IsSpanText text s × IsInvalid s)
span_invalid text r e = (λ h. invalid_at text (span_text text) refl (sym e ∙ h), λ x. span_only text r e x.0 x.1 ∙ rw (invalid_to x.0.lo x.0.hi x.2) refl)
