-- Pieces of a reply, one after another.
use Rattle.std.proofs.Common.{◌≡◌, ◌≢◌, ℕ, ◌≤◌, Bool, true, false, List, [], ◌∷◌, ◌++◌, Option, None, Some, Result, refl, sym, ◌∙◌, ap, subst, arith, append_assoc}
use Rattle.std.proofs.lemmas.List.{append-nil}
use Rattle.elem.specs.Outside.{Takes, Rose}
use Rattle.session.specs.Replying.{Pending, Goes, Refuses, Sends, Said, nothing_pending, with_piece, flushed, sent_result}
use Rattle.session.specs.declared.faults.ExecFault.{ExecFault}
use Rattle.vocabulary.specs.declared.refusals.Refusal.{Refusal}
use Rattle.vocabulary.specs.declared.refusals.Refusal.TheVariants as refusal
use Rattle.vocabulary.specs.Refusals.{name_of}

pub takes_none : (t : Option (List ℕ)) → Takes t t []
takes_none None = tt
takes_none (Some xs) = ap Some (sym (append-nil xs))

pub takes_more : (t u v : Option (List ℕ)) (xs ys : List ℕ) → Takes t u xs → Takes u v ys → Takes t v (xs ++ ys)
takes_more None u v xs ys h g = tt
takes_more (Some ts) None v xs ys h g = cc
takes_more (Some ts) (Some us) v xs ys h g = let e : us ≡ ts ++ xs = cc in g ∙ ap Some (ap (λ zs. zs ++ ys) e ∙ append_assoc ts xs ys)

-- a piece that is kept
pub goes_kept : (t : Option (List ℕ)) (f : ℕ) (p : Pending) (piece : List ℕ) → Goes t t f f p (with_piece p piece) piece
goes_kept t f p piece = record { sent = []; takes = takes_none t; sends = by p.failed; later = omega arith; cause = λ calm broken. absurd (let e : true ≡ false = sym broken ∙ calm in cc) }
  where
    by : (b : Bool) → Sends b b [] (p.bytes ++ piece) (p.bytes ++ piece)
    by true = refl
    by false = refl

-- the same text in other words
pub goes_text : {t u : Option (List ℕ)} {f g : ℕ} {p q : Pending} {x y : List ℕ} → x ≡ y → Goes t u f g p q x → Goes t u f g p q y
goes_text {t} {u} {f} {g} {p} {q} {x} {y} e h = subst (λ (z : List ℕ). Goes t u f g p q z) e h

pub said_text : {r : Result (Unit {0}) ExecFault} {t u : Option (List ℕ)} {f g : ℕ} {x y : List ℕ} → x ≡ y → Said r t u f g x → Said r t u f g y
said_text {r} {t} {u} {f} {g} {x} {y} e h = subst (λ (z : List ℕ). Said r t u f g z) e h

-- nothing at all
pub goes_none : (t : Option (List ℕ)) (f : ℕ) (p : Pending) → Goes t t f f p p []
goes_none t f p = subst (λ (xs : List ℕ). Goes t t f f p (record { bytes = xs; failed = p.failed }) []) (append-nil p.bytes) (goes_kept t f p [])

sends_more : (a b c : Bool) (s s' x y p0 p1 p2 : List ℕ) → Sends a b s (p0 ++ x) p1 → Sends b c s' (p1 ++ y) p2 → Sends a c (s ++ s') (p0 ++ (x ++ y)) p2
sends_more false false false s s' x y p0 p1 p2 h g = sym (append_assoc p0 x y) ∙ ap (λ zs. zs ++ y) h ∙ append_assoc s p1 y ∙ ap (λ zs. s ++ zs) g ∙ sym (append_assoc s s' p2)
sends_more false false true s s' x y p0 p1 p2 h g = (g.0, sym (append_assoc p0 x y) ∙ ap (λ zs. zs ++ y) h ∙ append_assoc s p1 y ∙ ap (λ zs. s ++ zs) g.1 ∙ sym (append_assoc s s' g.0))
sends_more false true true s s' x y p0 p1 p2 h g = (h.0 ++ y, sym (append_assoc p0 x y) ∙ ap (λ zs. zs ++ y) h.1 ∙ append_assoc s h.0 y ∙ ap (λ zs. zs ++ (h.0 ++ y)) (sym (ap (λ zs. s ++ zs) g ∙ append-nil s)))
sends_more true true true s s' x y p0 p1 p2 h g = ap (λ zs. zs ++ s') h ∙ g
sends_more false true false s s' x y p0 p1 p2 h g = absurd g
sends_more true true false s s' x y p0 p1 p2 h g = absurd g
sends_more true false c s s' x y p0 p1 p2 h g = absurd h

rose_later : (f g h : ℕ) → Rose f g → g ≤ h → Rose f h
rose_later f g h r l = omega (arith, r)

rose_before : (f g h : ℕ) → f ≤ g → Rose g h → Rose f h
rose_before f g h l r = omega (arith, r)

-- one text after another
pub goes_more : {t u v : Option (List ℕ)} {f g h : ℕ} {p q r : Pending} {x y : List ℕ} → Goes t u f g p q x → Goes u v g h q r y → Goes t v f h p r (x ++ y)
goes_more {t} {u} {v} {f} {g} {h} {p} {q} {r} {x} {y} a b = record {
  sent = a.sent ++ b.sent;
  takes = takes_more t u v a.sent b.sent a.takes b.takes;
  sends = sends_more p.failed q.failed r.failed a.sent b.sent x y p.bytes q.bytes r.bytes a.sends b.sends;
  later = let one : f ≤ g = a.later in let other : g ≤ h = b.later in omega arith;
  cause = λ calm broken. by q.failed refl calm broken;
}
  where
    by : (m : Bool) → q.failed ≡ m → p.failed ≡ false → r.failed ≡ true → Rose f h
    by true e calm broken = rose_later f g h (a.cause calm e) b.later
    by false e calm broken = rose_before f g h a.later (b.cause e broken)

-- what was kept and then sent
pub goes_flushed : (t u : Option (List ℕ)) (f g : ℕ) (p : Pending) (b : Bool) → Goes t u f g (flushed p.failed) (flushed b) p.bytes → Goes t u f g p (flushed b) []
goes_flushed t u f g p b h = record { sent = h.sent; takes = h.takes; sends = subst (λ (xs : List ℕ). Sends p.failed b h.sent xs []) (sym (append-nil p.bytes)) h.sends; later = h.later; cause = h.cause }

pub goes_sent : {t u : Option (List ℕ)} {f g : ℕ} (p : Pending) (b : Bool) (x : List ℕ) → p.bytes ≡ [] → Goes t u f g (flushed p.failed) (flushed b) x → Goes t u f g p (record { bytes = p.bytes; failed = b }) x
goes_sent p b x e h = record {
  sent = h.sent;
  takes = h.takes;
  sends = subst (λ (xs : List ℕ). Sends p.failed b h.sent (xs ++ x) xs) (sym e) h.sends;
  later = h.later;
  cause = h.cause;
}

-- a text that was all said
pub said_of : {t u : Option (List ℕ)} {f g : ℕ} {p : Pending} {x : List ℕ} {r : Result (Unit {0}) ExecFault} → Goes t u f g nothing_pending p x → p.bytes ≡ [] → r ≡ sent_result p.failed → Said r t u f g x
said_of {t} {u} {f} {g} {p} {x} {r} h e is = subst (λ (s : Result (Unit {0}) ExecFault). Said s t u f g x) (sym is) (by p.failed refl h.sends)
  where
    by : (b : Bool) → p.failed ≡ b → Sends false b h.sent ([] ++ x) p.bytes → Said (sent_result b) t u f g x
    by true broken front = record { wrote = (h.sent, front, h.takes); memory = λ q. cc; later = h.later; cause = λ q. h.cause refl broken }
    by false calm all = record { wrote = subst (λ (s : List ℕ). Takes t u s) (sym (all ∙ ap (λ z. h.sent ++ z) e ∙ append-nil h.sent)) h.takes; memory = λ q. cc; later = h.later; cause = λ q. cc }

-- a refusal that is not want of memory is said
pub said_refusal : {T : Type 0} {r : Result T ExecFault} {t u : Option (List ℕ)} {f g : ℕ} (why : Refusal) → why ≢ refusal.NoMemory → Refuses why r t u f g → Said r t u f g (name_of why ++ 10 ∷ [])
said_refusal refusal.NoMemory memory h = absurd (memory refl)
said_refusal why memory h = h
