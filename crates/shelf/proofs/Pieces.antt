-- Pieces of a script, one after another.
use Rattle.std.proofs.Common.{◌≡◌, ℕ, ◌+◌, ◌≤◌, Bool, List, [], ◌∷◌, ◌++◌, length, Option, None, Some, Result, Ok, Err, OnOk, OnErr, cond, refl, sym, ◌∙◌, ap, subst, append_assoc, arith, length-append}
use Rattle.std.proofs.lemmas.List.{append-nil, take_all}
use Rattle.elem.specs.Outside.{Takes, Stays}
use Rattle.machine.specs.Bases.{Base}
use Rattle.machine.specs.State.{State}
use Rattle.machine.specs.RowCounts.{ChangesUpTo}
use Rattle.machine.specs.Languages.{known}
use Rattle.machine.specs.Lines.{step, step_of}
use Rattle.machine.specs.Outcomes.{written}
use Rattle.session.specs.Replying.{Wrote}
use Rattle.session.specs.declared.faults.ExecFault.{ExecFault}
use Rattle.session.specs.declared.faults.ExecFault.TheVariants.{WriteFault, NoMemory}
use Rattle.session.proofs.ReplyLemmas.{takes_more, takes_none}
use Rattle.script_text.specs.Lines.{line_of}
use Rattle.shelf.proofs.Lines.{kept_more, kept_short, read_kept}
use Rattle.shelf.specs.Feed.{IsOneLine, Fed, FedFront, FedWhole, last_reply, no_reply, replies_with, replies_on, whole_replies_on, kept}

pub stays_takes : (old new : Option (List ℕ)) → Stays old new → Takes old new []
stays_takes None new h = tt
stays_takes (Some xs) new h = h ∙ ap Some (sym (append-nil xs))

pub nothing_fed : (s : State) (line : List ℕ) (told : Option (List ℕ)) → Fed s s line line [] told told
nothing_fed s line told = record { text = []; takes = takes_none told; rest = λ at_end more. refl }

pub fed_more : (s t u : State) (line next last a b : List ℕ) (old mid new : Option (List ℕ)) → Fed s t line next a old mid → Fed t u next last b mid new → Fed s u line last (a ++ b) old new
fed_more s t u line next last a b old mid new f g = record {
  text = f.text ++ g.text;
  takes = takes_more old mid new f.text g.text f.takes g.takes;
  rest = λ at_end more. ap (replies_with at_end s line) (append_assoc a b more) ∙ f.rest at_end (b ++ more) ∙ ap (λ ys. f.text ++ ys) (g.rest at_end more) ∙ sym (append_assoc f.text g.text (replies_with at_end u last more));
}

pub fed_front : (s t : State) (line next a b : List ℕ) (old mid new : Option (List ℕ)) → Fed s t line next a old mid → FedFront t next b mid new → FedFront s line (a ++ b) old new
fed_front s t line next a b old mid new f g = record {
  text = f.text ++ g.text;
  takes = takes_more old mid new f.text g.text f.takes g.takes;
  rest = λ more. let tail = g.rest more in
      (tail.0, ap (replies_on s line) (append_assoc a b more) ∙ f.rest last_reply (b ++ more) ∙ ap (λ ys. f.text ++ ys) tail.1 ∙ sym (append_assoc f.text g.text tail.0));
}

-- what was fed whole is a front of what comes
pub front_of : (s t : State) (line next a : List ℕ) (old new : Option (List ℕ)) → Fed s t line next a old new → FedFront s line a old new
front_of s t line next a old new f = record { text = f.text; takes = f.takes; rest = λ more. (replies_on t next more, f.rest last_reply more) }

-- more may come behind a front
pub longer_front : (s : State) (line a b : List ℕ) (old new : Option (List ℕ)) → FedFront s line a old new → FedFront s line (a ++ b) old new
longer_front s line a b old new f = record {
  text = f.text;
  takes = f.takes;
  rest = λ more. let tail = f.rest (b ++ more) in (tail.0, ap (replies_on s line) (append_assoc a b more) ∙ tail.1);
}

-- ---- a text without a newline, and the newline behind it

-- a text goes to the line that is being read
over_text : (at_end : State → List ℕ → List ℕ) (s : State) (line text more : List ℕ) → length line ≤ 1025 → IsOneLine text → replies_with at_end s line (text ++ more) ≡ replies_with at_end s (kept (line ++ text)) more
unfolding replies_with
over_text at_end s line [] more short one = ap (λ l. replies_with at_end s l more) (sym (ap kept (append-nil line) ∙ take_all 1025 line short))
over_text at_end s line (b ∷ bs) more short one =
    ap (λ (t : Bool). cond t (written (step known s line).reply ++ replies_with at_end (step known s line).after [] (bs ++ more)) (replies_with at_end s (kept (line ++ b ∷ [])) (bs ++ more))) one.0
    ∙ over_text at_end s (kept (line ++ b ∷ [])) bs more (kept_short (line ++ b ∷ [])) one.1
    ∙ ap (λ l. replies_with at_end s l more) (kept_more (line ++ b ∷ []) bs ∙ ap kept (append_assoc line (b ∷ []) bs))

pub text_fed : (s : State) (line text : List ℕ) (told : Option (List ℕ)) → length line ≤ 1025 → IsOneLine text → Fed s s line (kept (line ++ text)) text told told
text_fed s line text told short one = record { text = []; takes = takes_none told; rest = λ at_end more. over_text at_end s line text more short one }

-- the replies behind a line that a text ends, where it is executed as a line that reads the same
over_line : (at_end : State → List ℕ → List ℕ) (s : State) (line text seen more : List ℕ) → length line ≤ 1025 → IsOneLine text → line_of seen ≡ line_of (line ++ text)
    → replies_with at_end s line ((text ++ 10 ∷ []) ++ more) ≡ written (step known s seen).reply ++ replies_with at_end (step known s seen).after [] more
unfolding replies_with
over_line at_end s line text seen more short one same =
    ap (replies_with at_end s line) (append_assoc text (10 ∷ []) more) ∙ over_text at_end s line text (10 ∷ more) short one
    ∙ ap (λ t. written (step_of known s t).reply ++ replies_with at_end (step_of known s t).after [] more) (read_kept (line ++ text) ∙ sym same)

-- a line as it is executed: what came of it before, the text that ends it, and what was handed over
pub record IsLine (line text seen : List ℕ) : Type 0 where
  pub short : length line ≤ 1025
  pub one : IsOneLine text
  pub same : line_of seen ≡ line_of (line ++ text)

pub line_fed : (r : Result (Unit {0}) ExecFault) (s t : State) (line text seen next : List ℕ) (old new : Option (List ℕ)) → IsLine line text seen → next ≡ [] →
    OnOk r (t ≡ (step known s seen).after) → Wrote r old new (written (step known s seen).reply) → OnOk r (Fed s t line next (text ++ 10 ∷ []) old new)
line_fed (Ok x) s t line text seen next old new l none after wrote = record {
  text = written (step known s seen).reply;
  takes = wrote;
  rest = λ at_end more. over_line at_end s line text seen more l.short l.one l.same
      ∙ ap (λ u. written (step known s seen).reply ++ replies_with at_end u [] more) (sym after)
      ∙ ap (λ n. written (step known s seen).reply ++ replies_with at_end t n more) (sym none);
}
line_fed (Err e) s t line text seen next old new l none after wrote = tt

pub line_front : (r : Result (Unit {0}) ExecFault) (s : State) (line text seen : List ℕ) (old new : Option (List ℕ)) → IsLine line text seen → Wrote r old new (written (step known s seen).reply) → OnErr r (FedFront s line (text ++ 10 ∷ []) old new)
line_front (Ok x) s line text seen old new l wrote = tt
line_front (Err WriteFault) s line text seen old new l wrote = record {
  text = wrote.0;
  takes = wrote.2;
  rest = λ more. (
    (wrote.1).0 ++ replies_on (step known s seen).after [] more,
    over_line last_reply s line text seen more l.short l.one l.same ∙ ap (λ ys. ys ++ replies_on (step known s seen).after [] more) (wrote.1).1 ∙ append_assoc wrote.0 (wrote.1).0 (replies_on (step known s seen).after [] more),
  );
}
line_front (Err NoMemory) s line text seen old new l wrote = record { text = []; takes = stays_takes old new wrote; rest = λ more. (replies_on s line ((text ++ 10 ∷ []) ++ more), refl) }

-- a line that is handed over from its piece, and one from the buffer
pub from_piece : (line text : List ℕ) → line ≡ [] → IsOneLine text → IsLine line text text
from_piece line text none one = record { short = subst (λ (l : List ℕ). length l ≤ 1025) (sym none) (omega arith); one = one; same = ap (λ l. line_of (l ++ text)) (sym none) }

pub from_buffer : (line text seen : List ℕ) → length line ≤ 1025 → IsOneLine text → seen ≡ kept (line ++ text) → IsLine line text seen
from_buffer line text seen short one e = record { short = short; one = one; same = ap line_of e ∙ read_kept (line ++ text) }

-- ---- whole lines, where memory ran out

-- what was fed holds all its whole lines
pub whole_taken : (s t : State) (line next a : List ℕ) (old new : Option (List ℕ)) → Fed s t line next a old new → Takes old new (whole_replies_on s line a)
unfolding replies_with
whole_taken s t line next a old new f =
    subst (λ (text : List ℕ). Takes old new text) (sym (ap (whole_replies_on s line) (sym (append-nil a)) ∙ f.rest no_reply [] ∙ append-nil f.text)) f.takes

pub fed_whole : (s t : State) (line next a b : List ℕ) (old mid new : Option (List ℕ)) → Fed s t line next a old mid → FedWhole t next b mid new → FedWhole s line (a ++ b) old new
fed_whole s t line next a b old mid new f g = record {
  done = a ++ g.done;
  undone = g.undone;
  parts = ap (λ ys. a ++ ys) g.parts ∙ sym (append_assoc a g.done g.undone);
  takes = subst (λ (text : List ℕ). Takes old new text) (sym (f.rest no_reply g.done)) (takes_more old mid new f.text (whole_replies_on t next g.done) f.takes g.takes);
}

pub longer_whole : (s : State) (line a b : List ℕ) (old new : Option (List ℕ)) → FedWhole s line a old new → FedWhole s line (a ++ b) old new
longer_whole s line a b old new f = record { done = f.done; undone = f.undone ++ b; parts = ap (λ ys. ys ++ b) f.parts ∙ append_assoc f.done f.undone b; takes = f.takes }

-- a line for which there was no memory wrote nothing
pub nothing_whole : (s : State) (line came : List ℕ) (old new : Option (List ℕ)) → Stays old new → FedWhole s line came old new
unfolding replies_with
nothing_whole s line came old new h = record { done = []; undone = came; parts = refl; takes = stays_takes old new h }

pub no_memory_stays : (r : Result (Unit {0}) ExecFault) (old new : Option (List ℕ)) (text : List ℕ) → r ≡ Err NoMemory → Wrote r old new text → Stays old new
no_memory_stays (Ok x) old new text e h = cc
no_memory_stays (Err WriteFault) old new text e h = cc
no_memory_stays (Err NoMemory) old new text e h = h

pub weaker : (m n : ℕ) (bases : List Base) → m ≤ n → ChangesUpTo m bases → ChangesUpTo n bases
weaker m n [] le h = tt
weaker m n (it ∷ bases) le h = let first : it.change ≤ m = h.0 in (omega arith, weaker m n bases le h.1)

-- ---- a piece, line by line

-- How far a piece has come: its front was fed, and the rest is left.
pub record Feeding (before after : State) (line next piece rest : List ℕ) (old new : Option (List ℕ)) : Type 0 where
  pub done : List ℕ
  pub parts : piece ≡ done ++ rest
  pub fed : Fed before after line next done old new
  pub changes : (n : ℕ) → ChangesUpTo n before.bases → ChangesUpTo (n + length done) after.bases

pub begins_piece : (s : State) (line piece : List ℕ) (told : Option (List ℕ)) → Feeding s s line line piece piece told told
begins_piece s line piece told = record { done = []; parts = refl; fed = nothing_fed s line told; changes = λ n h. weaker n (n + 0) s.bases (omega arith) h }

module _ (s t : State) (line next piece rest : List ℕ) (old mid : Option (List ℕ)) (f : Feeding s t line next piece rest old mid) where
  -- the front of a piece that was fed with one more line
  pub goes_on : (u : State) (last text more : List ℕ) (new : Option (List ℕ)) → rest ≡ (text ++ 10 ∷ []) ++ more → Fed t u next last (text ++ 10 ∷ []) mid new → ((n : ℕ) → ChangesUpTo n t.bases → ChangesUpTo (n + 1) u.bases)
      → Feeding s u line last piece more old new
  goes_on u last text more new e g changes =
      let longer : length (f.done ++ (text ++ 10 ∷ [])) ≡ length f.done + length (text ++ 10 ∷ []) = length-append f.done (text ++ 10 ∷ []) in
      let line_long : length (text ++ 10 ∷ []) ≡ length text + 1 = length-append text (10 ∷ []) in
      record {
        done = f.done ++ (text ++ 10 ∷ []);
        parts = f.parts ∙ ap (λ ys. f.done ++ ys) e ∙ sym (append_assoc f.done (text ++ 10 ∷ []) more);
        fed = fed_more s t u line next last f.done (text ++ 10 ∷ []) old mid new f.fed g;
        changes = λ n h. weaker (n + length f.done + 1) (n + length (f.done ++ (text ++ 10 ∷ []))) u.bases (omega (arith, longer, line_long)) (changes (n + length f.done) (f.changes n h));
      }

  whole_piece : (text more : List ℕ) → rest ≡ (text ++ 10 ∷ []) ++ more → (f.done ++ (text ++ 10 ∷ [])) ++ more ≡ piece
  whole_piece text more e = append_assoc f.done (text ++ 10 ∷ []) more ∙ ap (λ ys. f.done ++ ys) (sym e) ∙ sym f.parts

  pub stops_front : (text more : List ℕ) (new : Option (List ℕ)) → rest ≡ (text ++ 10 ∷ []) ++ more → FedFront t next (text ++ 10 ∷ []) mid new → FedFront s line piece old new
  stops_front text more new e g =
      subst (λ (p : List ℕ). FedFront s line p old new) (whole_piece text more e) (longer_front s line (f.done ++ (text ++ 10 ∷ [])) more old new (fed_front s t line next f.done (text ++ 10 ∷ []) old mid new f.fed g))

  pub stops_whole : (text more : List ℕ) (new : Option (List ℕ)) → rest ≡ (text ++ 10 ∷ []) ++ more → FedWhole t next (text ++ 10 ∷ []) mid new → FedWhole s line piece old new
  stops_whole text more new e g =
      subst (λ (p : List ℕ). FedWhole s line p old new) (whole_piece text more e) (longer_whole s line (f.done ++ (text ++ 10 ∷ [])) more old new (fed_whole s t line next f.done (text ++ 10 ∷ []) old mid new f.fed g))

  -- the rest goes to the line that is being read
  pub ends_piece : (last : List ℕ) → length next ≤ 1025 → IsOneLine rest → last ≡ kept (next ++ rest) → Fed s t line last piece old mid
  ends_piece last short one e =
      subst (λ (p : List ℕ). Fed s t line last p old mid) (sym f.parts)
      (fed_more s t t line next last f.done rest old mid mid f.fed (subst (λ (l : List ℕ). Fed t t next l rest mid mid) (sym e) (text_fed t next rest mid short one)))

  pub changes_within : (n : ℕ) → ChangesUpTo n s.bases → ChangesUpTo (n + length piece) t.bases
  changes_within n h =
      let all : length piece ≡ length f.done + length rest = ap (λ (xs : List ℕ). length xs) f.parts ∙ length-append f.done rest in
      weaker (n + length f.done) (n + length piece) t.bases (omega (arith, all)) (f.changes n h)
