-- How a run goes on, and how it ends.
use Rattle.std.proofs.Common.{◌≡◌, ℕ, ◌+◌, ◌^◌, ◌<◌, ◌≤◌, ◌↔◌, false, List, [], ◌++◌, length, take, Option, None, Some, Result, Ok, Err, OnOk, refl, sym, ◌∙◌, ap, subst, append_assoc, length-append, arith, inl, inr}
use Rattle.std.specs.Result.{is_err}
use Rattle.std.proofs.lemmas.Bool.Decides.{leb_tells}
use Rattle.std.proofs.lemmas.List.{append-nil, take-append-le, take_all}
use Rattle.elem.specs.Outside.{Takes, TakesFront, Stays, Gives, IsToldEmpty, IsFront}
use Rattle.machine.specs.State.{State, empty}
use Rattle.shelf.specs.Transcript.{transcript, whole_lines}
use Rattle.session.specs.Replying.{Wrote}
use Rattle.session.specs.declared.faults.ExecFault.{ExecFault}
use Rattle.session.specs.declared.faults.ExecFault.TheVariants as faults
use Rattle.shelf.specs.declared.status.Status.{Status}
use Rattle.shelf.specs.declared.status.Status.TheVariants.{Done, ReadFault, NoMemory, TooLong}
use Rattle.shelf.specs.Feed.{Fed, FedFront, FedWhole, Coming, replies_on, last_reply}
use Rattle.shelf.specs.Headline.{Ran, fault_status}
use Rattle.session.proofs.ReplyLemmas.{takes_more}
use Rattle.shelf.proofs.Lines.{transcript_is, whole_transcript}
use Rattle.shelf.proofs.Pieces.{nothing_fed, fed_more, fed_front, front_of, longer_front, stays_takes, fed_whole, whole_taken}

pub ok_part : {T E P : Type 0} (r : Result T E) → is_err r ≡ false → OnOk r P → P
ok_part (Ok x) e h = h
ok_part (Err x) e h = cc

-- a call that gave a piece of told bytes tells the rest
pub gave : (before now : Option (List ℕ)) (left piece : List ℕ) → before ≡ Some left → Gives before now piece → (rest : List ℕ) × (now ≡ Some rest) × (left ≡ piece ++ rest)
gave None now left piece h g = cc
gave (Some xs) None left piece h g = absurd g
gave (Some xs) (Some rest) left piece h g = let same : left ≡ xs = cc in (rest, refl, same ∙ g)

pub stayed : (before now : Option (List ℕ)) (left : List ℕ) → before ≡ Some left → Stays before now → now ≡ Some left
stayed None now left h s = cc
stayed (Some xs) now left h s = s ∙ h

pub told_empty : (before : Option (List ℕ)) (left : List ℕ) → before ≡ Some left → IsToldEmpty before → left ≡ []
told_empty None left h e = cc
told_empty (Some xs) left h e = let same : left ≡ xs = cc in same ∙ e

pub begins : (bytes : List ℕ) (left : Option (List ℕ)) (s : State) (line : List ℕ) (told : Option (List ℕ)) → left ≡ Some bytes → s ≡ empty → line ≡ [] → Coming bytes left 0 s line told told
begins bytes left s line told h e n = record {
  came = [];
  left = bytes;
  parts = refl;
  told = h;
  count = refl;
  fed = subst (λ (t : State). Fed empty t [] line [] told told) (sym e) (subst (λ (l : List ℕ). Fed empty empty [] l [] told told) (sym n) (nothing_fed empty [] told));
}

pub comes : (bytes : List ℕ) (before now : Option (List ℕ)) (taken : ℕ) (s t : State) (line next piece : List ℕ) (old mid new : Option (List ℕ)) →
    Coming bytes before taken s line old mid → Gives before now piece → Fed s t line next piece mid new → (m : ℕ) → m ≡ taken + length piece → Coming bytes now m t next old new
comes bytes before now taken s t line next piece old mid new c g f m e =
    let given = gave before now c.left piece c.told g in
    let len : length (c.came ++ piece) ≡ length c.came + length piece = length-append c.came piece in
    let count : length c.came ≡ taken = c.count in
    record {
      came = c.came ++ piece;
      left = given.0;
      parts = c.parts ∙ ap (λ ys. c.came ++ ys) given.2 ∙ sym (append_assoc c.came piece given.0);
      told = given.1;
      count = omega arith;
      fed = fed_more empty s t [] line next c.came piece old mid new c.fed f;
    }

-- the sink took a front of the transcript
front_taken : (came : List ℕ) (old new : Option (List ℕ)) → FedFront empty [] came old new → TakesFront old new (transcript came)
front_taken came old new f =
    (f.text, subst (λ (ys : List ℕ). IsFront f.text ys) (ap (replies_on empty []) (append-nil came) ∙ sym (transcript_is came)) (f.rest []), f.takes)

-- and so a front of that of the whole script
front_of_all : (bytes came left : List ℕ) (old new : Option (List ℕ)) → bytes ≡ came ++ left → FedFront empty [] came old new → TakesFront old new (transcript bytes)
front_of_all bytes came left old new parts f =
    (f.text, subst (λ (ys : List ℕ). IsFront f.text ys) (ap (replies_on empty []) (sym parts) ∙ sym (transcript_is bytes)) (f.rest left), f.takes)

-- the sink took the replies of the whole lines
lines_taken : (s : State) (line came : List ℕ) (old new : Option (List ℕ)) → Fed empty s [] line came old new → Takes old new (transcript (whole_lines came))
lines_taken s line came old new f = subst (λ (text : List ℕ). Takes old new text) (whole_transcript came) (whole_taken empty s [] line came old new f)

-- what a run that was not done leaves, by its status
pub record Unfinished (came : List ℕ) (old new : Option (List ℕ)) (status : Status) : Type 0 where
  pub front : FedFront empty [] came old new
  pub not_done : status ≡ Done → ⊥
  pub unread : status ≡ ReadFault → Takes old new (transcript (whole_lines came))
  pub memory : status ≡ NoMemory → FedWhole empty [] came old new
  pub long : (status ≡ TooLong) ↔ (2 ^ 40 < length came)
  pub within : status ≡ TooLong → Takes old new (transcript (whole_lines (take (2 ^ 40) came)))

pub ran_front : (bytes came left : List ℕ) (old new : Option (List ℕ)) (status : Status) → bytes ≡ came ++ left → Unfinished came old new status → Ran bytes came left old new status
ran_front bytes came left old new status parts h = record {
  parts = parts;
  done = λ e. absurd (h.not_done e);
  front = front_taken came old new h.front;
  write_fault = λ e. front_of_all bytes came left old new parts h.front;
  read_fault = h.unread;
  no_memory = λ e. let w = h.memory e in (w.done, w.undone, w.parts, subst (λ (text : List ℕ). Takes old new text) (whole_transcript w.done) w.takes);
  too_long = h.long;
  within = h.within;
}

pub ends_unread : (bytes : List ℕ) (before now : Option (List ℕ)) (taken : ℕ) (s : State) (line : List ℕ) (old new : Option (List ℕ)) →
    Coming bytes before taken s line old new → taken ≤ 2 ^ 40 → Stays before now → (came left : List ℕ) × (now ≡ Some left) × Ran bytes came left old new ReadFault
ends_unread bytes before now taken s line old new c within stays =
    let count : length c.came ≡ taken = c.count in (
      c.came,
      c.left,
      stayed before now c.left c.told stays,
      ran_front bytes c.came c.left old new ReadFault c.parts (record {
        front = front_of empty s [] line c.came old new c.fed;
        not_done = λ e. (cc);
        unread = λ e. lines_taken s line c.came old new c.fed;
        memory = λ e. (cc);
        long = ((λ e. (cc)), λ h. absurd (omega arith));
        within = λ e. (cc);
      }),
    )

-- more came than a script may have only after all that it may have
pub all_taken : (taken most count len : ℕ) → taken ≤ 2 ^ 40 → (taken < 2 ^ 40 → taken + most ≤ 2 ^ 40) → count ≤ len → len ≤ most → 2 ^ 40 < taken + count → taken ≡ 2 ^ 40
all_taken taken most count len within room bound fits long = elim (leb_tells (2 ^ 40) taken) as (λ _. taken ≡ 2 ^ 40) [
  | inl p ↦ omega (arith, p.1, within)
  | inr q ↦ let fit : taken + most ≤ 2 ^ 40 = room q.1 in omega (arith, fit, bound, fits, long)
]

pub ends_too_long : (bytes : List ℕ) (before now : Option (List ℕ)) (taken : ℕ) (s : State) (line piece : List ℕ) (old new : Option (List ℕ)) →
    Coming bytes before taken s line old new → Gives before now piece → taken ≡ 2 ^ 40 → 2 ^ 40 < taken + length piece → (came left : List ℕ) × (now ≡ Some left) × Ran bytes came left old new TooLong
ends_too_long bytes before now taken s line piece old new c g full long =
    let given = gave before now c.left piece c.told g in
    let count : length c.came ≡ taken = c.count in
    let len : length (c.came ++ piece) ≡ length c.came + length piece = length-append c.came piece in
    let front : take (2 ^ 40) (c.came ++ piece) ≡ c.came = take-append-le (2 ^ 40) c.came piece (omega arith) ∙ take_all (2 ^ 40) c.came (omega arith) in (
      c.came ++ piece,
      given.0,
      given.1,
      ran_front bytes (c.came ++ piece) given.0 old new TooLong (c.parts ∙ ap (λ ys. c.came ++ ys) given.2 ∙ sym (append_assoc c.came piece given.0)) (record {
        front = longer_front empty [] c.came piece old new (front_of empty s [] line c.came old new c.fed);
        not_done = λ e. (cc);
        unread = λ e. (cc);
        memory = λ e. (cc);
        long = ((λ e. omega arith), λ h. refl);
        within = λ e. subst (λ (bs : List ℕ). Takes old new (transcript (whole_lines bs))) (sym front) (lines_taken s line c.came old new c.fed);
      }),
    )

not_too_long : (why : ExecFault) → fault_status why ≡ TooLong → ⊥
not_too_long faults.WriteFault e = cc
not_too_long faults.NoMemory e = cc

not_unread : (why : ExecFault) → fault_status why ≡ ReadFault → ⊥
not_unread faults.WriteFault e = cc
not_unread faults.NoMemory e = cc

no_memory : (why : ExecFault) → fault_status why ≡ NoMemory → why ≡ faults.NoMemory
no_memory faults.WriteFault e = cc
no_memory faults.NoMemory e = refl

not_done : (why : ExecFault) → fault_status why ≡ Done → ⊥
not_done faults.WriteFault e = cc
not_done faults.NoMemory e = cc

pub ends_in_line : (bytes : List ℕ) (before now : Option (List ℕ)) (taken : ℕ) (s : State) (line piece : List ℕ) (old mid new : Option (List ℕ)) (why : ExecFault) →
    Coming bytes before taken s line old mid → Gives before now piece → taken + length piece ≤ 2 ^ 40 → FedFront s line piece mid new → (why ≡ faults.NoMemory → FedWhole s line piece mid new) →
    (came left : List ℕ) × (now ≡ Some left) × Ran bytes came left old new (fault_status why)
ends_in_line bytes before now taken s line piece old mid new why c g within f whole =
    let given = gave before now c.left piece c.told g in
    let count : length c.came ≡ taken = c.count in
    let len : length (c.came ++ piece) ≡ length c.came + length piece = length-append c.came piece in (
      c.came ++ piece,
      given.0,
      given.1,
      ran_front bytes (c.came ++ piece) given.0 old new (fault_status why) (c.parts ∙ ap (λ ys. c.came ++ ys) given.2 ∙ sym (append_assoc c.came piece given.0)) (record {
        front = fed_front empty s [] line c.came piece old mid new c.fed f;
        not_done = not_done why;
        unread = λ e. absurd (not_unread why e);
        memory = λ e. fed_whole empty s [] line c.came piece old mid new c.fed (whole (no_memory why e));
        long = ((λ e. absurd (not_too_long why e)), λ h. absurd (omega arith));
        within = λ e. absurd (not_too_long why e);
      }),
    )

pub ends : (bytes : List ℕ) (before now : Option (List ℕ)) (taken : ℕ) (s : State) (line : List ℕ) (old mid new : Option (List ℕ)) →
    Coming bytes before taken s line old mid → taken ≤ 2 ^ 40 → IsToldEmpty before → Gives before now [] → Takes mid new (replies_on s line []) →
    (came left : List ℕ) × (now ≡ Some left) × Ran bytes came left old new Done
ends bytes before now taken s line old mid new c within none g takes =
    let given = gave before now c.left [] c.told g in
    let empty_left : c.left ≡ [] = told_empty before c.left c.told none in
    let no_rest : given.0 ≡ [] = sym given.2 ∙ empty_left in
    let count : length c.came ≡ taken = c.count in
    let all : bytes ≡ c.came = c.parts ∙ ap (λ ys. c.came ++ ys) empty_left ∙ append-nil c.came in
    let text : transcript c.came ≡ (c.fed).text ++ replies_on s line [] = transcript_is c.came ∙ ap (replies_on empty []) (sym (append-nil c.came)) ∙ (c.fed).rest last_reply [] in
    let whole : Takes old new (transcript c.came) = subst (λ (ys : List ℕ). Takes old new ys) (sym text) (takes_more old mid new (c.fed).text (replies_on s line []) (c.fed).takes takes) in (
      c.came,
      given.0,
      given.1,
      record {
        parts = c.parts ∙ ap (λ ys. c.came ++ ys) given.2;
        done = λ e. (no_rest, subst (λ (bs : List ℕ). Takes old new (transcript bs)) (sym all) whole);
        front = (transcript c.came, ([], sym (append-nil (transcript c.came))), whole);
        write_fault = λ e. (cc);
        read_fault = λ e. (cc);
        no_memory = λ e. (cc);
        too_long = ((λ e. (cc)), λ h. absurd (omega arith));
        within = λ e. (cc);
      },
    )

wrote_nothing : (why : ExecFault) (mid new : Option (List ℕ)) (text : List ℕ) → fault_status why ≡ NoMemory → Wrote {T = Unit {0}} (Err why) mid new text → Stays mid new
wrote_nothing faults.WriteFault mid new text e h = cc
wrote_nothing faults.NoMemory mid new text e h = h

-- what stayed with the sink where there was no memory for a last line
whole_before : (s : State) (line came : List ℕ) (old mid new : Option (List ℕ)) → Fed empty s [] line came old mid → Stays mid new → Takes old new (transcript (whole_lines came))
whole_before s line came old mid new f h =
    subst (λ (text : List ℕ). Takes old new text) (append-nil (transcript (whole_lines came))) (takes_more old mid new (transcript (whole_lines came)) [] (lines_taken s line came old mid f) (stays_takes mid new h))

wrote_front : (why : ExecFault) (mid new : Option (List ℕ)) (text : List ℕ) → Wrote {T = Unit {0}} (Err why) mid new text → TakesFront mid new text
wrote_front faults.WriteFault mid new text h = h
wrote_front faults.NoMemory mid new text h = ([], (text, refl), stays_takes mid new h)

pub ends_at_fault : (bytes : List ℕ) (before now : Option (List ℕ)) (taken : ℕ) (s : State) (line : List ℕ) (old mid new : Option (List ℕ)) (why : ExecFault) →
    Coming bytes before taken s line old mid → taken ≤ 2 ^ 40 → IsToldEmpty before → Gives before now [] → Wrote {T = Unit {0}} (Err why) mid new (replies_on s line []) →
    (came left : List ℕ) × (now ≡ Some left) × Ran bytes came left old new (fault_status why)
ends_at_fault bytes before now taken s line old mid new why c within none g wrote =
    let given = gave before now c.left [] c.told g in
    let count : length c.came ≡ taken = c.count in
    let all : bytes ≡ c.came = c.parts ∙ ap (λ ys. c.came ++ ys) (told_empty before c.left c.told none) ∙ append-nil c.came in
    let front : TakesFront mid new (replies_on s line []) = wrote_front why mid new (replies_on s line []) wrote in
    let text : transcript c.came ≡ (c.fed).text ++ replies_on s line [] = transcript_is c.came ∙ ap (replies_on empty []) (sym (append-nil c.came)) ∙ (c.fed).rest last_reply [] in
    let taken_front : TakesFront old new (transcript c.came) = (
      (c.fed).text ++ front.0,
      ((front.1).0, text ∙ ap (λ ys. (c.fed).text ++ ys) (front.1).1 ∙ sym (append_assoc (c.fed).text front.0 (front.1).0)),
      takes_more old mid new (c.fed).text front.0 (c.fed).takes front.2,
    ) in (
      c.came,
      given.0,
      given.1,
      record {
        parts = c.parts ∙ ap (λ ys. c.came ++ ys) given.2;
        done = λ e. absurd (not_done why e);
        front = taken_front;
        write_fault = λ e. subst (λ (bs : List ℕ). TakesFront old new (transcript bs)) (sym all) taken_front;
        read_fault = λ e. absurd (not_unread why e);
        no_memory = λ e. (c.came, [], sym (append-nil c.came), whole_before s line c.came old mid new c.fed (wrote_nothing why mid new (replies_on s line []) e wrote));
        too_long = ((λ e. absurd (not_too_long why e)), λ h. absurd (omega arith));
        within = λ e. absurd (not_too_long why e);
      },
    )
