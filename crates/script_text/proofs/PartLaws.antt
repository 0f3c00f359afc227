-- Parts and the calls that they show.
use Rattle.std.proofs.Common.{◌≡◌, List, [], ◌∷◌, ◌++◌, refl, ap, append_assoc}
use Rattle.std.specs.Prelude.{map}
use Rattle.std.proofs.lemmas.List.{append-nil}
use Rattle.script_text.specs.declared.lines.Slice.{Slice}
use Rattle.script_text.specs.declared.lines.Part.{Part}
use Rattle.script_text.specs.Trees.{Call, part_of}
use Rattle.script_text.specs.Calls.{add_args, last_count, AreParts}

pub last_count-push : (ps : List Part) (p : Part) → last_count (ps ++ p ∷ []) ≡ p.count
last_count-push [] p = refl
last_count-push (q ∷ []) p = refl
last_count-push (q ∷ r ∷ ps) p = last_count-push (r ∷ ps) p

abbrev pub more_args : Call Slice → List Slice → Call Slice
more_args c places = record { word = c.word; args = c.args ++ places }

pub add_args-push : (cs : List (Call Slice)) (c : Call Slice) (places : List Slice) → add_args (cs ++ c ∷ []) places ≡ cs ++ more_args c places ∷ []
add_args-push [] c places = refl
add_args-push (d ∷ []) c places = refl
add_args-push (d ∷ e ∷ cs) c places = ap (λ (r : List (Call Slice)). d ∷ r) (add_args-push (e ∷ cs) c places)

pub map-push : (cs : List (Call Slice)) (c : Call Slice) → map part_of (cs ++ c ∷ []) ≡ map part_of cs ++ part_of c ∷ []
map-push [] c = refl
map-push (d ∷ cs) c = ap (λ (r : List Part). part_of d ∷ r) (map-push cs c)

-- the last part shows the last call
pub record ShowsLast (ps : List Part) (p : Part) (cs : List (Call Slice)) : Type 0 where
  pub front : List (Call Slice)
  pub last : Call Slice
  pub is : cs ≡ front ++ last ∷ []
  pub parts : ps ≡ map part_of front
  pub part : p ≡ part_of last

map_nil : (cs : List (Call Slice)) → [] ≡ map part_of cs → cs ≡ []
map_nil [] e = refl
map_nil (c ∷ cs) e = absurd cc

push_some : (ps : List Part) (p : Part) → ps ++ p ∷ [] ≡ [] → ⊥
push_some [] p e = cc
push_some (q ∷ ps) p e = cc

pub last_shown : (ps : List Part) (p : Part) (cs : List (Call Slice)) → ps ++ p ∷ [] ≡ map part_of cs → ShowsLast ps p cs
last_shown ps p [] e = absurd (push_some ps p e)
last_shown [] p (c ∷ cs) e =
    let tail : [] ≡ map part_of cs = cc in
    record { front = []; last = c; is = ap (λ (r : List (Call Slice)). c ∷ r) (map_nil cs tail); parts = refl; part = cc }
last_shown (q ∷ ps) p (c ∷ cs) e =
    let s = last_shown ps p cs cc in
    record { front = c ∷ s.front; last = s.last; is = ap (λ (r : List (Call Slice)). c ∷ r) s.is; parts = let first : q ≡ part_of c = cc in rw (first, ← s.parts) refl; part = s.part }

-- one more argument of the last part is one more of the last call
pub with_argument_shown : (ps : List Part) (p q : Part) (place : Slice) → ((c : Call Slice) → p ≡ part_of c → q ≡ part_of (more_args c (place ∷ []))) → (cs : List (Call Slice)) → AreParts (ps ++ p ∷ []) cs → AreParts (ps ++ q ∷ []) (add_args cs (place ∷ []))
with_argument_shown ps p q place more cs are =
    let s = last_shown ps p cs are in
    rw (s.is, add_args-push s.front s.last (place ∷ []), map-push s.front (more_args s.last (place ∷ [])), ← s.parts, more s.last s.part) refl

pub add_args-nil : (cs : List (Call Slice)) → add_args cs [] ≡ cs
add_args-nil [] = refl
add_args-nil (c ∷ []) = rw append-nil refl
add_args-nil (c ∷ d ∷ cs) = ap (λ (r : List (Call Slice)). c ∷ r) (add_args-nil (d ∷ cs))

pub add_args-twice : (cs : List (Call Slice)) (ps qs : List Slice) → add_args (add_args cs ps) qs ≡ add_args cs (ps ++ qs)
add_args-twice [] ps qs = refl
add_args-twice (c ∷ []) ps qs = rw append_assoc refl
add_args-twice (c ∷ d ∷ []) ps qs = rw append_assoc refl
add_args-twice (c ∷ d ∷ e ∷ cs) ps qs = ap (λ (r : List (Call Slice)). c ∷ r) (add_args-twice (d ∷ e ∷ cs) ps qs)
