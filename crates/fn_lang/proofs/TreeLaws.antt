-- The value along the list of parts is the value of the tree.
use Rattle.std.proofs.Common.{◌≡◌, ◌≢◌, Bool, true, false, cond, List, [], ◌∷◌, ◌++◌, Option, Some, None, refl, sym, ap, ◌∙◌, append_assoc}
use Rattle.std.proofs.lemmas.List.{append-nil}
use Rattle.std.specs.Prelude.{not, ◌&&◌, ◌||◌}
use Rattle.elem.specs.declared.elements.Elem.{Elem}
use Rattle.fn_lang.specs.declared.leaves.Test.{Test}
use Rattle.fn_lang.specs.declared.leaves.Map.{Map}
use Rattle.fn_lang.specs.declared.parts.Part.{Part}
use Rattle.fn_lang.specs.declared.parts.Part.TheVariants as parts
use Rattle.fn_lang.specs.Trees.{PredTree, One, And, Or, Not, PairTree, OfKey, OfValue, Both, Either, Neither, FuncTree, Leaf, Then, When, pred_parts, pair_parts, func_parts, uncons}
use Rattle.fn_lang.specs.Meaning.{test_holds, mapped, pred_holds, pair_holds, func_value, HoldsAlong, PairHoldsAlong, GivesAlong}

abbrev pub found : Part × List Part → Option (Part × List Part)
found x = Some x

found_is : (x y : Part × List Part) → found x ≡ found y → x ≡ y
found_is x y h = cc

not_found : (x : Part × List Part) → None ≡ found x → ⊥
not_found x h = cc

-- ---- predicates

pub along_none : (x : Elem) (b : Bool) (rest : List Part) → HoldsAlong x [] b rest
unfolding HoldsAlong
along_none x b rest (One t) after e = absurd cc
along_none x b rest (And p q) after e = absurd cc
along_none x b rest (Or p q) after e = absurd cc
along_none x b rest (Not p) after e = absurd cc

pub along_test : (x : Elem) (t : Test) (rest : List Part) → HoldsAlong x (parts.Test t ∷ rest) (test_holds t x) rest
unfolding HoldsAlong
along_test x t rest (One u) after e = let h : t ≡ u = cc in (ap (λ (v : Test). test_holds v x) h, cc)
along_test x t rest (And p q) after e = absurd cc
along_test x t rest (Or p q) after e = absurd cc
along_test x t rest (Not p) after e = absurd cc

pub along_and : (x : Elem) (ps mid rest : List Part) (a b : Bool) → HoldsAlong x ps a mid → HoldsAlong x mid b rest → HoldsAlong x (parts.And ∷ ps) (a && b) rest
unfolding HoldsAlong
along_and x ps mid rest a b left right (One t) after e = absurd cc
along_and x ps mid rest a b left right (And p q) after e =
    let h : ps ≡ (pred_parts p ++ pred_parts q) ++ after = cc in
    let l = left p (pred_parts q ++ after) (h ∙ append_assoc (pred_parts p) (pred_parts q) after) in
    let r = right q after l.1 in
    (rw (l.0, r.0) refl, r.1)
along_and x ps mid rest a b left right (Or p q) after e = absurd cc
along_and x ps mid rest a b left right (Not p) after e = absurd cc

pub along_or : (x : Elem) (ps mid rest : List Part) (a b : Bool) → HoldsAlong x ps a mid → HoldsAlong x mid b rest → HoldsAlong x (parts.Or ∷ ps) (a || b) rest
unfolding HoldsAlong
along_or x ps mid rest a b left right (One t) after e = absurd cc
along_or x ps mid rest a b left right (And p q) after e = absurd cc
along_or x ps mid rest a b left right (Or p q) after e =
    let h : ps ≡ (pred_parts p ++ pred_parts q) ++ after = cc in
    let l = left p (pred_parts q ++ after) (h ∙ append_assoc (pred_parts p) (pred_parts q) after) in
    let r = right q after l.1 in
    (rw (l.0, r.0) refl, r.1)
along_or x ps mid rest a b left right (Not p) after e = absurd cc

pub along_not : (x : Elem) (ps rest : List Part) (a : Bool) → HoldsAlong x ps a rest → HoldsAlong x (parts.Not ∷ ps) (not a) rest
unfolding HoldsAlong
along_not x ps rest a inner (One t) after e = absurd cc
along_not x ps rest a inner (And p q) after e = absurd cc
along_not x ps rest a inner (Or p q) after e = absurd cc
along_not x ps rest a inner (Not p) after e = let l = inner p after cc in (ap not l.0, l.1)

-- ---- functions

pub gives_none : (x y : Elem) (rest : List Part) → GivesAlong x [] y rest
unfolding GivesAlong
gives_none x y rest (Leaf m) after e = absurd cc
gives_none x y rest (Then f g) after e = absurd cc
gives_none x y rest (When p f g) after e = absurd cc

pub gives_map : (x : Elem) (m : Map) (rest : List Part) → GivesAlong x (parts.Map m ∷ rest) (mapped m x) rest
unfolding GivesAlong
gives_map x m rest (Leaf n) after e = let h : m ≡ n = cc in (ap (λ (v : Map). mapped v x) h, cc)
gives_map x m rest (Then f g) after e = absurd cc
gives_map x m rest (When p f g) after e = absurd cc

pub gives_then : (x y z : Elem) (ps mid rest : List Part) → GivesAlong x ps y mid → GivesAlong y mid z rest → GivesAlong x (parts.Then ∷ ps) z rest
unfolding GivesAlong
gives_then x y z ps mid rest first second (Leaf m) after e = absurd cc
gives_then x y z ps mid rest first second (Then f g) after e =
    let h : ps ≡ (func_parts f ++ func_parts g) ++ after = cc in
    let l = first f (func_parts g ++ after) (h ∙ append_assoc (func_parts f) (func_parts g) after) in
    let r = second g after l.1 in
    (r.0 ∙ ap (func_value g) l.0, r.1)
gives_then x y z ps mid rest first second (When p f g) after e = absurd cc

pub gives_when : (x y z : Elem) (b : Bool) (ps mid end rest : List Part) → HoldsAlong x ps b mid → GivesAlong x mid y end → GivesAlong x end z rest → GivesAlong x (parts.When ∷ ps) (cond b y z) rest
unfolding GivesAlong HoldsAlong
gives_when x y z b ps mid end rest test good bad (Leaf m) after e = absurd cc
gives_when x y z b ps mid end rest test good bad (Then f g) after e = absurd cc
gives_when x y z b ps mid end rest test good bad (When p f g) after e =
    let h : ps ≡ (pred_parts p ++ (func_parts f ++ func_parts g)) ++ after = cc in
    let t = test p ((func_parts f ++ func_parts g) ++ after) (h ∙ append_assoc (pred_parts p) (func_parts f ++ func_parts g) after) in
    let l = good f (func_parts g ++ after) (t.1 ∙ append_assoc (func_parts f) (func_parts g) after) in
    let r = bad g after l.1 in
    (rw (t.0, l.0, r.0) refl, r.1)

-- ---- what the code knows

pub parts_are : (ps : List Part) (first : Part) (rest : List Part) → found (first, rest) ≡ uncons ps → ps ≡ first ∷ rest
unfolding uncons
parts_are [] first rest h = absurd cc
parts_are (p ∷ ps) first rest h =
    let e : (first, rest) ≡ (p, ps) = found_is (first, rest) (p, ps) h in
    ap (λ (q : Part × List Part). q.0 ∷ q.1) (sym e)

pub none_are : (ps : List Part) → None ≡ uncons ps → ps ≡ []
unfolding uncons
none_are [] h = refl
none_are (p ∷ ps) h = absurd (not_found (p, ps) h)

pub and_true : (a b r : Bool) → a ≡ true → r ≡ b → r ≡ (a && b)
and_true a b r h e = rw h e

pub and_false : (a b r : Bool) → a ≡ false → r ≡ a → r ≡ (a && b)
and_false a b r h e = e ∙ rw h refl

pub or_true : (a b r : Bool) → a ≡ true → r ≡ a → r ≡ (a || b)
or_true a b r h e = e ∙ rw h refl

pub or_false : (a b r : Bool) → a ≡ false → r ≡ b → r ≡ (a || b)
or_false a b r h e = rw h e

pub cond_true : (b : Bool) (y z r : Elem) → b ≡ true → r ≡ y → r ≡ cond b y z
cond_true b y z r h e = rw h e

pub cond_false : (b : Bool) (y z r : Elem) → b ≡ false → r ≡ z → r ≡ cond b y z
cond_false b y z r h e = rw h e

-- a part of another kind begins no predicate
pub along_other : (x : Elem) (first : Part) (ps rest : List Part) (b : Bool) → ((t : Test) → first ≢ parts.Test t) → first ≢ parts.And → first ≢ parts.Or → first ≢ parts.Not → HoldsAlong x (first ∷ ps) b rest
unfolding HoldsAlong
along_other x first ps rest b h1 h2 h3 h4 (One t) after e = absurd (h1 t cc)
along_other x first ps rest b h1 h2 h3 h4 (And p q) after e = absurd (h2 cc)
along_other x first ps rest b h1 h2 h3 h4 (Or p q) after e = absurd (h3 cc)
along_other x first ps rest b h1 h2 h3 h4 (Not p) after e = absurd (h4 cc)

-- a part of another kind begins no function
pub gives_other : (x : Elem) (first : Part) (ps rest : List Part) (y : Elem) → ((m : Map) → first ≢ parts.Map m) → first ≢ parts.Then → first ≢ parts.When → GivesAlong x (first ∷ ps) y rest
unfolding GivesAlong
gives_other x first ps rest y h1 h2 h3 (Leaf m) after e = absurd (h1 m cc)
gives_other x first ps rest y h1 h2 h3 (Then f g) after e = absurd (h2 cc)
gives_other x first ps rest y h1 h2 h3 (When p f g) after e = absurd (h3 cc)

pub along_all : (x : Elem) (ps rest : List Part) (b : Bool) (p : PredTree) → HoldsAlong x ps b rest → ps ≡ pred_parts p → b ≡ pred_holds p x
unfolding HoldsAlong
along_all x ps rest b p value is = (value p [] (is ∙ sym (append-nil (pred_parts p)))).0

pub gives_all : (x : Elem) (ps rest : List Part) (y : Elem) (f : FuncTree) → GivesAlong x ps y rest → ps ≡ func_parts f → y ≡ func_value f x
unfolding GivesAlong
gives_all x ps rest y f value is = (value f [] (is ∙ sym (append-nil (func_parts f)))).0

-- ---- predicates on pairs

pub pair_none : (k v : Elem) (b : Bool) (rest : List Part) → PairHoldsAlong k v [] b rest
unfolding PairHoldsAlong
pair_none k v b rest (OfKey p) after e = absurd cc
pair_none k v b rest (OfValue p) after e = absurd cc
pair_none k v b rest (Both p q) after e = absurd cc
pair_none k v b rest (Either p q) after e = absurd cc
pair_none k v b rest (Neither p) after e = absurd cc

pub pair_key : (k v : Elem) (ps rest : List Part) (b : Bool) → HoldsAlong k ps b rest → PairHoldsAlong k v (parts.Key ∷ ps) b rest
unfolding HoldsAlong PairHoldsAlong
pair_key k v ps rest b inner (OfKey p) after e = inner p after cc
pair_key k v ps rest b inner (OfValue p) after e = absurd cc
pair_key k v ps rest b inner (Both p q) after e = absurd cc
pair_key k v ps rest b inner (Either p q) after e = absurd cc
pair_key k v ps rest b inner (Neither p) after e = absurd cc

pub pair_value : (k v : Elem) (ps rest : List Part) (b : Bool) → HoldsAlong v ps b rest → PairHoldsAlong k v (parts.Value ∷ ps) b rest
unfolding HoldsAlong PairHoldsAlong
pair_value k v ps rest b inner (OfKey p) after e = absurd cc
pair_value k v ps rest b inner (OfValue p) after e = inner p after cc
pair_value k v ps rest b inner (Both p q) after e = absurd cc
pair_value k v ps rest b inner (Either p q) after e = absurd cc
pair_value k v ps rest b inner (Neither p) after e = absurd cc

pub pair_and : (k v : Elem) (ps mid rest : List Part) (a b : Bool) → PairHoldsAlong k v ps a mid → PairHoldsAlong k v mid b rest → PairHoldsAlong k v (parts.And ∷ ps) (a && b) rest
unfolding PairHoldsAlong
pair_and k v ps mid rest a b left right (OfKey p) after e = absurd cc
pair_and k v ps mid rest a b left right (OfValue p) after e = absurd cc
pair_and k v ps mid rest a b left right (Both p q) after e =
    let h : ps ≡ (pair_parts p ++ pair_parts q) ++ after = cc in
    let l = left p (pair_parts q ++ after) (h ∙ append_assoc (pair_parts p) (pair_parts q) after) in
    let r = right q after l.1 in
    (rw (l.0, r.0) refl, r.1)
pair_and k v ps mid rest a b left right (Either p q) after e = absurd cc
pair_and k v ps mid rest a b left right (Neither p) after e = absurd cc

pub pair_or : (k v : Elem) (ps mid rest : List Part) (a b : Bool) → PairHoldsAlong k v ps a mid → PairHoldsAlong k v mid b rest → PairHoldsAlong k v (parts.Or ∷ ps) (a || b) rest
unfolding PairHoldsAlong
pair_or k v ps mid rest a b left right (OfKey p) after e = absurd cc
pair_or k v ps mid rest a b left right (OfValue p) after e = absurd cc
pair_or k v ps mid rest a b left right (Both p q) after e = absurd cc
pair_or k v ps mid rest a b left right (Either p q) after e =
    let h : ps ≡ (pair_parts p ++ pair_parts q) ++ after = cc in
    let l = left p (pair_parts q ++ after) (h ∙ append_assoc (pair_parts p) (pair_parts q) after) in
    let r = right q after l.1 in
    (rw (l.0, r.0) refl, r.1)
pair_or k v ps mid rest a b left right (Neither p) after e = absurd cc

pub pair_not : (k v : Elem) (ps rest : List Part) (a : Bool) → PairHoldsAlong k v ps a rest → PairHoldsAlong k v (parts.Not ∷ ps) (not a) rest
unfolding PairHoldsAlong
pair_not k v ps rest a inner (OfKey p) after e = absurd cc
pair_not k v ps rest a inner (OfValue p) after e = absurd cc
pair_not k v ps rest a inner (Both p q) after e = absurd cc
pair_not k v ps rest a inner (Either p q) after e = absurd cc
pair_not k v ps rest a inner (Neither p) after e = let l = inner p after cc in (ap not l.0, l.1)

-- a part of another kind begins no predicate on pairs
pub pair_other : (k v : Elem) (first : Part) (ps rest : List Part) (b : Bool) → first ≢ parts.Key → first ≢ parts.Value → first ≢ parts.And → first ≢ parts.Or → first ≢ parts.Not → PairHoldsAlong k v (first ∷ ps) b rest
unfolding PairHoldsAlong
pair_other k v first ps rest b h1 h2 h3 h4 h5 (OfKey p) after e = absurd (h1 cc)
pair_other k v first ps rest b h1 h2 h3 h4 h5 (OfValue p) after e = absurd (h2 cc)
pair_other k v first ps rest b h1 h2 h3 h4 h5 (Both p q) after e = absurd (h3 cc)
pair_other k v first ps rest b h1 h2 h3 h4 h5 (Either p q) after e = absurd (h4 cc)
pair_other k v first ps rest b h1 h2 h3 h4 h5 (Neither p) after e = absurd (h5 cc)

pub pair_all : (k v : Elem) (ps rest : List Part) (b : Bool) (p : PairTree) → PairHoldsAlong k v ps b rest → ps ≡ pair_parts p → b ≡ pair_holds p k v
unfolding PairHoldsAlong
pair_all k v ps rest b p value is = (value p [] (is ∙ sym (append-nil (pair_parts p)))).0
