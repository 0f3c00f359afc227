-- The tokens that are read spell a tree of the wanted sort, and the parts are its parts.
use Rattle.std.proofs.Common.{◌≡◌, ◌⊎◌, inl, inr, ℕ, ℤ, Bool, true, false, cond, List, [], ◌∷◌, ◌++◌, Option, Some, None, refl, sym, ap, ◌∙◌, append_assoc}
use Rattle.std.proofs.lemmas.List.{append-nil}
use Rattle.std.specs.Prelude.{option_to_list, ◌&&◌, codes}
use Rattle.std.specs.Option.{option_map}
use Rattle.std.proofs.lemmas.Slice.Eq.{bytes_eq-Decides}
use Rattle.elem.specs.declared.elements.Elem.{Elem}
use Rattle.elem.specs.declared.elements.Elem.TheVariants.{Int, Text}
use Rattle.elem.specs.declared.tokens.Token.{Token}
use Rattle.elem.specs.declared.tokens.Token.TheVariants as tokens
use Rattle.elem.specs.declared.tokens.Sign.TheVariants as signs
use Rattle.elem.specs.SpanTexts.{element_of, element_token}
use Rattle.fn_lang.specs.declared.leaves.Test.TheVariants as tests
use Rattle.fn_lang.specs.declared.leaves.Map.TheVariants as maps
use Rattle.fn_lang.specs.declared.parts.Part.{Part}
use Rattle.fn_lang.specs.declared.parts.Part.TheVariants as parts
use Rattle.fn_lang.specs.declared.names.Sort.{Sort}
use Rattle.fn_lang.specs.declared.names.Sort.TheVariants as sorts
use Rattle.fn_lang.specs.declared.names.Given.{Given}
use Rattle.fn_lang.specs.declared.names.Given.TheVariants as given
use Rattle.fn_lang.specs.declared.names.Inner.{Inner}
use Rattle.fn_lang.specs.declared.names.Inner.TheVariants.{One, Two, Three}
use Rattle.fn_lang.specs.declared.steps.Want.{Want}
use Rattle.fn_lang.specs.declared.steps.Want.TheVariants as wants
use Rattle.fn_lang.specs.declared.names.Shape.{Shape}
use Rattle.fn_lang.specs.declared.names.Shape.TheVariants as shapes
use Rattle.fn_lang.specs.declared.steps.Step.{Step}
use Rattle.fn_lang.specs.Trees.{PredTree, PairTree, FuncTree, One as Single, And, Or, Not, OfKey, OfValue, Both, Either, Neither, Leaf, Then, When, pred_parts, pair_parts, func_parts}
use Rattle.fn_lang.specs.Grammar.{applied, with_comma, IsAlone, SpellsPred, SpellsPair, SpellsFunc}
use Rattle.fn_lang.specs.Reading.{same_codes, shape_of, pred_shape, pair_shape, func_shape, given_part, plus_part, times_part, starts_part, prefix_part, step_of, tree_step, open_step, comma_step, open_given_step, close_step, shape_step, inner_step, part_step, stepped, wanted, nothing_wanted, parse, is_open}

abbrev pub some_parts : List Part → Option (List Part)
some_parts ps = Some ps

abbrev pub some_part : Part → Option Part
some_part p = Some p

-- the tokens spell a tree of the sort that has these parts
abbrev pub Reads : Sort → List Part → List Token → Type 0
Reads sorts.Pred ps ts = (p : PredTree) × (ps ≡ pred_parts p) × SpellsPred ts p
Reads sorts.PairPred ps ts = (p : PairTree) × (ps ≡ pair_parts p) × SpellsPair ts p
Reads sorts.Func ps ts = (f : FuncTree) × (ps ≡ func_parts f) × SpellsFunc ts f

-- the same for what stands in brackets
abbrev InSorts : Inner → List Part → List Token → Type 0
InSorts (One a) ps ts = Reads a ps ts
InSorts (Two a b) ps ts = (f g : List Part) × (u v : List Token) × (ps ≡ f ++ g) × (ts ≡ with_comma u v) × Reads a f u × Reads b g v
InSorts (Three a b c) ps ts = (f g h : List Part) × (u v w : List Token) × (ps ≡ f ++ (g ++ h)) × (ts ≡ with_comma u (with_comma v w)) × Reads a f u × Reads b g v × Reads c h w

abbrev bracket : Token
bracket = tokens.Sign signs.Open

abbrev comma : Token
comma = tokens.Sign signs.Comma

abbrev close : List Token
close = tokens.Sign signs.Close ∷ []

-- the tokens are what is wanted, and make these parts
abbrev Makes : Want → List Part → List Token → Type 0
Makes (wants.Tree s) ps ts = Reads s ps ts
Makes (wants.Open inner) ps ts = (mid : List Token) × (ts ≡ bracket ∷ (mid ++ close)) × InSorts inner ps mid
Makes (wants.Comma inner) ps ts = (mid : List Token) × (ts ≡ comma ∷ (mid ++ close)) × InSorts inner ps mid
Makes (wants.OpenGiven g) ps ts = (t : Token) × (p : Part) × (ts ≡ bracket ∷ t ∷ close) × (ps ≡ p ∷ []) × (given_part g t ≡ some_part p)
Makes (wants.Given g) ps ts = (t : Token) × (p : Part) × (ts ≡ t ∷ []) × (ps ≡ p ∷ []) × (given_part g t ≡ some_part p)
Makes wants.Close ps ts = (ts ≡ close) × (ps ≡ [])

abbrev Fits : List Want → List Part → List Token → Type 0
Fits [] ps ts = (ps ≡ []) × (ts ≡ [])
Fits (w ∷ ws) ps ts = (fp mp : List Part) × (ft mt : List Token) × (ps ≡ fp ++ mp) × (ts ≡ ft ++ mt) × Makes w fp ft × Fits ws mp mt

-- the same where empty brackets may stand first
abbrev FitsBare : Bool → List Want → List Part → List Token → Type 0
FitsBare false ws ps ts = Fits ws ps ts
FitsBare true ws ps ts = Fits ws ps ts ⊎ ((mt : List Token) × (ts ≡ bracket ∷ (close ++ mt)) × Fits ws ps mt)

plain_fits : (b : Bool) (ws : List Want) (ps : List Part) (ts : List Token) → Fits ws ps ts → FitsBare b ws ps ts
plain_fits false ws ps ts h = h
plain_fits true ws ps ts h = inl h

-- ---- what a name makes

abbrev ShapeMakes : List ℕ → Shape → List Part → List Token → Type 0
ShapeMakes w (shapes.Alone p) ps ts = (ps ≡ p ∷ []) × IsAlone w ts
ShapeMakes w (shapes.Given g) ps ts = (t : Token) × (p : Part) × (ts ≡ applied w (t ∷ [])) × (ps ≡ p ∷ []) × (given_part g t ≡ some_part p)
ShapeMakes w (shapes.Node p inner) ps ts = (rest : List Part) × (mid : List Token) × (ts ≡ applied w mid) × (ps ≡ p ∷ rest) × InSorts inner rest mid

abbrev IsOf : Sort → List ℕ → Option Shape → Type 0
IsOf s w None = Unit {0}
IsOf s w (Some h) = (ps : List Part) (ts : List Token) → ShapeMakes w h ps ts → Reads s ps ts

record Good (s : Sort) (w : List ℕ) (o : Option Shape) : Type 0 where
  is : IsOf s w o

text_is : (v w : List ℕ) → same_codes v w ≡ true → v ≡ w
text_is v w h = (bytes_eq-Decides v w).0 h

either : {s : Sort} {w : List ℕ} {x y : Option Shape} (b : Bool) → (b ≡ true → Good s w x) → Good s w y → Good s w (cond b x y)
either true p q = p refl
either false p q = q

named : (s : Sort) (w v : List ℕ) (h : Shape) → IsOf s v (Some h) → same_codes w v ≡ true → Good s w (Some h)
named s w v h is e = rw (text_is w v e) (record { is = is })

last : (s : Sort) (w : List ℕ) → Good s w None
last s w = record { is = tt }

element_is : (f : Elem → Part) (t : Token) (p : Part) → option_map f (element_of t) ≡ some_part p → (x : Elem) × (t ≡ element_token x) × (p ≡ f x)
element_is f (tokens.Word w) p h = (Text w, refl, cc)
element_is f (tokens.Number n) p h = (Int n, refl, cc)
element_is f (tokens.Sign s) p h = absurd cc

plus_is : (t : Token) (p : Part) → plus_part t ≡ some_part p → (n : ℤ) × (t ≡ tokens.Number n) × (p ≡ parts.Map (maps.Plus n))
plus_is (tokens.Number n) p h = (n, refl, cc)
plus_is (tokens.Word w) p h = absurd cc
plus_is (tokens.Sign s) p h = absurd cc

times_is : (t : Token) (p : Part) → times_part t ≡ some_part p → (n : ℤ) × (t ≡ tokens.Number n) × (p ≡ parts.Map (maps.Times n))
times_is (tokens.Number n) p h = (n, refl, cc)
times_is (tokens.Word w) p h = absurd cc
times_is (tokens.Sign s) p h = absurd cc

starts_is : (t : Token) (p : Part) → starts_part t ≡ some_part p → (w : List ℕ) × (t ≡ tokens.Word w) × (p ≡ parts.Test (tests.Starts w))
starts_is (tokens.Word w) p h = (w, refl, cc)
starts_is (tokens.Number n) p h = absurd cc
starts_is (tokens.Sign s) p h = absurd cc

prefix_is : (t : Token) (p : Part) → prefix_part t ≡ some_part p → (w : List ℕ) × (t ≡ tokens.Word w) × (p ≡ parts.Map (maps.Prefix w))
prefix_is (tokens.Word w) p h = (w, refl, cc)
prefix_is (tokens.Number n) p h = absurd cc
prefix_is (tokens.Sign s) p h = absurd cc

one_part : (ps : List Part) (p q : Part) → ps ≡ p ∷ [] → p ≡ q → ps ≡ q ∷ []
one_part ps p q e f = rw (e, f) refl

given_token : (w : List ℕ) (ts : List Token) (t u : Token) → ts ≡ applied w (t ∷ []) → t ≡ u → ts ≡ applied w (u ∷ [])
given_token w ts t u e f = rw (e, f) refl

is_any : IsOf sorts.Pred (codes "any") (Some (shapes.Alone (parts.Test tests.Any)))
is_any ps ts h = (Single tests.Any, h.0, h.1)

is_isint : IsOf sorts.Pred (codes "isInt") (Some (shapes.Alone (parts.Test tests.IsInt)))
is_isint ps ts h = (Single tests.IsInt, h.0, h.1)

is_even : IsOf sorts.Pred (codes "even") (Some (shapes.Alone (parts.Test tests.Even)))
is_even ps ts h = (Single tests.Even, h.0, h.1)

is_odd : IsOf sorts.Pred (codes "odd") (Some (shapes.Alone (parts.Test tests.Odd)))
is_odd ps ts h = (Single tests.Odd, h.0, h.1)

is_negate : IsOf sorts.Func (codes "neg") (Some (shapes.Alone (parts.Map maps.Negate)))
is_negate ps ts h = (Leaf maps.Negate, h.0, h.1)

is_length : IsOf sorts.Func (codes "len") (Some (shapes.Alone (parts.Map maps.Length)))
is_length ps ts h = (Leaf maps.Length, h.0, h.1)

is_below : IsOf sorts.Pred (codes "lt") (Some (shapes.Given given.Below))
is_below ps ts (t, p, e, f, g) = let x = element_is (λ y. parts.Test (tests.Below y)) t p g in (Single (tests.Below x.0), one_part ps p _ f x.2, given_token (codes "lt") ts t _ e x.1)

is_above : IsOf sorts.Pred (codes "gt") (Some (shapes.Given given.Above))
is_above ps ts (t, p, e, f, g) = let x = element_is (λ y. parts.Test (tests.Above y)) t p g in (Single (tests.Above x.0), one_part ps p _ f x.2, given_token (codes "gt") ts t _ e x.1)

is_same : IsOf sorts.Pred (codes "eq") (Some (shapes.Given given.Same))
is_same ps ts (t, p, e, f, g) = let x = element_is (λ y. parts.Test (tests.Same y)) t p g in (Single (tests.Same x.0), one_part ps p _ f x.2, given_token (codes "eq") ts t _ e x.1)

is_const : IsOf sorts.Func (codes "const") (Some (shapes.Given given.Const))
is_const ps ts (t, p, e, f, g) = let x = element_is (λ y. parts.Map (maps.Const y)) t p g in (Leaf (maps.Const x.0), one_part ps p _ f x.2, given_token (codes "const") ts t _ e x.1)

is_starts : IsOf sorts.Pred (codes "starts") (Some (shapes.Given given.Starts))
is_starts ps ts (t, p, e, f, g) = let x = starts_is t p g in (Single (tests.Starts x.0), one_part ps p _ f x.2, given_token (codes "starts") ts t _ e x.1)

is_plus : IsOf sorts.Func (codes "plus") (Some (shapes.Given given.Plus))
is_plus ps ts (t, p, e, f, g) = let x = plus_is t p g in (Leaf (maps.Plus x.0), one_part ps p _ f x.2, given_token (codes "plus") ts t _ e x.1)

is_times : IsOf sorts.Func (codes "times") (Some (shapes.Given given.Times))
is_times ps ts (t, p, e, f, g) = let x = times_is t p g in (Leaf (maps.Times x.0), one_part ps p _ f x.2, given_token (codes "times") ts t _ e x.1)

is_prefix : IsOf sorts.Func (codes "prefix") (Some (shapes.Given given.Prefix))
is_prefix ps ts (t, p, e, f, g) = let x = prefix_is t p g in (Leaf (maps.Prefix x.0), one_part ps p _ f x.2, given_token (codes "prefix") ts t _ e x.1)

-- the parts of one and of two in brackets
one_of : {A : Type 0} (f : A → List Part) (p : Part) (ps rest : List Part) (s : A) → ps ≡ p ∷ rest → rest ≡ f s → ps ≡ p ∷ f s
one_of f p ps rest s e g = rw (e, g) refl

two_of : {A : Type 0} (f : A → List Part) (p : Part) (ps rest a b : List Part) (s t : A) → ps ≡ p ∷ rest → rest ≡ a ++ b → a ≡ f s → b ≡ f t → ps ≡ p ∷ (f s ++ f t)
two_of f p ps rest a b s t d e g h = rw (d, e, g, h) refl

three_of : (ps rest a b c : List Part) (p : PredTree) (f g : FuncTree) → ps ≡ parts.When ∷ rest → rest ≡ a ++ (b ++ c) → a ≡ pred_parts p → b ≡ func_parts f → c ≡ func_parts g → ps ≡ func_parts (When p f g)
three_of ps rest a b c p f g d e x y z = rw (d, e, x, y, z) refl

is_and : IsOf sorts.Pred (codes "and") (Some (shapes.Node parts.And (Two sorts.Pred sorts.Pred)))
is_and ps ts (rest, mid, e, f, (a, b, u, v, g, h, (p, x, i), (q, y, j))) = (And p q, two_of pred_parts parts.And ps rest a b p q f g x y, (u, v, e ∙ ap (applied (codes "and")) h, i, j))

is_or : IsOf sorts.Pred (codes "or") (Some (shapes.Node parts.Or (Two sorts.Pred sorts.Pred)))
is_or ps ts (rest, mid, e, f, (a, b, u, v, g, h, (p, x, i), (q, y, j))) = (Or p q, two_of pred_parts parts.Or ps rest a b p q f g x y, (u, v, e ∙ ap (applied (codes "or")) h, i, j))

is_not : IsOf sorts.Pred (codes "not") (Some (shapes.Node parts.Not (One sorts.Pred)))
is_not ps ts (rest, mid, e, f, (p, x, i)) = (Not p, one_of pred_parts parts.Not ps rest p f x, (mid, e, i))

is_key : IsOf sorts.PairPred (codes "key") (Some (shapes.Node parts.Key (One sorts.Pred)))
is_key ps ts (rest, mid, e, f, (p, x, i)) = (OfKey p, one_of pred_parts parts.Key ps rest p f x, (mid, e, i))

is_value : IsOf sorts.PairPred (codes "value") (Some (shapes.Node parts.Value (One sorts.Pred)))
is_value ps ts (rest, mid, e, f, (p, x, i)) = (OfValue p, one_of pred_parts parts.Value ps rest p f x, (mid, e, i))

is_both : IsOf sorts.PairPred (codes "and") (Some (shapes.Node parts.And (Two sorts.PairPred sorts.PairPred)))
is_both ps ts (rest, mid, e, f, (a, b, u, v, g, h, (p, x, i), (q, y, j))) = (Both p q, two_of pair_parts parts.And ps rest a b p q f g x y, (u, v, e ∙ ap (applied (codes "and")) h, i, j))

is_either : IsOf sorts.PairPred (codes "or") (Some (shapes.Node parts.Or (Two sorts.PairPred sorts.PairPred)))
is_either ps ts (rest, mid, e, f, (a, b, u, v, g, h, (p, x, i), (q, y, j))) = (Either p q, two_of pair_parts parts.Or ps rest a b p q f g x y, (u, v, e ∙ ap (applied (codes "or")) h, i, j))

is_neither : IsOf sorts.PairPred (codes "not") (Some (shapes.Node parts.Not (One sorts.PairPred)))
is_neither ps ts (rest, mid, e, f, (p, x, i)) = (Neither p, one_of pair_parts parts.Not ps rest p f x, (mid, e, i))

is_then : IsOf sorts.Func (codes "then") (Some (shapes.Node parts.Then (Two sorts.Func sorts.Func)))
is_then ps ts (rest, mid, e, f, (a, b, u, v, g, h, (p, x, i), (q, y, j))) = (Then p q, two_of func_parts parts.Then ps rest a b p q f g x y, (u, v, e ∙ ap (applied (codes "then")) h, i, j))

is_when : IsOf sorts.Func (codes "when") (Some (shapes.Node parts.When (Three sorts.Pred sorts.Func sorts.Func)))
is_when ps ts (rest, mid, e, k, (a, b, c, u, v, w, d, h, (p, x, i), (f, y, j), (g, z, l))) = (When p f g, three_of ps rest a b c p f g k d x y z, (u, v, w, e ∙ ap (applied (codes "when")) h, i, j, l))

pred_of : (w : List ℕ) → Good sorts.Pred w (pred_shape w)
unfolding pred_shape
pred_of w =
    either (same_codes w (codes "any")) (named sorts.Pred w (codes "any") (shapes.Alone (parts.Test tests.Any)) is_any)
    (either (same_codes w (codes "isInt")) (named sorts.Pred w (codes "isInt") (shapes.Alone (parts.Test tests.IsInt)) is_isint)
    (either (same_codes w (codes "even")) (named sorts.Pred w (codes "even") (shapes.Alone (parts.Test tests.Even)) is_even)
    (either (same_codes w (codes "odd")) (named sorts.Pred w (codes "odd") (shapes.Alone (parts.Test tests.Odd)) is_odd)
    (either (same_codes w (codes "lt")) (named sorts.Pred w (codes "lt") (shapes.Given given.Below) is_below)
    (either (same_codes w (codes "gt")) (named sorts.Pred w (codes "gt") (shapes.Given given.Above) is_above)
    (either (same_codes w (codes "eq")) (named sorts.Pred w (codes "eq") (shapes.Given given.Same) is_same)
    (either (same_codes w (codes "starts")) (named sorts.Pred w (codes "starts") (shapes.Given given.Starts) is_starts)
    (either (same_codes w (codes "and")) (named sorts.Pred w (codes "and") (shapes.Node parts.And (Two sorts.Pred sorts.Pred)) is_and)
    (either (same_codes w (codes "or")) (named sorts.Pred w (codes "or") (shapes.Node parts.Or (Two sorts.Pred sorts.Pred)) is_or)
    (either (same_codes w (codes "not")) (named sorts.Pred w (codes "not") (shapes.Node parts.Not (One sorts.Pred)) is_not) (last sorts.Pred w)))))))))))

pair_of : (w : List ℕ) → Good sorts.PairPred w (pair_shape w)
unfolding pair_shape
pair_of w =
    either (same_codes w (codes "key")) (named sorts.PairPred w (codes "key") (shapes.Node parts.Key (One sorts.Pred)) is_key)
    (either (same_codes w (codes "value")) (named sorts.PairPred w (codes "value") (shapes.Node parts.Value (One sorts.Pred)) is_value)
    (either (same_codes w (codes "and")) (named sorts.PairPred w (codes "and") (shapes.Node parts.And (Two sorts.PairPred sorts.PairPred)) is_both)
    (either (same_codes w (codes "or")) (named sorts.PairPred w (codes "or") (shapes.Node parts.Or (Two sorts.PairPred sorts.PairPred)) is_either)
    (either (same_codes w (codes "not")) (named sorts.PairPred w (codes "not") (shapes.Node parts.Not (One sorts.PairPred)) is_neither) (last sorts.PairPred w)))))

func_of : (w : List ℕ) → Good sorts.Func w (func_shape w)
unfolding func_shape
func_of w =
    either (same_codes w (codes "plus")) (named sorts.Func w (codes "plus") (shapes.Given given.Plus) is_plus)
    (either (same_codes w (codes "times")) (named sorts.Func w (codes "times") (shapes.Given given.Times) is_times)
    (either (same_codes w (codes "neg")) (named sorts.Func w (codes "neg") (shapes.Alone (parts.Map maps.Negate)) is_negate)
    (either (same_codes w (codes "len")) (named sorts.Func w (codes "len") (shapes.Alone (parts.Map maps.Length)) is_length)
    (either (same_codes w (codes "const")) (named sorts.Func w (codes "const") (shapes.Given given.Const) is_const)
    (either (same_codes w (codes "prefix")) (named sorts.Func w (codes "prefix") (shapes.Given given.Prefix) is_prefix)
    (either (same_codes w (codes "then")) (named sorts.Func w (codes "then") (shapes.Node parts.Then (Two sorts.Func sorts.Func)) is_then)
    (either (same_codes w (codes "when")) (named sorts.Func w (codes "when") (shapes.Node parts.When (Three sorts.Pred sorts.Func sorts.Func)) is_when) (last sorts.Func w))))))))

sort_of : (s : Sort) (w : List ℕ) → IsOf s w (shape_of s w)
sort_of sorts.Pred w = (pred_of w).is
sort_of sorts.PairPred w = (pair_of w).is
sort_of sorts.Func w = (func_of w).is

-- ---- one step

abbrev StepFits : Want → Token → Option Step → Type 0
StepFits w t None = Unit {0}
StepFits w t (Some s) = (ws : List Want) (ps : List Part) (ts : List Token) → FitsBare s.bare (option_to_list s.next ++ (option_to_list s.later ++ ws)) ps ts → Fits (w ∷ ws) (option_to_list s.part ++ ps) (t ∷ ts)

front : (t : Token) (us vs : List Token) → us ≡ vs → t ∷ us ≡ t ∷ vs
front t us vs e = ap (λ (l : List Token). t ∷ l) e

part_front : (p : Part) (us vs : List Part) → us ≡ vs → p ∷ us ≡ p ∷ vs
part_front p us vs e = ap (λ (l : List Part). p ∷ l) e

alone_fits : (s : Sort) (w : List ℕ) (p : Part) → IsOf s w (Some (shapes.Alone p)) → (ws : List Want) (ps : List Part) (ts : List Token) → FitsBare true ws ps ts → Fits (wants.Tree s ∷ ws) (p ∷ ps) (tokens.Word w ∷ ts)
alone_fits s w p is ws ps ts (inl h) = (p ∷ [], ps, tokens.Word w ∷ [], ts, refl, refl, is (p ∷ []) (tokens.Word w ∷ []) (refl, inl refl), h)
alone_fits s w p is ws ps ts (inr (mt, e, h)) = (p ∷ [], ps, applied w [], mt, refl, front (tokens.Word w) ts (bracket ∷ (close ++ mt)) e, is (p ∷ []) (applied w []) (refl, inr refl), h)

shape_fits : (s : Sort) (w : List ℕ) (o : Option Shape) → IsOf s w o → StepFits (wants.Tree s) (tokens.Word w) (option_map shape_step o)
shape_fits s w None is = tt
shape_fits s w (Some (shapes.Alone p)) is = alone_fits s w p is
shape_fits s w (Some (shapes.Given g)) is = λ ws ps ts (fp, mp, ft, mt, d, e, (t, p, i, j, k), h). (fp, mp, tokens.Word w ∷ ft, mt, d, front (tokens.Word w) ts (ft ++ mt) e, is fp (tokens.Word w ∷ ft) (t, p, front (tokens.Word w) ft _ i, j, k), h)
shape_fits s w (Some (shapes.Node p inner)) is = λ ws ps ts (fp, mp, ft, mt, d, e, (mid, i, k), h). (p ∷ fp, mp, tokens.Word w ∷ ft, mt, part_front p ps (fp ++ mp) d, front (tokens.Word w) ts (ft ++ mt) e, is (p ∷ fp) (tokens.Word w ∷ ft) (fp, mid, front (tokens.Word w) ft _ i, refl, k), h)

-- behind the bracket or comma before these
abbrev Encloses : Inner → List Want → List Part → List Token → Type 0
Encloses inner ws ps ts = (fp mp : List Part) × (mid mt : List Token) × (ps ≡ fp ++ mp) × (ts ≡ (mid ++ close) ++ mt) × InSorts inner fp mid × Fits ws mp mt

closed : (ps f m c n : List Part) → ps ≡ f ++ m → m ≡ c ++ n → c ≡ [] → ps ≡ f ++ n
closed ps f m c n e g h = rw (e, g, h) refl

closing : (ts f m c n : List Token) → ts ≡ f ++ m → m ≡ c ++ n → c ≡ close → ts ≡ (f ++ close) ++ n
closing ts f m c n e g h = rw (e, g, h) (sym (append_assoc f close n))

two_parts : (ps f m g n : List Part) → ps ≡ f ++ m → m ≡ g ++ n → ps ≡ (f ++ g) ++ n
two_parts ps f m g n e h = rw (e, h) (sym (append_assoc f g n))

two_tokens : (ts f m g n mid : List Token) → ts ≡ f ++ m → m ≡ g ++ n → g ≡ comma ∷ (mid ++ close) → ts ≡ (with_comma f mid ++ close) ++ n
two_tokens ts f m g n mid e h k = rw (e, h, k) (sym (append_assoc (f ++ (comma ∷ mid)) close n ∙ append_assoc f (comma ∷ mid) (close ++ n) ∙ ap (λ (l : List Token). f ++ (comma ∷ l)) (sym (append_assoc mid close n))))

inner_fits : (inner : Inner) (ws : List Want) (ps : List Part) (ts : List Token) → Fits (option_to_list (inner_step inner).next ++ (option_to_list (inner_step inner).later ++ ws)) ps ts → Encloses inner ws ps ts
inner_fits (One a) ws ps ts (fp, mp, ft, mt, d, e, sort, (cp, np, ct, nt, i, j, (k, l), h)) = (fp, np, ft, nt, closed ps fp mp cp np d i l, closing ts ft mt ct nt e j k, sort, h)
inner_fits (Two a b) ws ps ts (fp, mp, ft, mt, d, e, sa, (gp, np, gt, nt, i, j, (mid, k, sb), h)) = (fp ++ gp, np, with_comma ft mid, nt, two_parts ps fp mp gp np d i, two_tokens ts ft mt gt nt mid e j k, (fp, gp, ft, mid, refl, refl, sa, sb), h)
inner_fits (Three a b c) ws ps ts (fp, mp, ft, mt, d, e, sa, (gp, np, gt, nt, i, j, (mid, k, (g1, g2, t1, t2, l, m, sb, sc)), h)) =
    (fp ++ gp, np, with_comma ft mid, nt, two_parts ps fp mp gp np d i, two_tokens ts ft mt gt nt mid e j k, (fp, g1, g2, ft, t1, t2, ap (λ (r : List Part). fp ++ r) l, ap (λ (r : List Token). with_comma ft r) m, sa, sb, sc), h)

tree_fits : (s : Sort) (t : Token) → StepFits (wants.Tree s) t (tree_step s t)
tree_fits s (tokens.Word w) = shape_fits s w (shape_of s w) (sort_of s w)
tree_fits s (tokens.Number n) = tt
tree_fits s (tokens.Sign g) = tt

opened : (inner : Inner) (ws : List Want) (ps : List Part) (ts : List Token) → Encloses inner ws ps ts → Fits (wants.Open inner ∷ ws) ps (bracket ∷ ts)
opened inner ws ps ts (fp, mp, mid, mt, d, e, k, h) = (fp, mp, bracket ∷ (mid ++ close), mt, d, front bracket ts ((mid ++ close) ++ mt) e, (mid, refl, k), h)

parted : (inner : Inner) (ws : List Want) (ps : List Part) (ts : List Token) → Encloses inner ws ps ts → Fits (wants.Comma inner ∷ ws) ps (comma ∷ ts)
parted inner ws ps ts (fp, mp, mid, mt, d, e, k, h) = (fp, mp, comma ∷ (mid ++ close), mt, d, front comma ts ((mid ++ close) ++ mt) e, (mid, refl, k), h)

open_fits : (inner : Inner) (t : Token) → StepFits (wants.Open inner) t (open_step inner t)
open_fits (One a) (tokens.Sign signs.Open) = λ ws ps ts h. opened (One a) ws ps ts (inner_fits (One a) ws ps ts h)
open_fits (Two a b) (tokens.Sign signs.Open) = λ ws ps ts h. opened (Two a b) ws ps ts (inner_fits (Two a b) ws ps ts h)
open_fits (Three a b c) (tokens.Sign signs.Open) = λ ws ps ts h. opened (Three a b c) ws ps ts (inner_fits (Three a b c) ws ps ts h)
open_fits inner t = tt

comma_fits : (inner : Inner) (t : Token) → StepFits (wants.Comma inner) t (comma_step inner t)
comma_fits (One a) (tokens.Sign signs.Comma) = λ ws ps ts h. parted (One a) ws ps ts (inner_fits (One a) ws ps ts h)
comma_fits (Two a b) (tokens.Sign signs.Comma) = λ ws ps ts h. parted (Two a b) ws ps ts (inner_fits (Two a b) ws ps ts h)
comma_fits (Three a b c) (tokens.Sign signs.Comma) = λ ws ps ts h. parted (Three a b c) ws ps ts (inner_fits (Three a b c) ws ps ts h)
comma_fits inner t = tt

given_tokens : (t : Token) (ts f m c n : List Token) → ts ≡ f ++ m → m ≡ c ++ n → c ≡ close → f ≡ t ∷ [] → bracket ∷ ts ≡ (bracket ∷ t ∷ close) ++ n
given_tokens t ts f m c n e g h k = rw (e, g, h, k) refl

open_given_fits : (g : Given) (t : Token) → StepFits (wants.OpenGiven g) t (open_given_step g t)
open_given_fits g (tokens.Sign signs.Open) = λ ws ps ts (fp, mp, ft, mt, d, e, (t, p, k, l, m), (cp, np, ct, nt, i, j, (n, o), h)). (fp, np, bracket ∷ t ∷ close, nt, closed ps fp mp cp np d i o, given_tokens t ts ft mt ct nt e j n k, (t, p, refl, l, m), h)
open_given_fits g t = tt

close_fits : (t : Token) → StepFits wants.Close t (close_step t)
close_fits (tokens.Sign signs.Close) = λ ws ps ts h. ([], ps, close, ts, refl, refl, (refl, refl), h)
close_fits t = tt

given_fits : (g : Given) (t : Token) (o : Option Part) → given_part g t ≡ o → StepFits (wants.Given g) t (option_map part_step o)
given_fits g t None e = tt
given_fits g t (Some p) e = λ ws ps ts h. (p ∷ [], ps, t ∷ [], ts, refl, refl, (t, p, refl, refl, e), h)

step_fits : (w : Want) (t : Token) → StepFits w t (step_of w t)
step_fits (wants.Tree s) t = tree_fits s t
step_fits (wants.Open inner) t = open_fits inner t
step_fits (wants.Comma inner) t = comma_fits inner t
step_fits (wants.OpenGiven g) t = open_given_fits g t
step_fits (wants.Given g) t = given_fits g t (given_part g t) refl
step_fits wants.Close t = close_fits t

-- ---- all tokens

parts_are : (ps qs : List Part) → some_parts ps ≡ some_parts qs → ps ≡ qs
parts_are ps qs h = cc

ended : (ws : List Want) (ps : List Part) → nothing_wanted ws ≡ some_parts ps → Fits ws ps []
ended [] ps h = (sym (parts_are [] ps h), refl)
ended (w ∷ ws) ps h = absurd cc

mapped_parts : (front : List Part) (o : Option (List Part)) (ps : List Part) → option_map (λ qs. front ++ qs) o ≡ some_parts ps → (qs : List Part) × (o ≡ some_parts qs) × (ps ≡ front ++ qs)
mapped_parts front None ps h = absurd cc
mapped_parts front (Some qs) ps h = (qs, refl, sym (parts_are (front ++ qs) ps h))

abbrev AllFit : List Token → (Bool → List Want → Option (List Part)) → Type 0
AllFit ts behind = (b : Bool) (us : List Want) (qs : List Part) → behind b us ≡ some_parts qs → FitsBare b us qs ts

stepped_fits : (w : Want) (ws : List Want) (t : Token) (ts : List Token) (o : Option Step) (ps : List Part) (behind : Bool → List Want → Option (List Part)) → StepFits w t o → AllFit ts behind → stepped o ws behind ≡ some_parts ps → Fits (w ∷ ws) ps (t ∷ ts)
stepped_fits w ws t ts None ps behind fits all h = absurd cc
stepped_fits w ws t ts (Some s) ps behind fits all h =
    let m = mapped_parts (option_to_list s.part) (behind s.bare (option_to_list s.next ++ (option_to_list s.later ++ ws))) ps h in
    rw m.2 (fits ws m.0 ts (all s.bare (option_to_list s.next ++ (option_to_list s.later ++ ws)) m.0 m.1))

wanted_fits : (ws : List Want) (t : Token) (ts : List Token) (ps : List Part) (behind : Bool → List Want → Option (List Part)) → AllFit ts behind → wanted ws t behind ≡ some_parts ps → Fits ws ps (t ∷ ts)
wanted_fits [] t ts ps behind all h = absurd cc
wanted_fits (w ∷ ws) t ts ps behind all h = stepped_fits w ws t ts (step_of w t) ps behind (step_fits w t) all h

open_is : (t : Token) → is_open t ≡ true → t ≡ bracket
open_is (tokens.Sign signs.Open) h = refl
open_is t h = absurd cc

bare_open : (b : Bool) (t : Token) → (b && is_open t) ≡ true → (b ≡ true) × (t ≡ bracket)
bare_open true t h = (refl, open_is t h)
bare_open false t h = absurd cc

empty_brackets : (ts c m : List Token) → ts ≡ c ++ m → c ≡ close → bracket ∷ ts ≡ bracket ∷ (close ++ m)
empty_brackets ts c m e h = rw (e, h) refl

without_close : (ws : List Want) (ps c m : List Part) (ts : List Token) → ps ≡ c ++ m → c ≡ [] → Fits ws m ts → Fits ws ps ts
without_close ws ps c m ts e none fits = rw (e, none) fits

brackets_fit : (ws : List Want) (ps : List Part) (ts : List Token) → Fits (wants.Close ∷ ws) ps ts → FitsBare true ws ps (bracket ∷ ts)
brackets_fit ws ps ts (cp, mp, ct, mt, d, e, (k, l), h) = inr (mt, empty_brackets ts ct mt e k, without_close ws ps cp mp mt d l h)

token_fits : (c b : Bool) (ws : List Want) (t : Token) (ts : List Token) (ps : List Part) (shut : Option (List Part)) (behind : Bool → List Want → Option (List Part)) → (b && is_open t) ≡ c → (shut ≡ some_parts ps → Fits (wants.Close ∷ ws) ps ts) → AllFit ts behind
    → cond c shut (wanted ws t behind) ≡ some_parts ps → FitsBare b ws ps (t ∷ ts)
token_fits true b ws t ts ps shut behind e close all h = let f = bare_open b t e in rw (f.0, f.1) (brackets_fit ws ps ts (close h))
token_fits false b ws t ts ps shut behind e close all h = plain_fits b ws ps (t ∷ ts) (wanted_fits ws t ts ps behind all h)

parse_fits : (ts : List Token) (bare : Bool) (ws : List Want) (ps : List Part) → parse bare ws ts ≡ some_parts ps → FitsBare bare ws ps ts
unfolding parse
parse_fits [] bare ws ps h = plain_fits bare ws ps [] (ended ws ps h)
parse_fits (t ∷ ts) bare ws ps h = token_fits (bare && is_open t) bare ws t ts ps (parse false (wants.Close ∷ ws) ts) (λ n us. parse n us ts) refl (λ k. parse_fits ts false (wants.Close ∷ ws) ps k) (λ n us qs k. parse_fits ts n us qs k) h

alone_is : {A : Type 0} (xs f m : List A) → xs ≡ f ++ m → m ≡ [] → xs ≡ f
alone_is xs f m e h = rw (e, h) (append-nil f)

whole : (s : Sort) (ps : List Part) (ts : List Token) → Fits (wants.Tree s ∷ []) ps ts → Reads s ps ts
whole s ps ts (fp, mp, ft, mt, d, e, sort, (i, j)) = rw (alone_is ps fp mp d i, alone_is ts ft mt e j) sort

pub parsed_reads : (s : Sort) (ts : List Token) (ps : List Part) → parse false (wants.Tree s ∷ []) ts ≡ some_parts ps → Reads s ps ts
parsed_reads s ts ps h = whole s ps ts (parse_fits ts false (wants.Tree s ∷ []) ps h)
