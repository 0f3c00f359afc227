-- The parts of a tree stand for that tree alone.
use Rattle.std.proofs.Common.{◌≡◌, List, [], ◌++◌, refl, sym, ap, ◌∙◌, append_assoc}
use Rattle.fn_lang.specs.declared.parts.Part.{Part}
use Rattle.fn_lang.specs.Trees.{PredTree, One, And, Or, Not, PairTree, OfKey, OfValue, Both, Either, Neither, FuncTree, Leaf, Then, When, pred_parts, pair_parts, func_parts}

regrouped : (us vs xs rs ss ys : List Part) → (us ++ vs) ++ xs ≡ (rs ++ ss) ++ ys → us ++ (vs ++ xs) ≡ rs ++ (ss ++ ys)
regrouped us vs xs rs ss ys e = sym (append_assoc us vs xs) ∙ e ∙ append_assoc rs ss ys

pred_same : (p q : PredTree) (xs ys : List Part) → pred_parts p ++ xs ≡ pred_parts q ++ ys → (p ≡ q) × (xs ≡ ys)
pred_same (One t) (One u) xs ys e = let h : t ≡ u = cc in (ap One h, cc)
pred_same (One t) (And r s) xs ys e = absurd cc
pred_same (One t) (Or r s) xs ys e = absurd cc
pred_same (One t) (Not r) xs ys e = absurd cc
pred_same (And p q) (One u) xs ys e = absurd cc
pred_same (And p q) (And r s) xs ys e =
    let l = pred_same p r (pred_parts q ++ xs) (pred_parts s ++ ys) (regrouped (pred_parts p) (pred_parts q) xs (pred_parts r) (pred_parts s) ys cc) in
    let m = pred_same q s xs ys l.1 in
    (rw (l.0, m.0) refl, m.1)
pred_same (And p q) (Or r s) xs ys e = absurd cc
pred_same (And p q) (Not r) xs ys e = absurd cc
pred_same (Or p q) (One u) xs ys e = absurd cc
pred_same (Or p q) (And r s) xs ys e = absurd cc
pred_same (Or p q) (Or r s) xs ys e =
    let l = pred_same p r (pred_parts q ++ xs) (pred_parts s ++ ys) (regrouped (pred_parts p) (pred_parts q) xs (pred_parts r) (pred_parts s) ys cc) in
    let m = pred_same q s xs ys l.1 in
    (rw (l.0, m.0) refl, m.1)
pred_same (Or p q) (Not r) xs ys e = absurd cc
pred_same (Not p) (One u) xs ys e = absurd cc
pred_same (Not p) (And r s) xs ys e = absurd cc
pred_same (Not p) (Or r s) xs ys e = absurd cc
pred_same (Not p) (Not r) xs ys e = let l = pred_same p r xs ys cc in (ap Not l.0, l.1)

pair_same : (p q : PairTree) (xs ys : List Part) → pair_parts p ++ xs ≡ pair_parts q ++ ys → (p ≡ q) × (xs ≡ ys)
pair_same (OfKey p) (OfKey r) xs ys e = let l = pred_same p r xs ys cc in (ap OfKey l.0, l.1)
pair_same (OfKey p) (OfValue r) xs ys e = absurd cc
pair_same (OfKey p) (Both r s) xs ys e = absurd cc
pair_same (OfKey p) (Either r s) xs ys e = absurd cc
pair_same (OfKey p) (Neither r) xs ys e = absurd cc
pair_same (OfValue p) (OfKey r) xs ys e = absurd cc
pair_same (OfValue p) (OfValue r) xs ys e = let l = pred_same p r xs ys cc in (ap OfValue l.0, l.1)
pair_same (OfValue p) (Both r s) xs ys e = absurd cc
pair_same (OfValue p) (Either r s) xs ys e = absurd cc
pair_same (OfValue p) (Neither r) xs ys e = absurd cc
pair_same (Both p q) (OfKey r) xs ys e = absurd cc
pair_same (Both p q) (OfValue r) xs ys e = absurd cc
pair_same (Both p q) (Both r s) xs ys e =
    let l = pair_same p r (pair_parts q ++ xs) (pair_parts s ++ ys) (regrouped (pair_parts p) (pair_parts q) xs (pair_parts r) (pair_parts s) ys cc) in
    let m = pair_same q s xs ys l.1 in
    (rw (l.0, m.0) refl, m.1)
pair_same (Both p q) (Either r s) xs ys e = absurd cc
pair_same (Both p q) (Neither r) xs ys e = absurd cc
pair_same (Either p q) (OfKey r) xs ys e = absurd cc
pair_same (Either p q) (OfValue r) xs ys e = absurd cc
pair_same (Either p q) (Both r s) xs ys e = absurd cc
pair_same (Either p q) (Either r s) xs ys e =
    let l = pair_same p r (pair_parts q ++ xs) (pair_parts s ++ ys) (regrouped (pair_parts p) (pair_parts q) xs (pair_parts r) (pair_parts s) ys cc) in
    let m = pair_same q s xs ys l.1 in
    (rw (l.0, m.0) refl, m.1)
pair_same (Either p q) (Neither r) xs ys e = absurd cc
pair_same (Neither p) (OfKey r) xs ys e = absurd cc
pair_same (Neither p) (OfValue r) xs ys e = absurd cc
pair_same (Neither p) (Both r s) xs ys e = absurd cc
pair_same (Neither p) (Either r s) xs ys e = absurd cc
pair_same (Neither p) (Neither r) xs ys e = let l = pair_same p r xs ys cc in (ap Neither l.0, l.1)

func_same : (f g : FuncTree) (xs ys : List Part) → func_parts f ++ xs ≡ func_parts g ++ ys → (f ≡ g) × (xs ≡ ys)
func_same (Leaf m) (Leaf n) xs ys e = let h : m ≡ n = cc in (ap Leaf h, cc)
func_same (Leaf m) (Then r s) xs ys e = absurd cc
func_same (Leaf m) (When q r s) xs ys e = absurd cc
func_same (Then f g) (Leaf n) xs ys e = absurd cc
func_same (Then f g) (Then r s) xs ys e =
    let l = func_same f r (func_parts g ++ xs) (func_parts s ++ ys) (regrouped (func_parts f) (func_parts g) xs (func_parts r) (func_parts s) ys cc) in
    let m = func_same g s xs ys l.1 in
    (rw (l.0, m.0) refl, m.1)
func_same (Then f g) (When q r s) xs ys e = absurd cc
func_same (When p f g) (Leaf n) xs ys e = absurd cc
func_same (When p f g) (Then r s) xs ys e = absurd cc
func_same (When p f g) (When q r s) xs ys e =
    let k = pred_same p q ((func_parts f ++ func_parts g) ++ xs) ((func_parts r ++ func_parts s) ++ ys) (regrouped (pred_parts p) (func_parts f ++ func_parts g) xs (pred_parts q) (func_parts r ++ func_parts s) ys cc) in
    let l = func_same f r (func_parts g ++ xs) (func_parts s ++ ys) (regrouped (func_parts f) (func_parts g) xs (func_parts r) (func_parts s) ys k.1) in
    let m = func_same g s xs ys l.1 in
    (rw (k.0, l.0, m.0) refl, m.1)

behind_nothing : (xs ys : List Part) → xs ≡ ys → xs ++ [] ≡ ys ++ []
behind_nothing xs ys e = ap (λ (l : List Part). l ++ []) e

pub pred_one : (p q : PredTree) → pred_parts p ≡ pred_parts q → p ≡ q
pred_one p q e = (pred_same p q [] [] (behind_nothing (pred_parts p) (pred_parts q) e)).0

pub pair_one : (p q : PairTree) → pair_parts p ≡ pair_parts q → p ≡ q
pair_one p q e = (pair_same p q [] [] (behind_nothing (pair_parts p) (pair_parts q) e)).0

pub func_one : (f g : FuncTree) → func_parts f ≡ func_parts g → f ≡ g
func_one f g e = (func_same f g [] [] (behind_nothing (func_parts f) (func_parts g) e)).0
