use Rattle.std.proofs.Common.{◌≡◌, ◌+◌, suc, List, ◌++◌, take, drop, sym, ap, ◌∙◌, arith}
use Rattle.std.specs.List.{list_any}
use Rattle.std.specs.Map.{keys_of}
use Rattle.std.proofs.lemmas.List.{append-nil, take_all, take-append-drop}
use Rattle.elem.specs.declared.elements.Elem.{Elem}
use Rattle.elem.specs.Elements.{same}
use Rattle.base_rows.proofs.DropLemmas.{behind_row, first_row, kept_items, next_key, no_row}
use Rattle.base_rows.proofs.KeyDrops.{gone_more, all_gone, any_more, cut_here, here_there, keys_cover}
use Rattle.view_laws.proofs.ListLemmas.{filter-all}
use Rattle.base_rows.proofs.base_rows.dropping.keyed.drop_keys.Goals as goal

abbrev Members : Type 0
Members = List (Elem × Unit {0})

pub loop-key-init : goal.loop-key-init
loop-key-init g c = record { rows = sym (filter-all (g.K.FoundRows.rows c.args.rows.now)); next = c.first-at.ensures; steps = omega arith }

pub after-at-requires : goal.after-at-requires
after-at-requires g c =
    let row = first_row (drop c.loop-key._key c.args.keys.now) c.in-Some.k (sym c.in-Some.is ∙ c.loop-key.invariant.next) in
    here_there c.args.keys.now c.loop-key._key c.in-Some.k row.0 row.1 row.2

pub loop-key-preserved : goal.loop-key-preserved
loop-key-preserved g c =
    let ks = c.args.keys.now in
    let i = c.loop-key._key in
    let next : i + 1 ≡ suc i = omega arith in
    let k = c.in-Some.k in
    let row = first_row (drop i ks) k (sym c.in-Some.is ∙ c.loop-key.invariant.next) in
    record {
      rows = gone_more (λ (row : Elem × g.row.V.Denot). g.T.RowTest.passes c.args.test.now (g.V.RowValue.row_of row.0 row.1)) (λ (row : Elem × g.row.V.Denot). list_any (λ k. same k row.0) (keys_of (take i ks))) (λ (row : Elem × g.row.V.Denot). same k row.0)
          (λ (row : Elem × g.row.V.Denot). list_any (λ k. same k row.0) (keys_of (take (i + 1) ks))) (g.K.FoundRows.rows c.args.rows.now) (g.K.FoundRows.rows c.loop-key.rows) (g.K.FoundRows.rows c.drop_key.new.rows)
          (λ it. any_more (λ k. same k it.0) ks i (i + 1) (k, row.0) row.1 next row.2) c.loop-key.invariant.rows c.drop_key.ensures.rows;
      next = c.after-at.ensures ∙ next_key ks (take i ks) row.1 k row.0 c.len-count.ensures.distinct (cut_here ks i (k, row.0) row.1 row.2) ∙ behind_row i (i + 1) ks (k, row.0) row.1 next row.2;
      steps = omega (arith, c.drop_key.ensures.steps, c.loop-key.invariant.steps);
    }

pub returns-in_default-clause-rows : goal.returns-in_default-clause-rows
returns-in_default-clause-rows g c =
    let ks = c.args.keys.now in
    let i = c.loop-key._key in
    let behind = no_row (drop i ks) (sym c.in_default.is ∙ c.loop-key.invariant.next) in
    let all : take i ks ≡ ks = sym (append-nil (take i ks)) ∙ ap (λ (rest : Members). take i ks ++ rest) (sym behind) ∙ take-append-drop i ks in
    kept_items g.V.RowValue.row_of (g.T.RowTest.passes c.args.test.now) (g.K.FoundRows.rows c.loop-key.rows) (g.K.FoundRows.rows c.args.rows.now)
    (all_gone (λ (row : Elem × g.row.V.Denot). g.T.RowTest.passes c.args.test.now (g.V.RowValue.row_of row.0 row.1)) (λ (row : Elem × g.row.V.Denot). list_any (λ k. same k row.0) (keys_of (take i ks)))
    (g.K.FoundRows.rows c.args.rows.now) (g.K.FoundRows.rows c.loop-key.rows)
    (keys_cover g.V.RowValue.row_of (g.T.RowTest.passes c.args.test.now) ks (take i ks) all c.requires) c.loop-key.invariant.rows)

pub returns-clause-rows : goal.returns-clause-rows
returns-clause-rows g c =
    let ks = c.args.keys.now in
    let i = c.loop-key._key in
    let all : take i ks ≡ ks = take_all i ks (omega (arith, c.len-count.ensures.len)) in
    kept_items g.V.RowValue.row_of (g.T.RowTest.passes c.args.test.now) (g.K.FoundRows.rows c.loop-key.rows) (g.K.FoundRows.rows c.args.rows.now)
    (all_gone (λ (row : Elem × g.row.V.Denot). g.T.RowTest.passes c.args.test.now (g.V.RowValue.row_of row.0 row.1)) (λ (row : Elem × g.row.V.Denot). list_any (λ k. same k row.0) (keys_of (take i ks)))
    (g.K.FoundRows.rows c.args.rows.now) (g.K.FoundRows.rows c.loop-key.rows)
    (keys_cover g.V.RowValue.row_of (g.T.RowTest.passes c.args.test.now) ks (take i ks) all c.requires) c.loop-key.invariant.rows)
