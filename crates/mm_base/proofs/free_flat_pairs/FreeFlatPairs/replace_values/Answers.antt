use Rattle.std.proofs.Common.{[], ◌-◌, ◌≤◌, length, map, drop, arith, sym, ap, ◌∙◌, append-nil}
use Rattle.std.proofs.lemmas.List.{length-drop}
use Rattle.elem.specs.declared.elements.Elem.{Elem}
use Rattle.mm_base.specs.PairRows.{count_of}
use Rattle.mm_base.specs.Replacing.{overwritten}
use Rattle.mm_base.proofs.ReplacingLemmas.{appended_written, drop_all, take_all}
use Rattle.mm_base.proofs.free_flat_pairs.FreeFlatPairs.replace_values.Goals as goal
use Rattle.mm_base.proofs.free_flat_pairs.FreeFlatPairs.replace_values.Goals.{then-count-vs+in_ok-append, else-count-vs}

pub remove_from-requires : goal.remove_from-requires
remove_from-requires c = let w = c.overwrite-rest.ensures in (w.front, w.back, (w.cut, w.start))

pub returns-clause-ok : goal.returns-clause-ok
returns-clause-ok c =
    let k = c.args.k in
    let vs = c.args.vs.now in
    let n = c.count_of-count.result in
    let paired : Elem → Elem × Elem = λ v. (k, v) in
    let o = c.overwrite-rest.ensures in
    let done = c.remove_from.ensures o.front o.back (o.cut, o.start) ∙ sym o.rows in
    elim c.if-count-vs.branch [
      | then-count-vs+in_ok-append w ↦
          let h = w.in_ok-append.ensures.ok in
          let fits : length (drop n vs) ≤ length vs - n = omega (arith, length-drop n vs) in
          let values = h.2 ∙ ap (map paired) (take_all (drop n vs) (length vs - n) fits ∙ ap (λ m. drop m vs) c.count_of-count.ensures) in
          (h.0, done ∙ ap (overwritten k vs) (w.self-is ∙ h.1) ∙ appended_written k vs c.args.self.now h.0 values, values)
      | else-count-vs w ↦
          let count = c.count_of-count.ensures in
          let enough : length vs ≤ count_of k c.args.self.now = omega arith in
          ([], done ∙ ap (overwritten k vs) w.self-is ∙ sym (append-nil (overwritten k vs c.args.self.now)), ap (map paired) (sym (drop_all vs (count_of k c.args.self.now) enough)))
    ]
