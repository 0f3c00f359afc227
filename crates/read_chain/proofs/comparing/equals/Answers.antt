use Rattle.std.proofs.Common.{◌≡◌, ◌&&◌, sym, ap, ◌∙◌}
use Rattle.std.specs.List.{list_all}
use Rattle.base_store.specs.Stored.{view_in}
use Rattle.machine.specs.Shown.{is_shown}
use Rattle.read_chain.specs.Reads.{shown_in}
use Rattle.read_chain.proofs.EqualLemmas.{IsLawful, equal_views, no_list}
use Rattle.read_chain.proofs.comparing.equals.Goals as goal

pub returns-then-contains_all : goal.returns-then-contains_all
returns-then-contains_all g c =
    let s = c.args.store.now in
    let back = list_all (is_shown (shown_in s c.args.n)) (shown_in s c.args.other) in
    let mine : IsLawful s.world (view_in s c.args.n) c.base_of-base.result = record { known = c.base_of-base.ensures.known; base = c.base_of-base.ensures.base; kind = c.base_of-base.ensures.kind; keys = c.base_of-base.ensures.keys; made = c.base_of-base.ensures.made; formed = c.is_lawful.ensures.formed; by_row = c.is_lawful.ensures.by_row; tell = c.is_lawful.ensures.tell } in
    let theirs : IsLawful s.world (view_in s c.args.other) c.base_of-other_base.result = record { known = c.base_of-other_base.ensures.known; base = c.base_of-other_base.ensures.base; kind = c.base_of-other_base.ensures.kind; keys = c.base_of-other_base.ensures.keys; made = c.base_of-other_base.ensures.made; formed = c.is_lawful-2.ensures.formed; by_row = c.is_lawful-2.ensures.by_row; tell = c.is_lawful-2.ensures.tell } in
    c.contains_all-then-contains_all.ensures ∙ ap (λ t. t && back) (sym (sym c.contains_all.ensures ∙ c.if-contains_all.true))
    ∙ sym (equal_views s.world (view_in s c.args.n) (view_in s c.args.other) c.base_of-base.result c.base_of-other_base.result mine theirs (no_list _ (λ e. c.in_default.not-List (c.shape.ensures ∙ e))) c.requires.compares)

pub returns-else-contains_all : goal.returns-else-contains_all
returns-else-contains_all g c =
    let s = c.args.store.now in
    let back = list_all (is_shown (shown_in s c.args.n)) (shown_in s c.args.other) in
    let mine : IsLawful s.world (view_in s c.args.n) c.base_of-base.result = record { known = c.base_of-base.ensures.known; base = c.base_of-base.ensures.base; kind = c.base_of-base.ensures.kind; keys = c.base_of-base.ensures.keys; made = c.base_of-base.ensures.made; formed = c.is_lawful.ensures.formed; by_row = c.is_lawful.ensures.by_row; tell = c.is_lawful.ensures.tell } in
    let theirs : IsLawful s.world (view_in s c.args.other) c.base_of-other_base.result = record { known = c.base_of-other_base.ensures.known; base = c.base_of-other_base.ensures.base; kind = c.base_of-other_base.ensures.kind; keys = c.base_of-other_base.ensures.keys; made = c.base_of-other_base.ensures.made; formed = c.is_lawful-2.ensures.formed; by_row = c.is_lawful-2.ensures.by_row; tell = c.is_lawful-2.ensures.tell } in
    c.if-contains_all.false ∙ ap (λ t. t && back) (sym (sym c.contains_all.ensures ∙ c.if-contains_all.false))
    ∙ sym (equal_views s.world (view_in s c.args.n) (view_in s c.args.other) c.base_of-base.result c.base_of-other_base.result mine theirs (no_list _ (λ e. c.in_default.not-List (c.shape.ensures ∙ e))) c.requires.compares)
