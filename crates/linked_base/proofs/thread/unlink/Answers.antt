use Rattle.std.proofs.Common.{None, ap}
use Rattle.linked_base.specs.declared.links.Links.{Links}
use Rattle.linked_base.specs.Thread.{head_or, last_or, links_at}
use Rattle.linked_base.proofs.ThreadLemmas.{thread_cut_at, links_read, unlinked, spliced_others, keeps_rewritten, keeps_both}
use Rattle.linked_base.proofs.thread.unlink.Goals as goal

pub returns-clause-thread : goal.returns-clause-thread
returns-clause-thread g c us vs t =
    let links = g.T.Threaded.links in
    let i = links_read links c.args.nodes.now c.args.place c.index.result.now c.links-links.result (record { previous = last_or None us; next = head_or None vs }) c.index.ensures c.links-links.ensures (thread_cut_at (links_at links c.args.nodes.now) c.args.ends.now us c.args.place vs t).1 in
    unlinked links g.T.Threaded.with_links g.met.T.Threaded.links_of_set us c.args.place vs c.args.nodes.now c.set_next.new.nodes c.set_previous.new.nodes c.args.ends.now c.set_next.new.ends c.set_previous.new.ends c.links-links.result i t c.set_next.ensures.nodes c.set_next.ensures.ends c.set_previous.ensures.nodes c.set_previous.ensures.ends

pub returns-clause-others : goal.returns-clause-others
returns-clause-others g c us vs p t a =
    let links = g.T.Threaded.links in
    let i = links_read links c.args.nodes.now c.args.place c.index.result.now c.links-links.result (record { previous = last_or None us; next = head_or None vs }) c.index.ensures c.links-links.ensures (thread_cut_at (links_at links c.args.nodes.now) c.args.ends.now us c.args.place vs t).1 in
    spliced_others _ _ us vs c.links-links.result.previous c.links-links.result.next c.args.nodes.now c.set_next.new.nodes c.set_previous.new.nodes (ap (λ (x : Links). x.previous) i) c.set_next.ensures.nodes (ap (λ (x : Links). x.next) i) c.set_previous.ensures.nodes p a

pub returns-clause-rest : goal.returns-clause-rest
returns-clause-rest g c p =
    let T = g.T.Threaded in
    let L = g.met.T.Threaded in
    keeps_both T.links T.with_links L.links_back L.set_twice _ _ _
    (keeps_rewritten T.links T.with_links L.links_back L.set_twice _ c.links-links.result.previous c.args.nodes.now c.set_next.new.nodes c.set_next.ensures.nodes p)
    (keeps_rewritten T.links T.with_links L.links_back L.set_twice _ c.links-links.result.next c.set_next.new.nodes c.set_previous.new.nodes c.set_previous.ensures.nodes p)
