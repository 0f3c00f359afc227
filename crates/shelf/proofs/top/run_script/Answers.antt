use Rattle.std.proofs.Common.{◌≡◌, ℕ, ◌+◌, ◌^◌, ◌-◌, ◌≤◌, List, ◌++◌, length, take, Option, Err, ap, subst, arith}
use Rattle.std.proofs.lemmas.Result.{err_from_is_err_and}
use Rattle.std.proofs.lemmas.List.{length-take-le, length-take, take-append-le}
use Rattle.machine.specs.State.{State}
use Rattle.shelf.specs.Feed.{Fed, FedFront, FedWhole}
use Rattle.shelf.proofs.Pieces.{weaker}
use Rattle.shelf.proofs.Runs.{all_taken, comes, ends, ends_at_fault, ends_in_line, ends_too_long, ends_unread}
use Rattle.shelf.proofs.top.run_script.Goals as goal

pub returns-in_default-clause-ran : goal.returns-in_default-clause-ran
returns-in_default-clause-ran g c = λ bytes h.
    ends_unread bytes (g.I.Inputs.left c.loop-count.inputs) (g.I.Inputs.left c.read.new.self) c.loop-count.taken c.loop-count.session c.loop-count.line _ _
    (c.loop-count.invariant.coming bytes h) c.loop-count.invariant.within c.in_default.ensures.stays

pub finish-requires : goal.finish-requires
finish-requires g c = weaker c.loop-count.taken (2 ^ 63 - 1) _ (omega arith) c.loop-count.invariant.changes

pub returns-in_err-finish-clause-ran : goal.returns-in_err-finish-clause-ran
returns-in_err-finish-clause-ran g c =
    let p = err_from_is_err_and c.from_residual.result c.from_residual.ensures.1 in
    let given = rw c.if-count-eq0.true at c.in-Ok.ensures.bytes in
    rw (p.1, p.2) (λ bytes h. ends_at_fault bytes (g.I.Inputs.left c.loop-count.inputs) (g.I.Inputs.left c.read.new.self) c.loop-count.taken c.loop-count.session c.loop-count.line _ _ _ _
    (c.loop-count.invariant.coming bytes h) c.loop-count.invariant.within (c.in-Ok.ensures.end c.if-count-eq0.true) given c.in_err-finish.ensures.reply)

pub returns-then-count-eq0-clause-ran : goal.returns-then-count-eq0-clause-ran
returns-then-count-eq0-clause-ran g c =
    let given = rw c.if-count-eq0.true at c.in-Ok.ensures.bytes in
    λ bytes h. ends bytes (g.I.Inputs.left c.loop-count.inputs) (g.I.Inputs.left c.read.new.self) c.loop-count.taken c.loop-count.session c.loop-count.line _ _ _
    (c.loop-count.invariant.coming bytes h) c.loop-count.invariant.within (c.in-Ok.ensures.end c.if-count-eq0.true) given c.in_ok-finish.ensures.reply

pub returns-then-taken-gt-MOST_BYTES-clause-ran : goal.returns-then-taken-gt-MOST_BYTES-clause-ran
returns-then-taken-gt-MOST_BYTES-clause-ran g c =
    let len : length (take c.in-Ok.count c.read.new.room) ≡ c.in-Ok.count = length-take-le c.in-Ok.count c.read.new.room c.in-Ok.ensures.bound in
    let cut = length-take c.piece_size-most.result c.loop-count.room in
    let full = all_taken c.loop-count.taken c.piece_size-most.result c.in-Ok.count (length c.read.new.room) c.loop-count.invariant.within c.piece_size-most.ensures.within c.in-Ok.ensures.bound (omega (arith, cut)) (omega arith) in
    λ bytes h. ends_too_long bytes (g.I.Inputs.left c.loop-count.inputs) (g.I.Inputs.left c.read.new.self) c.loop-count.taken c.loop-count.session c.loop-count.line (take c.in-Ok.count c.read.new.room) _ _
    (c.loop-count.invariant.coming bytes h) c.in-Ok.ensures.bytes full (omega arith)

pub feed-requires-clause-changes : goal.feed-requires-clause-changes
feed-requires-clause-changes g c = weaker c.loop-count.taken (2 ^ 61) _ (omega arith) c.loop-count.invariant.changes

-- what is fed is the front of the room
fed_of : (s t : State) (line next room more : List ℕ) (n : ℕ) (old new : Option (List ℕ)) → n ≤ length room → Fed s t line next (take n (room ++ more)) old new → Fed s t line next (take n room) old new
fed_of s t line next room more n old new le f = subst (λ (p : List ℕ). Fed s t line next p old new) (take-append-le n room more le) f

front_of : (s : State) (line room more : List ℕ) (n : ℕ) (old new : Option (List ℕ)) → n ≤ length room → FedFront s line (take n (room ++ more)) old new → FedFront s line (take n room) old new
front_of s line room more n old new le f = subst (λ (p : List ℕ). FedFront s line p old new) (take-append-le n room more le) f

whole_of : (s : State) (line room more : List ℕ) (n : ℕ) (old new : Option (List ℕ)) → n ≤ length room → FedWhole s line (take n (room ++ more)) old new → FedWhole s line (take n room) old new
whole_of s line room more n old new le f = subst (λ (p : List ℕ). FedWhole s line p old new) (take-append-le n room more le) f

pub loop-count-preserved : goal.loop-count-preserved
loop-count-preserved g c =
    let len : length (take c.in-Ok.count c.read.new.room) ≡ c.in-Ok.count = length-take-le c.in-Ok.count c.read.new.room c.in-Ok.ensures.bound in
    let more = c.in_ok-feed.ensures.changes c.loop-count.taken c.loop-count.invariant.changes in
    let fed = fed_of _ _ _ _ c.read.new.room _ c.in-Ok.count _ _ c.in-Ok.ensures.bound c.in_ok-feed.ensures.ok in
    record {
      within = omega arith;
      changes = weaker _ (c.loop-count.taken + c.in-Ok.count) _ (omega (arith, length-take {A = ℕ})) more;
      given = omega (arith, c.in-Ok.ensures.given, c.loop-count.invariant.given);
      reads = omega (arith, c.in-Ok.ensures.cause.later, c.loop-count.invariant.reads);
      writes = omega (arith, c.in_ok-feed.ensures.later, c.loop-count.invariant.writes);
      coming = λ bytes h. comes bytes _ _ c.loop-count.taken _ _ _ _ (take c.in-Ok.count c.read.new.room) _ _ _ (c.loop-count.invariant.coming bytes h) c.in-Ok.ensures.bytes fed (c.loop-count.taken + c.in-Ok.count) (omega arith);
    }

pub returns-in_err-feed-clause-ran : goal.returns-in_err-feed-clause-ran
returns-in_err-feed-clause-ran g c =
    let p = err_from_is_err_and c.from_residual-in_err-feed.result c.from_residual-in_err-feed.ensures.1 in
    let len : length (take c.in-Ok.count c.read.new.room) ≡ c.in-Ok.count = length-take-le c.in-Ok.count c.read.new.room c.in-Ok.ensures.bound in
    let front = front_of _ _ c.read.new.room _ c.in-Ok.count _ _ c.in-Ok.ensures.bound c.in_err-feed.ensures.err in
    rw (p.1, p.2) (λ bytes h. ends_in_line bytes (g.I.Inputs.left c.loop-count.inputs) (g.I.Inputs.left c.read.new.self) c.loop-count.taken c.loop-count.session c.loop-count.line (take c.in-Ok.count c.read.new.room) _ _ _ _
    (c.loop-count.invariant.coming bytes h) c.in-Ok.ensures.bytes (omega arith) front
    (λ e. whole_of _ _ c.read.new.room _ c.in-Ok.count _ _ c.in-Ok.ensures.bound (c.in_err-feed.ensures.memory (ap Err e))))
