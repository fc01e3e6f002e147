use Rattle.std.proofs.Common.{arith}
use Rattle.ig_worker.specs.Acting.{BuriesSpent, TakesLease}
use Rattle.ig_worker.specs.Places.{asked, tried_one}
use Rattle.ig_worker.proofs.Leading.{led_as}
use Rattle.ig_worker.proofs.Tries.{all_open_later, buries_as, first_open, leases_as, open_later, rest_open}
use Rattle.ig_worker.proofs.trying.attempt.Goals as goal

pub bury_spent-requires-clause-ahead : goal.bury_spent-requires-clause-ahead
bury_spent-requires-clause-ahead g c =
    let notes = c.args.notes.now in
    all_open_later notes notes.at (tried_one notes).tried (omega arith) c.take.new.self (rest_open 0 0 notes c.args.names c.in-Some.name c.take.new.self c.in-Some.ensures.first c.requires.fits.1)

pub returns-then-name-notes-clause-went : goal.returns-then-name-notes-clause-went
returns-then-name-notes-clause-went g c = λ tells.
    let notes = c.args.notes.now in
    led_as _ _ _ (λ m. BuriesSpent (tried_one notes) c.in-Some.name c.take.new.self m) _
    (buries_as _ _ notes c.args.names c.in-Some.name c.take.new.self c.in-Some.ensures.first c.requires.turns c.if-name-notes.true) notes (tried_one notes) c.bury_spent.result
    (c.bury_spent.ensures.went tells notes)

pub lease_name-requires-clause-may_run : goal.lease_name-requires-clause-may_run
lease_name-requires-clause-may_run g c =
    let notes = c.args.notes.now in
    let time = c.requires.time in
    let later = c.now-notes.ensures.later in
    open_later notes c.now-notes.result (tried_one notes).tried (omega (arith, time, later)) c.in-Some.name (first_open 0 0 notes c.args.names c.in-Some.name c.take.new.self c.in-Some.ensures.first c.requires.fits.1)

pub lease_name-requires-clause-ahead : goal.lease_name-requires-clause-ahead
lease_name-requires-clause-ahead g c =
    let notes = c.args.notes.now in
    let time = c.requires.time in
    let later = c.now-notes.ensures.later in
    all_open_later notes c.now-notes.result (tried_one notes).tried (omega (arith, time, later)) c.take.new.self
    (rest_open 0 0 notes c.args.names c.in-Some.name c.take.new.self c.in-Some.ensures.first c.requires.fits.1)

pub returns-clause-went : goal.returns-clause-went
returns-clause-went g c = λ tells.
    let notes = c.args.notes.now in
    let kept = c.now-notes.ensures.kept in
    led_as _ _ _ (λ m. TakesLease (tried_one (asked notes c.now-notes.result)) c.in-Some.name c.take.new.self m) _
    (leases_as _ _ notes c.args.names c.in-Some.name c.take.new.self c.in-Some.ensures.first c.requires.turns c.if-name-notes.false c.now-notes.result c.now-notes.ensures.later (omega (arith, kept)))
    notes (tried_one (asked notes c.now-notes.result)) c.lease_name.result (c.lease_name.ensures.went tells notes)
