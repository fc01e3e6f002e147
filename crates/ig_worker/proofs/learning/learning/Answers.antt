use Rattle.std.proofs.Common.{[], ◌<◌, ◌^◌}
use Rattle.std.proofs.lemmas.List.Elements.{All-nil}
use Rattle.ig_worker.proofs.Learns.{fit_learnt}
use Rattle.ig_worker.proofs.learning.learning.Goals as goal

pub returns-then-is_empty-clause-fits : goal.returns-then-is_empty-clause-fits
returns-then-is_empty-clause-fits c = λ notes same fits.
    fit_learnt notes c.args.known.now [] c.args.then c.learnt_all.result (All-nil (λ n. n < 10 ^ 4)) c.learnt_all.ensures same fits
