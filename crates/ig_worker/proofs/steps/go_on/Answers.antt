use Rattle.ig_worker.proofs.Stepping.{goes_on_by}
use Rattle.ig_worker.proofs.steps.go_on.Goals as goal

pub returns-in-Fetching-clause-went : goal.returns-in-Fetching-clause-went
returns-in-Fetching-clause-went g c tells = goes_on_by _ _ _ _ _ _ _ _ _ _ c.in-Fetching.is (c.fetch.ensures.went tells)

pub returns-in-Running-clause-went : goal.returns-in-Running-clause-went
returns-in-Running-clause-went g c tells = goes_on_by _ _ _ _ _ _ _ _ _ _ c.in-Running.is (c.run_task.ensures.went tells)

pub returns-in-Finishing-clause-went : goal.returns-in-Finishing-clause-went
returns-in-Finishing-clause-went g c tells = goes_on_by _ _ _ _ _ _ _ _ _ _ c.in-Finishing.is (c.hand_over.ensures.went tells)

pub returns-in-Telling-clause-fits : goal.returns-in-Telling-clause-fits
returns-in-Telling-clause-fits g c = c.tell.ensures.fits c.args.notes.now
