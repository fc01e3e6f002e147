use Rattle.ig_store.proofs.Entries.{copied}
use Rattle.ig_store.proofs.files.FileMapTryClone.copy.Goals as goal

pub returns : goal.returns
returns c =
    let all = c.into_iter-path-iterator.ensures.into_iter_gives in
    copied _ _ _ _ _ c.loop-path.invariant c.in-None.ensures.steps.0 all.0 all.5 c.self.view_is
