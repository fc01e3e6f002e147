use Rattle.std.proofs.Common.{is_some}
use Rattle.ig_defs.specs.Files.{file_at}
use Rattle.ig_defs.specs.declared.step.Act.TheVariants as act
use Rattle.ig_store.specs.Fails.{acts_of}
use Rattle.ig_store.proofs.Turns.{acts_kept, remove_turn}
use Rattle.ig_store.proofs.mem_store.MemStoreStore.remove.Goals as goal

pub invariant_of-self : goal.invariant_of-self
invariant_of-self g c =
    acts_kept _ _ _ _ _ (acts_of c.begin-fail.result (is_some (file_at c.self.inside.files c.args.path.now)) (act.Remove c.args.path.now) (act.Read c.args.path.now) c.remove_file.result)
    c.self.invariant c.remove_file.ensures.step c.remove_file.ensures.files

pub returns-clause-turn : goal.returns-clause-turn
returns-clause-turn g c =
    λ _. rw (← c.self.view_is) (remove_turn _ _ _ _ _ c.self.invariant c.args.path.now c.begin-fail.result c.remove_file.result c.remove_file.ensures.found c.remove_file.ensures.step)
