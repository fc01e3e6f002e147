use Rattle.ig_defs.specs.declared.step.Act.TheVariants as act
use Rattle.ig_store.proofs.Turns.{kept, read_turn}
use Rattle.ig_store.proofs.mem_store.MemStoreStore.read.Goals as goal

pub invariant_of-self : goal.invariant_of-self
invariant_of-self g c = kept _ _ _ _ (λ _. act.Read c.args.path.now) c.read_file.result (λ _. tt) c.self.invariant c.read_file.ensures.step c.read_file.ensures.err

pub returns-clause-turn : goal.returns-clause-turn
returns-clause-turn g c = λ _. rw (← c.self.view_is) (read_turn _ _ _ _ _ c.self.invariant c.args.path.now c.read_file.result c.read_file.ensures.step c.read_file.ensures.err c.read_file.ensures.found)
