use Rattle.ig_defs.specs.declared.step.Act.TheVariants as act
use Rattle.ig_store.proofs.Turns.{kept, names_turn}
use Rattle.ig_store.proofs.mem_store.MemStoreStore.names.Goals as goal

pub invariant_of-self : goal.invariant_of-self
invariant_of-self g c = kept _ _ _ _ (λ names. act.List c.args.dir.now names) c.list_files.result (λ _. tt) c.self.invariant c.list_files.ensures.step c.list_files.ensures.err

pub returns-clause-turn : goal.returns-clause-turn
returns-clause-turn g c = λ _. rw (← c.self.view_is) (names_turn _ _ _ _ _ c.self.invariant c.args.dir.now c.list_files.result c.list_files.ensures.step c.list_files.ensures.err c.list_files.ensures.lists)
