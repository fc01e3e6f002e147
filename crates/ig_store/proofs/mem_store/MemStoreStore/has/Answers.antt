use Rattle.ig_defs.specs.declared.step.Act.TheVariants as act
use Rattle.ig_store.proofs.Turns.{kept, has_turn}
use Rattle.ig_store.proofs.mem_store.MemStoreStore.has.Goals as goal

pub invariant_of-self : goal.invariant_of-self
invariant_of-self g c = kept _ _ _ _ (λ _. act.Read c.args.path.now) c.has_file.result (λ _. tt) c.self.invariant c.has_file.ensures.step c.has_file.ensures.err

pub returns-clause-turn : goal.returns-clause-turn
returns-clause-turn g c = λ _. rw (← c.self.view_is) (has_turn _ _ _ _ _ c.self.invariant c.args.path.now c.has_file.result c.has_file.ensures.step c.has_file.ensures.err c.has_file.ensures.found)
