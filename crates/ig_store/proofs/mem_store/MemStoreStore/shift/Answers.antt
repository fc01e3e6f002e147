use Rattle.std.proofs.Common.{is_some}
use Rattle.ig_defs.specs.Files.{file_at}
use Rattle.ig_defs.specs.declared.step.Act.TheVariants as act
use Rattle.ig_store.specs.Fails.{acts_of}
use Rattle.ig_store.proofs.Turns.{acts_kept, shift_turn}
use Rattle.ig_store.proofs.mem_store.MemStoreStore.shift.Goals as goal

pub invariant_of-self : goal.invariant_of-self
invariant_of-self g c =
    acts_kept _ _ _ _ _ (acts_of c.begin-fail.result (is_some (file_at c.self.inside.files c.args.from.now)) (act.Move c.args.from.now c.args.to.now) (act.Read c.args.from.now) c.shift_file.result)
    c.self.invariant c.shift_file.ensures.step c.shift_file.ensures.files

pub returns-clause-turn : goal.returns-clause-turn
returns-clause-turn g c =
    λ _. rw (← c.self.view_is) (shift_turn _ _ _ _ _ c.self.invariant c.args.from.now c.args.to.now c.begin-fail.result c.shift_file.result c.shift_file.ensures.found c.shift_file.ensures.step)
