use Rattle.ig_store.specs.Fails.{is_made}
use Rattle.ig_store.proofs.Turns.{put_kept, put_turn}
use Rattle.ig_store.proofs.mem_store.MemStoreStore.put.Goals as goal

pub invariant_of-self : goal.invariant_of-self
invariant_of-self g c =
    put_kept _ _ _ _ _ c.args.path.now c.args.bytes.now (is_made c.begin-fail.result c.put_file.result) c.self.invariant c.put_file.ensures.step c.put_file.ensures.files

pub returns-clause-turn : goal.returns-clause-turn
returns-clause-turn g c =
    λ _. rw (← c.self.view_is) (put_turn _ _ _ _ _ c.self.invariant c.args.path.now c.args.bytes.now c.begin-fail.result c.put_file.result c.put_file.ensures.step)
