use Rattle.ig_store.proofs.Entries.{inserted}
use Rattle.ig_store.proofs.files.FileMap.insert.Goals as goal

pub returns-clause-ok : goal.returns-clause-ok
returns-clause-ok c = rw (← c.self.view_is) (inserted c.self.inside.files.entries c.insert.new.self.entries c.args.path c.args.bytes c.in_ok-insert.ensures.updates.0)
