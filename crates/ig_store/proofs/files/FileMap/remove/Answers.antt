use Rattle.std.proofs.Common.{sym, ◌∙◌}
use Rattle.ig_store.proofs.Entries.{get-from_entries, removed}
use Rattle.ig_store.proofs.files.FileMap.remove.Goals as goal

pub returns-clause-files : goal.returns-clause-files
returns-clause-files c = rw (← c.self.view_is) (removed c.self.inside.files.entries c.remove.new.self.entries c.args.path.now c.remove.ensures.updates.0)

pub returns-clause-bytes : goal.returns-clause-bytes
returns-clause-bytes c = c.remove.ensures.value ∙ rw (← c.self.view_is) (sym (get-from_entries c.self.inside.files.entries c.args.path.now))
