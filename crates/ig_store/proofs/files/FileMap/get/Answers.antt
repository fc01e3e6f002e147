use Rattle.std.proofs.Common.{sym, ◌∙◌}
use Rattle.ig_store.proofs.Entries.{get-from_entries}
use Rattle.ig_store.proofs.files.FileMap.get.Goals as goal

pub returns : goal.returns
returns c = c.get.ensures.value ∙ rw (← c.self.view_is) (sym (get-from_entries c.self.inside.files.entries c.args.path.now))
