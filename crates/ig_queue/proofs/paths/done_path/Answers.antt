use Rattle.std.proofs.Common.{◌≡◌, IfOk, ap, subst, ◌∙◌}
use Rattle.ig_space.specs.Path.{joined}
use Rattle.ig_queue.specs.FilesAt.{done_path_is}
use Rattle.ig_queue.proofs.paths.done_path.Goals as goal

pub returns : goal.returns
returns c =
    subst (λ target. IfOk c.file_in.result (λ path. path ≡ target))
    (ap (λ dir. joined dir c.in_ok-name.name) c.in_ok-dir.ensures.dir ∙ done_path_is c.args.queue.now c.in_ok-name.name c.args.id c.in_ok-name.ensures.name)
    c.file_in.ensures
