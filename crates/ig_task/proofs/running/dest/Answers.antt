use Rattle.std.proofs.Common.{◌∷◌, [], length, get_or, arith, ap, sym, ◌∙◌}
use Rattle.ig_task.specs.Copies.{copy-of}
use Rattle.ig_task.proofs.running.dest.Goals as goal

pub bounds-as_slice-0 : goal.bounds-as_slice-0
bounds-as_slice-0 c =
    let long = ap length c.as_slice.ensures ∙ ap length (copy-of c.args.stage.now c.requires.sound c.requires.copies).dests_are in
    omega (arith, long)

pub returns : goal.returns
returns c =
    let copy = copy-of c.args.stage.now c.requires.sound c.requires.copies in
    copy.dests_are ∙ ap (λ dest. dest ∷ []) (sym (c.index-as_slice-0.is ∙ ap (λ dests. get_or dests 0 c.index-as_slice-0.result) (c.as_slice.ensures ∙ copy.dests_are)))
