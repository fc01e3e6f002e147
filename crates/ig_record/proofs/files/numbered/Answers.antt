use Rattle.std.proofs.Common.{◌≡◌, ◌≤◌, true, List, ℕ, length, sym, subst, ◌∙◌, arith}
use Rattle.ig_space.specs.Path.{is_segment}
use Rattle.ig_record.proofs.Names.{length-name, name-is_segment}
use Rattle.ig_record.proofs.files.numbered.Goals as goal

pub path_in-requires-clause-name : goal.path_in-requires-clause-name
path_in-requires-clause-name c =
    subst (λ (text : List ℕ). is_segment text ≡ true) (sym (c.as_str.ensures.value ∙ c.in_ok-number_name.ensures)) (name-is_segment c.args.number c.args.ending.now c.requires.bytes)

pub path_in-requires-clause-short : goal.path_in-requires-clause-short
path_in-requires-clause-short c =
    subst (λ (text : List ℕ). length text ≤ 20) (sym (c.as_str.ensures.value ∙ c.in_ok-number_name.ensures))
    (let long = length-name c.args.number c.args.ending.now in let short = c.requires.short in omega (arith, long, short))
