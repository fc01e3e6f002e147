use Rattle.std.proofs.Common.{◌≡◌, length, sym, ap, ◌∙◌, arith}
use Rattle.std.proofs.lemmas.Bool.{eqb-false}
use Rattle.ig_space.specs.Geometry.{count}
use Rattle.ig_label.proofs.parts.label.Goals as goal

pub label_some-requires : goal.label_some-requires
label_some-requires c =
    let some = eqb-false (length c.labels.result.now) 0 (sym c.is_empty.ensures ∙ c.if-is_empty.false) in
    let long : length c.labels.result.now ≡ count c.args.volume.now.size = ap length c.labels.ensures.labels ∙ c.labels.ensures.length in
    let none : count c.args.volume.now.size ≡ 0 → ⊥ = λ e. some (long ∙ e) in
    record { some = omega arith }
