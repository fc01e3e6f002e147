use Rattle.std.proofs.Common.{◌∷◌, ap, ◌∙◌, sym, bytes_eq}
use Rattle.ig_record.proofs.Splits.{joined-parts, joined-other}
use Rattle.ig_record.proofs.layers.is_joined.Goals as goal

pub returns-then-eq : goal.returns-then-eq
returns-then-eq c =
    joined-parts c.args.dir.now (47 ∷ c.args.name.now) c.args.text.now c.split_at.result.0.now _ c.is_name.result c.if-text-dir.false c.split_at.ensures.front
    (sym c.if-eq.true ∙ c.eq.ensures) (c.is_name.ensures ∙ ap (bytes_eq (47 ∷ c.args.name.now)) c.split_at.ensures.back)

pub returns-else-eq : goal.returns-else-eq
returns-else-eq c =
    joined-other c.args.dir.now (47 ∷ c.args.name.now) c.args.text.now c.split_at.result.0.now c.eq.result c.if-text-dir.false c.split_at.ensures.front c.eq.ensures c.if-eq.false
