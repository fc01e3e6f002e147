use Rattle.std.proofs.Common.{◌<◌, ◌*◌, ◌-◌, ◌+◌, length, take, drop, slice_index, ◌≡◌, ◌∙◌, subst}
use Rattle.byteorder.specs.Endian.{little_number}
use Rattle.ig_space.specs.Geometry.{label_len}
use Rattle.ig_cutout.proofs.Rows.{number-row}
use Rattle.ig_cutout.proofs.read.read_row.Goals as goal

pub returns-clause-each : goal.returns-clause-each
returns-clause-each c =
    λ k below.
    let each = label_len c.args.width in
    let long = length c.args.row.now in
    subst (λ n. slice_index c.read_labels.new.labels k ≡ little_number each (drop (each * k) (take (n * (c.args.from + long) - n * c.args.from) (drop (n * c.args.from) c.args.text.now))))
    c.bytes_each-each.ensures.value (c.read_labels.ensures.each k below)
    ∙ number-row each c.args.from long k c.args.text.now (subst (λ n. k < n) c.read_labels.ensures.length below)
