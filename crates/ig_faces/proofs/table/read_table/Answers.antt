use Rattle.std.proofs.Common.{ap, sym, subst, ◌∙◌, ◌<◌, ℕ, List, length, slice_index}
use Rattle.ig_faces.specs.TableFile.{IsNumber}
use Rattle.ig_faces.proofs.TestedLaws.{tested-numbers}
use Rattle.ig_faces.proofs.table.read_table.Goals as goal

pub returns-clause-many : goal.returns-clause-many
returns-clause-many c =
    ap length c.from_vec.ensures ∙ c.in_ok-read_counted.ensures.many ∙ sym c.read_from.ensures.value ∙ c.if-read_from-count.false

pub returns-clause-each : goal.returns-clause-each
returns-clause-each c =
    let P : List ℕ → Type 0 = λ numbers. (k : ℕ) → k < length numbers → IsNumber (slice_index numbers k) in
    subst P (sym c.from_vec.ensures) (tested-numbers c.in_ok-read_counted.field-0.items 4 c.in_ok-read_counted.ensures.tested)
