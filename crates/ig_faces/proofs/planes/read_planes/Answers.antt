use Rattle.std.proofs.Common.{◌≤◌, ◌<◌, ◌∙◌, ℕ, List, length, slice_index, subst, sym}
use Rattle.ig_faces.proofs.TestedLaws.{tested-places}
use Rattle.ig_faces.proofs.planes.read_planes.Goals as goal

pub returns-clause-each : goal.returns-clause-each
returns-clause-each c =
    let P : List ℕ → Type 0 = λ numbers. (k : ℕ) → k < length numbers → slice_index numbers k ≤ c.args.top in
    subst P (sym (c.in_ok-cut_planes.ensures.numbers ∙ c.as_slice.ensures.value)) (tested-places c.args.top c.in_ok-numbers.numbers.items 0 c.in_ok-numbers.ensures.tested)
