use Rattle.std.proofs.Common.{ap, sym, subst, ◌∙◌, ◌<◌, ◌≤◌, ℕ, List, length, map, slice_index}
use Rattle.std.proofs.lemmas.List.{length-map}
use Rattle.ig_faces.proofs.TestedLaws.{tested-firsts, tested-labels}
use Rattle.ig_faces.specs.PartsFile.{first_of, label_of, parts_text}
use Rattle.ig_faces.proofs.PartLaws.{parts_of-is}
use Rattle.ig_faces.proofs.parts.read_parts.Goals as goal

pub returns-clause-text : goal.returns-clause-text
returns-clause-text c =
    let split = c.in_ok-split in
    let own = parts_of-is c.as_slice.result.now split.field-0.firsts split.field-0.values (sym split.ensures.firsts) (sym split.ensures.values) in
    ap parts_text (sym own ∙ c.as_slice.ensures.value) ∙ c.in_ok-parts.ensures.text

pub returns-clause-below : goal.returns-clause-below
returns-clause-below c =
    let P : List ℕ → Type 0 = λ firsts. (k : ℕ) → k < length firsts → slice_index firsts k < c.args.voxels in
    subst P (sym (c.in_ok-split.ensures.firsts ∙ ap (map first_of) c.as_slice.ensures.value))
    (tested-firsts c.args.voxels c.in_ok-parts.parts.items 4 c.in_ok-parts.ensures.tested)

pub returns-clause-labels : goal.returns-clause-labels
returns-clause-labels c =
    let P : List ℕ → Type 0 = λ values. (k : ℕ) → k < length values → 1 ≤ slice_index values k in
    subst P (sym (c.in_ok-split.ensures.values ∙ ap (map label_of) c.as_slice.ensures.value))
    (tested-labels c.args.voxels c.in_ok-parts.parts.items 4 c.in_ok-parts.ensures.tested)

pub returns-clause-same : goal.returns-clause-same
returns-clause-same c =
    ap length c.in_ok-split.ensures.values ∙ length-map c.as_slice.result.now label_of ∙ sym (length-map c.as_slice.result.now first_of)
    ∙ sym (ap length c.in_ok-split.ensures.firsts)
