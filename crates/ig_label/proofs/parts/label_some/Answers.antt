use Rattle.std.proofs.Common.{ℕ, ◌≡◌, List, length, map, replicate, sym, ap, subst, ◌∙◌, arith, rules}
use Rattle.std.proofs.lemmas.List.{take_at}
use Rattle.ig_space.specs.declared.point.Point.{Point}
use Rattle.ig_space.specs.Geometry.{count}
use Rattle.ig_graph.specs.Sets.{AreClasses}
use Rattle.ig_label.specs.declared.rows.Run.{Run}
use Rattle.ig_label.specs.VoxelGraph.{label_at}
use Rattle.ig_label.specs.RunGraph.{run_graph}
use Rattle.ig_label.specs.Joining.{AreAscending}
use Rattle.ig_label.specs.Numbering.{AreLeast, firsts_in}
use Rattle.ig_label.proofs.RunLaws.{sides-some}
use Rattle.ig_label.proofs.QuotientOfRuns.{HasRuns}
use Rattle.ig_label.proofs.PartLaws.{runs-ascending, classes-least, all-firsts, local-is, values-are}
use Rattle.ig_label.proofs.parts.label_some.Goals as goal
use Rattle.ig_label.proofs.parts.label_some.Goals.{In_ok-runs, In_ok-parts}

has : (c : In_ok-runs) → HasRuns c.args.volume.now c.in_ok-runs.runs
has c =
    let size = c.args.volume.now.size in
    let sides = sides-some size.x size.y size.z c.requires.some in
    record { long = c.size-size.ensures.length; some_x = sides.0; some_y = sides.1; are = c.in_ok-runs.ensures }

ascending : (c : In_ok-runs) → AreAscending c.in_ok-runs.runs
ascending c =
    runs-ascending c.args.volume.now.size.x c.args.volume.now.labels c.in_ok-runs.runs (omega (arith, c.size-size.ensures.length, c.size-size.ensures.bound)) c.in_ok-runs.ensures

classes : (c : In_ok-parts) → AreClasses (run_graph c.args.volume.now.size c.in_ok-runs.runs) c.in_ok-parts.parts.items
classes c =
    subst (λ (size : Point). AreClasses (run_graph size c.in_ok-runs.runs) c.in_ok-parts.parts.items) c.size-size.ensures.size
    (subst (λ (runs : List Run). AreClasses (run_graph c.size-size.result runs) c.in_ok-parts.parts.items) c.as_slice.ensures c.in_ok-parts.ensures)

pub classes_of-requires-clause-ascending : goal.classes_of-requires-clause-ascending
classes_of-requires-clause-ascending c = subst AreAscending (sym c.as_slice.ensures) (ascending (goal.at.classes_of-requires-clause-ascending c).In_ok-runs)

pub number-requires-clause-least : goal.number-requires-clause-least
number-requires-clause-least c =
    let d = goal.at.number-requires-clause-least c in
    subst AreLeast (sym c.deref_mut.ensures.value)
    (classes-least c.args.volume.now c.in_ok-runs.runs (has d.In_ok-runs) c.in_ok-parts.parts.items (classes d.In_ok-parts))

pub number-requires-clause-few : goal.number-requires-clause-few
number-requires-clause-few c =
    let few = (ascending (goal.at.number-requires-clause-few c).In_ok-runs).few in
    omega (arith, ap length c.as_slice-2.ensures, few)

pub paint-requires-clause-ascending : goal.paint-requires-clause-ascending
paint-requires-clause-ascending c = subst AreAscending (sym c.as_slice-3.ensures) (ascending (goal.at.paint-requires-clause-ascending c).In_ok-runs)

pub returns-clause-local : goal.returns-clause-local
returns-clause-local c =
    let d = goal.at.returns-clause-local c in
    let local = c.in_ok-local.local in
    let parts = c.in_ok-parts.parts in
    let zeros : local.items ≡ replicate (length c.labels.result.now) 0 = search rules in
    let count_is : length c.labels.result.now ≡ count c.args.volume.now.size = ap length c.labels.ensures.labels ∙ c.labels.ensures.length in
    let painted_all : length c.paint.new.local ≡ local.len = omega (arith, c.paint.ensures.size, ap length c.deref_mut-2.ensures.value, local.ok.0) in
    let numbered_all : length c.number.new.classes ≡ parts.len = omega (arith, c.number.auto.classes, ap length c.deref_mut.ensures.value, parts.ok.0) in
    c.from_vec.ensures ∙ take_at c.paint.new.local _ local.len painted_all
    ∙ local-is c.args.volume.now c.in_ok-runs.runs (has d.In_ok-runs) parts.items (classes d.In_ok-parts)
    c.as_slice-2.result.now c.as_slice-3.result.now c.deref_mut.result.now c.number.new.classes c.deref.result.now c.deref_mut-2.result.now c.paint.new.local
    c.as_slice-2.ensures c.as_slice-3.ensures c.deref_mut.ensures.value c.in_ok-number.ensures.numbers
    (c.deref.ensures.value ∙ take_at c.number.new.classes _ parts.len numbered_all)
    (c.deref_mut-2.ensures.value ∙ zeros ∙ ap (λ (n : ℕ). replicate n 0) count_is) c.paint.ensures

pub returns-clause-firsts : goal.returns-clause-firsts
returns-clause-firsts c =
    let d = goal.at.returns-clause-firsts c in
    let runs = c.in_ok-runs.runs in
    c.in_ok-number.ensures.firsts
    ∙ ap (λ (rs : List Run). firsts_in rs c.deref_mut.result.now (length rs)) c.as_slice-2.ensures
    ∙ ap (λ (cs : List ℕ). firsts_in runs cs (length runs)) c.deref_mut.ensures.value
    ∙ all-firsts c.args.volume.now runs (has d.In_ok-runs) c.in_ok-parts.parts.items (classes d.In_ok-parts)

pub returns-clause-values : goal.returns-clause-values
returns-clause-values c =
    let d = goal.at.returns-clause-values c in
    let runs = c.in_ok-runs.runs in
    c.in_ok-number.ensures.values
    ∙ values-are c.args.volume.now runs (has d.In_ok-runs) c.in_ok-parts.parts.items (classes d.In_ok-parts) c.as_slice-2.result.now c.deref_mut.result.now c.as_slice-2.ensures c.deref_mut.ensures.value
    ∙ ap (map (label_at c.args.volume.now)) (sym c.in_ok-number.ensures.firsts)
