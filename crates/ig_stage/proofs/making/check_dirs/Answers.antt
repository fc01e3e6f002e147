use Rattle.std.proofs.Common.{arith, ◌≡◌, ◌≤◌, ◌+◌, ◌<◌, ℕ, List, [], None, Err, refl, ap, drop, get_or, length, subst, ◌∙◌}
use Rattle.std.proofs.lemmas.Result.{err_from_is_err_and}
use Rattle.ig_space.specs.declared.geometry.Encoding.TheVariants.{Raw}
use Rattle.ig_space.specs.declared.geometry.Width.TheVariants.{W8}
use Rattle.ig_space.specs.declared.point.Point.{Point}
use Rattle.ig_meaning.specs.Making.{Planned}
use Rattle.ig_record.specs.declared.stage.Kind.TheVariants.{Remove}
use Rattle.ig_record.specs.declared.stage.Stage.{Stage}
use Rattle.ig_stage.proofs.FreeLayers.{all_empty, none_empty, one_more_empty}
use Rattle.ig_stage.proofs.NewLayers.{dirs_empty, dirs_next, dirs_stop, no_dir_yet}
use Rattle.ig_stage.proofs.Lookings.{under_rule}
use Rattle.ig_stage.proofs.making.check_dirs.Goals as goal

-- what is listed is the same for each stage
some_stage : Stage
some_stage =
    let one : Point = record { x = 1; y = 1; z = 1 } in record {
      kind = Remove;
      source = record { dir = []; geometry = record { offset = one; size = one; chunk = one; width = W8; encoding = Raw } };
      dests = [];
      scratch = None;
      shape = one;
      info = None;
    }

over : (xs ys : List (List ℕ)) (n : ℕ) → xs ≡ ys → length xs ≤ n → length ys ≤ n
over xs ys n same not_below = let long = ap length same in subst (λ m. m ≤ n) long not_below

pub loop-dir-init : goal.loop-dir-init
loop-dir-init g c = (
  refl,
  omega arith,
  λ tells earlier planned_as s. no_dir_yet _ earlier planned_as _ s c.args.dirs.now,
  λ tells q stages knows. none_empty _ q stages c.args.dirs.now _ knows,
)

pub returns-in_err-check_dir-clause-looks : goal.returns-in_err-check_dir-clause-looks
returns-in_err-check_dir-clause-looks g c = λ tells earlier planned_as s.
    let dirs = c.args.dirs.now in
    let n = c.loop-dir.dir-index in
    let p = err_from_is_err_and c.from_residual.result c.from_residual.ensures.1 in
    let below = subst (λ xs. n < length xs) c.as_slice-dir-items.ensures c.loop-dir-test.true in
    let is = c.dir-item.is ∙ ap (λ xs. get_or xs n c.dir-item.result) c.as_slice-dir-items.ensures in
    dirs_stop _ earlier planned_as _ _ _ s dirs n (c.loop-dir.invariant.2 tells earlier planned_as s) c.dir-item.result below is c.in_err-check_dir.field-0.0 _ (p.1 ∙ ap Err p.2)
    (under_rule _ _ _ _ _ _ _ c.loop-dir.invariant.0 (c.in_err-check_dir.ensures.looks tells earlier planned_as s (drop (n + 1) dirs)))

pub loop-dir-preserved : goal.loop-dir-preserved
loop-dir-preserved g c =
    let dirs = c.args.dirs.now in
    let n = c.loop-dir.dir-index in
    let below = subst (λ xs. n < length xs) c.as_slice-dir-items.ensures c.loop-dir-test.true in
    let is = c.dir-item.is ∙ ap (λ xs. get_or xs n c.dir-item.result) c.as_slice-dir-items.ensures in (
      c.check_dir.ensures.rule ∙ c.loop-dir.invariant.0,
      omega (arith, c.loop-dir.invariant.1, c.in_ok-check_dir.ensures.cause.later),
      λ tells earlier planned_as s.
          dirs_next _ earlier planned_as _ _ _ s dirs n (c.loop-dir.invariant.2 tells earlier planned_as s) c.dir-item.result below is c.in_ok-check_dir.field-0
          (under_rule _ _ _ _ _ _ _ c.loop-dir.invariant.0 (c.in_ok-check_dir.ensures.looks tells earlier planned_as s (drop (n + 1) dirs))),
      λ tells q stages knows.
          one_more_empty _ _ q stages dirs n _ _ _ _ _ c.dir-item.result c.loop-dir.invariant.0 below is (c.loop-dir.invariant.3 tells q stages knows)
          (c.in_ok-check_dir.ensures.looks tells stages Planned some_stage (drop (n + 1) dirs)) (c.in_ok-check_dir.ensures.empty tells q stages),
    )

pub returns-clause-looks : goal.returns-clause-looks
returns-clause-looks g c = λ tells earlier planned_as s.
    dirs_empty _ earlier planned_as _ _ s c.args.dirs.now c.loop-dir.dir-index (c.loop-dir.invariant.2 tells earlier planned_as s)
    (over _ _ _ c.as_slice-dir-items.ensures c.loop-dir-test.false)

pub returns-clause-empty : goal.returns-clause-empty
returns-clause-empty g c = λ tells q stages knows.
    all_empty _ q stages c.args.dirs.now c.loop-dir.dir-index _ (over _ _ _ c.as_slice-dir-items.ensures c.loop-dir-test.false) (c.loop-dir.invariant.3 tells q stages knows)
