use Rattle.std.proofs.Common.{List, ℕ, subst}
use Rattle.ig_rule.specs.Stages.{task_id}
use Rattle.ig_stage.specs.Shown.{IsNameOf, Marks, listed_dir}
use Rattle.ig_stage.proofs.Flags.{marks_found, marks_unfound}
use Rattle.ig_stage.proofs.shown.mark_name.Goals as goal

pub returns-in-Some : goal.returns-in-Some
returns-in-Some c =
    let dir = listed_dir c.args.listing in
    subst (λ (name : List ℕ). Marks (λ k. IsNameOf dir name (task_id c.args.number k)) c.args.shown.now c.mark.new.shown) c.as_str.ensures
    (marks_found dir c.as_str.result.now c.args.number c.in-Some.id _ _ c.in-Some.ensures.some c.in-Some.ensures.back c.mark.ensures)

pub returns-in-None : goal.returns-in-None
returns-in-None c =
    let dir = listed_dir c.args.listing in
    subst (λ (name : List ℕ). Marks (λ k. IsNameOf dir name (task_id c.args.number k)) c.args.shown.now c.args.shown.now) c.as_str.ensures
    (marks_unfound dir c.as_str.result.now c.args.number _ c.in-None.ensures.back)
