-- Where each step that the log grew by is the worker's own, its calls are those of a worker by itself.
use Rattle.std.specs.Prelude.{◌≡◌, ℕ, Bool, List, [], ◌∷◌, ◌++◌, All, Contains, refl}
use Rattle.std.proofs.Common.{ap, sym, subst, true≢false, ◌∙◌}
use Rattle.std.proofs.lemmas.List.Elements.{All-contains, All-contains_itself, All-head, All-weaker, Contains-append_left, Contains-append_right}
use Rattle.ig_defs.specs.declared.step.Act.{Act}
use Rattle.ig_defs.specs.declared.step.Step.{Step}
use Rattle.ig_defs.specs.Files.{Files}
use Rattle.ig_defs.specs.Log.{Log, ByOthers, after, files_of, own, replay}
use Rattle.ig_defs.specs.TurnLaws.{files_then, prefix_of, prefix_then, since_is}
use Rattle.ig_defs.specs.Turns.{IsPrefix}
use Rattle.ig_rule.specs.Rule.{Allowed}
use Rattle.ig_rule.specs.declared.role.Role.{Role}
use Rattle.ig_task.specs.Facts.{stage_reader}
use Rattle.ig_worker.specs.declared.plan.Plan.{Plan}
use Rattle.ig_worker.specs.Finishing.Going.{CalledAlone}
use Rattle.ig_worker.specs.Finishing.CanFinish.{AreOwn, IsOwn}
use Rattle.ig_defs.specs.Answers.{Takes}
use Rattle.ig_worker.specs.Keeping.Keeps.{move_allowed}
use Rattle.ig_worker.specs.Moves.{Move}
use Rattle.ig_worker.specs.Places.{State}
use Rattle.ig_worker.specs.Ending.Standing.{AllowsFor, Stays}
use Rattle.ig_worker.specs.Steps.{Called}

-- ---- own steps
first_own : (xs ys : List Step) → All IsOwn (xs ++ ys) → All IsOwn xs
first_own xs ys all = All-weaker (Contains xs) IsOwn (λ x among. All-contains IsOwn (xs ++ ys) x all (Contains-append_left xs ys x among)) xs (All-contains_itself xs)

later_own : (xs ys : List Step) → All IsOwn (xs ++ ys) → All IsOwn ys
later_own xs ys all = All-weaker (Contains ys) IsOwn (λ y among. All-contains IsOwn (xs ++ ys) y all (Contains-append_right xs ys y among)) ys (All-contains_itself ys)

-- The own steps of a growth are those of its first part, and of the rest.
pub parts_own : (old mid new : Log) → IsPrefix old mid → IsPrefix mid new → AreOwn old new → AreOwn old mid × AreOwn mid new
parts_own old mid new a b all =
    let each : All IsOwn (a.later ++ b.later) = subst (All IsOwn) (since_is (prefix_then a b)) all in (
      subst (All IsOwn) (sym (since_is a)) (first_own a.later b.later each),
      subst (All IsOwn) (sym (since_is b)) (later_own a.later b.later each),
    )

-- where each is own, none is another's
none_others : (allows : Bool → Files → Act → Type 0) (files : Files) (others rest : List Step) → ByOthers allows files others → All IsOwn (others ++ rest) → others ≡ []
none_others allows files [] rest by all = refl
none_others allows files (step ∷ others) rest by all = absurd (true≢false (sym (All-head IsOwn step (others ++ rest) all) ∙ by.0))

-- ---- a call
same_plan : (role : Role) (from to : ℕ) (s : State) (old new : Log) (m : Move) → Stays s.notes.plan from s old → Called (AllowsFor role s.notes.plan) from to s old new m → AreOwn old new
    → CalledAlone s.notes.plan.queue from to s (files_of old) (files_of new) m
same_plan role from to s old new m stays c all =
    let allows = AllowsFor role s.notes.plan in
    let each : All IsOwn (c.answered.acted.others ++ (own c.answered.act ∷ [])) = subst (All IsOwn) (since_is (prefix_of c.answered.acted)) all in
    let none : c.answered.acted.others ≡ [] = none_others allows (files_of old) c.answered.acted.others (own c.answered.act ∷ []) c.answered.acted.by each in
    record {
      act = c.answered.act;
      may = subst (λ others. Allowed stage_reader s.notes.plan.queue (replay (files_of old) others) c.answered.act) none (move_allowed role from to s old new m stays.place.fit c stays.legal stays.known);
      takes = subst (λ others. Takes (files_of old) others m.call m.answer c.answered.act) none c.answered.takes;
      files = files_then c.answered.acted ∙ ap (λ others. after (replay (files_of old) others) c.answered.act) none;
      leads = c.leads;
    }

-- A call during which nobody else takes a step is one of a worker by itself.
pub call_alone : (role : Role) (plan : Plan) (from to : ℕ) (s : State) (old new : Log) (m : Move) → Stays plan from s old → Called (AllowsFor role plan) from to s old new m → AreOwn old new
    → CalledAlone s.notes.plan.queue from to s (files_of old) (files_of new) m
call_alone role plan from to s old new m stays c all =
    let P = λ (p : Plan). Stays p from s old → Called (AllowsFor role p) from to s old new m → CalledAlone s.notes.plan.queue from to s (files_of old) (files_of new) m in
    subst P stays.place.of_plan (λ stays' c'. same_plan role from to s old new m stays' c' all) stays c
