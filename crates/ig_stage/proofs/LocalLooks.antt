-- What was looked at where others only look: the own acts, on files that stay.
use Rattle.std.proofs.Common.{◌≡◌, List, [], ◌∷◌, Result, ap, sym, subst, ◌∙◌, refl}
use Rattle.ig_defs.specs.declared.step.Act.{Act}
use Rattle.ig_defs.specs.declared.step.Act.TheVariants as act
use Rattle.ig_defs.specs.Files.{Files}
use Rattle.ig_defs.specs.Log.{Log, OthersOnlyRead, files_of}
use Rattle.ig_defs.specs.Own.{Moment}
use Rattle.ig_defs.specs.Replay.{AreQuiet, after-quiet}
use Rattle.ig_meaning.specs.Call.{AllLook}
use Rattle.ig_meaning.specs.Making.{Making}
use Rattle.ig_meaning.specs.QueueActs.{acts_of}
use Rattle.ig_rule.specs.WentOn.{EachMoment, local_files, local_moments}
use Rattle.ig_task.specs.Pipeline.{is_allowed}
use Rattle.ig_task.specs.declared.pipeline.Pipeline.{Pipeline}
use Rattle.ig_stage.specs.Did.{Did, moments_from}
use Rattle.ig_stage.specs.Looking.{AllListTruly, IsMakingOf, Looks, ListsTruly as ListsTrulyThen}
use Rattle.ig_stage.specs.Making.{ListsTruly}
use Rattle.ig_stage.specs.Pipeline.{local_rule}
use Rattle.ig_stage.specs.declared.error.MakeError.{MakeError}
use Rattle.ig_stage.proofs.Dids.{quiet_files}
use Rattle.ig_stage.proofs.Lookings.{look_only}
use Rattle.ig_stage.proofs.OthersLooks.{others_look}

-- A part of the making was looked at by these own acts.
pub record LooksLocally {T : Type 0} (making : List Moment → Making) (next : T → List Moment → Making) (old new : Log) (result : Result T MakeError) : Type 0 where
  pub acts : List Act
  pub did : Did old new acts
  pub quiet : AreQuiet acts
  pub truly : ListsTruly (files_of old) acts
  pub made : IsMakingOf making next (moments_from (files_of old) acts) result

others_only_read : OthersOnlyRead (is_allowed local_rule)
others_only_read files a quiet = quiet

acts_quiet : (ms : List Moment) → AllLook ms → AreQuiet (acts_of ms)
acts_quiet [] look = tt
acts_quiet (m ∷ ms) look = (look.0, acts_quiet ms look.1)

-- the moments are those of their acts, where the files stay
moments_same : (files : Files) (ms : List Moment) → AllLook ms → EachMoment (λ now a. now ≡ files) ms → ms ≡ moments_from files (acts_of ms)
moments_same files [] look same = refl
moments_same files (m ∷ ms) look same =
    ap (λ now. record { files = now; act = m.act } ∷ ms) same.0
    ∙ ap (λ rest. record { files = files; act = m.act } ∷ rest)
    (moments_same files ms look.1 same.1 ∙ ap (λ now. moments_from now (acts_of ms)) (sym (after-quiet files m.act look.0)))

lists_truly : (files : Files) (a : Act) (acts : List Act) → ListsTrulyThen files a → ListsTruly files acts → ListsTruly files (a ∷ acts)
lists_truly files (act.List dir given) acts first rest = (first.only, rest)
lists_truly files (act.Read path) acts first rest = rest
lists_truly files (act.Put path bytes) acts first rest = rest
lists_truly files (act.Move from to) acts first rest = rest
lists_truly files (act.Remove path) acts first rest = rest

all_truly : (files : Files) (ms : List Moment) → AllListTruly ms → EachMoment (λ now a. now ≡ files) ms → ListsTruly files (acts_of ms)
all_truly files [] truly same = tt
all_truly files (m ∷ ms) truly same =
    lists_truly files m.act (acts_of ms) (subst (λ now. ListsTrulyThen now m.act) same.0 truly.0) (all_truly files ms truly.1 same.1)

pub looks_locally : {T : Type 0} (rule : Pipeline) (making : List Moment → Making) (next : T → List Moment → Making) (old new : Log) (result : Result T MakeError)
    → rule ≡ local_rule → Looks (is_allowed rule) making next old new result → LooksLocally making next old new result
looks_locally {T = T} rule making next old new result local looks =
    let l = subst (λ (r : Pipeline). Looks {T = T} (is_allowed r) making next old new result) local looks in
    let same = local_moments (is_allowed local_rule) others_only_read old new l.ms l.went (look_only l.ms l.quiet) in
    let kept = local_files (is_allowed local_rule) others_only_read old new l.ms l.went (look_only l.ms l.quiet) in
    let moments = moments_same (files_of old) l.ms l.quiet same in
    record {
      acts = acts_of l.ms;
      did = record {
        steps = l.went.steps;
        opening = l.went.opening;
        grown = l.went.grown;
        moments = l.went.moments ∙ moments;
        files = kept ∙ sym (quiet_files (files_of old) (acts_of l.ms) (acts_quiet l.ms l.quiet));
      };
      quiet = acts_quiet l.ms l.quiet;
      truly = all_truly (files_of old) l.ms (l.truly (others_look (is_allowed local_rule) others_only_read old new l.ms l.went)) same;
      made = subst (λ ms. IsMakingOf {T = T} making next ms result) moments l.made;
    }
