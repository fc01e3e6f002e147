-- What two parts of a call did, one after the other.
use Rattle.std.proofs.Common.{◌≡◌, List, [], ◌∷◌, ◌++◌, refl, ap, sym, ◌∙◌, append_assoc, append-nil}
use Rattle.ig_defs.specs.declared.step.Act.{Act}
use Rattle.ig_defs.specs.declared.step.Act.TheVariants as act
use Rattle.ig_defs.specs.Files.{Files}
use Rattle.ig_defs.specs.Log.{Log, after, files_of, replay}
use Rattle.ig_defs.specs.Own.{own_moments}
use Rattle.ig_defs.specs.Replay.{AreQuiet, replay-append}
use Rattle.ig_rule.specs.WentOn.{own_moments-append}
use Rattle.ig_stage.specs.Did.{Did, after_all, moments_from}
use Rattle.ig_stage.specs.Making.{ListsTruly}

pub moments_from-append : (files : Files) (first then : List Act) → moments_from files (first ++ then) ≡ moments_from files first ++ moments_from (after_all files first) then
moments_from-append files [] then = refl
moments_from-append files (a ∷ first) then = ap (λ ms. record { files = files; act = a } ∷ ms) (moments_from-append (after files a) first then)

pub after_all-append : (files : Files) (first then : List Act) → after_all files (first ++ then) ≡ after_all (after_all files first) then
after_all-append files [] then = refl
after_all-append files (a ∷ first) then = after_all-append (after files a) first then

pub AreQuiet-append : (first then : List Act) → AreQuiet first → AreQuiet then → AreQuiet (first ++ then)
AreQuiet-append [] then quiet_first quiet_then = quiet_then
AreQuiet-append (a ∷ first) then quiet_first quiet_then = (quiet_first.0, AreQuiet-append first then quiet_first.1 quiet_then)

-- quiet acts leave the files
pub quiet_files : (files : Files) (acts : List Act) → AreQuiet acts → after_all files acts ≡ files
quiet_files files [] quiet = refl
quiet_files files (act.Read path ∷ acts) quiet = quiet_files files acts quiet.1
quiet_files files (act.List dir given ∷ acts) quiet = quiet_files files acts quiet.1
quiet_files files (act.Put path bytes ∷ acts) quiet = absurd quiet.0
quiet_files files (act.Move from to ∷ acts) quiet = absurd quiet.0
quiet_files files (act.Remove path ∷ acts) quiet = absurd quiet.0

pub ListsTruly-append : (files : Files) (first then : List Act) → ListsTruly files first → ListsTruly files then → ListsTruly files (first ++ then)
ListsTruly-append files [] then true_first true_then = true_then
ListsTruly-append files (act.List dir given ∷ first) then true_first true_then = (true_first.0, ListsTruly-append files first then true_first.1 true_then)
ListsTruly-append files (act.Read path ∷ first) then true_first true_then = ListsTruly-append files first then true_first true_then
ListsTruly-append files (act.Put path bytes ∷ first) then true_first true_then = ListsTruly-append files first then true_first true_then
ListsTruly-append files (act.Move from to ∷ first) then true_first true_then = ListsTruly-append files first then true_first true_then
ListsTruly-append files (act.Remove path ∷ first) then true_first true_then = ListsTruly-append files first then true_first true_then

-- nothing was done
pub did_nothing : (log : Log) → Did log log []
did_nothing log = record { steps = []; opening = refl; grown = sym (append-nil log.steps); moments = refl; files = refl }

-- the files in between are those that the first steps left
steps_leave : (old mid : Log) (acts : List Act) (d : Did old mid acts) → replay (files_of old) d.steps ≡ files_of mid
steps_leave old mid acts d = sym (ap (λ files. replay files mid.steps) d.opening ∙ ap (replay old.opening) d.grown ∙ replay-append old.opening old.steps d.steps)

pub did_then : (old mid new : Log) (first then : List Act) → Did old mid first → Did mid new then → Did old new (first ++ then)
did_then old mid new first then a b = record {
  steps = a.steps ++ b.steps;
  opening = b.opening ∙ a.opening;
  grown = b.grown ∙ ap (λ steps. steps ++ b.steps) a.grown ∙ append_assoc old.steps a.steps b.steps;
  moments = own_moments-append (files_of old) a.steps b.steps
      ∙ ap (λ files. own_moments (files_of old) a.steps ++ own_moments files b.steps) (steps_leave old mid first a)
      ∙ ap (λ ms. ms ++ own_moments (files_of mid) b.steps) a.moments
      ∙ ap (λ ms. moments_from (files_of old) first ++ ms) b.moments
      ∙ ap (λ files. moments_from (files_of old) first ++ moments_from files then) a.files
      ∙ sym (moments_from-append (files_of old) first then);
  files = b.files ∙ ap (λ files. after_all files then) a.files ∙ sym (after_all-append (files_of old) first then);
}
