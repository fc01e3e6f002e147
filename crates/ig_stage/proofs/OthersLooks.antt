-- Where others only look, a part of a call is as that of a process by itself.
use Rattle.std.proofs.Common.{◌≡◌, ℕ, Bool, List, [], ◌∷◌, ◌++◌, All, Result, Ok, Err, IfOk, ap, subst, sym, ◌∙◌, true≢false}
use Rattle.ig_defs.specs.declared.step.Act.{Act}
use Rattle.ig_defs.specs.declared.step.Act.TheVariants as act
use Rattle.ig_defs.specs.declared.step.Step.{Step}
use Rattle.ig_defs.specs.declared.error.StoreError.{StoreError}
use Rattle.ig_defs.specs.Files.{Files}
use Rattle.ig_defs.specs.Log.{Log, ByOthers, OthersOnlyRead, after, files_of, own_all, replay}
use Rattle.ig_defs.specs.Names.{Stands, StandsThroughout}
use Rattle.ig_defs.specs.Own.{Moment, steps_since}
use Rattle.ig_defs.specs.Replay.{replay-others}
use Rattle.ig_defs.specs.TurnLaws.{files_then, prefix_of, prefix_then, since_is as later_since}
use Rattle.ig_rule.specs.Went.{OthersAllowed, Went, WentList}
use Rattle.ig_rule.specs.WentOn.{EachMoment, LooksOnly, local_moments, went_prefix}
use Rattle.ig_task.specs.Pipeline.{is_allowed}
use Rattle.ig_stage.specs.CanMake.{AllOwn}
use Rattle.ig_stage.specs.Looking.{AreNames, OthersLook}
use Rattle.ig_stage.specs.Pipeline.{local_rule}
use Rattle.ig_stage.proofs.Turns.{stand_now}

only_read : OthersOnlyRead (is_allowed local_rule)
only_read files a quiet = quiet

-- where nobody else steps, others only look
pub own_look : (steps : List Step) → AllOwn steps → OthersLook steps
own_look [] own = tt
own_look (step ∷ steps) own = (λ mine. absurd (true≢false (sym own.0 ∙ mine)), own_look steps own.1)

look_parts : (first then : List Step) → OthersLook (first ++ then) → OthersLook first × OthersLook then
look_parts [] then look = (tt, look)
look_parts (step ∷ first) then look =
    let rest = look_parts first then look.1 in
    ((look.0, rest.0), rest.1)

by_local : (allows : Bool → Files → Act → Type 0) (files : Files) (others : List Step) → ByOthers allows files others → OthersLook others → ByOthers (is_allowed local_rule) files others
by_local allows files [] by look = tt
by_local allows files (step ∷ others) by look = (by.0, look.0 by.0, by_local allows (after files step.act) others by.2 look.1)

allowed_locally : (files : Files) (steps : List Step) → OthersLook steps → OthersAllowed (is_allowed local_rule) files steps
allowed_locally files [] look = tt
allowed_locally files (step ∷ steps) look = (look.0, allowed_locally (after files step.act) steps look.1)

look_locally : (allows : Bool → Files → Act → Type 0) → OthersOnlyRead allows → (files : Files) (steps : List Step) → OthersAllowed allows files steps → OthersLook steps
look_locally allows reads files [] others = tt
look_locally allows reads files (step ∷ steps) others = (λ mine. reads files step.act (others.0 mine), look_locally allows reads (after files step.act) steps others.1)

-- ---- parts of a call
module _ (allows : Bool → Files → Act → Type 0) where
  since_is : (old new : Log) (ms : List Moment) (w : Went allows old new ms) → steps_since old new ≡ w.steps
  since_is old new ms w = later_since (went_prefix w)

  since_then : (old mid new : Log) (first then : List Moment) (a : Went allows old mid first) (b : Went allows mid new then) → steps_since old new ≡ steps_since old mid ++ steps_since mid new
  since_then old mid new first then a b =
      later_since (prefix_then (went_prefix a) (went_prefix b)) ∙ ap (λ steps. steps ++ b.steps) (sym (since_is old mid first a)) ∙ ap (λ steps. steps_since old mid ++ steps) (sym (since_is mid new then b))

  pub look_in_parts : (old mid new : Log) (first then : List Moment) → Went allows old mid first → Went allows mid new then
      → OthersLook (steps_since old new) → OthersLook (steps_since old mid) × OthersLook (steps_since mid new)
  look_in_parts old mid new first then a b look = look_parts (steps_since old mid) (steps_since mid new) (subst OthersLook (since_then old mid new first then a b) look)

  -- by the rule of the store
  pub others_look : OthersOnlyRead allows → (old new : Log) (ms : List Moment) → Went allows old new ms → OthersLook (steps_since old new)
  others_look reads old new ms w = subst OthersLook (sym (since_is old new ms w)) (look_locally allows reads (files_of old) w.steps w.others)

  -- each own step finds the files at entry
  pub finds_same : (old new : Log) (ms : List Moment) → Went allows old new ms → EachMoment LooksOnly ms → OthersLook (steps_since old new) → EachMoment (λ now a. now ≡ files_of old) ms
  finds_same old new ms w quiet look =
      local_moments (is_allowed local_rule) only_read old new ms
      (record {
        steps = w.steps;
        opening = w.opening;
        grown = w.grown;
        others = allowed_locally (files_of old) w.steps (subst OthersLook (since_is old new ms w) look);
        moments = w.moments;
      })
      quiet

  -- ---- a listing

  -- what stands stood all the while
  stood : (dir name : List ℕ) (files : Files) (others : List Step) → ByOthers (is_allowed local_rule) files others → Stands (replay files others) dir name → StandsThroughout files others dir name
  stood dir name files [] by here = here
  stood dir name files (step ∷ others) by here = (
    subst (λ now. Stands now dir name) (replay-others (is_allowed local_rule) only_read files (step ∷ others) by) here,
    stood dir name (after files step.act) others by.2 here,
  )

  pub names_true : (old new : Log) (dir : List ℕ) (result : Result (List (List ℕ)) StoreError) → WentList allows old new dir result → OthersLook (steps_since old new) → IfOk result (AreNames (files_of new) dir)
  names_true old new dir (Ok given) l look =
      let t = l.acted in
      let by : ByOthers (is_allowed local_rule) (files_of old) t.others
      = by_local allows (files_of old) t.others t.by (look_parts t.others (own_all (act.List dir given ∷ [])) (subst OthersLook (later_since (prefix_of t)) look)).0 in
      let now : files_of new ≡ replay (files_of old) t.others = files_then t in
      let same : files_of old ≡ files_of new = sym (now ∙ replay-others (is_allowed local_rule) only_read (files_of old) t.others by) in
      record {
        only = subst (λ files. All (Stands files dir) given) same (stand_now (is_allowed local_rule) only_read (files_of old) t.others by dir given l.names.only);
        each = λ name here. l.names.each name (stood dir name (files_of old) t.others by (subst (λ files. Stands files dir name) now here));
      }
  names_true old new dir (Err e) t look = tt
