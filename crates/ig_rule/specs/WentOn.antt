-- What a process did, one part after the other, and what then is still so.
use Rattle.std.specs.Prelude.{◌≡◌, ◌⊎◌, ℕ, Bool, true, false, List, [], ◌∷◌, ◌++◌, Option, Some, is_some, Result, Ok, Err, refl}
use Rattle.std.proofs.Common.{inl, inr, ap, sym, subst, true≢false, ◌∙◌, append_assoc, append-nil}
use Rattle.ig_defs.specs.declared.step.Act.{Act}
use Rattle.ig_defs.specs.declared.step.Act.TheVariants as act
use Rattle.ig_defs.specs.declared.step.Step.{Step}
use Rattle.ig_defs.specs.declared.error.StoreError.{StoreError}
use Rattle.ig_defs.specs.declared.error.StoreError.TheVariants.{Failed, Memory}
use Rattle.ig_defs.specs.Answers.{Answer, answer_by, Answered, Found, Lists, Names, put_answer, Puts, Reads, Sees, WasThere}
use Rattle.ig_defs.specs.Files.{Files, file_at}
use Rattle.ig_defs.specs.Log.{Log, ByOthers, IsQuiet, OthersOnlyRead, after, files_of, own_all, replay}
use Rattle.ig_defs.specs.Own.{Moment, own_moments, with_moment}
use Rattle.ig_defs.specs.Replay.{after-quiet}
use Rattle.ig_defs.specs.TurnLaws.{acted_as, files_after, files_later, listed_of, not_made, put_acted}
use Rattle.ig_defs.specs.Turns.{Acted, Grew, Idled, IsPrefix}
use Rattle.ig_rule.specs.Facts.{Reader}
use Rattle.ig_rule.specs.Rule.{Allowed}
use Rattle.ig_rule.specs.Sound.{AreAllowedSteps, Legal}
use Rattle.ig_rule.specs.Roles.{Allows}
use Rattle.ig_rule.specs.declared.role.Role.{Role}
use Rattle.ig_rule.specs.Beside.{quiet_allowed}
use Rattle.ig_rule.specs.Prefixes.{legal_grown}
use Rattle.ig_rule.specs.Went.{OthersAllowed, Went, WentRead, WentHas, WentList, WentPut}

-- ---- one part after the other

with_moment-append : (mine : Bool) (m : Moment) (ms rest : List Moment) → with_moment mine m (ms ++ rest) ≡ with_moment mine m ms ++ rest
with_moment-append true m ms rest = refl
with_moment-append false m ms rest = refl

pub own_moments-append : (files : Files) (first then : List Step) → own_moments files (first ++ then) ≡ own_moments files first ++ own_moments (replay files first) then
own_moments-append files [] then = refl
own_moments-append files (step ∷ first) then =
    ap (with_moment step.mine (record { files = files; act = step.act })) (own_moments-append (after files step.act) first then)
    ∙ with_moment-append step.mine (record { files = files; act = step.act }) (own_moments (after files step.act) first) (own_moments (replay (after files step.act) first) then)

OthersAllowed-append : (allows : Bool → Files → Act → Type 0) (files : Files) (first then : List Step)
    → OthersAllowed allows files first → OthersAllowed allows (replay files first) then → OthersAllowed allows files (first ++ then)
OthersAllowed-append allows files [] then a b = b
OthersAllowed-append allows files (step ∷ first) then a b = (a.0, OthersAllowed-append allows (after files step.act) first then a.1 b)

-- the log grew
abbrev pub went_prefix : {allows : Bool → Files → Act → Type 0} {old new : Log} {ms : List Moment} (w : Went allows old new ms) → IsPrefix old new
went_prefix w = record { later = w.steps; opening = w.opening; grown = w.grown }

-- nothing was done
pub went_nothing : (allows : Bool → Files → Act → Type 0) (log : Log) → Went allows log log []
went_nothing allows log = record { steps = []; opening = refl; grown = sym (append-nil log.steps); others = tt; moments = refl }

-- the files now are those that the steps left
pub files_went : (allows : Bool → Files → Act → Type 0) (old new : Log) (ms : List Moment) (w : Went allows old new ms) → files_of new ≡ replay (files_of old) w.steps
files_went allows old new ms w = files_later (went_prefix w)

pub went_then : (allows : Bool → Files → Act → Type 0) (old mid new : Log) (first then : List Moment) → Went allows old mid first → Went allows mid new then → Went allows old new (first ++ then)
went_then allows old mid new first then a b =
    let left : replay (files_of old) a.steps ≡ files_of mid = sym (files_went allows old mid first a) in
    record {
      steps = a.steps ++ b.steps;
      opening = b.opening ∙ a.opening;
      grown = b.grown ∙ ap (λ steps. steps ++ b.steps) a.grown ∙ append_assoc old.steps a.steps b.steps;
      others = OthersAllowed-append allows (files_of old) a.steps b.steps a.others (subst (λ files. OthersAllowed allows files b.steps) (sym left) b.others);
      moments = own_moments-append (files_of old) a.steps b.steps
          ∙ ap (λ files. own_moments (files_of old) a.steps ++ own_moments files b.steps) left
          ∙ ap (λ ms. ms ++ own_moments (files_of mid) b.steps) a.moments
          ∙ ap (λ ms. first ++ ms) b.moments;
    }

-- and then nothing more
pub went_then_nothing : (allows : Bool → Files → Act → Type 0) (old mid new : Log) (ms : List Moment) → Went allows old mid ms → Went allows mid new [] → Went allows old new ms
went_then_nothing allows old mid new ms a b = subst (Went allows old new) (append-nil ms) (went_then allows old mid new ms [] a b)

-- ---- one call

by_others_allowed : (allows : Bool → Files → Act → Type 0) (files : Files) (others : List Step) → ByOthers allows files others → OthersAllowed allows files others
by_others_allowed allows files [] by = tt
by_others_allowed allows files (step ∷ others) by = (λ mine. by.1, by_others_allowed allows (after files step.act) others by.2)

own_allowed : (allows : Bool → Files → Act → Type 0) (files : Files) (acts : List Act) → OthersAllowed allows files (own_all acts)
own_allowed allows files [] = tt
own_allowed allows files (a ∷ acts) = (λ mine. absurd (true≢false mine), own_allowed allows (after files a) acts)

-- steps of others have no own moments
own_moments-others : (allows : Bool → Files → Act → Type 0) (files : Files) (others rest : List Step) → ByOthers allows files others
    → own_moments files (others ++ rest) ≡ own_moments (replay files others) rest
own_moments-others allows files [] rest by = refl
own_moments-others allows files (step ∷ others) rest by =
    ap (λ mine. with_moment mine (record { files = files; act = step.act }) (own_moments (after files step.act) (others ++ rest))) by.0
    ∙ own_moments-others allows (after files step.act) others rest by.2

-- what one call did
pub went_of : {allows : Bool → Files → Act → Type 0} {old new : Log} {acts : List Act} (t : Grew allows old new acts)
    → Went allows old new (own_moments (replay (files_of old) t.others) (own_all acts))
went_of {allows = allows} {old = old} {acts = acts} t = record {
  steps = t.others ++ own_all acts;
  opening = t.opening;
  grown = t.grown;
  others = OthersAllowed-append allows (files_of old) t.others (own_all acts)
      (by_others_allowed allows (files_of old) t.others t.by) (own_allowed allows (replay (files_of old) t.others) acts);
  moments = own_moments-others allows (files_of old) t.others (own_all acts) t.by;
}

-- ---- by the result of a call
nothing_else : (answer : Answer) → ⊥ → ⊥
nothing_else answer no_way = no_way

module _ (allows : Bool → Files → Act → Type 0) (old new : Log) where
  pub went_read : (path : List ℕ) (result : Result (Option (List ℕ)) StoreError) → Answered allows old new (Reads path) (answer_by Found result) → WentRead allows old new path result
  went_read path (Ok found) t = (acted_as t.takes.0 t.acted, t.takes.1 ∙ ap (λ files. file_at files path) (sym (files_after t.takes.0 t.acted)))
  went_read path (Err e) t = not_made (Reads path) nothing_else e t

  pub went_has : (path : List ℕ) (result : Result Bool StoreError) → Answered allows old new (Sees path) (answer_by WasThere result) → WentHas allows old new path result
  went_has path (Ok found) t = (acted_as t.takes.0 t.acted, t.takes.1 ∙ ap (λ files. is_some (file_at files path)) (sym (files_after t.takes.0 t.acted)))
  went_has path (Err e) t = not_made (Sees path) nothing_else e t

  pub went_list : (dir : List ℕ) (result : Result (List (List ℕ)) StoreError) → Answered allows old new (Lists dir) (answer_by Names result) → WentList allows old new dir result
  went_list dir (Ok given) t = listed_of t
  went_list dir (Err e) t = not_made (Lists dir) nothing_else e t

  pub went_put : (path bytes : List ℕ) (result : Result (Unit {0}) StoreError) → Answered allows old new (Puts path bytes) (answer_by put_answer result) → WentPut allows old new path bytes result
  went_put path bytes (Ok done) t = acted_as t.takes t.acted
  went_put path bytes (Err Failed) (inl t) = inl t
  went_put path bytes (Err Failed) (inr made) = inr (put_acted made.answer made.answered)
  went_put path bytes (Err Memory) t = t

-- ---- what each own step does

-- each own step, with the files at its moment, is so
abbrev pub EachMoment : (Files → Act → Type 0) → List Moment → Type 0
EachMoment Q [] = Unit {0}
EachMoment Q (m ∷ ms) = Q m.files m.act × EachMoment Q ms

pub EachMoment-append : (Q : Files → Act → Type 0) (first then : List Moment) → EachMoment Q first → EachMoment Q then → EachMoment Q (first ++ then)
EachMoment-append Q [] then a b = b
EachMoment-append Q (m ∷ first) then a b = (a.0, EachMoment-append Q first then a.1 b)

pub EachMoment-as : (Q R : Files → Act → Type 0) → ((files : Files) (a : Act) → Q files a → R files a) → (ms : List Moment) → EachMoment Q ms → EachMoment R ms
EachMoment-as Q R then [] each = tt
EachMoment-as Q R then (m ∷ ms) each = (then m.files m.act each.0, EachMoment-as Q R then ms each.1)

-- the same of steps: each own one is so, and what is left after it
abbrev EachOwn : (Files → Act → Type 0) → Files → List Step → Type 0
EachOwn Q files [] = Unit {0}
EachOwn Q files (step ∷ steps) = (step.mine ≡ true → Q files step.act) × EachOwn Q (after files step.act) steps

own_first : (Q : Files → Act → Type 0) (mine : Bool) (m : Moment) (ms : List Moment) → EachMoment Q (with_moment mine m ms) → (mine ≡ true → Q m.files m.act) × EachMoment Q ms
own_first Q true m ms each = (λ mine. each.0, each.1)
own_first Q false m ms each = (λ mine. absurd (true≢false (sym mine)), each)

each_own : (Q : Files → Act → Type 0) (files : Files) (steps : List Step) → EachMoment Q (own_moments files steps) → EachOwn Q files steps
each_own Q files [] each = tt
each_own Q files (step ∷ steps) each =
    let first = own_first Q step.mine (record { files = files; act = step.act }) (own_moments (after files step.act) steps) each in
    (first.0, each_own Q (after files step.act) steps first.1)

-- ---- legality

allowed_step : (read : Reader) (role : Role) (q : List ℕ) (files : Files) (mine : Bool) (a : Act) → (mine ≡ false → Allows read role (Some q) false files a)
    → (mine ≡ true → Allowed read q files a) → Allowed read q files a
allowed_step read role q files true a other own = own refl
allowed_step read role q files false a other own = (other refl).0

steps_allowed : (read : Reader) (role : Role) (q : List ℕ) (files : Files) (steps : List Step) → OthersAllowed (Allows read role (Some q)) files steps
    → EachOwn (Allowed read q) files steps → AreAllowedSteps read q files steps
steps_allowed read role q files [] others own = tt
steps_allowed read role q files (step ∷ steps) others own =
    (allowed_step read role q files step.mine step.act others.0 own.0, steps_allowed read role q (after files step.act) steps others.1 own.1)

-- A legal log stays legal, where each own step was allowed at its moment.
pub went_legal : (read : Reader) (role : Role) (q : List ℕ) (old new : Log) (ms : List Moment) → Went (Allows read role (Some q)) old new ms → EachMoment (Allowed read q) ms
    → Legal read q old → Legal read q new
went_legal read role q old new ms w each legal =
    legal_grown read q old new w.steps legal w.opening w.grown
    (steps_allowed read role q (files_of old) w.steps w.others
    (each_own (Allowed read q) (files_of old) w.steps (subst (EachMoment (Allowed read q)) (sym w.moments) each)))

pub acted_legal : (read : Reader) (role : Role) (q : List ℕ) (old new : Log) (a : Act) → (t : Acted (Allows read role (Some q)) old new a)
    → Allowed read q (replay (files_of old) t.others) a → Legal read q old → Legal read q new
acted_legal read role q old new a t may = went_legal read role q old new _ (went_of t) (may, tt)

pub idled_legal : (read : Reader) (role : Role) (q : List ℕ) (old new : Log) → Idled (Allows read role (Some q)) old new → Legal read q old → Legal read q new
idled_legal read role q old new t = went_legal read role q old new [] (went_of t) tt

-- each own step only looks
abbrev pub LooksOnly : Files → Act → Type 0
LooksOnly files a = IsQuiet a

pub went_quiet_legal : (read : Reader) (role : Role) (q : List ℕ) (old new : Log) (ms : List Moment) → Went (Allows read role (Some q)) old new ms → EachMoment LooksOnly ms
    → Legal read q old → Legal read q new
went_quiet_legal read role q old new ms w quiet =
    went_legal read role q old new ms w (EachMoment-as LooksOnly (Allowed read q) (quiet_allowed read q) ms quiet)

-- ---- what others keep

-- What stays so: others keep it, and own steps that only look do.
record StaysSo (P : Files → Type 0) (ms : List Moment) (files : Files) : Type 0 where
  at_moments : EachMoment (λ now a. P now) ms
  at_end : P files

with_own : (P : Files → Type 0) (mine : Bool) (m : Moment) (ms : List Moment) (files : Files) → P m.files → StaysSo P ms files → StaysSo P (with_moment mine m ms) files
with_own P true m ms files now later = record { at_moments = (now, later.at_moments); at_end = later.at_end }
with_own P false m ms files now later = later

step_keeps : (allows : Bool → Files → Act → Type 0) (P : Files → Type 0) → ((files : Files) (a : Act) → allows false files a → P files → P (after files a))
    → (files : Files) (mine : Bool) (a : Act) → (mine ≡ false → allows false files a) → (mine ≡ true → IsQuiet a) → P files → P (after files a)
step_keeps allows P keeps files true a other own here = subst P (sym (after-quiet files a (own refl))) here
step_keeps allows P keeps files false a other own here = keeps files a (other refl) here

steps_keep : (allows : Bool → Files → Act → Type 0) (P : Files → Type 0) → ((files : Files) (a : Act) → allows false files a → P files → P (after files a))
    → (files : Files) (steps : List Step) → OthersAllowed allows files steps → EachOwn LooksOnly files steps → P files → StaysSo P (own_moments files steps) (replay files steps)
steps_keep allows P keeps files [] others own here = record { at_moments = tt; at_end = here }
steps_keep allows P keeps files (step ∷ steps) others own here =
    with_own P step.mine (record { files = files; act = step.act }) (own_moments (after files step.act) steps) (replay (after files step.act) steps) here
    (steps_keep allows P keeps (after files step.act) steps others.1 own.1 (step_keeps allows P keeps files step.mine step.act others.0 own.0 here))

stays_so : (allows : Bool → Files → Act → Type 0) (P : Files → Type 0) → ((files : Files) (a : Act) → allows false files a → P files → P (after files a))
    → (old new : Log) (ms : List Moment) → Went allows old new ms → EachMoment LooksOnly ms → P (files_of old) → StaysSo P ms (files_of new)
stays_so allows P keeps old new ms w quiet here =
    subst (λ now. StaysSo P ms now) (sym (files_went allows old new ms w))
    (subst (λ moments. StaysSo P moments (replay (files_of old) w.steps)) w.moments
    (steps_keep allows P keeps (files_of old) w.steps w.others
    (each_own LooksOnly (files_of old) w.steps (subst (EachMoment LooksOnly) (sym w.moments) quiet)) here))

-- What each allowed step of others keeps is so after a part of own steps that only look,
pub went_keeps : (allows : Bool → Files → Act → Type 0) (P : Files → Type 0) → ((files : Files) (a : Act) → allows false files a → P files → P (after files a))
    → (old new : Log) (ms : List Moment) → Went allows old new ms → EachMoment LooksOnly ms → P (files_of old) → P (files_of new)
went_keeps allows P keeps old new ms w quiet here = (stays_so allows P keeps old new ms w quiet here).at_end

-- and at the moment of each of these.
pub went_keeps_at : (allows : Bool → Files → Act → Type 0) (P : Files → Type 0) → ((files : Files) (a : Act) → allows false files a → P files → P (after files a))
    → (old new : Log) (ms : List Moment) → Went allows old new ms → EachMoment LooksOnly ms → P (files_of old) → EachMoment (λ now a. P now) ms
went_keeps_at allows P keeps old new ms w quiet here = (stays_so allows P keeps old new ms w quiet here).at_moments

-- ---- where others only read

only_read_keeps : (allows : Bool → Files → Act → Type 0) → OthersOnlyRead allows → (first files : Files) (a : Act) → allows false files a → files ≡ first → after files a ≡ first
only_read_keeps allows reads first files a may same = after-quiet files a (reads files a may) ∙ same

-- the files stay
pub local_files : (allows : Bool → Files → Act → Type 0) → OthersOnlyRead allows → (old new : Log) (ms : List Moment) → Went allows old new ms → EachMoment LooksOnly ms
    → files_of new ≡ files_of old
local_files allows reads old new ms w quiet =
    went_keeps allows (λ files. files ≡ files_of old) (only_read_keeps allows reads (files_of old)) old new ms w quiet refl

-- and each own step finds them so
pub local_moments : (allows : Bool → Files → Act → Type 0) → OthersOnlyRead allows → (old new : Log) (ms : List Moment) → Went allows old new ms → EachMoment LooksOnly ms
    → EachMoment (λ now a. now ≡ files_of old) ms
local_moments allows reads old new ms w quiet =
    went_keeps_at allows (λ files. files ≡ files_of old) (only_read_keeps allows reads (files_of old)) old new ms w quiet refl
