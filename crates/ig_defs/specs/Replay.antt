-- What steps leave of files.
use Rattle.std.specs.Prelude.{◌≡◌, Bool, false, List, [], ◌∷◌, ◌++◌, refl}
use Rattle.std.proofs.Common.{subst, sym, ◌∙◌}
use Rattle.ig_defs.specs.declared.step.Act.{Act}
use Rattle.ig_defs.specs.declared.step.Act.TheVariants as act
use Rattle.ig_defs.specs.declared.step.Step.{Step}
use Rattle.ig_defs.specs.Files.{Files}
use Rattle.ig_defs.specs.Log.{after, replay, own_all, ByOthers, AreAllowed, IsQuiet, OthersOnlyRead}

-- steps and then others
pub replay-append : (files : Files) (before later : List Step) → replay files (before ++ later) ≡ replay (replay files before) later
replay-append files [] later = refl
replay-append files (step ∷ before) later = replay-append (after files step.act) before later

-- a quiet act leaves the files
pub after-quiet : (files : Files) (a : Act) → IsQuiet a → after files a ≡ files
after-quiet files (act.Read path) quiet = refl
after-quiet files (act.List dir given) quiet = refl
after-quiet files (act.Put path bytes) quiet = absurd quiet
after-quiet files (act.Move from to) quiet = absurd quiet
after-quiet files (act.Remove path) quiet = absurd quiet

-- each act changes no file
abbrev pub AreQuiet : List Act → Type 0
AreQuiet [] = Unit {0}
AreQuiet (a ∷ acts) = IsQuiet a × AreQuiet acts

-- own quiet acts leave the files
pub replay-quiet : (files : Files) (acts : List Act) → AreQuiet acts → replay files (own_all acts) ≡ files
replay-quiet files [] quiet = refl
replay-quiet files (a ∷ acts) quiet = replay-quiet (after files a) acts quiet.1 ∙ after-quiet files a quiet.0

-- others who only read leave the files
pub replay-others : (allows : Bool → Files → Act → Type 0) → OthersOnlyRead allows
    → (files : Files) (steps : List Step) → ByOthers allows files steps → replay files steps ≡ files
replay-others allows reads files [] by = refl
replay-others allows reads files (step ∷ steps) by =
    replay-others allows reads (after files step.act) steps by.2 ∙ after-quiet files step.act (reads files step.act by.1)

-- a property of files that each allowed act of others keeps, steps of others keep
pub replay-keeps : (allows : Bool → Files → Act → Type 0) (P : Files → Type 0)
    → ((files : Files) (a : Act) → allows false files a → P files → P (after files a))
    → (files : Files) (steps : List Step) → ByOthers allows files steps → P files → P (replay files steps)
replay-keeps allows P keeps files [] by here = here
replay-keeps allows P keeps files (step ∷ steps) by here =
    replay-keeps allows P keeps (after files step.act) steps by.2 (keeps files step.act by.1 here)

-- allowed steps and then others
pub AreAllowed-append : (allows : Bool → Files → Act → Type 0) (files : Files) (before later : List Step)
    → AreAllowed allows files before → AreAllowed allows (replay files before) later → AreAllowed allows files (before ++ later)
AreAllowed-append allows files [] later first then = then
AreAllowed-append allows files (step ∷ before) later first then =
    (first.0, AreAllowed-append allows (after files step.act) before later first.1 then)

-- steps of others are allowed
pub AreAllowed-others : (allows : Bool → Files → Act → Type 0) (files : Files) (steps : List Step)
    → ByOthers allows files steps → AreAllowed allows files steps
AreAllowed-others allows files [] by = tt
AreAllowed-others allows files (step ∷ steps) by =
    (subst (λ mine. allows mine files step.act) (sym by.0) by.1, AreAllowed-others allows (after files step.act) steps by.2)
