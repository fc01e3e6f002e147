-- Each prefix of a legal log is legal, and leaves sound files.
use Rattle.std.specs.Prelude.{◌≡◌, Bool, List, ℕ, [], ◌∷◌, ◌++◌}
use Rattle.std.proofs.Common.{subst, sym}
use Rattle.ig_defs.specs.declared.step.Act.{Act}
use Rattle.ig_defs.specs.declared.step.Step.{Step}
use Rattle.ig_defs.specs.Files.{Files}
use Rattle.ig_defs.specs.Log.{Log, after, replay, files_of, AreAllowed}
use Rattle.ig_defs.specs.Replay.{AreAllowed-append}
use Rattle.ig_rule.specs.Facts.{Reader, KindLaws}
use Rattle.ig_rule.specs.Rule.{Allowed}
use Rattle.ig_rule.specs.Sound.{Sound, AreAllowedSteps, Legal}
use Rattle.ig_rule.specs.SoundKept.{sound_kept}

-- the first of allowed steps are allowed
pub first_allowed : (allows : Bool → Files → Act → Type 0) (files : Files) (xs ys : List Step) → AreAllowed allows files (xs ++ ys) → AreAllowed allows files xs
first_allowed allows files [] ys h = tt
first_allowed allows files (x ∷ xs) ys h = (h.0, first_allowed allows (after files x.act) xs ys h.1)

-- Allowed steps keep files sound.
pub sound_after : (read : Reader) → KindLaws read → (q : List ℕ) (files : Files) (steps : List Step) → Sound read q files → AreAllowedSteps read q files steps → Sound read q (replay files steps)
sound_after read kinds q files [] sound h = sound
sound_after read kinds q files (x ∷ xs) sound h = sound_after read kinds q (after files x.act) xs (sound_kept read kinds q files x.act sound h.0) h.1

-- A prefix of a legal log is legal.
pub prefix_legal : (read : Reader) (q : List ℕ) (log : Log) (xs ys : List Step) → Legal read q log → log.steps ≡ xs ++ ys → Legal read q (record { opening = log.opening; steps = xs })
prefix_legal read q log xs ys legal e = record {
  opening = legal.opening;
  steps = first_allowed (λ mine given a. Allowed read q given a) log.opening xs ys (subst (AreAllowedSteps read q log.opening) e legal.steps);
}

-- It leaves sound files.
pub prefix_sound : (read : Reader) → KindLaws read → (q : List ℕ) (log : Log) (xs ys : List Step) → Legal read q log → log.steps ≡ xs ++ ys → Sound read q (replay log.opening xs)
prefix_sound read kinds q log xs ys legal e = sound_after read kinds q log.opening xs legal.opening (prefix_legal read q log xs ys legal e).steps

-- A legal log leaves sound files.
pub legal_sound : (read : Reader) → KindLaws read → (q : List ℕ) (log : Log) → Legal read q log → Sound read q (files_of log)
legal_sound read kinds q log legal = sound_after read kinds q log.opening log.steps legal.opening legal.steps

-- A legal log that grows by allowed steps stays legal.
pub legal_grown : (read : Reader) (q : List ℕ) (old new : Log) (steps : List Step) → Legal read q old → new.opening ≡ old.opening → new.steps ≡ old.steps ++ steps
    → AreAllowedSteps read q (files_of old) steps → Legal read q new
legal_grown read q old new steps legal opening grown h = record {
  opening = subst (Sound read q) (sym opening) legal.opening;
  steps = subst (λ files. AreAllowedSteps read q files new.steps) (sym opening) (subst (AreAllowedSteps read q old.opening) (sym grown)
      (AreAllowed-append (λ mine given a. Allowed read q given a) old.opening old.steps steps legal.steps h));
}
