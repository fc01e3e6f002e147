-- How a step ends, by what its call on a store came to.
use Rattle.std.proofs.Common.{◌≡◌, Bool, Result, Err, ap, sym, subst, ◌∙◌, inl, inr}
use Rattle.ig_defs.specs.declared.error.StoreError.{StoreError}
use Rattle.ig_defs.specs.declared.error.StoreError.TheVariants as store
use Rattle.ig_defs.specs.declared.step.Act.{Act}
use Rattle.ig_defs.specs.Files.{Files}
use Rattle.ig_defs.specs.Log.{Log}
use Rattle.ig_defs.specs.TurnLaws.{idled_nothing}
use Rattle.ig_worker.specs.declared.error.WorkerError.{WorkerError}
use Rattle.ig_worker.specs.declared.error.WorkerError.TheVariants.{Memory}
use Rattle.ig_worker.specs.declared.next.Next.{Next}
use Rattle.ig_worker.specs.declared.notes.Notes.{Notes}
use Rattle.ig_defs.specs.Answers.{Answer, Answered, Call, IsAnswered, IsChange}
use Rattle.ig_worker.specs.Errors.{worker_error_of}
use Rattle.ig_worker.specs.Steps.{Made}
use Rattle.ig_worker.specs.Led.{Led}
use Rattle.ig_worker.specs.Moves.{Move}

-- each answer to the call is a move of this sort
abbrev pub Moves : (Bool → Files → Act → Type 0) → Log → Log → Call → (Move → Type 0) → Type 0
Moves allows old new call sort = (answer : Answer) → IsAnswered allows old new call answer → (m : Move) × Made allows old new sort m

-- memory ran out before the call
pub led_nothing : (allows : Bool → Files → Act → Type 0) (log : Log) (sort : Move → Type 0) (before now : Notes) (result : Result Next WorkerError) (e : WorkerError) → result ≡ Err e → e ≡ Memory
    → Led allows log log sort before now result
led_nothing allows log sort before now result e is memory = subst (Led allows log log sort before now) (sym (is ∙ ap Err memory)) (inl (idled_nothing allows log))

module _ (allows : Bool → Files → Act → Type 0) (old new : Log) (sort : Move → Type 0) (before now : Notes) (call : Call) (gives : Moves allows old new call sort) where
  failed_by : ((answer : Answer) → IsChange call answer → ⊥) → (e : StoreError) → Answered allows old new call (Err e) → Led allows old new sort before now (Err (worker_error_of e))
  failed_by looks store.Failed (inl idled) = inl idled
  failed_by looks store.Failed (inr made) = absurd (looks made.answer made.changes)
  failed_by looks store.Memory answered = inl answered

  -- the call, which only looks, failed
  pub led_failed : ((answer : Answer) → IsChange call answer → ⊥) → (result : Result Next WorkerError) (e : StoreError) (made : WorkerError) → result ≡ Err made → made ≡ worker_error_of e → Answered allows old new call (Err e)
      → Led allows old new sort before now result
  led_failed looks result e made is so answered = subst (Led allows old new sort before now) (sym (is ∙ ap Err so)) (failed_by looks e answered)

  -- memory ran out after the call
  pub led_forgotten : (result : Result Next WorkerError) (e : WorkerError) (answer : Answer) → result ≡ Err e → e ≡ Memory → IsAnswered allows old new call answer → Led allows old new sort before now result
  led_forgotten result e answer is memory answered = subst (Led allows old new sort before now) (sym (is ∙ ap Err memory)) (inr (gives answer answered))
