-- What a command did, by what it gave.
use Rattle.std.specs.Prelude.{◌≡◌, ℕ, List, [], ◌∷◌, Some, None, Result, Ok, Err}
use Rattle.ig_defs.specs.Log.{Log}
use Rattle.ig_defs.specs.Own.{moments_since}
use Rattle.ig_meaning.specs.Ending.{Ending, NoMemory}
use Rattle.ig_meaning.specs.Making.{Planned, making_of_request}
use Rattle.ig_meaning.specs.Words.{Local, Enqueue, Request, command_of}
use Rattle.ig_record.specs.declared.stage.Stage.{Stage}
use Rattle.ig_stage.specs.declared.enqueuing.Made as queue
use Rattle.ig_stage.specs.declared.error.LocalError.TheVariants.{Make}
use Rattle.ig_stage.specs.declared.error.MakeError.{MakeError}
use Rattle.ig_stage.specs.Errors.{ending_of_make}
use Rattle.ig_stage.specs.Local.{OnlyLooked, WasRun, ran_of}
use Rattle.ig_stage.specs.Looking.{IsErrorOf}
use Rattle.ig_stage.specs.Made.{MakesIn}
use Rattle.ig_cli.specs.declared.done.Done.{Done}
use Rattle.ig_cli.specs.declared.done.Done.TheVariants.{Ran, Made}
use Rattle.ig_cli.specs.declared.report.CommandError.{CommandError}
use Rattle.ig_cli.specs.declared.report.CommandError.TheVariants.{Local}
use Rattle.ig_cli.specs.Report.{Ended, Ends, NotWords, ended_of}

-- that the one stage was run
abbrev pub IsRun : Stage → Result Done CommandError → Type 0
IsRun stage (Ok (Ran ran)) = ran ≡ ran_of stage ∷ []
IsRun stage (Ok (Made made)) = ⊥
IsRun stage (Err e) = Unit {0}

-- what a command gives, by what the making in a queue gave
abbrev pub given_by : Result queue.Made MakeError → Result Done CommandError
given_by (Ok made) = Ok (Made made)
given_by (Err e) = Err (Local (Make e))

-- The words were no command's; memory ran out before that was known; the copy was not made; it was made and run; or its making in a
-- queue went so.
pub data Performed (words : List (List ℕ)) (old new : Log) (result : Result Done CommandError) : Type 0 where
  not_words : ended_of result ≡ NotWords → command_of words ≡ None → new ≡ old → Performed words old new result
  not_read : ended_of result ≡ Ends NoMemory → new ≡ old → Performed words old new result
  not_made : (request : Request) (e : MakeError) → result ≡ Err (Local (Make e)) → command_of words ≡ Some (Local request)
      → OnlyLooked old new → IsErrorOf (making_of_request [] Planned request) (moments_since old new) (ending_of_make e) → Performed words old new result
  was_run : (request : Request) (stage : Stage) (ending : Ending) → ended_of result ≡ Ends ending → command_of words ≡ Some (Local request)
      → WasRun request old new stage ending → IsRun stage result → Performed words old new result
  enqueued : (q : List ℕ) (request : Request) (made : Result queue.Made MakeError) → result ≡ given_by made → command_of words ≡ Some (Enqueue q request)
      → MakesIn q request old new made → Performed words old new result

-- The words are no command's where a command ended so, and elsewhere they are one's, unless memory ran out.
pub record JudgesWords (words : List (List ℕ)) (ended : Ended) : Type 0 where
  pub not_words : ended ≡ NotWords → command_of words ≡ None
  pub none : command_of words ≡ None → ¬ (ended ≡ NotWords) → ended ≡ Ends NoMemory
