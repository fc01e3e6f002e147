-- What a maker of stages did in its queue, one part after the other.
use Rattle.std.proofs.Common.{◌≡◌, ℕ, Bool, List, [], ◌++◌, None, Some, Result, Ok, Err, ap, subst, sym, ◌∙◌, map, append-nil}
use Rattle.ig_defs.specs.declared.step.Act.{Act}
use Rattle.ig_defs.specs.declared.error.StoreError.{StoreError}
use Rattle.ig_defs.specs.declared.error.StoreError.TheVariants as store
use Rattle.ig_defs.specs.Files.{Files}
use Rattle.ig_defs.specs.Log.{Log}
use Rattle.ig_defs.specs.Own.{Moment}
use Rattle.ig_meaning.specs.Call.{AllLook}
use Rattle.ig_meaning.specs.Ending.{Ending, Finished, Refuses, StoreFailed, NoMemory}
use Rattle.ig_meaning.specs.Fault.{fault_of_making}
use Rattle.ig_meaning.specs.Making.{Making, Refused, Unfinished, Planned, New, Continues}
use Rattle.ig_meaning.specs.QueueActs.{IsContinuation, new_files, put_of}
use Rattle.ig_record.specs.Stage.{task_count}
use Rattle.ig_record.specs.declared.stage.Stage.{Stage}
use Rattle.ig_rule.specs.Sound.{Legal}
use Rattle.ig_rule.specs.Went.{Went}
use Rattle.ig_rule.specs.WentOn.{went_quiet_legal, went_then}
use Rattle.ig_rule.specs.declared.role.Role.TheVariants.{Maker}
use Rattle.ig_task.specs.Facts.{stage_reader}
use Rattle.ig_task.specs.Pipeline.{is_allowed}
use Rattle.ig_task.specs.declared.pipeline.Pipeline.{Pipeline}
use Rattle.ig_stage.specs.Errors.{ending_of_make, make_error_of}
use Rattle.ig_stage.specs.Looking.{AllListTruly, IsErrorOf, Looks}
use Rattle.ig_stage.specs.Made.{AreMaking, EndsSo, EndsTruly, LooksFirst, MakesBy, MakesTruly}
use Rattle.ig_stage.specs.Open.{Does, DoesSome, maker_rule}
use Rattle.ig_stage.specs.declared.enqueuing.Made.{Made}
use Rattle.ig_stage.specs.declared.enqueuing.Made.TheVariants as made
use Rattle.ig_stage.specs.declared.error.MakeError.{MakeError}
use Rattle.ig_stage.proofs.Lookings.{AllListTruly-append, AllLook-append, look_only}
use Rattle.ig_stage.proofs.OthersLooks.{look_in_parts}

-- own steps that only look
pub quiet_first : (making : Making) (ms : List Moment) → AllLook ms → LooksFirst making ms
quiet_first (Refused r) ms quiet = quiet
quiet_first Unfinished ms quiet = quiet
quiet_first (Planned s after) ms quiet = quiet
quiet_first (New n s after) ms quiet = tt
quiet_first (Continues n s after) ms quiet = tt

first_after : (making : Making) (ms more : List Moment) → AllLook ms → LooksFirst making more → LooksFirst making (ms ++ more)
first_after (Refused r) ms more quiet looks = AllLook-append ms more quiet looks
first_after Unfinished ms more quiet looks = AllLook-append ms more quiet looks
first_after (Planned s after) ms more quiet looks = AllLook-append ms more quiet looks
first_after (New n s after) ms more quiet looks = tt
first_after (Continues n s after) ms more quiet looks = tt

-- true listings, and then those of what went on
ends_truly_after : (ending : Ending) (ms more : List Moment) → AllListTruly ms → EndsTruly ending more → EndsTruly ending (ms ++ more)
ends_truly_after (Refuses r) ms more truly then = AllListTruly-append ms more truly then
ends_truly_after StoreFailed ms more truly then = tt
ends_truly_after NoMemory ms more truly then = tt
ends_truly_after Finished ms more truly then = tt

truly_after : (result : Result Made MakeError) (ms more : List Moment) → AllListTruly ms → MakesTruly result more → MakesTruly result (ms ++ more)
truly_after (Ok m) ms more truly then = tt
truly_after (Err e) ms more truly then = ends_truly_after (ending_of_make e) ms more truly then

ends_truly : (ending : Ending) (ms : List Moment) → AllListTruly ms → EndsTruly ending ms
ends_truly (Refuses r) ms truly = truly
ends_truly StoreFailed ms truly = tt
ends_truly NoMemory ms truly = tt
ends_truly Finished ms truly = tt

module _ (allows : Bool → Files → Act → Type 0) (q : List ℕ) where
  -- ---- looks first

  ends_after : (ending : Ending) (making : Making) (ms more : List Moment) → AllLook ms → EndsSo ending making more → EndsSo ending making (ms ++ more)
  ends_after (Refuses r) making ms more quiet e = (e.0, AllLook-append ms more quiet e.1)
  ends_after StoreFailed making ms more quiet e = e
  ends_after NoMemory making ms more quiet e = e
  ends_after Finished making ms more quiet e = e

  are_after : (result : Result Made MakeError) (making : Making) (ms more : List Moment) → AllLook ms → AreMaking q result making more → AreMaking q result making (ms ++ more)
  are_after (Ok m) making ms more quiet are = are
  are_after (Err e) making ms more quiet are = ends_after (ending_of_make e) making ms more quiet are

  pub looks_then_makes : {T : Type 0} (making : List Moment → Making) (next : T → List Moment → Making) (old mid new : Log) (x : T) (result : Result Made MakeError)
      → Looks allows making next old mid (Ok x) → MakesBy allows q (next x) mid new result → MakesBy allows q making old new result
  looks_then_makes making next old mid new x result a b = record {
    ms = a.ms ++ b.ms;
    went = went_then allows old mid new a.ms b.ms a.went b.went;
    are = subst (λ (m : Making). AreMaking q result m (a.ms ++ b.ms)) (sym (a.made b.ms)) (are_after result (next x b.ms) a.ms b.ms a.quiet b.are);
    looks = subst (λ (m : Making). LooksFirst m (a.ms ++ b.ms)) (sym (a.made b.ms)) (first_after (next x b.ms) a.ms b.ms a.quiet b.looks);
    truly = λ look.
        let parts = look_in_parts allows old mid new a.ms b.ms a.went b.went look in
        truly_after result a.ms b.ms (a.truly parts.0) (b.truly parts.1);
  }

  -- a look failed
  error_ends : (making : List Moment → Making) (ms : List Moment) (ending : Ending) → AllLook ms → IsErrorOf making ms ending → EndsSo ending (making ms) ms
  error_ends making ms (Refuses r) quiet e = (ap making (sym (append-nil ms)) ∙ e [], quiet)
  error_ends making ms StoreFailed quiet e = ap fault_of_making e
  error_ends making ms NoMemory quiet e = tt
  error_ends making ms Finished quiet e = e

  pub looks_fail : {T : Type 0} (making : List Moment → Making) (next : T → List Moment → Making) (old new : Log) (e : MakeError) (result : Result Made MakeError)
      → result ≡ Err e → Looks allows making next old new (Err e) → MakesBy allows q making old new result
  looks_fail making next old new e result is a =
      subst (λ (r : Result Made MakeError). MakesBy allows q making old new r) (sym is)
      (record {
        ms = a.ms;
        went = a.went;
        are = error_ends making a.ms (ending_of_make e) a.quiet a.made;
        looks = quiet_first (making a.ms) a.ms a.quiet;
        truly = λ look. ends_truly (ending_of_make e) a.ms (a.truly look);
      })

  -- ---- then puts

  -- a put failed
  put_ends : (e : StoreError) (making : Making) (ms : List Moment) → fault_of_making making ≡ None → EndsSo (ending_of_make (make_error_of e)) making ms
  put_ends store.Failed making ms none = none
  put_ends store.Memory making ms none = tt

  put_truly : (e : StoreError) (ms : List Moment) → EndsTruly (ending_of_make (make_error_of e)) ms
  put_truly store.Failed ms = tt
  put_truly store.Memory ms = tt

  pub puts_fail : (making : List Moment → Making) (old new : Log) (e : StoreError) (made : MakeError) (result : Result Made MakeError) → result ≡ Err made → made ≡ make_error_of e
      → ((ms : List Moment) → fault_of_making (making ms) ≡ None) → ((ms : List Moment) → LooksFirst (making ms) ms) → DoesSome allows old new → MakesBy allows q making old new result
  puts_fail making old new e made result is same none first d =
      subst (λ (r : Result Made MakeError). MakesBy allows q making old new r) (sym (is ∙ ap Err same))
      (record { ms = d.ms; went = d.went; are = put_ends e (making d.ms) d.ms (none d.ms); looks = first d.ms; truly = λ look. put_truly e d.ms })

  -- a new stage was made
  pub new_made : (old new : Log) (n tasks : ℕ) (s : Stage) → tasks ≡ task_count s → Does allows old new (map put_of (new_files q n s))
      → MakesBy allows q (New n s) old new (Ok (made.New n s.kind tasks))
  new_made old new n tasks s count d = record { ms = d.ms; went = d.went; are = (d.are, ap (λ k. Some (made.New n s.kind k)) (sym count)); looks = tt; truly = λ look. tt }

  -- the last stage was made to its end
  pub last_made : (making : List Moment → Making) (old new : Log) (n tasks : ℕ) (s : Stage) → ((ms : List Moment) → making ms ≡ Continues n s ms) → tasks ≡ task_count s
      → (acts : List Act) × Does allows old new acts × IsContinuation q n s acts → MakesBy allows q making old new (Ok (made.Continued n s.kind tasks))
  last_made making old new n tasks s is count d = record {
    ms = d.1.ms;
    went = d.1.went;
    are =
        subst (λ (m : Making). AreMaking q (Ok (made.Continued n s.kind tasks)) m d.1.ms) (sym (is d.1.ms))
        (subst (IsContinuation q n s) (sym d.1.are) d.2, ap (λ k. Some (made.Continued n s.kind k)) (sym count));
    looks = subst (λ (m : Making). LooksFirst m d.1.ms) (sym (is d.1.ms)) tt;
    truly = λ look. tt;
  }

-- ---- while a maker looks its log stays legal
pub looks_legal : {T : Type 0} (rule : Pipeline) (q : List ℕ) (making : List Moment → Making) (next : T → List Moment → Making) (old new : Log) (result : Result T MakeError)
    → rule ≡ maker_rule q → Looks (is_allowed rule) making next old new result → Legal stage_reader q old → Legal stage_reader q new
looks_legal rule q making next old new result is looks =
    went_quiet_legal stage_reader Maker q old new looks.ms (subst (λ r. Went (is_allowed r) old new looks.ms) is looks.went) (look_only looks.ms looks.quiet)
