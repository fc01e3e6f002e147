-- What the read of a stage's record leads to.
use Rattle.std.proofs.Common.{◌≡◌, ◌<◌, ◌^◌, ◌⊎◌, ℕ, Bool, true, List, [], ◌∷◌, ◌++◌, All, map, option_to_list, Option, None, Some, Result, Ok, Err, refl, ap, sym, subst, ◌∙◌, inl, inr}
use Rattle.std.proofs.lemmas.List.Elements.{All-head}
use Rattle.std.specs.List.Sorted.{IsStrictlySortedBy}
use Rattle.std.specs.Ordering.{nat_cmp}
use Rattle.ig_defs.specs.declared.error.StoreError.{StoreError}
use Rattle.ig_defs.specs.declared.error.StoreError.TheVariants as store
use Rattle.ig_defs.specs.declared.step.Act.{Act}
use Rattle.ig_defs.specs.Files.{Files}
use Rattle.ig_defs.specs.Log.{Log}
use Rattle.ig_record.specs.declared.stage.Stage.{Stage}
use Rattle.ig_record.specs.Reading.{record_in}
use Rattle.ig_record.specs.Sound.{is_sound}
use Rattle.ig_meaning.specs.QueueMaking.{record_path}
use Rattle.ig_defs.specs.TurnLaws.{idled_nothing}
use Rattle.ig_defs.specs.Turns.{Idled}
use Rattle.ig_worker.specs.declared.error.WorkerError.{WorkerError}
use Rattle.ig_worker.specs.declared.error.WorkerError.TheVariants.{Absent, BadRecord, Failed, Memory}
use Rattle.ig_worker.specs.declared.next.Next.{Next}
use Rattle.ig_worker.specs.declared.notes.Notes.{Notes}
use Rattle.ig_worker.specs.declared.phase.Phase.{Phase}
use Rattle.ig_worker.specs.declared.phase.Phase.TheVariants.{Broken}
use Rattle.ig_worker.specs.declared.phase.Then.{Then}
use Rattle.ig_worker.specs.declared.turn.Turn.TheVariants.{On}
use Rattle.ig_defs.specs.Answers.{Answer, Answered, Found, IsAnswered, Names, Put, Reads, WasThere}
use Rattle.ig_worker.specs.Errors.{worker_error_of}
use Rattle.ig_worker.specs.Fit.{AreFitNotes, AreStages, IsStage, number_of}
use Rattle.ig_worker.specs.Learning.{GivesRecord, GivesStage}
use Rattle.ig_worker.specs.Steps.{Made, turn_at}
use Rattle.ig_worker.specs.Led.{Goes, Led}
use Rattle.ig_worker.specs.Moves.{Move, ReadsRecord, moves}
use Rattle.ig_worker.specs.Places.{learning, learnt, learnt_by, stands}
use Rattle.ig_worker.specs.Stages.{Known, with_stage}
use Rattle.ig_worker.proofs.Exits.{Moves}
use Rattle.ig_worker.proofs.Learns.{turn_learning}
use Rattle.ig_worker.proofs.NotedStages.{each_with}

-- ---- the read
-- memory ran out before it
pub record_nothing : (allows : Bool → Files → Act → Type 0) (log : Log) (q : List ℕ) (n : ℕ) (result : Result Stage WorkerError) (e : WorkerError) → result ≡ Err e → e ≡ Memory → GivesRecord allows log log q n result
record_nothing allows log q n result e is memory = subst (GivesRecord allows log log q n) (sym (is ∙ ap Err memory)) (inl (idled_nothing allows log))

module _ (allows : Bool → Files → Act → Type 0) (old new : Log) (q : List ℕ) (n : ℕ) where
  failed_by : (e : StoreError) → Answered allows old new (Reads (record_path q n)) (Err e) → GivesRecord allows old new q n (Err (worker_error_of e))
  failed_by store.Failed (inl idled) = idled
  failed_by store.Failed (inr made) = absurd made.changes
  failed_by store.Memory answered = inl answered

  -- it failed
  pub record_failed : (path : List ℕ) (result : Result Stage WorkerError) (e : StoreError) (made : WorkerError) → path ≡ record_path q n → result ≡ Err made → made ≡ worker_error_of e
      → Answered allows old new (Reads path) (Err e) → GivesRecord allows old new q n result
  record_failed path result e made at is so answered =
      subst (GivesRecord allows old new q n) (sym (is ∙ ap Err so)) (failed_by e (subst (λ p. Answered allows old new (Reads p) (Err e)) at answered))

  parsed_by : (text : List ℕ) (result : Result Stage WorkerError) → IsAnswered allows old new (Reads (record_path q n)) (Found (Some text)) → GivesStage (record_path q n) n text result → GivesRecord allows old new q n result
  parsed_by text (Ok s) a given = (text, a, given)
  parsed_by text (Err (Absent path)) a given = absurd given
  parsed_by text (Err (BadRecord path member)) a given = (text, a, given)
  parsed_by text (Err Failed) a given = absurd given
  parsed_by text (Err Memory) a given = inr (Found (Some text), a)

  -- a text was found
  pub record_found : (path text : List ℕ) (result : Result Stage WorkerError) → path ≡ record_path q n → IsAnswered allows old new (Reads path) (Found (Some text)) → GivesStage path n text result
      → GivesRecord allows old new q n result
  record_found path text result at a given =
      parsed_by text result (subst (λ p. IsAnswered allows old new (Reads p) (Found (Some text))) at a) (subst (λ p. GivesStage p n text result) at given)

  -- nothing was found
  pub record_missed : (path : List ℕ) (found : Option (List ℕ)) → path ≡ record_path q n → found ≡ None → IsAnswered allows old new (Reads path) (Found found) → GivesRecord allows old new q n (Err (Absent path))
  record_missed path found at none a =
      (at, subst (λ p. IsAnswered allows old new (Reads p) (Found None)) at (subst (λ bytes. IsAnswered allows old new (Reads path) (Found bytes)) none a))

-- ---- the move
-- the first of the numbers is taken
pub taken : (all rest : List ℕ) (r : Option ℕ) (n : ℕ) → all ≡ option_to_list r ++ rest → r ≡ Some n → all ≡ n ∷ rest
taken all rest r n first is = first ∙ ap (λ front. option_to_list front ++ rest) is

abbrev record_move : Notes → ℕ → List ℕ → Then → Option (List ℕ) → Move
record_move notes n unread after found = moves (Reads (record_path notes.plan.queue n)) (Found found) (learnt notes n unread after found) []

-- the notes, with these stages
abbrev pub knowing : Notes → Known → Notes
knowing notes known = record { plan = notes.plan; known = known; at = notes.at; tried = notes.tried }

learnt_stage : (notes : Notes) (n : ℕ) (unread : List ℕ) (after : Then) (text : List ℕ) (s : Stage) (known : Known) (phase : Phase) → record_in n text ≡ Some s → known ≡ with_stage n s notes.known
    → phase ≡ learning known unread after → learnt notes n unread after (Some text) ≡ stands (knowing notes known) phase
learnt_stage notes n unread after text s known phase is so next =
    ap (learnt_by notes n unread after text) is ∙ ap (λ (k : Known). stands (knowing notes k) (learning k unread after)) (sym so) ∙ ap (stands (knowing notes known)) (sym next)

pub goes_to_learnt : (notes : Notes) (all : List ℕ) (n : ℕ) (unread : List ℕ) (after : Then) (text : List ℕ) (s : Stage) (known : Known) (phase : Phase) → all ≡ n ∷ unread → record_in n text ≡ Some s → known ≡ with_stage n s notes.known
    → phase ≡ learning known unread after → Goes (λ m. ReadsRecord notes all after m) (knowing notes known) (record { phase = phase; turn = On })
goes_to_learnt notes all n unread after text s known phase first is so next = record {
  move = record_move notes n unread after (Some text);
  leads = subst (λ numbers. ReadsRecord notes numbers after (record_move notes n unread after (Some text))) (sym first) (Some text, refl);
  next = learnt_stage notes n unread after text s known phase is so next;
  turn = ap turn_at next ∙ turn_learning known unread after;
}

module _ (allows : Bool → Files → Act → Type 0) (old new : Log) (notes : Notes) (all : List ℕ) (n : ℕ) (unread : List ℕ) (after : Then) (first : all ≡ n ∷ unread) where
  made : (found : Option (List ℕ)) → IsAnswered allows old new (Reads (record_path notes.plan.queue n)) (Found found) → Made allows old new (λ m. ReadsRecord notes all after m) (record_move notes n unread after found)
  made found a = record {
    answered = a;
    leads = subst (λ numbers. ReadsRecord notes numbers after (record_move notes n unread after found)) (sym first) (found, refl);
  }

  reads : Moves allows old new (Reads (record_path notes.plan.queue n)) (λ m. ReadsRecord notes all after m)
  reads (Found found) a = (record_move notes n unread after found, made found a)
  reads (Names given) a = absurd a.takes
  reads Put a = absurd a.takes
  reads (WasThere there) a = absurd a.takes

  stopped : Idled allows old new ⊎ ((answer : Answer) × IsAnswered allows old new (Reads (record_path notes.plan.queue n)) answer)
      → Idled allows old new ⊎ ((m : Move) × Made allows old new (λ m. ReadsRecord notes all after m) m)
  stopped (inl idled) = inl idled
  stopped (inr read) = inr (reads read.0 read.1)

  led_by : (now : Notes) (e : WorkerError) → GivesRecord allows old new notes.plan.queue n (Err e) → Led allows old new (λ m. ReadsRecord notes all after m) notes now (Err e)
  led_by now (Absent path) given = (record_move notes n unread after None, made None given.1, ap (λ p. stands notes (Broken (Absent p))) (sym given.0))
  led_by now (BadRecord path member) given = (
    record_move notes n unread after (Some given.0),
    made (Some given.0) given.1,
    ap (learnt_by notes n unread after given.0) given.2.2 ∙ (λ i. stands notes (Broken (BadRecord (sym given.2.0 i) (sym given.2.1 i)))),
  )
  led_by now Failed given = inl given
  led_by now Memory given = stopped given

  -- the read gave no stage
  pub led_unlearnt : (now : Notes) (result : Result Next WorkerError) (e made : WorkerError) → result ≡ Err made → made ≡ e → GivesRecord allows old new notes.plan.queue n (Err e)
      → Led allows old new (λ m. ReadsRecord notes all after m) notes now result
  led_unlearnt now result e made is so given = subst (Led allows old new (λ m. ReadsRecord notes all after m) notes now) (sym (is ∙ ap Err so)) (led_by now e given)

  -- it gave one, and then memory ran out
  pub led_unnoted : (now : Notes) (s : Stage) (result : Result Next WorkerError) (e : WorkerError) → result ≡ Err e → e ≡ Memory → GivesRecord allows old new notes.plan.queue n (Ok s)
      → Led allows old new (λ m. ReadsRecord notes all after m) notes now result
  led_unnoted now s result e is memory given =
      subst (Led allows old new (λ m. ReadsRecord notes all after m) notes now) (sym (is ∙ ap Err memory)) (inr (record_move notes n unread after (Some given.0), made (Some given.0) given.1))

  -- it is noted
  pub led_to_learnt : (s : Stage) (known : Known) (phase : Phase) → GivesRecord allows old new notes.plan.queue n (Ok s) → known ≡ with_stage n s notes.known → phase ≡ learning known unread after
      → Led allows old new (λ m. ReadsRecord notes all after m) notes (knowing notes known) (Ok (record { phase = phase; turn = On }))
  led_to_learnt s known phase given so next = (
    record_move notes n unread after (Some given.0),
    made (Some given.0) given.1,
    learnt_stage notes n unread after given.0 s known phase given.2 so next,
    ap turn_at next ∙ turn_learning known unread after,
  )

-- ---- what is kept fits
pub noted_stages : (known new : Known) (all : List ℕ) (n : ℕ) (unread : List ℕ) (s : Stage) → AreStages known → All (λ k. k < 10 ^ 4) all → all ≡ n ∷ unread → is_sound s ≡ true → new ≡ with_stage n s known
    → IsStrictlySortedBy nat_cmp (map number_of new) → AreStages new
noted_stages known new all n unread s stages few first sound is ascending = record {
  each = subst (All IsStage) (sym is) (each_with IsStage n s known (record { few = All-head (λ k. k < 10 ^ 4) n unread (subst (All (λ k. k < 10 ^ 4)) first few); sound = sound }) stages.each);
  ascending = ascending;
}

pub fit_noted : (notes : Notes) (known : Known) → AreFitNotes notes → AreStages known → AreFitNotes (knowing notes known)
fit_noted notes known fit stages = record { plan = fit.plan; known = stages; at = fit.at; tried = fit.tried }
