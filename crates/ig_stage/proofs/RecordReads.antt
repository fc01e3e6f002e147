-- Reading the records of a queue, one after the other.
use Rattle.std.proofs.Common.{arith, ◌≡◌, ◌<◌, ◌+◌, ◌-◌, ◌∙◌, ℕ, suc, Bool, List, [], ◌∷◌, ◌++◌, Option, None, Some, length, Result, Ok, Err, refl, ap, sym, subst}
use Rattle.ig_defs.specs.declared.step.Act.{Act}
use Rattle.ig_defs.specs.declared.step.Act.TheVariants as act
use Rattle.ig_defs.specs.Files.{Files, file_at}
use Rattle.ig_defs.specs.Log.{Log, files_of}
use Rattle.ig_defs.specs.Own.{Moment, steps_since}
use Rattle.ig_meaning.specs.Ending.{Ending, Finished, Refuses, StoreFailed, NoMemory}
use Rattle.ig_meaning.specs.Making.{Making, Refused, where_it_looks}
use Rattle.ig_meaning.specs.QueueMaking.{if_found, making_of_queue, making_of_records, making_of_texts, record_count, record_path, stages_dir, stages_of}
use Rattle.ig_meaning.specs.Refusal as refusal
use Rattle.ig_record.specs.declared.stage.Stage.{Stage}
use Rattle.ig_defs.specs.Turns.{Acted, Listed}
use Rattle.ig_task.specs.Pipeline.{is_allowed}
use Rattle.ig_task.specs.declared.pipeline.Pipeline.{Pipeline}
use Rattle.ig_stage.specs.Errors.{ending_of_make}
use Rattle.ig_stage.specs.Looking.{AreNames, IsErrorOf, IsMakingOf, Looks, OthersLook}
use Rattle.ig_stage.specs.Recorded.{AreNoRecords, GivesStages, LooksAtRecord, LooksAtRecords, ReadsOn}
use Rattle.ig_stage.specs.declared.error.MakeError.{MakeError}
use Rattle.ig_stage.specs.declared.error.MakeError.TheVariants.{Absent, Memory}
use Rattle.ig_stage.proofs.Lookings.{lists_it, looks_as, looks_error, looks_listed, looks_memory, looks_nowhere, looks_once, looks_then, reads_it}

-- the rule of a store does not change
pub under_rule : (rule now : Pipeline) (q : List ℕ) (n : ℕ) (old new : Log) (result : Result (List ℕ) MakeError) → now ≡ rule
    → LooksAtRecord (is_allowed now) q n old new result → LooksAtRecord (is_allowed rule) q n old new result
under_rule rule now q n old new result same = subst (λ r. LooksAtRecord (is_allowed r) q n old new result) same

pub all_under_rule : (rule now : Pipeline) (q : List ℕ) (n : ℕ) (old new : Log) (result : Result (List (List ℕ)) MakeError) → now ≡ rule
    → LooksAtRecords (is_allowed now) q n old new result → LooksAtRecords (is_allowed rule) q n old new result
all_under_rule rule now q n old new result same = subst (λ r. LooksAtRecords (is_allowed r) q n old new result) same

module _ (allows : Bool → Files → Act → Type 0) (q : List ℕ) where
  -- ---- one record

  -- what is looked at
  abbrev seen : (List Stage → List Moment → Making) → ℕ → List (List ℕ) → List Moment → Option (List ℕ) → Making
  seen next left texts rest found = if_found (record_path q (length texts)) found (λ text. making_of_records q next left (texts ++ text ∷ []) rest)

  looks_at : (next : List Stage → List Moment → Making) (left : ℕ) (texts : List (List ℕ)) (n : ℕ) (path : List ℕ) (files : Files) (rest : List Moment) (found : Option (List ℕ))
      → length texts ≡ n → path ≡ record_path q n → found ≡ file_at files path
      → making_of_records q next (suc left) texts (record { files = files; act = act.Read path } ∷ rest) ≡ seen next left texts rest found
  looks_at next left texts n path files rest found long is finds =
      let at : path ≡ record_path q (length texts) = is ∙ ap (record_path q) (sym long) in
      ap (λ b. where_it_looks b (seen next left texts rest (file_at files (record_path q (length texts))))) (reads_it (record_path q (length texts)) path at)
      ∙ ap (seen next left texts rest) (ap (file_at files) (sym at) ∙ sym finds)

  pub found_record : (n : ℕ) (old new : Log) (path text : List ℕ) → path ≡ record_path q n → Acted allows old new (act.Read path) → Some text ≡ file_at (files_of new) path
      → LooksAtRecord allows q n old new (Ok text)
  found_record n old new path text is acted found = λ next left texts long.
      looks_once allows (making_of_records q next (suc left) texts) (λ text. making_of_records q next left (texts ++ text ∷ [])) old new (Ok text) path acted
      (λ rest. looks_at next left texts n path (files_of new) rest (Some text) long is found)

  pub missed_record : (n : ℕ) (old new : Log) (path : List ℕ) → path ≡ record_path q n → Acted allows old new (act.Read path) → None ≡ file_at (files_of new) path
      → LooksAtRecord allows q n old new (Err (Absent path))
  missed_record n old new path is acted found = λ next left texts long.
      looks_once allows (making_of_records q next (suc left) texts) (λ text. making_of_records q next left (texts ++ text ∷ [])) old new (Err (Absent path)) path acted
      (λ rest. looks_at next left texts n path (files_of new) rest None long is found
      ∙ ap (λ p. Refused (refusal.Missing p)) (ap (record_path q) long ∙ sym is))

  -- ---- all of them

  pub reads_none : (count left : ℕ) (texts : List (List ℕ)) (log : Log) → left ≡ count → texts ≡ [] → ReadsOn allows q count left texts log log
  reads_none count left texts log all none = λ next.
      looks_nowhere allows (making_of_records q next count []) (λ (u : Unit {0}). making_of_records q next left texts) log (Ok tt)
      (λ rest. ap (λ n. making_of_records q next n [] rest) (sym all) ∙ ap (λ xs. making_of_records q next left xs rest) (sym none))

  -- one record more
  pub reads_more : (count k : ℕ) (texts : List (List ℕ)) (text : List ℕ) (all : List (List ℕ)) (old mid new : Log) → k < count → length texts ≡ k → ReadsOn allows q count (count - k) texts old mid
      → LooksAtRecord allows q k mid new (Ok text) → all ≡ texts ++ text ∷ [] → ReadsOn allows q count (count - (k + 1)) all old new
  reads_more count k texts text all old mid new below long so one whole = λ next.
      let left : count - k ≡ suc (count - (k + 1)) = omega (arith, below) in
      subst (λ xs. Looks {T = Unit {0}} allows (making_of_records q next count []) (λ u. making_of_records q next (count - (k + 1)) xs) old new (Ok tt)) (sym whole)
      (looks_as allows (making_of_records q next count []) (λ text. making_of_records q next (count - (k + 1)) (texts ++ text ∷ [])) (λ (u : Unit {0}). making_of_records q next (count - (k + 1)) (texts ++ text ∷ []))
      old new text tt (λ rest. refl)
      (looks_then allows (making_of_records q next count []) (λ (u : Unit {0}). making_of_records q next (suc (count - (k + 1))) texts) (λ text. making_of_records q next (count - (k + 1)) (texts ++ text ∷ []))
      old mid new tt (Ok text)
      (subst (λ m. Looks {T = Unit {0}} allows (making_of_records q next count []) (λ u. making_of_records q next m texts) old mid (Ok tt)) left (so next))
      (one next (count - (k + 1)) texts long)))

  -- a record was not read
  pub reads_fail : (count k : ℕ) (texts : List (List ℕ)) (old mid new : Log) (e : MakeError) (result : Result (List (List ℕ)) MakeError) → k < count → length texts ≡ k → result ≡ Err e
      → ReadsOn allows q count (count - k) texts old mid → LooksAtRecord allows q k mid new (Err e) → LooksAtRecords allows q count old new result
  reads_fail count k texts old mid new e result below long is so one = λ next.
      let left : count - k ≡ suc (count - (k + 1)) = omega (arith, below) in
      looks_error allows (making_of_records q next count []) (λ (text : List ℕ). making_of_records q next (count - (k + 1)) (texts ++ text ∷ [])) (λ texts. making_of_texts next (stages_of q 0 texts)) old new e result is
      (looks_then allows (making_of_records q next count []) (λ (u : Unit {0}). making_of_records q next (suc (count - (k + 1))) texts) (λ text. making_of_records q next (count - (k + 1)) (texts ++ text ∷ []))
      old mid new tt (Err e)
      (subst (λ m. Looks {T = Unit {0}} allows (making_of_records q next count []) (λ u. making_of_records q next m texts) old mid (Ok tt)) left (so next))
      (one next (count - (k + 1)) texts long))

  -- memory ran out once it was read
  pub reads_in_vain : (count k : ℕ) (texts : List (List ℕ)) (text : List ℕ) (old mid new : Log) (e : MakeError) (result : Result (List (List ℕ)) MakeError) → k < count → length texts ≡ k → result ≡ Err e → e ≡ Memory
      → ReadsOn allows q count (count - k) texts old mid → LooksAtRecord allows q k mid new (Ok text) → LooksAtRecords allows q count old new result
  reads_in_vain count k texts text old mid new e result below long is memory so one = λ next.
      looks_memory allows (making_of_records q next count []) (λ (u : Unit {0}). making_of_records q next (count - (k + 1)) (texts ++ text ∷ [])) (λ texts. making_of_texts next (stages_of q 0 texts)) old new tt e result is memory
      (reads_more count k texts text (texts ++ text ∷ []) old mid new below long so one refl next)

  -- all were read
  pub reads_all : (count k : ℕ) (texts : List (List ℕ)) (old new : Log) → k ≡ count → ReadsOn allows q count (count - k) texts old new → LooksAtRecords allows q count old new (Ok texts)
  reads_all count k texts old new end so = λ next.
      let none : count - k ≡ 0 = omega (arith, end) in
      looks_as allows (making_of_records q next count []) (λ (u : Unit {0}). making_of_records q next 0 texts) (λ texts. making_of_texts next (stages_of q 0 texts)) old new tt texts (λ rest. refl)
      (subst (λ m. Looks {T = Unit {0}} allows (making_of_records q next count []) (λ u. making_of_records q next m texts) old new (Ok tt)) none (so next))

  -- ---- the whole

  module _ (next : List Stage → List Moment → Making) where
    pub looks_queue : (old mid : Log) (dir : List ℕ) (given : List (List ℕ)) (count : ℕ) → dir ≡ stages_dir q → count ≡ record_count given → Listed allows old mid dir given
        → (OthersLook (steps_since old mid) → AreNames (files_of mid) dir given)
        → Looks {T = Unit {0}} allows (making_of_queue q next) (λ u. making_of_records q next count []) old mid (Ok tt)
    looks_queue old mid dir given count is counts listed names =
        looks_listed allows (making_of_queue q next) (λ (u : Unit {0}). making_of_records q next count []) old mid (Ok tt) dir given listed names
        (λ rest. ap (λ b. where_it_looks b (making_of_records q next (record_count given) [] rest)) (lists_it (stages_dir q) dir given is)
        ∙ ap (λ n. making_of_records q next n [] rest) (sym counts))

    pub records_fail : (old mid new : Log) (count : ℕ) (e : MakeError) (result : Result (List Stage) MakeError) → result ≡ Err e
        → Looks {T = Unit {0}} allows (making_of_queue q next) (λ u. making_of_records q next count []) old mid (Ok tt) → LooksAtRecords allows q count mid new (Err e)
        → Looks allows (making_of_queue q next) next old new result
    records_fail old mid new count e result is a b =
        looks_error allows (making_of_queue q next) (λ (texts : List (List ℕ)). making_of_texts next (stages_of q 0 texts)) next old new e result is
        (looks_then allows (making_of_queue q next) (λ (u : Unit {0}). making_of_records q next count []) (λ texts. making_of_texts next (stages_of q 0 texts)) old mid new tt (Err e) a (b next))

    no_stages : (ending : Ending) (given : Result (List Stage) refusal.Refusal) → AreNoRecords ending given → IsErrorOf (making_of_texts next given) [] ending
    no_stages (Refuses r) given e = λ rest. ap (λ g. making_of_texts next g rest) e
    no_stages NoMemory given e = tt
    no_stages StoreFailed given e = absurd e
    no_stages Finished given e = absurd e

    gives : (given : Result (List Stage) refusal.Refusal) (result : Result (List Stage) MakeError) → GivesStages result given → IsMakingOf (making_of_texts next given) next [] result
    gives given (Ok stages) e = λ rest. ap (λ g. making_of_texts next g rest) e
    gives given (Err e) h = no_stages (ending_of_make e) given h

    pub records_parsed : (old mid new : Log) (count : ℕ) (texts : List (List ℕ)) (result : Result (List Stage) MakeError)
        → Looks {T = Unit {0}} allows (making_of_queue q next) (λ u. making_of_records q next count []) old mid (Ok tt) → LooksAtRecords allows q count mid new (Ok texts)
        → GivesStages result (stages_of q 0 texts) → Looks allows (making_of_queue q next) next old new result
    records_parsed old mid new count texts result a b given =
        looks_then allows (making_of_queue q next) (λ texts. making_of_texts next (stages_of q 0 texts)) next old new new texts result
        (looks_then allows (making_of_queue q next) (λ (u : Unit {0}). making_of_records q next count []) (λ texts. making_of_texts next (stages_of q 0 texts)) old mid new tt (Ok texts) a (b next))
        (looks_nowhere allows (making_of_texts next (stages_of q 0 texts)) next new result (gives (stages_of q 0 texts) result given))
