-- What one own call leaves of a stage that is open, and one call after the other.
use Rattle.std.proofs.Common.{◌≡◌, ℕ, Bool, List, [], ◌∷◌, ◌++◌, Result, Ok, Err, IfOk, refl, ap, sym, subst, ◌∙◌, inl, inr}
use Rattle.std.specs.FinMap as map
use Rattle.ig_defs.specs.declared.step.Act.{Act}
use Rattle.ig_defs.specs.declared.step.Act.TheVariants as act
use Rattle.ig_defs.specs.declared.error.StoreError.{StoreError}
use Rattle.ig_defs.specs.declared.error.StoreError.TheVariants.{Failed, Memory}
use Rattle.ig_defs.specs.Files.{Files}
use Rattle.ig_defs.specs.Log.{Log, files_of, replay}
use Rattle.ig_defs.specs.Own.{Moment}
use Rattle.ig_rule.specs.Rule.{seal_text}
use Rattle.ig_rule.specs.QueueFiles.{Seal, path_of}
use Rattle.ig_rule.specs.Sound.{Legal}
use Rattle.ig_defs.specs.Turns.{Acted, Idled}
use Rattle.ig_defs.specs.TurnLaws.{files_then}
use Rattle.ig_rule.specs.Went.{WentList, WentPut}
use Rattle.ig_rule.specs.WentOn.{acted_legal, idled_legal, went_nothing, went_then, went_of}
use Rattle.ig_rule.specs.declared.role.Role.TheVariants.{Maker}
use Rattle.ig_record.specs.declared.stage.Stage.{Stage}
use Rattle.ig_meaning.specs.QueueActs.{acts_of}
use Rattle.ig_task.specs.Facts.{stage_reader}
use Rattle.ig_task.specs.Maker.{Others}
use Rattle.ig_task.specs.Pipeline.{is_allowed}
use Rattle.ig_task.specs.declared.pipeline.Pipeline.{Pipeline}
use Rattle.ig_stage.specs.Open.{AllNamed, Does, HasInfo, IsOpen, Makes, StaysOpen}
use Rattle.ig_stage.proofs.OpenKept.{KeepsOpen, PutKeeps, others_stay_open, seal_allowed}

-- ---- what was done

acts_of-append : (first then : List Moment) → acts_of (first ++ then) ≡ acts_of first ++ acts_of then
acts_of-append [] then = refl
acts_of-append (m ∷ first) then = ap (λ acts. m.act ∷ acts) (acts_of-append first then)

pub does_nothing : (allows : Bool → Files → Act → Type 0) (log : Log) → Does allows log log []
does_nothing allows log = record { ms = []; went = went_nothing allows log; are = refl }

pub does_one : (allows : Bool → Files → Act → Type 0) (old new : Log) (a : Act) → Acted allows old new a → Does allows old new (a ∷ [])
does_one allows old new a t = record { ms = record { files = replay (files_of old) t.others; act = a } ∷ []; went = went_of t; are = refl }

pub does_then : (allows : Bool → Files → Act → Type 0) (old mid new : Log) (first then : List Act) → Does allows old mid first → Does allows mid new then → Does allows old new (first ++ then)
does_then allows old mid new first then a b = record {
  ms = a.ms ++ b.ms;
  went = went_then allows old mid new a.ms b.ms a.went b.went;
  are = acts_of-append a.ms b.ms ∙ ap (λ acts. acts ++ acts_of b.ms) a.are ∙ ap (λ acts. first ++ acts) b.are;
}

-- ---- a put

pub put_as : (allows : Bool → Files → Act → Type 0) (old new : Log) (path bytes p b : List ℕ) (result : Result (Unit {0}) StoreError) → path ≡ p → bytes ≡ b
    → WentPut allows old new path bytes result → WentPut allows old new p b result
put_as allows old new path bytes p b result e f went =
    subst (λ at. WentPut allows old new at b result) e (subst (λ text. WentPut allows old new path text result) f went)

pub put_does : (allows : Bool → Files → Act → Type 0) (old new : Log) (path bytes : List ℕ) (result : Result (Unit {0}) StoreError)
    → WentPut allows old new path bytes result → IfOk result (λ done. Does allows old new (act.Put path bytes ∷ []))
put_does allows old new path bytes (Ok done) t = does_one allows old new (act.Put path bytes) t
put_does allows old new path bytes (Err e) t = tt

-- what holds once the file is put
pub put_leaves : (allows : Bool → Files → Act → Type 0) (P : Files → Type 0) (old new : Log) (path bytes : List ℕ) (result : Result (Unit {0}) StoreError)
    → ((files : Files) → P (map.insert files path bytes)) → WentPut allows old new path bytes result → IfOk result (λ done. P (files_of new))
put_leaves allows P old new path bytes (Ok done) holds t = subst P (sym (files_then t)) (holds (replay (files_of old) t.others))
put_leaves allows P old new path bytes (Err e) holds t = tt

-- ---- a stage that stays open

module _ (q : List ℕ) (n : ℕ) (s : Stage) where
  pub stays_same : (log : Log) → Legal stage_reader q log → IsOpen q n s (files_of log) → StaysOpen q n s log log
  stays_same log legal opened = record { legal = legal; is_open = opened; named = λ id h. h; info = λ h. h }

  pub stays_then : (old mid new : Log) → StaysOpen q n s old mid → StaysOpen q n s mid new → StaysOpen q n s old new
  stays_then old mid new a b = record {
    legal = b.legal;
    is_open = b.is_open;
    named = λ id h. b.named id (a.named id h);
    info = λ h. b.info (a.info h);
  }

  stays_as : (old new : Log) (files : Files) → Legal stage_reader q new → files_of new ≡ files → KeepsOpen q n s (files_of old) files → StaysOpen q n s old new
  stays_as old new files legal same k =
      let kept : KeepsOpen q n s (files_of old) (files_of new) = subst (KeepsOpen q n s (files_of old)) (sym same) k in
      record { legal = legal; is_open = kept.is_open; named = kept.named; info = kept.info }

  idled_stays : (old new : Log) → Idled (Others q) old new → Legal stage_reader q old → IsOpen q n s (files_of old) → StaysOpen q n s old new
  idled_stays old new t legal opened =
      stays_as old new _ (idled_legal stage_reader Maker q old new t legal) (files_then t) (others_stay_open q n s (files_of old) t.others t.by opened)

  listed_stays : (old new : Log) (dir : List ℕ) (given : List (List ℕ)) → Acted (Others q) old new (act.List dir given) → Legal stage_reader q old → IsOpen q n s (files_of old) → StaysOpen q n s old new
  listed_stays old new dir given t legal opened =
      stays_as old new _ (acted_legal stage_reader Maker q old new (act.List dir given) t tt legal) (files_then t) (others_stay_open q n s (files_of old) t.others t.by opened)

  put_stays : (old new : Log) (path bytes : List ℕ) → ((first files : Files) → KeepsOpen q n s first files → PutKeeps q n s first files path bytes)
      → Acted (Others q) old new (act.Put path bytes) → Legal stage_reader q old → IsOpen q n s (files_of old) → StaysOpen q n s old new
  put_stays old new path bytes keeps t legal opened =
      let now = others_stay_open q n s (files_of old) t.others t.by opened in
      let put = keeps (files_of old) (replay (files_of old) t.others) now in
      stays_as old new _ (acted_legal stage_reader Maker q old new (act.Put path bytes) t put.may legal) (files_then t) put.kept

  went_put_stays : (old new : Log) (path bytes : List ℕ) (result : Result (Unit {0}) StoreError) → ((first files : Files) → KeepsOpen q n s first files → PutKeeps q n s first files path bytes)
      → WentPut (Others q) old new path bytes result → Legal stage_reader q old → IsOpen q n s (files_of old) → StaysOpen q n s old new
  went_put_stays old new path bytes (Ok done) keeps t legal opened = put_stays old new path bytes keeps t legal opened
  went_put_stays old new path bytes (Err Failed) keeps (inl t) legal opened = idled_stays old new t legal opened
  went_put_stays old new path bytes (Err Failed) keeps (inr t) legal opened = put_stays old new path bytes keeps t legal opened
  went_put_stays old new path bytes (Err Memory) keeps t legal opened = idled_stays old new t legal opened

  went_list_stays : (old new : Log) (dir : List ℕ) (result : Result (List (List ℕ)) StoreError)
      → WentList (Others q) old new dir result → Legal stage_reader q old → IsOpen q n s (files_of old) → StaysOpen q n s old new
  went_list_stays old new dir (Ok given) t legal opened = listed_stays old new dir given t.acted legal opened
  went_list_stays old new dir (Err e) t legal opened = idled_stays old new t legal opened

  -- the seal
  seal_legal : (old new : Log) → Acted (Others q) old new (act.Put (path_of q (Seal n)) seal_text) → Legal stage_reader q old → IsOpen q n s (files_of old)
      → HasInfo s (files_of old) → AllNamed q n s (files_of old) → Legal stage_reader q new
  seal_legal old new t legal opened has named =
      let now = others_stay_open q n s (files_of old) t.others t.by opened in
      acted_legal stage_reader Maker q old new (act.Put (path_of q (Seal n)) seal_text) t
      (seal_allowed q n s (replay (files_of old) t.others) now.is_open (now.info has) (λ k below. now.named _ (named k below))) legal

  went_seal_legal : (old new : Log) (result : Result (Unit {0}) StoreError) → WentPut (Others q) old new (path_of q (Seal n)) seal_text result → Legal stage_reader q old → IsOpen q n s (files_of old)
      → HasInfo s (files_of old) → AllNamed q n s (files_of old) → Legal stage_reader q new
  went_seal_legal old new (Ok done) t legal opened has named = seal_legal old new t legal opened has named
  went_seal_legal old new (Err Failed) (inl t) legal opened has named = idled_legal stage_reader Maker q old new t legal
  went_seal_legal old new (Err Failed) (inr t) legal opened has named = seal_legal old new t legal opened has named
  went_seal_legal old new (Err Memory) t legal opened has named = idled_legal stage_reader Maker q old new t legal

  -- ---- under a maker's rule

  pub makes_stays : (rule : Pipeline) (log : Log) → Makes rule q n s log → StaysOpen q n s log log
  makes_stays rule log m = stays_same log m.legal m.is_open

  -- and the next part begins as this one
  pub makes_on : (rule next : Pipeline) (old new : Log) → next ≡ rule → Makes rule q n s old → StaysOpen q n s old new → Makes next q n s new
  makes_on rule next old new same m stays = record { is = same ∙ m.is; legal = stays.legal; is_open = stays.is_open }

  pub put_stays_open : (rule : Pipeline) (old new : Log) (path bytes : List ℕ) (result : Result (Unit {0}) StoreError)
      → ((first files : Files) → KeepsOpen q n s first files → PutKeeps q n s first files path bytes)
      → WentPut (is_allowed rule) old new path bytes result → Makes rule q n s old → StaysOpen q n s old new
  put_stays_open rule old new path bytes result keeps went m =
      went_put_stays old new path bytes result keeps (subst (λ (r : Pipeline). WentPut (is_allowed r) old new path bytes result) m.is went) m.legal m.is_open

  pub list_stays_open : (rule : Pipeline) (old new : Log) (dir : List ℕ) (result : Result (List (List ℕ)) StoreError)
      → WentList (is_allowed rule) old new dir result → Makes rule q n s old → StaysOpen q n s old new
  list_stays_open rule old new dir result went m =
      went_list_stays old new dir result (subst (λ (r : Pipeline). WentList (is_allowed r) old new dir result) m.is went) m.legal m.is_open

  pub seal_stays_legal : (rule : Pipeline) (old new : Log) (result : Result (Unit {0}) StoreError) → WentPut (is_allowed rule) old new (path_of q (Seal n)) seal_text result
      → Makes rule q n s old → HasInfo s (files_of old) → AllNamed q n s (files_of old) → Legal stage_reader q new
  seal_stays_legal rule old new result went m =
      went_seal_legal old new result (subst (λ (r : Pipeline). WentPut (is_allowed r) old new (path_of q (Seal n)) seal_text result) m.is went) m.legal m.is_open
