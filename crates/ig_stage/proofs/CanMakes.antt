-- A making in a queue that nothing keeps from its end is not refused.
use Rattle.std.proofs.Common.{arith, ◌≡◌, ◌≤◌, ◌<◌, ◌^◌, ◌∙◌, ℕ, zero, suc, Bool, true, false, List, [], ◌∷◌, ◌++◌, append_assoc, append-nil, length, Option, None, Some, is_some, slice_get, Result, Ok, Err, IfErr, refl, ap, sym, subst, true≢false}
use Rattle.std.specs.Str.{bytes_eq}
use Rattle.std.proofs.lemmas.Slice.Eq.{bytes_eq-Decides}
use Rattle.ig_defs.specs.declared.step.Act.{Act}
use Rattle.ig_defs.specs.declared.step.Act.TheVariants as act
use Rattle.ig_defs.specs.Files.{Files, file_at}
use Rattle.ig_defs.specs.Log.{Log, files_of}
use Rattle.ig_defs.specs.Own.{Moment, steps_since}
use Rattle.ig_defs.specs.QueueNames.{stage_fits}
use Rattle.ig_meaning.specs.Ending.{Ending, Finished, Refuses, StoreFailed, NoMemory}
use Rattle.ig_meaning.specs.Making.{Making, Continues, New, given_by, lists, reads, where_it_looks}
use Rattle.ig_meaning.specs.Plan.{info_path}
use Rattle.ig_meaning.specs.QueueMaking.{if_found, if_sealed, last_of, making_of_enqueue, making_of_last, making_of_new, making_of_queue, making_of_records, making_of_texts, record_count, record_path, seal_path, stages_dir}
use Rattle.ig_meaning.specs.Words.{Request}
use Rattle.ig_record.specs.declared.stage.Stage.{Stage}
use Rattle.ig_rule.specs.QueueFiles.{Seal}
use Rattle.ig_space.specs.Path.{is_path}
use Rattle.ig_task.specs.Maker.{KnowsStages}
use Rattle.ig_task.specs.Pipeline.{is_allowed}
use Rattle.ig_stage.specs.CanMake.{AllOwn, CanMake, CanMakeNew, IsNoRefusal, continues_last, makes_new}
use Rattle.ig_stage.specs.Errors.{ending_of_make}
use Rattle.ig_stage.specs.Looking.{ListsTruly}
use Rattle.ig_stage.specs.Made.{EndsSo, EndsTruly, MakesIn}
use Rattle.ig_stage.specs.Open.{maker_rule}
use Rattle.ig_stage.specs.Recorded.{LacksSeal}
use Rattle.ig_stage.specs.declared.enqueuing.Made.{Made}
use Rattle.ig_stage.specs.declared.error.MakeError.{MakeError}
use Rattle.ig_stage.proofs.CountedRecords.{Gives, counts_all, gives_length, gives_more, reads_all, record_below, stages_path, stages_short, text_at}
use Rattle.ig_stage.proofs.Enqueues.{new_few}
use Rattle.ig_stage.proofs.KnownRecords.{in_queue}
use Rattle.ig_stage.proofs.KnownStages.{held}
use Rattle.ig_stage.proofs.Lookings.{look_only}
use Rattle.ig_stage.proofs.NotRefused.{Finds, IsFree, finds_from, free_not_refused, free_request, free_where}
use Rattle.ig_stage.proofs.OthersLooks.{finds_same, own_look}
use Rattle.ig_stage.proofs.SameStages.{AreRead, length_read, planned_same, unfit_same}

free_found : (path : List ℕ) (found : Option (List ℕ)) (text : List ℕ) (next : List ℕ → Making) → found ≡ Some text → IsFree (next text) → IsFree (if_found path found next)
free_found path found text next is free = subst (λ o. IsFree (if_found path o next)) (sym is) free

seam : {A : Type 0} (first : List A) (x : A) (rest : List A) → slice_get (first ++ x ∷ rest) (length first) ≡ Some x
seam [] x rest = refl
seam (y ∷ first) x rest = seam first x rest

-- ---- the records

module _ (q : List ℕ) (stages : List Stage) (files : Files) (k : KnowsStages q stages files) (next : List Stage → List Moment → Making)
    (free_next : (read : List Stage) → AreRead 0 read stages → (ms : List Moment) → Finds files ms → IsFree (next read ms)) where
  free_texts : (texts : List (List ℕ)) (first : List Stage) (ms : List Moment) → Gives 0 texts first → first ++ [] ≡ stages → Finds files ms → IsFree (making_of_records q next zero texts ms)
  free_texts texts first ms gives whole finds =
      let all = reads_all q 0 texts first gives in
      subst (λ given. IsFree (making_of_texts next given ms)) (sym all.are)
      (free_next all.stages (subst (AreRead 0 all.stages) (sym (append-nil first) ∙ whole) all.same) ms finds)

  free_records : (rest : List Stage) (left : ℕ) (texts : List (List ℕ)) (first : List Stage) (ms : List Moment) → left ≡ length rest → Gives 0 texts first → first ++ rest ≡ stages → Finds files ms
      → IsFree (making_of_records q next left texts ms)
  free_records [] zero texts first ms long gives whole finds = free_texts texts first ms gives whole finds
  free_records [] (suc left) texts first ms long gives whole finds = absurd (omega (arith, long))
  free_records (s ∷ rest) zero texts first ms long gives whole finds = absurd (omega (arith, long))
  free_records (s ∷ rest) (suc left) texts first [] long gives whole finds = tt
  free_records (s ∷ rest) (suc left) texts first (m ∷ ms) long gives whole finds =
      let n = length texts in
      let at : slice_get stages n ≡ Some s = ap (slice_get stages) (gives_length 0 texts first gives) ∙ ap (λ all. slice_get all (length first)) (sym whole) ∙ seam first s rest in
      let t = text_at q stages files k n s at in
      let there : file_at m.files (record_path q n) ≡ Some t.text =
      ap (λ now. file_at now (record_path q n)) finds.0 ∙ (held (stage_fits n) (file_at files (record_path q n)) t.text t.there).1 in
      free_where (reads (record_path q n) m.act) (if_found (record_path q n) (file_at m.files (record_path q n)) (λ text. making_of_records q next left (texts ++ text ∷ []) ms))
      (λ looks. free_found (record_path q n) (file_at m.files (record_path q n)) t.text (λ text. making_of_records q next left (texts ++ text ∷ []) ms) there
      (free_records rest left (texts ++ t.text ∷ []) (first ++ s ∷ []) ms (omega (arith, long)) (gives_more 0 n texts first t.text s gives (omega arith) t.read)
      (append_assoc first (s ∷ []) rest ∙ whole) finds.2))

  module _ (path : is_path q ≡ true) (short : length q ≤ 100) where
    free_listed : (now : Files) (a : Act) (ms : List Moment) → now ≡ files → ListsTruly now a → Finds files ms
        → IsFree (where_it_looks (lists (stages_dir q) a) (making_of_records q next (record_count (given_by a)) [] ms))
    free_listed now (act.List dir given) ms same truly finds =
        free_where (bytes_eq (stages_dir q) dir) (making_of_records q next (record_count given) [] ms)
        (λ looks.
        let is : dir ≡ stages_dir q = sym ((bytes_eq-Decides (stages_dir q) dir).0 looks) in
        let count = counts_all q stages files k (stages_dir q) given refl (stages_path q path short) (stages_short q short) (subst (λ f. ListsTruly f (act.List (stages_dir q) given)) same (subst (λ d. ListsTruly now (act.List d given)) is truly)) in
        free_records stages (record_count given) [] [] ms count tt refl finds)
    free_listed now (act.Read other) ms same truly finds = tt
    free_listed now (act.Put other bytes) ms same truly finds = tt
    free_listed now (act.Move from to) ms same truly finds = tt
    free_listed now (act.Remove other) ms same truly finds = tt

    free_queue : (ms : List Moment) → Finds files ms → IsFree (making_of_queue q next ms)
    free_queue [] finds = tt
    free_queue (m ∷ ms) finds = free_listed m.files m.act ms finds.0 finds.1 finds.2

-- ---- the seal of the last

free_sealed : (found : Bool) (going : Making) (n : ℕ) (s : Stage) (ms : List Moment) → (found ≡ true → IsFree going) → IsFree (if_sealed found going (Continues n s ms))
free_sealed true going n s ms free = free refl
free_sealed false going n s ms free = tt

-- the last of so many stages has its seal
abbrev HasSeal : List ℕ → Files → ℕ → Type 0
HasSeal q files count = (n : ℕ) → suc n ≡ count → is_some (file_at files (seal_path q n)) ≡ true

free_last : (q : List ℕ) (files : Files) (next : List Stage → List Moment → Making) (read : List Stage) (ms : List Moment) → Finds files ms
    → (HasSeal q files (length read) → (ms : List Moment) → Finds files ms → IsFree (next read ms)) → IsFree (making_of_last q next read ms)
free_last q files next [] ms finds free = free (λ n none. absurd (omega (arith, none))) ms finds
free_last q files next (s ∷ read) [] finds free = tt
free_last q files next (s ∷ read) (m ∷ ms) finds free =
    let path = seal_path q (length read) in
    free_where (reads path m.act) (if_sealed (is_some (file_at m.files path)) (next (s ∷ read) ms) (Continues (length read) (last_of s read) ms))
    (λ looks. free_sealed (is_some (file_at m.files path)) (next (s ∷ read) ms) (length read) (last_of s read) ms
    (λ there. free
    (λ n last.
    let number : n ≡ length read = omega (arith, last) in
    ap (λ j. is_some (file_at files (seal_path q j))) number ∙ ap (λ now. is_some (file_at now path)) (sym finds.0) ∙ there)
    ms finds.2))

-- ---- by what can be made

-- the last stage has its seal, and lacks it
sealed_and_not : (q : List ℕ) (stages : List Stage) (files : Files) (count : ℕ) → KnowsStages q stages files → LacksSeal q stages files → count ≡ length stages → HasSeal q files count → ⊥
sealed_and_not q stages files count k lacks same has =
    let n = lacks.number in
    let t = record_below q stages files k n (omega (arith, lacks.last)) in
    let fits : stage_fits n ≡ true = (held (stage_fits n) (file_at files (record_path q n)) t.0 t.1).0 in
    let none : file_at files (seal_path q n) ≡ None = sym (in_queue q files (Seal n) (file_at files (seal_path q n)) fits refl) ∙ lacks.none in
    true≢false (sym (has n (lacks.last ∙ sym same)) ∙ ap is_some none)

free_new : (q : List ℕ) (request : Request) (stages : List Stage) (files : Files) (c : CanMakeNew q request stages files) (read : List Stage) → AreRead 0 read stages → (ms : List Moment) → Finds files ms
    → IsFree (making_of_new request read ms)
free_new q request stages files c read same ms finds =
    let few : length read < 10 ^ 4 = omega (arith, length_read 0 read stages same, c.few) in
    subst IsFree (sym (new_few request read few ms))
    (free_request read (New (length read)) (λ s after. tt) files request c.stage c.no_info (unfit_same read stages c.stage same ∙ c.fits) c.no_names ms
    (planned_same read stages same request (file_at files (info_path request.source)) ∙ c.planned) finds)

free_enqueue : (q : List ℕ) (request : Request) (files : Files) → is_path q ≡ true → length q ≤ 100 → CanMake q request files → (ms : List Moment) → Finds files ms → IsFree (making_of_enqueue q request ms)
free_enqueue q request files path short (continues_last stages k lacks) ms finds =
    free_queue q stages files k (making_of_last q (making_of_new request))
    (λ read same after then. free_last q files (making_of_new request) read after then
    (λ has rest those. absurd (sealed_and_not q stages files (length read) k lacks (length_read 0 read stages same) has)))
    path short ms finds
free_enqueue q request files path short (makes_new stages k c) ms finds =
    free_queue q stages files k (making_of_last q (making_of_new request))
    (λ read same after then. free_last q files (making_of_new request) read after then
    (λ has rest those. free_new q request stages files c read same rest those))
    path short ms finds

-- ---- what the making did

module _ (q : List ℕ) (request : Request) (old new : Log) (path : is_path q ≡ true) (short : length q ≤ 100) (can : CanMake q request (files_of old)) (own : AllOwn (steps_since old new)) where
  ends_well : (error : Ending) (result : Result Made MakeError) (m : MakesIn q request old new result) → EndsSo error (making_of_enqueue q request m.ms) m.ms → EndsTruly error m.ms → IsNoRefusal error
  ends_well (Refuses r) result m are truly =
      let same = finds_same (is_allowed (maker_rule q)) old new m.ms m.went (look_only m.ms are.1) (own_look (steps_since old new) own) in
      free_not_refused (making_of_enqueue q request m.ms) r (free_enqueue q request (files_of old) path short can m.ms (finds_from (files_of old) m.ms same truly)) are.0
  ends_well Finished result m are truly = tt
  ends_well StoreFailed result m are truly = tt
  ends_well NoMemory result m are truly = tt

  pub can_make : (result : Result Made MakeError) → MakesIn q request old new result → IfErr result (λ e. IsNoRefusal (ending_of_make e))
  can_make (Ok made) m = tt
  can_make (Err e) m = ends_well (ending_of_make e) (Err e) m m.are (m.truly (own_look (steps_since old new) own))
