-- What a listing of the stages tells: each removal that is recorded is known, or is still to be read.
use Rattle.std.specs.Prelude.{◌≡◌, ◌⊎◌, ◌≤◌, ◌<◌, ◌+◌, ◌^◌, ℕ, Bool, true, false, if◌then◌else◌, List, [], ◌∷◌, length, map, Option, None, Some, IsSome, is_some, Contains, codes, refl}
use Rattle.std.specs.Str.{bytes_eq}
use Rattle.std.specs.FinMap as maps
use Rattle.std.proofs.Common.{arith, inl, inr, ap, sym, subst, true≢false, ◌∙◌, length-append}
use Rattle.std.proofs.lemmas.Bool.{lt-ltb, ltb-true}
use Rattle.std.proofs.lemmas.Option.{none-some, same_Some}
use Rattle.std.proofs.lemmas.Slice.Eq.{bytes_eq-Decides}
use Rattle.ig_space.specs.ChunkNames.{is_path-segment}
use Rattle.ig_space.specs.Path.{is_path, is_segment, joined}
use Rattle.ig_space.specs.Segments.{is_path-joined}
use Rattle.ig_defs.specs.declared.step.Act.{Act}
use Rattle.ig_defs.specs.declared.step.Step.{Step}
use Rattle.ig_defs.specs.Calls.{ListsNames}
use Rattle.ig_defs.specs.Files.{Files, file_at}
use Rattle.ig_defs.specs.Log.{ByOthers, after, replay}
use Rattle.ig_defs.specs.Names.{IsNameIn, Stands, StandsThroughout}
use Rattle.ig_defs.specs.QueueNames.{stage_file, stage_fits}
use Rattle.ig_defs.specs.QueueNameLaws.{is_segment-stage_file, length-stage_file, stage_file-same}
use Rattle.ig_queue.specs.FilesAt.{record_path_is}
use Rattle.ig_record.specs.declared.stage.Stage.{Stage}
use Rattle.ig_meaning.specs.QueueMaking.{stage_named, stages_dir}
use Rattle.ig_rule.specs.Beside.{others_record_none}
use Rattle.ig_rule.specs.Facts.{Facts}
use Rattle.ig_rule.specs.Known.{KeptStage, RecordsRemoval}
use Rattle.ig_rule.specs.QueueFiles.{QueueFile, Record, fits, path_of, queue_of}
use Rattle.ig_rule.specs.QueueStays.{queue_stays}
use Rattle.ig_rule.specs.QueueSteps.{holds, queue_of-fits}
use Rattle.ig_rule.specs.Roles.{Allows}
use Rattle.ig_rule.specs.declared.role.Role.{Role}
use Rattle.ig_rule.specs.Sound.{Sound}
use Rattle.ig_rule.specs.SoundKept.{sound_kept}
use Rattle.ig_rule.specs.SoundNames.{has_record}
use Rattle.ig_rule.specs.Stages.{Records, stages_in}
use Rattle.ig_task.specs.Facts.{facts_of, stage_reader}
use Rattle.ig_task.specs.Kinds.{kinds}
use Rattle.ig_meaning.specs.Lists.{first_of-from, first_of-is}
use Rattle.ig_worker.specs.Keeping.Known.{KnowsStages, kept}
use Rattle.ig_worker.specs.Keeping.Lists.{first_in, in_cases, later_in, map_in, none_in, stage_in-among}
use Rattle.ig_worker.specs.Knows.{kept_of}
use Rattle.ig_worker.specs.Stages.{Known, stage_in, unknown_listed, with_unknown}

-- ---- the name of a record
-- it is that of this stage
pub record IsNameOf (name : List ℕ) (n : ℕ) : Type 0 where
  pub fits : stage_fits n ≡ true
  pub is : stage_file n ≡ name

named_by : (name : List ℕ) (k n : ℕ) (b : Bool) → bytes_eq (stage_file k) name ≡ b → k < 10 ^ 4 → (if b then Some k else None) ≡ Some n → IsNameOf name n
named_by name k n true e few is =
    let same : k ≡ n = same_Some k n is in
    record { fits = lt-ltb n (10 ^ 4) (omega (arith, same, few)); is = ap stage_file (sym same) ∙ (bytes_eq-Decides (stage_file k) name).0 e }
named_by name k n false e few is = absurd (none-some n is)

pub stage_named-from : (name : List ℕ) (n : ℕ) → stage_named name ≡ Some n → IsNameOf name n
unfolding stage_named
stage_named-from name n is =
    let v = first_of-from (λ k. if bytes_eq (stage_file k) name then Some k else None) (10 ^ 4) n is in
    named_by name v.number n (bytes_eq (stage_file v.number) name) refl v.below v.is

-- that of a stage tells the stage
pub stage_named-is : (n : ℕ) → stage_fits n ≡ true → stage_named (stage_file n) ≡ Some n
unfolding stage_named
stage_named-is n fits =
    first_of-is (λ k. if bytes_eq (stage_file k) (stage_file n) then Some k else None) (10 ^ 4) n n (ltb-true n (10 ^ 4) fits)
    (ap (λ b. if b then Some n else None) ((bytes_eq-Decides (stage_file n) (stage_file n)).1 refl))
    (λ i y few e. let h = named_by (stage_file n) i y (bytes_eq (stage_file i) (stage_file n)) refl few e in stage_file-same y n h.fits fits h.is)

-- ---- files of the queue that stand
-- A name makes a path in a directory of the queue,
name_in : (q folder name : List ℕ) → is_path q ≡ true → length q ≤ 100 → is_segment folder ≡ true → length folder ≤ 6 → is_segment name ≡ true → length name ≤ 32 → IsNameIn (joined q folder) name
name_in q folder name path short within most segment small =
    let dir_long : length (joined q folder) ≡ length q + (1 + length folder) = length-append q (47 ∷ folder) ∙ omega arith in
    let all_long : length (joined (joined q folder) name) ≡ length q + (1 + length folder) + (1 + length name) = length-append (joined q folder) (47 ∷ name) ∙ omega (arith, dir_long) in
    let dir : is_path (joined q folder) ≡ true = is_path-joined q folder path (is_path-segment folder (omega (arith, most)) within) (omega (arith, dir_long, short, most)) in
    record { segment = segment; path = is_path-joined (joined q folder) name dir (is_path-segment name (omega (arith, small)) segment) (omega (arith, all_long, short, most, small)) }

-- where a file of the queue stands that is there,
pub file_stands : (q : List ℕ) → is_path q ≡ true → length q ≤ 100 → (files : Files) (x : QueueFile) (folder name : List ℕ) → joined (joined q folder) name ≡ path_of q x → is_segment folder ≡ true → length folder ≤ 6
    → is_segment name ≡ true → length name ≤ 32 → IsSome (queue_of q files x) → Stands files (joined q folder) name
file_stands q path short files x folder name is within most segment small there = record {
  named = name_in q folder name path short within most segment small;
  there = ap (λ p. is_some (maps.get files p)) is ∙ ap is_some (holds q files x there).stands;
}

-- and one that stands is there.
pub file_there : (q : List ℕ) (files : Files) (x : QueueFile) (dir name : List ℕ) → joined dir name ≡ path_of q x → fits x ≡ true → Stands files dir name → IsSome (queue_of q files x)
file_there q files x dir name is fit stands = ap is_some (queue_of-fits q files x fit ∙ ap (file_at files) (sym is)) ∙ stands.there

-- ---- a removal that is recorded stood all the while
module _ (role : Role) (q : List ℕ) (path : is_path q ≡ true) (short : length q ≤ 100) where
  pub record_stands : (files : Files) (r : ℕ) (t : Facts) → stages_in stage_reader q files r ≡ Some t → Stands files (stages_dir q) (stage_file r)
  record_stands files r t is =
      let long : length (codes "stages") ≡ 6 = refl in
      file_stands q path short files (Record r) (codes "stages") (stage_file r) (record_path_is q (stage_file r) r refl) refl (omega (arith, long)) (is_segment-stage_file r) (omega (arith, length-stage_file r))
      (has_record stage_reader (queue_of q files) r t is)

  was_recorded : (files : Files) (a : Act) → Sound stage_reader q files → Allows stage_reader role (Some q) false files a → (r : ℕ) (t : Facts)
      → (stages_in stage_reader q files r ≡ Some t) ⊎ RecordsRemoval stage_reader q a → stages_in stage_reader q files r ≡ Some t
  was_recorded files a sound may r t (inl is) = is
  was_recorded files a sound may r t (inr one) = absurd (others_record_none stage_reader kinds role q files a sound may one)

  stood : (files : Files) (others : List Step) → ByOthers (Allows stage_reader role (Some q)) files others → Sound stage_reader q files → (r : ℕ) (t : Facts)
      → stages_in stage_reader q (replay files others) r ≡ Some t → t.removes ≡ true → StandsThroughout files others (stages_dir q) (stage_file r) × (stages_in stage_reader q files r ≡ Some t)
  stood files [] by sound r t is removes = (record_stands files r t is, is)
  stood files (step ∷ steps) by sound r t is removes =
      let later = stood (after files step.act) steps by.2 (sound_kept stage_reader kinds q files step.act sound by.1.0) r t is removes in
      let now = was_recorded files step.act sound by.1 r t ((queue_stays stage_reader kinds q files step.act sound by.1.0).removals r t later.1 removes) in
      ((record_stands files r t now, later.0), now)

-- ---- a stage that was listed is known, or is to be read
unknown_later : (known : Known) (o : Option ℕ) (rest : List ℕ) (n : ℕ) → Contains rest n → Contains (with_unknown known o rest) n
unknown_later known None rest n h = h
unknown_later known (Some m) rest n h = by_test (is_some (stage_in known m))
  where
    by_test : (b : Bool) → Contains (if b then rest else m ∷ rest) n
    by_test true = h
    by_test false = later_in m rest n h

unknown_first : (known : Known) (n : ℕ) (rest : List ℕ) → (is_some (stage_in known n) ≡ true) ⊎ Contains (with_unknown known (Some n) rest) n
unknown_first known n rest = by_test (is_some (stage_in known n))
  where
    by_test : (b : Bool) → (b ≡ true) ⊎ Contains (if b then rest else n ∷ rest) n
    by_test true = inl refl
    by_test false = inr (first_in n rest)

listed_by : (known : Known) (x : List ℕ) (xs : List (List ℕ)) (name : List ℕ) (n : ℕ) → stage_named name ≡ Some n → (Contains xs name → (is_some (stage_in known n) ≡ true) ⊎ Contains (unknown_listed known xs) n)
    → (x ≡ name) ⊎ Contains xs name → (is_some (stage_in known n) ≡ true) ⊎ Contains (unknown_listed known (x ∷ xs)) n
listed_by known x xs name n is later (inl e) =
    let named : stage_named x ≡ Some n = ap stage_named e ∙ is in
    subst (λ o. (is_some (stage_in known n) ≡ true) ⊎ Contains (with_unknown known o (unknown_listed known xs)) n) (sym named) (unknown_first known n (unknown_listed known xs))
listed_by known x xs name n is later (inr h) = turned (later h)
  where
    turned : (is_some (stage_in known n) ≡ true) ⊎ Contains (unknown_listed known xs) n → (is_some (stage_in known n) ≡ true) ⊎ Contains (unknown_listed known (x ∷ xs)) n
    turned (inl e) = inl e
    turned (inr h') = inr (unknown_later known (stage_named x) (unknown_listed known xs) n h')

pub listed_or_known : (known : Known) (given : List (List ℕ)) (name : List ℕ) (n : ℕ) → stage_named name ≡ Some n → Contains given name → (is_some (stage_in known n) ≡ true) ⊎ Contains (unknown_listed known given) n
listed_or_known known [] name n is h = absurd (none_in name h)
listed_or_known known (x ∷ xs) name n is h = listed_by known x xs name n is (listed_or_known known xs name n is) (in_cases x xs name h)

-- of a stage that is known these are the facts
module _ (records : Records) (known : Known) (stages : (k : KeptStage) → Contains (map kept_of known) k → records k.number ≡ Some k.stage) where
  pub known_facts : (n : ℕ) (s : Stage) → stage_in known n ≡ Some s → records n ≡ Some (facts_of n s)
  known_facts n s e = stages (kept n (facts_of n s)) (map_in kept_of known (n, s) (stage_in-among known n s e))

  is_known : (r : ℕ) (t : Facts) → records r ≡ Some t → (o : Option Stage) → stage_in known r ≡ o → is_some o ≡ true → Contains (map kept_of known) (kept r t)
  is_known r t is None e some = absurd (true≢false (sym some))
  is_known r t is (Some s) e some =
      let same : facts_of r s ≡ t = same_Some (facts_of r s) t (sym (known_facts r s e) ∙ is) in
      subst (λ f. Contains (map kept_of known) (kept r f)) same (map_in kept_of known (r, s) (stage_in-among known r s e))

-- After a listing each removal is known, or is still to be read.
pub listing_tells : (role : Role) (q : List ℕ) (known : Known) (given : List (List ℕ)) (files : Files) (others : List Step) → is_path q ≡ true → length q ≤ 100
    → ByOthers (Allows stage_reader role (Some q)) files others → Sound stage_reader q files → ListsNames (stages_dir q) given files others
    → ((k : KeptStage) → Contains (map kept_of known) k → stages_in stage_reader q (replay files others) k.number ≡ Some k.stage)
    → KnowsStages (stages_in stage_reader q (replay files others)) known (unknown_listed known given)
listing_tells role q known given files others path short by sound lists stages = record {
  stages = stages;
  removals = λ r t is removes.
      let fit = (holds q (replay files others) (Record r) (has_record stage_reader (queue_of q (replay files others)) r t is)).fit in
      let among = lists.each (stage_file r) (stood role q path short files others by sound r t is removes).0 in
      turned r t is (listed_or_known known given (stage_file r) r (stage_named-is r fit) among);
}
  where
    records : Records
    records = stages_in stage_reader q (replay files others)

    turned : (r : ℕ) (t : Facts) → records r ≡ Some t → (is_some (stage_in known r) ≡ true) ⊎ Contains (unknown_listed known given) r → Contains (map kept_of known) (kept r t) ⊎ Contains (unknown_listed known given) r
    turned r t is (inl some) = inl (is_known records known stages r t is (stage_in known r) refl some)
    turned r t is (inr left) = inr left
