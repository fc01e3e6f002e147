-- A name in a listed directory is that of one task.
use Rattle.std.proofs.Common.{◌≡◌, ◌⊎◌, ◌<◌, ℕ, true, List, [], ◌∷◌, ◌++◌, Option, None, Some, IfSome, IsNone, Contains, codes, get_or, arith, refl, ap, sym, subst, ◌∙◌, inl, inr}
use Rattle.std.proofs.lemmas.List.Elements.{Contains-append_left, Contains-push, Contains-push_cases}
use Rattle.ig_space.specs.declared.task_id.TaskId.{TaskId}
use Rattle.ig_defs.specs.QueueNames.{queue_file, queue_fits, task_file, task_fits, task_of}
use Rattle.ig_defs.specs.declared.queue_name.QueueName.{QueueName}
use Rattle.ig_rule.specs.QueueFiles.{QueueFile, Record, Seal, Queued, Dead, Done, file_name, fits, folder, named_task}
use Rattle.ig_rule.specs.Stages.{task_id}
use Rattle.ig_meaning.specs.QueueActs.{IsShown, is_queued, is_dead, is_done}
use Rattle.ig_stage.specs.Shown.{IsNameOf, ShowsTask, listed_dir}
use Rattle.ig_stage.specs.declared.shown.Listing.{Listing}
use Rattle.ig_stage.specs.declared.shown.Listing.TheVariants as listing
use Rattle.ig_queue.specs.FilesAt.{dead_folder, dead_name, done_folder, done_name, queued_folder, queued_name, task_fit}

pub same_id : (x y : TaskId) → ◌≡◌ {A = Option TaskId} (Some x) (Some y) → x ≡ y
same_id x y e = cc

-- ---- fresh and leased names

-- the name of a queued task
pub record IsQueuedName (name : List ℕ) (id : TaskId) : Type 0 where
  pub found : QueueName
  pub fit : queue_fits found ≡ true
  pub is : name ≡ queue_file found
  pub of_task : task_of found ≡ id

pub name_of_queued : (name : List ℕ) (found : QueueName) → queue_fits found ≡ true → name ≡ queue_file found → IsNameOf (listed_dir listing.Queue) name (task_of found)
name_of_queued name found fit e = record { file = Queued found; fit = fit; is_of = refl; within = queued_folder found; is = e ∙ sym (queued_name found) }

pub queued_of_name : (name : List ℕ) (id : TaskId) → IsNameOf (listed_dir listing.Queue) name id → IsQueuedName name id
queued_of_name name id h = by_file h.file h.fit h.is_of h.within h.is
  where
    by_file : (x : QueueFile) → fits x ≡ true → named_task x ≡ Some id → folder x ≡ codes "queue" → name ≡ file_name x → IsQueuedName name id
    by_file (Record n) fit of within e = absurd (cc)
    by_file (Seal n) fit of within e = absurd (cc)
    by_file (Queued found) fit of within e = record { found = found; fit = fit; is = e ∙ queued_name found; of_task = same_id (task_of found) id of }
    by_file (Dead t) fit of within e = let apart : codes "dead" ≡ codes "queue" = sym (dead_folder t) ∙ within in absurd (cc)
    by_file (Done t) fit of within e = let apart : codes "done" ≡ codes "queue" = sym (done_folder t) ∙ within in absurd (cc)

-- ---- names of dead and done tasks

dead_or_done : codes "dead" ≡ codes "done" → ⊥
dead_or_done e = let second : 101 ≡ 111 = ap (λ text. get_or text 1 0) e in absurd (omega (arith, second))

-- the name of a task that is dead or done
pub record IsTaskName (name : List ℕ) (id : TaskId) : Type 0 where
  pub fit : task_fits id ≡ true
  pub is : name ≡ task_file id

pub name_of_task : (which : Listing) (name : List ℕ) (id : TaskId) → (which ≡ listing.Queue → ⊥) → IsTaskName name id → IsNameOf (listed_dir which) name id
name_of_task listing.Queue name id other h = absurd (other refl)
name_of_task listing.Dead name id other h = record { file = Dead id; fit = h.fit; is_of = refl; within = dead_folder id; is = h.is ∙ sym (dead_name id) }
name_of_task listing.Done name id other h = record { file = Done id; fit = h.fit; is_of = refl; within = done_folder id; is = h.is ∙ sym (done_name id) }

dead_of_name : (name : List ℕ) (id : TaskId) → IsNameOf (listed_dir listing.Dead) name id → IsTaskName name id
dead_of_name name id h = by_file h.file h.fit h.is_of h.within h.is
  where
    by_file : (x : QueueFile) → fits x ≡ true → named_task x ≡ Some id → folder x ≡ codes "dead" → name ≡ file_name x → IsTaskName name id
    by_file (Record n) fit of within e = absurd (cc)
    by_file (Seal n) fit of within e = absurd (cc)
    by_file (Queued found) fit of within e = let apart : codes "queue" ≡ codes "dead" = sym (queued_folder found) ∙ within in absurd (cc)
    by_file (Dead t) fit of within e = subst (IsTaskName name) (same_id t id of) (record { fit = fit; is = e ∙ dead_name t })
    by_file (Done t) fit of within e = absurd (dead_or_done (sym within ∙ done_folder t))

done_of_name : (name : List ℕ) (id : TaskId) → IsNameOf (listed_dir listing.Done) name id → IsTaskName name id
done_of_name name id h = by_file h.file h.fit h.is_of h.within h.is
  where
    by_file : (x : QueueFile) → fits x ≡ true → named_task x ≡ Some id → folder x ≡ codes "done" → name ≡ file_name x → IsTaskName name id
    by_file (Record n) fit of within e = absurd (cc)
    by_file (Seal n) fit of within e = absurd (cc)
    by_file (Queued found) fit of within e = let apart : codes "queue" ≡ codes "done" = sym (queued_folder found) ∙ within in absurd (cc)
    by_file (Dead t) fit of within e = absurd (dead_or_done (sym (dead_folder t) ∙ within))
    by_file (Done t) fit of within e = subst (IsTaskName name) (same_id t id of) (record { fit = fit; is = e ∙ done_name t })

pub task_of_name : (which : Listing) (name : List ℕ) (id : TaskId) → (which ≡ listing.Queue → ⊥) → IsNameOf (listed_dir which) name id → IsTaskName name id
task_of_name listing.Queue name id other h = absurd (other refl)
task_of_name listing.Dead name id other h = dead_of_name name id h
task_of_name listing.Done name id other h = done_of_name name id h

-- what a parser of these names gave
pub named_some : (which : Listing) (name : List ℕ) (found : Option TaskId) → (which ≡ listing.Queue → ⊥)
    → IfSome found (λ id. (task_fits id ≡ true) × (name ≡ task_file id)) → IfSome found (λ id. IsNameOf (listed_dir which) name id)
named_some which name (Some id) other h = name_of_task which name id other (record { fit = h.0; is = h.1 })
named_some which name None other h = tt

pub named_back : (which : Listing) (name : List ℕ) (found : Option TaskId) → (which ≡ listing.Queue → ⊥)
    → ((id : TaskId) → task_fits id ≡ true → name ≡ task_file id → IfSome found (λ given. given ≡ id))
    → (IsNone found → (id : TaskId) → task_fits id ≡ true → name ≡ task_file id → ⊥)
    → (id : TaskId) → IsNameOf (listed_dir which) name id → found ≡ Some id
named_back which name (Some given) other back none id h = let w = task_of_name which name id other h in ap Some (back id w.fit w.is)
named_back which name None other back none id h = let w = task_of_name which name id other h in absurd (none refl id w.fit w.is)

-- ---- what a listing shows

-- one more name
pub shows_last : (dir : List ℕ) (names : List (List ℕ)) (name : List ℕ) (n k : ℕ) → IsNameOf dir name (task_id n k) → ShowsTask dir (names ++ name ∷ []) n k
shows_last dir names name n k h = record { name = name; among = Contains-push names name; of_task = h }

pub shows_before : (dir : List ℕ) (names : List (List ℕ)) (name : List ℕ) (n k : ℕ) → ShowsTask dir names n k → ShowsTask dir (names ++ name ∷ []) n k
shows_before dir names name n k h = record { name = h.name; among = Contains-append_left names (name ∷ []) h.name h.among; of_task = h.of_task }

pub shows_cases : (dir : List ℕ) (names : List (List ℕ)) (name : List ℕ) (n k : ℕ) → ShowsTask dir (names ++ name ∷ []) n k → ShowsTask dir names n k ⊎ IsNameOf dir name (task_id n k)
shows_cases dir names name n k h = by_place (Contains-push_cases names name h.name h.among)
  where
    by_place : Contains names h.name ⊎ (name ≡ h.name) → ShowsTask dir names n k ⊎ IsNameOf dir name (task_id n k)
    by_place (inl before) = inl (record { name = h.name; among = before; of_task = h.of_task })
    by_place (inr last) = inr (subst (λ (text : List ℕ). IsNameOf dir text (task_id n k)) (sym last) h.of_task)

-- the three listings
abbrev pub ShowsOne : List (List ℕ) → List (List ℕ) → List (List ℕ) → ℕ → ℕ → Type 0
ShowsOne queued dead done n k = (ShowsTask (codes "queue") queued n k ⊎ ShowsTask (codes "dead") dead n k) ⊎ ShowsTask (codes "done") done n k

pub shown_by : (queued dead done : List (List ℕ)) (n k : ℕ) → ShowsOne queued dead done n k → IsShown queued dead done (task_id n k)
shown_by queued dead done n k (inl (inl h)) =
    let w = queued_of_name h.name (task_id n k) h.of_task in
    is_queued w.found w.fit w.of_task (subst (Contains queued) w.is h.among)
shown_by queued dead done n k (inl (inr h)) = is_dead (subst (Contains dead) (dead_of_name h.name (task_id n k) h.of_task).is h.among)
shown_by queued dead done n k (inr h) = is_done (subst (Contains done) (done_of_name h.name (task_id n k) h.of_task).is h.among)

pub shows_it : (queued dead done : List (List ℕ)) (n k : ℕ) → n < 10000 → k < 1000000 → IsShown queued dead done (task_id n k) → ShowsOne queued dead done n k
shows_it queued dead done n k few small (is_queued found fit of among) =
    inl (inl (record { name = queue_file found; among = among; of_task = subst (IsNameOf (codes "queue") (queue_file found)) of (name_of_queued (queue_file found) found fit refl) }))
shows_it queued dead done n k few small (is_dead among) =
    inl (inr (record {
      name = task_file (task_id n k);
      among = among;
      of_task = name_of_task listing.Dead (task_file (task_id n k)) (task_id n k) (λ e. absurd (cc)) (record { fit = task_fit n k few small; is = refl });
    }))
shows_it queued dead done n k few small (is_done among) =
    inr (record {
      name = task_file (task_id n k);
      among = among;
      of_task = name_of_task listing.Done (task_file (task_id n k)) (task_id n k) (λ e. absurd (cc)) (record { fit = task_fit n k few small; is = refl });
    })
