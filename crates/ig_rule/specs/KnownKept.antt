-- What a worker knows stays so.
use Rattle.std.specs.Prelude.{◌≡◌, ◌⊎◌, ℕ, true, false, List, Some, Contains}
use Rattle.std.proofs.Common.{inl, inr}
use Rattle.std.proofs.lemmas.Bool.{cases_Bool}
use Rattle.ig_defs.specs.declared.step.Act.{Act}
use Rattle.ig_defs.specs.Files.{Files, file_at}
use Rattle.ig_defs.specs.Own.{File}
use Rattle.ig_defs.specs.Log.{after}
use Rattle.ig_rule.specs.QueueFiles.{queue_of}
use Rattle.ig_rule.specs.Facts.{Facts, Reader, IsPath, KindLaws}
use Rattle.ig_rule.specs.Stages.{Records, recorded, stages_in, Clear}
use Rattle.ig_rule.specs.Rule.{Allowed}
use Rattle.ig_rule.specs.Sound.{Sound}
use Rattle.ig_rule.specs.Known.{Lease, Memory, IsKnownLease, IsKnownOf, Known, RecordsRemoval}
use Rattle.ig_rule.specs.Keeps.{KeepLaws, keep_laws, Keeps}
use Rattle.ig_rule.specs.SoundFiles.{wanted_kept, has_wanted_kept}
use Rattle.ig_rule.specs.Effects.{act_keeps}
use Rattle.ig_rule.specs.QueueStays.{queue_stays}

-- Stages stay recorded, and no removal is added.
pub record AddsNoRemoval (records later : Records) : Type 0 where
  pub stages : (n : ℕ) (s : Facts) → records n ≡ Some s → later n ≡ Some s
  pub removals : (r : ℕ) (t : Facts) → later r ≡ Some t → t.removes ≡ true → records r ≡ Some t

clear_stays : (records later : Records) → AddsNoRemoval records later → (n : ℕ) (s : Facts) → Clear records n s → Clear later n s
clear_stays records later adds n s clear = record {
  source = λ r t other is removes. clear.source r t other (adds.removals r t is removes) removes;
  outputs = λ dir one r t other is removes. clear.outputs dir one r t other (adds.removals r t is removes) removes;
}

-- A lease that keeps inputs is of a stage that makes files.
pub lease_makes : (records : Records) (files : Files) (l : Lease) → IsKnownLease records files l → (file : File) → Contains l.sources file ⊎ Contains l.scratch file → l.stage.removes ≡ false
lease_makes records files l h file among = by_test (cases_Bool l.stage.removes)
  where
    by_test : (l.stage.removes ≡ true) ⊎ (l.stage.removes ≡ false) → l.stage.removes ≡ false
    by_test (inl removes) = absurd (h.no_inputs removes file among)
    by_test (inr makes) = makes

lease_kept : (records later : Records) (old new : Files) → KeepLaws records → Keeps records old new → AddsNoRemoval records later → (l : Lease) → IsKnownLease records old l → IsKnownLease later new l
lease_kept records later old new laws keeps adds l h = record {
  is = adds.stages l.id.stage l.stage h.is;
  below = h.below;
  clear = clear_stays records later adds l.id.stage l.stage h.clear;
  no_inputs = h.no_inputs;
  sources = λ file among. (
    (h.sources file among).0,
    (keeps.chunks l.id.stage l.stage h.is (lease_makes records old l h file (inl among)) h.clear.source).kept file.path file.bytes (h.sources file among).0 (h.sources file among).1,
  );
  scratch = λ file among.
      (laws l.id.stage l.stage h.is).scratch_stays (file_at old) (file_at new) file.path file.bytes
      (keeps.chunks l.id.stage l.stage h.is (lease_makes records old l h file (inr among)) h.clear.source) (h.scratch file among);
  outputs = λ makes file among. record {
    among = (h.outputs makes file among).among;
    text = wanted_kept records old new laws keeps l.id.stage l.stage h.is makes h.clear.source file.path file.bytes (h.outputs makes file among).text;
  };
  put = λ makes path among. (
    (h.put makes path among).0,
    has_wanted_kept records old new laws keeps l.id.stage l.stage h.is makes h.clear path (path_of_lease path (h.put makes path among).0) (h.put makes path among).1,
  );
  removed = λ removes path among. (
    (h.removed removes path among).0,
    keeps.gone l.id.stage l.stage h.is removes path (path_of_lease path (h.removed removes path among).0) (h.removed removes path among).1,
  );
}
  where
    path_of_lease : (path : List ℕ) → Contains (l.stage.paths l.id.task) path → IsPath l.stage path
    path_of_lease path among = record { task = l.id.task; below = h.below; among = among }

known_kept_of : (records later : Records) (old new : Files) → KeepLaws records → Keeps records old new → AddsNoRemoval records later → (w : Memory) → IsKnownOf records old w → IsKnownOf later new w
known_kept_of records later old new laws keeps adds w h = record {
  stages = λ kept among. adds.stages kept.number kept.stage (h.stages kept among);
  removals = λ listed r t is removes. h.removals listed r t (adds.removals r t is removes) removes;
  leases = λ l among. lease_kept records later old new laws keeps adds l (h.leases l among);
}

adds_none : (read : Reader) (old new : Records) (R : Type 0) → (R → ⊥) → ((n : ℕ) (s : Facts) → old n ≡ Some s → new n ≡ Some s)
    → ((r : ℕ) (t : Facts) → new r ≡ Some t → t.removes ≡ true → (old r ≡ Some t) ⊎ R) → AddsNoRemoval old new
adds_none read old new R none stages removals = record { stages = stages; removals = λ r t is removes. by_cause r t (removals r t is removes) }
  where
    by_cause : (r : ℕ) (t : Facts) → (old r ≡ Some t) ⊎ R → old r ≡ Some t
    by_cause r t (inl is) = is
    by_cause r t (inr one) = absurd (none one)

-- An allowed act that records no removal keeps what a worker knows.
pub known_kept : (read : Reader) → KindLaws read → (q : List ℕ) (files : Files) (a : Act) (w : Memory) → Sound read q files → Allowed read q files a → (RecordsRemoval read q a → ⊥)
    → Known read q files w → Known read q (after files a) w
known_kept read kinds q files a w sound may none h =
    let stays = queue_stays read kinds q files a sound may in
    known_kept_of (stages_in read q files) (recorded read (queue_of q (after files a))) files (after files a) (keep_laws read kinds (queue_of q files))
    (act_keeps read kinds q files a sound may) (adds_none read _ _ (RecordsRemoval read q a) none stays.stages stays.removals) w h
