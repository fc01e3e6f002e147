-- What a worker keeps of a task's inputs serves for them.
use Rattle.std.specs.Prelude.{◌≡◌, ◌⊎◌, ℕ, true, false, List, Some, Contains}
use Rattle.std.proofs.Common.{inl, inr, ap, sym, subst, ◌∙◌}
use Rattle.std.proofs.lemmas.Option.{same_Some}
use Rattle.ig_defs.specs.Files.{Files, file_at}
use Rattle.ig_defs.specs.Own.{File}
use Rattle.ig_rule.specs.QueueFiles.{queue_of}
use Rattle.ig_rule.specs.Facts.{Reader, Reading, StageLaws, KindLaws}
use Rattle.ig_rule.specs.Stages.{Records, stages_in}
use Rattle.ig_rule.specs.Sound.{Sound}
use Rattle.ig_rule.specs.Known.{Lease, IsKnownLease, IsOver}
use Rattle.ig_rule.specs.Keeps.{keep_laws}
use Rattle.ig_rule.specs.KnownKept.{lease_makes}
use Rattle.ig_rule.specs.ScratchWanted.{scratch_wanted}

-- No kept input hides a source chunk: at its path stands what the overlay has.
same_chunk : (records : Records) (files : Files) (l : Lease) (mixed : Reading) → StageLaws l.stage → IsKnownLease records files l → IsOver l (file_at files) mixed
    → (path : List ℕ) → l.stage.is_chunk path ≡ true → mixed path ≡ file_at files path
same_chunk records files l mixed laws h over path chunk = by_place (over path)
  where
    is_here : (file : File) → Contains l.sources file ⊎ Contains l.scratch file → file.path ≡ path → Some file.bytes ≡ file_at files path
    is_here file (inl source) e = sym (h.sources file source).1 ∙ ap (file_at files) e
    is_here file (inr scratch) e =
        absurd (laws.scratch_apart path (subst (λ p. l.stage.is_scratch p ≡ true) e (laws.scratch_at (file_at files) file.path file.bytes (h.scratch file scratch))) chunk)

    by_place : (mixed path ≡ file_at files path) ⊎ ((file : File) × (Contains l.sources file ⊎ Contains l.scratch file) × (file.path ≡ path) × (mixed path ≡ Some file.bytes)) → mixed path ≡ file_at files path
    by_place (inl same) = same
    by_place (inr u) = u.3 ∙ is_here u.0 u.1 u.2

-- What is wanted over the overlay is wanted in the files.
pub over_wanted : (read : Reader) → KindLaws read → (q : List ℕ) (files : Files) (l : Lease) (mixed : Reading) → IsKnownLease (stages_in read q files) files l → IsOver l (file_at files) mixed
    → (path bytes : List ℕ) → l.stage.wanted mixed path ≡ Some bytes → l.stage.wanted (file_at files) path ≡ Some bytes
over_wanted read kinds q files l mixed h over path bytes wanted =
    let laws = keep_laws read kinds (queue_of q files) l.id.stage l.stage h.is in
    laws.wanted_stays mixed (file_at files) path bytes
    (record { kept = λ chunk there is_chunk e. sym (same_chunk (stages_in read q files) files l mixed laws h over chunk is_chunk) ∙ e }) wanted

over_stays : (read : Reader) → KindLaws read → (q : List ℕ) (files : Files) (l : Lease) (mixed : Reading) → IsKnownLease (stages_in read q files) files l → IsOver l (file_at files) mixed
    → (path bytes : List ℕ) → l.stage.scratch (file_at files) path ≡ Some bytes → l.stage.scratch mixed path ≡ Some bytes
over_stays read kinds q files l mixed h over path bytes wanted =
    let laws = keep_laws read kinds (queue_of q files) l.id.stage l.stage h.is in
    laws.scratch_stays (file_at files) mixed path bytes
    (record { kept = λ chunk there is_chunk e. same_chunk (stages_in read q files) files l mixed laws h over chunk is_chunk ∙ e }) wanted

-- A kept scratch file is what earlier passes want over the overlay.
pub over_scratch : (read : Reader) → KindLaws read → (q : List ℕ) (files : Files) (l : Lease) (mixed : Reading) → IsKnownLease (stages_in read q files) files l → IsOver l (file_at files) mixed
    → (file : File) → Contains l.scratch file → l.stage.scratch mixed file.path ≡ Some file.bytes
over_scratch read kinds q files l mixed h over file among = over_stays read kinds q files l mixed h over file.path file.bytes (h.scratch file among)

-- So is all that the overlay has at a scratch path, where the files are sound.
pub over_found : (read : Reader) → KindLaws read → (q : List ℕ) (files : Files) (l : Lease) (mixed : Reading) → Sound read q files → IsKnownLease (stages_in read q files) files l → IsOver l (file_at files) mixed
    → l.stage.removes ≡ false → (path bytes : List ℕ) → l.stage.is_scratch path ≡ true → mixed path ≡ Some bytes → l.stage.scratch mixed path ≡ Some bytes
over_found read kinds q files l mixed sound h over makes path bytes scratch found = by_place (over path)
  where
    by_sort : (file : File) → Contains l.sources file ⊎ Contains l.scratch file → file.path ≡ path → l.stage.scratch mixed path ≡ Some file.bytes
    by_sort file (inl source) e =
        absurd ((keep_laws read kinds (queue_of q files) l.id.stage l.stage h.is).scratch_apart path scratch (subst (λ p. l.stage.is_chunk p ≡ true) e (h.sources file source).0))
    by_sort file (inr kept) e = ap (l.stage.scratch mixed) (sym e) ∙ over_scratch read kinds q files l mixed h over file kept

    by_place : (mixed path ≡ file_at files path) ⊎ ((file : File) × (Contains l.sources file ⊎ Contains l.scratch file) × (file.path ≡ path) × (mixed path ≡ Some file.bytes)) → l.stage.scratch mixed path ≡ Some bytes
    by_place (inl same) =
        over_stays read kinds q files l mixed h over path bytes
        (scratch_wanted read kinds q files l.id.stage l.stage sound h.is makes h.clear path bytes scratch (sym same ∙ found))
    by_place (inr u) = by_sort u.0 u.1 u.2 ∙ sym u.3 ∙ found

-- What stands at the path of a kept scratch file in sound files is its text.
pub kept_stands : (read : Reader) → KindLaws read → (q : List ℕ) (files : Files) (l : Lease) → Sound read q files → IsKnownLease (stages_in read q files) files l
    → (file : File) → Contains l.scratch file → (bytes : List ℕ) → file_at files file.path ≡ Some bytes → bytes ≡ file.bytes
kept_stands read kinds q files l sound h file among bytes there =
    let laws = keep_laws read kinds (queue_of q files) l.id.stage l.stage h.is in
    let scratch = h.scratch file among in
    same_Some bytes file.bytes
    (sym (scratch_wanted read kinds q files l.id.stage l.stage sound h.is (lease_makes (stages_in read q files) files l h file (inr among)) h.clear file.path bytes
    (laws.scratch_at (file_at files) file.path file.bytes scratch) there) ∙ scratch)
