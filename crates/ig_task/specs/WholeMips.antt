-- The tasks of a stage of mips write all chunks of each scale, and no other files.
use Rattle.std.specs.Prelude.{◌≡◌, ℕ, suc, true, List, Some, slice_get}
use Rattle.std.proofs.Common.{arith, subst}
use Rattle.std.specs.List.{Contains}
use Rattle.ig_space.specs.declared.place.Place.{Place}
use Rattle.ig_record.specs.declared.stage.Kind.TheVariants.{Downsample}
use Rattle.ig_record.specs.declared.stage.Stage.{Stage}
use Rattle.ig_record.specs.Sound.{is_sound}
use Rattle.ig_record.specs.SoundStages.{IsSound-from}
use Rattle.ig_meaning.specs.ChunkPlaces.{is_chunk_of-from, is_chunk_of-is}
use Rattle.ig_meaning.specs.Wants.{is_chunk_of}
use Rattle.ig_rule.specs.Facts.{IsPath}
use Rattle.ig_task.specs.Downsamples.{mip-from, mip-path, mips-of}
use Rattle.ig_task.specs.Facts.{facts_of}
use Rattle.ig_task.specs.MipTexts.{scale-at}
use Rattle.ig_task.specs.MipWants.{chunk-of-path}
use Rattle.ig_task.specs.Scales.{HasScale, scale-among}

-- the path is that of a chunk of one of the scales
pub record IsInScale (places : List Place) (path : List ℕ) : Type 0 where
  pub place : Place
  pub among : Contains places place
  pub chunk : is_chunk_of place path ≡ true

-- each chunk of each scale is the path of a task, and each path of a task is a chunk of one of them
pub record WritesScales (s : Stage) : Type 0 where
  pub each : (m : ℕ) (place : Place) → slice_get s.dests m ≡ Some place → (path : List ℕ) → is_chunk_of place path ≡ true → IsPath (facts_of 0 s) path
  pub only : (path : List ℕ) → IsPath (facts_of 0 s) path → IsInScale s.dests path

pub mips-write : (s : Stage) → is_sound s ≡ true → s.kind ≡ Downsample → WritesScales s
mips-write s sound is =
    let h = IsSound-from s sound in
    let d = mips-of s sound is in
    record {
      each = λ m place at path chunk. mip-path s h is d (suc m) place (subst (λ n. HasScale 1 s.dests n place) (omega arith) (scale-at 1 s.dests m place at)) path (is_chunk_of-from place path chunk);
      only = λ path u.
          let v = mip-from s h is d u.task u.below path u.among in
          record {
            place = v.place;
            among = scale-among 1 s.dests v.number v.place v.has;
            chunk = is_chunk_of-is v.place v.mip.scale.fits path (chunk-of-path v.place v.chunk path v.of);
          };
    }
