-- The tasks of a copy write all chunks of the new scale, and no other files: so what is wanted of it is the whole layer, whatever the shape.
use Rattle.std.specs.Prelude.{◌≡◌, ℕ, true, List, [], ◌∷◌}
use Rattle.std.proofs.Common.{subst}
use Rattle.ig_space.specs.declared.place.Place.{Place}
use Rattle.ig_record.specs.declared.stage.Kind.TheVariants.{Xfer}
use Rattle.ig_record.specs.declared.stage.Stage.{Stage}
use Rattle.ig_record.specs.Sound.{is_sound}
use Rattle.ig_record.specs.SoundStages.{IsSound-from}
use Rattle.ig_meaning.specs.ChunkPlaces.{is_chunk_of-from, is_chunk_of-is}
use Rattle.ig_meaning.specs.Wants.{is_chunk_of}
use Rattle.ig_rule.specs.Facts.{IsPath}
use Rattle.ig_task.specs.Copies.{copy-of}
use Rattle.ig_task.specs.Facts.{facts_of}
use Rattle.ig_task.specs.OwnedPaths.{chunk-path, copy-owns, path-chunk}

-- each chunk of the scale is the path of a task, and each path of a task is a chunk of it
pub record WritesChunks (s : Stage) (place : Place) : Type 0 where
  pub each : (path : List ℕ) → is_chunk_of place path ≡ true → IsPath (facts_of 0 s) path
  pub only : (path : List ℕ) → IsPath (facts_of 0 s) path → is_chunk_of place path ≡ true

pub copy-writes : (s : Stage) → is_sound s ≡ true → s.kind ≡ Xfer → (dest : Place) → s.dests ≡ dest ∷ [] → WritesChunks s dest
copy-writes s sound is dest one =
    let c = copy-of s sound is in
    let owns = copy-owns s (IsSound-from s sound) is c in
    let same : c.dest ≡ dest = cc (c.dests_are, one) in
    subst (WritesChunks s) same (record {
      each = λ path chunk. chunk-path s c.dest owns 0 path (is_chunk_of-from c.dest path chunk);
      only = λ path u. is_chunk_of-is c.dest c.is_dest.fits path (path-chunk s c.dest owns 0 path u);
    })
