-- What is wanted at the paths of a stage's tasks, kind by kind.
use Rattle.std.specs.Prelude.{◌≡◌, ℕ, List, Option, None, Some, option_map, refl}
use Rattle.std.proofs.Common.{ap, sym, ◌∙◌}
use Rattle.std.proofs.lemmas.Option.{none-some}
use Rattle.ig_space.specs.declared.point.Box3.{Box3}
use Rattle.ig_space.specs.declared.place.Place.{Place}
use Rattle.ig_layer.specs.Faults.{or_else}
use Rattle.ig_layer.specs.Layer.{Labels, Reading, volume_at}
use Rattle.ig_record.specs.declared.stage.Kind.{Kind}
use Rattle.ig_record.specs.declared.stage.Kind.TheVariants.{Xfer, Remove}
use Rattle.ig_record.specs.declared.stage.Stage.{Stage}
use Rattle.ig_record.specs.SoundKinds.{IsCopyOf}
use Rattle.ig_meaning.specs.ChunkPlaces.{IsChunk, chunk_with-from}
use Rattle.ig_meaning.specs.Wants.{chunk_among, chunk_want, chunk_with, text_by, wanted_text, wants_by}

-- ---- copies
-- of one scale: its chunk
one_or_none : {A : Type 0} (o : Option A) → or_else o None ≡ o
one_or_none None = refl
one_or_none (Some x) = refl

pub copy-wants : (s : Stage) → s.kind ≡ Xfer → (c : IsCopyOf s.source s.dests s.info) → (path : List ℕ) → wants_by s.kind s path ≡ option_map (chunk_want c.dest) (chunk_with c.dest path)
copy-wants s is c path =
    ap (λ (kind : Kind). wants_by kind s path) is ∙ ap (λ (dests : List Place). chunk_among dests path) c.dests_are
    ∙ one_or_none (option_map (chunk_want c.dest) (chunk_with c.dest path))

-- a copy wants something only at the paths of its chunks
chunk_by : (place : Place) (volume : Labels) (path bytes : List ℕ) (o : Option Box3) → chunk_with place path ≡ o → text_by volume (option_map (chunk_want place) o) ≡ Some bytes → IsChunk place path
chunk_by place volume path bytes None is e = absurd (none-some bytes e)
chunk_by place volume path bytes (Some box) is e = record { box = box; at = chunk_with-from place path box is }

pub copy-chunk : (s : Stage) → s.kind ≡ Xfer → (c : IsCopyOf s.source s.dests s.info) → (files : Reading) (path bytes : List ℕ) → wanted_text s files path ≡ Some bytes → IsChunk c.dest path
copy-chunk s is c files path bytes e =
    let volume = volume_at files s.source in
    chunk_by c.dest volume path bytes (chunk_with c.dest path) refl (ap (text_by volume) (sym (copy-wants s is c path)) ∙ e)

-- ---- removals
pub removal-wants : (s : Stage) → s.kind ≡ Remove → (path : List ℕ) → wants_by s.kind s path ≡ None
removal-wants s is path = ap (λ (kind : Kind). wants_by kind s path) is

pub removal-wants_none : (s : Stage) → s.kind ≡ Remove → (files : Reading) (path bytes : List ℕ) → wanted_text s files path ≡ Some bytes → ⊥
removal-wants_none s is files path bytes e = none-some bytes (sym (ap (text_by (volume_at files s.source)) (removal-wants s is path)) ∙ e)
