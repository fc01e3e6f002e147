-- What is wrong with the files of chunks.
use Rattle.std.specs.Prelude.{ℕ, zero, suc, ◌==◌, if◌then◌else◌, List, length, Option, None, Some, option_map}
use Rattle.ig_space.specs.declared.point.Point.{Point}
use Rattle.ig_space.specs.declared.point.Box3.{Box3}
use Rattle.ig_space.specs.declared.geometry.Width.{Width}
use Rattle.ig_space.specs.declared.geometry.Encoding.{Encoding}
use Rattle.ig_space.specs.declared.geometry.Encoding.TheVariants.{Raw, Cseg}
use Rattle.ig_space.specs.declared.place.Place.{Place}
use Rattle.ig_space.specs.Chunk.{chunk_path}
use Rattle.ig_space.specs.Grid.{cell, cell_count, chunks_of, hull, size_of}
use Rattle.ig_cseg.specs.declared.fault.CsegFault.{CsegFault}
use Rattle.ig_cseg.specs.Cseg.{fault_of}
use Rattle.ig_layer.specs.Layer.{raw_len}

-- what is wrong with the text of a chunk
pub data Cause : Type 0 where
  WrongLength : (got want : ℕ) → Cause
  BadCseg : (fault : CsegFault) → Cause

-- what is wrong with the file of a chunk
pub data Fault : Type 0 where
  Absent : (path : List ℕ) → Fault
  Damaged : (path : List ℕ) → (cause : Cause) → Fault

abbrev pub or_else : {A : Type 0} → Option A → Option A → Option A
or_else (Some x) other = Some x
or_else None other = other

-- the first that is there of the values at 0, 1, .. below n
abbrev pub first_of : {A : Type 0} → (ℕ → Option A) → ℕ → Option A
first_of f zero = None
first_of f (suc n) = or_else (first_of f n) (f n)

abbrev pub cause_in : Encoding → Width → Point → List ℕ → Option Cause
cause_in Raw width size bytes = if length bytes == raw_len width size then None else Some (WrongLength (length bytes) (raw_len width size))
cause_in (Cseg block) width size bytes = option_map BadCseg (fault_of block width size bytes)

-- what is wrong with what was found of this chunk
abbrev pub fault_in : Place → Box3 → Option (List ℕ) → Option Fault
fault_in place chunk None = Some (Absent (chunk_path place.dir chunk))
fault_in place chunk (Some bytes) = option_map (Damaged (chunk_path place.dir chunk)) (cause_in place.geometry.encoding place.geometry.width (size_of chunk) bytes)

-- the chunk with this number among those that meet the box
abbrev pub chunk_at : Place → Box3 → ℕ → Box3
chunk_at place box k = cell (hull (chunks_of place.geometry) box) k

-- the first fault among the chunks that meet the box, in grid order
abbrev pub first_fault : Place → Box3 → (List ℕ → Option (List ℕ)) → Option Fault
first_fault place box files =
    first_of (λ k. fault_in place (chunk_at place box k) (files (chunk_path place.dir (chunk_at place box k)))) (cell_count (hull (chunks_of place.geometry) box))
