-- Chunks that are cut of one volume, where their texts are wanted of another.
use Rattle.std.proofs.Common.{arith, ◌≡◌, ◌<◌, ◌≤◌, ℕ, zero, suc, List, [], ◌∷◌, ◌++◌, Option, None, Some, option_map, map, refl, sym, ap, ◌∙◌}
use Rattle.std.proofs.lemmas.Option.{none-some, same_Some}
use Rattle.ig_space.specs.declared.point.Box3.{Box3}
use Rattle.ig_space.specs.declared.place.Place.{Place}
use Rattle.ig_space.specs.Chunks.{chunk_in, chunks_in, listed}
use Rattle.ig_space.specs.Grid.{cell, cell_count, chunks_of, hull}
use Rattle.ig_defs.specs.Own.{File}
use Rattle.ig_layer.specs.Layer.{Labels}
use Rattle.ig_layer.specs.Texts.{all_listed, chunk_file, chunk_text, file_if, files_in, with_last}
use Rattle.ig_record.specs.declared.stage.Stage.{Stage}
use Rattle.ig_meaning.specs.Sequential.{outputs_at-append}
use Rattle.ig_meaning.specs.Wants.{Want, output_by, outputs_at, put_at, text_by, wants_by, with_first}
use Rattle.ig_cutout.specs.declared.types.Output.{Output}
use Rattle.ig_cutout.specs.Outputs.{output_of}

-- the file with this text, as an output
record IsFileOf (path : List ℕ) (text : Option (List ℕ)) (file : File) : Type 0 where
  bytes : List ℕ
  text_is : text ≡ Some bytes
  file_is : put_at path bytes ≡ output_of file

file-of : (path : List ℕ) (text : Option (List ℕ)) (file : File) → file_if path text ≡ Some file → IsFileOf path text file
file-of path None file e = absurd (none-some file e)
file-of path (Some bytes) file e = record { bytes = bytes; text_is = refl; file_is = ap output_of (same_Some _ file e) }

output-with : (volume : Labels) (path bytes : List ℕ) (want : Option Want) → text_by volume want ≡ Some bytes → output_by volume path want ≡ Some (put_at path bytes)
output-with volume path bytes None e = absurd (none-some bytes e)
output-with volume path bytes (Some want) e = ap (option_map (put_at path)) e

record IsLast (front : Option (List File)) (last : Option File) (all : List File) : Type 0 where
  first : List File
  file : File
  front_is : front ≡ Some first
  last_is : last ≡ Some file
  are : first ++ file ∷ [] ≡ all

last-from : (front : Option (List File)) (last : Option File) (all : List File) → with_last front last ≡ Some all → IsLast front last all
last-from None last all e = absurd (none-some all e)
last-from (Some first) None all e = absurd (none-some all e)
last-from (Some first) (Some file) all e = record { first = first; file = file; front_is = refl; last_is = refl; are = same_Some _ all e }

mapped-last : (first : List File) (file : File) → map output_of (first ++ file ∷ []) ≡ map output_of first ++ output_of file ∷ []
mapped-last [] file = refl
mapped-last (f ∷ first) file = ap (λ rest. output_of f ∷ rest) (mapped-last first file)

mapped_some : (o : Option (List File)) (outputs : List Output) → option_map (map output_of) o ≡ Some outputs → (files : List File) × (o ≡ Some files) × (map output_of files ≡ outputs)
mapped_some None outputs e = absurd (none-some outputs e)
mapped_some (Some files) outputs e = (files, refl, same_Some (map output_of files) outputs e)

-- the chunk with this number of those that meet the area
abbrev pub chunk_cut : Place → Box3 → ℕ → Box3
chunk_cut place area i = cell (hull (chunks_of place.geometry) area) i

-- the text of each chunk that meets the area is wanted of the volume
abbrev pub AreWantedOf : Stage → Place → Box3 → Labels → Labels → Type 0
AreWantedOf s place area given volume =
    (i : ℕ) → i < cell_count (hull (chunks_of place.geometry) area) → (bytes : List ℕ) → chunk_text place.geometry given (chunk_cut place area i) ≡ Some bytes
    → text_by volume (wants_by s.kind s (chunk_in place area i)) ≡ Some bytes

-- then the chunks that are cut of one volume are what is wanted of the other
module _ (s : Stage) (place : Place) (area : Box3) (given volume : Labels) (wanted : AreWantedOf s place area given volume) where
  one_chunk : (i : ℕ) → i < cell_count (hull (chunks_of place.geometry) area) → (file : File) → chunk_file place given (chunk_cut place area i) ≡ Some file
      → outputs_at s volume (chunk_in place area i ∷ []) ≡ Some (output_of file ∷ [])
  one_chunk i few file e =
      let path = chunk_in place area i in
      let f = file-of path (chunk_text place.geometry given (chunk_cut place area i)) file e in
      ap (λ o. with_first o (Some [])) (output-with volume path f.bytes (wants_by s.kind s path) (wanted i few f.bytes f.text_is))
      ∙ ap (λ output. Some (output ∷ [])) f.file_is

  cut_listed : (n : ℕ) → n ≤ cell_count (hull (chunks_of place.geometry) area) → (files : List File) → all_listed (λ i. chunk_file place given (chunk_cut place area i)) n ≡ Some files
      → outputs_at s volume (listed (chunk_in place area) n) ≡ Some (map output_of files)
  cut_listed zero few files e = ap (λ fs. Some (map output_of fs)) (same_Some [] files e)
  cut_listed (suc n) few files e =
      let l = last-from (all_listed (λ i. chunk_file place given (chunk_cut place area i)) n) (chunk_file place given (chunk_cut place area n)) files e in
      outputs_at-append s volume (listed (chunk_in place area) n) (chunk_in place area n ∷ []) (map output_of l.first) (output_of l.file ∷ [])
      (cut_listed n (omega (arith, few)) l.first l.front_is) (one_chunk n few l.file l.last_is)
      ∙ ap Some (sym (mapped-last l.first l.file) ∙ ap (map output_of) l.are)

  pub cut_outputs : (outputs : List Output) → option_map (map output_of) (files_in place given area) ≡ Some outputs → outputs_at s volume (chunks_in place area) ≡ Some outputs
  cut_outputs outputs e =
      let m = mapped_some (files_in place given area) outputs e in
      cut_listed (cell_count (hull (chunks_of place.geometry) area)) (omega arith) m.0 m.1 ∙ ap Some m.2
