-- Files that begin with the number of their records, in 4 bytes: this project's own.
use Rattle.std.specs.Prelude.{ℕ, List, ◌++◌, length, drop, flat_map, Option}
use Rattle.byteorder.specs.Endian.{little_bytes}
use Rattle.ig_faces.specs.Records.{file_wrong, number_in, records_in}

abbrev pub counted_text : {A : Type 0} → (A → List ℕ) → List A → List ℕ
counted_text text records = little_bytes 4 (length records) ++ flat_map text records

-- the records that stand in a file
abbrev pub counted_in : {A : Type 0} → (List ℕ → A) → ℕ → List ℕ → List A
counted_in read each bytes = records_in read each (number_in 4 bytes) (drop 4 bytes)

-- where it is wrong
abbrev pub counted_wrong : {A : Type 0} → (Option A → A → Option ℕ) → (List ℕ → A) → ℕ → List ℕ → Option ℕ
counted_wrong wrong read each bytes = file_wrong wrong read 4 each (number_in 4 bytes) bytes
