-- The file of a table: for each part its number, in 4 bytes. This project's own.
use Rattle.std.specs.Prelude.{ℕ, ◌^◌, ◌&&◌, ◌==◌, ◌≤◌, nat_le, if◌then◌else◌, List, length, Option, Some, None}
use Rattle.byteorder.specs.Endian.{little_bytes}
use Rattle.ig_faces.specs.Counted.{counted_in, counted_text, counted_wrong}
use Rattle.ig_faces.specs.Records.{number_in}

abbrev pub number_text : ℕ → List ℕ
number_text number = little_bytes 4 number

-- the text of a table, and the table of a text
abbrev pub table_text : List ℕ → List ℕ
table_text numbers = counted_text number_text numbers

abbrev pub table_in : List ℕ → List ℕ
table_in bytes = counted_in (number_in 4) 4 bytes

-- the number of a part is none of 1, .., 2^24
abbrev pub number_wrong : Option ℕ → ℕ → Option ℕ
number_wrong before number = if nat_le 1 number && nat_le number (2 ^ 24) then None else Some 0

-- a file of another number of parts is wrong at its end
abbrev pub table_wrong : ℕ → List ℕ → Option ℕ
table_wrong count bytes = if number_in 4 bytes == count then counted_wrong number_wrong (number_in 4) 4 bytes else Some (length bytes)

-- the number is one of 1, .., 2^24
abbrev pub IsNumber : ℕ → Type 0
IsNumber number = (1 ≤ number) × (number ≤ 2 ^ 24)
