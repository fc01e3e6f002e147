-- Records of one length, one after the other in a file: this project's own.
use Rattle.std.specs.Prelude.{ℕ, zero, suc, ◌≡◌, ◌+◌, ◌*◌, ◌==◌, if◌then◌else◌, List, [], ◌∷◌, ◌++◌, length, drop, Option, Some, None}
use Rattle.byteorder.specs.Endian.{little_number}

-- the number in the first n bytes, the lowest first
unfoldable pub number_in : ℕ → List ℕ → ℕ
number_in n bytes = little_number n bytes

-- the first records of so many bytes each that stand in these bytes
abbrev pub records_in : {A : Type 0} → (List ℕ → A) → ℕ → ℕ → List ℕ → List A
records_in read each zero bytes = []
records_in read each (suc n) bytes = read bytes ∷ records_in read each n (drop each bytes)

-- this place of the record that begins at `from`, where it is wrong, else what is wrong later
abbrev pub placed : ℕ → Option ℕ → Option ℕ → Option ℕ
placed from None later = later
placed from (Some k) later = Some (from + k)

-- where the first wrong field begins: `wrong` tells it of a record beside the one before, counted from the record's begin
abbrev pub first_wrong : {A : Type 0} → (Option A → A → Option ℕ) → ℕ → ℕ → Option A → List A → Option ℕ
first_wrong wrong each from before [] = None
first_wrong wrong each from before (r ∷ rs) = placed from (wrong before r) (first_wrong wrong each (from + each) (Some r) rs)

-- the bytes of a record are so many, and give it back
pub record ReadsBack {A : Type 0} (each : ℕ) (read : List ℕ → A) (text : A → List ℕ) (r : A) : Type 0 where
  pub length : length (text r) ≡ each
  pub back : (rest : List ℕ) → read (text r ++ rest) ≡ r

-- so do those of each
abbrev pub AllReadBack : {A : Type 0} → ℕ → (List ℕ → A) → (A → List ℕ) → List A → Type 0
AllReadBack each read text [] = Unit {0}
AllReadBack each read text (r ∷ rs) = ReadsBack each read text r × AllReadBack each read text rs

-- where a file is wrong that has a head of some bytes and then so many records: at its end where its length is wrong
abbrev pub file_wrong : {A : Type 0} → (Option A → A → Option ℕ) → (List ℕ → A) → ℕ → ℕ → ℕ → List ℕ → Option ℕ
file_wrong wrong read head each count bytes =
    if length bytes == head + each * count then first_wrong wrong each head None (records_in read each count (drop head bytes)) else Some (length bytes)
