-- Files that begin with the number of their records.
use Rattle.std.proofs.Common.{◌≡◌, ◌+◌, ◌*◌, ℕ, List, length, drop, if◌then◌else◌, Option, Some, None, ap}
use Rattle.std.proofs.lemmas.Bool.{eq-eqb}
use Rattle.ig_faces.specs.Records.{file_wrong, first_wrong, records_in}

-- a file of this length is as wrong as its records are
pub whole-file : {A : Type 0} (wrong : Option A → A → Option ℕ) (read : List ℕ → A) (head each n : ℕ) (bytes : List ℕ) → length bytes ≡ head + each * n
    → file_wrong wrong read head each n bytes ≡ first_wrong wrong each head None (records_in read each n (drop head bytes))
whole-file wrong read head each n bytes whole =
    ap (λ b. if b then first_wrong wrong each head None (records_in read each n (drop head bytes)) else Some (length bytes)) (eq-eqb (length bytes) (head + each * n) whole)
