-- A table's file is right where its numbers are.
use Rattle.std.proofs.Common.{◌≡◌, ℕ, List, length, if◌then◌else◌, Option, Some, None, Result, Ok, Err, IfOk, ap, ◌∙◌}
use Rattle.std.proofs.lemmas.Bool.{eq-eqb}
use Rattle.ig_faces.specs.Counted.{counted_wrong}
use Rattle.ig_faces.specs.Records.{first_wrong, number_in}
use Rattle.ig_faces.specs.TableFile.{number_wrong, table_wrong}

pub table-right : {E : Type 0} (numbers : List ℕ) (r : Result (List ℕ) E) → IfOk r (λ b. number_in 4 b ≡ length numbers)
    → IfOk r (λ b. (wrong : Option ℕ → ℕ → Option ℕ) → first_wrong wrong 4 4 None numbers ≡ None → counted_wrong wrong (number_in 4) 4 b ≡ None)
    → IfOk r (λ b. first_wrong number_wrong 4 4 None numbers ≡ None → table_wrong (length numbers) b ≡ None)
table-right numbers (Ok b) many right = λ ok.
    ap (λ t. if t then counted_wrong number_wrong (number_in 4) 4 b else Some (length b)) (eq-eqb (number_in 4 b) (length numbers) many) ∙ right number_wrong ok
table-right numbers (Err e) many right = tt
