-- A short segment is a path.
use Rattle.std.proofs.Common.{◌≡◌, ◌≤◌, ℕ, ◌==◌, ◌||◌, not, true, false, List, [], ◌∷◌, length, refl, ap, ◌∙◌}
use Rattle.std.proofs.lemmas.Bool.{and_parts, and_from}
use Rattle.std.proofs.lemmas.Bool.Decides.{nat_tests}
use Rattle.std.proofs.Common.{arith}
use Rattle.std.specs.List.{list_all}
use Rattle.ig_space.specs.Path.{is_path, is_segment, is_segment_byte, segments}
use Rattle.ig_space.specs.Segments.{is_path-from}

no_slash : (c : ℕ) → is_segment_byte c ≡ true → (c == 47) ≡ false
no_slash c h = grind (arith, nat_tests)

-- it has one part
one_part : (text : List ℕ) → list_all is_segment_byte text ≡ true → segments text ≡ text ∷ []
one_part [] h = refl
one_part (c ∷ cs) h = let p = and_parts _ _ h in rw (no_slash c p.0, one_part cs p.1) refl

pub is_path-segment : (text : List ℕ) → is_segment text ≡ true → length text ≤ 400 → is_path text ≡ true
is_path-segment [] h short = absurd cc
is_path-segment (c ∷ cs) h short =
    let bytes : list_all is_segment_byte (c ∷ cs) ≡ true = (and_parts (not (c == 46 || c == 45)) _ h).1 in
    is_path-from (c ∷ cs) short (ap (list_all is_segment) (one_part (c ∷ cs) bytes) ∙ and_from _ _ h refl)
