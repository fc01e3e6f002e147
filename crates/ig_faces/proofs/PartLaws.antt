-- Parts as first voxels and labels.
use Rattle.std.proofs.Common.{arith, ◌≡◌, ℕ, List, [], ◌∷◌, ◌++◌, drop, map, refl, ap, sym, ◌∙◌, append_assoc}
use Rattle.std.proofs.lemmas.List.{drop_at, length-append}
use Rattle.byteorder.specs.Endian.{little_bytes}
use Rattle.ig_faces.specs.declared.parts.Part.{Part}
use Rattle.ig_faces.specs.PartsFile.{first_of, label_of, part_in, part_text, parts_of}
use Rattle.ig_faces.specs.Records.{ReadsBack, number_in}

-- parts are those of their first voxels and labels
pub parts_of-own : (parts : List Part) → parts_of (map first_of parts) (map label_of parts) ≡ parts
parts_of-own [] = refl
parts_of-own (p ∷ ps) = let rest = parts_of-own ps in ap (λ l. p ∷ l) rest

pub parts_of-is : (parts : List Part) (firsts labels : List ℕ) → map first_of parts ≡ firsts → map label_of parts ≡ labels → parts ≡ parts_of firsts labels
parts_of-is parts firsts labels e f = sym (parts_of-own parts) ∙ ap (λ l. parts_of l (map label_of parts)) e ∙ ap (parts_of firsts) f

-- the bytes of a part give it back
pub part-back : (p : Part) → ReadsBack 4 (number_in 4) (little_bytes 4) p.first → ReadsBack 8 (number_in 8) (little_bytes 8) p.label → ReadsBack 12 part_in part_text p
part-back p one other =
    let a = little_bytes 4 p.first in
    let b = little_bytes 8 p.label in record {
      length = length-append a b ∙ omega (arith, one.length, other.length);
      back = λ rest.
          let whole : (a ++ b) ++ rest ≡ a ++ (b ++ rest) = append_assoc a b rest in
          let first : number_in 4 ((a ++ b) ++ rest) ≡ p.first = ap (number_in 4) whole ∙ one.back (b ++ rest) in
          let there : drop 4 ((a ++ b) ++ rest) ≡ b ++ rest = ap (drop 4) whole ∙ drop_at a (b ++ rest) 4 one.length in
          let label : number_in 8 (drop 4 ((a ++ b) ++ rest)) ≡ p.label = ap (number_in 8) there ∙ other.back rest in
          λ i. record { first = first i; label = label i };
    }
