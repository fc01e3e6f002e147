-- Links as numbers.
use Rattle.std.proofs.Common.{arith, ◌≡◌, ◌++◌, drop, ap, sym, ◌∙◌, append_assoc}
use Rattle.std.proofs.lemmas.List.{drop_at, drop-drop, length-append}
use Rattle.byteorder.specs.Endian.{little_bytes}
use Rattle.ig_faces.specs.declared.links.Link.{Link}
use Rattle.ig_faces.specs.LinksFile.{link_in, link_text}
use Rattle.ig_faces.specs.Records.{ReadsBack, number_in}

-- the bytes of a link give it back
pub link-back : (l : Link) → ReadsBack 4 (number_in 4) (little_bytes 4) l.axis → ReadsBack 4 (number_in 4) (little_bytes 4) l.own
    → ReadsBack 4 (number_in 4) (little_bytes 4) l.other → ReadsBack 12 link_in link_text l
link-back l axis own other =
    let a = little_bytes 4 l.axis in
    let b = little_bytes 4 l.own in
    let c = little_bytes 4 l.other in record {
      length = length-append a (b ++ c) ∙ omega (arith, length-append b c, axis.length, own.length, other.length);
      back = λ rest.
          let whole : (a ++ (b ++ c)) ++ rest ≡ a ++ (b ++ (c ++ rest)) = append_assoc a (b ++ c) rest ∙ ap (λ t. a ++ t) (append_assoc b c rest) in
          let one : number_in 4 ((a ++ (b ++ c)) ++ rest) ≡ l.axis = ap (number_in 4) whole ∙ axis.back (b ++ (c ++ rest)) in
          let then_own : drop 4 ((a ++ (b ++ c)) ++ rest) ≡ b ++ (c ++ rest) = ap (drop 4) whole ∙ drop_at a (b ++ (c ++ rest)) 4 axis.length in
          let two : number_in 4 (drop 4 ((a ++ (b ++ c)) ++ rest)) ≡ l.own = ap (number_in 4) then_own ∙ own.back (c ++ rest) in
          let then_other : drop 8 ((a ++ (b ++ c)) ++ rest) ≡ c ++ rest =
          sym (drop-drop 4 4 ((a ++ (b ++ c)) ++ rest)) ∙ ap (drop 4) then_own ∙ drop_at b (c ++ rest) 4 own.length in
          let three : number_in 4 (drop 8 ((a ++ (b ++ c)) ++ rest)) ≡ l.other = ap (number_in 4) then_other ∙ other.back rest in
          λ i. record { axis = one i; own = two i; other = three i };
    }
