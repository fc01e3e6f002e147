-- The names of chunks are of digits, `-` and `_`.
use Rattle.std.proofs.Common.{arith, lit<, length-append, ◌≡◌, ◌<◌, ◌≤◌, ◌+◌, ◌^◌, ◌%◌, ℕ, Bool, true, false, not, ◌||◌, ◌==◌, List, [], ◌∷◌, ◌++◌, length, refl, ap, ◌∙◌}
use Rattle.std.proofs.lemmas.Bool.{and_parts, and_from, le-leb}
use Rattle.std.proofs.lemmas.Bool.Decides.{nat_tests}
use Rattle.std.proofs.lemmas.Fmt.{decimal_by_steps, length-decimal-le}
use Rattle.std.proofs.lemmas.List.Folds.{list_all-append}
use Rattle.std.specs.List.{list_all}
use Rattle.std.specs.Fmt.{decimal}
use Rattle.ig_space.specs.Path.{is_path, is_segment, is_segment_byte, segments, within}
use Rattle.ig_space.specs.Chunk.{span_text, chunk_name, begins_with_digit}
use Rattle.ig_space.specs.declared.point.Box3.{Box3}
use Rattle.ig_space.specs.Grid.{IsBox}
use Rattle.ig_space.specs.Segments.{is_path-from}

-- a text of digits, `-` and `_` that begins with a digit
abbrev pub is_name_byte : ℕ → Bool
is_name_byte c = within 48 57 c || c == 45 || c == 95

pub record IsName (text : List ℕ) : Type 0 where
  pub digit : begins_with_digit text ≡ true
  pub bytes : list_all is_name_byte text ≡ true

digit_is_digit : (d : ℕ) → d < 10 → within 48 57 (48 + d) ≡ true
digit_is_digit d h = and_from _ _ (le-leb 48 (48 + d) (omega arith)) (le-leb (48 + d) 57 (omega arith))

is_name_byte-digit : (c : ℕ) → within 48 57 c ≡ true → is_name_byte c ≡ true
is_name_byte-digit c h = rw h refl

IsName-one : (n : ℕ) → n < 10 → IsName ((48 + n) ∷ [])
IsName-one n h = record {
  digit = digit_is_digit n h;
  bytes = and_from _ _ (is_name_byte-digit (48 + n) (digit_is_digit n h)) refl;
}

-- a name, and more bytes of names
IsName-more : (xs ys : List ℕ) → IsName xs → list_all is_name_byte ys ≡ true → IsName (xs ++ ys)
IsName-more [] ys h k = let e = h.digit in absurd (cc)
IsName-more (c ∷ cs) ys h k = record {
  digit = h.digit;
  bytes = list_all-append is_name_byte (c ∷ cs) ys ∙ and_from _ _ h.bytes k;
}

pub IsName-decimal : (n : ℕ) → n < 2 ^ 64 → IsName (decimal n)
IsName-decimal = decimal_by_steps (λ _ ds. IsName ds) IsName-one
    (λ n ds big h. IsName-more ds _ h (and_from _ _ (is_name_byte-digit (48 + n % 10) (digit_is_digit (n % 10) (omega arith))) refl))

IsName-join : (c : ℕ) (xs ys : List ℕ) → is_name_byte c ≡ true → IsName xs → IsName ys → IsName (xs ++ c ∷ ys)
IsName-join c xs ys d h k = IsName-more xs (c ∷ ys) h (and_from _ _ d k.bytes)

IsName-span : (lo hi : ℕ) → lo < 2 ^ 64 → hi < 2 ^ 64 → IsName (span_text lo hi)
IsName-span lo hi h k = IsName-join 45 _ _ refl (IsName-decimal lo h) (IsName-decimal hi k)

pub IsName-chunk : (b : Box3) → IsBox b → IsName (chunk_name b)
IsName-chunk b h =
    IsName-join 95 _ _ refl (IsName-span b.lo.x b.hi.x (omega arith) (omega arith))
    (IsName-join 95 _ _ refl (IsName-span b.lo.y b.hi.y (omega arith) (omega arith)) (IsName-span b.lo.z b.hi.z (omega arith) (omega arith)))

segment_byte : (c : ℕ) → is_name_byte c ≡ true → is_segment_byte c ≡ true
segment_byte c h = grind (arith, nat_tests)

segment_bytes : (text : List ℕ) → list_all is_name_byte text ≡ true → list_all is_segment_byte text ≡ true
segment_bytes [] h = refl
segment_bytes (c ∷ cs) h = let p = and_parts _ _ h in and_from _ _ (segment_byte c p.0) (segment_bytes cs p.1)

opens-digit : (c : ℕ) → within 48 57 c ≡ true → not (c == 46 || c == 45) ≡ true
opens-digit c h = grind (arith, nat_tests)

pub is_segment-name : (text : List ℕ) → IsName text → is_segment text ≡ true
is_segment-name [] h = h.digit
is_segment-name (c ∷ cs) h = and_from _ _ (opens-digit c h.digit) (segment_bytes (c ∷ cs) h.bytes)

no_slash : (c : ℕ) → is_segment_byte c ≡ true → (c == 47) ≡ false
no_slash c h = grind (arith, nat_tests)

-- a segment has one part
one_part : (text : List ℕ) → list_all is_segment_byte text ≡ true → segments text ≡ text ∷ []
one_part [] h = refl
one_part (c ∷ cs) h = let p = and_parts _ _ h in rw (no_slash c p.0, one_part cs p.1) refl

-- a short segment is a path
pub is_path-segment : (text : List ℕ) → length text ≤ 400 → is_segment text ≡ true → is_path text ≡ true
is_path-segment [] short h = absurd (cc)
is_path-segment (c ∷ cs) short h =
    let e : list_all is_segment_byte (c ∷ cs) ≡ true = (and_parts (not (c == 46 || c == 45)) _ h).1 in
    is_path-from (c ∷ cs) short (ap (list_all is_segment) (one_part (c ∷ cs) e) ∙ and_from _ _ h refl)

short : (n : ℕ) → n ≤ 2 ^ 40 → length (decimal n) ≤ 13
short n h = length-decimal-le 13 n (lit< tt) (omega arith) (omega arith)

pub length-chunk_name : (b : Box3) → IsBox b → length (chunk_name b) ≤ 83
length-chunk_name b h =
    simp length-append (omega (arith, short b.lo.x (omega arith), short b.hi.x (omega arith), short b.lo.y (omega arith), short b.hi.y (omega arith), short b.lo.z (omega arith), short b.hi.z (omega arith)))

pub is_segment-chunk_name : (b : Box3) → IsBox b → is_segment (chunk_name b) ≡ true
is_segment-chunk_name b h = is_segment-name _ (IsName-chunk b h)

pub begins_with_digit-chunk_name : (b : Box3) → IsBox b → begins_with_digit (chunk_name b) ≡ true
begins_with_digit-chunk_name b h = (IsName-chunk b h).digit

pub is_path-chunk_name : (b : Box3) → IsBox b → is_path (chunk_name b) ≡ true
is_path-chunk_name b h = is_path-segment _ (omega (arith, length-chunk_name b h)) (is_segment-chunk_name b h)
