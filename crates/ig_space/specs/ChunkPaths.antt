-- Chunks of other directories, and other chunks of one, have other paths.
use Rattle.std.specs.Prelude.{◌≡◌, ◌<◌, ◌+◌, ◌^◌, ◌==◌, ℕ, true, not, List, [], ◌∷◌, ◌++◌, refl}
use Rattle.std.proofs.Common.{arith, ap, sym, ◌∙◌, true≢false}
use Rattle.std.proofs.lemmas.Bool.{and_from, and_parts}
use Rattle.std.proofs.lemmas.Bool.Decides.{nat_tests}
use Rattle.std.proofs.lemmas.List.{append_cancel_left}
use Rattle.std.proofs.lemmas.List.Folds.{list_all-append}
use Rattle.std.specs.Fmt.{decimal}
use Rattle.ig_space.specs.declared.point.Box3.{Box3}
use Rattle.ig_space.specs.Chunk.{chunk_name, chunk_path, lacks, span_text}
use Rattle.ig_space.specs.ChunksApart.{chunk_name-injective, lacks-decimal, small}
use Rattle.ig_space.specs.Grid.{IsBox}
use Rattle.ig_space.specs.Path.{joined}

lacks-join : (c d : ℕ) (xs ys : List ℕ) → not (d == c) ≡ true → lacks c xs ≡ true → lacks c ys ≡ true → lacks c (xs ++ d ∷ ys) ≡ true
lacks-join c d xs ys other h k = list_all-append (λ x. not (x == c)) xs (d ∷ ys) ∙ and_from _ _ h (and_from _ _ other k)

not_slash : (d : ℕ) → d < 10 → not (48 + d == 47) ≡ true
not_slash d h = grind (arith, nat_tests)

span-lacks : (lo hi : ℕ) → lo < 2 ^ 64 → hi < 2 ^ 64 → lacks 47 (span_text lo hi) ≡ true
span-lacks lo hi h k = lacks-join 47 45 (decimal lo) (decimal hi) refl (lacks-decimal 47 lo not_slash h) (lacks-decimal 47 hi not_slash k)

-- the name of a chunk holds no `/`
pub chunk_name-lacks : (b : Box3) → IsBox b → lacks 47 (chunk_name b) ≡ true
chunk_name-lacks b box =
    let s = small b box in
    lacks-join 47 95 (span_text b.lo.x b.hi.x) (span_text b.lo.y b.hi.y ++ 95 ∷ span_text b.lo.z b.hi.z) refl (span-lacks b.lo.x b.hi.x s.lx s.hx)
    (lacks-join 47 95 (span_text b.lo.y b.hi.y) (span_text b.lo.z b.hi.z) refl (span-lacks b.lo.y b.hi.y s.ly s.hy) (span-lacks b.lo.z b.hi.z s.lz s.hz))

-- a text with a `/` in it
slash_in : (text before after : List ℕ) → lacks 47 text ≡ true → text ≡ before ++ 47 ∷ after → ⊥
slash_in text before after none is =
    let parts = and_parts (lacks 47 before) (lacks 47 (47 ∷ after)) (sym (list_all-append (λ x. not (x == 47)) before (47 ∷ after)) ∙ ap (lacks 47) (sym is) ∙ none) in
    true≢false (sym (and_parts (not (47 == 47)) (lacks 47 after) parts.1).0)

-- names with no `/` that make one path are in one directory
pub joined-dir : (a b n m : List ℕ) → lacks 47 n ≡ true → lacks 47 m ≡ true → joined a n ≡ joined b m → a ≡ b
joined-dir [] [] n m h k e = refl
joined-dir [] (y ∷ ys) n m h k e = let rest : n ≡ ys ++ 47 ∷ m = cc in absurd (slash_in n ys m h rest)
joined-dir (x ∷ xs) [] n m h k e = let rest : m ≡ xs ++ 47 ∷ n = cc in absurd (slash_in m xs n k rest)
joined-dir (x ∷ xs) (y ∷ ys) n m h k e =
    let first : x ≡ y = cc in
    let tail : xs ++ 47 ∷ n ≡ ys ++ 47 ∷ m = cc in
    let rest : xs ≡ ys = joined-dir xs ys n m h k tail in
    cc

-- chunks of one path are in one directory
pub chunk_path-dir : (a b : List ℕ) (c d : Box3) → IsBox c → IsBox d → chunk_path a c ≡ chunk_path b d → a ≡ b
chunk_path-dir a b c d hc hd e = joined-dir a b (chunk_name c) (chunk_name d) (chunk_name-lacks c hc) (chunk_name-lacks d hd) e

tail_is : (x y : ℕ) (xs ys : List ℕ) → x ∷ xs ≡ y ∷ ys → xs ≡ ys
tail_is x y xs ys e = cc

-- and chunks of one path in a directory are one
pub chunk_path-injective : (dir : List ℕ) (c d : Box3) → IsBox c → IsBox d → chunk_path dir c ≡ chunk_path dir d → c ≡ d
chunk_path-injective dir c d hc hd e =
    chunk_name-injective c d hc hd (tail_is 47 47 (chunk_name c) (chunk_name d) (append_cancel_left dir (47 ∷ chunk_name c) (47 ∷ chunk_name d) e))
