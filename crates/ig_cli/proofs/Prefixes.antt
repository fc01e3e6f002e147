-- A path that lies in a directory: the directory stands at its front, and then a slash.
use Rattle.std.proofs.Common.{◌≡◌, ◌+◌, ◌==◌, ℕ, suc, Bool, true, false, ◌&&◌, List, [], ◌∷◌, ◌++◌, length, take, drop, refl, ap, sym, ◌∙◌, arith}
use Rattle.std.specs.Str.{bytes_eq}
use Rattle.ig_meaning.specs.Options.{begins_with}
use Rattle.ig_meaning.specs.QueueWords.{holds}

and_true : (b : Bool) → (b && true) ≡ b
and_true true = refl
and_true false = refl

and_assoc : (a b c : Bool) → (a && (b && c)) ≡ ((a && b) && c)
and_assoc true b c = refl
and_assoc false b c = refl

slash_first : (path : List ℕ) → bytes_eq (take 1 path) (47 ∷ []) ≡ begins_with 47 path
slash_first [] = refl
slash_first (c ∷ path) = and_true (c == 47)

holds_parts : (dir path : List ℕ) → holds dir path ≡ (bytes_eq (take (length dir) path) dir && begins_with 47 (drop (length dir) path))
holds_parts [] path = slash_first path
holds_parts (d ∷ dir) [] =
    let on : length (d ∷ dir) + 1 ≡ suc (length dir + 1) = omega arith in
    ap (λ n. bytes_eq (take n []) (d ∷ dir ++ 47 ∷ [])) on
holds_parts (d ∷ dir) (c ∷ path) =
    let on : length (d ∷ dir) + 1 ≡ suc (length dir + 1) = omega arith in
    ap (λ n. bytes_eq (take n (c ∷ path)) (d ∷ dir ++ 47 ∷ [])) on
    ∙ ap (λ b. (c == d) && b) (holds_parts dir path)
    ∙ and_assoc (c == d) (bytes_eq (take (length dir) path) dir) (begins_with 47 (drop (length dir) path))

module _ (dir path front whole : List ℕ) (front_is : front ≡ dir) (whole_is : whole ≡ path) where
  there : (bytes_eq (take (length front) whole) front && begins_with 47 (drop (length front) whole)) ≡ holds dir path
  there = sym (holds_parts front whole) ∙ (λ i. holds (front_is i) (whole_is i))

  pub in_front : (rest : List ℕ) → bytes_eq (take (length front) whole) front ≡ true → rest ≡ drop (length front) whole → begins_with 47 rest ≡ holds dir path
  in_front rest stands is = ap (begins_with 47) is ∙ ap (λ b. b && begins_with 47 (drop (length front) whole)) (sym stands) ∙ there

  pub not_in_front : bytes_eq (take (length front) whole) front ≡ false → false ≡ holds dir path
  not_in_front absent = ap (λ b. b && begins_with 47 (drop (length front) whole)) (sym absent) ∙ there
