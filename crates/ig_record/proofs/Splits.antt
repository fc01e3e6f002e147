-- Texts that are joined, and texts that are split.
use Rattle.std.proofs.Common.{◌≡◌, ◌≤◌, ◌<◌, ◌+◌, ◌==◌, ℕ, suc, Bool, true, false, ◌&&◌, ◌||◌, nat_eq, List, [], ◌∷◌, ◌++◌, length, get_or, take, drop, bytes_eq, Result, Ok, Err, MatchResult, is_ok, IsUtf8, arith, refl, sym, ap, ap₂, ◌∙◌, drop-cons, take-suc, take_all, le_refl, ◌-◌, ne_eqb, eq-eqb}
use Rattle.std.proofs.lemmas.Slice.Eq.{bytes_eq-Decides}
use Rattle.std.proofs.lemmas.Str.{is_utf8-from_IsUtf8, IsUtf8-from_is_utf8}
use Rattle.std.specs.Str.{is_utf8}
use Rattle.ig_record.specs.Sound.{some_split}

and_assoc : (a b c : Bool) → (a && (b && c)) ≡ ((a && b) && c)
and_assoc true b c = refl
and_assoc false b c = refl

-- ---- equal texts

-- where one is true, the other is
same_test : (a b : Bool) → (a ≡ true → b ≡ true) → (b ≡ true → a ≡ true) → a ≡ b
same_test true b f g = sym (f refl)
same_test false true f g = g refl
same_test false false f g = refl

pub bytes_eq-sym : (xs ys : List ℕ) → bytes_eq xs ys ≡ bytes_eq ys xs
bytes_eq-sym xs ys =
    same_test _ _ (λ e. (bytes_eq-Decides ys xs).1 (sym ((bytes_eq-Decides xs ys).0 e))) (λ e. (bytes_eq-Decides xs ys).1 (sym ((bytes_eq-Decides ys xs).0 e)))

-- two texts, one after the other, where the text is long enough
pub bytes_eq-append : (front back text : List ℕ) → length front ≤ length text → bytes_eq (front ++ back) text ≡ (bytes_eq front (take (length front) text) && bytes_eq back (drop (length front) text))
bytes_eq-append [] back text h = refl
bytes_eq-append (c ∷ front) back [] h = absurd (omega arith)
bytes_eq-append (c ∷ front) back (d ∷ text) h =
    ap (λ b. nat_eq c d && b) (bytes_eq-append front back text (omega (arith, h))) ∙ and_assoc (nat_eq c d) _ _

pub bytes_eq-short : (front back text : List ℕ) → length text < length front → bytes_eq (front ++ back) text ≡ false
bytes_eq-short [] back text h = absurd (omega (arith, h))
bytes_eq-short (c ∷ front) back [] h = refl
bytes_eq-short (c ∷ front) back (d ∷ text) h = short_here (nat_eq c d) _ (bytes_eq-short front back text (omega (arith, h)))
  where
    short_here : (a b : Bool) → b ≡ false → (a && b) ≡ false
    short_here true b e = e
    short_here false b e = refl

pub joined-parts : (dir back text front : List ℕ) (first rest : Bool) → length dir ≤ length text → front ≡ take (length dir) text → first ≡ bytes_eq front dir → rest ≡ bytes_eq back (drop (length dir) text)
    → (first && rest) ≡ bytes_eq (dir ++ back) text
joined-parts dir back text front first rest long is a b =
    ap₂ (λ x y. x && y) (a ∙ bytes_eq-sym front dir ∙ ap (bytes_eq dir) is) b ∙ sym (bytes_eq-append dir back text long)

pub joined-other : (dir back text front : List ℕ) (first : Bool) → length dir ≤ length text → front ≡ take (length dir) text → first ≡ bytes_eq front dir → first ≡ false
    → first ≡ bytes_eq (dir ++ back) text
joined-other dir back text front first long a b false_is =
    false_is ∙ ap (λ x. x && bytes_eq back (drop (length dir) text)) (sym false_is) ∙ joined-parts dir back text front first _ long a b refl

-- `/` and a name
pub name-parts : (name text rest : List ℕ) (same : Bool) → 1 ≤ length text → get_or text 0 0 ≡ 47 → rest ≡ take (length text - 1) (drop 1 text) → same ≡ bytes_eq rest name → same ≡ bytes_eq (47 ∷ name) text
name-parts name [] rest same some slash is e = absurd (omega (arith, some))
name-parts name (c ∷ text) rest same some slash is e =
    let all : take (suc (length text) - 1) text ≡ text = ap (λ n. take n text) (omega arith) ∙ take_all (length text) text (le_refl (length text)) in
    e ∙ bytes_eq-sym rest name ∙ ap (bytes_eq name) (is ∙ all) ∙ ap (λ b. b && bytes_eq name text) (sym (eq-eqb 47 c (sym slash)))

-- ---- UTF-8

pub utf8-tested : {X E : Type 0} (bytes : List ℕ) (r : Result X E) (same : X → List ℕ) (P : E → Type 0) → MatchResult r (λ x. (same x ≡ bytes) × IsUtf8 bytes) (λ e. (IsUtf8 bytes → ⊥) × P e) → is_ok r ≡ is_utf8 bytes
utf8-tested bytes (Ok x) same P h = sym (is_utf8-from_IsUtf8 bytes h.1)
utf8-tested bytes (Err e) same P h = same_test false (is_utf8 bytes) (λ z. absurd cc) (λ z. absurd (h.0 (IsUtf8-from_is_utf8 bytes z)))

-- ---- each `/` of a text

pub split-step : (test : List ℕ → List ℕ → Bool) (text : List ℕ) (i : ℕ) → i < length text
    → some_split test (take i text) (drop i text) ≡ (get_or text i 0 == 47 && test (take i text) (drop (i + 1) text) || some_split test (take (i + 1) text) (drop (i + 1) text))
split-step test text i h =
    let next : suc i ≡ i + 1 = omega arith in
    let rest : drop i text ≡ get_or text i 0 ∷ drop (i + 1) text = drop-cons text i 0 h ∙ ap (λ k. get_or text i 0 ∷ drop k text) next in
    let front : take i text ++ get_or text i 0 ∷ [] ≡ take (i + 1) text = sym (take-suc text i 0 h) ∙ ap (λ k. take k text) next in
    ap (some_split test (take i text)) rest
    ∙ ap (λ begin. get_or text i 0 == 47 && test (take i text) (drop (i + 1) text) || some_split test begin (drop (i + 1) text)) front

-- one is found here
pub split-found : (whole : Bool) (test : List ℕ → List ℕ → Bool) (text : List ℕ) (i : ℕ) → i < length text → whole ≡ some_split test (take i text) (drop i text)
    → get_or text i 0 ≡ 47 → test (take i text) (drop (i + 1) text) ≡ true → true ≡ whole
split-found whole test text i h e slash passes =
    sym (e ∙ split-step test text i h ∙ ap₂ (λ a b. a && b || some_split test (take (i + 1) text) (drop (i + 1) text)) (eq-eqb (get_or text i 0) 47 slash) passes)

-- none is found here
pub split-not_slash : (whole : Bool) (test : List ℕ → List ℕ → Bool) (text : List ℕ) (i : ℕ) → i < length text → whole ≡ some_split test (take i text) (drop i text)
    → (get_or text i 0 ≡ 47 → ⊥) → whole ≡ some_split test (take (i + 1) text) (drop (i + 1) text)
split-not_slash whole test text i h e other =
    e ∙ split-step test text i h ∙ ap (λ a. a && test (take i text) (drop (i + 1) text) || some_split test (take (i + 1) text) (drop (i + 1) text)) (ne_eqb (get_or text i 0) 47 other)

not_here : (a b : Bool) → b ≡ false → (a && b) ≡ false
not_here true b e = e
not_here false b e = refl

pub split-fails : (whole : Bool) (test : List ℕ → List ℕ → Bool) (text : List ℕ) (i : ℕ) → i < length text → whole ≡ some_split test (take i text) (drop i text)
    → test (take i text) (drop (i + 1) text) ≡ false → whole ≡ some_split test (take (i + 1) text) (drop (i + 1) text)
split-fails whole test text i h e fails =
    e ∙ split-step test text i h ∙ ap (λ a. a || some_split test (take (i + 1) text) (drop (i + 1) text)) (not_here (get_or text i 0 == 47) _ fails)
