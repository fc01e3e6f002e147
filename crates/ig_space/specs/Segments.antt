-- What a loop over the bytes of a text knows of its segments.
use Rattle.std.proofs.lemmas.Bool.{and_parts, and_from, leb-true, le-leb}
use Rattle.std.proofs.Common.{length-append, arith, ◌≤◌, nat_le, ◌≡◌, ◌<◌, ◌+◌, suc, add-one, sym, ◌∙◌, get_or, drop, length, ℕ, ◌&&◌, ◌||◌, ◌==◌, Bool, true, false, not, List, [], ◌∷◌, refl, ap, if◌then◌else◌}
use Rattle.std.proofs.Math.Bool.{and-true}
use Rattle.std.proofs.Math.Seq.{drop-cons}
use Rattle.std.specs.List.{list_all}
use Rattle.ig_space.specs.Path.{is_path, is_segment, is_segment_byte, segments, with_first, joined}

-- the first part only goes on a segment that began before
abbrev pub rest_passes : List (List ℕ) → Bool
rest_passes [] = true
rest_passes (s ∷ ss) = list_all is_segment_byte s && list_all is_segment ss

-- the rest of the text makes segments, where one begins here or goes on
abbrev pub goes_on : Bool → List ℕ → Bool
goes_on true xs = list_all is_segment (segments xs)
goes_on false xs = rest_passes (segments xs)

abbrev pub opens : ℕ → Bool
opens c = not (c == 46 || c == 45)

regroup : (a b x y : Bool) → ((a && (b && x)) && y) ≡ ((b && a) && (x && y))
regroup true true x y = refl
regroup true false x y = refl
regroup false true x y = refl
regroup false false x y = refl

first_is : (c : ℕ) (ss : List (List ℕ)) → list_all is_segment (with_first c ss) ≡ ((is_segment_byte c && opens c) && rest_passes ss)
first_is c [] = regroup (opens c) (is_segment_byte c) true true
first_is c (s ∷ ss) = regroup (opens c) (is_segment_byte c) (list_all is_segment_byte s) (list_all is_segment ss)

and_assoc : (a x y : Bool) → ((a && x) && y) ≡ (a && (x && y))
and_assoc true x y = refl
and_assoc false x y = refl

later_is : (c : ℕ) (ss : List (List ℕ)) → rest_passes (with_first c ss) ≡ (is_segment_byte c && rest_passes ss)
later_is c [] = and_assoc (is_segment_byte c) true true
later_is c (s ∷ ss) = and_assoc (is_segment_byte c) (list_all is_segment_byte s) (list_all is_segment ss)

-- whether this byte may come next
abbrev pub may_come : Bool → ℕ → Bool
may_come begins c = if c == 47 then not begins else (is_segment_byte c && not (begins && (c == 46 || c == 45)))

-- one byte of the text
one : (begins : Bool) (c : ℕ) (cs : List ℕ) (slash : Bool) → (c == 47) ≡ slash → goes_on begins (c ∷ cs) ≡ (may_come begins c && goes_on slash cs)
one true c cs true e = rw e refl
one false c cs true e = rw e refl
one true c cs false e = rw e (first_is c (segments cs))
one false c cs false e = rw e (later_is c (segments cs) ∙ ap (λ b. b && rest_passes (segments cs)) (sym (and-true (is_segment_byte c))))

-- one byte more of the text
pub step : (begins : Bool) (text : List ℕ) (i : ℕ) → i < length text
    → goes_on begins (drop i text) ≡ (may_come begins (get_or text i 0) && goes_on (get_or text i 0 == 47) (drop (i + 1) text))
step begins text i h = rw (drop-cons text i 0, add-one) (one begins (get_or text i 0) (drop (suc i) text) (get_or text i 0 == 47) refl)

-- the first byte that may not come
pub stops : (whole : Bool) (begins : Bool) (text : List ℕ) (i : ℕ) → i < length text → whole ≡ goes_on begins (drop i text) → may_come begins (get_or text i 0) ≡ false → false ≡ whole
stops whole begins text i h e refused = let s = step begins text i h in sym (e ∙ s ∙ ap (λ b. b && goes_on (get_or text i 0 == 47) (drop (i + 1) text)) refused)

-- a byte that may come
pub goes : (whole : Bool) (begins : Bool) (text : List ℕ) (i : ℕ) → i < length text → whole ≡ goes_on begins (drop i text) → may_come begins (get_or text i 0) ≡ true → whole ≡ goes_on (get_or text i 0 == 47) (drop (i + 1) text)
goes whole begins text i h e allowed = let s = step begins text i h in e ∙ s ∙ ap (λ b. b && goes_on (get_or text i 0 == 47) (drop (i + 1) text)) allowed

-- a path is short, and of segments
pub is_path-short : (text : List ℕ) → is_path text ≡ true → length text ≤ 400
unfolding is_path
is_path-short text h = leb-true (length text) 400 ((and_parts (nat_le (length text) 400) _ h).0)

pub is_path-segments : (text : List ℕ) → is_path text ≡ true → list_all is_segment (segments text) ≡ true
unfolding is_path
is_path-segments text h = (and_parts (nat_le (length text) 400) _ h).1

pub is_path-from : (text : List ℕ) → length text ≤ 400 → list_all is_segment (segments text) ≡ true → is_path text ≡ true
unfolding is_path
is_path-from text h k = and_from (nat_le (length text) 400) _ (le-leb (length text) 400 h) k

goes_on-joined : (begins : Bool) (dir name : List ℕ) → goes_on begins (joined dir name) ≡ (goes_on begins dir && goes_on true name)
goes_on-joined true [] name = refl
goes_on-joined false [] name = refl
goes_on-joined begins (c ∷ cs) name =
    one begins c (joined cs name) (c == 47) refl ∙ ap (λ b. may_come begins c && b) (goes_on-joined (c == 47) cs name)
    ∙ sym (and_assoc (may_come begins c) (goes_on (c == 47) cs) (goes_on true name))
    ∙ ap (λ b. b && goes_on true name) (sym (one begins c cs (c == 47) refl))

-- a path in a directory, where both are and it is not too long
pub is_path-joined : (dir name : List ℕ) → is_path dir ≡ true → is_path name ≡ true → length (joined dir name) ≤ 400 → is_path (joined dir name) ≡ true
is_path-joined dir name d n short =
    is_path-from (joined dir name) short (goes_on-joined true dir name ∙ and_from _ _ (is_path-segments dir d) (is_path-segments name n))

-- the same, of a text that was joined
pub is_path-joined_text : (text dir name : List ℕ) → text ≡ joined dir name → is_path dir ≡ true → is_path name ≡ true → length dir + length name < 400 → is_path text ≡ true
is_path-joined_text text dir name e d n short = rw e (is_path-joined dir name d n (omega (arith, length-append dir (47 ∷ name))))
