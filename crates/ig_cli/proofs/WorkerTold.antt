-- What was told of the moves but the last, and of the last one.
use Rattle.std.proofs.Common.{◌≡◌, ◌≤◌, ◌⊎◌, ℕ, List, [], ◌∷◌, ◌++◌, length, refl, ap, sym, subst, ◌∙◌, append_assoc, append-nil, arith, inl, inr}
use Rattle.ig_store.specs.Sink.{TakesPrefix}
use Rattle.ig_worker.specs.declared.turn.Line.{Line}
use Rattle.ig_worker.specs.Course.{said_of}
use Rattle.ig_worker.specs.Lines.{line_text, lines_text}
use Rattle.ig_worker.specs.Moves.{Move}
use Rattle.ig_cli.specs.Worked.{SaysAtFault, SaysLines, SaysToLast, but_last, said_last}
use Rattle.ig_cli.proofs.WorkerTexts.{line_part, lines_part, lines_text-append, part_after, then_text}

-- ---- lists
-- Of two lists that together are two others, the first one goes on after the first of those by a first part of the second.
pub record Splits (first last said more : List Line) : Type 0 where
  pub told : List Line
  pub is : said ≡ first ++ told
  pub rest : told ++ more ≡ last

same_first : (x y : Line) (xs ys : List Line) → x ∷ xs ≡ y ∷ ys → x ≡ y
same_first x y xs ys is = cc

same_rest : (x y : Line) (xs ys : List Line) → x ∷ xs ≡ y ∷ ys → xs ≡ ys
same_rest x y xs ys is = cc

one_shorter : (x y : Line) (xs ys : List Line) → length (x ∷ xs) ≤ length (y ∷ ys) → length xs ≤ length ys
one_shorter x y xs ys long = omega (arith, long)

no_longer : (x : Line) (xs : List Line) → length (x ∷ xs) ≤ 0 → ⊥
no_longer x xs long = omega (arith, long)

splits : (first last said more : List Line) → said ++ more ≡ first ++ last → length first ≤ length said → Splits first last said more
splits [] last said more is long = record { told = said; is = refl; rest = is }
splits (x ∷ first) last [] more is long = absurd (no_longer x first long)
splits (x ∷ first) last (y ∷ said) more is long =
    let s = splits first last said more (same_rest y x (said ++ more) (first ++ last) is) (one_shorter x y first said long) in
    record {
      told = s.told;
      is = ap (λ z. z ∷ said) (same_first y x (said ++ more) (first ++ last) is) ∙ ap (λ ls. x ∷ ls) s.is;
      rest = s.rest;
    }

pub to_the_last : (ms : List Move) → said_of (but_last ms) ++ said_last ms ≡ said_of ms
to_the_last [] = refl
to_the_last (m ∷ []) = sym (append-nil m.said)
to_the_last (m ∷ next ∷ ms) = append_assoc m.said (said_of (but_last (next ∷ ms))) (said_last (next ∷ ms)) ∙ ap (λ ls. m.said ++ ls) (to_the_last (next ∷ ms))

-- what was told of the last move
pub told_of : (ms : List Move) (said more : List Line) → said ++ more ≡ said_of ms → length (said_of (but_last ms)) ≤ length said → Splits (said_of (but_last ms)) (said_last ms) said more
told_of ms said more is most = splits (said_of (but_last ms)) (said_last ms) said more (is ∙ sym (to_the_last ms)) most

-- ---- texts
-- lines after others
pub text_after : (before now : List ℕ) (first told : List Line) → SaysLines (first ++ told) before now → now ≡ (before ++ lines_text first) ++ lines_text told
text_after before now first told says = says ∙ ap (λ xs. before ++ xs) (lines_text-append first told) ∙ sym (append_assoc before (lines_text first) (lines_text told))

pub says_same : (lines others : List Line) (before now : List ℕ) → lines ≡ others → SaysLines lines before now → SaysLines others before now
says_same lines others before now same says = says ∙ ap (λ ls. before ++ lines_text ls) same

module _ (ms : List Move) (text before : List ℕ) where
  -- these lines of the last move were told, all of them
  pub whole_lines : (now : List ℕ) (told more : List Line) → told ++ more ≡ said_last ms → SaysLines (said_of (but_last ms) ++ told) before now → SaysToLast ms text before now
  whole_lines now told more is says =
      then_text (before ++ lines_text (said_of (but_last ms))) (lines_text (said_last ms)) text now
      (lines_part (before ++ lines_text (said_of (but_last ms))) now told more (said_last ms) is (text_after before now (said_of (but_last ms)) told says))

  -- of the line after them a first part
  pub cut_line : (mid now : List ℕ) (told more : List Line) (l : Line) → told ++ l ∷ more ≡ said_last ms → SaysLines (said_of (but_last ms) ++ told) before mid → TakesPrefix mid (line_text l) now
      → SaysToLast ms text before now
  cut_line mid now told more l is says part =
      then_text (before ++ lines_text (said_of (but_last ms))) (lines_text (said_last ms)) text now
      (line_part (before ++ lines_text (said_of (but_last ms))) mid now told l more (said_last ms) (append_assoc told (l ∷ []) more ∙ is) (text_after before mid (said_of (but_last ms)) told says) part)

  pub all_lines : (now : List ℕ) → SaysLines (said_of ms) before now → SaysToLast ms text before now
  all_lines now says =
      whole_lines now (said_last ms) [] (append-nil (said_last ms)) (says_same (said_of ms) (said_of (but_last ms) ++ said_last ms) before now (sym (to_the_last ms)) says)

  -- of the last move nothing was told
  pub but_last_lines : (now : List ℕ) → SaysLines (said_of (but_last ms)) before now → SaysToLast ms text before now
  but_last_lines now says = whole_lines now [] (said_last ms) refl (says_same (said_of (but_last ms)) (said_of (but_last ms) ++ []) before now (sym (append-nil (said_of (but_last ms)))) says)

  pub fault_lines : (now : List ℕ) → SaysAtFault ms before now → SaysToLast ms text before now
  fault_lines now (inl says) = all_lines now says
  fault_lines now (inr (moved, says)) = but_last_lines now says

  -- all lines, and a first part of this text
  pub cut_text : (mid now : List ℕ) → SaysLines (said_of ms) before mid → TakesPrefix mid text now → SaysToLast ms text before now
  cut_text mid now says part =
      let told = text_after before mid (said_of (but_last ms)) (said_last ms) (says_same (said_of ms) (said_of (but_last ms) ++ said_last ms) before mid (sym (to_the_last ms)) says) in
      subst (λ t. TakesPrefix (before ++ lines_text (said_of (but_last ms))) (lines_text (said_last ms) ++ t) now) (append-nil text)
      (part_after (before ++ lines_text (said_of (but_last ms))) (lines_text (said_last ms)) text [] now (subst (λ b. TakesPrefix b text now) told part))

-- the same with another text after it
pub with_text : (ms : List Move) (text before now : List ℕ) → SaysToLast ms [] before now → SaysToLast ms text before now
with_text ms text before now says =
    let first = before ++ lines_text (said_of (but_last ms)) in
    let last = lines_text (said_last ms) in
    subst (λ t. TakesPrefix first (t ++ text) now) (append-nil last) (then_text first (last ++ []) text now says)
