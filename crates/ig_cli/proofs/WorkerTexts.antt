-- What the output took of lines.
use Rattle.std.proofs.Common.{◌≡◌, ◌+◌, ℕ, List, [], ◌∷◌, ◌++◌, length, take, zero, suc, refl, ap, sym, subst, ◌∙◌, append_assoc}
use Rattle.std.proofs.Math.Seq.{take-append_seam, take-append-add}
use Rattle.ig_store.specs.Sink.{TakesPrefix}
use Rattle.ig_worker.specs.declared.turn.Line.{Line}
use Rattle.ig_worker.specs.Lines.{line_text, lines_text}

pub lines_text-append : (ls more : List Line) → lines_text (ls ++ more) ≡ lines_text ls ++ lines_text more
lines_text-append [] more = refl
lines_text-append (l ∷ ls) more = ap (λ text. line_text l ++ text) (lines_text-append ls more) ∙ sym (append_assoc (line_text l) (lines_text ls) (lines_text more))

-- a first part of a text is one of a longer text
pub part_longer : (n : ℕ) (text more : List ℕ) → (k : ℕ) × (take n text ≡ take k (text ++ more))
part_longer zero text more = (0, refl)
part_longer (suc n) [] more = (0, refl)
part_longer (suc n) (x ∷ text) more = let p = part_longer n text more in (suc p.0, ap (λ xs. x ∷ xs) p.1)

pub then_text : (before text more now : List ℕ) → TakesPrefix before text now → TakesPrefix before (text ++ more) now
then_text before text more now p = let k = part_longer p.0 text more in (k.0, p.1 ∙ ap (λ xs. before ++ xs) k.1)

-- and, after a text, of both
pub part_after : (before first text more now : List ℕ) → TakesPrefix (before ++ first) text now → TakesPrefix before (first ++ (text ++ more)) now
part_after before first text more now p =
    let k = part_longer p.0 text more in
    (length first + k.0, p.1 ∙ append_assoc before first (take p.0 text) ∙ ap (λ xs. before ++ (first ++ xs)) k.1 ∙ ap (λ xs. before ++ xs) (sym (take-append-add first (text ++ more) k.0)))

-- the first lines are a first part of them all
pub lines_part : (before now : List ℕ) (ls more all : List Line) → ls ++ more ≡ all → now ≡ before ++ lines_text ls → TakesPrefix before (lines_text all) now
lines_part before now ls more all is told = (
  length (lines_text ls),
  told ∙ ap (λ xs. before ++ xs) (sym (take-append_seam (lines_text ls) (lines_text more)))
      ∙ ap (λ text. before ++ take (length (lines_text ls)) text) (sym (lines_text-append ls more) ∙ ap lines_text is),
)

-- of the line after them a first part was taken
pub line_part : (before mid now : List ℕ) (ls : List Line) (l : Line) (more all : List Line) → (ls ++ l ∷ []) ++ more ≡ all → mid ≡ before ++ lines_text ls → TakesPrefix mid (line_text l) now
    → TakesPrefix before (lines_text all) now
line_part before mid now ls l more all is told part =
    subst (λ text. TakesPrefix before text now)
    (sym (lines_text-append ls (l ∷ more)) ∙ ap lines_text (sym (append_assoc ls (l ∷ []) more) ∙ is))
    (part_after before (lines_text ls) (line_text l) (lines_text more) now (subst (λ b. TakesPrefix b (line_text l) now) told part))
