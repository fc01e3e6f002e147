use Rattle.std.proofs.Common.{◌≡◌, true, sym, ◌∙◌, subst, refl}
use Rattle.std.specs.Fmt.{decimal}
use Rattle.ig_space.specs.Chunk.{lacks}
use Rattle.ig_space.specs.ChunksApart.{cut_once, lacks-decimal, not_dash}
use Rattle.ig_space.proofs.Parts.{lacks-not}
use Rattle.ig_space.proofs.chunk.parse_span.Goals as goal

pub returns-in_err-lo-clause-none : goal.returns-in_err-lo-clause-none
returns-in_err-lo-clause-none c = λ _ lo hi l h e. lacks-not 45 (decimal lo) (decimal hi) (subst (λ t. lacks 45 t ≡ true) e (c.in_err-lo.ensures.none refl))

pub returns-in_err-parse_decimal-clause-none : goal.returns-in_err-parse_decimal-clause-none
returns-in_err-parse_decimal-clause-none c = λ _ lo hi l h e.
    c.in_err-parse_decimal.ensures.none refl lo l
    (cut_once 45 c.in_ok-lo.lo.now (decimal lo) c.in_ok-lo.hi.now (decimal hi) c.in_ok-lo.ensures.first (lacks-decimal 45 lo not_dash l) (sym c.in_ok-lo.ensures.whole ∙ e)).0

pub returns-in_err-parse_decimal-2-clause-none : goal.returns-in_err-parse_decimal-2-clause-none
returns-in_err-parse_decimal-2-clause-none c = λ _ lo hi l h e.
    c.in_err-parse_decimal-2.ensures.none refl hi h
    (cut_once 45 c.in_ok-lo.lo.now (decimal lo) c.in_ok-lo.hi.now (decimal hi) c.in_ok-lo.ensures.first (lacks-decimal 45 lo not_dash l) (sym c.in_ok-lo.ensures.whole ∙ e)).1
