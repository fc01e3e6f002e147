use Rattle.std.proofs.Common.{◌≡◌, ℕ, Option, IfSome, IsNone, sym, ap, ◌∙◌, subst, true≢false}
use Rattle.std.specs.Fmt.{decimal}
use Rattle.ig_space.specs.Chunk.{is_plain}
use Rattle.ig_space.proofs.Decimals.{is_plain-decimal, read-some, read-none}
use Rattle.ig_space.proofs.chunk.parse_decimal.Goals as goal

pub returns-then-not-is_plain-clause-none : goal.returns-then-not-is_plain-clause-none
returns-then-not-is_plain-clause-none c = λ _ n h e.
    true≢false (sym (ap is_plain (c.as_bytes.ensures.value ∙ e) ∙ is_plain-decimal n h) ∙ sym c.if-not-is_plain.ensures)

pub returns-clause-some : goal.returns-clause-some
returns-clause-some c =
    let plain = ap is_plain (sym c.as_bytes.ensures.value) ∙ sym c.if-not-is_plain.ensures in
    let P : Option ℕ → Type 0 = λ o. IfSome o (λ n. c.args.text.now ≡ decimal n) in
    subst P (sym c.ok.ensures.value) (read-some c.args.text.now c.parse.result plain c.parse.ensures.value.0)

pub returns-clause-none : goal.returns-clause-none
returns-clause-none c = λ none n h e.
    read-none c.args.text.now c.parse.result c.parse.ensures.value.0 (subst (λ o. IsNone o) c.ok.ensures.value none) n h e
