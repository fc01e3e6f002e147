use Rattle.std.proofs.Common.{arith, sym, ◌∙◌, subst, true≢false}
use Rattle.ig_space.specs.Grid.{IsBox}
use Rattle.ig_space.specs.ChunksApart.{IsSmall, chunk_name-apart, chunk_name-injective, small}
use Rattle.ig_space.proofs.chunk.parse_chunk_name.Goals as goal

pub returns-else-is_box-clause-none : goal.returns-else-is_box-clause-none
returns-else-is_box-clause-none c = λ _ b box e.
    let area = c.in_ok-area.area in
    let s : IsSmall area = record { lx = omega arith; hx = omega arith; ly = omega arith; hy = omega arith; lz = omega arith; hz = omega arith } in
    let same = chunk_name-apart area b s (small b box) (sym c.in_ok-area.ensures.some ∙ e) in
    true≢false (sym (c.is_box.ensures.1 (subst (λ a. IsBox a) (sym same) box)) ∙ c.if-is_box.false)

pub returns-then-is_box-clause-back : goal.returns-then-is_box-clause-back
returns-then-is_box-clause-back c = λ b box e.
    chunk_name-injective c.in_ok-area.area b (c.is_box.ensures.0 c.if-is_box.true) box (sym c.in_ok-area.ensures.some ∙ e)
