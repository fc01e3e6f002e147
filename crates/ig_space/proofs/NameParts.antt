-- The parts of a chunk's name, as they are cut.
use Rattle.std.proofs.Common.{◌≡◌, true, List, ℕ, ◌∷◌, ◌++◌, sym, ◌∙◌, subst}
use Rattle.ig_space.specs.Chunk.{chunk_name, lacks, span_text}
use Rattle.ig_space.specs.Grid.{IsBox}
use Rattle.ig_space.specs.declared.point.Box3.{Box3}
use Rattle.ig_space.specs.ChunksApart.{cut_once, lacks-span, small}
use Rattle.ig_space.proofs.Parts.{lacks-not}

-- the texts of the three axes
abbrev pub x_text : Box3 → List ℕ
x_text b = span_text b.lo.x b.hi.x

abbrev pub y_text : Box3 → List ℕ
y_text b = span_text b.lo.y b.hi.y

abbrev pub z_text : Box3 → List ℕ
z_text b = span_text b.lo.z b.hi.z

pub x-cut : (b : Box3) → IsBox b → (text x rest : List ℕ) → text ≡ x ++ 95 ∷ rest → lacks 95 x ≡ true → text ≡ chunk_name b → (x ≡ x_text b) × (rest ≡ y_text b ++ 95 ∷ z_text b)
x-cut b box text x rest whole first e =
    let s = small b box in
    cut_once 95 x (x_text b) rest (y_text b ++ 95 ∷ z_text b) first (lacks-span b.lo.x b.hi.x s.lx s.hx) (sym whole ∙ e)

pub y-cut : (b : Box3) → IsBox b → (rest y z : List ℕ) → rest ≡ y ++ 95 ∷ z → lacks 95 y ≡ true → rest ≡ y_text b ++ 95 ∷ z_text b → (y ≡ y_text b) × (z ≡ z_text b)
y-cut b box rest y z whole first e =
    let s = small b box in
    cut_once 95 y (y_text b) z (z_text b) first (lacks-span b.lo.y b.hi.y s.ly s.hy) (sym whole ∙ e)

-- a name can be cut twice
pub x-stands : (b : Box3) (text : List ℕ) → lacks 95 text ≡ true → text ≡ chunk_name b → ⊥
x-stands b text none e = lacks-not 95 (x_text b) (y_text b ++ 95 ∷ z_text b) (subst (λ t. lacks 95 t ≡ true) e none)

pub y-stands : (b : Box3) (rest : List ℕ) → lacks 95 rest ≡ true → rest ≡ y_text b ++ 95 ∷ z_text b → ⊥
y-stands b rest none e = lacks-not 95 (y_text b) (z_text b) (subst (λ t. lacks 95 t ≡ true) e none)
