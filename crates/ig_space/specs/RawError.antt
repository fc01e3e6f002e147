-- Why a volume has no raw text: this project's own.
use Rattle.std.specs.Prelude.{ℕ, List}
use Rattle.ig_space.specs.declared.geometry.Width.{Width}
use Rattle.ig_space.specs.declared.raw.RawError.{RawError}
use Rattle.ig_space.specs.declared.raw.RawError.TheVariants.{ValueTooWide, Memory}
use Rattle.ig_space.specs.Raw.{IsFirstTooWide}

-- the refusal is right: the label that it names is the first that does not fit; want of memory may always come
abbrev pub Explains : Width → List ℕ → RawError → Type 0
Explains width labels (ValueTooWide index) = IsFirstTooWide width labels index
Explains width labels Memory = Unit {0}
