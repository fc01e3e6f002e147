-- Why labels have no compressed text.
use Rattle.std.specs.Prelude.{ℕ, List}
use Rattle.ig_space.specs.declared.geometry.Width.{Width}
use Rattle.ig_space.specs.Raw.{IsFirstTooWide}
use Rattle.ig_cseg.specs.declared.error.EncodeError.{EncodeError}
use Rattle.ig_cseg.specs.declared.error.EncodeError.TheVariants.{ValueTooWide, Memory}

-- the error names the first label that is too wide; memory may run out at any place
abbrev pub Explains : Width → List ℕ → EncodeError → Type 0
Explains width labels (ValueTooWide index) = IsFirstTooWide width labels index
Explains width labels Memory = Unit {0}
