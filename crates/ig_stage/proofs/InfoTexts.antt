-- Bytes that are read as an info are UTF-8.
use Rattle.std.proofs.Common.{◌≡◌, ℕ, Bool, true, false, if◌then◌else◌, List, Option, None, Some, Ok, refl, ap, sym, ◌∙◌}
use Rattle.std.specs.Str.{is_utf8}
use Rattle.serde_json.specs.Data.{Data}
use Rattle.serde_json.specs.Read.{read}
use Rattle.ig_info.specs.declared.error.InfoError.TheVariants.{NotJson}
use Rattle.ig_info.specs.Answer.{◌>>=◌, or_error}
use Rattle.ig_info.specs.Info.{InfoData}
use Rattle.ig_info.specs.Reading.{info_in, info_of}
use Rattle.ig_info.specs.Whole.{parsed}

utf8-parsed : (bytes : List ℕ) (b : Bool) (d : Data) → is_utf8 bytes ≡ b → parsed bytes ≡ Some d → is_utf8 bytes ≡ true
unfolding parsed
utf8-parsed bytes true d is e = is
utf8-parsed bytes false d is e =
    let none : None ≡ Some d = sym (ap (λ b. if b then read bytes else None) is) ∙ e in
    let no_way : ⊥ = cc in absurd no_way

utf8-found : (bytes : List ℕ) (i : InfoData) (d : Option Data) → parsed bytes ≡ d → (or_error NotJson d >>= info_of) ≡ Ok i → is_utf8 bytes ≡ true
utf8-found bytes i None is e = let no_way : ⊥ = cc in absurd no_way
utf8-found bytes i (Some d) is e = utf8-parsed bytes (is_utf8 bytes) d refl is

pub utf8-info : (bytes : List ℕ) (i : InfoData) → info_in bytes ≡ Ok i → is_utf8 bytes ≡ true
unfolding info_in
utf8-info bytes i e = utf8-found bytes i (parsed bytes) refl e
