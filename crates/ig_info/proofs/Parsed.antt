-- What `serde_json` says of the bytes that it reads.
use Rattle.std.proofs.Common.{◌≡◌, ℕ, List, Bool, true, false, Some, None, Ok, String, Global, string_bytes, refl, ap, ◌∙◌, cond}
use Rattle.std.proofs.lemmas.Str.{is_utf8-from_IsUtf8, IsUtf8-from_is_utf8, IsUtf8-string_bytes}
use Rattle.std.specs.Str.{IsUtf8, is_utf8}
use Rattle.serde_json.specs.Data.{Data}
use Rattle.serde_json.specs.Read.{read}
use Rattle.ig_info.specs.Whole.{parsed}
use Rattle.ig_info.specs.Info.{InfoData}
use Rattle.ig_info.specs.Reading.{IsInfo, info_in, info_of}

pub parsed-some : (bytes : List ℕ) (d : Data) → IsUtf8 bytes → read bytes ≡ Some d → parsed bytes ≡ Some d
unfolding parsed
parsed-some bytes d u e = rw (is_utf8-from_IsUtf8 bytes u) e

none_either : (bytes : List ℕ) (b : Bool) → is_utf8 bytes ≡ b → (IsUtf8 bytes → read bytes ≡ None) → cond b (read bytes) None ≡ None
none_either bytes true e h = h (IsUtf8-from_is_utf8 bytes e)
none_either bytes false e h = refl

pub parsed-none : (bytes : List ℕ) → (IsUtf8 bytes → read bytes ≡ None) → parsed bytes ≡ None
unfolding parsed
parsed-none bytes h = none_either bytes _ refl h

-- the text of a string is read as what it was written for
parsed-written : (text : String Global) (bytes : List ℕ) (d e : Data) → bytes ≡ string_bytes text → read (string_bytes text) ≡ Some d → d ≡ e → parsed bytes ≡ Some e
parsed-written text bytes d e same written is = rw same (parsed-some (string_bytes text) e (IsUtf8-string_bytes text) (written ∙ ap Some is))

info_in-parsed : (bytes : List ℕ) (d : Data) → parsed bytes ≡ Some d → info_in bytes ≡ info_of d
unfolding info_in
info_in-parsed bytes d e = rw e refl

-- and gives the info that these members give
pub info_in-written : (text : String Global) (bytes : List ℕ) (d e : Data) → bytes ≡ string_bytes text → read (string_bytes text) ≡ Some d → d ≡ e → info_in bytes ≡ info_of e
info_in-written text bytes d e same written is = info_in-parsed bytes e (parsed-written text bytes d e same written is)

-- each text of the members of an info is read as that info
pub IsInfo-back : (i : InfoData) → IsInfo i → (bytes : List ℕ) → parsed bytes ≡ Some i.members → info_in bytes ≡ Ok i
IsInfo-back i is bytes e = info_in-parsed bytes i.members e ∙ is.reads_back
