-- What a reader returned, by what the bytes give.
use Rattle.std.proofs.Common.{codes, ◌≡◌, ℕ, Bool, true, false, List, Option, Some, None, Result, Ok, Err, IfOk, IfErr, IsUtf8, cond, refl, sym, ◌∙◌}
use Rattle.std.proofs.lemmas.Str.{IsUtf8-from_is_utf8, is_utf8-from_IsUtf8}
use Rattle.std.specs.Str.{is_utf8}
use Rattle.serde_json.specs.Data.{Data}
use Rattle.serde_json.specs.Read.{read}
use Rattle.ig_info.specs.Whole.{parsed}
use Rattle.ig_record.specs.declared.error.RecordError.{RecordError}
use Rattle.ig_record.specs.declared.error.RecordError.TheVariants.{BadRecord, Memory}
use Rattle.ig_record.specs.Answers.{Fails, Gives, IsGiven, Refuses}

-- ---- JSON
pub parsed-some : (bytes : List ℕ) (d : Data) → IsUtf8 bytes → read bytes ≡ Some d → parsed bytes ≡ Some d
unfolding parsed
parsed-some bytes d u e = rw (is_utf8-from_IsUtf8 bytes u) e

none_either : (bytes : List ℕ) (b : Bool) → is_utf8 bytes ≡ b → (IsUtf8 bytes → read bytes ≡ None) → cond b (read bytes) None ≡ None
none_either bytes true e h = h (IsUtf8-from_is_utf8 bytes e)
none_either bytes false e h = refl

pub parsed-none : (bytes : List ℕ) → (IsUtf8 bytes → read bytes ≡ None) → parsed bytes ≡ None
unfolding parsed
parsed-none bytes h = none_either bytes _ refl h

pub still-fails : {X Y : Type 0} (e : RecordError) (a : Option X) (b : Option Y) → b ≡ None → Fails e a → Fails e b
still-fails (BadRecord member) a b none h = (h.0, none)
still-fails Memory a b none h = tt

-- ---- the public clauses
the_some : {X : Type 0} (a b : X) → Some a ≡ Some b → a ≡ b
the_some a b e = cc

pub gives-ok : {X : Type 0} (r : Result X RecordError) (o : Option X) (P : X → Type 0) → ((x : X) → o ≡ Some x → P x) → Gives (λ x. x) r o → IfOk r P
gives-ok (Ok x) o P holds h = holds x h
gives-ok (Err e) o P holds h = tt

fails-back : {X : Type 0} (e : RecordError) (o : Option X) (x : X) → o ≡ Some x → Fails e o → IsGiven {X = X} x (Err e)
fails-back (BadRecord member) o x is h = let none = h.1 in absurd cc
fails-back Memory o x is h = tt

pub gives-back : {X : Type 0} (r : Result X RecordError) (o : Option X) (x : X) → o ≡ Some x → Gives (λ x. x) r o → IsGiven x r
gives-back (Ok y) o x is h = the_some y x (sym h ∙ is)
gives-back (Err e) o x is h = fails-back e o x is h

fails-refused : {X : Type 0} (e : RecordError) (o : Option X) (P : X → Type 0) → ((x : X) → P x → o ≡ Some x) → Fails e o → Refuses (codes "$") P e
fails-refused (BadRecord member) o P found h = (h.0, λ x holds. let is = found x holds in let none = h.1 in absurd cc)
fails-refused Memory o P found h = tt

pub gives-refused : {X : Type 0} (r : Result X RecordError) (o : Option X) (P : X → Type 0) → ((x : X) → P x → o ≡ Some x) → Gives (λ x. x) r o → IfErr r (Refuses (codes "$") P)
gives-refused (Ok x) o P found h = tt
gives-refused (Err e) o P found h = fails-refused e o P found h
