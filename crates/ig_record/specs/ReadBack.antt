-- The compact text of data is read as that data, where the data can be written: numbers of 64 bits, and texts in UTF-8.
use Rattle.std.specs.Prelude.{◌≡◌, ℕ, ◌^◌, ◌<◌, ◌≤◌, List, [], ◌∷◌, ◌++◌, Bool, true, false, Some, option_and_then, IsUtf8, ⊤, decimal}
use Rattle.std.proofs.Common.{refl, sym, ap, ◌∙◌, append-nil}
use Rattle.std.proofs.lemmas.Fmt.{IsAscii-decimal}
use Rattle.std.proofs.lemmas.Str.{IsUtf8-append, IsUtf8-from_ascii, is_utf8-from_IsUtf8}
use Rattle.json.specs.Lex.{tokens}
use Rattle.json.specs.Json as json
use Rattle.json.specs.Print.{quoted}
use Rattle.json.specs.Tree as tree
use Rattle.json.proofs.Printed.Decimals.{IsNumber-decimal}
use Rattle.json.proofs.Printed.Tokens.{tokens-print}
use Rattle.json.proofs.Printed.Trees.{ArePrintable-json_tokens, value-json_tokens}
use Rattle.json.proofs.Printed.Utf8.{IsUtf8-are_ascii, IsUtf8-boolean, IsUtf8-quoted}
use Rattle.serde_json.specs.Data.{Num, unsigned, negative, float, Data, null, boolean, number, string, array, object, Items, no_items, item, Members, no_members, member}
use Rattle.serde_json.specs.Read.{read, of_json, max_depth}
use Rattle.serde_json.specs.Written.{outline, items_outline, members_outline, compact_text, items_text, members_text, comma_if}
use Rattle.serde_json.proofs.Texts.{print-outline}
use Rattle.ig_info.specs.Whole.{parsed}

-- ---- data that can be written

abbrev pub IsWord : Num → Type 0
IsWord (unsigned n) = n < 2 ^ 64
IsWord (negative z) = ⊥
IsWord (float x) = ⊥

abbrev mutual
  pub IsPlain : Data → Type 0
  IsPlain null = ⊤
  IsPlain (boolean b) = ⊤
  IsPlain (number n) = IsWord n
  IsPlain (string s) = IsUtf8 s
  IsPlain (array ds) = ArePlain ds
  IsPlain (object ms) = HavePlain ms

  pub ArePlain : Items → Type 0
  ArePlain no_items = ⊤
  ArePlain (item d ds) = IsPlain d × ArePlain ds

  pub HavePlain : Members → Type 0
  HavePlain no_members = ⊤
  HavePlain (member k d ms) = IsUtf8 k × IsPlain d × HavePlain ms

-- ---- its numbers

word-IsNumber : (n : Num) → IsWord n → tree.HasNumbers (outline (number n))
word-IsNumber (unsigned n) h = IsNumber-decimal n h
word-IsNumber (negative z) h = absurd h
word-IsNumber (float x) h = absurd h

mutual
  has_numbers : (d : Data) → IsPlain d → tree.HasNumbers (outline d)
  has_numbers null h = tt
  has_numbers (boolean b) h = tt
  has_numbers (number n) h = word-IsNumber n h
  has_numbers (string s) h = tt
  has_numbers (array ds) h = items_have_numbers ds h
  has_numbers (object ms) h = members_have_numbers ms h

  items_have_numbers : (ds : Items) → ArePlain ds → tree.ItemsHaveNumbers (items_outline ds)
  items_have_numbers no_items h = tt
  items_have_numbers (item d ds) h = (has_numbers d h.0, items_have_numbers ds h.1)

  members_have_numbers : (ms : Members) → HavePlain ms → tree.MembersHaveNumbers (members_outline ms)
  members_have_numbers no_members h = tt
  members_have_numbers (member k d ms) h = (has_numbers d h.1, members_have_numbers ms h.2)

-- ---- its text is UTF-8

comma-utf8 : (later : Bool) → IsUtf8 (comma_if later)
comma-utf8 true = IsUtf8-are_ascii (44 ∷ []) refl
comma-utf8 false = IsUtf8-are_ascii [] refl

byte-utf8 : (c : ℕ) (rest : List ℕ) → IsUtf8 (c ∷ []) → IsUtf8 rest → IsUtf8 (c ∷ rest)
byte-utf8 c rest one u = IsUtf8-append (c ∷ []) rest one u

word-utf8 : (n : Num) → IsWord n → IsUtf8 (compact_text (number n))
word-utf8 (unsigned n) h = IsUtf8-from_ascii (decimal n) (IsAscii-decimal n h)
word-utf8 (negative z) h = absurd h
word-utf8 (float x) h = absurd h

mutual
  text-utf8 : (d : Data) → IsPlain d → IsUtf8 (compact_text d)
  text-utf8 null h = IsUtf8-are_ascii (compact_text null) refl
  text-utf8 (boolean b) h = IsUtf8-boolean b
  text-utf8 (number n) h = word-utf8 n h
  text-utf8 (string s) h = IsUtf8-quoted s h
  text-utf8 (array ds) h = byte-utf8 91 (items_text false ds) (IsUtf8-are_ascii (91 ∷ []) refl) (items-utf8 false ds h)
  text-utf8 (object ms) h = byte-utf8 123 (members_text false ms) (IsUtf8-are_ascii (123 ∷ []) refl) (members-utf8 false ms h)

  items-utf8 : (later : Bool) (ds : Items) → ArePlain ds → IsUtf8 (items_text later ds)
  items-utf8 later no_items h = IsUtf8-are_ascii (93 ∷ []) refl
  items-utf8 later (item d ds) h = IsUtf8-append (comma_if later) _ (comma-utf8 later) (IsUtf8-append (compact_text d) (items_text true ds) (text-utf8 d h.0) (items-utf8 true ds h.1))

  members-utf8 : (later : Bool) (ms : Members) → HavePlain ms → IsUtf8 (members_text later ms)
  members-utf8 later no_members h = IsUtf8-are_ascii (125 ∷ []) refl
  members-utf8 later (member k d ms) h =
      IsUtf8-append (comma_if later) _ (comma-utf8 later)
      (IsUtf8-append (quoted k) _ (IsUtf8-quoted k h.0)
      (byte-utf8 58 (compact_text d ++ members_text true ms) (IsUtf8-are_ascii (58 ∷ []) refl) (IsUtf8-append (compact_text d) (members_text true ms) (text-utf8 d h.1) (members-utf8 true ms h.2))))

-- ---- the round trip

tokens-compact : (d : Data) → IsPlain d → tokens (compact_text d) ≡ tree.json_tokens (outline d)
tokens-compact d h =
    ap tokens (sym (print-outline d)) ∙ tokens-print (tree.json_tokens (outline d)) (ArePrintable-json_tokens (outline d) (has_numbers d h))

-- read as JSON, and each value as data
pub read-compact : (d : Data) → IsPlain d → tree.depth (outline d) ≤ max_depth → of_json (outline d) ≡ Some d → read (compact_text d) ≡ Some d
read-compact d h shallow back =
    ap (λ ts. option_and_then of_json (option_and_then (λ p. json.if_last p.0 p.1) (json.value max_depth ts))) (tokens-compact d h ∙ sym (append-nil (tree.json_tokens (outline d))))
    ∙ ap (λ o. option_and_then of_json (option_and_then (λ p. json.if_last p.0 p.1) o)) (value-json_tokens (outline d) max_depth [] shallow)
    ∙ back

pub parsed-compact : (d : Data) → IsPlain d → tree.depth (outline d) ≤ max_depth → of_json (outline d) ≡ Some d → parsed (compact_text d) ≡ Some d
unfolding parsed
parsed-compact d h shallow back = rw (is_utf8-from_IsUtf8 (compact_text d) (text-utf8 d h)) (read-compact d h shallow back)
