-- The names of files by numbers are segments of paths.
use Rattle.std.proofs.Common.{◌≡◌, ◌+◌, ℕ, true, List, ◌++◌, length, length-append, arith, ◌∙◌}
use Rattle.std.specs.List.{list_all}
use Rattle.ig_space.specs.Path.{is_segment, is_segment_byte}
use Rattle.ig_defs.specs.QueueNameLaws.{are_bytes-from, is_segment-digits, length-digits}
use Rattle.ig_defs.specs.QueueNames.{digits}

pub length-name : (k : ℕ) (ending : List ℕ) → length (digits 6 k ++ ending) ≡ 6 + length ending
length-name k ending = let long = length-digits 6 k in length-append (digits 6 k) ending ∙ omega (arith, long)

pub name-is_segment : (k : ℕ) (ending : List ℕ) → list_all is_segment_byte ending ≡ true → is_segment (digits 6 k ++ ending) ≡ true
name-is_segment k ending bytes = is_segment-digits 5 k ending (are_bytes-from ending bytes)
