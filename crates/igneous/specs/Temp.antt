-- Temporary files: this project's own.
use Rattle.std.specs.Prelude.{ℕ, List, ◌++◌, codes}
use Rattle.uuid.specs.Text.{hyphenated_text, lower}

-- the directory of temporary files, and the id in the hyphenated form (RFC 9562, section 4)
abbrev pub temp_text : List ℕ → List ℕ
temp_text id = codes ".ig-tmp/" ++ hyphenated_text lower id
