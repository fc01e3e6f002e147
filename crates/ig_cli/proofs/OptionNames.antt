-- The names of options.
use Rattle.std.proofs.Common.{◌≡◌, ℕ, Bool, ◌&&◌, List, [], ◌∷◌, map, refl, ap}
use Rattle.std.specs.Borrow.{Bor}
use Rattle.std.specs.List.{list_all}
use Rattle.ig_cli.specs.Options.{both}

-- the option has such a name
abbrev pub is_named : (List ℕ → Bool) → Bor (List ℕ) × Bor (List ℕ) → Bool
is_named is_name option = is_name option.0.now

pub all-both : (is_name : List ℕ → Bool) (options : List (Bor (List ℕ) × Bor (List ℕ))) → list_all (is_named is_name) options ≡ list_all (λ option. is_name option.0) (map both options)
all-both is_name [] = refl
all-both is_name (option ∷ options) = ap (λ b. is_named is_name option && b) (all-both is_name options)
