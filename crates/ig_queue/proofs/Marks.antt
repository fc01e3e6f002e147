-- What comes after a mark.
use Rattle.std.proofs.Common.{◌≡◌, ◌≢◌, ◌++◌, ℕ, List, Option, None, Some, IfSome, IsNone, MatchOption, Bor, true≢false}

abbrev pub Marked : List ℕ → List ℕ → Option (Bor (List ℕ)) → Type 0
Marked text mark found = MatchOption found ((rest : List ℕ) → text ≢ mark ++ rest) (λ rest. text ≡ mark ++ rest.now)

pub after-some : (text mark : List ℕ) (found : Option (Bor (List ℕ))) → Marked text mark found → IfSome found (λ rest. text ≡ mark ++ rest.now)
after-some text mark None is = tt
after-some text mark (Some rest) is = is

pub after-none : (text mark : List ℕ) (found : Option (Bor (List ℕ))) → Marked text mark found → IsNone found → (rest : List ℕ) → text ≢ mark ++ rest
after-none text mark None is none = is
after-none text mark (Some rest) is none = absurd (true≢false none)
