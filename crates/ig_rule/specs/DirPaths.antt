-- A path lies directly in one directory, under one name.
use Rattle.std.specs.Prelude.{◌≡◌, ◌==◌, ◌||◌, not, ℕ, true, false, cond, List, [], ◌∷◌, Option, None, Some, is_some, refl}
use Rattle.std.proofs.Common.{arith, ap, sym, ◌∙◌}
use Rattle.std.proofs.lemmas.Bool.Decides.{nat_tests}
use Rattle.std.proofs.lemmas.Bool.{and_parts}
use Rattle.std.proofs.lemmas.List.{append_cancel_left}
use Rattle.std.proofs.lemmas.Option.{same_Some}
use Rattle.std.specs.List.{list_all}
use Rattle.ig_space.specs.Path.{is_segment, is_segment_byte, joined}
use Rattle.ig_defs.specs.Files.{Files, file_at}
use Rattle.ig_defs.specs.Names.{Stands}
use Rattle.ig_rule.specs.Dirs.{LiesIn}

pub tail_is : (x y : ℕ) (xs ys : List ℕ) → x ∷ xs ≡ y ∷ ys → xs ≡ ys
tail_is x y xs ys e = cc

-- ---- the last `/`

-- the directory of a path that begins with c, from that of its rest
abbrev longer_dir : ℕ → Option (List ℕ) → Option (List ℕ)
longer_dir c (Some dir) = Some (c ∷ dir)
longer_dir c None = cond (c == 47) (Some []) None

-- what stands before a path's last `/`
abbrev pub dir_of : List ℕ → Option (List ℕ)
dir_of [] = None
dir_of (c ∷ cs) = longer_dir c (dir_of cs)

-- a name without `/` in a directory
pub dir_of-joined : (dir name : List ℕ) → dir_of name ≡ None → dir_of (joined dir name) ≡ Some dir
dir_of-joined [] name none = ap (longer_dir 47) none
dir_of-joined (c ∷ cs) name none = ap (longer_dir c) (dir_of-joined cs name none)

not_slash : (c : ℕ) → (c == 47) ≡ false → (o : Option (List ℕ)) → o ≡ None → longer_dir c o ≡ None
not_slash c other o none = ap (longer_dir c) none ∙ ap (λ b. cond b (Some []) None) other

no_slash : (c : ℕ) → is_segment_byte c ≡ true → (c == 47) ≡ false
no_slash c h = grind (arith, nat_tests)

of_bytes : (cs : List ℕ) → list_all is_segment_byte cs ≡ true → dir_of cs ≡ None
of_bytes [] h = refl
of_bytes (c ∷ cs) h = let p = and_parts _ _ h in not_slash c (no_slash c p.0) (dir_of cs) (of_bytes cs p.1)

pub dir_of-segment : (name : List ℕ) → is_segment name ≡ true → dir_of name ≡ None
dir_of-segment [] h = refl
dir_of-segment (c ∷ cs) h = of_bytes (c ∷ cs) (and_parts (not (c == 46 || c == 45)) _ h).1

-- ---- paths that lie directly in a directory

-- it lies in the directory that stands before a name without `/`
pub dir_within : (dir other name path : List ℕ) → LiesIn dir path → dir_of name ≡ None → path ≡ joined other name → dir ≡ other
dir_within dir other name path lies none e =
    same_Some _ _ (sym (dir_of-joined dir lies.name (dir_of-segment lies.name lies.is_name.segment)) ∙ ap dir_of (sym lies.is ∙ e) ∙ dir_of-joined other name none)

-- a path lies directly in one directory
pub dir_is : (dir other path : List ℕ) → LiesIn dir path → LiesIn other path → dir ≡ other
dir_is dir other path a b = dir_within dir other b.name path a (dir_of-segment b.name b.is_name.segment) b.is

-- and under one name
pub name_is : (dir other name path : List ℕ) → (lies : LiesIn dir path) → is_segment name ≡ true → path ≡ joined other name → lies.name ≡ name
name_is dir other name path lies segment e =
    let dirs : dir ≡ other = dir_within dir other name path lies (dir_of-segment name segment) e in
    tail_is _ _ _ _ (append_cancel_left dir _ _ (sym lies.is ∙ e ∙ ap (λ d. joined d name) (sym dirs)))

-- a file that lies directly in a directory is listed there
pub listed_in : (files : Files) (dir path bytes : List ℕ) → (lies : LiesIn dir path) → file_at files path ≡ Some bytes → Stands files dir lies.name
listed_in files dir path bytes lies there = record {
  named = lies.is_name;
  there = ap (λ (p : List ℕ). is_some (file_at files p)) (sym lies.is) ∙ ap (λ (o : Option (List ℕ)). is_some o) there;
}

-- where nothing is listed, no file lies directly in the directory
pub nothing_in : (files : Files) (dir : List ℕ) → ((name : List ℕ) → Stands files dir name → ⊥) → (path : List ℕ) → LiesIn dir path → file_at files path ≡ None
nothing_in files dir none path lies = by_file (file_at files path) refl
  where
    by_file : (found : Option (List ℕ)) → file_at files path ≡ found → found ≡ None
    by_file None e = refl
    by_file (Some bytes) e = absurd (none lies.name (listed_in files dir path bytes lies e))
