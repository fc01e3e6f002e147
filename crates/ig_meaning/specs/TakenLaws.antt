-- What holds of two stages where the earlier has no directory of the new one.
use Rattle.std.specs.Prelude.{◌≡◌, ◌⊎◌, ℕ, zero, suc, Bool, true, false, if◌then◌else◌, List, [], ◌∷◌, Option, None, Some, option_map, slice_get, Contains, codes, refl}
use Rattle.std.proofs.Common.{inl, inr, arith, ap, sym, true≢false, ◌∙◌}
use Rattle.std.proofs.lemmas.Bool.{or_parts}
use Rattle.std.proofs.lemmas.List.Elements.{Contains-append_cases, Contains-push_cases}
use Rattle.std.proofs.lemmas.Slice.Eq.{bytes_eq-Decides}
use Rattle.std.specs.Str.{bytes_eq}
use Rattle.ig_space.specs.Path.{joined}
use Rattle.ig_record.specs.declared.stage.InfoFile.{InfoFile}
use Rattle.ig_record.specs.declared.stage.Stage.{Stage}
use Rattle.ig_record.specs.Columns.{output_dirs, removed_dir}
use Rattle.ig_meaning.specs.Refusal.{Taken}
use Rattle.ig_record.specs.Columns.{is_among}
use Rattle.ig_meaning.specs.Taken.{has_info_among, removes_one, share_one, taken_by, taker_from, takes}

-- ---- directories among others

differs : (xs ys : List ℕ) → bytes_eq xs ys ≡ false → xs ≡ ys → ⊥
differs xs ys other e = true≢false (sym ((bytes_eq-Decides xs ys).1 e) ∙ other)

pub none_in : (dir : List ℕ) → Contains [] dir → ⊥
none_in dir among = omega (arith, among.1)

pub the_only : (only dir : List ℕ) → Contains (only ∷ []) dir → only ≡ dir
the_only only dir among = by_place (Contains-push_cases [] only dir among)
  where
    by_place : Contains [] dir ⊎ (only ≡ dir) → only ≡ dir
    by_place (inl none) = absurd (none_in dir none)
    by_place (inr e) = e

-- it is neither the first nor among the rest
in_neither : (first dir : List ℕ) (dirs : List (List ℕ)) → Contains (first ∷ dirs) dir → (first ≡ dir → ⊥) → (Contains dirs dir → ⊥) → ⊥
in_neither first dir dirs among other absent = by_place (Contains-append_cases (first ∷ []) dirs dir among)
  where
    by_place : Contains (first ∷ []) dir ⊎ Contains dirs dir → ⊥
    by_place (inl one) = other (the_only first dir one)
    by_place (inr rest) = absent rest

not_among : (dir : List ℕ) (dirs : List (List ℕ)) → is_among dir dirs ≡ false → Contains dirs dir → ⊥
not_among dir [] none among = none_in dir among
not_among dir (first ∷ dirs) none among =
    let p = or_parts (bytes_eq dir first) (is_among dir dirs) none in
    in_neither first dir dirs among (λ e. differs dir first p.0 (sym e)) (λ later. not_among dir dirs p.1 later)

none_shared : (dirs others : List (List ℕ)) → share_one dirs others ≡ false → (dir : List ℕ) → Contains dirs dir → Contains others dir → ⊥
none_shared [] others none dir among other = none_in dir among
none_shared (first ∷ dirs) others none dir among other =
    let p = or_parts (is_among first others) (share_one dirs others) none in
    in_neither first dir dirs among (λ e. not_among dir others (ap (λ d. is_among d others) (sym e) ∙ p.0) other) (λ later. none_shared dirs others p.1 dir later other)

none_has_info : (info : InfoFile) (dirs : List (List ℕ)) → has_info_among (Some info) dirs ≡ false → (dir : List ℕ) → Contains dirs dir → info.path ≡ joined dir (codes "info") → ⊥
none_has_info info [] none dir among e = none_in dir among
none_has_info info (first ∷ dirs) none dir among e =
    let p = or_parts (bytes_eq info.path (joined first (codes "info"))) (has_info_among (Some info) dirs) none in
    in_neither first dir dirs among (λ is. differs info.path (joined first (codes "info")) p.0 (e ∙ ap (λ d. joined d (codes "info")) (sym is)))
    (λ later. none_has_info info dirs p.1 dir later e)

-- ---- two stages

-- The earlier stage has no directory of the new one.
pub record HasNoneOf (earlier s : Stage) : Type 0 where
  pub outputs : (dir : List ℕ) → Contains (output_dirs s) dir → Contains (output_dirs earlier) dir → ⊥
  pub info : (info : InfoFile) → s.info ≡ Some info → (dir : List ℕ) → Contains (output_dirs earlier) dir → info.path ≡ joined dir (codes "info") → ⊥
  pub other_info : (info : InfoFile) → earlier.info ≡ Some info → (dir : List ℕ) → Contains (output_dirs s) dir → info.path ≡ joined dir (codes "info") → ⊥
  pub source : (dir : List ℕ) → removed_dir earlier ≡ Some dir → dir ≡ s.source.dir → ⊥
  pub removed : (dir : List ℕ) → removed_dir earlier ≡ Some dir → Contains (output_dirs s) dir → ⊥

removed_apart : (removed : Option (List ℕ)) (first : List ℕ) (dirs : List (List ℕ)) → removes_one removed (first ∷ dirs) ≡ false → (dir : List ℕ) → removed ≡ Some dir
    → (bytes_eq dir first ≡ false) × (is_among dir dirs ≡ false)
removed_apart removed first dirs none dir is = or_parts (bytes_eq dir first) (is_among dir dirs) (ap (λ o. removes_one o (first ∷ dirs)) (sym is) ∙ none)

pub none-taken : (earlier s : Stage) → takes earlier s ≡ false → HasNoneOf earlier s
none-taken earlier s none =
    let a = or_parts (share_one (output_dirs s) (output_dirs earlier)) _ none in
    let b = or_parts (has_info_among s.info (output_dirs earlier)) _ a.1 in
    let d = or_parts (has_info_among earlier.info (output_dirs s)) (removes_one (removed_dir earlier) (s.source.dir ∷ output_dirs s)) b.1 in
    let removed = removed_apart (removed_dir earlier) s.source.dir (output_dirs s) d.1 in
    record {
      outputs = none_shared (output_dirs s) (output_dirs earlier) a.0;
      info = λ info is. none_has_info info (output_dirs earlier) (ap (λ o. has_info_among o (output_dirs earlier)) (sym is) ∙ b.0);
      other_info = λ info is. none_has_info info (output_dirs s) (ap (λ o. has_info_among o (output_dirs s)) (sym is) ∙ d.0);
      source = λ dir is. differs dir s.source.dir (removed dir is).0;
      removed = λ dir is. not_among dir (output_dirs s) (removed dir is).1;
    }

-- ---- all stages

first_takes : (test : Bool) (n : ℕ) (rest : Option ℕ) → (if test then Some n else rest) ≡ None → (test ≡ false) × (rest ≡ None)
first_takes true n rest none = absurd (cc)
first_takes false n rest none = (refl, none)

no_taker : (n : ℕ) (stages : List Stage) (s : Stage) → taker_from n stages s ≡ None → (k : ℕ) (t : Stage) → slice_get stages k ≡ Some t → takes t s ≡ false
no_taker n [] s none k t is = absurd (cc)
no_taker n (first ∷ stages) s none zero t is =
    let e : first ≡ t = cc in
    ap (λ u. takes u s) (sym e) ∙ (first_takes (takes first s) n (taker_from (suc n) stages s) none).0
no_taker n (first ∷ stages) s none (suc k) t is = no_taker (suc n) stages s (first_takes (takes first s) n (taker_from (suc n) stages s) none).1 k t is

unmapped : (o : Option ℕ) → option_map Taken o ≡ None → o ≡ None
unmapped None none = refl
unmapped (Some n) none = absurd (cc)

-- None of the stages has a directory of the new one.
pub not_taken : (stages : List Stage) (s : Stage) → taken_by stages s ≡ None → (k : ℕ) (t : Stage) → slice_get stages k ≡ Some t → HasNoneOf t s
not_taken stages s none k t is = none-taken t s (no_taker 0 stages s (unmapped (taker_from 0 stages s) none) k t is)
