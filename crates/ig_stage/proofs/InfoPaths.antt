-- The info of a layer, by what stands before its name.
use Rattle.std.proofs.Common.{◌≡◌, ◌≢◌, ◌||◌, ℕ, Bool, true, false, List, [], ◌∷◌, codes, refl, ap, sym, ◌∙◌, true≢false}
use Rattle.std.specs.Prelude.{Some}
use Rattle.std.proofs.lemmas.List.{append_cancel_right}
use Rattle.std.proofs.lemmas.Slice.Eq.{bytes_eq-Decides}
use Rattle.std.specs.Str.{bytes_eq}
use Rattle.ig_space.specs.Path.{joined}
use Rattle.ig_record.specs.declared.stage.InfoFile.{InfoFile}
use Rattle.ig_record.specs.Columns.{is_among}
use Rattle.ig_meaning.specs.Taken.{has_info_among}

-- two answers to one question
same_answer : (a b : Bool) → (a ≡ true → b ≡ true) → (b ≡ true → a ≡ true) → a ≡ b
same_answer true b there back = sym (there refl)
same_answer false true there back = back refl
same_answer false false there back = refl

bytes_same : (xs ys : List ℕ) → bytes_eq xs ys ≡ true → xs ≡ ys
bytes_same xs ys = (bytes_eq-Decides xs ys).0

-- infos of layers are the same where the layers are
infos-same : (path layer dir : List ℕ) → path ≡ joined layer (codes "info") → bytes_eq path (joined dir (codes "info")) ≡ bytes_eq layer dir
infos-same path layer dir is =
    same_answer (bytes_eq path (joined dir (codes "info"))) (bytes_eq layer dir)
    (λ e. (bytes_eq-Decides layer dir).1 (append_cancel_right layer dir (47 ∷ codes "info") (sym is ∙ bytes_same path (joined dir (codes "info")) e)))
    (λ e. (bytes_eq-Decides path (joined dir (codes "info"))).1 (is ∙ ap (λ d. joined d (codes "info")) (bytes_same layer dir e)))

-- the info of this layer is among those of directories where the layer is among these
pub info-among : (info : InfoFile) (layer : List ℕ) (dirs : List (List ℕ)) → info.path ≡ joined layer (codes "info") → is_among layer dirs ≡ has_info_among (Some info) dirs
info-among info layer [] is = refl
info-among info layer (dir ∷ dirs) is = λ i. sym (infos-same info.path layer dir is) i || info-among info layer dirs is i

-- what is no info of any layer is not among them
pub no-info : (info : InfoFile) (dirs : List (List ℕ)) → ((layer : List ℕ) → info.path ≢ joined layer (codes "info")) → false ≡ has_info_among (Some info) dirs
no-info info [] none = refl
no-info info (dir ∷ dirs) none = λ i. other i || no-info info dirs none i
  where
    other : false ≡ bytes_eq info.path (joined dir (codes "info"))
    other = same_answer false (bytes_eq info.path (joined dir (codes "info"))) (λ e. absurd (true≢false (sym e))) (λ e. absurd (none dir (bytes_same info.path (joined dir (codes "info")) e)))
