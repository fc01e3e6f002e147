-- One more run gets the number of its class.
use Rattle.std.proofs.Common.{ℕ, suc, ◌+◌, ◌<◌, ◌≤◌, ◌≡◌, true, false, List, [], ◌∷◌, ◌++◌, length, get_or, set, map, refl, sym, ap, ◌∙◌, subst, arith, below_more, length-set, length-append, get_or-set_same, get_or-set_other}
use Rattle.std.proofs.lemmas.Bool.{eq-eqb, ne_eqb}
use Rattle.std.proofs.lemmas.List.{map_push, length-map}
use Rattle.ig_graph.specs.Counts.{how_many, those_below}
use Rattle.ig_graph.specs.CountLaws.{how_many-bound, length-those_below, those_below-pass, those_below-fail}
use Rattle.ig_label.specs.declared.rows.Run.{Run}
use Rattle.ig_label.specs.Runs.{run_at}
use Rattle.ig_label.specs.Numbering.{is_first, AreLeast, number_in, firsts_in, values_in}

-- the first n runs have their numbers, and the first voxels and labels of their classes are listed
pub record AreNumbered (runs : List Run) (old new firsts values : List ℕ) (n : ℕ) : Type 0 where
  pub size : length new ≡ length old
  pub done : (k : ℕ) → k < n → get_or new k 0 ≡ number_in old k
  pub left : (k : ℕ) → n ≤ k → get_or new k 0 ≡ get_or old k 0
  pub firsts_are : firsts ≡ firsts_in runs old n
  pub values_are : values ≡ values_in runs old n

module _ (runs : List Run) (old new firsts values : List ℕ) (n : ℕ) (least : AreLeast old) (below : n < length old) (is : AreNumbered runs old new firsts values n) where
  long : n < length new
  long = subst (λ m. n < m) (sym is.size) below

  class-is : get_or new n 0 ≡ get_or old n 0
  class-is = is.left n (omega arith)

  one : n + 1 ≡ suc n
  one = omega arith

  first_count : length firsts ≡ how_many (is_first old) n
  first_count =
      ap length is.firsts_are ∙ length-map (those_below (is_first old) n) (λ i. (run_at runs i).first) ∙ length-those_below (is_first old) n

  -- a class begins
  pub number-first : (firsts' values' : List ℕ) (value : ℕ) → get_or new n 0 ≡ n → firsts' ≡ firsts ++ (run_at runs n).first ∷ [] → values' ≡ values ++ (run_at runs n).label ∷ []
      → value ≡ length firsts' → AreNumbered runs old (set new n value) firsts' values' (n + 1)
  number-first firsts' values' value e ef ev el =
      let at_old : get_or old n 0 ≡ n = sym class-is ∙ e in
      let passes : is_first old n ≡ true = eq-eqb (get_or old n 0) n at_old in
      let grown : those_below (is_first old) (n + 1) ≡ those_below (is_first old) n ++ n ∷ [] = ap (those_below (is_first old)) one ∙ those_below-pass (is_first old) n passes in
      let number : value ≡ number_in old n =
      el ∙ ap length ef ∙ length-append firsts ((run_at runs n).first ∷ []) ∙ omega (arith, first_count) ∙ ap (λ c. suc (how_many (is_first old) c)) (sym at_old) in
      record {
        size = length-set new n value ∙ is.size;
        done = below_more _ _ (λ k l. get_or-set_other new n k value 0 (omega arith) ∙ is.done k l) (get_or-set_same new n value 0 long ∙ number);
        left = λ k l. get_or-set_other new n k value 0 (omega arith) ∙ is.left k (omega arith);
        firsts_are = ef ∙ ap (λ xs. xs ++ (run_at runs n).first ∷ []) is.firsts_are ∙ sym (map_push (λ i. (run_at runs i).first) (those_below (is_first old) n) n) ∙ ap (map (λ i. (run_at runs i).first)) (sym grown);
        values_are = ev ∙ ap (λ xs. xs ++ (run_at runs n).label ∷ []) is.values_are ∙ sym (map_push (λ i. (run_at runs i).label) (those_below (is_first old) n) n) ∙ ap (map (λ i. (run_at runs i).label)) (sym grown);
      }

  class_low : (get_or new n 0 ≡ n → ⊥) → get_or old n 0 < n
  class_low other = let ne : get_or old n 0 ≡ n → ⊥ = λ e. other (class-is ∙ e) in omega (arith, least.low n below)

  -- a class goes on
  pub number-other : (get_or new n 0 ≡ n → ⊥) → AreNumbered runs old (set new n (get_or new (get_or new n 0) 0)) firsts values (n + 1)
  number-other other =
      let low = class_low other in
      let value = get_or new (get_or new n 0) 0 in
      let ne : get_or old n 0 ≡ n → ⊥ = λ e. other (class-is ∙ e) in
      let fails : is_first old n ≡ false = ne_eqb (get_or old n 0) n ne in
      let kept : those_below (is_first old) (n + 1) ≡ those_below (is_first old) n = ap (those_below (is_first old)) one ∙ those_below-fail (is_first old) n fails in
      let number : value ≡ number_in old n = ap (λ k. get_or new k 0) class-is ∙ is.done (get_or old n 0) low ∙ ap (λ c. suc (how_many (is_first old) c)) (least.again n below) in
      record {
        size = length-set new n value ∙ is.size;
        done = below_more _ _ (λ k l. get_or-set_other new n k value 0 (omega arith) ∙ is.done k l) (get_or-set_same new n value 0 long ∙ number);
        left = λ k l. get_or-set_other new n k value 0 (omega arith) ∙ is.left k (omega arith);
        firsts_are = is.firsts_are ∙ ap (map (λ i. (run_at runs i).first)) (sym kept);
        values_are = is.values_are ∙ ap (map (λ i. (run_at runs i).label)) (sym kept);
      }

  -- the same for lists that are these
  pub number-same : (classes' firsts' values' : List ℕ) → (get_or new n 0 ≡ n → ⊥) → classes' ≡ set new n (get_or new (get_or new n 0) 0) → firsts' ≡ firsts → values' ≡ values
      → AreNumbered runs old classes' firsts' values' (n + 1)
  number-same classes' firsts' values' other ec ef ev =
      subst (λ xs. AreNumbered runs old xs firsts' values' (n + 1)) (sym ec)
      (subst (λ xs. AreNumbered runs old (set new n (get_or new (get_or new n 0) 0)) xs values' (n + 1)) (sym ef)
      (subst (λ xs. AreNumbered runs old (set new n (get_or new (get_or new n 0) 0)) firsts xs (n + 1)) (sym ev) (number-other other)))

  -- there are no more first voxels than runs
  pub firsts-few : (firsts' : List ℕ) (x : ℕ) → firsts' ≡ firsts ++ x ∷ [] → length firsts' ≤ n + 1
  firsts-few firsts' x e = omega (arith, ap length e, length-append firsts (x ∷ []), first_count, how_many-bound (is_first old) n)

pub none-numbered : (runs : List Run) (old firsts values : List ℕ) → firsts ≡ [] → values ≡ [] → AreNumbered runs old old firsts values 0
none-numbered runs old firsts values ef ev = record {
  size = refl;
  done = λ k l. absurd (omega arith);
  left = λ k l. refl;
  firsts_are = ef;
  values_are = ev;
}
