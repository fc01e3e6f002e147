-- The bytes of a task's text are those of exactly one task of a sound stage.
use Rattle.std.specs.Prelude.{◌≡◌, ◌≤◌, ◌<◌, ◌+◌, ◌-◌, ◌^◌, ◌&&◌, ◌↔◌, ℕ, Bool, true, false, nat_lt, List, Option, None, Some, option_and_then, if◌then◌else◌, codes}
use Rattle.std.proofs.Common.{arith, refl, ap, ◌∙◌, subst, lt-ltb, ltb-true, le_trans, lt_of_lt_of_le, lit≤}
use Rattle.std.proofs.lemmas.Bool.{and_from, and_parts}
use Rattle.std.proofs.lemmas.Slice.Eq.{bytes_eq-Decides}
use Rattle.std.specs.Str.{bytes_eq}
use Rattle.json.proofs.Printed.Utf8.{IsUtf8-are_ascii}
use Rattle.serde_json.specs.Data.{Data}
use Rattle.serde_json.proofs.Numbers.{number_of-decimal}
use Rattle.ig_space.specs.declared.point.Box3.{Box3}
use Rattle.ig_space.specs.declared.task_id.TaskId.{TaskId}
use Rattle.ig_space.specs.Geometry.{Fits-from}
use Rattle.ig_info.specs.Whole.{parsed}
use Rattle.ig_record.specs.declared.stage.Stage.{Stage}
use Rattle.ig_record.specs.ReadBack.{parsed-compact}
use Rattle.ig_record.specs.Reading.{filed, id_of, number_of, small_of, task_in, IsTask}
use Rattle.ig_record.specs.Record.{task_data, task_text}
use Rattle.ig_record.specs.RecordBack.{point-back, IsBack}
use Rattle.ig_record.specs.Sound.{is_sound}
use Rattle.ig_record.specs.SoundFacts.{IsSmall}
use Rattle.ig_record.specs.SoundStages.{IsSound-from, task-within}
use Rattle.ig_record.specs.Stage.{most_tasks, task_box, task_count}

-- ---- the box of a task

record HasSmallCorners (b : Box3) : Type 0 where
  pub hi : IsSmall b.hi
  pub lo : IsSmall b.lo

along-small : (lo hi end : ℕ) → lo < hi → hi ≤ end → end ≤ 2 ^ 40 → (hi ≤ 2 ^ 64 - 1) × (lo ≤ 2 ^ 64 - 1)
along-small lo hi end some to small =
    let wide : 2 ^ 40 ≤ 2 ^ 64 - 1 = lit≤ tt in
    (le_trans (le_trans to small) wide, le_trans (omega (arith, some, to, small)) wide)

task-small : (s : Stage) (k : ℕ) → is_sound s ≡ true → k < task_count s → HasSmallCorners (task_box s k)
task-small s k h below =
    let f = Fits-from s.source.geometry (IsSound-from s h).fits in
    let b = task_box s k in
    let g = s.source.geometry in
    let w = task-within s k h below in
    let x = along-small b.lo.x b.hi.x (g.offset.x + g.size.x) w.x_some w.x_to f.x_ends in
    let y = along-small b.lo.y b.hi.y (g.offset.y + g.size.y) w.y_some w.y_to f.y_ends in
    let z = along-small b.lo.z b.hi.z (g.offset.z + g.size.z) w.z_some w.z_to f.z_ends in
    record { hi = record { x = x.0; y = y.0; z = z.0 }; lo = record { x = x.1; y = y.1; z = z.1 } }

-- ---- its text

task-back : (stage task : ℕ) (b : Box3) → stage < 2 ^ 64 → task < 2 ^ 64 → HasSmallCorners b → IsBack (task_data stage task b) 2
task-back stage task b s t corners =
    let hi = point-back b.hi corners.hi in
    let lo = point-back b.lo corners.lo in
    record {
      plain =
          (IsUtf8-are_ascii (codes "hi") refl, hi.plain, (IsUtf8-are_ascii (codes "lo") refl, lo.plain, (IsUtf8-are_ascii (codes "stage") refl, s, (IsUtf8-are_ascii (codes "task") refl, t, tt))));
      shallow = omega (arith, hi.shallow, lo.shallow);
      back = rw (hi.back, lo.back, number_of-decimal stage s, number_of-decimal task t) refl;
    }

wide : (n : ℕ) → n < 2 ^ 32 → n < 2 ^ 64
wide n h = lt_of_lt_of_le h (lit≤ tt)

task-number : (s : Stage) (k : ℕ) → is_sound s ≡ true → k < task_count s → k < 2 ^ 32
task-number s k h below = let few = (IsSound-from s h).few in let wide : most_tasks ≤ 2 ^ 32 = lit≤ tt in lt_of_lt_of_le below (le_trans few wide)

pub task-parsed : (id : TaskId) (s : Stage) → is_sound s ≡ true → id.stage < 2 ^ 32 → id.task < task_count s → parsed (task_text id s) ≡ Some (task_data id.stage id.task (task_box s id.task))
task-parsed id s h stage below =
    let back = task-back id.stage id.task (task_box s id.task) (wide id.stage stage) (wide id.task (task-number s id.task h below)) (task-small s id.task h below) in
    parsed-compact (task_data id.stage id.task (task_box s id.task)) back.plain (le_trans back.shallow (lit≤ tt)) back.back

abbrev id_from : Option ℕ → Option ℕ → Option TaskId
id_from a b = option_and_then (λ stage. option_and_then (λ task. Some (record { stage = stage; task = task })) b) a

small-read : (n : ℕ) → n < 2 ^ 32 → (if nat_lt n (2 ^ 32) then Some n else None) ≡ Some n
small-read n h = ap (λ b. if b then Some n else None) (lt-ltb n (2 ^ 32) h)

id-read : (stage task : ℕ) (b : Box3) → stage < 2 ^ 32 → task < 2 ^ 32 → id_of (task_data stage task b) ≡ Some (record { stage = stage; task = task })
unfolding id_of
id-read stage task b s t = let first = small-read stage s in let second = small-read task t in λ i. id_from (first i) (second i)

-- ---- the task of a text

small-is : (test : Bool) (n m : ℕ) → (if test then Some n else None) ≡ Some m → (test ≡ true) × (n ≡ m)
small-is true n m e = (refl, cc)
small-is false n m e = absurd cc

small-from : (o : Option ℕ) (m : ℕ) → option_and_then (λ n. if nat_lt n (2 ^ 32) then Some n else None) o ≡ Some m → m < 2 ^ 32
small-from None m e = absurd cc
small-from (Some n) m e = let found = small-is (nat_lt n (2 ^ 32)) n m e in subst (λ k. k < 2 ^ 32) found.1 (ltb-true n (2 ^ 32) found.0)

id-small : (a b : Option ℕ) (id : TaskId) → id_from a b ≡ Some id → a ≡ Some id.stage
id-small None b id e = absurd cc
id-small (Some stage) None id e = absurd cc
id-small (Some stage) (Some task) id e = ap (λ o. option_and_then (λ (x : TaskId). Some x.stage) o) e

id_of-small : (d : Data) (id : TaskId) → id_of d ≡ Some id → id.stage < 2 ^ 32
unfolding id_of
id_of-small d id e = small-from (number_of d (codes "stage")) id.stage (id-small (small_of d (codes "stage")) (small_of d (codes "task")) id e)

filed-is : (test : Bool) (a b : TaskId) → (if test then Some a else None) ≡ Some b → (test ≡ true) × (a ≡ b)
filed-is true a b e = (refl, cc)
filed-is false a b e = absurd cc

filed-IsTask : (s : Stage) (bytes : List ℕ) (a b : TaskId) → a.stage < 2 ^ 32 → filed s bytes a ≡ Some b → IsTask b s bytes
filed-IsTask s bytes a b small e =
    let found = filed-is (nat_lt a.task (task_count s) && bytes_eq bytes (task_text a s)) a b e in
    let both = and_parts (nat_lt a.task (task_count s)) (bytes_eq bytes (task_text a s)) found.0 in
    subst (λ id. IsTask id s bytes) found.1
    (record { number = small; below = ltb-true a.task (task_count s) both.0; text = (bytes_eq-Decides bytes (task_text a s)).0 both.1 })

then-IsTask : (s : Stage) (bytes : List ℕ) (o : Option TaskId) (b : TaskId) → ((a : TaskId) → o ≡ Some a → a.stage < 2 ^ 32) → option_and_then (filed s bytes) o ≡ Some b → IsTask b s bytes
then-IsTask s bytes None b small e = absurd cc
then-IsTask s bytes (Some a) b small e = filed-IsTask s bytes a b (small a refl) e

parsed-IsTask : (s : Stage) (bytes : List ℕ) (o : Option Data) (b : TaskId) → option_and_then (λ d. option_and_then (filed s bytes) (id_of d)) o ≡ Some b → IsTask b s bytes
parsed-IsTask s bytes None b e = absurd cc
parsed-IsTask s bytes (Some d) b e = then-IsTask s bytes (id_of d) b (id_of-small d) e

pub task_in-IsTask : (s : Stage) (id : TaskId) (bytes : List ℕ) → task_in s bytes ≡ Some id → IsTask id s bytes
unfolding task_in
task_in-IsTask s id bytes e = parsed-IsTask s bytes (parsed bytes) id e

task_in-text : (s : Stage) (id : TaskId) → is_sound s ≡ true → id.stage < 2 ^ 32 → id.task < task_count s → task_in s (task_text id s) ≡ Some id
unfolding task_in
task_in-text s id h stage below =
    let text = task_text id s in
    ap (option_and_then (λ d. option_and_then (filed s text) (id_of d))) (task-parsed id s h stage below)
    ∙ ap (option_and_then (filed s text)) (id-read id.stage id.task (task_box s id.task) stage (task-number s id.task h below))
    ∙ ap (λ b. if b then Some id else None) (and_from (nat_lt id.task (task_count s)) _ (lt-ltb id.task (task_count s) below) ((bytes_eq-Decides text text).1 refl))

pub IsTask-task_in : (s : Stage) (id : TaskId) (bytes : List ℕ) → is_sound s ≡ true → IsTask id s bytes → task_in s bytes ≡ Some id
IsTask-task_in s id bytes h is = ap (task_in s) is.text ∙ task_in-text s id h is.number is.below

pub task_in-exactly : (s : Stage) (id : TaskId) (bytes : List ℕ) → is_sound s ≡ true → (task_in s bytes ≡ Some id) ↔ IsTask id s bytes
task_in-exactly s id bytes h = (task_in-IsTask s id bytes, IsTask-task_in s id bytes h)
