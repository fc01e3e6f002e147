-- A planned stage that fits is sound, and can be run.
use Rattle.std.proofs.Common.{◌≡◌, ◌≤◌, ◌-◌, ◌^◌, ◌==◌, ℕ, Bool, true, false, ◌&&◌, ◌||◌, if◌then◌else◌, nat_le, List, [], ◌∷◌, ◌++◌, Option, None, Some, is_none, option_map, refl, sym, subst, le-leb, append_assoc, append-nil}
use Rattle.std.proofs.lemmas.Bool.{and_from}
use Rattle.ig_space.specs.Geometry.{geometry_fits}
use Rattle.ig_space.specs.Grid.{cell_count}
use Rattle.ig_space.specs.Path.{joined}
use Rattle.ig_layer.specs.Faults.{or_else}
use Rattle.ig_record.specs.declared.stage.Stage.{Stage}
use Rattle.ig_record.specs.Sound.{has_come, has_layers, has_members, has_shape, has_split, has_tasks, is_lawful, is_side, is_sound, is_word, some_split}
use Rattle.ig_record.specs.SoundRows.{HasRow}
use Rattle.ig_record.specs.SoundStages.{HasLayers-from}
use Rattle.ig_record.specs.Stage.{cells, greatest, hull_voxels, most_tasks, most_voxels, shape_unit, unfit_axis}
use Rattle.ig_meaning.specs.Refusal.{Refusal, ShapeUnfit, TooManyTasks, TaskTooLarge}
use Rattle.ig_meaning.specs.Stage.{too_large_task, too_many_tasks, unfit, unfit_shape}
use Rattle.ig_stage.specs.Drafts.{CanRun, IsDraft}
use Rattle.ig_task.specs.OwnInputs.{elsewhere-from}

-- ---- the directory is split at its layer
or-first : (a b : Bool) → a ≡ true → (a || b) ≡ true
or-first true b h = refl
or-first false b h = let no_way : ⊥ = cc in absurd no_way

or-second : (a b : Bool) → b ≡ true → (a || b) ≡ true
or-second true b h = refl
or-second false b h = h

split-holds : (test : List ℕ → List ℕ → Bool) (before layer key : List ℕ) → test (before ++ layer) key ≡ true → some_split test before (joined layer key) ≡ true
split-holds test before [] key h = or-first (test before key) (some_split test (before ++ 47 ∷ []) key) (subst (λ b. test b key ≡ true) (append-nil before) h)
split-holds test before (c ∷ layer) key h =
    or-second (c == 47 && test before (layer ++ 47 ∷ key)) (some_split test (before ++ c ∷ []) (layer ++ 47 ∷ key))
    (split-holds test (before ++ c ∷ []) layer key (subst (λ b. test b key ≡ true) (sym (append_assoc before (c ∷ []) layer)) h))

-- ---- what is refused is not so
first-none : {A : Type 0} (a b : Option A) → or_else a b ≡ None → a ≡ None
first-none None b e = refl
first-none (Some x) b e = let no_way : ⊥ = cc in absurd no_way

second-none : {A : Type 0} (a b : Option A) → or_else a b ≡ None → b ≡ None
second-none None b e = e
second-none (Some x) b e = let no_way : ⊥ = cc in absurd no_way

none-mapped : {A B : Type 0} (f : A → B) (o : Option A) → option_map f o ≡ None → is_none o ≡ true
none-mapped f None e = refl
none-mapped f (Some x) e = let no_way : ⊥ = cc in absurd no_way

allowed : (b : Bool) (r : Refusal) → (if b then None else Some r) ≡ None → b ≡ true
allowed true r e = refl
allowed false r e = let no_way : ⊥ = cc in absurd no_way

side-holds : (n : ℕ) → 1 ≤ n → n ≤ 2 ^ 64 - 1 → is_side n ≡ true
side-holds n some small = and_from (nat_le 1 n) (nat_le n (2 ^ 64 - 1)) (le-leb 1 n some) (le-leb n (2 ^ 64 - 1) small)

module _ (s : Stage) (d : IsDraft s) where
  layers-hold : has_layers s ≡ true
  layers-hold =
      subst (λ dir. some_split (has_split s) [] dir ≡ true) (sym d.source_dir)
      (split-holds (has_split s) [] d.layer d.key
      (and_from (is_word d.layer) (is_word d.key && has_members s.kind d.layer d.key s) d.layer_word
      (and_from (is_word d.key) (has_members s.kind d.layer d.key s) d.key_word d.members)))

  -- what it has as each lawful stage has
  pub row : HasRow s
  row = (HasLayers-from s d.fits layers-hold).row

  module _ (fits : unfit s ≡ None) where
    no_shape : unfit_shape s ≡ None
    no_shape = first-none (unfit_shape s) _ fits

    rest : or_else (too_many_tasks s) (too_large_task s) ≡ None
    rest = second-none (unfit_shape s) _ fits

    shape-holds : has_shape s ≡ true
    shape-holds =
        let axis = unfit_axis (shape_unit s.kind s.source s.dests) s.shape in
        and_from (is_side s.shape.x) (is_side s.shape.y && (is_side s.shape.z && is_none axis)) (side-holds s.shape.x d.sides.x d.small.x)
        (and_from (is_side s.shape.y) (is_side s.shape.z && is_none axis) (side-holds s.shape.y d.sides.y d.small.y)
        (and_from (is_side s.shape.z) (is_none axis) (side-holds s.shape.z d.sides.z d.small.z) (none-mapped ShapeUnfit axis no_shape)))

    tasks-hold : has_tasks s ≡ true
    tasks-hold =
        and_from (nat_le (cell_count (cells s)) most_tasks) (nat_le (greatest (hull_voxels s) (cell_count (cells s))) most_voxels)
        (allowed (nat_le (cell_count (cells s)) most_tasks) (TooManyTasks (cell_count (cells s))) (first-none (too_many_tasks s) (too_large_task s) rest))
        (allowed (nat_le (greatest (hull_voxels s) (cell_count (cells s))) most_voxels) (TaskTooLarge (greatest (hull_voxels s) (cell_count (cells s)))) (second-none (too_many_tasks s) (too_large_task s) rest))

    sound : is_sound s ≡ true
    unfolding is_sound
    sound =
        and_from (has_come s.kind) (is_lawful s) d.come
        (and_from (geometry_fits s.source.geometry) (has_layers s && (has_shape s && has_tasks s)) d.fits
        (and_from (has_layers s) (has_shape s && has_tasks s) layers-hold (and_from (has_shape s) (has_tasks s) shape-holds tasks-hold)))

pub can_run : (s : Stage) → IsDraft s → unfit s ≡ None → CanRun s
can_run s d fits = record {
  sound = sound s d fits;
  makes = d.makes;
  elsewhere = elsewhere-from s (sound s d fits) d.elsewhere;
}
