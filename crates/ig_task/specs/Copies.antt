-- Copies: their files are the chunks of one scale.
use Rattle.std.specs.Prelude.{◌≡◌, ◌≢◌, ◌⊎◌, ◌<◌, ℕ, true, List, [], ◌∷◌, length, Option, Some, is_some, option_map, Contains, codes, refl}
use Rattle.std.proofs.Common.{arith, ap, sym, subst, ◌∙◌, inl, inr, length-append}
use Rattle.std.proofs.lemmas.List.Elements.{Contains-push, Contains-push_cases}
use Rattle.std.proofs.lemmas.Option.{same_Some}
use Rattle.ig_space.specs.Path.{joined}
use Rattle.ig_defs.specs.Own.{File}
use Rattle.ig_record.specs.declared.stage.Kind.{Kind}
use Rattle.ig_record.specs.declared.stage.Kind.TheVariants.{Xfer}
use Rattle.ig_record.specs.declared.stage.Stage.{Stage}
use Rattle.ig_record.specs.Columns.{box_read, output_dirs, paths_of, removed_by, scratch_read}
use Rattle.ig_record.specs.Sound.{is_sound}
use Rattle.ig_record.specs.SoundKinds.{IsCopyOf}
use Rattle.ig_record.specs.SoundStages.{IsSound, sound-kind}
use Rattle.ig_record.specs.Stage.{task_count, task_size}
use Rattle.ig_meaning.specs.ChunkPlaces.{chunk-lies, chunk_with-is}
use Rattle.ig_meaning.specs.Jobs.{file_of}
use Rattle.ig_meaning.specs.Wants.{Want, chunk_want, wants_by}
use Rattle.ig_rule.specs.DirPaths.{dir_of-segment, dir_within}
use Rattle.ig_rule.specs.Facts.{LiesInOne}
use Rattle.ig_task.specs.KindFacts.{IsOf, MakesFiles, is-of}
use Rattle.ig_task.specs.OwnedPaths.{chunk-path, copy-outputs, copy-owns, one-task, path-chunk}
use Rattle.ig_task.specs.OwnWants.{copy-chunk, copy-wants}

pub copy-of : (s : Stage) → is_sound s ≡ true → s.kind ≡ Xfer → IsCopyOf s.source s.dests s.info
copy-of s sound is = subst (λ (kind : Kind). IsOf kind s) is (is-of s (sound-kind s sound))

-- ---- the info of a copy
info-is : (s : Stage) (c : IsCopyOf s.source s.dests s.info) (info : File) → option_map file_of s.info ≡ Some info → info.path ≡ joined c.layer (codes "info")
info-is s c info e =
    let same : file_of c.put ≡ info = same_Some (file_of c.put) info (ap (option_map file_of) (sym c.info_is) ∙ e) in
    ap (λ (file : File). file.path) (sym same) ∙ c.path_is

longer : (layer key : List ℕ) → joined layer key ≢ layer
longer layer key e = let long : length (joined layer key) ≡ length layer = ap (λ (text : List ℕ). length text) e in absurd (omega (arith, long, length-append layer (47 ∷ key)))

-- it lies in the layer, and its scale in a directory of that
info-apart : (s : Stage) → s.kind ≡ Xfer → (c : IsCopyOf s.source s.dests s.info) (info : File) → option_map file_of s.info ≡ Some info → LiesInOne (output_dirs s) info.path → ⊥
info-apart s is c info e within =
    let one : Contains (c.dest.dir ∷ []) within.dir = subst (λ dirs. Contains dirs within.dir) (copy-outputs s is c) within.one in
    let of_layer : within.dir ≡ c.layer = dir_within within.dir c.layer (codes "info") info.path within.lies (dir_of-segment (codes "info") refl) (info-is s c info e) in
    only (Contains-push_cases [] c.dest.dir within.dir one) of_layer
  where
    only : Contains [] within.dir ⊎ (c.dest.dir ≡ within.dir) → within.dir ≡ c.layer → ⊥
    only (inl h) of_layer = absurd (omega (arith, h.1))
    only (inr same) of_layer = longer c.layer c.key (sym c.dir_is ∙ same ∙ of_layer)

-- ---- its files
copy-wanted : (s : Stage) → IsSound s → s.kind ≡ Xfer → (c : IsCopyOf s.source s.dests s.info) → (k : ℕ) → k < task_count s → (path : List ℕ) → Contains (paths_of s k) path → is_some (wants_by s.kind s path) ≡ true
copy-wanted s h is c k below path among =
    let chunk = path-chunk s c.dest (copy-owns s h is c) 0 path (record { task = k; below = below; among = among }) in
    let there = chunk_with-is c.dest c.is_dest.fits path chunk.box chunk.at in
    ap (λ (want : Option Want). is_some want) (copy-wants s is c path ∙ ap (option_map (chunk_want c.dest)) there)

pub copy-makes_files : (s : Stage) → IsSound s → s.kind ≡ Xfer → IsCopyOf s.source s.dests s.info → MakesFiles s
copy-makes_files s h is c =
    let dest = c.dest in
    let owns = copy-owns s h is c in
    record {
      keeps = ap (λ (kind : Kind). removed_by kind s) is;
      shape = ap (λ (kind : Kind). task_size kind s) is;
      reads = λ k. ap (λ (kind : Kind). box_read kind s k) is;
      no_scratch = λ k. ap (λ (kind : Kind). scratch_read kind s k) is;
      wants = copy-wanted s h is c;
      wanted_at = λ files path bytes e. chunk-path s dest owns 0 path (copy-chunk s is c files path bytes e);
      path_in = λ path u. record {
        dir = dest.dir;
        one = subst (λ dirs. Contains dirs dest.dir) (sym (copy-outputs s is c)) (Contains-push [] dest.dir);
        lies = chunk-lies dest c.is_dest.fits c.is_dest.dir path (path-chunk s dest owns 0 path u);
      };
      one_task = one-task s dest owns;
      info_name = λ info e. record { dir = c.layer; is = info-is s c info e };
      info_apart = info-apart s is c;
    }
