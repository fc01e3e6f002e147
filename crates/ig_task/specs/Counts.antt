-- Counts: the file of a task has the counts of its box.
use Rattle.std.specs.Prelude.{◌≡◌, ℕ, true, List, [], ◌∷◌, codes, Option, None, Some, IfSome, Contains, option_map, refl}
use Rattle.std.proofs.Common.{arith, ap, sym, subst, ◌∙◌, length-append}
use Rattle.std.proofs.lemmas.List.Elements.{Contains-push}
use Rattle.std.proofs.lemmas.Option.{none-some}
use Rattle.ig_space.specs.Grid.{cell_count, space_of}
use Rattle.ig_space.specs.Path.{is_path, joined}
use Rattle.ig_space.specs.Segments.{is_path-joined}
use Rattle.ig_defs.specs.Own.{File}
use Rattle.ig_defs.specs.QueueNameLaws.{are_bytes-from}
use Rattle.ig_record.specs.declared.stage.Kind.{Kind}
use Rattle.ig_record.specs.declared.stage.Kind.TheVariants.{Count}
use Rattle.ig_record.specs.declared.stage.Stage.{Stage}
use Rattle.ig_record.specs.Columns.{box_read, dirs_by, numbered_one, paths_by, removed_by, scratch_read, under}
use Rattle.ig_record.specs.Sound.{is_sound}
use Rattle.ig_record.specs.SoundFacts.{IsScratch}
use Rattle.ig_record.specs.SoundStages.{IsSound, sound-kind}
use Rattle.ig_record.specs.Stage.{cells, task_size}
use Rattle.ig_meaning.specs.Jobs.{file_of}
use Rattle.ig_meaning.specs.Numbered.{number_with}
use Rattle.ig_meaning.specs.Wants.{count_want, wants_by}
use Rattle.ig_task.specs.KindFacts.{IsCount, IsOf, MakesFiles, is-of}
use Rattle.ig_task.specs.NumberedStages.{IsNumbered, numbered-in, numbered-one as one-number, numbered-path, numbered-wants}

pub count-of : (s : Stage) → is_sound s ≡ true → s.kind ≡ Count → IsCount s
count-of s sound is = subst (λ (kind : Kind). IsOf kind s) is (is-of s (sound-kind s sound))

parts_path : is_path (codes "parts") ≡ true
unfolding is_path
parts_path = refl

is_scratch : (scratch : List ℕ) (o : Option (List ℕ)) → o ≡ Some scratch → IfSome o IsScratch → IsScratch scratch
is_scratch scratch None at keeps = absurd (none-some scratch at)
is_scratch scratch (Some dir) at keeps = subst (λ o. IfSome o IsScratch) at keeps

pub count-numbered : (s : Stage) → IsSound s → s.kind ≡ Count → IsCount s → IsNumbered s (count_want s)
count-numbered s h is c =
    let keeps = is_scratch c.scratch s.scratch c.at h.layers.row.keeps in
    let long = length-append c.scratch (47 ∷ codes "parts") in
    record {
      dir = joined c.scratch (codes "parts");
      ending = codes ".counts";
      is_dir = is_path-joined c.scratch (codes "parts") keeps.path parts_path (omega (arith, keeps.short, long));
      short = omega (arith, keeps.short, long);
      bytes = are_bytes-from (codes ".counts") refl;
      ends = omega arith;
      tasks = ap (λ (kind : Kind). cell_count (record { space = space_of s.source.geometry; step = task_size kind s })) is;
      file = λ k. ap (λ (kind : Kind). paths_by kind s k) is ∙ ap (λ (o : Option (List ℕ)). numbered_one o (codes "parts") (codes ".counts") k) c.at;
      one = subst (λ dirs. Contains dirs (joined c.scratch (codes "parts"))) (sym (ap (λ (kind : Kind). dirs_by kind s) is ∙ ap (λ (o : Option (List ℕ)). under o (codes "parts")) c.at))
          (Contains-push [] (joined c.scratch (codes "parts")));
      wanted = λ path.
          ap (λ (kind : Kind). wants_by kind s path) is
          ∙ ap (λ (o : Option (List ℕ)). option_map (count_want s) (number_with o (codes "parts") (codes ".counts") (cell_count (cells s)) path)) c.at;
    }

pub count-makes_files : (s : Stage) → IsSound s → s.kind ≡ Count → IsCount s → MakesFiles s
count-makes_files s h is c =
    let n = count-numbered s h is c in
    let no_info : (info : File) → option_map file_of s.info ≡ Some info → ⊥ = λ info e. none-some info (ap (option_map file_of) (sym c.alone.no_info) ∙ e) in
    record {
      keeps = ap (λ (kind : Kind). removed_by kind s) is;
      shape = ap (λ (kind : Kind). task_size kind s) is;
      reads = λ k. ap (λ (kind : Kind). box_read kind s k) is;
      no_scratch = λ k. ap (λ (kind : Kind). scratch_read kind s k) is;
      wants = numbered-wants s h (count_want s) n;
      wanted_at = numbered-path s h (count_want s) n;
      path_in = numbered-in s h (count_want s) n;
      one_task = one-number s h (count_want s) n;
      info_name = λ info e. absurd (no_info info e);
      info_apart = λ info e within. no_info info e;
    }
