-- What a task makes is what is wanted: one lemma for every kind.
use Rattle.std.specs.Prelude.{◌≡◌, ◌<◌, ℕ, zero, suc, true, false, List, [], ◌∷◌, length, Option, None, Some, is_some, Contains, All, option_map, refl}
use Rattle.std.proofs.Common.{arith, ap, sym, subst, ◌∙◌, true≢false}
use Rattle.std.proofs.lemmas.Option.{none-some, same_Some}
use Rattle.ig_layer.specs.Layer.{Labels, Reading, volume_at}
use Rattle.ig_cutout.specs.declared.types.Output.{Output}
use Rattle.ig_record.specs.declared.stage.Kind.{Kind}
use Rattle.ig_record.specs.declared.stage.Stage.{Stage}
use Rattle.ig_record.specs.Columns.{paths_of, removed_dir, scratch_read}
use Rattle.ig_record.specs.Sound.{is_sound}
use Rattle.ig_record.specs.Stage.{task_count}
use Rattle.ig_meaning.specs.Agreeing.{further, here}
use Rattle.ig_meaning.specs.Sequential.{HasScratch, first-from, outputs_at-paths}
use Rattle.ig_meaning.specs.Wants.{Want, output_by, outputs_at, put_at, removal_of, text_by, wants_by}
use Rattle.ig_task.specs.KindFacts.{KindFacts, makes_files, removes}
use Rattle.ig_task.specs.Kinds.{kind-facts}
use Rattle.ig_task.specs.OwnedPaths.{removal-removes}
use Rattle.ig_task.specs.OwnWants.{removal-wants}
use Rattle.ig_task.specs.Wanted.{AreWanted, HasWantedText}

-- ---- lists
all_of : {A : Type 0} (P : A → Type 0) (x : A) (xs : List A) → P x → All P xs → All P (x ∷ xs)
all_of P x xs first rest zero d below = first
all_of P x xs first rest (suc k) d below = rest k d (omega (arith, below))

-- ---- texts
text_wanted : (s : Stage) (files : Reading) (path : List ℕ) (want : Option Want) (output : Output) → wants_by s.kind s path ≡ want → is_some want ≡ true → output_by (volume_at files s.source) path want ≡ Some output
    → HasWantedText s files output
text_wanted s files path None output is there e = absurd (true≢false (sym there))
text_wanted s files path (Some want) output is there e = by_text (text_by (volume_at files s.source) (Some want)) refl e
  where
    by_text : (text : Option (List ℕ)) → text_by (volume_at files s.source) (Some want) ≡ text → option_map (put_at path) text ≡ Some output → HasWantedText s files output
    by_text None is_text e = absurd (none-some output e)
    by_text (Some bytes) is_text e = subst (HasWantedText s files) (same_Some (put_at path bytes) output e)
        (record { bytes = bytes; text = refl; wanted = ap (text_by (volume_at files s.source)) is ∙ is_text })

texts_wanted : (s : Stage) (files : Reading) (paths : List (List ℕ)) (outputs : List Output) → outputs_at s (volume_at files s.source) paths ≡ Some outputs
    → ((path : List ℕ) → Contains paths path → is_some (wants_by s.kind s path) ≡ true) → All (HasWantedText s files) outputs
texts_wanted s files [] outputs e there = subst (All (HasWantedText s files)) (same_Some [] outputs e) (λ k d below. absurd (omega (arith, below)))
texts_wanted s files (path ∷ paths) outputs e there =
    let f = first-from (output_by (volume_at files s.source) path (wants_by s.kind s path)) (outputs_at s (volume_at files s.source) paths) outputs e in
    subst (All (HasWantedText s files)) f.are
    (all_of (HasWantedText s files) f.head f.tail (text_wanted s files path (wants_by s.kind s path) f.head refl (there path (here path paths)) f.first_is)
    (texts_wanted s files paths f.tail f.rest_is (λ p h. there p (further path p paths h))))

-- nothing is wanted there
none_wanted : (s : Stage) (volume : Labels) (paths : List (List ℕ)) (outputs : List Output) → outputs_at s volume paths ≡ Some outputs → ((path : List ℕ) → wants_by s.kind s path ≡ None)
    → All (λ (output : Output). output.text ≡ None) outputs
none_wanted s volume [] outputs e none = subst (All (λ (output : Output). output.text ≡ None)) (same_Some [] outputs e) (λ k d below. absurd (omega (arith, below)))
none_wanted s volume (path ∷ paths) outputs e none =
    let f = first-from (output_by volume path (wants_by s.kind s path)) (outputs_at s volume paths) outputs e in
    let gone : removal_of path ≡ f.head = same_Some (removal_of path) f.head (sym (ap (output_by volume path) (none path)) ∙ f.first_is) in
    subst (All (λ (output : Output). output.text ≡ None)) f.are
    (all_of (λ (output : Output). output.text ≡ None) f.head f.tail (ap (λ (output : Output). output.text) (sym gone)) (none_wanted s volume paths f.tail f.rest_is none))

-- ---- by the kind
-- something is wanted at each path of a stage that makes files
own_wants : (s : Stage) → KindFacts s → is_some (removed_dir s) ≡ false → (k : ℕ) → k < task_count s → (path : List ℕ) → Contains (paths_of s k) path → is_some (wants_by s.kind s path) ≡ true
own_wants s (makes_files m) makes = m.wants
own_wants s (removes is r) makes = absurd (true≢false (sym (removal-removes s is) ∙ makes))

-- and nothing at those of a removal
own_none : (s : Stage) → KindFacts s → is_some (removed_dir s) ≡ true → (path : List ℕ) → wants_by s.kind s path ≡ None
own_none s (makes_files m) takes path = absurd (true≢false (sym takes ∙ ap (λ (dir : Option (List ℕ)). is_some dir) m.keeps))
own_none s (removes is r) takes path = removal-wants s is path

-- no kind that has come builds on earlier passes
scratch_by : (s : Stage) → KindFacts s → (k : ℕ) → scratch_read s.kind s k ≡ []
scratch_by s (makes_files m) k = m.no_scratch k
scratch_by s (removes is r) k = ap (λ (kind : Kind). scratch_read kind s k) is

pub no_scratch : (s : Stage) → is_sound s ≡ true → (k : ℕ) → scratch_read s.kind s k ≡ []
no_scratch s sound = scratch_by s (kind-facts s sound)

-- ---- outputs
-- What is to stand at the paths of a task are wanted outputs.
pub are-wanted : (s : Stage) → is_sound s ≡ true → (k : ℕ) → k < task_count s → (files : Reading) (outputs : List Output) → outputs_at s (volume_at files s.source) (paths_of s k) ≡ Some outputs → AreWanted s k files outputs
are-wanted s sound k below files outputs e = record {
  paths = outputs_at-paths s (volume_at files s.source) (paths_of s k) outputs e;
  made = λ makes. texts_wanted s files (paths_of s k) outputs e (own_wants s (kind-facts s sound) makes k below);
  gone = λ takes. none_wanted s (volume_at files s.source) (paths_of s k) outputs e (own_none s (kind-facts s sound) takes);
}

-- The texts of earlier passes that a task is to be given are those that these want.
pub given-scratch : (s : Stage) → is_sound s ≡ true → (k : ℕ) (given : Reading) → HasScratch s k given
given-scratch s sound k given path among = let none = ap length (no_scratch s sound k) in absurd (omega (arith, among.1, none))
