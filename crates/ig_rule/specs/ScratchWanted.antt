-- An input that an earlier pass made has a maker, and the text that the passes of its stage want there.
use Rattle.std.specs.Prelude.{◌≡◌, ◌<◌, ℕ, zero, suc, true, false, List, Option, None, Some, option_and_then, refl}
use Rattle.std.proofs.Common.{◌∙◌, arith}
use Rattle.ig_defs.specs.Files.{Files, file_at}
use Rattle.ig_rule.specs.QueueFiles.{Record, Queue, IsApartFrom, queue_of}
use Rattle.ig_rule.specs.Facts.{Facts, Pass, Reader, LiesInOne, IsFrom, made, earlier, IsPassOf, KindLaws}
use Rattle.ig_rule.specs.Stages.{recorded, stages_in, IsSpared, Clear, HasMaker}
use Rattle.ig_rule.specs.Room.{HasPass}
use Rattle.ig_rule.specs.Sound.{Sound}
use Rattle.ig_rule.specs.Known.{IsScratch}
use Rattle.ig_rule.specs.QueuePaths.{no_queue_path}
use Rattle.ig_rule.specs.Keeps.{keep_laws, other_number}

-- the text of a recorded stage's record
record HasText (read : Reader) (n : ℕ) (s : Facts) : Type 0 where
  text : List ℕ
  is : read n text ≡ Some s

text_of : (read : Reader) (queue : Queue) (n : ℕ) (s : Facts) → recorded read queue n ≡ Some s → HasText read n s
text_of read queue n s is = by_text (queue (Record n)) is
  where
    by_text : (o : Option (List ℕ)) → option_and_then (read n) o ≡ Some s → HasText read n s
    by_text (Some text) e = record { text = text; is = e }
    by_text None e = absurd (cc)

pass_of : (read : Reader) → KindLaws read → (queue : Queue) (n m : ℕ) (s t : Facts) (key : Pass) → recorded read queue n ≡ Some s → recorded read queue m ≡ Some t
    → s.needs ≡ Some key → t.serves ≡ Some key → IsPassOf s t
pass_of read kinds queue n m s t key is is' needs serves =
    let a = text_of read queue n s is in
    let b = text_of read queue m t is' in
    kinds.pass n m a.text b.text s t key a.is b.is needs serves

-- by the number of the stage, from the last pass down to the one that made the file
down : (read : Reader) → KindLaws read → (q : List ℕ) (files : Files) → Sound read q files → (path : List ℕ) (bound n : ℕ) (s : Facts) → n < bound
    → stages_in read q files n ≡ Some s → s.is_scratch path ≡ true → HasMaker (stages_in read q files) s path
down read kinds q files sound path zero n s less is scratch = absurd (omega arith)
down read kinds q files sound path (suc bound) n s less is scratch = by_need (down read kinds q files sound path bound) s.needs refl
  where
    by_need : ((m : ℕ) (t : Facts) → m < bound → stages_in read q files m ≡ Some t → t.is_scratch path ≡ true → HasMaker (stages_in read q files) t path)
        → (o : Option Pass) → s.needs ≡ o → HasMaker (stages_in read q files) s path
    by_need below None needs = absurd ((keep_laws read kinds (queue_of q files) n s is).no_scratch needs path scratch)
    by_need below (Some key) needs = by_maker (pass.scratch path scratch)
      where
        h : HasPass (stages_in read q files) n key
        h = sound.stages.passes n s key is needs

        pass : IsPassOf s h.stage
        pass = pass_of read kinds (queue_of q files) n h.number s h.stage key is h.recorded needs h.serves

        by_maker : IsFrom s h.stage path → HasMaker (stages_in read q files) s path
        by_maker (made path_is text) = record { number = h.number; pass = h.stage; is = h.recorded; makes = pass.makes; source = pass.source; path_is = path_is; text = text }
        by_maker (earlier before text) =
            let m = below h.number h.stage (omega (arith, h.below)) h.recorded before in
            record { number = m.number; pass = m.pass; is = m.is; makes = m.makes; source = m.source ∙ pass.source; path_is = m.path_is; text = λ given. text given ∙ m.text given }

-- In sound files a recorded stage makes each input that an earlier pass of a recorded stage makes.
pub has_maker : (read : Reader) → KindLaws read → (q : List ℕ) (files : Files) (n : ℕ) (s : Facts) → Sound read q files → stages_in read q files n ≡ Some s
    → (path : List ℕ) → s.is_scratch path ≡ true → HasMaker (stages_in read q files) s path
has_maker read kinds q files n s sound is path = down read kinds q files sound path (suc n) n s (omega arith) is

made_lies : (read : Reader) → KindLaws read → (q : List ℕ) (files : Files) (s : Facts) (path : List ℕ) → (m : HasMaker (stages_in read q files) s path) → LiesInOne m.pass.outputs path
made_lies read kinds q files s path m = (keep_laws read kinds (queue_of q files) m.number m.pass m.is).path_in m.makes path m.path_is

-- So it is no file of the queue.
pub scratch_apart : (read : Reader) → KindLaws read → (q : List ℕ) (files : Files) (n : ℕ) (s : Facts) → Sound read q files → stages_in read q files n ≡ Some s
    → (path : List ℕ) → s.is_scratch path ≡ true → IsApartFrom q path
scratch_apart read kinds q files n s sound is path scratch x e =
    let m = has_maker read kinds q files n s sound is path scratch in
    let lies = made_lies read kinds q files s path m in
    no_queue_path q lies.dir path x ((sound.stages.outside m.number m.pass m.is).outputs lies.dir lies.one) lies.lies e

-- Where its stage is not under removal, it has the text that is wanted there.
pub scratch_wanted : (read : Reader) → KindLaws read → (q : List ℕ) (files : Files) (n : ℕ) (s : Facts) → Sound read q files → stages_in read q files n ≡ Some s → s.removes ≡ false
    → Clear (stages_in read q files) n s → (path bytes : List ℕ) → s.is_scratch path ≡ true → file_at files path ≡ Some bytes → IsScratch files s (record { path = path; bytes = bytes })
scratch_wanted read kinds q files n s sound is makes clear path bytes scratch there =
    let m = has_maker read kinds q files n s sound is path scratch in
    let spared : IsSpared (stages_in read q files) m.number m.pass.source
    = λ r t other is' removes e. clear.source r t (other_number (stages_in read q files) r n t s is' is removes makes) is' removes (e ∙ m.source) in
    m.text (file_at files) ∙ (sound.outputs.outputs m.number m.pass m.is m.makes spared path bytes (made_lies read kinds q files s path m) there).text
