-- A put of a stage's record keeps the files of a queue sound.
use Rattle.std.specs.Prelude.{◌≡◌, ◌≢◌, ◌⊎◌, ◌≤◌, ◌<◌, ℕ, suc, true, List, Option, None, Some, IsSome, option_and_then, refl}
use Rattle.std.proofs.Common.{inl, inr, ap, sym, subst, ◌∙◌, arith}
use Rattle.std.proofs.lemmas.Bool.{cases_eq, cases_lt}
use Rattle.ig_space.specs.declared.task_id.TaskId.{TaskId}
use Rattle.ig_defs.specs.Files.{Files}
use Rattle.ig_rule.specs.QueueFiles.{QueueFile, Record, Seal, Done, Queue}
use Rattle.ig_rule.specs.Facts.{Facts, Pass, Reader}
use Rattle.ig_rule.specs.Stages.{Records, recorded}
use Rattle.ig_rule.specs.Room.{AreApart, IsOutsideQueue, IsNotRemovedBy, HasPass, Room}
use Rattle.ig_rule.specs.Rule.{PutsRecord}
use Rattle.ig_rule.specs.Sound.{AreNumbered, AreSoundStages}
use Rattle.ig_rule.specs.QueueSteps.{Sets}
use Rattle.ig_rule.specs.SoundFiles.{none_there}
use Rattle.ig_rule.specs.SoundNames.{set_there}
use Rattle.ig_rule.specs.Grown.{Grows, Age, is_old, is_the_new, still_recorded, age}

-- ---- the stages

swapped : (s t : Facts) → AreApart s t → AreApart t s
swapped s t h = record { outputs = λ dir a b. h.outputs dir b a; info = h.other_info; other_info = h.info }

apart_grown : (q : List ℕ) (records grown : Records) (queue : Queue) (files : Files) (m : ℕ) (new : Facts) → Grows records grown m new → Room records queue q files m new → AreSoundStages q records
    → (i j : ℕ) (s t : Facts) → i ≢ j → Age records m new i s → Age records m new j t → AreApart s t
apart_grown q records grown queue files m new g room h i j s t differ (is_old less is) (is_old less' is') = h.apart i j s t differ is is'
apart_grown q records grown queue files m new g room h i j s t differ (is_old less is) (is_the_new e s') = subst (AreApart s) s' (swapped new s (room.apart i s is))
apart_grown q records grown queue files m new g room h i j s t differ (is_the_new e s') (is_old less is) = subst (λ u. AreApart u t) s' (room.apart j t is)
apart_grown q records grown queue files m new g room h i j s t differ (is_the_new e s') (is_the_new e' t') = absurd (differ (e ∙ sym e'))

pass_grown : (records grown : Records) (m : ℕ) (new : Facts) → Grows records grown m new → (n : ℕ) (key : Pass) → HasPass records n key → HasPass grown n key
pass_grown records grown m new g n key h = record {
  number = h.number;
  stage = h.stage;
  below = h.below;
  recorded = still_recorded records grown m new g h.number h.stage h.recorded;
  serves = h.serves;
}

pub stages_grown : (q : List ℕ) (records grown : Records) (queue : Queue) (files : Files) (m : ℕ) (new : Facts) → Grows records grown m new → Room records queue q files m new
    → AreSoundStages q records → AreSoundStages q grown
stages_grown q records grown queue files m new g room h = record {
  apart = λ i j s t differ is is'. apart_grown q records grown queue files m new g room h i j s t differ (aged i s is) (aged j t is');
  outside = λ n s is. outside_of n s (aged n s is);
  passes = λ n s key is needs. pass_grown records grown m new g n key (pass_of n s key needs (aged n s is));
  after_removal = λ r n t s less is removes is'. spared_by r n t s less removes (aged r t is) (aged n s is');
}
  where
    aged : (n : ℕ) (t : Facts) → grown n ≡ Some t → Age records m new n t
    aged = age records grown m new g

    outside_of : (n : ℕ) (s : Facts) → Age records m new n s → IsOutsideQueue q s
    outside_of n s (is_old less is) = h.outside n s is
    outside_of n s (is_the_new e s') = subst (IsOutsideQueue q) s' room.outside

    pass_of : (n : ℕ) (s : Facts) (key : Pass) → s.needs ≡ Some key → Age records m new n s → HasPass records n key
    pass_of n s key needs (is_old less is) = h.passes n s key is needs
    pass_of n s key needs (is_the_new e s') = subst (λ l. HasPass records l key) (sym e) (room.pass key (ap (λ (u : Facts). u.needs) s' ∙ needs))

    spared_by : (r n : ℕ) (t s : Facts) → r < n → t.removes ≡ true → Age records m new r t → Age records m new n s → IsNotRemovedBy s t
    spared_by r n t s less removes (is_old below is) (is_old below' is') = h.after_removal r n t s less is removes is'
    spared_by r n t s less removes (is_old below is) (is_the_new e s') = subst (λ u. IsNotRemovedBy u t) s' (room.not_removed r t is removes)
    spared_by r n t s less removes (is_the_new e t') (is_old below is') = absurd (omega arith)
    spared_by r n t s less removes (is_the_new e t') (is_the_new e' s') = absurd (omega arith)

-- ---- the numbers

pub record_other : (m : ℕ) (bytes : List ℕ) (old new : Queue) → Sets (Record m) bytes old new → (z : QueueFile) → (z ≡ Record m → ⊥) → new z ≡ old z
record_other m bytes old new sets z other = by_place (sets.others z)
  where
    by_place : (z ≡ Record m) ⊎ (new z ≡ old z) → new z ≡ old z
    by_place (inl e) = absurd (other e)
    by_place (inr e) = e

pub seal_no_record : (n m : ℕ) → Seal n ≡ Record m → ⊥
seal_no_record n m e = absurd (cc)

record_is : (n m : ℕ) → Record n ≡ Record m → n ≡ m
record_is n m e = cc

pub done_no_record : (id : TaskId) (m : ℕ) → Done id ≡ Record m → ⊥
done_no_record id m e = absurd (cc)

-- the number of recorded stages is that of the new one
pub count_is : (read : Reader) (q : List ℕ) (files : Files) (path bytes : List ℕ) (old : Queue) → (u : PutsRecord read old q files path bytes) → (h : AreNumbered (recorded read old) old) → h.count ≡ u.number
count_is read q files path bytes old u h = by_order (cases_lt h.count u.number) (cases_lt u.number h.count)
  where
    too_few : h.count < u.number → ⊥
    too_few less = none_there (old (Record h.count)) (u.before h.count less).0 (h.no_more h.count (omega arith))

    unrecorded : (o : Option Facts) → o ≡ None → IsSome o → ⊥
    unrecorded (Some s) none there = absurd (cc)
    unrecorded None none there = absurd (cc)

    too_many : u.number < h.count → ⊥
    too_many less = unrecorded (recorded read old u.number) (ap (option_and_then (read u.number)) (u.no_other u.number (omega arith))) (h.present u.number less)

    by_order : (h.count < u.number) ⊎ (u.number ≤ h.count) → (u.number < h.count) ⊎ (h.count ≤ u.number) → h.count ≡ u.number
    by_order (inl less) other = absurd (too_few less)
    by_order (inr more) (inl less) = absurd (too_many less)
    by_order (inr more) (inr less) = omega arith

pub numbered_grown : (read : Reader) (q : List ℕ) (files : Files) (path bytes : List ℕ) (old new : Queue) → (u : PutsRecord read old q files path bytes) → Sets (Record u.number) bytes old new
    → Grows (recorded read old) (recorded read new) u.number u.stage → AreNumbered (recorded read old) old → AreNumbered (recorded read new) new
numbered_grown read q files path bytes old new u sets g h = record {
  count = suc u.number;
  present = λ n below. there n below (cases_eq n u.number);
  no_more = λ n more. record_other u.number bytes old new sets (Record n) (λ e. later n more (record_is n u.number e)) ∙ u.no_other n (omega arith);
  sealed = λ n below. set_there (Record u.number) bytes old new sets (Seal n) (u.before n (omega arith)).1;
  no_seal = λ n more. record_other u.number bytes old new sets (Seal n) (seal_no_record n u.number) ∙ h.no_seal n (omega (arith, count_is read q files path bytes old u h));
}
  where
    later : (n : ℕ) → suc u.number ≤ n → n ≡ u.number → ⊥
    later n more e = omega arith

    is_there : (o : Option Facts) (s : Facts) → o ≡ Some s → IsSome o
    is_there o s e = subst (λ p. IsSome p) (sym e) refl

    there : (n : ℕ) → n < suc u.number → (n ≡ u.number) ⊎ (n ≡ u.number → ⊥) → IsSome (recorded read new n)
    there n below (inl e) = is_there (recorded read new n) u.stage (ap (recorded read new) e ∙ g.at)
    there n below (inr differ) =
        subst (λ o. IsSome o) (sym (g.others n differ)) (h.present n (omega (arith, differ, count_is read q files path bytes old u h)))
