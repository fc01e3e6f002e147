-- What puts, moves and removals of files leave of a queue.
use Rattle.std.specs.Prelude.{◌≡◌, ◌⊎◌, ℕ, Bool, true, false, cond, if◌then◌else◌, List, Option, None, Some, IsSome, refl}
use Rattle.std.proofs.Common.{inl, inr, true≢false, ap, sym, ◌∙◌}
use Rattle.std.proofs.lemmas.Bool.{cases_Bool}
use Rattle.std.proofs.lemmas.Map.Text.{is_eq-slice_cmp}
use Rattle.std.proofs.lemmas.Slice.Eq.{bytes_eq-Decides}
use Rattle.std.specs.Str.{bytes_eq}
use Rattle.std.specs.Ordering.{nat_cmp, eq_by_cmp}
use Rattle.std.specs.Cmp.Lexicographic.{slice_cmp, nat_list_cmp_total}
use Rattle.std.specs.FinMap as map
use Rattle.ig_defs.specs.Files.{Files, file_at}
use Rattle.ig_defs.specs.Log.{moved}
use Rattle.ig_defs.specs.Puts.{cases_path, file_at-put, file_at-other}
use Rattle.ig_rule.specs.QueueFiles.{QueueFile, fits, path_of, IsApartFrom, Queue, queue_of}
use Rattle.ig_rule.specs.QueuePaths.{path_is}

-- ---- one file is removed

differs : (path other : List ℕ) → (path ≡ other → ⊥) → (bytes_eq path other ≡ true) ⊎ (bytes_eq path other ≡ false) → eq_by_cmp (slice_cmp nat_cmp) path other ≡ false
differs path other differ (inl e) = absurd (differ ((bytes_eq-Decides path other).0 e))
differs path other differ (inr e) = is_eq-slice_cmp path other ∙ e

-- no file stands at its path
pub file_at-gone : (now : Files) (path other : List ℕ) → path ≡ other → file_at (map.remove now other) path ≡ None
file_at-gone now path other e =
    map.get-remove nat_list_cmp_total now other path
    ∙ ap (λ b. cond b None (map.get now path)) (is_eq-slice_cmp path other ∙ (bytes_eq-Decides path other).1 e)

-- any other path has what it had
pub file_at-kept : (now : Files) (path other : List ℕ) → (path ≡ other → ⊥) → file_at (map.remove now other) path ≡ file_at now path
file_at-kept now path other differ =
    map.get-remove nat_list_cmp_total now other path
    ∙ ap (λ b. cond b None (map.get now path)) (differs path other differ (cases_Bool (bytes_eq path other)))

-- ---- the files of a queue

pub queue_of-fits : (q : List ℕ) (files : Files) (x : QueueFile) → fits x ≡ true → queue_of q files x ≡ file_at files (path_of q x)
queue_of-fits q files x fit = ap (λ b. if b then file_at files (path_of q x) else None) fit

queue_of-unfit : (q : List ℕ) (files : Files) (x : QueueFile) → fits x ≡ false → queue_of q files x ≡ None
queue_of-unfit q files x unfit = ap (λ b. if b then file_at files (path_of q x) else None) unfit

-- where a path holds the same, so does the file of the queue
queue_of-same : (q : List ℕ) (old new : Files) (x : QueueFile) → file_at new (path_of q x) ≡ file_at old (path_of q x) → queue_of q new x ≡ queue_of q old x
queue_of-same q old new x e = ap (λ (o : Option (List ℕ)). if fits x then o else None) e

-- what a file of the queue that is there holds
pub record Holds (q : List ℕ) (files : Files) (x : QueueFile) : Type 0 where
  pub bytes : List ℕ
  pub fit : fits x ≡ true
  pub stands : file_at files (path_of q x) ≡ Some bytes
  pub is : queue_of q files x ≡ Some bytes

holds_by : (q : List ℕ) (files : Files) (x : QueueFile) (b : Bool) (o : Option (List ℕ)) → fits x ≡ b → file_at files (path_of q x) ≡ o → IsSome (if b then o else None) → Holds q files x
holds_by q files x true (Some bytes) fit stands there = record { bytes = bytes; fit = fit; stands = stands; is = queue_of-fits q files x fit ∙ stands }
holds_by q files x true None fit stands there = absurd (true≢false (sym there))
holds_by q files x false o fit stands there = absurd (true≢false (sym there))

pub holds : (q : List ℕ) (files : Files) (x : QueueFile) → IsSome (queue_of q files x) → Holds q files x
holds q files x there = holds_by q files x (fits x) (file_at files (path_of q x)) refl refl there

-- ---- a put of a file of the queue

-- it holds these bytes now, and the others are as they were
pub record Sets (x : QueueFile) (bytes : List ℕ) (old new : Queue) : Type 0 where
  pub at : new x ≡ Some bytes
  pub others : (z : QueueFile) → (z ≡ x) ⊎ (new z ≡ old z)

-- the file x, or one whose path is another
same_path : (q : List ℕ) (old new : Files) (x z : QueueFile) → fits x ≡ true → path_of q z ≡ path_of q x → (fits z ≡ true) ⊎ (fits z ≡ false) → (z ≡ x) ⊎ (queue_of q new z ≡ queue_of q old z)
same_path q old new x z fit e (inl f) = inl (path_is q z x f fit e)
same_path q old new x z fit e (inr f) = inr (queue_of-unfit q new z f ∙ sym (queue_of-unfit q old z f))

put_other : (q : List ℕ) (files : Files) (x z : QueueFile) (bytes : List ℕ) → fits x ≡ true → (path_of q z ≡ path_of q x) ⊎ (path_of q z ≡ path_of q x → ⊥)
    → (z ≡ x) ⊎ (queue_of q (map.insert files (path_of q x) bytes) z ≡ queue_of q files z)
put_other q files x z bytes fit (inl e) = same_path q files (map.insert files (path_of q x) bytes) x z fit e (cases_Bool (fits z))
put_other q files x z bytes fit (inr differ) = inr (queue_of-same q files (map.insert files (path_of q x) bytes) z (file_at-other files (path_of q z) (path_of q x) bytes differ))

pub put_sets : (q : List ℕ) (files : Files) (x : QueueFile) (bytes : List ℕ) → fits x ≡ true → Sets x bytes (queue_of q files) (queue_of q (map.insert files (path_of q x) bytes))
put_sets q files x bytes fit = record {
  at = queue_of-fits q _ x fit ∙ file_at-put files (path_of q x) (path_of q x) bytes refl;
  others = λ z. put_other q files x z bytes fit (cases_path (path_of q z) (path_of q x));
}

-- ---- a move of a file of the queue

-- what became of a file z of the queue when x became y: it is y, it is x and gone, or it is as it was
pub data IsShifted (x y z : QueueFile) (old new : Queue) : Type 0 where
  is_new : z ≡ y → IsShifted x y z old new
  is_gone : z ≡ x → new z ≡ None → IsShifted x y z old new
  is_same : new z ≡ old z → IsShifted x y z old new

-- x had these bytes, and y has them now
pub record Shifts (x y : QueueFile) (bytes : List ℕ) (old new : Queue) : Type 0 where
  pub before : old x ≡ Some bytes
  pub at : new y ≡ Some bytes
  pub others : (z : QueueFile) → IsShifted x y z old new

abbrev shifted : List ℕ → Files → QueueFile → QueueFile → List ℕ → Files
shifted q files x y bytes = map.insert (map.remove files (path_of q x)) (path_of q y) bytes

shift_from : (q : List ℕ) (files : Files) (x y z : QueueFile) (bytes : List ℕ) → fits x ≡ true → (path_of q z ≡ path_of q y → ⊥)
    → path_of q z ≡ path_of q x → (fits z ≡ true) ⊎ (fits z ≡ false) → IsShifted x y z (queue_of q files) (queue_of q (shifted q files x y bytes))
shift_from q files x y z bytes fit other e (inl f) =
    is_gone (path_is q z x f fit e)
    (queue_of-fits q _ z f ∙ file_at-other (map.remove files (path_of q x)) (path_of q z) (path_of q y) bytes other ∙ file_at-gone files (path_of q z) (path_of q x) e)
shift_from q files x y z bytes fit other e (inr f) = is_same (queue_of-unfit q _ z f ∙ sym (queue_of-unfit q files z f))

shift_rest : (q : List ℕ) (files : Files) (x y z : QueueFile) (bytes : List ℕ) → fits x ≡ true → (path_of q z ≡ path_of q y → ⊥)
    → (path_of q z ≡ path_of q x) ⊎ (path_of q z ≡ path_of q x → ⊥) → IsShifted x y z (queue_of q files) (queue_of q (shifted q files x y bytes))
shift_rest q files x y z bytes fit other (inl e) = shift_from q files x y z bytes fit other e (cases_Bool (fits z))
shift_rest q files x y z bytes fit other (inr differ) =
    is_same (queue_of-same q files (shifted q files x y bytes) z
    (file_at-other (map.remove files (path_of q x)) (path_of q z) (path_of q y) bytes other ∙ file_at-kept files (path_of q z) (path_of q x) differ))

shift_to : (q : List ℕ) (files : Files) (x y z : QueueFile) (bytes : List ℕ) → (z ≡ y) ⊎ (queue_of q (shifted q files x y bytes) z ≡ queue_of q files z) → IsShifted x y z (queue_of q files) (queue_of q (shifted q files x y bytes))
shift_to q files x y z bytes (inl e) = is_new e
shift_to q files x y z bytes (inr e) = is_same e

shift_other : (q : List ℕ) (files : Files) (x y z : QueueFile) (bytes : List ℕ) → fits x ≡ true → fits y ≡ true
    → (path_of q z ≡ path_of q y) ⊎ (path_of q z ≡ path_of q y → ⊥) → IsShifted x y z (queue_of q files) (queue_of q (shifted q files x y bytes))
shift_other q files x y z bytes fit fit' (inl e) = shift_to q files x y z bytes (same_path q files (shifted q files x y bytes) y z fit' e (cases_Bool (fits z)))
shift_other q files x y z bytes fit fit' (inr differ) = shift_rest q files x y z bytes fit differ (cases_path (path_of q z) (path_of q x))

pub move_shifts : (q : List ℕ) (files : Files) (x y : QueueFile) → (h : Holds q files x) → fits y ≡ true
    → Shifts x y h.bytes (queue_of q files) (queue_of q (shifted q files x y h.bytes))
move_shifts q files x y h fit = record {
  before = h.is;
  at = queue_of-fits q _ y fit ∙ file_at-put (map.remove files (path_of q x)) (path_of q y) (path_of q y) h.bytes refl;
  others = λ z. shift_other q files x y z h.bytes h.fit fit (cases_path (path_of q z) (path_of q y));
}

-- ---- paths outside the queue

-- each path that is no file's of the queue holds what it held
abbrev pub SameOutside : List ℕ → Files → Files → Type 0
SameOutside q old new = (path : List ℕ) → IsApartFrom q path → file_at new path ≡ file_at old path

pub put_outside : (q : List ℕ) (files : Files) (path bytes : List ℕ) → IsApartFrom q path → queue_of q (map.insert files path bytes) ≡ queue_of q files
put_outside q files path bytes apart = λ i x.
    queue_of-same q files (map.insert files path bytes) x (file_at-other files (path_of q x) path bytes (λ e. apart x (sym e))) i

pub remove_outside : (q : List ℕ) (files : Files) (path : List ℕ) → IsApartFrom q path → queue_of q (map.remove files path) ≡ queue_of q files
remove_outside q files path apart = λ i x.
    queue_of-same q files (map.remove files path) x (file_at-kept files (path_of q x) path (λ e. apart x (sym e))) i

pub put_within : (q : List ℕ) (files : Files) (x : QueueFile) (bytes : List ℕ) → SameOutside q files (map.insert files (path_of q x) bytes)
put_within q files x bytes path apart = file_at-other files path (path_of q x) bytes (apart x)

pub move_within : (q : List ℕ) (files : Files) (x y : QueueFile) (bytes : List ℕ) → SameOutside q files (shifted q files x y bytes)
move_within q files x y bytes path apart =
    file_at-other (map.remove files (path_of q x)) path (path_of q y) bytes (apart y) ∙ file_at-kept files path (path_of q x) (apart x)

-- the files after a move of one that holds these bytes
pub moved_is : (q : List ℕ) (files : Files) (x y : QueueFile) (h : Holds q files x)
    → moved files (path_of q x) (path_of q y) (map.get files (path_of q x)) ≡ shifted q files x y h.bytes
moved_is q files x y h = ap (moved files (path_of q x) (path_of q y)) h.stands
