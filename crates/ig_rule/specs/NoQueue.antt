-- Files without a queue are sound.
use Rattle.std.specs.Prelude.{◌≡◌, ℕ, List, None, Some, option_and_then}
use Rattle.std.proofs.Common.{ap, sym, ◌∙◌, arith}
use Rattle.ig_defs.specs.Files.{Files}
use Rattle.ig_rule.specs.QueueFiles.{QueueFile, Record, Seal, queue_of}
use Rattle.ig_rule.specs.Facts.{Facts, Reader}
use Rattle.ig_rule.specs.Stages.{stages_in}
use Rattle.ig_rule.specs.Sound.{Sound}

-- Files with no file of a queue in its directory are sound.
pub no_queue_sound : (read : Reader) (q : List ℕ) (files : Files) → ((x : QueueFile) → queue_of q files x ≡ None) → Sound read q files
no_queue_sound read q files none = record {
  numbered = record {
    count = 0;
    present = λ n below. absurd (omega arith);
    no_more = λ n more. none (Record n);
    sealed = λ n below. absurd (omega arith);
    no_seal = λ n more. none (Seal n);
  };
  stages = record {
    apart = λ n m s t differ is is'. absurd (unrecorded n s is);
    outside = λ n s is. absurd (unrecorded n s is);
    passes = λ n s key is needs. absurd (unrecorded n s is);
    after_removal = λ r n t s less is removes is'. absurd (unrecorded r t is);
  };
  names = record {
    tasks = λ x id bytes of there. absurd (nothing x bytes there);
    named = λ n k s is sealed below. absurd (unrecorded n s is);
    before_removal = λ n r s t less is is' removes uses. absurd (unrecorded n s is);
  };
  outputs = record {
    outputs = λ n s is makes spared path bytes lies there. absurd (unrecorded n s is);
    done = λ n k s is clear there. absurd (unrecorded n s is);
  };
}
  where
    nothing : (x : QueueFile) (bytes : List ℕ) → queue_of q files x ≡ Some bytes → ⊥
    nothing x bytes e = let both : None ≡ Some bytes = sym (none x) ∙ e in absurd (cc)

    unrecorded : (n : ℕ) (s : Facts) → stages_in read q files n ≡ Some s → ⊥
    unrecorded n s e = let both : None ≡ Some s = sym (ap (option_and_then (read n)) (none (Record n))) ∙ e in absurd (cc)
