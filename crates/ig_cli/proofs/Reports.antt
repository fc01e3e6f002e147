-- Lines of refusals, and what a sink took of a line.
use Rattle.std.proofs.Common.{◌≡◌, ℕ, List, ◌++◌, length, Result, Ok, Err, ap, subst, sym, ◌∙◌}
use Rattle.std.proofs.Math.Seq.{take-length}
use Rattle.std.specs.Prelude.{OnOk, OnErr}
use Rattle.ig_defs.specs.Causes.{Rose}
use Rattle.ig_store.specs.declared.sink.SinkFault.{SinkFault}
use Rattle.ig_store.specs.Sink.{TakesPrefix}
use Rattle.ig_meaning.specs.Refusal.{Refusal}
use Rattle.ig_meaning.specs.Ending.{Ending, Refuses}
use Rattle.ig_cli.specs.declared.lines.FaultLine.{FaultLine}
use Rattle.ig_cli.specs.Report.{Ends, HasTold, Tells}

-- the line of a refusal is that of a command that ended by it
pub tells_refusal : (shown meant : Refusal) (ending : Ending) (told : FaultLine) → shown ≡ meant → ending ≡ Refuses meant
    → Tells (Ends (Refuses shown)) told → Tells (Ends ending) told
tells_refusal shown meant ending told same refuses tells =
    let P : Ending → Type 0 = λ e. Tells (Ends e) told in subst P (ap (λ r. Refuses r) same ∙ sym refuses) tells

took : (line : List ℕ) (faults_before faults_now : ℕ) (before now : List ℕ) (r : Result (Unit {0}) SinkFault)
    → OnErr r (Rose faults_before faults_now) → OnOk r (now ≡ before ++ line) → OnErr r (TakesPrefix before line now)
    → HasTold line faults_before faults_now before now
took line a b before now (Ok done) cause ok err = record { all = λ quiet. ok; part = (length line, ok ∙ ap (λ l. before ++ l) (sym (take-length line))) }
took line a b before now (Err e) cause ok err = record { all = λ quiet. absurd (quiet cause); part = err }

-- one write of the line
pub told : (given line : List ℕ) (faults_before faults_now : ℕ) (before now : List ℕ) (r : Result (Unit {0}) SinkFault) → given ≡ line
    → OnErr r (Rose faults_before faults_now) → OnOk r (now ≡ before ++ given) → OnErr r (TakesPrefix before given now)
    → HasTold line faults_before faults_now before now
told given line a b before now r same cause ok err =
    let P : List ℕ → Type 0 = λ l. HasTold l a b before now in subst P same (took given a b before now r cause ok err)
