-- The words of a worker, which are those of no other command.
use Rattle.std.proofs.Common.{◌≡◌, ℕ, Bool, true, false, if◌then◌else◌, List, [], ◌∷◌, Option, Some, None, codes, refl, sym, subst}
use Rattle.std.specs.Str.{bytes_eq}
use Rattle.std.proofs.lemmas.Slice.Eq.{bytes_eq-Decides}
use Rattle.ig_meaning.specs.Words.{Command, Local, Enqueue, Request, command_of, image_command, queue_of_command}
use Rattle.ig_stage.specs.Open.{maker_rule}
use Rattle.ig_stage.specs.Pipeline.{local_rule}
use Rattle.ig_worker.specs.declared.plan.Plan.{Plan}
use Rattle.ig_worker.specs.Words.{plan_of_words}
use Rattle.ig_cli.specs.Rules.{rule_for, rule_of_words}

asks : (b : Bool) (o : Option Command) (command : Command) → (if b then o else None) ≡ Some command → b ≡ true
asks true o command is = refl
asks false o command is = let no_way : ⊥ = cc in absurd no_way

-- one first word is not another
not_execute : (first : List ℕ) → bytes_eq first (codes "image") ≡ true → bytes_eq first (codes "execute") ≡ false
not_execute first image = subst (λ word. bytes_eq word (codes "execute") ≡ false) (sym ((bytes_eq-Decides first (codes "image")).0 image)) refl

unasked : (b : Bool) (o : Option Plan) → b ≡ false → (if b then o else None) ≡ None
unasked true o is = let no_way : ⊥ = cc in absurd no_way
unasked false o is = refl

-- the words of another command are not those of a worker
pub no_plan : (words : List (List ℕ)) (command : Command) → command_of words ≡ Some command → plan_of_words words ≡ None
no_plan [] command asked = refl
no_plan (first ∷ words) command asked = unasked (bytes_eq first (codes "execute")) _ (not_execute first (asks (bytes_eq first (codes "image")) (image_command words) command asked))

-- the rule of a copy that is run at once
pub rule_of_copy : (words : List (List ℕ)) (request : Request) → command_of words ≡ Some (Local request) → rule_of_words words ≡ local_rule
rule_of_copy words request asked = λ i. rule_for (no_plan words (Local request) asked i) (queue_of_command (asked i))

-- and of one whose stage is put into a queue
pub rule_of_enqueue : (words : List (List ℕ)) (q : List ℕ) (request : Request) → command_of words ≡ Some (Enqueue q request) → rule_of_words words ≡ maker_rule q
rule_of_enqueue words q request asked = λ i. rule_for (no_plan words (Enqueue q request) asked i) (queue_of_command (asked i))
