use Rattle.std.proofs.Common.{rules, ◌≡◌, true, false, bytes_eq, sym, ◌∙◌, ap}
use Rattle.std.specs.FinMap as map
use Rattle.ig_store.proofs.Moves.{moved_apart, moved_itself}
use Rattle.ig_store.proofs.files.FileMap.shift.Goals as goal

pub returns-then-ne-clause-ok : goal.returns-then-ne-clause-ok
returns-then-ne-clause-ok c =
    let put : c.insert.new.self ≡ map.insert c.args.self.now c.args.to.now c.in-Some.bytes.now = rw (← c.in_ok-key.ensures, ← c.in_ok-value.ensures) c.in_ok-insert.ensures.ok in
    let apart : bytes_eq c.args.from.now c.args.to.now ≡ false = search rules in
    c.remove.ensures.files ∙ ap (λ f. map.remove f c.args.from.now) put ∙ moved_apart _ _ _ _ _ (sym c.in-Some.ensures) apart

pub returns-else-ne-clause-ok : goal.returns-else-ne-clause-ok
returns-else-ne-clause-ok c =
    let put : c.insert.new.self ≡ map.insert c.args.self.now c.args.to.now c.in-Some.bytes.now = rw (← c.in_ok-key.ensures, ← c.in_ok-value.ensures) c.in_ok-insert.ensures.ok in
    let tied : bytes_eq c.args.from.now c.args.to.now ≡ true = search rules in
    put ∙ moved_itself _ _ _ _ _ (sym c.in-Some.ensures) tied
