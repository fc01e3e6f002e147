use Rattle.std.proofs.Common.{◌∙◌, ap, true, false, Err}
use Rattle.std.proofs.lemmas.Result.{err_from_is_err_and}
use Rattle.ig_meaning.specs.QueueMaking.{making_of_last, making_of_new}
use Rattle.ig_rule.specs.Prefixes.{legal_sound}
use Rattle.ig_task.specs.Facts.{stage_reader}
use Rattle.ig_task.specs.Kinds.{kinds}
use Rattle.ig_stage.specs.Open.{maker_rule}
use Rattle.ig_stage.specs.Requests.{shown_request}
use Rattle.ig_stage.proofs.CanMakes.{can_make}
use Rattle.ig_stage.proofs.Enqueues.{finds_as, layers_apart, makes_under, sealed_goes_on, unsealed_continues}
use Rattle.ig_stage.proofs.Lookings.{under_rule}
use Rattle.ig_stage.proofs.Makers.{looks_fail, looks_legal, looks_then_makes}
use Rattle.ig_stage.proofs.enqueuing.make.Goals as goal

pub returns-in_err-stages-clause-made : goal.returns-in_err-stages-clause-made
returns-in_err-stages-clause-made g c = λ tells.
    let q = c.args.queue.now in
    let new = making_of_new (shown_request c.args.want.now) in
    let p = err_from_is_err_and c.from_residual.result c.from_residual.ensures.1 in
    makes_under (maker_rule q) _ q _ _ _ _ c.requires.rule
    (looks_fail _ q _ _ _ _ c.in_err-stages.field-0.0 _ (p.1 ∙ ap Err p.2) (c.in_err-stages.ensures.looks tells (making_of_last q new)))

pub returns-in_err-stages-clause-legal : goal.returns-in_err-stages-clause-legal
returns-in_err-stages-clause-legal g c = λ tells legal.
    let q = c.args.queue.now in
    looks_legal _ q _ _ _ _ _ c.requires.rule (c.in_err-stages.ensures.looks tells (making_of_last q (making_of_new (shown_request c.args.want.now)))) legal

pub returns-in_err-last_is_sealed-clause-made : goal.returns-in_err-last_is_sealed-clause-made
returns-in_err-last_is_sealed-clause-made g c = λ tells.
    let q = c.args.queue.now in
    let new = making_of_new (shown_request c.args.want.now) in
    let p = err_from_is_err_and c.from_residual-in_err-last_is_sealed.result c.from_residual-in_err-last_is_sealed.ensures.1 in
    makes_under (maker_rule q) _ q _ _ _ _ c.requires.rule
    (looks_then_makes _ q _ _ _ _ _ c.in_ok-stages.stages _ (c.in_ok-stages.ensures.looks tells (making_of_last q new))
    (looks_fail _ q _ _ _ _ c.in_err-last_is_sealed.field-0.0 _ (p.1 ∙ ap Err p.2) (under_rule _ _ _ _ _ _ _ c.read_records.ensures.rule (c.in_err-last_is_sealed.ensures.looks tells new))))

pub returns-in_err-last_is_sealed-clause-legal : goal.returns-in_err-last_is_sealed-clause-legal
returns-in_err-last_is_sealed-clause-legal g c = λ tells legal.
    let q = c.args.queue.now in
    let new = making_of_new (shown_request c.args.want.now) in
    looks_legal _ q _ _ _ _ _ (c.read_records.ensures.rule ∙ c.requires.rule) (c.in_err-last_is_sealed.ensures.looks tells new)
    (looks_legal _ q _ _ _ _ _ c.requires.rule (c.in_ok-stages.ensures.looks tells (making_of_last q new)) legal)

pub returns-then-branch-clause-made : goal.returns-then-branch-clause-made
returns-then-branch-clause-made g c = λ tells.
    let q = c.args.queue.now in
    let new = making_of_new (shown_request c.args.want.now) in
    makes_under (maker_rule q) _ q _ _ _ _ c.requires.rule
    (looks_then_makes _ q _ _ _ _ _ c.in_ok-stages.stages _ (c.in_ok-stages.ensures.looks tells (making_of_last q new))
    (looks_then_makes _ q _ _ _ _ _ c.in_ok-last_is_sealed.field-0 _ (under_rule _ _ _ _ _ _ _ c.read_records.ensures.rule (c.in_ok-last_is_sealed.ensures.looks tells new))
    (sealed_goes_on _ q new c.in_ok-stages.stages c.in_ok-last_is_sealed.field-0 _ _ _ c.if-branch.true
    (makes_under _ _ q _ _ _ _ (c.last_is_sealed.ensures.rule ∙ c.read_records.ensures.rule) (c.make_after.ensures.made tells)))))

pub returns-then-branch-clause-legal : goal.returns-then-branch-clause-legal
returns-then-branch-clause-legal g c = λ tells legal.
    let q = c.args.queue.now in
    let new = making_of_new (shown_request c.args.want.now) in
    let first = c.read_records.ensures.rule ∙ c.requires.rule in
    let knows = c.in_ok-stages.ensures.known tells c.requires.rule kinds (legal_sound stage_reader kinds q _ legal) in
    let finds = finds_as q c.in_ok-stages.stages _ _ true c.if-branch.true (c.in_ok-last_is_sealed.ensures.known tells first kinds knows) in
    c.make_after.ensures.legal tells (c.last_is_sealed.ensures.rule ∙ first) (layers_apart q c.args.want.now c.requires.limits c.requires.source_apart c.requires.dest_apart)
    c.in_ok-stages.ensures.sound finds
    (looks_legal _ q _ _ _ _ _ first (c.in_ok-last_is_sealed.ensures.looks tells new)
    (looks_legal _ q _ _ _ _ _ c.requires.rule (c.in_ok-stages.ensures.looks tells (making_of_last q new)) legal))

pub returns-then-branch-clause-sealed : goal.returns-then-branch-clause-sealed
returns-then-branch-clause-sealed g c = λ tells legal.
    let q = c.args.queue.now in
    let new = making_of_new (shown_request c.args.want.now) in
    let first = c.read_records.ensures.rule ∙ c.requires.rule in
    let knows = c.in_ok-stages.ensures.known tells c.requires.rule kinds (legal_sound stage_reader kinds q _ legal) in
    let finds = finds_as q c.in_ok-stages.stages _ _ true c.if-branch.true (c.in_ok-last_is_sealed.ensures.known tells first kinds knows) in
    c.make_after.ensures.sealed tells (c.last_is_sealed.ensures.rule ∙ first) (layers_apart q c.args.want.now c.requires.limits c.requires.source_apart c.requires.dest_apart)
    c.in_ok-stages.ensures.sound finds
    (looks_legal _ q _ _ _ _ _ first (c.in_ok-last_is_sealed.ensures.looks tells new)
    (looks_legal _ q _ _ _ _ _ c.requires.rule (c.in_ok-stages.ensures.looks tells (making_of_last q new)) legal))

pub returns-clause-made : goal.returns-clause-made
returns-clause-made g c = λ tells.
    let q = c.args.queue.now in
    let new = making_of_new (shown_request c.args.want.now) in
    makes_under (maker_rule q) _ q _ _ _ _ c.requires.rule
    (looks_then_makes _ q _ _ _ _ _ c.in_ok-stages.stages _ (c.in_ok-stages.ensures.looks tells (making_of_last q new))
    (looks_then_makes _ q _ _ _ _ _ c.in_ok-last_is_sealed.field-0 _ (under_rule _ _ _ _ _ _ _ c.read_records.ensures.rule (c.in_ok-last_is_sealed.ensures.looks tells new))
    (unsealed_continues _ q new c.in_ok-stages.stages c.in_ok-last_is_sealed.field-0 _ _ _ c.if-branch.false
    (makes_under _ _ q _ _ _ _ (c.last_is_sealed.ensures.rule ∙ c.read_records.ensures.rule) (c.continue_last.ensures.made tells)))))

pub returns-clause-legal : goal.returns-clause-legal
returns-clause-legal g c = λ tells legal.
    let q = c.args.queue.now in
    let new = making_of_new (shown_request c.args.want.now) in
    let first = c.read_records.ensures.rule ∙ c.requires.rule in
    let knows = c.in_ok-stages.ensures.known tells c.requires.rule kinds (legal_sound stage_reader kinds q _ legal) in
    let finds = finds_as q c.in_ok-stages.stages _ _ false c.if-branch.false (c.in_ok-last_is_sealed.ensures.known tells first kinds knows) in
    c.continue_last.ensures.legal tells (c.last_is_sealed.ensures.rule ∙ first) finds
    (looks_legal _ q _ _ _ _ _ first (c.in_ok-last_is_sealed.ensures.looks tells new)
    (looks_legal _ q _ _ _ _ _ c.requires.rule (c.in_ok-stages.ensures.looks tells (making_of_last q new)) legal))

pub returns-clause-sealed : goal.returns-clause-sealed
returns-clause-sealed g c = λ tells legal.
    let q = c.args.queue.now in
    let new = making_of_new (shown_request c.args.want.now) in
    let first = c.read_records.ensures.rule ∙ c.requires.rule in
    let knows = c.in_ok-stages.ensures.known tells c.requires.rule kinds (legal_sound stage_reader kinds q _ legal) in
    let finds = finds_as q c.in_ok-stages.stages _ _ false c.if-branch.false (c.in_ok-last_is_sealed.ensures.known tells first kinds knows) in
    c.continue_last.ensures.sealed tells (c.last_is_sealed.ensures.rule ∙ first) finds
    (looks_legal _ q _ _ _ _ _ first (c.in_ok-last_is_sealed.ensures.looks tells new)
    (looks_legal _ q _ _ _ _ _ c.requires.rule (c.in_ok-stages.ensures.looks tells (making_of_last q new)) legal))

pub returns-in_err-stages-clause-complete : goal.returns-in_err-stages-clause-complete
returns-in_err-stages-clause-complete g c = λ tells path can own. can_make c.args.queue.now (shown_request c.args.want.now) _ _ path c.requires.short can own _ (returns-in_err-stages-clause-made g c tells)

pub returns-in_err-last_is_sealed-clause-complete : goal.returns-in_err-last_is_sealed-clause-complete
returns-in_err-last_is_sealed-clause-complete g c = λ tells path can own. can_make c.args.queue.now (shown_request c.args.want.now) _ _ path c.requires.short can own _ (returns-in_err-last_is_sealed-clause-made g c tells)

pub returns-then-branch-clause-complete : goal.returns-then-branch-clause-complete
returns-then-branch-clause-complete g c = λ tells path can own. can_make c.args.queue.now (shown_request c.args.want.now) _ _ path c.requires.short can own _ (returns-then-branch-clause-made g c tells)

pub returns-clause-complete : goal.returns-clause-complete
returns-clause-complete g c = λ tells path can own. can_make c.args.queue.now (shown_request c.args.want.now) _ _ path c.requires.short can own _ (returns-clause-made g c tells)
