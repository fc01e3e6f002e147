use Rattle.ig_rule.proofs.WrongRules.{done_too_early, done_again, sealed_too_early, recorded_too_early, leased_by_copy, wrong_text, name_removed}
use Rattle.ig_rule.proofs.laws.wrong_acts_are_refused.Goals as goal

pub returns-clause-done_too_early : goal.returns-clause-done_too_early
returns-clause-done_too_early c = done_too_early

pub returns-clause-done_again : goal.returns-clause-done_again
returns-clause-done_again c = done_again

pub returns-clause-sealed_too_early : goal.returns-clause-sealed_too_early
returns-clause-sealed_too_early c = sealed_too_early

pub returns-clause-recorded_too_early : goal.returns-clause-recorded_too_early
returns-clause-recorded_too_early c = recorded_too_early

pub returns-clause-leased_by_copy : goal.returns-clause-leased_by_copy
returns-clause-leased_by_copy c = leased_by_copy

pub returns-clause-wrong_text : goal.returns-clause-wrong_text
returns-clause-wrong_text c = wrong_text

pub returns-clause-name_removed : goal.returns-clause-name_removed
returns-clause-name_removed c = name_removed
