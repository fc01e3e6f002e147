use Rattle.std.proofs.Common.{◌≡◌, Ok, ap, subst, ◌∙◌}
use Rattle.ig_info.specs.Reading.{info_of}
use Rattle.ig_info.specs.Info.{InfoData}
use Rattle.ig_info.proofs.Parsed.{info_in-written}
use Rattle.ig_info.proofs.info.write_info.Goals as goal

pub returns-clause-reads_back : goal.returns-clause-reads_back
returns-clause-reads_back c =
    info_in-written c.in_ok-text.text _ _ _ (c.from_vec.ensures ∙ ap (λ v. v.items) c.into_bytes.ensures.value) (c.in_ok-text.ensures.reads_back c.info.invariant.shallow)
    (ap (λ (i : InfoData). i.members) c.info.view_is)
    ∙ subst (λ (i : InfoData). info_of i.members ≡ Ok i) c.info.view_is c.info.invariant.reads_back
