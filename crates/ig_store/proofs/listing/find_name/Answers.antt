use Rattle.std.proofs.Common.{◌≡◌, None, true, false, sym, ◌∙◌, ap, rules}
use Rattle.std.specs.Option.{option_copied}
use Rattle.ig_space.specs.Path.{is_segment}
use Rattle.ig_store.proofs.Listings.{name_in-none, name_in-at}
use Rattle.ig_store.proofs.listing.find_name.Goals as goal

pub returns-in_err-name : goal.returns-in_err-name
returns-in_err-name c =
    let e : option_copied c.from_residual.result ≡ None = search rules in
    e ∙ name_in-none c.args.dir.now c.args.path.now c.in_err-name.ensures.none

pub returns-then-not-is_segment_text : goal.returns-then-not-is_segment_text
returns-then-not-is_segment_text c =
    sym (name_in-at c.args.dir.now c.args.path.now c.in_ok-name.name.now false c.in_ok-name.ensures.some (ap is_segment (sym c.as_bytes.ensures.value) ∙ sym c.if-not-is_segment_text.ensures))

pub returns : goal.returns
returns c =
    sym (name_in-at c.args.dir.now c.args.path.now c.in_ok-name.name.now true c.in_ok-name.ensures.some (ap is_segment (sym c.as_bytes.ensures.value) ∙ sym c.if-not-is_segment_text.ensures))
