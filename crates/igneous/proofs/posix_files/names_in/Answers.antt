use Rattle.std.proofs.Common.{rules, ◌≡◌, ◌<◌, [], map, string_bytes, ◌∙◌, ap, sym, arith, length, get_or}
use Rattle.std.proofs.lemmas.List.{get_or-map, length-map}
use Rattle.ig_defs.specs.Names.{IsNameIn}
use Rattle.igneous.proofs.Sorted.{start, Ascending-bytes, Ascending-step, All-step}
use Rattle.igneous.proofs.posix_files.names_in.Goals as goal

pub loop-name-init : goal.loop-name-init
loop-name-init g c =
    start (IsNameIn c.as_str-dir.result.now) c.new-names.result _ c.new-names.ensures
    (rw c.deref-name-items.ensures.value (Ascending-bytes _ c.in_ok-entries_of.ensures))

pub loop-name-preserved : goal.loop-name-preserved
loop-name-preserved g c =
    let items = c.deref-name-items.result.now in
    let at = c.loop-name.name-index in
    let item = c.name-item.result in
    let within : at < length items = search rules in
    let here : item ≡ get_or items at item = search rules in (
      All-step (IsNameIn c.as_str-dir.result.now) c.in_ok-there.there c.loop-name.names c.add_where.new.names c.in_ok-of.field-0
          (λ there. rw c.in_ok-of.ensures (c.in_ok-there.ensures there)) c.loop-name.invariant.0 c.in_ok-add_where.ensures,
      Ascending-step c.in_ok-there.there c.loop-name.names c.add_where.new.names
          (map string_bytes items) at c.in_ok-of.field-0
          (omega (arith, length-map items string_bytes, within))
          (c.in_ok-of.ensures ∙ c.as_str-name.ensures.value ∙ ap string_bytes here ∙ sym (get_or-map string_bytes items at item [] within))
          c.loop-name.invariant.1 c.in_ok-add_where.ensures,
    )
