use Rattle.std.proofs.Common.{arith, ◌<◌, ◌^◌, ◌++◌, slice_index, ap, sym, subst, ◌∙◌}
use Rattle.std.proofs.lemmas.Result.{on_ok_weaker}
use Rattle.ig_space.specs.declared.geometry.Width.TheVariants.{W32}
use Rattle.ig_space.specs.Raw.{raw_text}
use Rattle.ig_cseg.specs.CsegText.{value_len}
use Rattle.ig_cseg.proofs.IndexWords.{handed_back, index-small, index_words-from}
use Rattle.ig_cseg.proofs.parts.append_indices.Goals as goal

pub append_words-requires-clause-small : goal.append_words-requires-clause-small
append_words-requires-clause-small c =
    let s = c.args.clip.now in
    let back = c.deref.ensures.value ∙ handed_back c.resize.new.self.len c.write_indices.new.indices c.resize.new.self.items (omega (arith, c.write_indices.auto.indices, c.deref_mut.ensures.len)) in
    λ p. let own = ap (λ xs. slice_index xs p) back ∙ c.write_indices.ensures p in
    subst (λ n. n < 2 ^ c.args.bits) (sym own)
    (index-small s.volume s.block s.lo s.size c.args.voxels.now c.args.table.now c.args.bits p c.requires.clip c.requires.voxels c.requires.table c.requires.bits)

pub returns : goal.returns
returns c =
    let s = c.args.clip.now in
    let back = c.deref.ensures.value ∙ handed_back c.resize.new.self.len c.write_indices.new.indices c.resize.new.self.items (omega (arith, c.write_indices.auto.indices, c.deref_mut.ensures.len)) in
    let many = c.value_len-words.ensures ∙ ap (value_len c.args.bits) c.positions.ensures.value in
    let same = index_words-from s.block s.size c.args.voxels.now c.args.table.now c.deref.result.now c.args.bits c.value_len-words.result
    (λ p. ap (λ xs. slice_index xs p) back ∙ c.write_indices.ensures p) many in
    on_ok_weaker c.append_words.result (λ e. e ∙ ap (λ ws. c.args.text.now.items ++ raw_text W32 ws) same) c.append_words.ensures
