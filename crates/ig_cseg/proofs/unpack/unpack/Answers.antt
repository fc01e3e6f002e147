use Rattle.std.proofs.Common.{arith, sym, subst}
use Rattle.ig_cseg.specs.Cseg.{entry_len}
use Rattle.ig_cseg.proofs.Clean.{IsClean, clean}
use Rattle.ig_cseg.proofs.FirstFaults.{one_word}
use Rattle.ig_cseg.proofs.unpack.unpack.Goals as goal

pub word-origin-requires : goal.word-origin-requires
word-origin-requires c =
    let is = clean c.args.block c.args.width c.args.size c.args.bytes.now c.requires.clean in
    omega (arith, is.some)

pub unpack_blocks-requires-clause-within : goal.unpack_blocks-requires-clause-within
unpack_blocks-requires-clause-within c =
    let is = clean c.args.block c.args.width c.args.size c.args.bytes.now c.requires.clean in
    omega (arith, is.headers, c.word-origin.ensures)

pub unpack_blocks-requires-clause-readable : goal.unpack_blocks-requires-clause-readable
unpack_blocks-requires-clause-readable c =
    let is = clean c.args.block c.args.width c.args.size c.args.bytes.now c.requires.clean in
    (subst (λ width. IsClean (entry_len width) c.args.block c.args.size c.args.bytes.now) c.in-W64.is is).blocks

pub unpack_blocks-requires-in-W8-clause-within : goal.unpack_blocks-requires-in-W8-clause-within
unpack_blocks-requires-in-W8-clause-within c =
    let is = clean c.args.block c.args.width c.args.size c.args.bytes.now c.requires.clean in
    omega (arith, is.headers, c.word-origin.ensures)

pub unpack_blocks-requires-in-W8-clause-readable : goal.unpack_blocks-requires-in-W8-clause-readable
unpack_blocks-requires-in-W8-clause-readable c =
    let is = clean c.args.block c.args.width c.args.size c.args.bytes.now c.requires.clean in
    (subst (λ n. IsClean n c.args.block c.args.size c.args.bytes.now) (sym (one_word c.args.width c.in-W8.is)) is).blocks
