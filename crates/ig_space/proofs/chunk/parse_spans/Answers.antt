use Rattle.std.proofs.Common.{refl}
use Rattle.ig_space.specs.ChunksApart.{small}
use Rattle.ig_space.proofs.NameParts.{x-cut, x-stands, y-cut, y-stands}
use Rattle.ig_space.proofs.chunk.parse_spans.Goals as goal

pub returns-in_err-x-clause-none : goal.returns-in_err-x-clause-none
returns-in_err-x-clause-none c = λ _ b box e. x-stands b c.args.text.now (c.in_err-x.ensures.none refl) e

pub returns-in_err-y-clause-none : goal.returns-in_err-y-clause-none
returns-in_err-y-clause-none c = λ _ b box e.
    let cut = x-cut b box c.args.text.now c.in_ok-x.x.now c.in_ok-x.rest.now c.in_ok-x.ensures.whole c.in_ok-x.ensures.first e in
    y-stands b c.in_ok-x.rest.now (c.in_err-y.ensures.none refl) cut.1

pub returns-in_err-x-2-clause-none : goal.returns-in_err-x-2-clause-none
returns-in_err-x-2-clause-none c = λ _ b box e.
    let s = small b box in
    let cut = x-cut b box c.args.text.now c.in_ok-x.x.now c.in_ok-x.rest.now c.in_ok-x.ensures.whole c.in_ok-x.ensures.first e in
    c.in_err-x-2.ensures.none refl b.lo.x b.hi.x s.lx s.hx cut.0

pub returns-in_err-y-2-clause-none : goal.returns-in_err-y-2-clause-none
returns-in_err-y-2-clause-none c = λ _ b box e.
    let s = small b box in
    let cut = x-cut b box c.args.text.now c.in_ok-x.x.now c.in_ok-x.rest.now c.in_ok-x.ensures.whole c.in_ok-x.ensures.first e in
    let next = y-cut b box c.in_ok-x.rest.now c.in_ok-y.y.now c.in_ok-y.z.now c.in_ok-y.ensures.whole c.in_ok-y.ensures.first cut.1 in
    c.in_err-y-2.ensures.none refl b.lo.y b.hi.y s.ly s.hy next.0

pub returns-in_err-z-clause-none : goal.returns-in_err-z-clause-none
returns-in_err-z-clause-none c = λ _ b box e.
    let s = small b box in
    let cut = x-cut b box c.args.text.now c.in_ok-x.x.now c.in_ok-x.rest.now c.in_ok-x.ensures.whole c.in_ok-x.ensures.first e in
    let next = y-cut b box c.in_ok-x.rest.now c.in_ok-y.y.now c.in_ok-y.z.now c.in_ok-y.ensures.whole c.in_ok-y.ensures.first cut.1 in
    c.in_err-z.ensures.none refl b.lo.z b.hi.z s.lz s.hz next.1
