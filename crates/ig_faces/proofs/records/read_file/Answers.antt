use Rattle.std.proofs.Common.{arith, ◌≡◌, ◌+◌, ◌*◌, length, take, drop, ◌-◌, ap, ◌∙◌}
use Rattle.ig_faces.proofs.RecordLaws.{length-records_in}
use Rattle.ig_faces.proofs.records.read_file.Goals as goal

pub find_wrong-requires : goal.find_wrong-requires
find_wrong-requires g c =
    let bytes = c.args.bytes.now in
    let head = c.args.head in
    let whole : length bytes ≡ head + c.EACH.result * c.args.count = c.has_length.ensures.0 c.if-not-has_length.false in
    let each : head + c.EACH.result * c.args.count ≡ head + g.R.Record.EACH * c.args.count = ap (λ n. head + n * c.args.count) c.EACH.ensures in
    let many : length c.as_slice.result.now ≡ c.args.count = ap length (c.as_slice.ensures.value ∙ c.in_ok-records.ensures.value)
    ∙ length-records_in g.R.Record.read g.R.Record.EACH c.args.count (take (length bytes - head) (drop head bytes)) in
    let same : head + g.R.Record.EACH * length c.as_slice.result.now ≡ head + g.R.Record.EACH * c.args.count = ap (λ n. head + g.R.Record.EACH * n) many in
    omega (arith, whole, each, same)

pub returns-clause-many : goal.returns-clause-many
returns-clause-many g c =
    ap length c.in_ok-records.ensures.value
    ∙ length-records_in g.R.Record.read g.R.Record.EACH c.args.count (take (length c.args.bytes.now - c.args.head) (drop c.args.head c.args.bytes.now))
