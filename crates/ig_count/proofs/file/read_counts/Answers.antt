use Rattle.std.proofs.Common.{◌≡◌, ap, ◌∙◌, sym, subst, drop, None}
use Rattle.ig_faces.specs.Records.{file_wrong, records_in}
use Rattle.ig_count.specs.CountsFile.{AreFew, count_in, count_wrong, counts_text, counts_wrong}
use Rattle.ig_count.proofs.FileLaws.{right-few, right-size, right-table, right-whole, text-whole}
use Rattle.ig_count.proofs.file.read_counts.Goals as goal

pub of-requires : goal.of-requires
of-requires c =
    let bytes = c.args.bytes.now in
    let many = c.read_from.ensures.value in
    let right : counts_wrong bytes ≡ None = ap (λ n. file_wrong count_wrong count_in 8 16 n bytes) (sym many) ∙ c.in_ok-items.ensures.right in
    let is = c.in_ok-items.ensures.records ∙ ap (λ n. records_in count_in 16 n (drop 8 bytes)) many in
    right-table 8 None c.in_ok-items.items.items (right-whole c.in_ok-items.items.items bytes right (right-size bytes right) is)

pub returns-clause-few : goal.returns-clause-few
returns-clause-few c =
    let bytes = c.args.bytes.now in
    let many = c.read_from.ensures.value in
    let right : counts_wrong bytes ≡ None = ap (λ n. file_wrong count_wrong count_in 8 16 n bytes) (sym many) ∙ c.in_ok-items.ensures.right in
    let is = c.in_ok-items.ensures.records ∙ ap (λ n. records_in count_in 16 n (drop 8 bytes)) many in
    subst AreFew (sym c.of.ensures) (right-few 8 None c.in_ok-items.items.items (right-whole c.in_ok-items.items.items bytes right (right-size bytes right) is))

pub returns-clause-text : goal.returns-clause-text
returns-clause-text c =
    ap counts_text c.of.ensures
    ∙ text-whole c.in_ok-items.items.items c.args.bytes.now c.read_from.result c.read_from.ensures.text c.in_ok-items.ensures.many c.in_ok-items.ensures.text
