-- The record of a stage, by the data of its members: this project's own.
use Rattle.std.specs.Prelude.{ℕ, List, codes}
use Rattle.serde_json.specs.Data.{Data, number, unsigned, string, object, no_members, member}

abbrev pub record_of : ℕ → List ℕ → Data → Data → Data → Data → Data → Data
record_of n word dests info scratch shape source = object
    (member (codes "dests") dests
    (member (codes "info") info
    (member (codes "kind") (string word)
    (member (codes "scratch") scratch
    (member (codes "shape") shape
    (member (codes "source") source
    (member (codes "stage") (number (unsigned n))
    (member (codes "version") (number (unsigned 1)) no_members))))))))
