-- The info of a new layer is one, and is read back.
use Rattle.std.proofs.Common.{◌≡◌, ◌≤◌, ℕ, true, false, List, [], ◌∷◌, ◌++◌, refl, lit≤}
use Rattle.std.proofs.lemmas.Bool.{and_from}
use Rattle.serde_json.specs.Data.{Data, depth}
use Rattle.serde_json.specs.Read.{max_depth}
use Rattle.serde_json.specs.Written.{has_float}
use Rattle.ig_space.specs.declared.geometry.Encoding.{Encoding}
use Rattle.ig_space.specs.declared.geometry.Encoding.TheVariants.{Raw, Cseg}
use Rattle.ig_info.specs.declared.scale.Scale.{Scale}
use Rattle.ig_info.specs.Scale.{scale_fits}
use Rattle.ig_info.specs.Dest.{scale_of_encoding, dest_members, dest_data, scale_data, width_word}
use Rattle.ig_info.specs.Ascending.{ascends}
use Rattle.ig_info.specs.Reading.{IsInfo}
use Rattle.ig_info.proofs.ReadBack.{dest_read_back}

shallow : (w : List ℕ) (e : Encoding) (s : Scale) → depth (dest_members w (scale_of_encoding e s)) ≤ max_depth
shallow w Raw s = lit≤ tt
shallow w (Cseg block) s = lit≤ tt

whole : (w : List ℕ) (e : Encoding) (s : Scale) → has_float (dest_members w (scale_of_encoding e s)) ≡ false
whole w Raw s = refl
whole w (Cseg block) s = refl

ordered : (w : List ℕ) (e : Encoding) (s : Scale) → ascends (dest_members w (scale_of_encoding e s)) ≡ true
ordered w Raw s = refl
ordered w (Cseg block) s = refl

pub dest-IsInfo : (s : Scale) → scale_fits s ≡ true → IsInfo (record { members = dest_data s; scales = s ∷ [] })
dest-IsInfo s fits = record {
  shallow = shallow (width_word s.geometry.width) s.geometry.encoding s;
  whole = whole (width_word s.geometry.width) s.geometry.encoding s;
  ordered = ordered (width_word s.geometry.width) s.geometry.encoding s;
  some = lit≤ tt;
  few = lit≤ tt;
  fit = and_from (scale_fits s) _ fits refl;
  reads_back = dest_read_back s fits;
}

-- the same, of equal members and a list that the scale was put on
pub made-IsInfo : (s copy : Scale) (d e : Data) (before all : List Scale) → scale_fits s ≡ true → d ≡ dest_members (width_word s.geometry.width) e → e ≡ scale_data s
    → before ≡ [] → copy ≡ s → all ≡ before ++ copy ∷ [] → IsInfo (record { members = d; scales = all })
made-IsInfo s copy d e before all fits whole part empty same is =
    rw (is, empty, same, whole, part) (dest-IsInfo s fits)
