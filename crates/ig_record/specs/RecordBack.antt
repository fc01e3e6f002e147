-- The data of a record is read back from JSON, part by part.
use Rattle.std.specs.Prelude.{◌≡◌, ◌≤◌, ◌<◌, ◌-◌, ◌^◌, ◌*◌, ℕ, true, List, [], ◌∷◌, Option, None, Some, IfSome, IsUtf8, codes}
use Rattle.std.proofs.Common.{arith, refl, lit≤, lit<}
use Rattle.std.proofs.lemmas.Str.{IsUtf8-from_is_utf8}
use Rattle.std.specs.List.{AllByRecursion}
use Rattle.json.specs.Tree as tree
use Rattle.json.proofs.Printed.Utf8.{IsUtf8-are_ascii}
use Rattle.serde_json.specs.Data.{Data, array, Items}
use Rattle.serde_json.specs.Read.{of_json, of_items}
use Rattle.serde_json.specs.Written.{outline, items_outline}
use Rattle.serde_json.proofs.Numbers.{number_of-decimal}
use Rattle.ig_space.specs.declared.point.Point.{Point}
use Rattle.ig_space.specs.declared.geometry.Width.{Width}
use Rattle.ig_space.specs.declared.geometry.Width.TheVariants.{W8, W16, W32, W64}
use Rattle.ig_space.specs.declared.geometry.Encoding.{Encoding}
use Rattle.ig_space.specs.declared.geometry.Encoding.TheVariants.{Raw, Cseg}
use Rattle.ig_space.specs.declared.geometry.Geometry.{Geometry}
use Rattle.ig_space.specs.declared.place.Place.{Place}
use Rattle.ig_space.specs.Geometry.{label_len}
use Rattle.ig_space.specs.Path.{is_path}
use Rattle.ig_info.specs.Dest.{point_data}
use Rattle.ig_record.specs.declared.stage.Kind.{Kind}
use Rattle.ig_record.specs.declared.stage.Kind.TheVariants.{Xfer, Downsample, Faces, Links, Labels, Relabel, Count, Sum, Remove}
use Rattle.ig_record.specs.declared.stage.InfoFile.{InfoFile}
use Rattle.ig_record.specs.Members.{record_of}
use Rattle.ig_record.specs.Record.{block_data, geometry_data, info_data, kind_word, place_data, places_data, scratch_data}
use Rattle.ig_record.specs.ReadBack.{IsPlain, ArePlain}
use Rattle.ig_record.specs.SmallNumbers.{IsSmallEncoding, IsSmallGeometry, path-utf8}
use Rattle.ig_record.specs.SoundFacts.{IsPut, IsSmall}

-- the data can be written, nests no deeper than this, and is read back
pub record IsBack (d : Data) (most : ℕ) : Type 0 where
  pub plain : IsPlain d
  pub shallow : tree.depth (outline d) ≤ most
  pub back : of_json (outline d) ≡ Some d

pub record AreBack (ds : Items) (most : ℕ) : Type 0 where
  pub plain : ArePlain ds
  pub shallow : tree.items_depth (items_outline ds) ≤ most
  pub back : of_items (items_outline ds) ≡ Some ds

-- a number of 64 bits
word : (n : ℕ) → n ≤ 2 ^ 64 - 1 → n < 2 ^ 64
word n h = let next : 2 ^ 64 - 1 < 2 ^ 64 = lit< tt in omega (arith, h, next)

pub name-utf8 : (kind : Kind) → IsUtf8 (kind_word kind)
name-utf8 Xfer = IsUtf8-are_ascii (codes "xfer") refl
name-utf8 Downsample = IsUtf8-are_ascii (codes "downsample") refl
name-utf8 Faces = IsUtf8-are_ascii (codes "ccl-faces") refl
name-utf8 Links = IsUtf8-are_ascii (codes "ccl-links") refl
name-utf8 Labels = IsUtf8-are_ascii (codes "ccl-labels") refl
name-utf8 Relabel = IsUtf8-are_ascii (codes "ccl-relabel") refl
name-utf8 Count = IsUtf8-are_ascii (codes "voxels-count") refl
name-utf8 Sum = IsUtf8-are_ascii (codes "voxels-sum") refl
name-utf8 Remove = IsUtf8-are_ascii (codes "rm") refl

-- ---- places

pub point-back : (p : Point) → IsSmall p → IsBack (point_data p) 1
point-back p h =
    let x = word p.x h.x in
    let y = word p.y h.y in
    let z = word p.z h.z in
    record {
      plain = (x, (y, (z, tt)));
      shallow = lit≤ tt;
      back = rw (number_of-decimal p.x x, number_of-decimal p.y y, number_of-decimal p.z z) refl;
    }

encoding-back : (e : Encoding) → IsSmallEncoding e → IsBack (block_data e) 1
encoding-back Raw h = record { plain = tt; shallow = lit≤ tt; back = refl }
encoding-back (Cseg block) h = point-back block h

bits-word : (w : Width) → 8 * label_len w < 2 ^ 64
bits-word W8 = lit< tt
bits-word W16 = lit< tt
bits-word W32 = lit< tt
bits-word W64 = lit< tt

pub geometry-back : (g : Geometry) → IsSmallGeometry g → IsBack (geometry_data g) 2
geometry-back g h =
    let block = encoding-back g.encoding h.encoding in
    let chunk = point-back g.chunk h.chunk in
    let offset = point-back g.offset h.offset in
    let size = point-back g.size h.size in
    let bits = bits-word g.width in
    record {
      plain = (
        IsUtf8-are_ascii (codes "block") refl,
        block.plain,
        (
          IsUtf8-are_ascii (codes "chunk") refl,
          chunk.plain,
          (
            IsUtf8-are_ascii (codes "offset") refl,
            offset.plain,
            (IsUtf8-are_ascii (codes "size") refl, size.plain, (IsUtf8-are_ascii (codes "width") refl, bits, tt)),
          ),
        ),
      );
      shallow = omega (arith, block.shallow);
      back = rw (block.back, chunk.back, offset.back, size.back, number_of-decimal (8 * label_len g.width) bits) refl;
    }

pub place-back : (p : Place) → is_path p.dir ≡ true → IsSmallGeometry p.geometry → IsBack (place_data p) 3
place-back p dir h =
    let g = geometry-back p.geometry h in
    record {
      plain = (IsUtf8-are_ascii (codes "dir") refl, path-utf8 p.dir dir, (IsUtf8-are_ascii (codes "geometry") refl, g.plain, tt));
      shallow = omega (arith, g.shallow);
      back = rw g.back refl;
    }

-- a place that is read back
pub record IsReadable (p : Place) : Type 0 where
  pub dir : is_path p.dir ≡ true
  pub numbers : IsSmallGeometry p.geometry

pub places-back : (ps : List Place) → AllByRecursion IsReadable ps → AreBack (places_data ps) 3
places-back [] h = record { plain = tt; shallow = lit≤ tt; back = refl }
places-back (p ∷ ps) h =
    let first = place-back p h.0.dir h.0.numbers in
    let rest = places-back ps h.1 in
    record {
      plain = (first.plain, rest.plain);
      shallow = omega (arith, first.shallow, rest.shallow);
      back = rw (first.back, rest.back) refl;
    }

-- ---- the info and the directory of other files

pub info-back : (info : Option InfoFile) → IfSome info IsPut → IsBack (info_data info) 1
info-back None h = record { plain = tt; shallow = lit≤ tt; back = refl }
info-back (Some info) h = record {
  plain = (IsUtf8-are_ascii (codes "path") refl, path-utf8 info.path h.path, (IsUtf8-are_ascii (codes "text") refl, IsUtf8-from_is_utf8 info.text h.text, tt));
  shallow = lit≤ tt;
  back = refl;
}

pub scratch-back : (scratch : Option (List ℕ)) → IfSome scratch (λ dir. is_path dir ≡ true) → IsBack (scratch_data scratch) 0
scratch-back None h = record { plain = tt; shallow = lit≤ tt; back = refl }
scratch-back (Some dir) h = record { plain = path-utf8 dir h; shallow = lit≤ tt; back = refl }

-- ---- the whole record

pub array-back : (ds : Items) → AreBack ds 3 → IsBack (array ds) 4
array-back ds h = record {
  plain = h.plain;
  shallow = omega (arith, h.shallow);
  back = rw h.back refl;
}

pub record-back : (n : ℕ) (kind : Kind) (dests info scratch shape source : Data) → n < 2 ^ 64 → IsBack dests 4 → IsBack info 1 → IsBack scratch 0 → IsBack shape 1 → IsBack source 3
    → IsBack (record_of n (kind_word kind) dests info scratch shape source) 5
record-back n kind dests info scratch shape source small a b c d e =
    let one : 1 < 2 ^ 64 = lit< tt in
    record {
      plain = (
        IsUtf8-are_ascii (codes "dests") refl,
        a.plain,
        (
          IsUtf8-are_ascii (codes "info") refl,
          b.plain,
          (
            IsUtf8-are_ascii (codes "kind") refl,
            name-utf8 kind,
            (
              IsUtf8-are_ascii (codes "scratch") refl,
              c.plain,
              (
                IsUtf8-are_ascii (codes "shape") refl,
                d.plain,
                (
                  IsUtf8-are_ascii (codes "source") refl,
                  e.plain,
                  (IsUtf8-are_ascii (codes "stage") refl, small, (IsUtf8-are_ascii (codes "version") refl, one, tt)),
                ),
              ),
            ),
          ),
        ),
      );
      shallow = omega (arith, a.shallow, b.shallow, c.shallow, d.shallow, e.shallow);
      back = rw (a.back, b.back, c.back, d.back, e.back, number_of-decimal n small, number_of-decimal 1 one) refl;
    }
