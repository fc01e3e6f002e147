-- The info of a new layer (Neuroglancer precomputed volume format): the members in the order of their names.
use Rattle.std.specs.Prelude.{ℕ, Bool, true, List, [], ◌∷◌, Result, Ok, codes}
use Rattle.serde_json.specs.Data.{Data, number, unsigned, string, array, object, no_items, item, Members, no_members, member}
use Rattle.ig_space.specs.declared.point.Point.{Point}
use Rattle.ig_space.specs.declared.geometry.Width.{Width}
use Rattle.ig_space.specs.declared.geometry.Width.TheVariants.{W8, W16, W32, W64}
use Rattle.ig_space.specs.declared.geometry.Encoding.{Encoding}
use Rattle.ig_space.specs.declared.geometry.Encoding.TheVariants.{Raw, Cseg}
use Rattle.ig_space.specs.Geometry.{is_wide}
use Rattle.ig_info.specs.declared.error.InfoError.{InfoError}
use Rattle.ig_info.specs.declared.error.InfoError.TheVariants.{Unsupported}
use Rattle.ig_info.specs.declared.scale.Scale.{Scale}
use Rattle.ig_info.specs.Answer.{◌>>=◌, only_if}
use Rattle.ig_info.specs.Info.{InfoData}
use Rattle.ig_info.specs.Scale.{scale_fits}

abbrev pub point_data : Point → Data
point_data p = array (item (number (unsigned p.x)) (item (number (unsigned p.y)) (item (number (unsigned p.z)) no_items)))

abbrev pub width_word : Width → List ℕ
width_word W8 = codes "uint8"
width_word W16 = codes "uint16"
width_word W32 = codes "uint32"
width_word W64 = codes "uint64"

-- the members of a scale from its key on
abbrev pub scale_end : List ℕ → Data → Data → Data → Members
scale_end key resolution size offset =
    member (codes "key") (string key) (member (codes "resolution") resolution (member (codes "size") size (member (codes "voxel_offset") offset no_members)))

-- the members of a scale with raw chunks
abbrev pub raw_members : List ℕ → Data → Data → Data → Data → Data
raw_members key chunk resolution size offset = object
    (member (codes "chunk_sizes") (array (item chunk no_items))
    (member (codes "encoding") (string (codes "raw")) (scale_end key resolution size offset)))

-- the members of a scale with compressed chunks
abbrev pub cseg_members : List ℕ → Data → Data → Data → Data → Data → Data
cseg_members key block chunk resolution size offset = object
    (member (codes "chunk_sizes") (array (item chunk no_items))
    (member (codes "compressed_segmentation_block_size") block
    (member (codes "encoding") (string (codes "compressed_segmentation")) (scale_end key resolution size offset))))

abbrev pub scale_of_encoding : Encoding → Scale → Data
scale_of_encoding Raw s = raw_members s.key (point_data s.geometry.chunk) (point_data s.resolution) (point_data s.geometry.size) (point_data s.geometry.offset)
scale_of_encoding (Cseg block) s =
    cseg_members s.key (point_data block) (point_data s.geometry.chunk) (point_data s.resolution) (point_data s.geometry.size) (point_data s.geometry.offset)

-- the members of a scale
abbrev pub scale_data : Scale → Data
scale_data s = scale_of_encoding s.geometry.encoding s

-- the members of an info with this one scale
abbrev pub dest_members : List ℕ → Data → Data
dest_members width scale = object
    (member (codes "@type") (string (codes "neuroglancer_multiscale_volume"))
    (member (codes "data_type") (string width)
    (member (codes "num_channels") (number (unsigned 1))
    (member (codes "scales") (array (item scale no_items))
    (member (codes "type") (string (codes "segmentation")) no_members)))))

-- the members of an info with that scale alone
abbrev pub dest_data : Scale → Data
dest_data s = dest_members (width_word s.geometry.width) (scale_data s)

-- the encoding can hold labels of this width
abbrev pub can_hold : Encoding → Width → Bool
can_hold Raw width = true
can_hold (Cseg block) width = is_wide width

-- the info of a new layer with that scale alone, or the refusal that comes first
unfoldable pub dest_of : Scale → Result InfoData InfoError
dest_of s = do
  _ ← only_if (can_hold s.geometry.encoding s.geometry.width) (Unsupported (codes "encoding"))
  _ ← only_if (scale_fits s) (Unsupported (codes "chunk_sizes"))
  Ok (record { members = dest_data s; scales = s ∷ [] })
