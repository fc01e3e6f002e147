-- The file of links: the axis, the own part and the other part of each, in 4 bytes each. This project's own.
use Rattle.std.specs.Prelude.{ℕ, ◌&&◌, ◌||◌, ◌==◌, Bool, true, nat_le, nat_lt, if◌then◌else◌, List, ◌++◌, drop, slice_get, Option, Some, None}
use Rattle.byteorder.specs.Endian.{little_bytes}
use Rattle.ig_faces.specs.declared.links.Link.{Link}
use Rattle.ig_faces.specs.Counted.{counted_in, counted_text, counted_wrong}
use Rattle.ig_faces.specs.Records.{number_in}

abbrev pub link_text : Link → List ℕ
link_text link = little_bytes 4 link.axis ++ (little_bytes 4 link.own ++ little_bytes 4 link.other)

abbrev pub link_in : List ℕ → Link
link_in bytes = record { axis = number_in 4 bytes; own = number_in 4 (drop 4 bytes); other = number_in 4 (drop 8 bytes) }

-- the text of links, and the links of a text
abbrev pub links_text : List Link → List ℕ
links_text links = counted_text link_text links

abbrev pub links_in : List ℕ → List Link
links_in bytes = counted_in link_in 12 bytes

-- the one link comes before the other: by its axis, then its own part, then its other part
abbrev pub is_before : Link → Link → Bool
is_before a b = nat_lt a.axis b.axis || ((a.axis == b.axis) && (nat_lt a.own b.own || ((a.own == b.own) && nat_lt a.other b.other)))

abbrev pub is_next : Option Link → Link → Bool
is_next None link = true
is_next (Some before) link = is_before before link

-- how many parts the neighbour along the axis has, if there is one
abbrev pub neighbour : List (Option ℕ) → ℕ → Option ℕ
neighbour others axis = flat (slice_get others axis) where
  flat : Option (Option ℕ) → Option ℕ
  flat None = None
  flat (Some o) = o

-- the number is one of 1, .., top
abbrev pub is_part : ℕ → ℕ → Bool
is_part top number = nat_le 1 number && nat_le number top

-- what is wrong with the parts of a link whose neighbour has so many
abbrev pub ends_wrong : ℕ → Option ℕ → Link → Option ℕ
ends_wrong own None link = Some 0
ends_wrong own (Some other) link = if is_part own link.own then (if is_part other link.other then None else Some 8) else Some 4

-- the link isn't above the one before or has no neighbour along its axis, or a part is none of its box
abbrev pub link_wrong : ℕ → List (Option ℕ) → Option Link → Link → Option ℕ
link_wrong own others before link = if is_next before link then ends_wrong own (neighbour others link.axis) link else Some 0

abbrev pub links_wrong : ℕ → List (Option ℕ) → List ℕ → Option ℕ
links_wrong own others bytes = counted_wrong (link_wrong own others) link_in 12 bytes

-- the numbers of parts of the neighbours along x, y and z, where there are such
abbrev pub Others : Type 0
Others = List (Option ℕ)
