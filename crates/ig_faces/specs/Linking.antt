-- Which parts of boxes side by side are linked.
use Rattle.std.specs.Prelude.{ℕ, ◌-◌, ◌<◌, ◌≡◌, ◌==◌, ◌&&◌, nat_le, if◌then◌else◌, List, [], ◌∷◌, length, slice_index, Option, Some, None, ◌⊎◌}
use Rattle.std.specs.List.{Contains}
use Rattle.std.specs.Cmp.Lexicographic.{slice_cmp}
use Rattle.std.specs.Ordering.{nat_cmp}
use Rattle.std.specs.declared.cmp.Ordering.{Ordering}
use Rattle.ig_faces.specs.declared.links.Link.{Link}

-- the link of an own part and another's, where they are parts and have one label
abbrev pub link_between : ℕ → List ℕ → List ℕ → ℕ → ℕ → Option Link
link_between axis own other p q =
    if (nat_le 1 p && nat_le 1 q) && (slice_index own (p - 1) == slice_index other (q - 1)) then Some (record { axis = axis; own = p; other = q }) else None

-- the link is that of the parts at one of the first n places of the planes that touch
abbrev pub IsLinkedBelow : ℕ → ℕ → List ℕ → List ℕ → List ℕ → List ℕ → Link → Type 0
IsLinkedBelow n axis high low own other link = (k : ℕ) × (k < n) × (link_between axis own other (slice_index high k) (slice_index low k) ≡ Some link)

-- it is that of the parts at some place
abbrev pub IsLinked : ℕ → List ℕ → List ℕ → List ℕ → List ℕ → Link → Type 0
IsLinked axis high low own other link = IsLinkedBelow (length high) axis high low own other link

-- by what links come in order: the axis, the own part and the other part
abbrev pub rank : Link → List ℕ
rank link = link.axis ∷ link.own ∷ link.other ∷ []

abbrev pub order : Link → Link → Ordering
order a b = slice_cmp nat_cmp (rank a) (rank b)

-- the list has the link, or it is what was found
abbrev pub HasOrIs : List Link → Option Link → Link → Type 0
HasOrIs links found link = Contains links link ⊎ (found ≡ Some link)
