-- The texts of the chunks of an area, and their list.
use Rattle.std.proofs.Common.{arith, ◌≡◌, ℕ, suc, List, [], ◌∷◌, ◌++◌, length, map, Option, None, Some, refl, ap, sym, ◌∙◌, length-append}
use Rattle.std.specs.Option.{option_map}
use Rattle.std.proofs.lemmas.List.{map-append}
use Rattle.ig_space.specs.declared.point.Box3.{Box3}
use Rattle.ig_space.specs.declared.geometry.Geometry.{Geometry}
use Rattle.ig_space.specs.declared.place.Place.{Place}
use Rattle.ig_space.specs.Chunk.{chunk_path}
use Rattle.ig_space.specs.Grid.{size_of}
use Rattle.ig_space.specs.Raw.{AllFit}
use Rattle.ig_defs.specs.Own.{File}
use Rattle.ig_layer.specs.Listed.{all_fit-from}
use Rattle.ig_layer.specs.Texts.{all_listed, chunk_file, chunk_text, file_if, labels_in, text_in, text_of, with_last}
use Rattle.ig_cutout.specs.declared.types.Output.{Output}
use Rattle.ig_cutout.specs.Gathered.{part_of}
use Rattle.ig_cutout.specs.Outputs.{output_of}
use Rattle.ig_cutout.proofs.Parts.{IsPartOf, labels_in-part, part-fit}

-- the text of a part of an area
pub chunk_text-part : (g : Geometry) (volume : ℕ → ℕ → ℕ → Option ℕ) (area part : Box3) (labels : List ℕ) → IsPartOf area part labels → AllFit g.width labels
    → labels_in volume area ≡ Some labels → chunk_text g volume part ≡ Some (text_in g.encoding g.width (size_of part) (part_of area part labels))
chunk_text-part g volume area part labels is fit all =
    ap (text_of g.encoding g.width (size_of part)) (labels_in-part volume area part labels is all)
    ∙ (rw (all_fit-from g.width (part_of area part labels) (part-fit g.width area part labels is fit)) refl)

-- the output that puts it
pub output-is : (place : Place) (volume : ℕ → ℕ → ℕ → Option ℕ) (chunk : Box3) (output : Output) (path text : List ℕ) → output ≡ record { path = path; text = Some text }
    → path ≡ chunk_path place.dir chunk → chunk_text place.geometry volume chunk ≡ Some text → option_map output_of (chunk_file place volume chunk) ≡ Some output
output-is place volume chunk output path text is path_is text_is =
    ap (λ t. option_map output_of (file_if (chunk_path place.dir chunk) t)) text_is
    ∙ ap (λ p. Some (record { path = p; text = Some text })) (sym path_is) ∙ ap Some (sym is)

-- ---- one output more
more-of : (front : Option (List File)) (last : Option File) (outputs : List Output) (output : Output)
    → option_map (map output_of) front ≡ Some outputs → option_map output_of last ≡ Some output → option_map (map output_of) (with_last front last) ≡ Some (outputs ++ output ∷ [])
more-of None last outputs output front_is last_is = absurd (cc)
more-of (Some files) None outputs output front_is last_is = absurd (cc)
more-of (Some files) (Some file) outputs output front_is last_is =
    let f : map output_of files ≡ outputs = cc in
    let l : output_of file ≡ output = cc in
    ap Some (map-append output_of files (file ∷ []) ∙ ap (λ xs. xs ++ output_of file ∷ []) f ∙ ap (λ x. outputs ++ x ∷ []) l)

pub outputs-more : (f : ℕ → Option File) (outputs new : List Output) (output : Output) → option_map (map output_of) (all_listed f (length outputs)) ≡ Some outputs
    → option_map output_of (f (length outputs)) ≡ Some output → new ≡ outputs ++ output ∷ [] → option_map (map output_of) (all_listed f (length new)) ≡ Some new
outputs-more f outputs new output front last grown =
    let long : length new ≡ suc (length outputs) = ap length grown ∙ length-append outputs (output ∷ []) ∙ omega arith in
    ap (λ n. option_map (map output_of) (all_listed f n)) long
    ∙ more-of (all_listed f (length outputs)) (f (length outputs)) outputs output front last ∙ ap Some (sym grown)
