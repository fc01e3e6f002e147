-- Volumes that hold mips.
use Rattle.std.proofs.Common.{arith, ◌≡◌, ◌<◌, ◌≤◌, ◌+◌, ◌-◌, ℕ, zero, suc, List, [], ◌∷◌, ◌++◌, Some, length, slice_index, slice_get, drop, ap, subst, sym, ◌∙◌, ⊎_elim, length-append}
use Rattle.std.proofs.lemmas.Bool.{cases_lt}
use Rattle.std.proofs.lemmas.Option.{get_or_from_slice_get}
use Rattle.std.proofs.Math.Seq.{get_or-append_right}
use Rattle.std.proofs.lemmas.List.{get_or_append_left, take_at}
use Rattle.ig_space.specs.declared.point.Point.{Point}
use Rattle.ig_space.specs.Volume.{IsInside, Voxels, place_of, voxel, with_labels}
use Rattle.ig_mode.specs.HasMips.{HasMip, HaveMips, labels_of, volume_of}
use Rattle.ig_mode.specs.Mips.{halved_size, mip, mip_times, size_times}
use Rattle.ig_mode.specs.Mode.{mode_of}
use Rattle.ig_mode.specs.MipLaws.{next-agree, size-after}

-- a volume whose labels were written is the mip, where each of them is right
pub mip-written : (from out : Voxels) (ws : List ℕ) → out.size ≡ halved_size from.size → length ws ≡ length out.labels
    → ((x y z : ℕ) → IsInside out.size x y z → slice_index ws (place_of out.size x y z) ≡ mip from.size (labels_of from.size from.labels) x y z)
    → HasMip 1 from (with_labels out ws)
mip-written from out ws same long right = record {
  size = same;
  each = λ x y z inside.
      ap (λ ls. slice_index ls (place_of out.size x y z)) (take_at ws (drop (length ws) out.labels) (length out.labels) long) ∙ right x y z inside;
}

-- the mip of the mip taken m times is the mip taken once more
pub mip-next : (m : ℕ) (from last next : Voxels) → HasMip m from last → HasMip 1 last next → HasMip (suc m) from next
mip-next m from last next before after = record {
  size = after.size ∙ ap halved_size before.size ∙ size-after m from.size;
  each = λ x y z inside.
      let at : IsInside (size_times (suc m) from.size) x y z
      = subst (λ (s : Point). IsInside s x y z) (after.size ∙ ap halved_size before.size ∙ size-after m from.size) inside in
      after.each x y z inside
      ∙ ap (λ (s : Point). mip s (voxel last) x y z) before.size
      ∙ next-agree mode_of m from.size (voxel from) (voxel last) (λ x y z within. before.each x y z (subst (λ (s : Point). IsInside s x y z) (sym before.size) within)) x y z at;
}

-- the same by values that are known by equations
pub mip-written_by : (from out : Voxels) (size half : Point) (labels ws : List ℕ) → size ≡ from.size → half ≡ out.size → labels ≡ from.labels
    → out.size ≡ halved_size from.size → length ws ≡ length out.labels
    → ((x y z : ℕ) → IsInside half x y z → slice_index ws (place_of half x y z) ≡ mip size (labels_of size labels) x y z)
    → HasMip 1 from (with_labels out ws)
mip-written_by from out size half labels ws same half_is labels_are shape long right =
    mip-written from out ws shape long (λ x y z inside.
    ap (λ (p : Point). slice_index ws (place_of p x y z)) (sym half_is)
    ∙ right x y z (subst (λ (p : Point). IsInside p x y z) (sym half_is) inside)
    ∙ (λ i. mip (same i) (labels_of (same i) (labels_are i)) x y z))

-- one more mip
pub mips-more : (from : Voxels) (volumes : List Voxels) (last next : Voxels) → 1 ≤ length volumes → HaveMips from volumes
    → slice_get volumes (length volumes - 1) ≡ Some last → HasMip 1 last next → HaveMips from (volumes ++ next ∷ [])
mips-more from volumes last next some before is_last after k below = ⊎_elim old new (cases_lt k (length volumes))
  where
    old : k < length volumes → HasMip (k + 1) from (volume_of (volumes ++ next ∷ []) k)
    old less = subst (λ (v : Voxels). HasMip (k + 1) from v) (sym (get_or_append_left volumes (next ∷ []) _ k less)) (before k less)

    new : length volumes ≤ k → HasMip (k + 1) from (volume_of (volumes ++ next ∷ []) k)
    new from_end =
        let same : k ≡ length volumes = omega (arith, below, length-append volumes (next ∷ [])) in
        let at : k - length volumes ≡ 0 = omega arith in
        let here : volume_of (volumes ++ next ∷ []) k ≡ next = get_or-append_right volumes (next ∷ []) k _ from_end ∙ ap (λ i. volume_of (next ∷ []) i) at in
        let count : length volumes - 1 + 1 ≡ k = omega arith in
        let one : suc k ≡ k + 1 = omega arith in
        let held : HasMip (length volumes - 1 + 1) from last = subst (λ (v : Voxels). HasMip (length volumes - 1 + 1) from v) (get_or_from_slice_get volumes (length volumes - 1) last _ is_last) (before (length volumes - 1) (omega arith)) in
        let whole : HasMip (suc k) from next = mip-next k from last next (subst (λ n. HasMip n from last) count held) after in
        subst (λ (v : Voxels). HasMip (k + 1) from v) (sym here) (subst (λ n. HasMip n from next) one whole)

-- the first mip
mips_one : (from v : Voxels) → HasMip 1 from v → HaveMips from (v ∷ [])
mips_one from v h zero below = h
mips_one from v h (suc k) below = absurd (omega arith)

pub mips-first : (from v : Voxels) (volumes pushed : List Voxels) → volumes ≡ [] → pushed ≡ volumes ++ v ∷ [] → HasMip 1 from v → HaveMips from pushed
mips-first from v volumes pushed none is h =
    subst (λ (l : List Voxels). HaveMips from l) (sym (is ∙ ap (λ (l : List Voxels). l ++ v ∷ []) none)) (mips_one from v h)

pub length-pushed : (v : Voxels) (volumes pushed : List Voxels) → pushed ≡ volumes ++ v ∷ [] → length pushed ≡ length volumes + 1
length-pushed v volumes pushed is = ap length is ∙ length-append volumes (v ∷ [])
