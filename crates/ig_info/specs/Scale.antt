-- The limits of a scale: this project's own.
use Rattle.std.specs.Prelude.{◌^◌, ◌&&◌, Bool, length, nat_le}
use Rattle.ig_space.specs.Path.{is_path}
use Rattle.ig_space.specs.Geometry.{all_within, geometry_fits}
use Rattle.ig_info.specs.declared.scale.Scale.{Scale}

-- the key is a short path, the resolution isn't 0 and small, and the geometry fits
abbrev pub scale_fits : Scale → Bool
scale_fits s = is_path s.key && (nat_le (length s.key) 100 && (all_within 1 (2 ^ 32) s.resolution && geometry_fits s.geometry))
