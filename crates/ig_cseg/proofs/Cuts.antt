-- The blocks of a volume lie in it.
pub use Rattle.ig_cseg.specs.Cuts.{HasSides, blocks_few, clip_by, clip_in, grid-inside, has_sides, sides_some}
