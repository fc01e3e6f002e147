-- Blocks along one axis.
pub use Rattle.ig_cseg.specs.Axis.{block-begins, blocks_along-none, blocks_along-some, blocks_along-up, padded-most}
