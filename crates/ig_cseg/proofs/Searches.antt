-- Searches below a number.
pub use Rattle.ig_cseg.specs.Searches.{Found, below-none, below-some, none-below, none-more, some-below}
