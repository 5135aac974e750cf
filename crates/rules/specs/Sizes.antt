-- The numbers within their limits, and the lengths of the lent lists, of a plain job.
pub use Rattle.plans.specs.Sizes.{KeepsLimits, Lengths, Fits}
unfoldable pub use Rattle.plans.specs.Sizes.{numbers_fit, others_fit, lengths_fit}
