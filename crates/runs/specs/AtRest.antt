-- What a finished run leaves: nothing to do, as in every family's.
pub use Rattle.views.specs.AtRest.{AtRest}
