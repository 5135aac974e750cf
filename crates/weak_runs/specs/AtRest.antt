-- What a finished weak run leaves: nothing to do, as in every family's.
pub use Rattle.views.specs.AtRest.{AtRest}
