-- The words of the coordinator, from one place.
pub use Rattle.coordinator.specs.Beginning.{begun_as}
pub use Rattle.coordinator.specs.Coordinator.{CoordinatorState, IsOnTime, MayPost, Registered, Stands, runs, works, writer_count}
pub use Rattle.coordinator.specs.Effects.{Tells}
pub use Rattle.coordinator.specs.declared.effects.Effects.{Effects}
pub use Rattle.vss_model.specs.declared.event.Event.{Event}
pub use Rattle.vss_model.specs.declared.event.Event.TheVariants.{Provider}
pub use Rattle.vss_model.specs.declared.told.Told.{Told}
