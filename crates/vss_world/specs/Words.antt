-- The words of the provider and of the sessions, from one place.
pub use Rattle.coordinator.specs.Coordinator.{CoordinatorState, IsOnTime, Registered, Stands, double_of, place_of, registered_in, writer_count}
pub use Rattle.coordinator.specs.declared.register_fault.RegisterFault.{RegisterFault}
pub use Rattle.provider.specs.Calls.{AreWithout, GoUpTo, HasImage, HasRoom, IfShown, IsDigestTold, IsQuiet, IsThere, images_going}
pub use Rattle.provider.specs.Groups.{AreLater, HasCause, IsCallOn, RoseAlone, area_place, devices_of, first_place, volume_place, volumes_area, AreGroups}
pub use Rattle.provider.specs.Groups.{HasGroups, IfStandFor}
pub use Rattle.provider.specs.Preparing.{ProviderValue}
pub use Rattle.sessions.specs.Concluded.{failed_set, told_alone, without_images}
pub use Rattle.sessions.specs.Keeps.{IsAt, IsInOrder, IsOf, IsStanding, IsStandingIn, Keeps, Leaves, LeavesWithin, SessionsValue, classes_registered, later_by}
pub use Rattle.sessions.specs.Moves.{IsAtOver, IsFailed, IsMove, IsNextStep, IsWait, MayAdd, after_move, event_volumes, images_after, is_add, takes_memory}
pub use Rattle.sessions.specs.Sets.{current_of, facts_of}
pub use Rattle.sessions.specs.declared.session_move.SessionMove.{SessionMove}
pub use Rattle.sessions.specs.declared.set_facts.SetFacts.{SetFacts}
pub use Rattle.vss_model.specs.declared.event.Event.{Event}
pub use Rattle.vss_model.specs.declared.event.Event.TheVariants.{Answer, Idle, Line, Provider}
pub use Rattle.vss_model.specs.declared.outcome.Outcome.{Outcome}
pub use Rattle.vss_model.specs.declared.told.Told.{Told}
