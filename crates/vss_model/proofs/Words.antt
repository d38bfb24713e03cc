-- The lemmas of the model and of what is below it that crates above it cite, from one place.
pub use Rattle.scenario.proofs.Places.{get_some_left, number_is, one_place, same_number}
pub use Rattle.set_agenda.proofs.CourseRule.{IsKeptInCourse, course_answered, course_begun, course_stepped, course_timed}
pub use Rattle.set_agenda.proofs.WriterSets.{and-true, new-is, or-false}
pub use Rattle.vss_model.proofs.Appending.{state-append}
pub use Rattle.vss_model.proofs.AtCut.{IsAtCut, all_said, and_three, cut_is_open, cuts}
pub use Rattle.vss_model.proofs.ByEvent.{Covers, by_if, covered, reply_is, other_goes}
pub use Rattle.vss_model.proofs.Changes.{after_by}
pub use Rattle.vss_model.proofs.Completed.{image_once_made}
pub use Rattle.vss_model.proofs.CourseCalls.{Call, IsCall, Settles, call_answered, call_timed}
pub use Rattle.vss_model.proofs.CutStep.{after_provider, commit_volume, is_commit, as_many_volumes, outcome_is_running}
pub use Rattle.vss_model.proofs.Headline.{live_at, no_live_below}
pub use Rattle.vss_model.proofs.Gathered.{named_known_components}
pub use Rattle.vss_model.proofs.HeldImage.{held_parts, held_point, image_runs, no_names, UpTo, images_up_to, newest_image, room_for_image}
pub use Rattle.vss_model.proofs.HeldOfSet.{IsOf, Tied, find-row_cut, tied, volumes-row_cut_if}
pub use Rattle.vss_model.proofs.Rules.{IsKeptInLog, Running, course-step_made, in_log, unspoken}
pub use Rattle.vss_model.proofs.OneCut.{CommitsNow, commits, images_in_time, newest_number, no_image_yet, row_number}
pub use Rattle.vss_model.proofs.Orderly.{find-append_new, find-map, find-settled_over, find-settled_running, live-filter, numbered-map, true_not_false}
pub use Rattle.vss_model.proofs.OrderlyActs.{ending_idle, ending_on, none_after, orderly, ends_settle}
pub use Rattle.vss_model.proofs.Rows.{found_above, has_complete, kind_is, none_below, none_ends, none_over, none_runs, number-cut, running_incomplete, settled_row, some_rows}
pub use Rattle.vss_model.proofs.Spoken.{fewer_wait, new_said}
pub use Rattle.vss_model.proofs.Volumes.{as_many_gone}
