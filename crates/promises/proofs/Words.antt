-- The words of this crate's proofs and of those below it, from one place.
pub use Rattle.block_data.specs.BlockBytes.{zeros}
pub use Rattle.component_doc.specs.Document.{choices_data, document_of}
unfoldable pub use Rattle.component_doc.specs.Document.{document_text}
pub use Rattle.component_doc.specs.Over.{is_named}
pub use Rattle.component_doc.specs.Selection.{AllOf, Named, choice_if, choices_from, choices_of, chosen_from, comes_before, found_from, has_named_ancestor}
pub use Rattle.component_doc.specs.Selection.{is_pair, known_from}
pub use Rattle.promises.specs.Accepted.{AcceptsInOrder, IsAccepting, Owns, can_name, can_name_in, has_its_wants, has_place, has_volume, is_accepted, is_context}
pub use Rattle.promises.specs.Accepted.{is_ordered, ByBegin, ByComplete, ByFailure, ByGather, ByPrepare, BySnapshot, ByStart, HasItsContext, Progress, Step}
pub use Rattle.promises.specs.Accepted.{asks_writers, comes_now, event_brings, is_step, line_brings, lost_if, progress, progress_after, progress_from}
pub use Rattle.promises.specs.Accepted.{progress_if, step_code}
pub use Rattle.promises.specs.Answers.{AnswersSay, AreGone, answer_of}
pub use Rattle.promises.specs.Participants.{AsksItsOwn, IsFor, CompletesUnfailed, StandsWell, LosesTheLate, is_over, is_over_after, is_over_at, is_over_in}
pub use Rattle.promises.specs.Participants.{Choosing, ChosenTakePart, TakesPart, choosing, choosing_from, choosing_if, event_says, is_chosen, is_prepare}
pub use Rattle.promises.specs.Participants.{is_unfit, is_writer, line_says, unsaid}
pub use Rattle.promises.specs.Awaited.{AwaitTells, begins, begins_session, failure_in, failure_of, last_result, result_after, result_by, result_from, result_if}
pub use Rattle.promises.specs.Awaited.{result_told, set_failure, FailsByCode, IsAnswerCode, IsCode, IsLineCode, late_code, late_code_at, late_code_in}
pub use Rattle.promises.specs.Calls.{CallsAreOwned, FrozenDoNotWrite, StandsQuiet, WaitsAreDue, WaitsAreFew, is_owners, may_wait, MarksAreDue, may_fail}
pub use Rattle.promises.specs.Calls.{may_stop, RefusalsChangeNothing}
pub use Rattle.promises.specs.Clock.{ClockMoves, ticks_if, IdlesShortest, HasItsNumbers, timeout_in, timeout_of, OrdersEnd, informs_writers, is_overdue_at}
pub use Rattle.promises.specs.Clock.{is_overdue_in, StandsWithinLimits}
pub use Rattle.promises.specs.Contents.{ContentsChange, block_now, changes_by, is_clean, may_change}
pub use Rattle.promises.specs.Gone.{BackupsEnd, IsDone, reverts, TellsEvicted, are_in_order, goes_before, is_told, is_write, Fails, ImagesGoForCause, IsWanted}
pub use Rattle.promises.specs.Gone.{Takes, TakesBy, stands, within}
pub use Rattle.promises.specs.Copies.{CopiesHold, HoldsTheCut, KeepsCopies, are_once, is_copy, is_cut_by, is_overwritten, place_from, PropertiesTell}
pub use Rattle.promises.specs.Copies.{TellsTheImage, overwritten, SlotsSuffice}
pub use Rattle.promises.specs.Way.{CutsAtTheStep, is_cut_reply, is_number, StepsInTurn, is_before, StandsStill, takes_snapshot, AreOnce, CompletesByTheWay}
pub use Rattle.promises.specs.Way.{Deed, IsWholeWay, Made, Rising, Spoke, agreed, begins_snapshot, deeds, deeds_if, deeds_lost, deeds_of, deeds_told, heard}
pub use Rattle.promises.specs.Way.{is_again, is_agreed, is_failure, is_heard, is_made, is_snapshot_line, level_in, level_of, made, order_stage, same_volume}
pub use Rattle.promises.specs.Way.{stage, steps_told, way, way_after, way_from}
pub use Rattle.promises.specs.Documented.{TellsDocument, event_names, has_named, is_below, is_first, is_part, line_names, names_from, names_if, parts_listed}
pub use Rattle.promises.specs.Documented.{writer_listed, writers_listed}
pub use Rattle.promises.specs.Ends.{CalmWhile, CompletesWhereCalm, EndsEachSet, HasCompleted, HasEnded, HasLaterRow, IsCalm, IsLaterRow, KeepsRows}
pub use Rattle.promises.specs.Ends.{VolumesAreDistinct}
pub use Rattle.promises.specs.Failing.{FailsForCause, HasNoSlot, WritesFailForSlots}
pub use Rattle.promises.specs.Headline.{Headline}
pub use Rattle.promises.specs.Replies.{FindsTheKept, has_in_it, is_deleted, is_kept, is_of_backup, revert_answer, AreRising, IsBelow, RepliesTell, TellsTheCut}
pub use Rattle.promises.specs.Owed.{Asking, AtCompletion, ForConsent, NobodyOwes, ToIdentify, asks, counts, is_asked_of, is_reply, order_for, owes, owes_after}
pub use Rattle.promises.specs.Owed.{owes_from, owes_if, step_for}
pub use Rattle.promises.specs.Promises.{IsAsPromised}
pub use Rattle.promises.specs.Refusing.{RefusesForCause, name_refusal, name_refusal_in, order_refusal, place_refusal, want_refusal}
pub use Rattle.promises.specs.Rows.{RowsChange, asks_anew, at_rest, ends_session, row_asked, row_by, row_fails, row_next, row_over, row_said, row_told, said_by}
pub use Rattle.promises.specs.Rows.{set_fails, speaks, state_at_failure, state_at_ok}
pub use Rattle.promises.specs.Scripted.{AnswersByScript, asked_from, is_asked_anew, is_owed, times_asked, written_in}
pub use Rattle.requestor.specs.Check.{allows, begin_verdict, check_owner, is_await, stage_code}
pub use Rattle.requestor.specs.Session.{context_if, mode_of, without_all}
pub use Rattle.requestor.specs.declared.stage.Stage.TheVariants.{Finished}
pub use Rattle.scenario.proofs.Places.{number_is}
pub use Rattle.scenario.specs.Bounds.{group_slots}
pub use Rattle.scenario.specs.Plan.{blocks_in, class_of, group_of, placed, placed_in, script_of, slots_in, slots_of}
pub use Rattle.scenario.specs.declared.line.Line.TheVariants.{Writes}
pub use Rattle.serde_json.specs.Written.{compact_text}
pub use Rattle.set_agenda.proofs.Closings.{unless}
pub use Rattle.set_agenda.proofs.CourseRule.{now_if, asked_here, first_found, frozen_here, held_here, hold_found, later_found, limit_found, none_and_some}
pub use Rattle.set_agenda.proofs.CourseRule.{same_running}
pub use Rattle.set_agenda.proofs.GroupsLeft.{groups_left-all_say, unasked_if-nil}
pub use Rattle.set_agenda.proofs.WriterSets.{and-false, and-true, or-false}
pub use Rattle.set_agenda.specs.Advance.{asks_unfailed, others, others_if, unasked_if, are_distinct}
pub use Rattle.set_agenda.specs.Agenda.{head_or_0, is_asked, is_over_volumes, order_code, order_if, same_order, volume_if}
pub use Rattle.set_agenda.specs.Course.{OrderGroup, answered_to, begun, group_of_orders, lost_at, opens, row_failed, row_if, sent, settled_in}
pub use Rattle.set_agenda.specs.Limits.{Running, is_prepare_snapshot, running_until}
pub use Rattle.set_agenda.specs.declared.limit.Limit.TheVariants.{Answer}
pub use Rattle.std.proofs.Math.Seq.{drop-nil, take-add, take-length}
pub use Rattle.std.proofs.lemmas.Bool.{both_ways, le-ltb, lt-ltb, or_cases, true_from_ne_false}
pub use Rattle.std.proofs.lemmas.List.{drop-append-le, drop_all, length-drop, take-append-drop, take-append-le, take_all}
pub use Rattle.std.proofs.lemmas.List.Elements.{All-append, All-cons, All-nil}
pub use Rattle.std.proofs.lemmas.Option.{get_or_from_slice_get, slice_get-map, slice_get_within}
pub use Rattle.std.specs.List.{flat_map}
pub use Rattle.std.specs.Str.{bytes_eq}
pub use Rattle.vss_model.proofs.Appending.{acts-append, by_acts, by_last, state-append, state-run}
pub use Rattle.vss_model.proofs.AtCut.{all_said, cuts}
pub use Rattle.vss_model.proofs.ByEvent.{ChangesNothing, Covers, by_if, changes_session, covered, reply_is, some_same}
pub use Rattle.vss_model.proofs.Causes.{fails_with_cause, none_outcome, none_settled, Decides, answer_since, freeze_late, freeze_since, hold_late, same_freeze}
pub use Rattle.vss_model.proofs.Causes.{same_hold, same_hold_step}
pub use Rattle.vss_model.proofs.Changes.{Answers, Comes, Completes, CourseCall, Disables, Gathers, IsAdd, IsCut, IsDue, IsRevert, IsWrite, Prepares, Releases}
pub use Rattle.vss_model.proofs.Changes.{Snapshots, Steps, Times, after_enabled, after_not_enabled, by_changes, none_if_refused, stays, told_covered}
pub use Rattle.vss_model.proofs.Completed.{begun_incomplete, not_complete, past_group}
pub use Rattle.vss_model.proofs.CourseCalls.{Settles, Stops, asked_if, asked_waits, first_among, head_waits, not_ok_of_ok}
pub use Rattle.vss_model.proofs.Rules.{of_calls, course-step_made, unspoken, of_changes, of_writes, on_after}
pub use Rattle.vss_model.proofs.HeldOfSet.{append_nothing, cut-append, or_cut, either_way, said_stays, Follows, IsOf, Tied, goes_answered, goes_stepped}
pub use Rattle.vss_model.proofs.HeldOfSet.{goes_timed, tied}
pub use Rattle.vss_model.proofs.CutStep.{after_commit, after_cut, both, is_commit, as_many_volumes, fewer_after, fewer_followed, fewer_images_dropped}
pub use Rattle.vss_model.proofs.CutStep.{flush_fails, outcome_is_running}
pub use Rattle.vss_model.proofs.Headline.{complete_ends, each_line_once, frozen_for_set, keeps_set, leaves_nothing, reads_as_at_cut}
pub use Rattle.vss_model.proofs.Turns.{length-rows_where, volumes_cut}
pub use Rattle.vss_model.proofs.Gathered.{course-concluded, failed_agenda, filter_member, known_at, member_passes, named_known, named_known_components}
pub use Rattle.vss_model.proofs.GoesOn.{not_false}
pub use Rattle.vss_model.proofs.Volumes.{held_for_set, rewrites, same_writes, Each, FewerIn, as_many_change, as_many_gone, as_many_map, at, change_other}
pub use Rattle.vss_model.proofs.Volumes.{each_change, each_gone, each_map, fewer_in_change, fewer_in_over, fewer_in_same, fewer_written}
pub use Rattle.vss_model.proofs.KnownWriters.{AreOver}
pub use Rattle.vss_model.proofs.HeldImage.{UpTo, images_up_to}
pub use Rattle.vss_model.proofs.OneCut.{all_taken, changed_number, changed_result, image_reads, image_shown, images_in_time, kept_point, not_cut_yet}
pub use Rattle.vss_model.proofs.OneCut.{row_number}
pub use Rattle.vss_model.proofs.Orderly.{other_way, true_not_false}
pub use Rattle.vss_model.proofs.OrderlyActs.{Moves, MovesOn, is_done_stage, is_opened, is_started, kept_by_changes, kept_by_writes, moves_answered}
pub use Rattle.vss_model.proofs.OrderlyActs.{moves_stepped, moves_timed, none_after, orderly}
pub use Rattle.vss_model.proofs.Rows.{found_passes, complete_found, found_above, has_complete, incomplete_append, incomplete_map, incomplete_settled, kind_is}
pub use Rattle.vss_model.proofs.Rows.{none_below, none_runs, result-settled, row_running, row_settles, running_found, running_incomplete}
pub use Rattle.vss_model.proofs.Spoken.{among_filter, among_members, filter_passes, waits_members, waits_unsaid}
pub use Rattle.vss_model.proofs.StateForm.{IsKeptByChanges, IsKeptByWrites, Replied, add, add_to, await_last, begin_in, change_set, cleared, complete}
pub use Rattle.vss_model.proofs.StateForm.{component_in, concluded, cut_set, delete_kept, disable, does, end_session, failed, failed_in, followed, gather}
pub use Rattle.vss_model.proofs.StateForm.{happens, image_block, image_blocks, images_dropped, image_made, images_released, judged, later, line, line_in}
pub use Rattle.vss_model.proofs.StateForm.{named_as, pending, properties, put, refused, revert_to, reverted_as, session_line, start_set, step_made, stepped_as}
pub use Rattle.vss_model.proofs.StateForm.{with_room, with_room_if, write}
unfoldable pub use Rattle.vss_model.proofs.StateForm.{called, closed, delete_image, delete_set, followed, revert, ticked, write}
pub use Rattle.vss_model.proofs.Terms.{Act, AddsVolume, Agenda, AgendaEnds, All, AppRollback, AreInTime, AreLater, AsyncCancelled, AsyncPending, BackEnd}
pub use Rattle.vss_model.proofs.Terms.{Backup, BackupComplete, BadState, Blocked, Change, Clean, Coded, Commit, Complete, Components, Context, Copy, Course}
pub use Rattle.vss_model.proofs.Terms.{CourseIs, Cut, DeleteImage, DeleteSet, Deleted, Done, Ending, Entry, Failed, Fault, FaultAfter, Faulted, Fill, Fine}
pub use Rattle.vss_model.proofs.Terms.{Flush, Freeze, FrontEnd, Gather, Gathered, Go, Group, History, Hold, Identify, Idled, Image, ImageBlock, ImageDigest}
pub use Rattle.vss_model.proofs.Terms.{InsufficientStorage, IsAgendaOf, IsCutAt, IsFailed, IsKeptFrom, IsKeptInCourse, IsNamedAlready, IsNotFound}
pub use Rattle.vss_model.proofs.Terms.{IsNotSelectable, IsOfSession, IsOfStage, IsOrderly, IsPlan, IsShownAt, IsSpentHere, Kept, Kind, LetsGo, Level, Limit}
pub use Rattle.vss_model.proofs.Terms.{Mark, MaximumNumberOfSnapshotsReached, MaximumNumberOfVolumesReached, Member, Meta, Mode, Move, Names, Naming}
pub use Rattle.vss_model.proofs.Terms.{NasRollback, NotSelectable, NumberedFrom, ObjectAlreadyExists, ObjectNotFound, Ok, Op, Open, Opened, Order, Orders}
pub use Rattle.vss_model.proofs.Terms.{OverButNewest, Pair, Place, Placed, Plan, PostCommit, PostSnapshot, PreCommit, Prepare, PrepareBackup, PrepareSnapshot}
pub use Rattle.vss_model.proofs.Terms.{Prepared, Query, Read, ReadsAsAtTheCut, Refused, Release, Reply, Revert, Reverts, RevertsPart, Said, Session}
pub use Rattle.vss_model.proofs.Terms.{SessionCall, SetFails, SetOutcome, SetRow, Snapshot, Stage, Stamp, Started, StartsSet, State, StatusOf, System, Target}
pub use Rattle.vss_model.proofs.Terms.{Thaw, Tick, UnexpectedProviderError, UnsupportedContext, Verdict, VolumeRow, VssResult, WaitsFor, Write, WriteFill}
pub use Rattle.vss_model.proofs.Terms.{WriteStamp, Writer, WriterPlan, WriterRow, acts, acts_as, acts_if, add_refusal, advance, after_set, agenda_ended}
pub use Rattle.vss_model.proofs.Terms.{all_say, and_from, and_left, and_parts, answer_event, answer_limit, answer_reply, answer_runs, answered, append_assoc}
pub use Rattle.vss_model.proofs.Terms.{apply, at_level, at_place, begins_agenda, blocks_named, blocks_of, change_at, check, check_begin, check_other}
pub use Rattle.vss_model.proofs.Terms.{completing, cond-false, content, context_of, copies, copies_from, copies_of, copy_of, count_images, course_answered}
pub use Rattle.vss_model.proofs.Terms.{course_begun, course_stepped, course_timed, cut, decided, default_freeze, dropped, enabled, ended_of, ending, eq-eqb}
pub use Rattle.vss_model.proofs.Terms.{event_of, fails_set, false_from_ne_true, first_hold, first_time, found_in, freeze_limit, freeze_opened_at, freeze_runs}
pub use Rattle.vss_model.proofs.Terms.{freezes_writers, fresh, from_answered, from_begun, from_settled, from_timed, frozen_too_long, gathered, gives_cause}
pub use Rattle.vss_model.proofs.Terms.{goes_beside_agenda, gone_up_to, group_code, groups_left, has_failed, has_image, has_lost_image, has_no_volume, has_pair}
pub use Rattle.vss_model.proofs.Terms.{has_passed, has_row_failed, has_said, has_writers, held_too_long, history_in, history_of, hold_limit, hold_running}
pub use Rattle.vss_model.proofs.Terms.{hold_runs, holds_volumes, idle_now, in_progress, is_among, is_ascending, is_at, is_begin, is_cut_group, is_cut_of}
pub use Rattle.vss_model.proofs.Terms.{is_decisive, is_disabled, is_done, is_early, is_elsewhere, is_failed_step, is_fine, is_flush, is_flush_step, is_free}
pub use Rattle.vss_model.proofs.Terms.{is_frozen, is_held, is_hold, is_hold_step, is_in_set, is_kept_set, is_known, is_late, is_late_at, is_late_in, is_legal}
pub use Rattle.vss_model.proofs.Terms.{is_member, is_ok, is_orders, is_pending, is_provider, is_running, is_set, is_spent, is_stage, is_start, is_taker}
pub use Rattle.vss_model.proofs.Terms.{is_working, kept_image, kept_of, known_metas, last_of, last_time, leaves_all, left, left_from, left_now, length-append}
pub use Rattle.vss_model.proofs.Terms.{length-map, level_code, limit_of, limits_now, line_gives_cause, line_of, line_ticks, list_all, list_any, list_any-append}
pub use Rattle.vss_model.proofs.Terms.{lost, lost_decided, lost_to, ltb-false, ltb-true, makes_set, member_if, members_from, members_of, most_images}
pub use Rattle.vss_model.proofs.Terms.{most_volumes, named, names_selectable, naming, naming_found, naming_if, naming_of, new_number, new_set, next_member}
pub use Rattle.vss_model.proofs.Terms.{next_volume, open_group, open_order, open_place, opened, opened_at, or_from, or_left, or_parts, or_right, order_now}
pub use Rattle.vss_model.proofs.Terms.{order_of, order_of_writer, owner_only, owns, payload_bytes, places, plain, point_in, prepared, prepares_snapshot}
pub use Rattle.vss_model.proofs.Terms.{range_with_len, reply, reply_of_mark, revert_refusal, reverted, reverted_in_part, row_aborted, row_after, row_changed}
pub use Rattle.vss_model.proofs.Terms.{row_cut, row_ended, row_gathered, row_of, row_settled, rows_where, run, running_at, running_limits, runs, runs_if}
pub use Rattle.vss_model.proofs.Terms.{said_of, same_place, script_event, selected, set_failed, set_loses_image, settled_if, snapshot_begun, snapshot_stage}
pub use Rattle.vss_model.proofs.Terms.{spent_here, spent_of, stage_after, start, started, state, step_reply, stepped, sum_by-append, takers, target_in}
pub use Rattle.vss_model.proofs.Terms.{target_of, ticks_of, ticks_to_spend, ticks_until, timed, token, treated, treated_as, unanswered_too_long, unasked}
pub use Rattle.vss_model.proofs.Terms.{up_to_set, used_by, verdict_of, volumes_of, waited_for, waits_now, with_cut, with_group, with_pair, with_volume}
pub use Rattle.vss_model.proofs.Terms.{writers_at, written}
unfoldable pub use Rattle.vss_model.proofs.Terms.{begun, posted, released, settled, told, worked}
pub use Rattle.vss_model.proofs.TrailLength.{trail_is_short}
pub use Rattle.vss_model.proofs.Waiting.{WaitsWell, idle_spends, waits-left_from}
pub use Rattle.vss_model.specs.declared.event.Event.{Event}
pub use Rattle.vss_model.specs.declared.event.Event.TheVariants.{Idle, Line, Provider}
pub use Rattle.vss_model.specs.Acts.{after, event_allows, event_reply, is_blocked, may_stop_after}
pub use Rattle.vss_model.specs.Causes.{is_fault, is_refused, is_veto, loses_own_image, needs_consent, prepares_writers}
pub use Rattle.vss_model.specs.Effects.{evicted, evicted_at, evicted_for, lost_after, lost_order, lost_order_if, volumes_losing}
pub use Rattle.vss_model.specs.Images.{going_up_to, is_backup}
pub use Rattle.vss_model.specs.Laws.{Passes}
pub use Rattle.vss_model.specs.Reply.{Answered, BlockOf, BlocksOf, DocumentOf, PropertiesOf, Stepped}
pub use Rattle.vss_model.specs.Sessions.{meta_if}
pub use Rattle.vss_model.specs.State.{is_complete, kept, kept_at, kept_if, row_of_writer}
pub use Rattle.vss_names.proofs.LookUps.{IsLookUp-context_of_number}
pub use Rattle.vss_names.specs.Context.{context_of_number, number_of}
unfoldable pub use Rattle.vss_names.specs.Context.{context_of_number}
pub use Rattle.vss_names.specs.declared.vss_result.VssResult.TheVariants.{AsyncFinished, HoldWritesTimeout, SnapshotSetInProgress, WriterNotResponding}
pub use Rattle.vss_names.specs.declared.writer_error.WriterError.TheVariants.{Timeout}
pub use Rattle.vss_names.specs.declared.writer_state.WriterState.{WriterState}
pub use Rattle.vss_names.specs.declared.writer_state.WriterState.TheVariants.{Stable, Unknown, WaitingForBackupComplete, WaitingForFreeze}
pub use Rattle.vss_names.specs.declared.writer_state.WriterState.TheVariants.{WaitingForPostSnapshot, WaitingForThaw}
pub use Rattle.write_history.specs.History.{last_bytes, names, restoring, sets_of, to_restore}
pub use Rattle.write_history.specs.Slots.{evicted_of, evicted_up_to, group_used, lacks_slot, needs_slot, needs_slot_in, used, writes_since}
pub use Rattle.write_history.specs.declared.evicted.Evicted.{Evicted}
pub use Rattle.writer_calls.specs.Script.{answer_in, is_row_for, scripted_answer}
pub use Rattle.writer_calls.specs.declared.scripted.Scripted.{Scripted}
pub use Rattle.writer_meta.proofs.Laws.{and_right}
pub use Rattle.writer_meta.specs.Metadata.{Part, full_name, is_ancestor}
pub use Rattle.writer_state.specs.WriterState.{one_more, after_ok, failed_at, is_failed, stable_again}
pub use Rattle.writer_state.specs.declared.said.Said.TheVariants.{Lost}
