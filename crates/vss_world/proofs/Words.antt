-- The words of the core, and the lemmas of the sessions, from one place.
pub use Rattle.provider.proofs.Words.{AreFresh, AreGroups, AreKept, AreLasting, AreWhole, AreWithout, CanCutOn, HasCause, HasGroups, HasImage, HasStepCause, HasSyncCause, IfStandFor, IsDigestShown}
pub use Rattle.provider.proofs.Words.{IsDigestTold, IsDigestedAt, IsDropped, IsPointOf, IsRevert, IsShown, LastsAt, ProviderValue, RoseAlone, area_place, counts_of, devices_of, fault_of, history_at}
pub use Rattle.provider.proofs.Words.{holders, images_going, point_before, refusal, slice_get-set_other, slice_get-set_same, slice_get_inside, step_taken, told_at, volume_place}
pub use Rattle.provider.proofs.Dropped.{count_within}
pub use Rattle.provider.proofs.InGroup.{copies_in_group, find_same, blocks_there}
pub use Rattle.provider.proofs.Flat.{area_device_at, area_is_set, device_at}
pub use Rattle.provider.proofs.Found.{found_row, inside, told_here}
pub use Rattle.provider.proofs.Kept.{kept_same, kept_trans, later_same, tells_of-at}
pub use Rattle.std.proofs.lemmas.List.{map-append}
pub use Rattle.vss_model.specs.Words.{Act, Agenda, AgendaEnds, AllLive, AreInTime, AreLater, AreLive, AsyncCancelled, AsyncPending, BackEnd, BackupComplete, BadState, BlockOf, BlocksOf, Calls, Clean}
pub use Rattle.vss_model.specs.Words.{Coded, Commit, Complete, Copy, Course, Cut, DeleteImage, DeleteSet, Deleted, Differ, Distinct, End, Ending, EndsAs, Entry, Evicted, Failed, Fault, FaultAfter}
pub use Rattle.vss_model.specs.Words.{Faulted, FaultedAfter, Fine, Fits, Flush, Freeze, FrontEnd, Gather, Go, Group, HasLists, HasNames, History, Hold, Identify, Image, ImageBlock, ImageDigest}
pub use Rattle.vss_model.specs.Words.{IsBlock, IsDigestIf, IsFirstIf, IsInGroup, IsNewest, IsOfSession, IsOp, IsOutcome, IsPlan, Kept, KeptSets, Kind, Level, Mark, MaximumNumberOfSnapshotsReached}
pub use Rattle.vss_model.specs.Words.{MaximumNumberOfVolumesReached, Member, Meta, Metadata, NothingEnds, NumberedFrom, ObjectAlreadyExists, ObjectNotFound, Ok, Op, Open, Order, Orders, OverButNewest}
pub use Rattle.vss_model.specs.Words.{Pair, Place, Placed, Plan, PostCommit, PreCommit, Prepare, PrepareBackup, PrepareSnapshot, Properties, PropertiesOf, Query, Read, Refused, Release}
pub use Rattle.vss_model.proofs.StateForm.{Replied, add, add_to, change_set, cleared, concluded, cut_set, delete_kept, failed, failed_in, followed, happens, image_made, image_block, image_blocks, judged}
pub use Rattle.vss_model.proofs.StateForm.{later, line, line_in, properties, put, refused, revert_to, reverted_as, step_made, stepped_as, with_room, with_room_if}
pub use Rattle.vss_model.specs.Words.{Revert, Running, Said, Session, SetFails, SetOutcome, SetRow, Snapshot, SnapshotSetInProgress, Span, Start, State, StatusOf, System, Target, Tick}
pub use Rattle.vss_model.specs.Words.{UnexpectedProviderError, UnsupportedContext, Verdict, VolumeRow, VssResult, Write, WriterPlan, WriterRow, act_of, add_refusal, after}
pub use Rattle.vss_model.specs.Words.{after_set, all_say, allows, are_distinct, at_level, at_place, begun, blocks_in_group, blocks_named, blocks_of, bytes_of, call_in, call_of, change_at}
pub use Rattle.vss_model.specs.Words.{check, check_other, content, contents, copies, copies_from, copies_of, copy_of, count_images, course_start, cut}
pub use Rattle.vss_model.specs.Words.{dropped, enabled, ended_of, ending, event_allows, evicted, evicted_for, evicted_of, evicted_up_to, first_row, fresh}
pub use Rattle.vss_model.specs.Words.{going_up_to, gone_up_to, group_code, group_of, group_slots, group_used, groups_left, has_failed, has_image, has_lost_image, has_no_volume, has_said}
pub use Rattle.vss_model.specs.Words.{has_writers, head_or_0, history_in, history_of, idle_now, in_progress, is_among, is_backup, is_complete, is_cut_group, is_done}
pub use Rattle.vss_model.specs.Words.{is_failed_step, is_fault, is_flush, is_held, is_in_set, is_kept_set, is_live, is_orders, is_over_volumes, is_running, is_snapshot, is_working, kept}
pub use Rattle.vss_model.specs.Words.{kept_at, kept_if, kept_image, kept_of, lacks_slot, left, left_from, left_now, level_code, line_allows, line_enabled, lost, lost_order_if}
pub use Rattle.vss_model.specs.Words.{mark_if, mark_of, may_stop_after, member_if, members_from, members_of, meta_of, named, needs_slot_in, new_set, next_member, next_volume, of_group, open_group}
pub use Rattle.vss_model.specs.Words.{open_place, order_now, outcome_after, owner_only, placed, places, plain, point_in, read_as, reply, restorable, revert_refusal}
pub use Rattle.vss_model.specs.Words.{reverted, reverted_in_part, row_changed, row_cut, row_gathered, row_of, row_of_writer, row_settled, runs, said_of, same_place}
pub use Rattle.vss_model.specs.Words.{set_loses_image, sets_of, settled_if, settled_in, start, state, stepped, target_in, timed, to_restore, token, told_act, used, used_by}
pub use Rattle.vss_model.specs.Words.{verdict_of, volume_if, volumes_losing, volumes_of, waited_for, with_cut, with_group, with_volume, without_set, writer_spans}
pub use Rattle.vss_model.specs.Words.{writes_since, written}
pub use Rattle.vss_world.specs.Words.{Answer, Event, Idle, Line, Outcome, Provider, Told}
pub use Rattle.provider.specs.declared.digested.Digested.{Digested}
pub use Rattle.provider.specs.Words.{AllTell, AreStored, Area, Cause, Ghosts, GroupValue, IsBytes, NoSuchBlock, Volume, sha256, told_in}
pub use Rattle.std.proofs.Math.Seq.{drop-length}
pub use Rattle.std.proofs.lemmas.Bool.{and_from, and_parts, both_ways, cond-false, cond-true, cond_both, eq-eqb, eqb-false, eqb-true, false_from_ne_true, false≢true, le-leb, le-ltb, leb-false, lt-leb}
pub use Rattle.std.proofs.lemmas.Bool.{lt-ltb, ne_eqb, not-true, or_from, or_left, or_parts, or_right, true_from_ne_false, true≢false}
pub use Rattle.std.proofs.lemmas.Bool.Decides.{nat_tests}
pub use Rattle.std.proofs.lemmas.Iterator.Adapters.{position_from-zero}
pub use Rattle.std.proofs.lemmas.List.{append-nil, length-append, length-map, take_all}
pub use Rattle.std.proofs.lemmas.List.Elements.{All-cons, All-nil, All-weaker, filter-append}
pub use Rattle.std.proofs.lemmas.List.Filters.{length-filter_both}
pub use Rattle.std.proofs.lemmas.List.Folds.{drop_split, list_any-append}
pub use Rattle.std.proofs.lemmas.Option.{get_or_from_slice_get, none-some, slice_get-map, slice_get_within}
pub use Rattle.std.proofs.lemmas.Simd.{map-map}
pub use Rattle.std.proofs.lemmas.Slice.Eq.{bytes_eq-Decides}
pub use Rattle.std.specs.List.{concat, flat_map, list_any, position_from, range_with_len}
pub use Rattle.std.specs.Prelude.{unwrap_or}
pub use Rattle.std.specs.Str.{bytes_eq}
pub use Rattle.vss_model.proofs.Words.{Call, Covers, IsCall, IsKeptInCourse, IsKeptInLog, Settles, Tied, UpTo, after_by, after_provider, all_said, and-true, and_three, as_many_volumes, by_if}
pub use Rattle.vss_model.proofs.Words.{call_answered, call_timed, course-step_made, course_answered, course_begun, course_stepped, course_timed, covered, ending_idle, ending_on}
pub use Rattle.vss_model.proofs.Words.{ends_settle, fewer_wait, find-append_new, find-map, find-row_cut, find-settled_over, find-settled_running, found_above, has_complete, held_parts, held_point}
pub use Rattle.vss_model.proofs.Words.{commit_volume, commits, CommitsNow, is_commit, no_image_yet, image_runs, images_in_time, images_up_to, in_log, kind_is, live-filter, live_at, named_known_components, new-is, new_said, newest_image}
pub use Rattle.vss_model.proofs.Words.{newest_number, no_live_below, no_names, none_after, none_below, none_ends, none_over, none_runs, number-cut, numbered-map, or-false, orderly, other_goes}
pub use Rattle.vss_model.proofs.Words.{outcome_is_running, room_for_image, row_number, running_incomplete, settled_row, state-append, tied, true_not_false, unspoken, volumes-row_cut_if}
pub use Rattle.vss_world.specs.Words.{CoordinatorState, IsAt, IsAtOver, IsInOrder, IsMove, IsNextStep, IsOnTime, IsStandingIn, IsWait, Keeps, Leaves, LeavesWithin, MayAdd, RegisterFault, Registered}
pub use Rattle.vss_world.specs.Words.{SessionMove, SessionsValue, SetFacts, after_move, classes_registered, current_of, double_of, event_volumes, facts_of, failed_set, images_after, is_add, later_by}
pub use Rattle.vss_world.specs.Words.{place_of, registered_in, told_alone, without_images, writer_count}
pub use Rattle.coordinator.proofs.Following.{left-is}
pub use Rattle.sessions.proofs.Lines.{adds, adds_not, line_of, not_started}
pub use Rattle.sessions.proofs.Concluding.{current_kept, no_row}
pub use Rattle.sessions.proofs.CourseSteps.{happens_moves, refused_happens}
pub use Rattle.sessions.proofs.Newest.{length_bare}
pub use Rattle.vss_world.specs.Changes.{IsEndPrepared, IsEnded, IsEndedAs, IsReleased, IsSettled, IsWriteBy, IsWriteLine, MakesRoom, begins_snapshot, told_if}
pub use Rattle.vss_world.specs.Changes.{IsBlockSeen, IsBlockTold, IsDigestOf, IsDigestSeen, IsDigestedIf, IsFingerprint, IsReading, IsWide}
pub use Rattle.vss_world.specs.Stands.{AllTied, RoseFor, tells_of, told_by, told_of, AreBelow, IfStands, IsAgendaIn, IsInPlan, IsOf, IsPrepared, IsStanding}
pub use Rattle.vss_world.specs.Stands.{MembersBelow, SetsBelow, Stands, StandsAt, WorldValue, number_prepared}
pub use Rattle.vss_world.specs.Moves.{IsBlocked, IsMoved, IsStepped, listed_after, lists_sets, simple_outcome, volume_by, volume_of, volume_of_step}
pub use Rattle.vss_world.specs.Quiet.{AreDevicesAlone, AreFirst, AreNew, HasRegistered, IsAreaHeld, IsQuiet, IsSynced, registered_as}
pub use Rattle.vss_world.specs.declared.fingerprint.Fingerprint.{Fingerprint}
pub use Rattle.vss_world.specs.declared.reply.Reply.{Reply}
pub use Rattle.vss_world.specs.declared.reply.Reply.TheVariants.{Blocked, Moved}
