-- The words of this crate's proofs and of those below it, from one place.
pub use Rattle.std.proofs.lemmas.List.{length-map}
pub use Rattle.vss_names.specs.declared.set_outcome.SetOutcome.TheVariants.{Complete, Failed, Running}
pub use Rattle.vss_names.specs.declared.vss_result.VssResult.{VssResult}
pub use Rattle.requestor.specs.declared.session_call.SessionCall.{SessionCall}
pub use Rattle.requestor.specs.declared.stage.Stage.{Stage}
pub use Rattle.requestor.specs.declared.stage.Stage.TheVariants.{Started}
pub use Rattle.requestor.specs.declared.verdict.Verdict.{Verdict}
pub use Rattle.requestor.specs.declared.verdict.Verdict.TheVariants.{Blocked, Go, Refused}
pub use Rattle.requestor.specs.Session.{Session, context_of, makes_set, opened, started}
pub use Rattle.requestor.specs.Check.{begin_verdict, check, check_begin, check_other, check_owner, is_stage, owner_only}
pub use Rattle.scenario.specs.Plan.{Plan, WriterPlan, class_in, class_of, token}
pub use Rattle.vss_model.specs.declared.event.Event.TheVariants.{Answer, Idle, Line, Provider}
pub use Rattle.vss_model.specs.Reply.{Answered, Coded, DocumentOf, Fine, Idled, NotSelectable, Numbered, Reply, StatusOf, Stepped}
pub use Rattle.vss_model.specs.State.{SetRow, State, in_progress, is_complete, is_running, left_now, row_changed}
pub use Rattle.vss_model.specs.Steps.{row_settled, runs, is_flush, with_cut}
pub use Rattle.vss_model.proofs.StateForm.{followed, add, add_to, change_set, judged, line_in, Replied, later, step_made}
pub use Rattle.vss_model.specs.Effects.{ended_of}
pub use Rattle.vss_model.specs.Facts.{IsOfSession, NumberedFrom, OverButNewest, has_failed}
pub use Rattle.vss_model.specs.Sessions.{add_refusal, has_no_volume, known_from, known_metas, selected, with_volume}
pub use Rattle.vss_model.specs.Outcome.{EndsAs, HasLists, IsOutcome, told_act, Fits, mark_if, mark_of}
pub use Rattle.sessions.specs.Keeps.{IsAt, IsInOrder, IsOf, Keeps, SessionsValue, classes_of, classes_registered, nothing_named_in, value_of}
pub use Rattle.sessions.specs.Moves.{CameTo, ComesTo, Concludes, HasBegun, HasCome, HasTicked, IsAtOver, IsDocumentIn, IsMove, MayAdd, after_move, event_volumes, images_after, is_all, stepped_volumes}
pub use Rattle.sessions.specs.Moves.{takes_all_of}
pub use Rattle.sessions.specs.Concluded.{ended_so, ends_as, failed_set, nothing_ends, released_by, told_alone, told_named, told_of, without_images}
pub use Rattle.vss_model.proofs.ByEvent.{Goes, other_goes}
pub use Rattle.vss_model.proofs.Orderly.{IsSameRow, find-map, newest-append, newest-map, newest-settled, none_head, none_tail, numbered-append, numbered-map, numbered-settled}
pub use Rattle.vss_model.proofs.OrderlyActs.{same_changed}
pub use Rattle.vss_model.proofs.Rows.{apart, found_above, is_over_row, none_ends, none_over, none_runs, settled_row, settled_running}
pub use Rattle.std.specs.List.{list_all, list_any, range_with_len}
pub use Rattle.vss_names.specs.declared.out_of_memory.OutOfMemory.{OutOfMemory}
pub use Rattle.vss_names.specs.declared.vss_result.VssResult.TheVariants.{AsyncCancelled, AsyncPending, BadState, ObjectAlreadyExists, ObjectNotFound, UnsupportedContext}
pub use Rattle.writer_state.specs.WriterState.{row_gathered}
pub use Rattle.set_agenda.specs.declared.member.Member.{Member}
pub use Rattle.set_agenda.specs.Course.{Course, answered, begun, gathered, idle_ticks, lost_writers, prepared, released, stepped, timed}
pub use Rattle.component_doc.specs.Over.{Held, all_have_few, is_named, metas_of, pairs_of, AreAllowed, IsSelectedOver, is_ascending, meta_at, names_selectable}
pub use Rattle.coordinator.specs.Coordinator.{CoordinatorState, IsOnTime, KeepsWriters, Registered, Stands, are_equal, class_at, failed_if_running, is_disabled, named, writer_count}
pub use Rattle.coordinator.proofs.Registering.{members-agree}
pub use Rattle.scenario.specs.declared.op.Op.{Op}
pub use Rattle.sessions.specs.declared.session_move.SessionMove.{SessionMove}
pub use Rattle.std.proofs.lemmas.Bool.{and_from, and_left, and_parts, cond_both, cond-false, cond-true, eq-eqb, eqb-true, le-leb, ne_eqb, or_from}
pub use Rattle.vss_model.specs.Acts.{after, answer_reply, flush_allows, idle_now, step_reply}
pub use Rattle.vss_names.specs.declared.order.Order.{Order}
pub use Rattle.vss_names.specs.declared.set_outcome.SetOutcome.{SetOutcome}
pub use Rattle.write_history.specs.History.{History}
pub use Rattle.set_agenda.specs.Agenda.{Agenda, is_asking, is_working, left, next_volume, open_group, open_order, order_now}
pub use Rattle.requestor.specs.Requestor.{Sessions, after_agenda, applied, ended}
pub use Rattle.coordinator.specs.declared.effects.Effects.{Effects}
pub use Rattle.coordinator.specs.Effects.{Tells, lost_order_if, outcome_told}
pub use Rattle.vss_model.specs.declared.told.Told.{Told}
pub use Rattle.sessions.specs.declared.ended.Ended.{Ended}
pub use Rattle.sessions.specs.Sets.{AreSets, bare, current_of, facts_of, is_complete_in, running_changed, running_in}
pub use Rattle.vss_model.proofs.CutStep.{outcome_in}
pub use Rattle.write_history.specs.declared.mark.Mark.{Mark}
pub use Rattle.writer_calls.specs.declared.standing.Standing.{Standing}
pub use Rattle.writer_calls.specs.Script.{said_of}
pub use Rattle.set_agenda.specs.declared.group.Group.{Group}
pub use Rattle.coordinator.specs.KeptCourse.{ticks_if}
pub use Rattle.coordinator.specs.OpenOrders.{number_in, standing_in}
pub use Rattle.coordinator.proofs.Fitting.{by-later, runs-is}
pub use Rattle.scenario.specs.declared.op.Op.TheVariants.{Tick}
pub use Rattle.vss_model.specs.Cut.{is_cut_group}
pub use Rattle.writer_state.specs.declared.said.Said.{Said}
pub use Rattle.set_agenda.specs.declared.kind.Kind.{Kind}
pub use Rattle.coordinator.specs.Beginning.{begun_as, enabled}
pub use Rattle.set_agenda.proofs.CourseRule.{IsKeptInCourse, course_answered, course_begun, course_stepped, course_timed}
pub use Rattle.component_doc.specs.Selection.{AllOf, Named, Names, Naming, Pair, Selected, all_of, is_taker, naming, takers}
pub use Rattle.block_data.specs.BlockBytes.{sha256}
pub use Rattle.write_history.specs.declared.mark.Mark.TheVariants.{Clean}
pub use Rattle.scenario.specs.declared.span.Span.{Span}
pub use Rattle.component_doc.specs.declared.add_fault.AddFault.{AddFault}
pub use Rattle.component_doc.specs.Document.{document_text}
pub use Rattle.writer_state.specs.declared.writer_row.WriterRow.{WriterRow}
pub use Rattle.writer_meta.specs.Metadata.{Meta}
pub use Rattle.writer_meta.specs.Document.{IsAllowed}
pub use Rattle.requestor.specs.declared.mode.Mode.{Mode}
pub use Rattle.scenario.specs.Bounds.{IsWriter}
pub use Rattle.vss_model.proofs.Gathered.{all_known, known_at, named_known}
pub use Rattle.std.proofs.lemmas.List.Elements.{All-push}
pub use Rattle.vss_names.specs.declared.context.Context.{Context}
pub use Rattle.vss_names.specs.declared.context.Context.TheVariants.{AppRollback, Backup, NasRollback}
pub use Rattle.coordinator.proofs.Following.{left-is}
pub use Rattle.scenario.specs.declared.line.Line.TheVariants.{Calls}
pub use Rattle.vss_model.specs.declared.event.Event.{Event}
pub use Rattle.vss_model.proofs.Changes.{after_enabled}
pub use Rattle.vss_model.proofs.OneCut.{newest_number}
pub use Rattle.sessions.specs.declared.set_facts.SetFacts.{SetFacts}
pub use Rattle.std.proofs.lemmas.Option.{slice_get_past, slice_get_read}
