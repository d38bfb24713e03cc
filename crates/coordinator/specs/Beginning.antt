-- An agenda begins. What becomes of the course is the course's own function, by the kind of the agenda; the writers that
-- are asked follow from what is kept of the course. (This project's own.)
use Rattle.std.specs.Prelude.{ℕ, ◌&&◌, Bool, not, nat_lt, List, [], filter, length, map}
use Rattle.writer_state.specs.WriterState.{row_gathered}
use Rattle.set_agenda.specs.declared.kind.Kind.{Kind}
use Rattle.set_agenda.specs.declared.kind.Kind.TheVariants.{Gather, Prepare, Snapshot, Complete}
use Rattle.set_agenda.specs.declared.member.Member.{Member}
use Rattle.set_agenda.specs.Agenda.{is_among}
use Rattle.set_agenda.specs.Course.{Course, completing, gathered, has_row_failed, prepared, snapshot_begun}
use Rattle.set_agenda.specs.WriterSet.{writers}
use Rattle.component_doc.specs.Over.{Held}
use Rattle.component_doc.specs.Selection.{takers}
use Rattle.coordinator.specs.declared.kept_course.KeptCourse.{KeptCourse}
use Rattle.coordinator.specs.Coordinator.{Registered, any_class, class_at, is_disabled}

-- those of these writers that are not disabled
abbrev pub enabled : List Registered → List ℕ → List ℕ → List ℕ
enabled ws ds ts = filter (λ w. not (is_disabled ws ds w)) ts

-- the selection counts for Prepare alone, which fixes the participants, and the volumes for Snapshot
abbrev pub begun_as : Kind → List Registered → Held → List ℕ → ℕ → Course → Course
begun_as Gather ws s vs now c = gathered (is_disabled ws c.disabled) now c
begun_as Prepare ws s vs now c = prepared (enabled ws c.disabled (takers s.writers s.selected)) now c
begun_as Snapshot ws s vs now c = snapshot_begun vs now c
begun_as Complete ws s vs now c = completing now c

-- ## from what is kept

abbrev pub volumes_if : Kind → List ℕ → List ℕ
volumes_if Gather vs = []
volumes_if Prepare vs = []
volumes_if Snapshot vs = vs
volumes_if Complete vs = []

-- the course as an agenda of this kind begins, but for the agenda: Gather forgets what came before, and Prepare fixes
-- the participants
abbrev pub ready_for : Kind → List Member → Course → Course
ready_for Gather ms c = record c { rows = map row_gathered c.rows }
ready_for Prepare ms c = record c { members = ms }
ready_for Snapshot ms c = c
ready_for Complete ms c = c

-- whether an agenda of this kind asks a writer
abbrev pub asks : Kind → List Registered → KeptCourse → List ℕ → ℕ → Bool
asks Gather ws k ts w = not (any_class (λ x. is_among x k.disabled) 0 (class_at ws w) ws)
asks Prepare ws k ts w = is_among w ts && not (any_class (λ x. is_among x k.disabled) 0 (class_at ws w) ws)
asks Snapshot ws k ts w = is_among w k.members
asks Complete ws k ts w = is_among w k.members && not (has_row_failed k.rows w)

abbrev pub asked_by : Kind → List Registered → KeptCourse → List ℕ → List ℕ
asked_by kind ws k ts = writers (λ w. nat_lt w (length k.rows) && asks kind ws k ts w)
