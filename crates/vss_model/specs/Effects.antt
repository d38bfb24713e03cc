-- The effects of an enabled act beside its reply: the kept images that it evicts, the writers that it loses, and the
-- set that completes or fails in it. (This project's own.)
use Rattle.std.specs.Prelude.{ℕ, ◌+◌, List, [], ◌∷◌, filter, find, ◌==◌, ◌&&◌, not, if◌then◌else◌, Option, Some, None}
use Rattle.std.specs.List.{flat_map}
use Rattle.vss_names.specs.declared.order.Order.{Order}
use Rattle.write_history.specs.declared.evicted.Evicted.{Evicted}
use Rattle.write_history.specs.History.{History}
use Rattle.write_history.specs.Slots.{evicted_of}
use Rattle.set_agenda.specs.Agenda.{order_now}
use Rattle.set_agenda.specs.Course.{lost_writers}
use Rattle.scenario.specs.declared.line.Line.{Line as Does}
use Rattle.scenario.specs.declared.line.Line.TheVariants.{Ticks}
use Rattle.scenario.specs.declared.op.Op.{Op}
use Rattle.scenario.specs.Calls.{Target, line_of, target_of}
use Rattle.scenario.specs.Plan.{Plan}
use Rattle.vss_model.specs.declared.event.Event.{Event}
use Rattle.vss_model.specs.declared.event.Event.TheVariants.{Line, Answer as AnswerEvent, Provider, Idle}
use Rattle.vss_model.specs.State.{State, SetRow, in_progress, left_now, has_image, is_complete, is_running}
use Rattle.vss_model.specs.Images.{cleared}
use Rattle.vss_model.specs.Acts.{Act, after, idle_now}

-- ## evicted images

-- the volumes, numbered from v on, on which an image of set n stood and does not stand any more
abbrev pub volumes_losing : ℕ → ℕ → List History → List History → List ℕ
volumes_losing n v [] ks = []
volumes_losing n v (h ∷ hs) [] = []
volumes_losing n v (h ∷ hs) (k ∷ ks) =
    if has_image n h && not (has_image n k) then v ∷ volumes_losing n (v + 1) hs ks else volumes_losing n (v + 1) hs ks

-- the kept images that go for a write of block b to volume v, in order of sets and then of volumes
abbrev pub evicted_for : Plan → State → ℕ → ℕ → List Evicted
evicted_for s st v b =
    flat_map (λ r. evicted_of r.number (volumes_losing r.number 0 st.volumes (cleared s v b st)))
    (filter (λ r. is_complete r.result) st.sets)

abbrev pub evicted_at : Plan → State → Option Target → List Evicted
evicted_at s st None = []
evicted_at s st (Some t) = evicted_for s st t.volume t.block

abbrev pub evicted : Plan → State → Event → List Evicted
evicted s st (Line lane op) = evicted_at s st (target_of op)
evicted s st (AnswerEvent w answer) = []
evicted s st Provider = []
evicted s st Idle = []

-- ## lost writers

-- how far an event moves the clock, if it moves it
abbrev pub ticks_by : Does → Option ℕ
ticks_by (Ticks n) = Some n
ticks_by _ = None

abbrev pub line_ticks : Op → Option ℕ
line_ticks op = ticks_by (line_of op)

abbrev pub ticks_of : State → Event → Option ℕ
ticks_of st (Line lane op) = line_ticks op
ticks_of st (AnswerEvent w answer) = None
ticks_of st Provider = None
ticks_of st Idle = Some (idle_now st)

abbrev pub lost_after : Option ℕ → State → List ℕ
lost_after None st = []
lost_after (Some n) st = lost_writers (st.clock + n) st.course

-- the writers that a limit loses which this event spends, in order
abbrev pub lost : State → Event → List ℕ
lost st event = lost_after (ticks_of st event) st

-- the order that they have not answered
abbrev pub lost_order_if : List ℕ → Option Order → Option Order
lost_order_if [] o = None
lost_order_if (w ∷ ws) o = o

abbrev pub lost_order : State → Event → Option Order
lost_order st event = lost_order_if (lost st event) (order_now (left_now st))

-- ## the set that ends

abbrev pub ended_of : Option SetRow → List SetRow → Option SetRow
ended_of None rows = None
ended_of (Some r) rows = find (λ q. (q.number == r.number) && not (is_running q.result)) rows

-- the set that was in progress before the act and is not after it
abbrev pub ended : Plan → State → Act → Option SetRow
ended s st act = ended_of (in_progress st) (after s st act).sets
