-- What a session call is answered that is not accepted: BadState, if the caller does not own the session, an agenda runs, or the call does
-- not come in its order; but SnapshotSetInProgress for `start` while a set is in progress. A call that comes in its order is refused for
-- what it wants: `component` for a component that is not there, cannot be selected, or is named already; `add` for a volume that is in the
-- set, a set of 64 volumes, or a volume of 512 images. (The codes are the SDK's; which of them is answered is this project's own.)
use Rattle.std.specs.Prelude.{ℕ, ◌≡◌, ◌&&◌, not, nat_lt, if◌then◌else◌, Bool, true, false, List, [], ◌∷◌, Option, Some, None, length, slice_get, is_none}
use Rattle.std.specs.Str.{bytes_eq}
use Rattle.vss_names.specs.declared.vss_result.VssResult.TheVariants.{BadState, UnsupportedContext, SnapshotSetInProgress, ObjectNotFound, ObjectAlreadyExists, MaximumNumberOfVolumesReached, MaximumNumberOfSnapshotsReached}
use Rattle.writer_meta.specs.Metadata.{Part, Meta, full_name}
use Rattle.set_agenda.specs.Agenda.{is_among}
use Rattle.scenario.specs.declared.op.Op.{Op}
use Rattle.scenario.specs.declared.op.Op.TheVariants.{Begin, Component, Start, Add, Abort, End}
use Rattle.scenario.specs.Plan.{Plan, token}
use Rattle.vss_model.specs.declared.event.Event.TheVariants.{Line}
use Rattle.vss_model.specs.Reply.{Reply, Coded, NotSelectable, is_fine}
use Rattle.vss_model.specs.State.{State, SetRow, in_progress}
use Rattle.vss_model.specs.Steps.{runs}
use Rattle.vss_model.specs.Sessions.{known_metas}
use Rattle.vss_model.specs.Causes.{owns}
use Rattle.vss_model.specs.Acts.{Act, reply, state}
use Rattle.promises.specs.Accepted.{is_ordered, is_accepted, Progress, progress, comes_now}

-- ## what a call wants

-- the first component of this full name; it is named already, if it can be selected
abbrev pub name_refusal_in : List ℕ → List Part → Reply
name_refusal_in name [] = Coded ObjectNotFound
name_refusal_in name (p ∷ ps) =
    if bytes_eq (full_name p) name then (if p.selectable then Coded ObjectAlreadyExists else NotSelectable)
    else name_refusal_in name ps

-- of a writer whose metadata may not be known
abbrev pub name_refusal : List ℕ → Option (Option Meta) → Reply
name_refusal name None = Coded ObjectNotFound
name_refusal name (Some None) = Coded ObjectNotFound
name_refusal name (Some (Some m)) = name_refusal_in name m.parts

abbrev pub place_refusal : ℕ → Option SetRow → Reply
place_refusal v None = Coded BadState
place_refusal v (Some r) =
    if is_among v r.volumes then Coded ObjectAlreadyExists
    else if nat_lt (length r.volumes) 64 then Coded MaximumNumberOfSnapshotsReached
    else Coded MaximumNumberOfVolumesReached

abbrev pub want_refusal : Plan → State → Progress → Op → Reply
want_refusal s st p (Component w full) = if p.all then Coded BadState else name_refusal (token s full) (slice_get (known_metas s st) w)
want_refusal s st p (Add v) = place_refusal v (in_progress st)
want_refusal s st p op = Coded BadState

-- ## the order

abbrev pub order_refusal : Op → Option SetRow → Reply
order_refusal Start (Some r) = Coded SnapshotSetInProgress
order_refusal op set = Coded BadState

abbrev pub refusal : Plan → State → Progress → ℕ → Op → Reply
refusal s st p lane op =
    if not (owns st.session lane) then Coded BadState
    else if not (runs st) && comes_now p op then want_refusal s st p op
    else order_refusal op (in_progress st)

pub record RefusesForCause (s : Plan) (so_far : List Act) (act : Act) : Type 0 where
  pub ordered : (lane : ℕ) (op : Op) → act.event ≡ Line lane op → is_ordered op ≡ true → is_accepted (reply s (state s so_far) act) ≡ false
      → reply s (state s so_far) act ≡ refusal s (state s so_far) (progress s so_far) lane op
  -- a context that is not there, or a session that stands
  pub begins : (lane n : ℕ) (all : Bool) → act.event ≡ Line lane (Begin n all) → is_fine (reply s (state s so_far) act) ≡ false
      → reply s (state s so_far) act ≡ Coded (if is_none (state s so_far).session then UnsupportedContext else BadState)
  pub aborts : (lane : ℕ) → act.event ≡ Line lane Abort → is_fine (reply s (state s so_far) act) ≡ false → reply s (state s so_far) act ≡ Coded BadState
  pub ends : (lane : ℕ) → act.event ≡ Line lane End → is_fine (reply s (state s so_far) act) ≡ false → reply s (state s so_far) act ≡ Coded BadState
