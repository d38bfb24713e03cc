-- Moves whose mark is told: a line that looks at a volume, a write, a flush and a revert.
use Rattle.std.proofs.Common.{◌≡◌, ℕ, ◌<◌, ◌≤◌, List, [], length, refl, ap, sym, ◌∙◌, subst, arith, Bool, true, false, Option, Some, None}
use Rattle.std.specs.Prelude.{is_some, nat_lt, IfSome, Result, Ok, Err}
use Rattle.vss_world.proofs.Words.{Act, Blocked, Cause, Evicted, Fault, FaultAfter, Faulted, Fits, Flush, Ghosts, Group, HasGroups, IfStands, IsAt, IsMove, IsMoved}
use Rattle.vss_world.proofs.Words.{IsNextStep, IsOf, IsOp, IsSettled, IsStepped, Kept, Leaves, Line, Mark, Moved, Op, Open, Outcome, Plan, Provider, ProviderValue}
use Rattle.vss_world.proofs.Words.{Revert, SessionMove, SessionsValue, Stands, State, Told, Volume, WorldValue, Write, after}
use Rattle.vss_world.proofs.Words.{is_flush, kept_image, kept_same, line, line_allows, mark_of, may_stop_after, nat_tests, next_volume, open_group}
use Rattle.vss_world.proofs.Words.{restorable, revert_refusal, reverted_as, simple_outcome, state, tells_of, told_act, told_if, volume_by}
use Rattle.vss_model.specs.Words.{Reads, ShowsBlock, ShowsImage, allows_by, line_of}
use Rattle.provider.specs.Words.{NeverFails, counted_as}
use Rattle.provider.proofs.Words.{IsPut}
use Rattle.scenario.specs.declared.line.Line.{Line as Does}
use Rattle.scenario.specs.Bounds.{IsRangedBy}
use Rattle.vss_model.specs.declared.told.Told.TheVariants as told
use Rattle.vss_model.proofs.StateForm.{revert}
use Rattle.provider.specs.Calls.{StopsAfter as StopsInGroups}
use Rattle.provider.proofs.Called.{rose_at}
use Rattle.vss_world.specs.declared.reply.Reply.{Reply as Answer}
use Rattle.vss_world.specs.Moves.{HasMark, IsToldStep, StopsAs, StopsAfter}
use Rattle.vss_world.proofs.Moved.{world_of}
use Rattle.vss_world.proofs.Looking.{failed_moves, provided_point}
use Rattle.vss_world.proofs.Removed.{revert_is}
use Rattle.vss_world.proofs.Step.{failed_moves as step_failed}
use Rattle.vss_world.proofs.Unsaid.{unsaid, settled_unsaid}
use Rattle.vss_model.proofs.ByEvent.{reply_is}

-- ## lines that look at volumes and images

-- the line looks at this volume
abbrev pub LooksAt : ℕ → Does → Type 0
LooksAt v (Reads u b) = u ≡ v
LooksAt v (ShowsImage n u) = u ≡ v
LooksAt v (ShowsBlock n u b) = u ≡ v
LooksAt v _ = ⊥

look_faults : (s : Plan) (lane : ℕ) (op : Op) (v : ℕ) (l : Does) → line_of op ≡ l → LooksAt v l → (st : State)
    → allows_by s st l Fault ≡ true → line s lane op Fault st ≡ (Faulted, st)
look_faults s lane op v l e look st allowed = grind arith

module _ {D : Type 0} (device : Ghosts D) {s : Plan} {p : ProviderValue D} {x : SessionsValue} {l : List ℕ} {e f : List Evicted} (of : IsOf (world_of p x l e) s) where
  pub look_fails : {lane : ℕ} {op : Op} (none : f ≡ []) (v : ℕ) (looks : Does) → line_of op ≡ looks → LooksAt v looks → v < length s.volumes
      → IfStands device.told (world_of p x l e) s (λ st. allows_by s st looks Fault ≡ true)
      → IsMoved (counted_as device true) (world_of p x l e) (world_of p x l f) s (Line lane op) (simple_outcome told.Fault)
  look_fails {lane = lane} {op = op} none v looks is look within allowed =
      failed_moves (unsaid device) of none told.Fault v Volume (ap volume_by is ∙ (grind arith)) (grind arith) (kept_same (unsaid device) p.groups)
      (rose_at s p.groups v of.groups within) refl refl
      (λ acts stands. let st = state s acts in record {
        allowed = ap (λ (x : Does). allows_by s st x Fault) is ∙ allowed acts stands;
        said = Faulted;
        volumes = st.volumes;
        is = look_faults s lane op v looks is look st (allowed acts stands);
        fits = refl;
        lists = λ rows. tt;
        groups = stands.at.groups;
      })

-- a core whose devices are those of its groups
pub looked : {D : Type 0} (device : Ghosts D) (s : Plan) (w : WorldValue D) (lane : ℕ) (op : Op) (v : ℕ) (looks : Does) → IsOf w s → line_of op ≡ looks → LooksAt v looks → IsOp s op
    → IfStands device.told w s (λ st. allows_by s st looks Fault ≡ true)
    → IsToldStep device w (record w { evicted = [] }) s (Line lane op) Fault (Moved (simple_outcome told.Fault))
looked {D} device s w lane op v looks of is look range allowed =
    let same : world_of w.provider w.sessions w.listed w.evicted ≡ w = ap (λ (ds : List D). record w { devices = ds }) (sym of.devices) in
    record {
      stepped = subst (λ (x : WorldValue D). IsMoved (counted_as device true) x (record x { evicted = [] }) s (Line lane op) (simple_outcome told.Fault)) same
          (look_fails device (subst (λ (x : WorldValue D). IsOf x s) (sym same) of) refl v looks is look
          (grind (arith, (subst (IsRangedBy (length s.source) s.volumes (length s.writers) op) is range)))
          (λ acts stands. allowed acts (subst (λ (x : WorldValue D). Stands device.told x s acts) same stands)));
      marked = λ needs acts stands may. refl;
      lasts = λ e. cc;
    }

-- ## writes

-- nothing was put
pub none_put : {D : Type 0} (device : Ghosts D) {s : Plan} (q : ProviderValue D) (v : ℕ) (w : Write) → HasGroups s q.groups → v < length s.volumes
    → IsPut (unsaid device) s q.groups q.groups v w (Err Volume)
none_put device {s = s} q v w has within = record {
  call = record { kept = kept_same (unsaid device) q.groups; elsewhere = λ r g at apart. refl };
  stands = λ hs are. are;
  cause = rose_at s q.groups v has within;
}

pub fault_told : (put : Result Unit Cause) → put ≡ Err Volume → mark_of (told_if put) ≡ Fault
fault_told put e = ap (λ (r : Result Unit Cause). mark_of (told_if r)) e

-- ## steps

pub flush_is : (g : Group) → is_flush (Some g) ≡ true → g ≡ Flush
flush_is g e = grind arith

-- a Flush step has a volume
pub flush_volume : (os : List Open) (volume : Option ℕ) → open_group os ≡ Some Flush → next_volume os ≡ volume → is_some volume ≡ true
flush_volume os volume e f = grind arith

module _ {D : Type 0} (device : Ghosts D) (s : Plan) {m : SessionMove} {p r : ProviderValue D} {x y : SessionsValue} {l : List ℕ} {e f : List Evicted}
    (of : IsOf (world_of p x l e) s) (none : f ≡ [])
    (settled : IsSettled device m p r) (move : IsMove (IsAt x s) s y Provider m) (leaves : Leaves x y) where
  pub flush_fails : (volume : Option ℕ) → is_some volume ≡ true → IfSome volume (λ v. v < length s.volumes) → IsNextStep x Flush volume → m.outcome.told ≡ told.Step Flush volume true
      → IsMoved (counted_as device true) (world_of p x l e) (world_of r y l f) s Provider m.outcome
  flush_fails None some within next told_is = cc
  flush_fails (Some v) some within next told_is =
      step_failed (unsaid device) s of none refl (settled_unsaid device m p r settled) move leaves v next told_is (λ hs are. are) (kept_same (unsaid device) p.groups)
      (rose_at s p.groups v of.groups within)

-- ## reverts

-- all that there were to restore are few enough
pub stops_in_world : {D : Type 0} (blocks_told : D → Option (List (List ℕ))) (s : Plan) (p : ProviderValue D) (x : SessionsValue) (l : List ℕ) (e : List Evicted) (n v k : ℕ)
    → StopsInGroups blocks_told s p.groups v n k (Ok tt) → StopsAs blocks_told (world_of p x l e) s n v k told.Ok
stops_in_world blocks_told s p x l e n v k stops = grind (arith, provided_point)

-- of an image that is kept and a revert that is not refused
record MayStop (s : Plan) (st : State) (n v k : ℕ) : Type 0 where
  image : Kept
  is : kept_image st n v ≡ Some image
  free : revert_refusal v (Some image) st ≡ None
  more : nat_lt k (restorable s st v (Some image)) ≡ true

too_few : (k n : ℕ) → nat_lt k n ≡ true → n ≤ k → ⊥
too_few k n e l = grind (arith, nat_tests)

module _ {D : Type 0} (device : Ghosts D) (s : Plan) (old new : WorldValue D) (lane n v k : ℕ) (o : Outcome)
    (moves : IsMoved device old new s (Line lane (Revert n v)) o) (stops : StopsAs device.told old s n v k o.told) {acts : List Act} (stands : Stands device.told old s acts)
    (allowed : may_stop_after s (state s acts) v (kept_image (state s acts) n v) k ≡ true) where
  abbrev st : State
  st = state s acts

  abbrev tells : List Bool
  tells = tells_of device.told s old.devices

  free : MayStop s st n v k
  free = grind arith

  reverts : (mark : Mark) → revert s n v mark st ≡ reverted_as s v free.image mark st
  reverts mark = revert_is s n v mark st (Some free.image) None free.is free.free

  clash : false ≡ true → ⊥
  clash f = cc

  by_mark : (mark : Mark) → mark_of o.told ≡ mark → line_allows s st (Revert n v) (mark_of o.told) ≡ true → Fits tells (revert s n v (mark_of o.told) st).0 o.told
      → mark_of o.told ≡ FaultAfter k
  by_mark mark e may said = grind (arith, reverts, too_few, free, clash)

  has_stopped : mark_of o.told ≡ FaultAfter k
  has_stopped =
      let act = told_act (Line lane (Revert n v)) o.told in
      by_mark (mark_of o.told) refl (moves.is_allowed acts stands)
      (subst (λ told. Fits tells told o.told) (reply_is s st act) (moves.outcome acts (after s st act).course.rows stands refl).fits)

stop_mark : {D : Type 0} (device : Ghosts D) (s : Plan) (old new : WorldValue D) (lane n v k : ℕ) (reply : Answer)
    → IsStepped device old new s (Line lane (Revert n v)) reply → StopsAfter device.told old s n v k reply
    → IfStands device.told old s (λ st. may_stop_after s st v (kept_image st n v) k ≡ true → HasMark (FaultAfter k) reply)
stop_mark device s old new lane n v k Blocked step stops acts stands allowed = tt
stop_mark device s old new lane n v k (Moved o) moves stops acts stands allowed = has_stopped device s old new lane n v k o moves stops stands allowed

-- a revert that may stop there stopped there
pub stops_told : {D : Type 0} (device : Ghosts D) (s : Plan) (old new : WorldValue D) (lane n v k : ℕ) (reply : Answer)
    → IsStepped (counted_as device true) old new s (Line lane (Revert n v)) reply → (NeverFails device.count → StopsAfter device.told old s n v k reply)
    → IsToldStep device old new s (Line lane (Revert n v)) (FaultAfter k) reply
stops_told device s old new lane n v k reply step stops = record {
  stepped = step;
  marked = λ never. stop_mark (counted_as device true) s old new lane n v k reply step (stops never);
  lasts = λ e. cc;
}
