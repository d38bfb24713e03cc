-- A write, against the acts: the images that it needs gone, and the set in progress that fails where its own goes.
use Rattle.std.proofs.Common.{◌≡◌, ℕ, zero, suc, ◌<◌, ◌≤◌, List, [], ◌∷◌, length, refl, ap, sym, ◌∙◌, subst, arith, Bool, true, false, Option, Some, None}
use Rattle.std.proofs.Common.{filter, map, slice_get}
use Rattle.std.specs.Prelude.{option_map, is_some, not, ◌&&◌, ◌||◌, Result, Ok, Err}
use Rattle.vss_model.specs.Words.{Act, EndsAs, Evicted, Failed, Fits, HasLists, History, Image, InsufficientStorage, IsBlock, Mark, Op, Placed, Plan, Reply}
use Rattle.vss_model.specs.Words.{Running, SetOutcome, SetRow, State, Write, WriterRow, act_of, after, change_at, dropped, ended_of, evicted, evicted_for}
use Rattle.vss_model.specs.Words.{reply, going_up_to, gone_up_to, group_of, has_image, has_lost_image, history_in, in_progress, is_kept_set, is_running, left_now}
use Rattle.vss_model.specs.Words.{line_allows, line_enabled, line_of, lost, lost_order_if, mark_of, may_write, order_now, placed, placed_in, point_in}
use Rattle.vss_model.specs.Words.{reply_of_mark, set_loses_image, slots_of, state, written}
use Rattle.vss_model.proofs.ByEvent.{reply_is}
use Rattle.vss_model.proofs.Changes.{fails_now}
use Rattle.vss_model.proofs.StateForm.{Replied, cleared, failed_in, images_dropped, line, put, with_room, with_room_if, write}
use Rattle.vss_world.specs.Words.{IsFailed, IsInOrder, IsOf as IsSessionsOf, Keeps, Leaves, Line, Outcome, SessionsValue, current_of}
use Rattle.provider.specs.Words.{Cause, Ghosts}
use Rattle.vss_model.proofs.Words.{UpTo, image_runs, images_up_to, new-is, newest_number, none_after, orderly, some_rows}
use Rattle.provider.proofs.Kept.{kept_same, kept_trans}
use Rattle.provider.proofs.Words.{AreGroups, AreKept, AreWithout, HasCause, IsLastSet, IsPut, ProviderValue, counts_of, devices_of, fault_of, images_going}
use Rattle.provider.proofs.Words.{number_is as own_number, put_if, slice_get_inside, slice_get_map}
use Rattle.vss_world.proofs.Words.{IfStands, IsBlocked, IsInPlan, IsMoved, IsOf, IsPrepared, IsWriteLine, MakesRoom, RoseFor, Stands, StandsAt}
use Rattle.vss_world.proofs.Words.{WorldValue, current_kept, no_row as none_current, number_prepared, simple_outcome, tells_of, told_if, volume_by}
use Rattle.vss_world.proofs.Moved.{world_of, OfDevices, Comes, goes_on, leaves_of, in_order, moved, clean_devices, failed_devices, rose_for, LineComes}
use Rattle.vss_world.proofs.Moved.{line_moves, after_line}
use Rattle.vss_world.proofs.InPlan.{in_failed_in}
use Rattle.vss_world.proofs.Evictions.{AllUpTo, not_lost, lost_at, up_to_most, evicted_is}
use Rattle.vss_world.proofs.SetGoesOn.{runs_snapshot, failed_ends}
use Rattle.vss_world.proofs.Prepared.{prepared_same, prepared_none, runs_number}

-- ## facts of every list of acts

all_of : (n : ℕ) (hs : List History) → ((v : ℕ) → UpTo n (history_in (slice_get hs v)).images) → AllUpTo n hs
all_of n [] h = tt
all_of n (x ∷ hs) h = (h 0, all_of n hs (λ v. h (suc v)))

in_up_to : (n m : ℕ) (images : List Image) → UpTo m images → is_some (point_in n images) ≡ true → n ≤ m
in_up_to n m [] up h = absurd cc
in_up_to n m (i ∷ images) up h = grind (arith, up.0, (in_up_to n m images up.1))

-- no image is of a later set
last_set : (s : Plan) (acts : List Act) → IsLastSet (length (state s acts).sets) (state s acts).volumes
last_set s acts u n x at has =
    let st = state s acts in
    let o = orderly s acts in
    let up = images_up_to st.sets st.volumes u o.numbered o.live in
    in_up_to n _ x.images (subst (λ (y : History). UpTo (length st.sets) y.images) (ap history_in at) up) has

-- ## the line

pub record IsWriting (s : Plan) (lane : ℕ) (op : Op) (v : ℕ) (w : Write) : Type 0 where
  pub is_write : (mark : Mark) (st : State) → line s lane op mark st ≡ write s v w mark st
  pub on : (st : State) → line_enabled s st lane op ≡ may_write s st lane v
  pub allowed : (done : Result Unit Cause) (st : State) → line_allows s st op (mark_of (told_if done)) ≡ true
  pub target : (st : State) → evicted s st (Line lane op) ≡ evicted_for s st v w.block
  pub nobody : (st : State) → lost st (Line lane op) ≡ []
  pub of_volume : volume_by (line_of op) ≡ Some v

pub writing : (s : Plan) (lane : ℕ) (op : Op) (v : ℕ) (w : Write) → IsWriteLine op v w → IsWriting s lane op v w
writing s lane op v w h = grind arith

said_fits : (tells : List Bool) (done : Result Unit Cause) → Fits tells (reply_of_mark (mark_of (told_if done))) (told_if done)
said_fits tells done = grind arith

said_lists : (done : Result Unit Cause) (listed : List ℕ) (rows : List WriterRow) → HasLists (reply_of_mark (mark_of (told_if done))) listed rows
said_lists done listed rows = grind arith

written_is : (s : Plan) (v : ℕ) (w : Write) (mark : Mark) (st next : State) → with_room s v w.block st ≡ next → write s v w mark st ≡ (reply_of_mark mark, put v w mark next)
unfolding write
written_is s v w mark st next room = ap (λ (z : State). (reply_of_mark mark, put v w mark z)) room

-- ## devices

-- a write as the core makes it: room is made for it, and then the provider puts it
pub record IsMade {D : Type 0} (device : Ghosts D) (s : Plan) (lane : ℕ) (op : Op) (v : ℕ) (w : Write) (done : Result Unit Cause) (m : ℕ) (p q r : ProviderValue D)
    (x : SessionsValue) (f : List Evicted) : Type 0 where
  pub block : IsBlock s v w.block
  pub is : IsWriting s lane op v w
  pub makes : MakesRoom device s x p q v w.block f m
  pub puts : IsPut device s q.groups r.groups v w done
  pub rest : r ≡ record q { groups = r.groups }

pub making : {D : Type 0} {device : Ghosts D} {s : Plan} {lane : ℕ} {op : Op} {v : ℕ} {w : Write} {done : Result Unit Cause} {m : ℕ} {p q r : ProviderValue D} {x : SessionsValue} {f : List Evicted}
    → IsBlock s v w.block → IsWriting s lane op v w → MakesRoom device s x p q v w.block f m → IsPut device s q.groups r.groups v w done → r ≡ record q { groups = r.groups }
    → IsMade device s lane op v w done m p q r x f
making block is makes puts rest = record { block = block; is = is; makes = makes; puts = puts; rest = rest }

-- what it comes to: no set ends, or the set in progress fails
abbrev pub outcome_as : Result Unit Cause → ℕ → SetOutcome → Outcome
outcome_as done set result = record { told = told_if done; lost = 0; lost_order = None; set = set; result = result }

put_devices : {D : Type 0} {device : Ghosts D} {s : Plan} {lane : ℕ} {op : Op} {v : ℕ} {w : Write} {m : ℕ} {p q r z : ProviderValue D} {x y : SessionsValue} {l : List ℕ} {e f : List Evicted}
    (set : ℕ) (result : SetOutcome) (done : Result Unit Cause) → IsMade device s lane op v w done m p q r x f → IsOf (world_of p x l e) s → IsSessionsOf y s → AreKept device r.groups z.groups
    → devices_of z.groups ≡ devices_of r.groups → OfDevices device s (Line lane op) (outcome_as done set result) (world_of p x l e) (world_of z y l f)
put_devices {device = device} {s = s} {lane = lane} {op = op} {v = v} {p = p} {q = q} {r = r} {z = z} {x = x} {y = y} {l = l} {e = e}
    {f = f} set result done h of writers kept same = by_result done h.puts.cause
  where
    all_kept : AreKept device p.groups z.groups
    all_kept = kept_trans device p.groups r.groups z.groups (kept_trans device p.groups q.groups r.groups h.makes.call.kept h.puts.call.kept) kept

    first : counts_of device.count q.groups ≡ counts_of device.count p.groups
    first = ap (map device.count) h.makes.devices

    last : counts_of device.count z.groups ≡ counts_of device.count r.groups
    last = ap (map device.count) same

    by_result : (done : Result Unit Cause) → HasCause device.count s v (fault_of done) q.groups r.groups
        → OfDevices device s (Line lane op) (outcome_as done set result) (world_of p x l e) (world_of z y l f)
    by_result (Ok tt) cause = clean_devices device s (Line lane op) (outcome_as (Ok tt) set result) p z x y l l e f of all_kept writers (last ∙ cause ∙ first) refl
    by_result (Err fault) cause = failed_devices device s (Line lane op) (outcome_as (Err fault) set result) p z x y l l e f of all_kept writers
        (subst (λ (o : Option ℕ). RoseFor s o (counts_of device.count p.groups) (counts_of device.count z.groups)) (sym h.is.of_volume)
        (subst (λ (ns : List ℕ). RoseFor s (Some v) (counts_of device.count p.groups) ns) (sym last)
        (subst (λ (ns : List ℕ). RoseFor s (Some v) ns (counts_of device.count r.groups)) first (rose_for device.count s v fault q.groups r.groups cause)))) refl

-- ## histories

put_sets : (done : Result Unit Cause) (v : ℕ) (w : Write) (st : State) → (put v w (mark_of (told_if done)) st).sets ≡ st.sets
put_sets done v w st = grind arith

put_parts : {D : Type 0} (blocks_told : D → Option (List (List ℕ))) (q : ProviderValue D) (x : SessionsValue) (s : Plan) (done : Result Unit Cause) (v : ℕ) (w : Write) (st : State)
    → Keeps x st → IsInPlan s st → IsPrepared q st → AreGroups blocks_told s q.groups (put_if done v w st.volumes)
    → StandsAt blocks_told q x s (put v w (mark_of (told_if done)) st)
put_parts blocks_told q x s done v w st k plan prepared groups = grind arith

map_put : (done : Result Unit Cause) (v : ℕ) (w : Write) (n : ℕ) (hs : List History) → map (dropped n) (put_if done v w hs) ≡ put_if done v w (map (dropped n) hs)
map_put (Err cause) v w n hs = refl
map_put (Ok done) v w n hs = changed v hs
  where
    changed : (v : ℕ) (hs : List History) → map (dropped n) (change_at v (written w) hs) ≡ change_at v (written w) (map (dropped n) hs)
    changed v [] = refl
    changed zero (h ∷ hs) = refl
    changed (suc v) (h ∷ hs) = ap (λ (xs : List History). dropped n h ∷ xs) (changed v hs)

-- ## which set is in progress

pub some_current : (o : Option SetRow) (n : ℕ) → Some n ≡ option_map (λ (r : SetRow). r.number) o → (r : SetRow) × (o ≡ Some r) × (r.number ≡ n)
some_current o n e = grind arith

-- an image that is lost stood
lost_stood : (n : ℕ) (hs ks : List History) → has_lost_image n hs ks ≡ true → (k p : ℕ) × (point_in n (history_in (slice_get hs k)).images ≡ Some p)
lost_stood n [] ks e = cc
lost_stood n (h ∷ hs) [] e = cc
lost_stood n (h ∷ hs) (k ∷ ks) e = by_point (point_in n h.images) refl e (λ g. lost_stood n hs ks g)
  where
    by_point : (o : Option ℕ) → point_in n h.images ≡ o → ((is_some o && not (has_image n k)) || has_lost_image n hs ks) ≡ true
        → (has_lost_image n hs ks ≡ true → (i p : ℕ) × (point_in n (history_in (slice_get hs i)).images ≡ Some p)) → (i p : ℕ) × (point_in n (history_in (slice_get (h ∷ hs) i)).images ≡ Some p)
    by_point (Some p) f g rest = (0, p, f)
    by_point None f g rest = let found = rest g in (suc found.0, found.1, found.2)

-- ## at a list of acts

module _ {D : Type 0} {device : Ghosts D} {s : Plan} {lane : ℕ} {op : Op} {v : ℕ} {w : Write} {done : Result Unit Cause} {m : ℕ} {p q r : ProviderValue D} {x : SessionsValue} {f : List Evicted}
    (h : IsMade device s lane op v w done m p q r x f) {acts : List Act} {l : List ℕ} {e : List Evicted} (stands : Stands device.told (world_of p x l e) s acts)
    (on : may_write s (state s acts) lane v ≡ true) where
  abbrev st : State
  st = state s acts

  abbrev base : State
  base = cleared s v w.block st

  abbrev mark : Mark
  mark = mark_of (told_if done)

  abbrev tells : List Bool
  tells = tells_of device.told s (devices_of p.groups)

  far : m ≡ going_up_to s v w.block st
  far = h.makes.evicted st.volumes stands.at.groups (length st.sets) (last_set s acts)

  cleared_groups : AreGroups device.told s q.groups base.volumes
  cleared_groups = grind (arith, far)

  put_groups : AreGroups device.told s r.groups (put_if done v w base.volumes)
  put_groups = grind (arith, cleared_groups)

  prepares : IsPrepared r st
  prepares = prepared_same q r st h.rest (prepared_same p q st h.makes.rest stands.at.prepared)

  cleared_keeps : Keeps x base
  cleared_keeps = grind arith

  cleared_plan : IsInPlan s base
  cleared_plan = let k = stands.at.plan in record { sets = k.sets; agenda = k.agenda; members = k.members; disabled = k.disabled }

  gone : f ≡ evicted_for s st v w.block
  gone =
      h.makes.kept st stands.at.sessions st.volumes stands.at.groups
      ∙ ap (λ (n : ℕ). filter (λ (i : Evicted). is_kept_set st i.set) (images_going n (group_of s v) st.volumes)) far
      ∙ evicted_is s v w.block st (orderly s acts).numbered (up_to_most _ (length st.sets))

  abbrev IsAnswered : Type 0
  IsAnswered = LineComes device.told s lane op (told_if done) tells r x l f st

  -- no image of the set in progress went
  kept_on : set_loses_image (in_progress st) st.volumes base.volumes ≡ false → IsAnswered
  kept_on no_loss = record {
    on = h.is.on st ∙ on;
    allowed = h.is.allowed done st;
    said = reply_of_mark mark;
    next = put v w mark base;
    is = h.is.is_write mark st ∙ written_is s v w mark st base (ap (λ (t : Bool). with_room_if t base) no_loss);
    fits = said_fits tells done;
    lists = λ rows are. said_lists done l rows;
    evicts = gone ∙ sym (h.is.target st);
    nobody = h.is.nobody st;
    sets = put_sets done v w base;
    parts = put_parts device.told r x s done v w base cleared_keeps cleared_plan (record { volumes = prepares.volumes; set = prepares.set; distinct = prepares.distinct }) put_groups;
  }

  pub no_set : None ≡ current_of x.sets → IsAnswered
  no_set c =
      let none : in_progress st ≡ None = none_current (in_progress st) (c ∙ current_kept x st stands.at.sessions) in
      kept_on (ap (λ (o : Option SetRow). set_loses_image o st.volumes base.volumes) none)

  -- the set in progress is the newest
  newest : (a : SetRow) → in_progress st ≡ Some a → a.number ≡ length st.sets
  newest a c = let o = orderly s acts in let n = newest_number 1 st.sets a o.numbered o.newest c in omega (arith, n)

  pub other_set : (n : ℕ) → Some n ≡ current_of x.sets → (m ≡ n → ⊥) → IsAnswered
  other_set n c apart =
      let a = some_current (in_progress st) n (c ∙ current_kept x st stands.at.sessions) in
      let most = up_to_most _ (length st.sets) in
      let less : going_up_to s v w.block st < a.0.number = below m n (going_up_to s v w.block st) a.0.number (length st.sets) apart far a.2 (newest a.0 a.1) most in
      kept_on (ap (λ (o : Option SetRow). set_loses_image o st.volumes base.volumes) a.1 ∙ not_lost (going_up_to s v w.block st) a.0.number (group_of s v) st.volumes less)
    where
      below : (m n k r l : ℕ) → (m ≡ n → ⊥) → m ≡ k → r ≡ n → r ≡ l → k ≤ l → k < r
      below m n k r l apart e f g h = grind (arith, apart)

  loses : (a : SetRow) → in_progress st ≡ Some a → m ≡ a.number → has_lost_image a.number st.volumes base.volumes ≡ true
  loses a c same =
      let number = newest a c in
      let row = slice_get_inside s.volumes v h.block.0 in
      let group : group_of s v ≡ map (placed row.0.group) s.volumes = ap (placed_in s.volumes) row.1 in
      let at : slice_get (group_of s v) v ≡ Some (placed row.0.group row.0) = ap (λ (ps : List Placed). slice_get ps v) group ∙ slice_get_map (placed row.0.group) s.volumes v row.0 row.1 in
      let all = length st.sets in
      let far_all : going_up_to s v w.block st ≡ all = sym far ∙ same ∙ number in
      let some = some_rows (λ q. is_running q.result) st.sets a c in
      let lost_image : has_lost_image all st.volumes (gone_up_to all (group_of s v) st.volumes) ≡ true =
      lost_at all (slots_of s v) v w.block (group_of s v) st.volumes (placed row.0.group row.0) some at (own_number row.0.group)
      (let o = orderly s acts in all_of _ _ (λ v. images_up_to (state s acts).sets (state s acts).volumes v o.numbered o.live)) far_all in
      ap (λ (n : ℕ). has_lost_image n st.volumes base.volumes) number ∙ ap (λ (k : ℕ). has_lost_image all st.volumes (gone_up_to k (group_of s v) st.volumes)) far_all ∙ lost_image

  -- the image of the set in progress went, and the set failed
  pub own_set : {n k : ℕ} {y : SessionsValue} {z : ProviderValue D} → Some n ≡ current_of x.sets → m ≡ n → IsFailed x y InsufficientStorage → AreWithout device r.groups z.groups r.set k
      → z ≡ record { groups = z.groups; set = 0; volumes = [] } → Comes device.told s (Line lane op) (outcome_as done n (Failed InsufficientStorage)) tells z y l f st
  own_set {n = n} {y = y} {z = z} c same fails without ended =
      let a = some_current (in_progress st) n (c ∙ current_kept x st stands.at.sessions) in
      let over = failed_in (Some a.0) InsufficientStorage base in
      let lost_own = loses a.0 a.1 (same ∙ sym a.2) in
      let stood = lost_stood a.0.number st.volumes base.volumes lost_own in
      let snapshot = image_runs s acts a.0 stood.0 stood.1 a.1 stood.2 in
      let runs = runs_number a.0 st.course.agenda (ap runs_snapshot snapshot.runs ∙ snapshot.snapshot) in
      let number_is : r.set ≡ a.0.number = prepares.set ∙ ap (λ (o : Option SetRow). number_prepared o st.course.agenda) a.1 ∙ runs in
      let lost_image = ap (λ (o : Option SetRow). set_loses_image o st.volumes base.volumes) a.1 ∙ lost_own in
      let here : with_room s v w.block st ≡ over = ap (λ (t : Bool). with_room_if t base) lost_image ∙ ap (λ (o : Option SetRow). failed_in o InsufficientStorage base) a.1 in
      let done_line : line s lane op mark st ≡ (reply_of_mark mark, put v w mark over) = h.is.is_write mark st ∙ written_is s v w mark st over here in
      let ready = h.is.on st ∙ on in
      let to : after s st (act_of mark (Line lane op)) ≡ put v w mark over = after_line s st lane op mark ready ∙ ap (λ (t : Replied). t.1) done_line in
      let order = in_order s acts in
      let base_order : IsInOrder base = record { numbered = order.numbered; newest = order.newest; session = order.session } in
      let keeps : Keeps y over = subst (λ (o : Option SetRow). Keeps y (failed_in o InsufficientStorage base)) a.1 (subst (Keeps y) (fails_now InsufficientStorage base) (fails base base_order cleared_keeps)) in
      let none : in_progress over ≡ None = none_after (Some a.0) InsufficientStorage base a.1 in
      let wrote = put_if done v w base.volumes in
      let groups : AreGroups device.told s z.groups (put_if done v w over.volumes) =
      subst (λ (o : Option SetRow). AreGroups device.told s z.groups (put_if done v w (images_dropped o base.volumes))) (sym a.1)
      (subst (AreGroups device.told s z.groups) (ap (λ (j : ℕ). map (dropped j) wrote) number_is ∙ map_put done v w a.0.number base.volumes) (without.stands s wrote put_groups)) in
      let ends : ended_of (in_progress st) (put v w mark over).sets ≡ Some (record a.0 { result = Failed InsufficientStorage }) =
      ap (λ (o : Option SetRow). ended_of o (put v w mark over).sets) a.1 ∙ ap (ended_of (Some a.0)) (put_sets done v w over)
      ∙ failed_ends a.0 InsufficientStorage base order.numbered a.1 in
      let number = newest a.0 a.1 in
      let some = some_rows (λ t. is_running t.result) st.sets a.0 a.1 in
      let same_number = a.2 in
      let said : reply s st (act_of mark (Line lane op)) ≡ reply_of_mark mark = reply_is s st (act_of mark (Line lane op)) ∙ ap (λ (t : Replied). t.0) done_line in
      record {
        is_enabled = ready;
        is_allowed = h.is.allowed done st;
        outcome = λ rows are. record {
          fits = subst (λ (t : Reply). Fits tells t (told_if done)) (sym said) (said_fits tells done);
          lists = subst (λ (t : Reply). HasLists t l rows) (sym said) (said_lists done l rows);
          evicts = gone ∙ sym (h.is.target st);
          loses = new-is ∙ sym (h.is.nobody st);
          order = sym (ap (λ (ws : List ℕ). lost_order_if ws (order_now (left_now st))) (h.is.nobody st));
          ends = subst (λ (o : Option SetRow). EndsAs o n (Failed InsufficientStorage)) (sym (ap (λ (t : State). ended_of (in_progress st) t.sets) to ∙ ends))
              (sym a.2, refl, omega (arith, number, some, same_number));
        };
        parts = subst (λ (t : State). StandsAt device.told z y s t) (sym to)
            (put_parts device.told z y s done v w over keeps (in_failed_in s (Some a.0) InsufficientStorage base cleared_plan)
            (prepared_none z over (ap (λ (t : ProviderValue D). t.volumes) ended) (ap (λ (t : ProviderValue D). t.set) ended) none) groups);
      }

-- ## moves

module _ {D : Type 0} {device : Ghosts D} {s : Plan} {lane : ℕ} {op : Op} {v : ℕ} {w : Write} {done : Result Unit Cause} {m : ℕ} {p q r : ProviderValue D} {x : SessionsValue} {l : List ℕ}
    {e f : List Evicted}
    (h : IsMade device s lane op v w done m p q r x f) (of : IsOf (world_of p x l e) s) where
  pub kept_moves : ((acts : List Act) → Stands device.told (world_of p x l e) s acts
      → LineComes device.told s lane op (told_if done) (tells_of device.told s (devices_of p.groups)) r x l f (state s acts))
      → IsMoved device (world_of p x l e) (world_of r x l f) s (Line lane op) (simple_outcome (told_if done))
  kept_moves comes = line_moves device s lane op (told_if done) p r x l l e f (put_devices 0 Running done h of of.writers (kept_same device r.groups) refl) comes

  pub lost_moves : {n k : ℕ} {y : SessionsValue} {z : ProviderValue D} → AreWithout device r.groups z.groups r.set k → Leaves x y
      → ((acts : List Act) → Stands device.told (world_of p x l e) s acts
      → Comes device.told s (Line lane op) (outcome_as done n (Failed InsufficientStorage)) (tells_of device.told s (devices_of p.groups)) z y l f (state s acts))
      → IsMoved device (world_of p x l e) (world_of z y l f) s (Line lane op) (outcome_as done n (Failed InsufficientStorage))
  lost_moves {n = n} {y = y} {z = z} without leaves comes =
      moved device s (Line lane op) (outcome_as done n (Failed InsufficientStorage)) p z x y l l e f
      (put_devices n (Failed InsufficientStorage) done h of (leaves_of s x y of.writers leaves) without.kept without.devices) (goes_on x y leaves) comes

-- the volume is held, or the writer is frozen: the line waits
pub write_waits : {D : Type 0} {told : D → Option (List (List ℕ))} {s : Plan} {lane : ℕ} {op : Op} {v : ℕ} {w : Write} {b : Bool} {x : WorldValue D} → IsWriting s lane op v w
    → IfStands told x s (λ st. b ≡ may_write s st lane v) → b ≡ false → IsBlocked told x x s (Line lane op)
write_waits {s = s} writes says is = record { same = refl; not_enabled = λ acts stands. writes.on (state s acts) ∙ sym (says acts stands) ∙ is }
