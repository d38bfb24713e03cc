-- A move, from what it does to the devices and what it comes to at each state.
use Rattle.std.proofs.Common.{◌≡◌, ℕ, ◌+◌, ◌≤◌, List, [], ◌∷◌, length, refl, sym, ◌∙◌, subst, arith, Bool, true, false, Option, map, Some, ap, None}
use Rattle.vss_world.proofs.Words.{Act, AreGroups, AreKept, Cause, Event, Evicted, Ghosts, GroupValue, HasCause, IsInOrder, IsMoved, IsOf, IsOutcome}
use Rattle.vss_world.proofs.Words.{IsPrepared, Leaves, Outcome, Plan, ProviderValue, RoseFor, SessionsValue, Stands, StandsAt, State, WorldValue, WriterRow}
use Rattle.vss_world.proofs.Words.{after, counts_of, devices_of, enabled, event_allows, is_fault, later_by, later_same, length-append, mark_of, orderly, state}
use Rattle.vss_world.proofs.Words.{state-append, tells_of, told_act, true_not_false, volume_of, Fits, HasLists, History, Line, Mark}
use Rattle.vss_world.proofs.Words.{NumberedFrom, Op, Told, act_of, evicted, happens, line, line_allows, line_enabled, lost, new-is, none_ends, simple_outcome}
use Rattle.vss_world.specs.Words.{IsOf as IsSessionsOf}
use Rattle.provider.proofs.Words.{AreLater}
use Rattle.vss_model.specs.Words.{EndsAs, Reply, Running, ended_of, in_progress, left_now, lost_order_if, order_now, reply}
use Rattle.vss_model.proofs.StateForm.{Replied}
use Rattle.vss_model.proofs.ByEvent.{reply_is}
use Rattle.vss_model.proofs.Changes.{after_enabled}
use Rattle.vss_world.proofs.Prepared.{prepared_same}

-- the core with these parts
abbrev pub world_of : {D : Type 0} → ProviderValue D → SessionsValue → List ℕ → List Evicted → WorldValue D
world_of p x l e = record { devices = devices_of p.groups; listed = l; evicted = e; provider = p; sessions = x }

-- ## what it stands for

-- what the provider prepares at a state, and has of its volumes
abbrev pub IsProviderAt : {D : Type 0} → (D → Option (List (List ℕ))) → Plan → ProviderValue D → State → Type 0
IsProviderAt told s p st = IsPrepared p st × AreGroups told s p.groups st.volumes

pub in_order : (s : Plan) (acts : List Act) → IsInOrder (state s acts)
in_order s acts = let o = orderly s acts in record { numbered = o.numbered; newest = o.newest; session = o.session }

-- ## numbers

pub record Goes (x y : SessionsValue) : Type 0 where
  pub sets : length y.sets ≤ length x.sets + 1
  pub posts : y.coordinator.posts ≤ x.coordinator.posts + 1
  pub clock : y.clock ≤ x.clock + 1000000000

pub goes_nowhere : (x : SessionsValue) → Goes x x
goes_nowhere x = record { sets = omega arith; posts = omega arith; clock = omega arith }

pub goes_on : (x y : SessionsValue) → Leaves x y → Goes x y
goes_on x y leaves = let same = leaves.clock in record { sets = leaves.sets; posts = leaves.posts; clock = omega (arith, same) }

-- time goes by
pub goes_later : (ticks : ℕ) (x y : SessionsValue) → ticks ≤ 1000000000 → Leaves (later_by ticks x) y → Goes x y
goes_later ticks x y few leaves = grind arith

pub later_of : (s : Plan) (ticks : ℕ) (x : SessionsValue) → IsSessionsOf x s → IsSessionsOf (later_by ticks x) s
later_of s ticks x of = record { classes = of.classes; count = of.count }

pub leaves_of : (s : Plan) (x y : SessionsValue) → IsSessionsOf x s → Leaves x y → IsSessionsOf y s
leaves_of s x y of leaves = grind arith

-- ## the devices

pub record OfDevices {D : Type 0} (device : Ghosts D) (s : Plan) (event : Event) (o : Outcome) (old new : WorldValue D) : Type 0 where
  pub is_of : IsOf new s
  pub tells : tells_of device.told s new.devices ≡ tells_of device.told s old.devices
  pub later : AreLater (map device.count old.devices) (map device.count new.devices)
  pub rose : is_fault (mark_of o.told) ≡ true → RoseFor s (volume_of event o.told) (map device.count old.devices) (map device.count new.devices)
  pub unfailed : is_fault (mark_of o.told) ≡ false → map device.count new.devices ≡ map device.count old.devices

pub rose_for : {D : Type 0} (count : D → ℕ) (s : Plan) (v : ℕ) (fault : Cause) (old new : List (GroupValue D)) → HasCause count s v (Some fault) old new
    → RoseFor s (Some v) (counts_of count old) (counts_of count new)
rose_for count s v fault old new cause = grind arith

-- the groups go on to others of the same devices
pub of_kept : {D : Type 0} (device : Ghosts D) (s : Plan) (p q : ProviderValue D) (x y : SessionsValue) (l k : List ℕ) (e f : List Evicted)
    → IsOf (world_of p x l e) s → AreKept device p.groups q.groups → IsSessionsOf y s → IsOf (world_of q y k f) s
of_kept device s p q x y l k e f of kept writers = record { devices = refl; number = kept.number ∙ of.number; groups = kept.has s of.groups; writers = writers }

-- no device failed
pub clean_devices : {D : Type 0} (device : Ghosts D) (s : Plan) (event : Event) (o : Outcome) (p q : ProviderValue D) (x y : SessionsValue) (l k : List ℕ) (e f : List Evicted)
    → IsOf (world_of p x l e) s → AreKept device p.groups q.groups → IsSessionsOf y s → counts_of device.count q.groups ≡ counts_of device.count p.groups → is_fault (mark_of o.told) ≡ false
    → OfDevices device s event o (world_of p x l e) (world_of q y k f)
clean_devices device s event o p q x y l k e f of kept writers same clean = record {
  is_of = of_kept device s p q x y l k e f of kept writers;
  tells = kept.tells s;
  later = later_same (counts_of device.count p.groups) (counts_of device.count q.groups) same;
  rose = λ fault. absurd (true_not_false (is_fault (mark_of o.told)) fault clean);
  unfailed = λ no. same;
}

-- a device of the event's volume failed
pub failed_devices : {D : Type 0} (device : Ghosts D) (s : Plan) (event : Event) (o : Outcome) (p q : ProviderValue D) (x y : SessionsValue) (l k : List ℕ) (e f : List Evicted)
    → IsOf (world_of p x l e) s → AreKept device p.groups q.groups → IsSessionsOf y s → RoseFor s (volume_of event o.told) (counts_of device.count p.groups) (counts_of device.count q.groups)
    → is_fault (mark_of o.told) ≡ true → OfDevices device s event o (world_of p x l e) (world_of q y k f)
failed_devices device s event o p q x y l k e f of kept writers rose fault = record {
  is_of = of_kept device s p q x y l k e f of kept writers;
  tells = kept.tells s;
  later = kept.later;
  rose = λ yes. rose;
  unfailed = λ clean. absurd (true_not_false (is_fault (mark_of o.told)) fault clean);
}

-- ## the move

-- what an event comes to at a state
pub record Comes {D : Type 0} (told : D → Option (List (List ℕ))) (s : Plan) (event : Event) (o : Outcome) (tells : List Bool) (q : ProviderValue D) (y : SessionsValue) (listed_sets : List ℕ)
    (evicted_images : List Evicted) (st : State) : Type 0 where
  pub is_enabled : enabled s st event ≡ true
  pub is_allowed : event_allows s st event (mark_of o.told) ≡ true
  pub outcome : (rows : List WriterRow) → rows ≡ (after s st (told_act event o.told)).course.rows → IsOutcome tells s st event o listed_sets evicted_images rows
  pub parts : StandsAt told q y s (after s st (told_act event o.told))

pub moved : {D : Type 0} (device : Ghosts D) (s : Plan) (event : Event) (o : Outcome) (p q : ProviderValue D) (x y : SessionsValue) (l k : List ℕ)
    (e f : List Evicted)
    → OfDevices device s event o (world_of p x l e) (world_of q y k f) → Goes x y → ((acts : List Act) → Stands device.told (world_of p x l e) s acts
    → Comes device.told s event o (tells_of device.told s (devices_of p.groups)) q y k f (state s acts))
    → IsMoved device (world_of p x l e) (world_of q y k f) s event o
moved device s event o p q x y l k e f devices goes comes = record {
  is_enabled = λ acts stands. (comes acts stands).is_enabled;
  is_allowed = λ acts stands. (comes acts stands).is_allowed;
  outcome = λ acts rows stands are. (comes acts stands).outcome rows are;
  stands_for = λ acts stands.
      let c = comes acts stands in
      let more = state-append s acts (told_act event o.told) in
      let long = length-append acts ((told_act event o.told) ∷ []) in
      let sets = stands.sets in
      let posts = stands.posts in
      let early = stands.early in
      let go_sets = goes.sets in
      let go_posts = goes.posts in
      let go_clock = goes.clock in
      record {
        at = subst (λ (z : State). StandsAt device.told q y s z) (sym more) c.parts;
        sets = omega (arith, long, sets, go_sets);
        posts = omega (arith, long, posts, go_posts);
        early = omega (arith, long, early, go_clock);
      };
  is_of = devices.is_of;
  tells = devices.tells;
  later = devices.later;
  rose = devices.rose;
  unfailed = devices.unfailed;
}

-- ## lines that begin or end nothing: they are answered, and at most the volumes change

pub after_on : (s : Plan) (st : State) (event : Event) (mark : Mark) → enabled s st event ≡ true → after s st (act_of mark event) ≡ (happens s event mark st).1
after_on s st event mark on = after_enabled s st (act_of mark event) on

pub after_line : (s : Plan) (st : State) (lane : ℕ) (op : Op) (mark : Mark) → line_enabled s st lane op ≡ true → after s st (act_of mark (Line lane op)) ≡ (line s lane op mark st).1
after_line s st lane op mark on = after_on s st (Line lane op) mark on

-- what a line comes to that begins and ends nothing
pub record LineComes {D : Type 0} (told : D → Option (List (List ℕ))) (s : Plan) (lane : ℕ) (op : Op) (answer : Told) (tells : List Bool) (q : ProviderValue D) (x : SessionsValue)
    (listed_sets : List ℕ) (evicted_images : List Evicted) (st : State) : Type 0 where
  pub on : line_enabled s st lane op ≡ true
  pub allowed : line_allows s st op (mark_of answer) ≡ true
  pub said : Reply
  pub next : State
  pub is : line s lane op (mark_of answer) st ≡ (said, next)
  pub fits : Fits tells said answer
  pub lists : (rows : List WriterRow) → rows ≡ next.course.rows → HasLists said listed_sets rows
  pub evicts : evicted_images ≡ evicted s st (Line lane op)
  pub nobody : lost st (Line lane op) ≡ []
  pub sets : next.sets ≡ st.sets
  pub parts : StandsAt told q x s next

comes_so : {D : Type 0} (told : D → Option (List (List ℕ))) (s : Plan) (lane : ℕ) (op : Op) (answer : Told) (tells : List Bool) (q : ProviderValue D) (x : SessionsValue) (l : List ℕ)
    (e : List Evicted) (st : State)
    → NumberedFrom 1 st.sets → LineComes told s lane op answer tells q x l e st → Comes told s (Line lane op) (simple_outcome answer) tells q x l e st
comes_so told s lane op answer tells q x l e st numbered c =
    let act = act_of (mark_of answer) (Line lane op) in
    let at : after s st act ≡ c.next = after_line s st lane op (mark_of answer) c.on ∙ ap (λ (z : Replied). z.1) c.is in
    let is : reply s st act ≡ c.said = reply_is s st act ∙ ap (λ (z : Replied). z.0) c.is in
    let none : ended_of (in_progress st) (after s st act).sets ≡ None =
    ap (λ (z : State). ended_of (in_progress st) z.sets) at ∙ ap (ended_of (in_progress st)) c.sets ∙ none_ends st.sets numbered in
    record {
      is_enabled = c.on;
      is_allowed = c.allowed;
      outcome = λ rows are. record {
        fits = subst (λ r. Fits tells r answer) (sym is) c.fits;
        lists = subst (λ r. HasLists r l rows) (sym is) (c.lists rows (are ∙ ap (λ (z : State). z.course.rows) at));
        evicts = c.evicts;
        loses = new-is ∙ sym c.nobody;
        order = sym (ap (λ ws. lost_order_if ws (order_now (left_now st))) c.nobody);
        ends = subst (λ o. EndsAs o 0 Running) (sym none) refl;
      };
      parts = subst (StandsAt told q x s) (sym at) c.parts;
    }

pub line_moves : {D : Type 0} (device : Ghosts D) (s : Plan) (lane : ℕ) (op : Op) (answer : Told) (p q : ProviderValue D) (x : SessionsValue) (l k : List ℕ)
    (e f : List Evicted) → OfDevices device s (Line lane op) (simple_outcome answer) (world_of p x l e) (world_of q x k f)
    → ((acts : List Act) → Stands device.told (world_of p x l e) s acts
    → LineComes device.told s lane op answer (tells_of device.told s (devices_of p.groups)) q x k f (state s acts))
    → IsMoved device (world_of p x l e) (world_of q x k f) s (Line lane op) (simple_outcome answer)
line_moves device s lane op answer p q x l k e f devices comes =
    moved device s (Line lane op) (simple_outcome answer) p q x x l k e f devices (goes_nowhere x)
    (λ acts stands. comes_so device.told s lane op answer (tells_of device.told s (devices_of p.groups)) q x k f (state s acts) (in_order s acts).numbered
    (comes acts stands))

-- ## the parts, where at most the volumes change

pub volumes_parts : {D : Type 0} (told : D → Option (List (List ℕ))) (p q : ProviderValue D) (x : SessionsValue) (s : Plan) (st : State) (hs : List History) → StandsAt told p x s st
    → q ≡ record p { groups = q.groups } → AreGroups told s q.groups hs → StandsAt told q x s (record st { volumes = hs })
volumes_parts told p q x s st hs parts same groups = grind (arith, parts.sessions, parts.plan, (prepared_same p q st same parts.prepared))
