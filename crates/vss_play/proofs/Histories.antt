-- What a history of a run's entries comes to, also of one actor's loop and of a run in threads.
use Rattle.std.proofs.Common.{◌≡◌, ℕ, ◌+◌, List, [], ◌∷◌, ◌++◌, append_assoc, refl, ap, sym, ◌∙◌, inl, inr, subst, arith, Bool, false, cond, zero, suc, ◌<◌}
use Rattle.std.proofs.Common.{length, map, take, Option, Some}
use Rattle.std.proofs.Math.Seq.{take-append_seam}
use Rattle.std.proofs.lemmas.List.{append-nil, length-append, map-append, length-map}
use Rattle.std.proofs.lemmas.List.Elements.{All-append, All-nil, All-cons}
use Rattle.std.proofs.lemmas.List.Sums.{sum_by-append}
use Rattle.std.proofs.lemmas.Option.{slice_get_within}
use Rattle.std.specs.List.{All}
use Rattle.std.specs.Prelude.{Ok, IsErr, Result, Err, MatchResult, IfOk, slice_get, slice_index_or}
use Rattle.vss_names.specs.declared.out_of_memory.OutOfMemory.{OutOfMemory}
use Rattle.turn_cell.specs.History.{Leads, entries_of, Stands}
use Rattle.turn_cell.specs.Steps.{newcomer}
use Rattle.turn_cell.specs.declared.view.Known.{Known}
use Rattle.volume_device.specs.declared.device.Device.{Ghosts}
use Rattle.write_history.specs.declared.actor.Actor.{Actor}
use Rattle.write_history.specs.declared.move_item.Move.{Move}
use Rattle.vss_model.specs.Trail.{is_fault, faults}
use Rattle.provider.specs.Groups.{AreLater}
use Rattle.vss_play.specs.Acting.{Turn, IsBlocked, HasTurns, EndsWith, EndsBlocked, HasLeft, HasWanted, IsLooping, IsPlayedInThreads, IsStep, mover_if, movers}
use Rattle.vss_play.specs.Acting.{IsLedBy, IsLed, HasPlayed, HasActed, actors_in_threads}
use Rattle.vss_play.specs.Played.{Played, AreCounted, IsOnward, IsPlayedOut, IsPlayedInTurn, IsKept}
use Rattle.vss_play.specs.declared.moved.Moved.{Moved}
use Rattle.vss_play.specs.declared.moved.Moved.TheVariants.{Finished, Moved as HasMoved, Blocked}
use Rattle.vss_play.proofs.ClosingLines.{longer_trans, onward_still}
use Rattle.vss_play.proofs.FaultMarks.{later-trans, counted_one, counted_then}

-- ## What the entries of one actor's loop come to.

one_more : {X : Type 0} (P : X → Type 0) (xs : List X) (x : X) → All P xs → P x → All P (xs ++ x ∷ [])
one_more P xs x h p = All-append P xs (x ∷ []) h (All-cons P x [] p (All-nil P))

pub begins : (actor : Actor) (old : List Turn) → IsLooping actor old old 0
begins actor old = grind (arith, append-nil)

grown : (old now new more : List Turn) (e : Turn) → now ≡ old ++ more → new ≡ now ++ e ∷ [] → new ≡ old ++ (more ++ e ∷ [])
grown old now new more e is one = one ∙ ap (λ es. es ++ e ∷ []) is ∙ append_assoc old more (e ∷ [])

pub moved : (actor : Actor) (old now new : List Turn) (e : Turn) (n : ℕ) → IsLooping actor old now n → new ≡ now ++ e ∷ [] → e.call ≡ actor → IsLooping actor old new 0
moved actor old now new e n so_far one call = record {
  more = so_far.more ++ e ∷ [];
  is = grown old now new so_far.more e so_far.is one;
  of = one_more (λ x. x.call ≡ actor) so_far.more e so_far.of call;
  ends = record { before = so_far.more ++ e ∷ []; last = []; is = sym (append-nil (so_far.more ++ e ∷ [])); many = refl; blocked = All-nil _ };
}

more_blocked : (more : List Turn) (e : Turn) (n : ℕ) → EndsBlocked n more → IsBlocked e → EndsBlocked (n + 1) (more ++ e ∷ [])
more_blocked more e n ends b = record {
  before = ends.before;
  last = ends.last ++ e ∷ [];
  is = ap (λ es. es ++ e ∷ []) ends.is ∙ append_assoc ends.before ends.last (e ∷ []);
  many = length-append ends.last (e ∷ []) ∙ ap (λ k. k + 1) ends.many;
  blocked = one_more IsBlocked ends.last e ends.blocked b;
}

pub blocked_once : (actor : Actor) (old now new : List Turn) (e : Turn) (n : ℕ) → IsLooping actor old now n → new ≡ now ++ e ∷ [] → e.call ≡ actor → IsBlocked e → IsLooping actor old new (n + 1)
blocked_once actor old now new e n so_far one call b = record {
  more = so_far.more ++ e ∷ [];
  is = grown old now new so_far.more e so_far.is one;
  of = one_more (λ x. x.call ≡ actor) so_far.more e so_far.of call;
  ends = more_blocked so_far.more e n so_far.ends b;
}

pub turns : (actor : Actor) (old now new : List Turn) (e : Turn) (n : ℕ) → IsLooping actor old now n → new ≡ now ++ e ∷ [] → e.call ≡ actor → HasTurns actor old new
turns actor old now new e n so_far one call = record {
  more = so_far.more ++ e ∷ [];
  is = grown old now new so_far.more e so_far.is one;
  of = one_more (λ x. x.call ≡ actor) so_far.more e so_far.of call;
}

ended : (actor : Actor) (answer : Moved) (old now new : List Turn) (e : Turn) (n : ℕ) → (so_far : IsLooping actor old now n) → new ≡ now ++ e ∷ [] → e.answer ≡ Ok answer → EndsWith answer (so_far.more ++ e ∷ [])
ended actor answer old now new e n so_far one is = record { before = so_far.more; last = e; is = refl; answered = is }

pub left_finished : (actor : Actor) (old now new : List Turn) (e : Turn) (n : ℕ) → IsLooping actor old now n → new ≡ now ++ e ∷ [] → e.answer ≡ Ok Finished → HasLeft old new
left_finished actor old now new e n so_far one is = record {
  more = so_far.more ++ e ∷ [];
  is = grown old now new so_far.more e so_far.is one;
  why = inl (ended actor Finished old now new e n so_far one is);
}

pub left_blocked : (actor : Actor) (old now new : List Turn) (e : Turn) (n : ℕ) → IsLooping actor old now n → new ≡ now ++ e ∷ [] → IsBlocked e → n + 1 ≡ 1000 → HasLeft old new
left_blocked actor old now new e n so_far one b many = record {
  more = so_far.more ++ e ∷ [];
  is = grown old now new so_far.more e so_far.is one;
  why = inr (subst (λ k. EndsBlocked k (so_far.more ++ e ∷ [])) many (more_blocked so_far.more e n so_far.ends b));
}

pub wanted : (actor : Actor) (old now new : List Turn) (e : Turn) (n : ℕ) → IsLooping actor old now n → new ≡ now ++ e ∷ [] → IsErr e.answer → HasWanted old new
wanted actor old now new e n so_far one is = record {
  more = so_far.more ++ e ∷ [];
  is = grown old now new so_far.more e so_far.is one;
  before = so_far.more;
  last = e;
  ends = refl;
  answered = is;
}

-- ## What a history of a run's entries comes to.

-- where none of these moves has a fault mark, the counts are as they were
clean_both : (one two : List Move) (xs ys zs : List ℕ) → (faults one ≡ 0 → ys ≡ xs) → (faults two ≡ 0 → zs ≡ ys) → faults (one ++ two) ≡ 0 → zs ≡ xs
clean_both one two xs ys zs before now e = grind (arith, sum_by-append)

counted_both : (one two : List Move) (xs ys zs : List ℕ) → AreLater ys zs → AreCounted (faults one) xs ys → AreCounted (faults two) ys zs → AreCounted (faults (one ++ two)) xs zs
counted_both one two xs ys zs later before now = grind (arith, sum_by-append, counted_then)

unmarked : (b : Bool) → 0 + cond b 1 0 ≡ 0 → b ≡ false
unmarked b e = grind arith

clean_one : (m : Move) (xs ys : List ℕ) → (is_fault m.mark ≡ false → ys ≡ xs) → faults (m ∷ []) ≡ 0 → ys ≡ xs
clean_one m xs ys now e = now (unmarked (is_fault m.mark) e)

abbrev pub steps_of : {D : Type 0} → Ghosts D → Played D → ℕ → Actor → Moved → Played D → Type 0
steps_of ghosts before caller actor reply after = IsStep ghosts before actor reply after

pub onward_on : {D : Type 0} (ghosts : Ghosts D) (p q r : Played D) → IsOnward ghosts p q → IsOnward ghosts q r → IsOnward ghosts p r
onward_on ghosts p q r one two = record {
  plan = two.plan ∙ one.plan;
  rest = one.rest ++ two.rest;
  trail = two.trail ∙ ap (λ (ms : List Move). ms ++ two.rest) one.trail ∙ append_assoc p.trail one.rest two.rest;
  longer = longer_trans p.lines q.lines r.lines one.longer two.longer;
  tells = two.tells ∙ one.tells;
  later = later-trans (map ghosts.count p.devices) (map ghosts.count q.devices) (map ghosts.count r.devices) one.later two.later;
  clean = clean_both one.rest two.rest (map ghosts.count p.devices) (map ghosts.count q.devices) (map ghosts.count r.devices) one.clean two.clean;
  faults =
      counted_both one.rest two.rest (map ghosts.count p.devices) (map ghosts.count q.devices) (map ghosts.count r.devices) two.later one.faults two.faults;
}

led_on : {D : Type 0} (ghosts : Ghosts D) (p q r : Played D) (xs ys : List Actor) → IsLedBy ghosts p xs q → IsLedBy ghosts q ys r → IsLedBy ghosts p (xs ++ ys) r
unfolding onward_on
led_on ghosts p q r xs ys one two = record {
  onward = onward_on ghosts p q r one.onward two.onward;
  by = map-append (λ (m : Move). m.actor) one.onward.rest two.onward.rest ∙ ap (λ (zs : List Actor). zs ++ map (λ (m : Move). m.actor) two.onward.rest) one.by
      ∙ ap (λ (zs : List Actor). xs ++ zs) two.by;
}

led_none : {D : Type 0} (ghosts : Ghosts D) (p q : Played D) → q ≡ p → IsLedBy ghosts p [] q
led_none {D} ghosts p q same =
    subst (λ (x : Played D). IsLedBy ghosts p [] x) (sym same) (record { onward = onward_still ghosts p; by = refl })

led_one : {D : Type 0} (ghosts : Ghosts D) (p q : Played D) (actor : Actor) (r : Result Moved OutOfMemory)
    → MatchResult r (λ reply. IsStep ghosts p actor reply q) (λ _. q ≡ p) → IsLedBy ghosts p (mover_if actor r) q
led_one ghosts p q actor (Ok HasMoved) h =
    let m : Move = record { actor = actor; mark = h.mark } in
    record {
      onward = record {
        plan = h.plan;
        rest = m ∷ [];
        trail = h.trail;
        longer = record { text = h.own; is = h.lines };
        tells = h.tells;
        later = h.later;
        clean = clean_one m (map ghosts.count p.devices) (map ghosts.count q.devices) h.clean;
        faults = counted_one m (map ghosts.count p.devices) (map ghosts.count q.devices) h.later h.rose;
      };
      by = refl;
    }
led_one ghosts p q actor (Ok Blocked) h = led_none ghosts p q h.0
led_one ghosts p q actor (Ok Finished) h = led_none ghosts p q h.0
led_one ghosts p q actor (Err e) h = led_none ghosts p q h

-- by its entries a run goes on
pub led : {D : Type 0} (ghosts : Ghosts D) (p : Played D) (es : List Turn) (q : Played D) → Leads (steps_of ghosts) p es q → IsLed ghosts p es q
led ghosts p [] q same = led_none ghosts p q (sym same)
led ghosts p (e ∷ es) q h =
    led_on ghosts p h.0 q (mover_if e.call e.answer) (movers es) (led_one ghosts p h.0 e.call e.answer h.1) (led ghosts h.0 es q h.2)

-- a run that went on, and was then played to its end in turn
pub played_after : {D : Type 0} (ghosts : Ghosts D) (p q : Played D) → IsOnward ghosts p q → (r : Result (Played D) OutOfMemory) → IfOk r (IsPlayedInTurn ghosts q) → IfOk r (IsPlayedOut ghosts p)
played_after ghosts p q onward (Ok last) h = record { onward = onward_on ghosts p q last onward h.played.onward; complete = h.played.complete }
played_after ghosts p q onward (Err e) h = h

-- a run in threads goes on to its end
pub played_to_the_end : {D : Type 0} (ghosts : Ghosts D) (p q : Played D) → IsPlayedInThreads ghosts p q → IsPlayedOut ghosts p q
played_to_the_end ghosts p q h = played_after ghosts p h.middle (led ghosts p h.history h.middle h.leads).onward (Ok q) h.in_turn

-- ## What the history of a run in threads has of each actor.

-- what a newcomer made is what its actor played
played_by : (actor : Actor) (i : ℕ) (old new : Known Actor Moved) (history : List Turn) → old ≡ newcomer i → HasActed (Some actor) old new
    → Stands history new → HasPlayed actor (entries_of i history)
played_by actor i old new history first acted stands = grind arith

at_map : {X Y : Type 0} (f : X → Y) (xs : List X) (i : ℕ) (d : X) (e : Y) → i < length xs → slice_index_or (map f xs) i e ≡ f (slice_index_or xs i d)
at_map f [] i d e l = absurd (omega arith)
at_map f (x ∷ xs) zero d e l = refl
at_map f (x ∷ xs) (suc i) d e l = at_map f xs i d e (omega arith)

-- each actor played by its caller
pub all_played : {C : Type 0} (standing : C → Known Actor Moved) (actors : List Actor) (olds news : List C) (history : List Turn) → length news ≡ length olds → length olds ≡ length actors
    → ((i : ℕ) (d : C) → i < length olds → standing (slice_index_or olds i d) ≡ newcomer i)
    → ((i : ℕ) (d : C) → i < length olds → HasActed (slice_get actors i) (standing (slice_index_or olds i d)) (standing (slice_index_or news i d)))
    → All (Stands history) (map standing news) → (i : ℕ) (actor : Actor) → slice_get actors i ≡ Some actor → HasPlayed actor (entries_of i history)
all_played standing actors olds [] history same many new acted stands i actor at = let inside = slice_get_within actors i actor at in absurd (omega arith)
all_played standing actors olds (d ∷ news) history same many new acted stands i actor at =
    let inside = slice_get_within actors i actor at in
    let long = length-map (d ∷ news) standing in
    played_by actor i (standing (slice_index_or olds i d)) (standing (slice_index_or (d ∷ news) i d)) history (new i d (omega arith))
    (subst (λ (o : Option Actor). HasActed o (standing (slice_index_or olds i d)) (standing (slice_index_or (d ∷ news) i d))) at (acted i d (omega arith)))
    (subst (λ k. Stands history k) (at_map standing (d ∷ news) i d (standing d) (omega arith)) (stands i (standing d) (omega arith)))

-- what is written back to the first places of a list
pub all_of : {X Y : Type 0} (f : X → Y) (P : Y → Type 0) (n : ℕ) (xs ys : List X) → length xs ≡ n → All P (map f (take n (xs ++ ys))) → All P (map f xs)
all_of f P n xs ys is h = subst (λ (l : List _). All P (map f l)) (ap (λ k. take k (xs ++ ys)) (sym is) ∙ take-append_seam xs ys) h

-- so the run went on in threads, and then in turn
pub played_in_threads : {D C : Type 0} (ghosts : Ghosts D) (standing : C → Known Actor Moved) (first play middle : Played D) (actors : List Actor)
    (olds news : List C) (history : List Turn) (seats : ℕ)
    → IsKept ghosts.told middle → first ≡ play → actors ≡ actors_in_threads play.plan → seats ≡ length actors → length news ≡ length olds → length olds ≡ length actors
    → Leads (steps_of ghosts) first history middle → All (λ e. e.caller < seats) history
    → ((i : ℕ) (d : C) → i < length olds → standing (slice_index_or olds i d) ≡ newcomer i)
    → ((i : ℕ) (d : C) → i < length olds → HasActed (slice_get actors i) (standing (slice_index_or olds i d)) (standing (slice_index_or news i d)))
    → All (Stands history) (map standing news) → (r : Result (Played D) OutOfMemory) → IfOk r (IsPlayedInTurn ghosts middle) → IfOk r (IsPlayedInThreads ghosts play)
played_in_threads {D} ghosts standing first play middle actors olds news history seats keeps start are seated same many leads numbered new acted stands (Ok last) in_turn = record {
  history = history;
  middle = middle;
  keeps = keeps;
  leads = subst (λ (p : Played D). Leads (steps_of ghosts) p history middle) start leads;
  callers = subst (λ (n : ℕ). All (λ e. e.caller < n) history) (seated ∙ ap length are) numbered;
  each = λ i actor at. all_played standing actors olds news history same many new acted stands i actor (ap (λ (xs : List Actor). slice_get xs i) are ∙ at);
  in_turn = in_turn;
}
played_in_threads ghosts standing first play middle actors olds news history seats keeps start are seated same many leads numbered new acted stands (Err e) in_turn = tt
